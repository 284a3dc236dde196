-- The rows of clauses: they mean the sheet's clauses, and name their keys and values in the order of first use. Assumes nothing.
use Prim.Native.Nat.{ℕ, zero, suc, ◌+◌, ◌*◌, ◌<◌, ◌≤◌}
use native.Mathlib.Omega.{arith}
use mathlib.Core.Bool.{true}
use mathlib.Core.List.{List, [], ◌∷◌, ◌++◌, map}
use mathlib.Core.Path.{◌≡◌, refl, sym, ap, ◌∙◌}
use borrow.Author.Tests.{le-leb, lt-ltb}
use lib.ListN.{length, get_or, take, drop, length-take, length-drop, length-map}
use lib.Seq.{get_or-take, get_or-drop, take-add}
use Rattle.list.specs.Numbered.{numbered, rows}
use Rattle.list.proofs.Laws.{numbered-map, numbered-same, rows-length, rows_at}
use Rattle.text.specs.Conditions.{every}
use Rattle.text.proofs.Conditions.{◌also◌, none_left, sure}
use Rattle.signal.specs.Signal.{score_limit}
use Rattle.sheet.specs.Sheet.{Clause, clause_limit}
use Rattle.sheet.specs.Places.{clause_numbers, clause_at, ClauseOk}
use Rattle.table_words.specs.Words.{word_ok, key_parts}
use Rattle.table_limits.specs.Fine.{value_ok, fine_clause, clause_weight, clauses_weight}
use Rattle.text.proofs.Every.{every_cons, cons_every, every_append, every_three}
use Rattle.text.proofs.Joined.{total}
use Rattle.table_limits.proofs.Facts.{clause_facts}
use Rattle.table.specs.Table.{clause_ok, key_uses, value_uses, clauses_ok, clause_of}
use Rattle.table.specs.declared.ClauseRow.{ClauseRow}
use Rattle.table_layout.specs.Fits.{ClauseFits, AllAt}
use Rattle.table_layout.proofs.Sized.{all-numbered}
use Rattle.table_parts.specs.Codes.{keys_in, values_in, noted_all, numbers_of, values_noted, codes_of}
use Rattle.table_parts.specs.Draft.{clause_row, clause_rows}
use Rattle.table_parts.proofs.Codes.{Named, number-named, numbers_length, numbers_in_order, Coded, value_coded, codes_length, uses_of, uses_in_order, all_lighter, values_lighter}
use Rattle.table_parts.proofs.Rows.{numbered-take, numbered-every}

-- ---- keys and values of clauses

pub values_length : (cs : List Clause) → length (values_in cs) ≡ 3 * length cs
unfolding values_in
values_length [] = refl
values_length (c ∷ cs) = omega (arith, values_length cs)

key-at : (cs : List Clause) (i : ℕ) (d : Clause) → i < length cs → get_or (keys_in cs) i [] ≡ (get_or cs i d).signal.key
key-at [] i d h = absurd (omega arith)
key-at (c ∷ cs) zero d h = refl
key-at (c ∷ cs) (suc i) d h = key-at cs i d (omega arith)

-- the three values of clause i
record ThreeAt (vs : List (List ℕ)) (i : ℕ) (c : Clause) : Type 0 where
  v1 : get_or vs (3 * i + 0) [] ≡ c.signal.v1
  v2 : get_or vs (3 * i + 1) [] ≡ c.signal.v2
  v3 : get_or vs (3 * i + 2) [] ≡ c.signal.v3

values-at : (cs : List Clause) (i : ℕ) (d : Clause) → i < length cs → ThreeAt (values_in cs) i (get_or cs i d)
unfolding values_in
values-at [] i d h = absurd (omega arith)
values-at (c ∷ cs) zero d h = record { v1 = refl; v2 = refl; v3 = refl }
values-at (c ∷ cs) (suc i) d h =
    let t = values-at cs i d (omega arith) in
    record { v1 = rw (next 0) t.v1; v2 = rw (next 1) t.v2; v3 = rw (next 2) t.v3 }
  where
    next : (j : ℕ) → 3 * suc i + j ≡ suc (suc (suc (3 * i + j)))
    next j = omega arith

-- fine clauses have keys and values that may stand in a table
pub keys-fine : (cs : List Clause) → every fine_clause cs ≡ true → every (word_ok key_parts) (keys_in cs) ≡ true
unfolding every
keys-fine [] e = refl
keys-fine (c ∷ cs) e =
    let p = every_cons fine_clause c cs e in
    cons_every (word_ok key_parts) c.signal.key (keys_in cs) (clause_facts c p.0).key (keys-fine cs p.1)

pub values-fine : (cs : List Clause) → every fine_clause cs ≡ true → every value_ok (values_in cs) ≡ true
unfolding every values_in
values-fine [] e = refl
values-fine (c ∷ cs) e =
    let p = every_cons fine_clause c cs e in
    let f = clause_facts c p.0 in
    every_append value_ok (c.signal.v1 ∷ c.signal.v2 ∷ c.signal.v3 ∷ []) (values_in cs)
    (every_three value_ok c.signal.v1 c.signal.v2 c.signal.v3 f.v1 f.v2 f.v3) (values-fine cs p.1)

-- how many bytes they have together
pub words-weight : (cs : List Clause) → total (keys_in cs) + total (values_in cs) ≡ clauses_weight cs
unfolding values_in total clauses_weight clause_weight
words-weight [] = refl
words-weight (c ∷ cs) = omega (arith, words-weight cs)

-- ---- the codes in rows, three by three

unfoldable codes_in : List ClauseRow → List ℕ
codes_in [] = []
codes_in (c ∷ cs) = c.v1 ∷ c.v2 ∷ c.v3 ∷ codes_in cs

codes_uses : (cs : List ClauseRow) → value_uses cs ≡ uses_of (codes_in cs)
unfolding codes_in value_uses uses_of
codes_uses [] = refl
codes_uses (c ∷ cs) = rw (codes_uses cs)

codes_append : (cs ds : List ClauseRow) → codes_in (cs ++ ds) ≡ codes_in cs ++ codes_in ds
unfolding codes_in
codes_append [] ds = refl
codes_append (c ∷ cs) ds = ap (λ (l : List ℕ). c.v1 ∷ c.v2 ∷ c.v3 ∷ l) (codes_append cs ds)

take_three : (l : List ℕ) → 3 ≤ length l → take 3 l ≡ get_or l 0 0 ∷ get_or l 1 0 ∷ get_or l 2 0 ∷ []
take_three [] h = absurd (omega arith)
take_three (x ∷ []) h = absurd (omega arith)
take_three (x ∷ y ∷ []) h = absurd (omega arith)
take_three (x ∷ y ∷ z ∷ l) h = refl

codes_are : (cs numbers codes : List ℕ) (n : ℕ) → 3 * n ≤ length codes → codes_in (clause_rows cs numbers codes n) ≡ take (3 * n) codes
unfolding codes_in numbered clause_row
codes_are cs numbers codes zero h = refl
codes_are cs numbers codes (suc n) h =
    let e : 3 * suc n ≡ 3 * n + 3 = omega arith in
    let room : 3 ≤ length (drop (3 * n) codes) = omega (arith, length-drop (3 * n) codes) in
    codes_append (clause_rows cs numbers codes n) (clause_row cs numbers codes n ∷ [])
    ∙ rw (codes_are cs numbers codes n (omega arith), ← take_three (drop (3 * n) codes) room, e) (sym (take-add (3 * n) 3 codes))

-- ---- n clauses of a sheet, whose keys have these numbers and whose values have these codes

abbrev clauses_to : List ℕ → List ℕ → ℕ → List Clause
clauses_to s cs n = rows (clause_at s) clause_numbers n cs

abbrev pub keys_to : List ℕ → List ℕ → ℕ → List (List ℕ)
keys_to s cs n = noted_all [] (keys_in (clauses_to s cs n))

abbrev pub values_to : List ℕ → List ℕ → ℕ → List (List ℕ)
values_to s cs n = values_noted [] (values_in (clauses_to s cs n))

pub record Coding (s cs numbers codes : List ℕ) (n : ℕ) : Type 0 where
  pub few : n ≤ clause_limit
  pub clauses : (i : ℕ) → i < n → ClauseOk s (drop (clause_numbers * i) cs)
  pub numbers_are : take n numbers ≡ numbers_of [] (keys_in (clauses_to s cs n))
  pub codes_are : take (3 * n) codes ≡ codes_of [] (values_in (clauses_to s cs n))

module _ {s cs numbers codes : List ℕ} {n : ℕ} (d : Coding s cs numbers codes n) where
  many-keys : length (keys_in (clauses_to s cs n)) ≡ n
  many-keys = length-map (clauses_to s cs n) (λ c. c.signal.key) ∙ rows-length (clause_at s) clause_numbers n cs

  many-values : length (values_in (clauses_to s cs n)) ≡ 3 * n
  many-values = values_length (clauses_to s cs n) ∙ ap (λ (k : ℕ). 3 * k) (rows-length (clause_at s) clause_numbers n cs)

  pub few-keys : length (keys_to s cs n) ≤ clause_limit
  few-keys = omega (arith, (all_lighter [] (keys_in (clauses_to s cs n))).count, many-keys, d.few)

  pub few-values : length (values_to s cs n) ≤ 3 * clause_limit
  few-values = omega (arith, (values_lighter (values_in (clauses_to s cs n))).count, many-values, d.few)

  -- ---- clause i

  abbrev clause : ℕ → Clause
  clause i = clause_at s (drop (clause_numbers * i) cs)

  module _ (i : ℕ) (h : i < n) where
    within : i < length (clauses_to s cs n)
    within = omega (arith, rows-length (clause_at s) clause_numbers n cs)

    clause-is : get_or (clauses_to s cs n) i (clause i) ≡ clause i
    clause-is = rows_at (clause_at s) clause_numbers n cs i (clause i) h

    word-is : get_or (keys_in (clauses_to s cs n)) i [] ≡ (clause i).signal.key
    word-is = key-at (clauses_to s cs n) i (clause i) within ∙ ap (λ (c : Clause). c.signal.key) clause-is

    number_is : get_or (numbers_of [] (keys_in (clauses_to s cs n))) i 0 ≡ get_or numbers i 0
    number_is = ap (λ (l : List ℕ). get_or l i 0) (sym d.numbers_are) ∙ get_or-take n numbers i 0 h

    named : Named (clause i).signal.key (get_or numbers i 0) (keys_to s cs n)
    named = rw (word-is, number_is) at (number-named [] (keys_in (clauses_to s cs n)) i (omega (arith, many-keys)))

    code_is : (j : ℕ) → j < 3 → get_or (codes_of [] (values_in (clauses_to s cs n))) (3 * i + j) 0 ≡ get_or (drop (3 * i) codes) j 0
    code_is j k =
        ap (λ (l : List ℕ). get_or l (3 * i + j) 0) (sym d.codes_are)
        ∙ get_or-take (3 * n) codes (3 * i + j) 0 (omega arith) ∙ sym (get_or-drop (3 * i) codes j 0)

    coded : (j : ℕ) → j < 3 → Coded (get_or (values_in (clauses_to s cs n)) (3 * i + j) []) (get_or (drop (3 * i) codes) j 0) (values_to s cs n)
    coded j k = rw (code_is j k) at (value_coded [] (values_in (clauses_to s cs n)) (omega (arith, few-values)) (3 * i + j) (omega (arith, many-values)))

    three : ThreeAt (values_in (clauses_to s cs n)) i (clause i)
    three = rw clause-is at (values-at (clauses_to s cs n) i (clause i) within)

    clause_back : clause_of (keys_to s cs n) (values_to s cs n) (clause_row cs numbers codes i) ≡ clause i
    unfolding clause_of clause_row clause_at
    clause_back =
        let v1 = (coded 0 (omega arith)).is ∙ three.v1 in
        let v2 = (coded 1 (omega arith)).is ∙ three.v2 in
        let v3 = (coded 2 (omega arith)).is ∙ three.v3 in
        rw (named.is, v1, v2, v3)

    clause-fine : clause_ok (length (keys_to s cs n)) (length (values_to s cs n)) (clause_row cs numbers codes i) ≡ true
    unfolding clause_ok clause_row
    clause-fine =
        let c = d.clauses i h in
        let l = drop (clause_numbers * i) cs in
        sure
        (le-leb (get_or l 0 0) 2 c.kind
        also lt-ltb (get_or numbers i 0) (length (keys_to s cs n)) named.below
        also (coded 0 (omega arith)).ok
        also (coded 1 (omega arith)).ok
        also (coded 2 (omega arith)).ok
        also le-leb (get_or l 8 0) score_limit c.signal.low
        also none_left)

    clause_fits : ClauseFits (clause_row cs numbers codes i)
    unfolding clause_row
    clause_fits =
        let c = d.clauses i h in
        record {
          kind = omega (arith, c.kind);
          key = omega (arith, named.below, few-keys);
          v1 = omega (arith, (coded 0 (omega arith)).small);
          v2 = omega (arith, (coded 1 (omega arith)).small);
          v3 = omega (arith, (coded 2 (omega arith)).small);
          score = omega (arith, c.signal.low);
        }

  -- ---- all of them

  pub clauses_mean : map (clause_of (keys_to s cs n) (values_to s cs n)) (clause_rows cs numbers codes n) ≡ clauses_to s cs n
  unfolding rows
  clauses_mean =
      numbered-map (clause_of (keys_to s cs n) (values_to s cs n)) (clause_row cs numbers codes) n
      ∙ numbered-same (λ i. clause_of (keys_to s cs n) (values_to s cs n) (clause_row cs numbers codes i)) clause n clause_back

  key_uses_lem : key_uses (clause_rows cs numbers codes n) ≡ numbers_of [] (keys_in (clauses_to s cs n))
  unfolding clause_row
  key_uses_lem = numbered-map (λ c. c.key) (clause_row cs numbers codes) n ∙ numbered-take numbers n room ∙ d.numbers_are
    where
      room : n ≤ length numbers
      room = omega (arith, length-take n numbers, ap length d.numbers_are, numbers_length [] (keys_in (clauses_to s cs n)), many-keys)

  value_uses_lem : value_uses (clause_rows cs numbers codes n) ≡ uses_of (codes_of [] (values_in (clauses_to s cs n)))
  value_uses_lem = codes_uses (clause_rows cs numbers codes n) ∙ ap uses_of (codes_are cs numbers codes n room ∙ d.codes_are)
    where
      room : 3 * n ≤ length codes
      room = omega (arith, length-take (3 * n) codes, ap length d.codes_are, codes_length [] (values_in (clauses_to s cs n)), many-values)

  pub clauses-ok : clauses_ok (length (keys_to s cs n)) (length (values_to s cs n)) (clause_rows cs numbers codes n) ≡ true
  unfolding clauses_ok
  clauses-ok =
      sure
      (numbered-every (clause_ok (length (keys_to s cs n)) (length (values_to s cs n))) (clause_row cs numbers codes) n clause-fine
      also rw key_uses_lem (numbers_in_order [] (keys_in (clauses_to s cs n)))
      also rw value_uses_lem (uses_in_order (values_in (clauses_to s cs n)) (omega (arith, few-values)))
      also none_left)

  pub clauses-fit : AllAt ClauseFits (clause_rows cs numbers codes n)
  clauses-fit = all-numbered ClauseFits (clause_row cs numbers codes) n clause_fits
