-- The keys and values of clauses by their numbers: how many, which, where they stand. Assumes nothing.
use Prim.Native.Nat.{ℕ, zero, suc, ◌+◌, ◌-◌, ◌*◌, ◌/◌, ◌%◌, ◌<◌, ◌≤◌}
use native.Mathlib.Omega.{arith}
use mathlib.Core.Path.{◌≡◌, refl, sym, ap, ◌∙◌}
use mathlib.Core.List.{List, [], ◌∷◌}
use lib.ListN.{length, get_or, take, drop, length-drop, length-map}
use lib.Seq.{slice, take_all, drop-drop, get_or-drop}
use Rattle.list.specs.Numbered.{rows}
use Rattle.list.proofs.Laws.{rows-length, rows_at, numbered-map, numbered-at}
use Rattle.text.specs.Read.{Part, Put}
use Rattle.text.proofs.Laws.{part-size}
use Rattle.signal.specs.Read.{signal_in, SignalOk, KeyAt}
use Rattle.signal.specs.declared.SignalAt.{SignalAt}
use Rattle.sheet.specs.Sheet.{Clause}
use Rattle.sheet.specs.Places.{clause_numbers, signal_at, clause_at, ClauseOk}
use Rattle.table_parts.specs.Codes.{keys_in, values_in}
use Rattle.table_parts.proofs.Clauses.{values_length}
use Rattle.table_codes.specs.Read.{clause_in, clauses_in, value_in, RowOk, RowsOk}

-- ---- values by number

-- value t of clause i
three_at : (cs : List Clause) (i t : ℕ) (d : Clause) → i < length cs → t < 3 → get_or (values_in cs) (3 * i + t) [] ≡ get_or (values_in (get_or cs i d ∷ [])) t []
unfolding values_in
three_at [] i t d h k = absurd (omega arith)
three_at (c ∷ cs) zero zero d h k = refl
three_at (c ∷ cs) zero (suc zero) d h k = refl
three_at (c ∷ cs) zero (suc (suc zero)) d h k = refl
three_at (c ∷ cs) zero (suc (suc (suc t))) d h k = absurd (omega arith)
three_at (c ∷ cs) (suc i) t d h k =
    let e : 3 * suc i + t ≡ suc (suc (suc (3 * i + t))) = omega arith in
    rw e (three_at cs i t d (omega arith) k)

module _ (s cs : List ℕ) (m : ℕ) where
  pub keys-count : length (keys_in (clauses_in s cs m)) ≡ m
  keys-count = length-map (clauses_in s cs m) (λ c. c.signal.key) ∙ rows-length (clause_at s) clause_numbers m cs

  pub values-count : length (values_in (clauses_in s cs m)) ≡ 3 * m
  values-count = values_length (clauses_in s cs m) ∙ ap (λ (k : ℕ). 3 * k) (rows-length (clause_at s) clause_numbers m cs)

  pub key-at : (i : ℕ) → i < m → get_or (keys_in (clauses_in s cs m)) i [] ≡ (clause_in s cs i).signal.key
  unfolding rows
  key-at i h =
      ap (λ (l : List (List ℕ)). get_or l i []) (numbered-map (λ c. c.signal.key) (clause_in s cs) m)
      ∙ numbered-at (λ i. (clause_in s cs i).signal.key) m i [] h

  pub value-at : (j : ℕ) → j < 3 * m → get_or (values_in (clauses_in s cs m)) j [] ≡ value_in s cs j
  value-at j h =
      let e : j ≡ 3 * (j / 3) + j % 3 = omega arith in
      ap (λ (k : ℕ). get_or (values_in (clauses_in s cs m)) k []) e
      ∙ three_at (clauses_in s cs m) (j / 3) (j % 3) (clause_in s cs (j / 3)) (omega (arith, rows-length (clause_at s) clause_numbers m cs)) (omega arith)
      ∙ ap (λ (c : Clause). get_or (values_in (c ∷ [])) (j % 3) []) (rows_at (clause_at s) clause_numbers m cs (j / 3) (clause_in s cs (j / 3)) (omega arith))

pub row_ok : {s cs : List ℕ} {m : ℕ} → RowsOk s cs m → (i : ℕ) → i < m → RowOk s cs i
row_ok r i h = record { row = omega (arith, r.rows); clause = r.clauses i h }

-- ---- the key of clause i

pub signal-is : (cs : List ℕ) (at : ℕ)
    → ◌≡◌ {A = SignalAt}
    (record {
      k1 = get_or cs (at + 2) 0;
      k2 = get_or cs (at + 3) 0;
      k3 = get_or cs (at + 4) 0;
      v1 = get_or cs (at + 5) 0;
      v2 = get_or cs (at + 6) 0;
      v3 = get_or cs (at + 7) 0;
      score = get_or cs (at + 8) 0;
    })
    (signal_at (drop at cs))
signal-is cs at = simp get_or-drop

module _ (s cs : List ℕ) (i : ℕ) (r : RowOk s cs i) where
  abbrev start : ℕ
  start = get_or cs (clause_numbers * i + 1) 0

  start_is : get_or (drop (clause_numbers * i) cs) 1 0 ≡ start
  start_is = get_or-drop (clause_numbers * i) cs 1 0

  pub key-start : start ≤ length s
  key-start = rw start_is at r.clause.within

  rest-is : take (length s - start) (drop start s) ≡ drop (get_or (drop (clause_numbers * i) cs) 1 0) s
  rest-is = take_all (length s - start) (drop start s) (omega (arith, length-drop start s)) ∙ ap (λ (k : ℕ). drop k s) (sym start_is)

  module _ {a : SignalAt} (e : a ≡ signal_at (drop (clause_numbers * i) cs)) where
    pub key-signal : SignalOk (take (length s - start) (drop start s)) a
    key-signal = rw (rest-is, e) r.clause.signal

    pub key-is : (signal_in (take (length s - start) (drop start s)) a).key ≡ (clause_in s cs i).signal.key
    unfolding clause_at
    key-is = rw (rest-is, e)

    pub key-put : {l m : List ℕ} {at to : ℕ} → KeyAt l m at (take (length s - start) (drop start s)) a to → Put l m at (clause_in s cs i).signal.key to
    unfolding clause_at
    key-put k = rw (rest-is, e) at k.put

-- ---- where a value stands

slice-behind : (f a b : ℕ) (l : List ℕ) → slice a b (drop f l) ≡ slice (f + a) (f + b) l
slice-behind f a b l =
    let e : f + b - f ≡ b = omega arith in
    ap (drop a) (rw e at (part-size f (f + b) l (omega arith))) ∙ drop-drop a f (take (f + b) l)

-- value j stands in a..b of s
pub record Stands (s cs : List ℕ) (j a b : ℕ) : Type 0 where
  pub part : Part s a b
  pub is : slice a b s ≡ value_in s cs j

-- between the places 4 + t and 5 + t of a clause
place-order : {s l : List ℕ} → ClauseOk s l → (t : ℕ) → t < 3 → (get_or l (4 + t) 0 < get_or l (5 + t) 0) × (get_or l (5 + t) 0 < length (drop (get_or l 1 0) s))
place-order c zero h = (c.signal.k3-v1, omega (arith, c.signal.v1-v2, c.signal.v2-v3, c.signal.within))
place-order c (suc zero) h = (c.signal.v1-v2, omega (arith, c.signal.v2-v3, c.signal.within))
place-order c (suc (suc zero)) h = (c.signal.v2-v3, c.signal.within)
place-order c (suc (suc (suc t))) h = absurd (omega arith)

place-value : (s l : List ℕ) (t : ℕ) → t < 3 → slice (get_or l (4 + t) 0 + 1) (get_or l (5 + t) 0) (drop (get_or l 1 0) s) ≡ get_or (values_in (clause_at s l ∷ [])) t []
unfolding values_in clause_at
place-value s l zero h = refl
place-value s l (suc zero) h = refl
place-value s l (suc (suc zero)) h = refl
place-value s l (suc (suc (suc t))) h = absurd (omega arith)

module _ (s cs : List ℕ) (j : ℕ) where
  abbrev at : ℕ
  at = clause_numbers * (j / 3)

  abbrev before : ℕ
  before = at + 4 + j % 3

  from_is : get_or (drop at cs) 1 0 ≡ get_or cs (at + 1) 0
  from_is = get_or-drop at cs 1 0

  before-is : get_or (drop at cs) (4 + j % 3) 0 ≡ get_or cs before 0
  before-is =
      let e : at + (4 + j % 3) ≡ at + 4 + j % 3 = omega arith in
      get_or-drop at cs (4 + j % 3) 0 ∙ ap (λ (k : ℕ). get_or cs k 0) e

  behind-is : get_or (drop at cs) (5 + j % 3) 0 ≡ get_or cs (before + 1) 0
  behind-is =
      let e : at + (5 + j % 3) ≡ at + 4 + j % 3 + 1 = omega arith in
      get_or-drop at cs (5 + j % 3) 0 ∙ ap (λ (k : ℕ). get_or cs k 0) e

  pub value_stands : RowOk s cs (j / 3) → Stands s cs j (get_or cs (at + 1) 0 + get_or cs before 0 + 1) (get_or cs (at + 1) 0 + get_or cs (before + 1) 0)
  value_stands r =
      let t = place-order r.clause (j % 3) (omega arith) in
      record {
        part = record {
          order = omega (arith, t.0, before-is, behind-is);
          within = omega (arith, t.1, from_is, behind-is, length-drop (get_or (drop at cs) 1 0) s, r.clause.within);
        };
        is = is;
      }
    where
      is : slice (get_or cs (at + 1) 0 + get_or cs before 0 + 1) (get_or cs (at + 1) 0 + get_or cs (before + 1) 0) s ≡ value_in s cs j
      is =
          let e : get_or cs (at + 1) 0 + get_or cs before 0 + 1 ≡ get_or cs (at + 1) 0 + (get_or cs before 0 + 1) = omega arith in
          rw (e, ← slice-behind (get_or cs (at + 1) 0) (get_or cs before 0 + 1) (get_or cs (before + 1) 0) s, ← from_is, ← before-is, ← behind-is)
          (place-value s (drop at cs) (j % 3) (omega arith))
