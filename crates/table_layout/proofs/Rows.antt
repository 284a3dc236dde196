-- Rows that are written one after another: how long they are, and that they are read back. Assumes nothing.
use Prim.Native.Nat.{ℕ, zero, suc, ◌+◌, ◌*◌, ◌<◌}
use native.Mathlib.Nat.{mul-zero, mul-suc, add_comm}
use native.Mathlib.Omega.{arith}
use mathlib.Core.List.{List, [], ◌∷◌, ◌++◌, flat_map, append_assoc, append-nil}
use mathlib.Core.Path.{◌≡◌, refl, sym, ap, ◌∙◌}
use lib.ListN.{length, get_or, drop, length-append}
use lib.Seq.{drop-append-add, ext_get_or}
use Rattle.le.specs.Le.{part, le_bytes}
use Rattle.le.proofs.Laws.{le_nat-le_bytes}
use Rattle.list.specs.Numbered.{numbered, rows}
use Rattle.list.proofs.Laws.{rows-length, rows_at}
use Rattle.table.specs.Layout.{event_length, clause_length, word_length, event_in, clause_in, word_in}
use Rattle.table.specs.declared.EventRow.{EventRow}
use Rattle.table.specs.declared.ClauseRow.{ClauseRow}
use Rattle.table.specs.declared.WordRow.{WordRow}
use Rattle.table_layout.specs.Build.{event_bytes, clause_bytes, word_bytes, row_bytes}
use Rattle.table_layout.specs.Fits.{EventFits, ClauseFits, WordFits, AllAt}

-- ---- one row

pub event_length_lem : (e : EventRow) → length (event_bytes e) ≡ event_length
unfolding event_bytes le_bytes
event_length_lem e = refl

pub clause-length : (c : ClauseRow) → length (clause_bytes c) ≡ clause_length
unfolding clause_bytes le_bytes
clause-length c = refl

pub word-length : (w : WordRow) → length (word_bytes w) ≡ word_length
unfolding word_bytes le_bytes
word-length w = refl

pub event_back : (e : EventRow) (rest : List ℕ) → EventFits e → event_in (event_bytes e ++ rest) ≡ e
unfolding event_in event_bytes part le_bytes
event_back e rest f =
    λ i. record {
      kind = le_nat-le_bytes 2 e.kind f.kind i;
      operate = le_nat-le_bytes 2 e.operate f.operate i;
      at = le_nat-le_bytes 2 e.at f.at i;
      len = le_nat-le_bytes 2 e.len f.len i;
      first = le_nat-le_bytes 2 e.first f.first i;
      count = le_nat-le_bytes 2 e.count f.count i;
    }

pub clause_back : (c : ClauseRow) (rest : List ℕ) → ClauseFits c → clause_in (clause_bytes c ++ rest) ≡ c
unfolding clause_in clause_bytes part le_bytes
clause_back c rest f =
    λ i. record {
      kind = le_nat-le_bytes 2 c.kind f.kind i;
      key = le_nat-le_bytes 2 c.key f.key i;
      v1 = le_nat-le_bytes 2 c.v1 f.v1 i;
      v2 = le_nat-le_bytes 2 c.v2 f.v2 i;
      v3 = le_nat-le_bytes 2 c.v3 f.v3 i;
      score = le_nat-le_bytes 2 c.score f.score i;
    }

pub word_back : (w : WordRow) (rest : List ℕ) → WordFits w → word_in (word_bytes w ++ rest) ≡ w
unfolding word_in word_bytes part le_bytes
word_back w rest f =
    λ i. record {
      at = le_nat-le_bytes 2 w.at f.at i;
      len = le_nat-le_bytes 2 w.len f.len i;
      rank = le_nat-le_bytes 2 w.rank f.rank i;
      order = le_nat-le_bytes 2 w.order f.order i;
    }

-- ---- rows behind rows

module _ {X : Type 0} (enc : X → List ℕ) where
  pub row_bytes-append : (xs ys : List X) → row_bytes enc (xs ++ ys) ≡ row_bytes enc xs ++ row_bytes enc ys
  unfolding flat_map
  row_bytes-append [] ys = refl
  row_bytes-append (x ∷ xs) ys = ap (λ (l : List ℕ). enc x ++ l) (row_bytes-append xs ys) ∙ sym (append_assoc (enc x) (row_bytes enc xs) (row_bytes enc ys))

  -- one more
  pub row_bytes-last : (xs : List X) (x : X) → row_bytes enc (xs ++ x ∷ []) ≡ row_bytes enc xs ++ enc x
  unfolding flat_map
  row_bytes-last xs x = row_bytes-append xs (x ∷ []) ∙ ap (λ (l : List ℕ). row_bytes enc xs ++ l) (append-nil (enc x))

  -- one more by numbers
  pub row_bytes-next : (f : ℕ → X) (n : ℕ) → row_bytes enc (numbered f (suc n)) ≡ row_bytes enc (numbered f n) ++ enc (f n)
  unfolding numbered
  row_bytes-next f n = row_bytes-last (numbered f n) (f n)

  module _ (w : ℕ) (long : (x : X) → length (enc x) ≡ w) where
    pub row_bytes-length : (xs : List X) → length (row_bytes enc xs) ≡ w * length xs
    unfolding flat_map
    row_bytes-length [] = sym (mul-zero w)
    row_bytes-length (x ∷ xs) =
        length-append (enc x) (row_bytes enc xs) ∙ rw (long x, row_bytes-length xs, mul-suc w (length xs)) (add_comm w (w * length xs))

    -- from row i on
    row_bytes-drop : (xs : List X) (i : ℕ) (d : X) → i < length xs → drop (w * i) (row_bytes enc xs) ≡ enc (get_or xs i d) ++ row_bytes enc (drop (suc i) xs)
    unfolding flat_map
    row_bytes-drop [] i d h = absurd (omega arith)
    row_bytes-drop (x ∷ xs) zero d h = rw (mul-zero w)
    row_bytes-drop (x ∷ xs) (suc i) d h =
        ap (λ (k : ℕ). drop k (enc x ++ row_bytes enc xs)) place ∙ drop-append-add (enc x) (row_bytes enc xs) (w * i) ∙ row_bytes-drop xs i d (omega arith)
      where
        place : w * suc i ≡ length (enc x) + w * i
        place = mul-suc w i ∙ add_comm (w * i) w ∙ rw (long x)

    -- what each row is read back as, all of them are
    pub rows_back : (dec : List ℕ → X) (Fits : X → Type 0) → ((x : X) (rest : List ℕ) → Fits x → dec (enc x ++ rest) ≡ x)
        → (xs : List X) → AllAt Fits xs → rows dec w (length xs) (row_bytes enc xs) ≡ xs
    unfolding rows numbered
    rows_back dec Fits back [] f = refl
    rows_back dec Fits back (x ∷ xs) f =
        let n = length (x ∷ xs) in
        let bytes = row_bytes enc (x ∷ xs) in
        let many = rows-length dec w n bytes in
        ext_get_or x (rows dec w n bytes) (x ∷ xs) many
        (λ i h. let k : i < n = omega (arith, many, h) in
        rows_at dec w n bytes i x k ∙ ap dec (row_bytes-drop (x ∷ xs) i x k) ∙ back (get_or (x ∷ xs) i x) (row_bytes enc (drop (suc i) (x ∷ xs))) (f i x k))
