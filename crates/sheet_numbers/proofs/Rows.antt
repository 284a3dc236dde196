-- Rows of numbers: what they mean depends on their own numbers alone, and a row more is an element more. Assumes nothing.
use Prim.Native.Nat.{ℕ, suc, ◌+◌, ◌*◌, ◌<◌, ◌≤◌}
use native.Mathlib.Omega.{arith}
use mathlib.Core.Path.{◌≡◌, ◌∙◌, sym, ap}
use mathlib.Core.List.{List, [], ◌∷◌, ◌++◌}
use lib.ListN.{length, get_or, take, drop}
use lib.Seq.{get_or-take}
use Rattle.list.specs.Numbered.{numbered, rows}
use Rattle.list.proofs.Laws.{numbered-same}
use Rattle.le.specs.Le.{part, patch}
use Rattle.le.proofs.Laws.{part_same, part-before}
use Rattle.sheet.specs.Sheet.{Clause}
use Rattle.sheet.specs.Places.{clause_at, ClauseOk, event_at, EventOk}

-- ---- rows that agree

pub number_same : (w j : ℕ) (l m : List ℕ) → take w l ≡ take w m → j < w → get_or l j 0 ≡ get_or m j 0
number_same w j l m e h = sym (get_or-take w l j 0 h) ∙ ap (λ (x : List ℕ). get_or x j 0) e ∙ get_or-take w m j 0 h

-- an event's numbers but the last, the count of its clauses
module _ (l m : List ℕ) (e : take 5 l ≡ take 5 m) where
  e0 : get_or l 0 0 ≡ get_or m 0 0
  e0 = number_same 5 0 l m e (omega arith)

  e1 : get_or l 1 0 ≡ get_or m 1 0
  e1 = number_same 5 1 l m e (omega arith)

  e2 : get_or l 2 0 ≡ get_or m 2 0
  e2 = number_same 5 2 l m e (omega arith)

  e3 : get_or l 3 0 ≡ get_or m 3 0
  e3 = number_same 5 3 l m e (omega arith)

  e4 : get_or l 4 0 ≡ get_or m 4 0
  e4 = number_same 5 4 l m e (omega arith)

  pub event_same : (s : List ℕ) (cs : List Clause) → get_or l 5 0 ≡ get_or m 5 0 → event_at s cs l ≡ event_at s cs m
  unfolding event_at
  event_same s cs e5 = rw (e0, e1, e2, e3, e4, e5)

  pub event_ok-same : {s : List ℕ} {n : ℕ} → EventOk s n l → EventOk s n m
  event_ok-same k = record {
    lots = rw e0 at k.lots;
    single = rw e0 at k.single;
    operate = omega (arith, e1);
    name = omega (arith, e2, e3);
    brief = omega (arith, e3);
    clauses = omega (arith, e4);
  }

module _ (l m : List ℕ) (e : take 9 l ≡ take 9 m) where
  c0 : get_or l 0 0 ≡ get_or m 0 0
  c0 = number_same 9 0 l m e (omega arith)

  c1 : get_or l 1 0 ≡ get_or m 1 0
  c1 = number_same 9 1 l m e (omega arith)

  c2 : get_or l 2 0 ≡ get_or m 2 0
  c2 = number_same 9 2 l m e (omega arith)

  c3 : get_or l 3 0 ≡ get_or m 3 0
  c3 = number_same 9 3 l m e (omega arith)

  c4 : get_or l 4 0 ≡ get_or m 4 0
  c4 = number_same 9 4 l m e (omega arith)

  c5 : get_or l 5 0 ≡ get_or m 5 0
  c5 = number_same 9 5 l m e (omega arith)

  c6 : get_or l 6 0 ≡ get_or m 6 0
  c6 = number_same 9 6 l m e (omega arith)

  c7 : get_or l 7 0 ≡ get_or m 7 0
  c7 = number_same 9 7 l m e (omega arith)

  c8 : get_or l 8 0 ≡ get_or m 8 0
  c8 = number_same 9 8 l m e (omega arith)

  pub clause-same : (s : List ℕ) → clause_at s l ≡ clause_at s m
  unfolding clause_at
  clause-same s = rw (c0, c1, c2, c3, c4, c5, c6, c7, c8)

  pub clause_ok-same : {s : List ℕ} → ClauseOk s l → ClauseOk s m
  clause_ok-same k = record { kind = omega (arith, c0); within = omega (arith, c1); signal = rw (c1, c2, c3, c4, c5, c6, c7, c8) at k.signal }

-- ---- one row more

-- the rows in front of the last agree
pub rows_snoc : {X : Type 0} (f g : List ℕ → X) (w n : ℕ) (l m : List ℕ) → ((i : ℕ) → i < n → g (drop (w * i) m) ≡ f (drop (w * i) l))
    → rows g w (suc n) m ≡ rows f w n l ++ g (drop (w * n) m) ∷ []
unfolding rows numbered
rows_snoc f g w n l m h = ap (λ xs. xs ++ g (drop (w * n) m) ∷ []) (numbered-same (λ i. g (drop (w * i) m)) (λ i. f (drop (w * i) l)) n h)

-- ---- rows after a write

module _ (l : List ℕ) (at : ℕ) (bs : List ℕ) (fits : at + length bs ≤ length l) where
  pub row_before : (a n : ℕ) → a + n ≤ at → take n (drop a (patch l at bs)) ≡ take n (drop a l)
  unfolding part
  row_before a n h = part-before l at bs fits a n h

  pub row_here : take (length bs) (drop at (patch l at bs)) ≡ bs
  unfolding part
  row_here = part_same l at bs fits
