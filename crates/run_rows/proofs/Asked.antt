-- The rows of a book of the plain machine: what a request for one answers, how many there are, and that their doubles are numbers.
-- Assumes nothing.
use Prim.Native.Nat.{ℕ, zero, suc, ◌≤◌}
use native.Mathlib.Omega.{arith}
use mathlib.Core.Bool.{Bool, true, false, cond}
use mathlib.Core.List.{List, [], ◌∷◌}
use Rattle.std.specs.Prelude.{Some, slice_get}
use mathlib.Core.Path.{◌≡◌, sym, ap, subst, ◌∙◌}
use mathlib.Mathlib.Data.List.Defs.{Forall}
use mathlib.Mathlib.Data.List.Basic.{Forall-cons}
use lib.IntN.{ℤ}
use lib.ListN.{length, length-map}
use Rattle.text.specs.Answer.{given}
use Rattle.sheet.specs.Sheet.{Sheet}
use Rattle.table.proofs.Facts.{read_is}
use Rattle.position.specs.State.{State}
use Rattle.position.specs.Rows.{Pair, opens, pair_of, pairs_of, hold_rows}
use Rattle.position.specs.Run.{run_bars}
use Rattle.position.specs.declared.Record.{Record}
use Rattle.position.specs.declared.Hold.{Hold}
use Rattle.position.specs.declared.HoldRow.{HoldRow}
use Rattle.book.specs.Layout.{records_of, holds_of}
use Rattle.book.proofs.Ready.{holds_kept, records-kept}
use Rattle.row.specs.Calls.{row_buffer, row_at, pair_do, hold_do}
use Rattle.history.specs.Demand3.{PairNumbers, HoldNumbers}
use Rattle.history.proofs.Numbers.{pairs_numbers, holds_numbers}
use Rattle.history.proofs.Kept.{pair_is, hold_is}
use Rattle.run_rows.specs.Rows.{Booked, pair_rows}

-- ---- lists of rows

pairs_few : (s : Sheet) (rs : List Record) → length (pairs_of s rs) ≤ length rs
unfolding pairs_of
pairs_few s [] = omega arith
pairs_few s (a ∷ []) = omega arith
pairs_few s (a ∷ b ∷ rs) = go (opens a) (pairs_few s (b ∷ rs))
  where
    go : (t : Bool) → length (pairs_of s (b ∷ rs)) ≤ length (b ∷ rs) → length (cond t (pair_of s a b ∷ pairs_of s (b ∷ rs)) (pairs_of s (b ∷ rs))) ≤ length (a ∷ b ∷ rs)
    go true h = omega arith
    go false h = omega arith

forall_at : {X : Type 0} (P : X → Type 0) (xs : List X) → Forall P xs → (i : ℕ) (x : X) → slice_get xs i ≡ Some x → P x
forall_at P [] h i x e = absurd (let z : ◌≡◌ {A = ℕ} 0 1 = cc in omega arith)
forall_at P (y ∷ xs) h zero x e = let each = (Forall-cons P y xs).0 h in let is : y ≡ x = cc in subst P is each.0
forall_at P (y ∷ xs) h (suc i) x e = let each = (Forall-cons P y xs).0 h in forall_at P xs each.1 i x e

-- ---- those of a book

module _ {table b : List ℕ} (k : Booked table b) where
  abbrev s : Sheet
  s = k.sheet

  abbrev st : State
  st = k.state

  abbrev c : ℕ
  c = k.book.bars

  records-are : records_of run_bars b ≡ st.records
  records-are =
      ap (λ (n : ℕ). records_of n b) (sym k.bars) ∙ ap (records_of c) k.book.state ∙ records-kept s c st k.book.sound k.book.room

  pub pairs_are : pair_rows table b ≡ pairs_of s st.records
  pairs_are = rw ((read_is table s k.meant).1, records-are)

  pub holds-are : holds_of b ≡ st.holds
  holds-are = ap holds_of k.book.state ∙ holds_kept s c st k.book.sound k.book.room

  pub pair_asked : (i : ℤ) (buffer : List ℕ) → row_buffer ≤ length buffer → pair_do table b i buffer ≡ given 15 (row_at (pair_rows table b) i)
  pair_asked i buffer h =
      ap (λ (x : List ℕ). pair_do table x i buffer) k.book.state ∙ pair_is table s k.meant c st k.book.sound k.book.room i buffer h
      ∙ ap (λ (rows : List Pair). given 15 (row_at rows i)) (sym pairs_are)

  pub hold_asked : (i : ℤ) → hold_do table b i ≡ given 15 (row_at (hold_rows (holds_of b)) i)
  hold_asked i =
      ap (λ (x : List ℕ). hold_do table x i) k.book.state ∙ hold_is table s k.meant c st k.book.sound k.book.room i
      ∙ ap (λ (os : List Hold). given 15 (row_at (hold_rows os) i)) (sym holds-are)

  pub pairs_within : length (pair_rows table b) ≤ run_bars
  pairs_within = rw pairs_are (omega (arith, pairs_few s st.records, k.book.sound.few, k.book.room.holds, k.bars))

  pub holds-within : length (hold_rows (holds_of b)) ≤ run_bars
  unfolding hold_rows
  holds-within = rw (holds-are, length-map) (omega (arith, k.book.room.holds, k.bars))

  pub pair_shown : (i : ℕ) (p : Pair) → slice_get (pair_rows table b) i ≡ Some p → PairNumbers p
  pair_shown i p e = forall_at PairNumbers (pair_rows table b) (rw pairs_are (pairs_numbers s st.records k.book.sound.records)) i p e

  pub hold_shown : (i : ℕ) (o : HoldRow) → slice_get (hold_rows (holds_of b)) i ≡ Some o → HoldNumbers o
  hold_shown i o e = forall_at HoldNumbers (hold_rows (holds_of b)) (rw holds-are (holds_numbers st.holds k.book.sound.holds)) i o e
