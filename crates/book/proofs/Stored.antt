-- What the calls say of the book of a state that bars can reach: it has room for c bars, it passes the full check, it can be saved, and, as an image,
-- restored into any bytes of its length. Assumes nothing.
use Prim.Native.Nat.{ℕ}
use native.Mathlib.Omega.{arith}
use mathlib.Core.Bool.{true}
use mathlib.Core.List.{List}
use Rattle.std.specs.Prelude.{Some}
use mathlib.Core.Path.{◌≡◌, sym}
use lib.ListN.{length}
use borrow.Author.Tests.{eq-eqb}
use Rattle.text.specs.Answer.{Got}
use Rattle.sheet.specs.Sheet.{Sheet}
use Rattle.table.specs.Layout.{table_length}
use Rattle.table.specs.Table.{read_table}
use Rattle.table.proofs.Facts.{table_length_lem}
use Rattle.position.specs.State.{State}
use Rattle.position_laws.proofs.Sound.{Sound}
use Rattle.book.specs.Layout.{capacity, encode}
use Rattle.book.specs.Check.{full_ok}
use Rattle.book.specs.Calls.{sized, checked, save_do, restore_do}
use Rattle.book.proofs.Lengths.{capacity-is}
use Rattle.book.proofs.Passes.{Room, full_passes}

module _ (table : List ℕ) (s : Sheet) (meant : read_table table ≡ Got s) (c : ℕ) (st : State) (sound : Sound s st) (room : Room s c st) where
  pub bars-are : capacity (encode c st) ≡ Some c
  bars-are = let few = sound.few in capacity-is c st room.holds (omega arith) room.least room.most

  pub sized-is : sized table (encode c st) ≡ Got c
  sized-is = rw (eq-eqb (length table) table_length (table_length_lem table s meant), bars-are)

  pub passes : full_ok (length s.events) c (encode c st) ≡ true
  passes = full_passes s c st sound room

  pub save_is : (image : List ℕ) → length image ≡ length (encode c st) → save_do table (encode c st) image ≡ Got (encode c st)
  unfolding save_do checked
  save_is image e = rw (sized-is, eq-eqb (length image) (length (encode c st)) e, meant, passes)

  pub restore_is : (into : List ℕ) → length into ≡ length (encode c st) → restore_do table into (encode c st) ≡ Got (encode c st)
  unfolding restore_do checked capacity
  restore_is into e = rw (eq-eqb (length (encode c st)) (length into) (sym e), e, sized-is, meant, passes)
