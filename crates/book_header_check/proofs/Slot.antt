-- The last hold's slot of a book that holds something. Assumes nothing.
use Prim.Native.Nat.{ℕ, ◌+◌, ◌-◌, ◌*◌, ◌≤◌}
use native.Mathlib.Omega.{arith}
use mathlib.Core.Bool.{true}
use mathlib.Core.List.{List}
use mathlib.Core.Logic.{◌≢◌}
use mathlib.Core.Path.{◌≡◌, ◌∙◌, ap}
use lib.ListN.{take, drop}
use borrow.Author.Tests.{leb-true}
use Rattle.le.specs.Le.{part}
use Rattle.le.specs.Field.{u32}
use Rattle.le.proofs.Laws.{part_lent}
use Rattle.text.proofs.Conditions.{fact}
use Rattle.book.specs.Layout.{hold_place}
use Rattle.book.specs.Check.{counts_ok, last_ok}
use Rattle.book_header.specs.Size.{SizeOk}
use Rattle.book_header_check.specs.Used.{Used}

-- where the counts are right
pub used : {b : List ℕ} {c hs : ℕ} → SizeOk b c → counts_ok c b ≡ true → hs ≡ u32 b 0 → hs ≢ 0 → Used b hs
unfolding counts_ok
used {b} {c} {hs} z e h k =
    let most : u32 b 0 ≤ c = leb-true (u32 b 0) c (fact _ e 5) in
    record { counted = h; least = omega arith; room = omega arith }

-- as it is lent
slot : {b : List ℕ} {hs : ℕ} → Used b hs → take (96 + 32 * (hs - 1) + 32 - (96 + 32 * (hs - 1))) (drop (96 + 32 * (hs - 1)) b) ≡ part b (hold_place (u32 b 0 - 1)) 32
slot {b} {hs} h = part_lent b (hold_place (hs - 1)) 32 ∙ rw h.counted

-- the check of it
pub last_slot : (b : List ℕ) (hs : ℕ) → Used b hs
    → last_ok b (take (96 + 32 * (hs - 1) + 32 - (96 + 32 * (hs - 1))) (drop (96 + 32 * (hs - 1)) b)) ≡ last_ok b (part b (hold_place (u32 b 0 - 1)) 32)
last_slot b hs h = ap (last_ok b) (slot h)
