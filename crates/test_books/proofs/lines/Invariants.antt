-- What the loop keeps: the lengths of what is lent. It ends: each line is behind the one before it.
use Rattle.std.proofs.Common.{length, ◌-◌, ◌≡◌}
use Rattle.test_books.proofs.lines.Given as goal

abbrev pub invariant-loop-at : goal.invariant-loop-at
invariant-loop-at g l =
    (length l.text ≡ length l.initial.text)
    × (length l.table ≡ length l.initial.table)
    × (length l.book ≡ length l.initial.book)
    × (length l.image ≡ length l.initial.image)
    × (length l.row ≡ length l.initial.row)

abbrev pub decreases-loop-at : goal.decreases-loop-at
decreases-loop-at g l = l.n - l.at
