-- `text::count_parts` meets its contract: `Counting` is the invariant, and a separator makes one part more. Assumes nothing.
use Rattle.text.proofs.Parts.{counting_last, counting_hit, counting_miss}
use Rattle.text.proofs.count_parts.Goals as goal
use Rattle.text.proofs.count_parts.Goals.{then-s-i, else-s-i}

pub loop-i-preserved : goal.loop-i-preserved
loop-i-preserved c =
    elim c.if-s-i.branch [
      | then-s-i w ↦ rw w.n-is (counting_hit c.loop-i.invariant c.loop-i-test.true w.if-s-i.true)
      | else-s-i w ↦ rw w.n-is (counting_miss c.loop-i.invariant c.loop-i-test.true w.if-s-i.false)
    ]

pub returns : goal.returns
returns c = counting_last c.loop-i.invariant c.loop-i-test.false
