-- `text_number::magnitude` meets its contract: `Bounded` is the invariant, and what is past the limit stays past it. Assumes nothing.
use native.Mathlib.Omega.{arith}
use mathlib.Core.Path.{refl, sym, ap}
use Rattle.text_number.proofs.Digits.{natural-none, reading-first, reading-low, reading-high, reading-more, reading-past, bounded_last}
use Rattle.text.specs.Number.{at_most}
use Rattle.text_number.proofs.magnitude.Goals as goal
use Rattle.text_number.proofs.magnitude.Goals.{then-d-lt48-via-then-d-lt48, then-d-lt48-via-else-d-lt48+then-d-gt57}

pub returns-then-from-to : goal.returns-then-from-to
returns-then-from-to c = sym (ap (at_most _) (natural-none c.requires.part c.if-from-to.true))

pub loop-i-init : goal.loop-i-init
loop-i-init c = record { reading = reading-first c.requires.part c.if-from-to.false; small = omega arith }

pub returns-then-d-lt48 : goal.returns-then-d-lt48
returns-then-d-lt48 c =
    let w = c.before in
    elim c.then-d-lt48.branch [
      | then-d-lt48-via-then-d-lt48 b ↦ sym (ap (at_most _) (reading-low w.loop-i.invariant.reading w.loop-i-test.true b.if-d-lt48.true))
      | then-d-lt48-via-else-d-lt48+then-d-gt57 b ↦ sym (ap (at_most _) (reading-high w.loop-i.invariant.reading w.loop-i-test.true b.if-d-lt48.false b.if-d-gt57.true))
    ]

pub returns-then-hi-v : goal.returns-then-hi-v
returns-then-hi-v c =
    sym (reading-past (reading-more c.loop-i.invariant.reading c.loop-i-test.true c.if-d-lt48.false c.if-d-gt57.false _ refl) _ c.if-hi-v.true)

pub loop-i-preserved : goal.loop-i-preserved
loop-i-preserved c =
    record { reading = reading-more c.loop-i.invariant.reading c.loop-i-test.true c.if-d-lt48.false c.if-d-gt57.false _ refl; small = c.if-hi-v.false }

pub returns : goal.returns
returns c = sym (bounded_last c.loop-i.invariant c.loop-i-test.false)
