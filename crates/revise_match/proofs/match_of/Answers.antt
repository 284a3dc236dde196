-- The number as a match. Assumes nothing.
use borrow.Author.Tests.{eq-eqb, ne_eqb}
use Rattle.revise_match.proofs.match_of.Goals as goal

pub returns-then-code-eq-NOTHING : goal.returns-then-code-eq-NOTHING
returns-then-code-eq-NOTHING c = rw (eq-eqb _ _ c.if-code-eq-NOTHING.true)

pub returns-else-code-eq-NOTHING : goal.returns-else-code-eq-NOTHING
returns-else-code-eq-NOTHING c = rw (ne_eqb _ _ c.if-code-eq-NOTHING.false)
