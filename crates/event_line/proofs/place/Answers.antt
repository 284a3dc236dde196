-- `event_line::place` meets its contract: a byte that ends a field, or one that does not. Assumes nothing.
use mathlib.Core.Path.{refl}
use mathlib.Core.Logic.{inl, inr}
use Rattle.event_line.specs.Fields.{mark, plain}
use Rattle.event_line.proofs.place.Goals as goal

pub returns-then-b-eq-PIPE : goal.returns-then-b-eq-PIPE
returns-then-b-eq-PIPE c = mark refl (λ n. elim c.if-b-eq-PIPE.either [ inl e ↦ absurd (n e) | inr e ↦ e.1 ])

pub returns-else-b-eq-PIPE : goal.returns-else-b-eq-PIPE
returns-else-b-eq-PIPE c = plain refl c.if-b-eq-PIPE.false.0 c.if-b-eq-PIPE.false.1
