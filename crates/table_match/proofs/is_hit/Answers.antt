-- The event itself, or another kind. Assumes nothing.
use mathlib.Core.Path.{◌∙◌}
use borrow.Author.Tests.{ne_eqb}
use Rattle.table_match.proofs.Events.{hit_other, hit_same}
use Rattle.table_match.proofs.is_hit.Goals as goal

pub returns-then-e-kind : goal.returns-then-e-kind
returns-then-e-kind c = hit_same _ _ _ c.requires.kind_bound c.if-e-kind.true c.event_matches.ensures

pub returns-else-e-kind : goal.returns-else-e-kind
returns-else-e-kind c = ne_eqb _ _ c.if-e-kind.false ∙ hit_other _ _ _ c.requires.kind_bound c.if-e-kind.false
