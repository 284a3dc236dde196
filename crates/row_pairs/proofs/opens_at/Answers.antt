-- The operate of the record, by its byte. Assumes nothing.
use Prim.Native.Nat.{ℕ}
use mathlib.Core.Bool.{◌||◌}
use mathlib.Core.Path.{◌∙◌, sym, ap}
use lib.Dec.{eqb}
use Rattle.operate.specs.Operate.{LO, SO}
use Rattle.row_pairs.proofs.Find.{operate-at}
use Rattle.row_pairs.proofs.opens_at.Goals as goal

pub returns : goal.returns
returns c =
    c.is_opening.ensures ∙ ap (λ (x : ℕ). eqb x LO || eqb x SO) (sym (operate-at c.args.c c.args.b.now c.args.j))
