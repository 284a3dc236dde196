-- A copy is a patch. Assumes nothing.
use mathlib.Core.Path.{refl}
use Prim.Native.Nat.{◌*◌}
use Rattle.le.proofs.Laws.{copied}
use Rattle.sheet_numbers.proofs.put_clause.Goals as goal

pub returns : goal.returns
returns c = copied c.args.clauses.now _ _ (9 * c.args.n) 9 c.copy_from_slice.ensures.after refl
