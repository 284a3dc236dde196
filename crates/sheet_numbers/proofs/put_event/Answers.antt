-- A copy is a patch. Assumes nothing.
use mathlib.Core.Path.{refl}
use Prim.Native.Nat.{◌*◌}
use Rattle.le.proofs.Laws.{copied}
use Rattle.sheet_numbers.proofs.put_event.Goals as goal

pub returns : goal.returns
returns c = copied c.args.events.now _ _ (6 * c.args.n) 6 c.copy_from_slice.ensures.after refl
