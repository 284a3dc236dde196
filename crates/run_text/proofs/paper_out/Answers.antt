-- The length of a repeated byte, not worked out. Assumes nothing.
use Prim.Native.Nat.{ℕ}
use mathlib.Core.Path.{sym}
use lib.ListN.{length-replicate}
use Rattle.run_text.proofs.paper_out.Goals as goal

pub returns : goal.returns
returns c = sym (length-replicate {0} {A = ℕ} 2500000 0)
