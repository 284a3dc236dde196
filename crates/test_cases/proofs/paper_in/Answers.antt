-- The length of a repeated byte, not worked out. Assumes nothing.
use Prim.Native.Nat.{ℕ}
use mathlib.Core.Path.{sym}
use lib.ListN.{length-replicate}
use Rattle.test_cases.proofs.paper_in.Goals as goal

pub returns : goal.returns
returns c = sym (length-replicate {0} {A = ℕ} 2000000 0)
