-- `book_entry_check::stored_yield_ok` meets its contract. Assumes nothing.
use mathlib.Core.Bool.{not}
use mathlib.Core.Path.{ap, ◌∙◌}
use lib.Ieee.{binary64}
use lib.Ieee.Bits.{nan_bits_is}
use Rattle.book_entry_check.proofs.stored_yield_ok.Goals as goal

pub returns-in-1 : goal.returns-in-1
returns-in-1 c = rw c.in-1.is (ap not (c.is_nan_bits.ensures ∙ nan_bits_is binary64 _) ∙ rw c.get_u64.ensures)
