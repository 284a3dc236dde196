-- `book_header_check::header_ok` meets its contract: the rest is asked where the counts are right. Assumes nothing.
use mathlib.Core.Path.{sym, ◌∙◌}
use Rattle.book_header_check.proofs.Slot.{used}
use Rattle.book_header_check.proofs.header_ok.Goals as goal

pub used_ok-requires : goal.used_ok-requires
used_ok-requires c =
    used c.requires (sym c.counts_ok.ensures ∙ c.if-counts_ok.true) c.get_u32-holds.ensures c.if-holds-eq0.false
