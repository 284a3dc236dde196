-- Opens every definition of `revise` and of what it leans on, for examples that compute. Assumes nothing.
use Rattle.book.proofs.Opened.{opened as opened-book}
use Rattle.revise.specs.Lines.{lines, ended, bar_count, signal_lines}
use Rattle.revise.specs.Entries.{first_line, entry, entries, read_entries}
use Rattle.revise.specs.Chosen.{place, chosen, agree}
use Rattle.revise.specs.Revise.{revised_bars, revise_do}

unfoldable pub opened : Unit {0}
unfolding opened-book lines ended bar_count signal_lines first_line entry entries read_entries place chosen agree revised_bars revise_do
opened = tt
