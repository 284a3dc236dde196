-- Opens every definition of `position` and of what it leans on, for examples that compute. Assumes nothing.
use Rattle.double.proofs.Opened.{opened as opened-double}
use Rattle.bar.proofs.Opened.{opened as opened-bar}
use Rattle.bar_line.proofs.Opened.{opened as opened-line}
use Rattle.event.proofs.Opened.{opened as opened-event}
use Rattle.position.specs.Feed.{line_input, fed_of, admitted, reported, report_of, feed_state}
use Rattle.position.specs.Rows.{event_tag, sequence_part, sequence_of, pair_of, pairs_of, hold_row, hold_rows}
use Rattle.position.specs.Run.{cut, ended, bar_line, add_signal, input_line, read_input, line, feed_line, pair_line, hold_line, feed_all, run_do}
use Rattle.position.specs.State.{fresh_head, fresh_state}
use Rattle.position.specs.Step.{choose, stopped, timed_out, write, arrive, open_or_close, opening, closing, going, step_head, settle, settle_last, new_hold, open_lots, step, decided, plain_from, plain}

unfoldable pub opened : Unit {0}
unfolding opened-double opened-bar opened-line opened-event line_input fed_of admitted reported report_of feed_state event_tag sequence_part sequence_of pair_of pairs_of hold_row hold_rows cut ended bar_line add_signal input_line read_input line feed_line pair_line hold_line feed_all run_do fresh_head fresh_state choose stopped timed_out write arrive open_or_close opening closing going step_head settle settle_last new_hold open_lots step decided plain_from plain
opened = tt
