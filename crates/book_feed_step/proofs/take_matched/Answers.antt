-- The choice, the step and the writes say together what the bar does. Assumes nothing.
use Rattle.book_feed_step.proofs.Steps.{below_more, times_in, prices_in, taken_is}
use Rattle.position_machine.specs.Update.{of_settings}
use Rattle.table_match.proofs.Sound.{head-room}
use Rattle.table.proofs.Heads.{headed}
use Rattle.table.proofs.Facts.{table_facts}
use native.Mathlib.Omega.{arith}
use Rattle.book_feed_step.proofs.take_matched.Goals as goal

pub read_settings-requires : goal.read_settings-requires
read_settings-requires c = head-room _ c.requires.t_value

pub update-u-requires : goal.update-u-requires
update-u-requires c =
    times_in c.requires.bar_passed c.requires.book_passed c.read_head.ensures

pub write_bar-requires : goal.write_bar-requires
write_bar-requires c =
    let ok = c.requires.book_passed in
    let bar = c.requires.bar_passed in
    record { book_passed = ok; b_bound = c.requires.b_bound; bar_passed = bar; priced = prices_in bar ok c.read_head.ensures (of_settings c.read_settings.result) c.choose.result c.open_lots.result c.update-u.ensures }

pub report-requires : goal.report-requires
report-requires c =
    let few = (headed _ (table_facts _ c.requires.t_value).0).events-few in
    below_more c.args.m c.requires.below (omega arith)

pub returns : goal.returns
returns c =
    let a = c.args in
    λ ls em. taken_is a.t.now a.b.now a.c a.bar ls a.m c.update-u.result em c.choose.ensures c.read_settings.ensures
    c.open_lots.ensures c.read_head.ensures c.update-u.ensures c.write_bar.ensures c.report.ensures
