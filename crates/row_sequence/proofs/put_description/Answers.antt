-- What the description is, by its kind. Assumes nothing.
use mathlib.Core.Path.{ap, subst}
use Rattle.text.specs.Literal.{bytes, encoded}
use Rattle.table.specs.Layout.{counts_in, parts_in}
use Rattle.table.specs.Table.{sheet_of}
use Rattle.table_match.proofs.Sound.{head-room}
use Rattle.row_sequence.specs.Named.{NamedIn}
use Rattle.row_sequence.proofs.Parts.{part_as, event_part, stop-part, timeout-part}
use Rattle.row_sequence.proofs.put_description.Goals as goal

pub event_text-requires : goal.event_text-requires
event_text-requires c = record { t_value = c.requires.t_value; i_bound = subst (NamedIn (counts_in c.args.t.now).events) c.in-Event.is c.requires.named_in }

pub returns-in-Event : goal.returns-in-Event
returns-in-Event c =
    part_as (event_part _ _ c.in-Event.is c.event_text.ensures.0) c.put_event_desc.ensures

pub returns-in-Stop : goal.returns-in-Stop
unfolding bytes encoded parts_in sheet_of
returns-in-Stop c =
    part_as (stop-part (sheet_of (parts_in c.args.t.now)) c.args.r c.in-Stop.is (ap (λ s. s.stop) c.read_settings-h.ensures)) c.put_closing.ensures

pub returns-in-Timeout : goal.returns-in-Timeout
unfolding bytes encoded parts_in sheet_of
returns-in-Timeout c =
    part_as (timeout-part (sheet_of (parts_in c.args.t.now)) c.args.r c.in-Timeout.is (ap (λ s. s.timeout) c.read_settings.ensures)) c.put_closing-in-Timeout.ensures

pub read_settings-h-requires : goal.read_settings-h-requires
read_settings-h-requires c = head-room _ c.requires.t_value

pub read_settings-requires : goal.read_settings-requires
read_settings-requires c = head-room _ c.requires.t_value
