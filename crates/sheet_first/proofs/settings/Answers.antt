-- Four numbers or five, one field after another. Assumes nothing.
use mathlib.Core.Path.{◌∙◌, sym}
use Rattle.text.proofs.Answers.{none_passed}
use Rattle.sheet_first.proofs.FirstLine.{behind-interval, behind-timeout, behind-stop, behind-t0, bad_interval, bad_timeout, bad_stop, bad_t0, bad_evening, settings-are}
use Rattle.sheet_first.proofs.settings.Goals as goal

pub returns-in_err-interval : goal.returns-in_err-interval
returns-in_err-interval c =
    let r = c.requires in
    let none = none_passed _ _ _ _ c.in_err-interval.ensures.value c.from_residual.ensures.1 in
    rw none.1 (bad_interval r.names r.in_bounds_1 r.in_bounds_2 c.find-a.ensures (sym none.0 ∙ c.unsigned.ensures))

pub find-b-requires : goal.find-b-requires
find-b-requires c =
    let r = c.requires in
    behind-interval r.names r.in_bounds_1 r.in_bounds_2 c.find-a.ensures

pub returns-in_err-timeout : goal.returns-in_err-timeout
returns-in_err-timeout c =
    let r = c.requires in
    let e0 = sym c.in_ok-interval.ensures.ok_part ∙ c.unsigned.ensures in
    let none = none_passed _ _ _ _ c.in_err-timeout.ensures.value c.from_residual-in_err-timeout.ensures.1 in
    rw none.1 (bad_timeout r.names r.in_bounds_1 r.in_bounds_2 c.find-a.ensures e0 c.find-b.ensures (sym none.0 ∙ c.unsigned-2.ensures))

pub find-c-requires : goal.find-c-requires
find-c-requires c =
    let r = c.requires in
    let e0 = sym c.in_ok-interval.ensures.ok_part ∙ c.unsigned.ensures in
    behind-timeout r.names r.in_bounds_1 r.in_bounds_2 c.find-a.ensures e0 c.find-b.ensures

pub returns-in_err-stop : goal.returns-in_err-stop
returns-in_err-stop c =
    let r = c.requires in
    let e0 = sym c.in_ok-interval.ensures.ok_part ∙ c.unsigned.ensures in
    let e1 = sym c.in_ok-timeout.ensures.ok_part ∙ c.unsigned-2.ensures in
    let none = none_passed _ _ _ _ c.in_err-stop.ensures.value c.from_residual-in_err-stop.ensures.1 in
    rw none.1 (bad_stop r.names r.in_bounds_1 r.in_bounds_2 c.find-a.ensures e0 c.find-b.ensures e1 c.find-c.ensures (sym none.0 ∙ c.read_stop.ensures))

pub find-d-requires : goal.find-d-requires
find-d-requires c =
    let r = c.requires in
    let e0 = sym c.in_ok-interval.ensures.ok_part ∙ c.unsigned.ensures in
    let e1 = sym c.in_ok-timeout.ensures.ok_part ∙ c.unsigned-2.ensures in
    behind-stop r.names r.in_bounds_1 r.in_bounds_2 c.find-a.ensures e0 c.find-b.ensures e1 c.find-c.ensures

pub returns-in_err-t0 : goal.returns-in_err-t0
returns-in_err-t0 c =
    let r = c.requires in
    let e0 = sym c.in_ok-interval.ensures.ok_part ∙ c.unsigned.ensures in
    let e1 = sym c.in_ok-timeout.ensures.ok_part ∙ c.unsigned-2.ensures in
    let e2 = sym c.in_ok-stop.ensures.ok_part ∙ c.read_stop.ensures in
    let none = none_passed _ _ _ _ c.in_err-t0.ensures.value c.from_residual-in_err-t0.ensures.1 in
    rw none.1 (bad_t0 r.names r.in_bounds_1 r.in_bounds_2 c.find-a.ensures e0 c.find-b.ensures e1 c.find-c.ensures e2 c.find-d.ensures (sym none.0 ∙ c.unsigned-3.ensures))

pub evening_minutes-requires : goal.evening_minutes-requires
evening_minutes-requires c =
    let r = c.requires in
    let e0 = sym c.in_ok-interval.ensures.ok_part ∙ c.unsigned.ensures in
    let e1 = sym c.in_ok-timeout.ensures.ok_part ∙ c.unsigned-2.ensures in
    let e2 = sym c.in_ok-stop.ensures.ok_part ∙ c.read_stop.ensures in
    behind-t0 r.names r.in_bounds_1 r.in_bounds_2 c.find-a.ensures e0 c.find-b.ensures e1 c.find-c.ensures e2 c.find-d.ensures

pub returns-in_err-evening : goal.returns-in_err-evening
returns-in_err-evening c =
    let r = c.requires in
    let e0 = sym c.in_ok-interval.ensures.ok_part ∙ c.unsigned.ensures in
    let e1 = sym c.in_ok-timeout.ensures.ok_part ∙ c.unsigned-2.ensures in
    let e2 = sym c.in_ok-stop.ensures.ok_part ∙ c.read_stop.ensures in
    let e3 = sym c.in_ok-t0.ensures.ok_part ∙ c.unsigned-3.ensures in
    let none = none_passed _ _ _ _ c.in_err-evening.ensures.value c.from_residual-in_err-evening.ensures.1 in
    rw none.1 (bad_evening r.names r.in_bounds_1 r.in_bounds_2 c.find-a.ensures e0 c.find-b.ensures e1 c.find-c.ensures e2 c.find-d.ensures e3 (sym none.0 ∙ c.evening_minutes.ensures))

pub returns : goal.returns
returns c =
    let r = c.requires in
    let e0 = sym c.in_ok-interval.ensures.ok_part ∙ c.unsigned.ensures in
    let e1 = sym c.in_ok-timeout.ensures.ok_part ∙ c.unsigned-2.ensures in
    let e2 = sym c.in_ok-stop.ensures.ok_part ∙ c.read_stop.ensures in
    let e3 = sym c.in_ok-t0.ensures.ok_part ∙ c.unsigned-3.ensures in
    settings-are r.names r.in_bounds_1 r.in_bounds_2 c.find-a.ensures e0 c.find-b.ensures e1 c.find-c.ensures e2 c.find-d.ensures e3 (sym c.in_ok-evening.ensures.ok_part ∙ c.evening_minutes.ensures)
