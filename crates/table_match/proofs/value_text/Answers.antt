-- The row of a value, and its text. Assumes nothing.
use mathlib.Core.Path.{◌∙◌}
use Rattle.table_match.proofs.Sound.{Accepted, head-room, values-room, valuetexts-room, value_among, value-is}
use Rattle.table_match.proofs.value_text.Goals as goal

pub read_places-p-requires : goal.read_places-p-requires
read_places-p-requires c = head-room _ c.requires.t_value

pub section-rows-requires : goal.section-rows-requires
section-rows-requires c =
    let accepted : Accepted c.args.t.now c.read_places-p.result = record { table = c.requires.t_value; places = c.read_places-p.ensures } in
    values-room accepted

pub section-requires : goal.section-requires
section-requires c =
    let accepted : Accepted c.args.t.now c.read_places-p.result = record { table = c.requires.t_value; places = c.read_places-p.ensures } in
    valuetexts-room accepted

pub text_at-requires : goal.text_at-requires
text_at-requires c =
    let accepted : Accepted c.args.t.now c.read_places-p.result = record { table = c.requires.t_value; places = c.read_places-p.ensures } in
    value_among accepted c.section-rows.ensures c.section.ensures c.requires.v_bound

pub returns : goal.returns
returns c =
    let accepted : Accepted c.args.t.now c.read_places-p.result = record { table = c.requires.t_value; places = c.read_places-p.ensures } in
    c.text_at.ensures ∙ value-is accepted c.section-rows.ensures c.section.ensures c.requires.v_bound
