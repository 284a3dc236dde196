-- The row of a key, and its text. Assumes nothing.
use mathlib.Core.Path.{◌∙◌}
use Rattle.table_match.proofs.Sound.{Accepted, head-room, keys-room, keytexts-room, key_among, key-is}
use Rattle.table_match.proofs.key_text.Goals as goal

pub read_places-p-requires : goal.read_places-p-requires
read_places-p-requires c = head-room _ c.requires.t_value

pub section-rows-requires : goal.section-rows-requires
section-rows-requires c =
    let accepted : Accepted c.args.t.now c.read_places-p.result = record { table = c.requires.t_value; places = c.read_places-p.ensures } in
    keys-room accepted

pub section-requires : goal.section-requires
section-requires c =
    let accepted : Accepted c.args.t.now c.read_places-p.result = record { table = c.requires.t_value; places = c.read_places-p.ensures } in
    keytexts-room accepted

pub text_at-requires : goal.text_at-requires
text_at-requires c =
    let accepted : Accepted c.args.t.now c.read_places-p.result = record { table = c.requires.t_value; places = c.read_places-p.ensures } in
    key_among accepted c.section-rows.ensures c.section.ensures c.requires.k_bound

pub returns : goal.returns
returns c =
    let accepted : Accepted c.args.t.now c.read_places-p.result = record { table = c.requires.t_value; places = c.read_places-p.ensures } in
    c.text_at.ensures ∙ key-is accepted c.section-rows.ensures c.section.ensures c.requires.k_bound
