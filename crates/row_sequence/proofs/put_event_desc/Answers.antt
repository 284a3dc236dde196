-- The name, and `@` with its tag where it has no `@`. Assumes nothing.
use native.Mathlib.Omega.{arith}
use mathlib.Core.Path.{◌∙◌, sym, ap}
use lib.ListN.{length}
use Rattle.text.proofs.Put.{put_whole}
use Rattle.row_sequence.proofs.Tags.{tag_length}
use Rattle.row_sequence.proofs.Parts.{name-end, desc_kept, desc_tagged}
use Rattle.row_sequence.proofs.put_event_desc.Goals as goal

pub returns-then-contains : goal.returns-then-contains
returns-then-contains c =
    desc_kept c.args.desc.now c.requires.desc_len_bound c.put_part-p.ensures (sym c.contains.ensures ∙ c.if-contains.true)

pub put_byte-q-requires : goal.put_byte-q-requires
put_byte-q-requires c =
    omega (arith, name-end c.args.desc.now c.requires.desc_len_bound c.put_part-p.ensures, c.put_part-p.ensures.kept)

pub put_part-requires-clause-from_in_bounds : goal.put_part-requires-clause-from_in_bounds
put_part-requires-clause-from_in_bounds c =
    omega (
      arith,
      c.put_byte-q.ensures.end,
      c.put_byte-q.ensures.kept,
      name-end c.args.desc.now c.requires.desc_len_bound c.put_part-p.ensures,
      c.put_part-p.ensures.kept,
      ap length c.event_tag-tag.ensures,
      tag_length c.args.desc.now,
    )

pub returns : goal.returns
returns c =
    desc_tagged c.args.desc.now c.requires.desc_len_bound c.put_part-p.ensures (sym c.contains.ensures ∙ c.if-contains.false) c.put_byte-q.ensures (rw c.event_tag-tag.ensures at (put_whole _ c.put_part.ensures))
