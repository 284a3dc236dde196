-- The tag, the LF and six fields, then what the fields say. Assumes nothing.
use mathlib.Core.Path.{◌∙◌, sym}
use Rattle.text.proofs.Tested.{no, yes}
use Rattle.revise_first.proofs.Fields.{first-other, first_open, first_count, first-room, first_five, first-is}
use Rattle.revise_first.proofs.read_first.Goals as goal
use Rattle.revise_first.proofs.read_first.Goals.{then-not-is_bar-via-then-not-is_bar, then-not-is_bar-via-else-not-is_bar+then-s-last-ne-LF, then-not-is_bar-via-else-not-is_bar+else-s-last-ne-LF+then-count_parts-ne6}

pub returns-then-not-is_bar : goal.returns-then-not-is_bar
returns-then-not-is_bar c =
    elim c.then-not-is_bar.branch [
      | then-not-is_bar-via-then-not-is_bar w ↦ first-other c.requires (no c.is_bar.ensures w.if-not-is_bar.true)
      | then-not-is_bar-via-else-not-is_bar+then-s-last-ne-LF w ↦
          first_open c.requires (yes c.is_bar.ensures w.if-not-is_bar.false) w.if-s-last-ne-LF.true
      | then-not-is_bar-via-else-not-is_bar+else-s-last-ne-LF+then-count_parts-ne6 w ↦
          first_count c.requires (yes c.is_bar.ensures w.if-not-is_bar.false) w.if-s-last-ne-LF.false (λ e. w.if-count_parts-ne6.true (w.count_parts.ensures ∙ e))
    ]

pub read_fields-requires : goal.read_fields-requires
read_fields-requires c =
    let e = c.requires in
    let b = yes c.is_bar.ensures c.if-not-is_bar.false in
    let h = c.if-s-last-ne-LF.false in
    record { part = first-room e b h; s_len = first_five e b h (sym c.count_parts.ensures ∙ c.if-count_parts-ne6.false) }

pub returns : goal.returns
returns c =
    first-is c.requires (yes c.is_bar.ensures c.if-not-is_bar.false) c.if-s-last-ne-LF.false (sym c.count_parts.ensures ∙ c.if-count_parts-ne6.false)
    c.read_fields.ensures
