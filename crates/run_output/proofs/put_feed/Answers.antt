-- The tag and three fields. Assumes nothing.
use Rattle.text.specs.Literal.{bytes, encoded}
use Rattle.run_fields.proofs.Lines.{put_last, put_field}
use Rattle.run_fields.proofs.Short.{integer_as}
use Rattle.run_fields.proofs.Signed.{widened}
use Rattle.run_output.proofs.put_feed.Goals as goal

pub returns : goal.returns
unfolding bytes encoded
returns c =
    put_field (bytes "F") _ _ c.text_field-a.ensures.put
    (put_field _ _ _ c.decimal_field-b.ensures.put
    (put_field _ _ _ (integer_as (widened c.args.pos c.ranges.pos).1 c.integer_field-c.ensures).put
    (put_last _ c.put_flag-d.ensures.put c.put_byte.ensures)))
