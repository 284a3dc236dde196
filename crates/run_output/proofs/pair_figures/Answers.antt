-- The days, the yield and the lots. Assumes nothing.
use Rattle.run_fields.proofs.Lines.{put_field}
use Rattle.run_output.proofs.pair_figures.Goals as goal

pub returns : goal.returns
returns c =
    put_field _ _ _ c.real_field-a.ensures.put
    (put_field _ _ _ c.yield_field-b.ensures.put
    c.last_decimal.ensures)
