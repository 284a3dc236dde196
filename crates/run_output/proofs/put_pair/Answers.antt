-- The names, the numbers, the sequence, then the days, the yield and the lots. Assumes nothing.
use Prim.Native.Nat.{◌+◌}
use mathlib.Core.Path.{refl}
use Rattle.position.specs.Run.{pair_line}
use Rattle.run_fields.proofs.Lines.{put_field, put-fields}
use Rattle.run_fields.proofs.Short.{part_as}
use Rattle.run_output.proofs.put_pair.Goals as goal

pub returns : goal.returns
unfolding pair_line
returns c =
    let a = c.args in
    put-fields _ _ _ c.pair_names-a.ensures.put
    (put-fields _ _ _ c.pair_numbers-b.ensures.put
    (put_field _ _ _ (part_as a.buffer.now (a.p.symbol + a.p.mark) a.p.sequence _ refl c.text_field-c.ensures).put
    c.pair_figures.ensures))
