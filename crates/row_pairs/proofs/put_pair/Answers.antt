-- Three texts one behind another, and the row with their lengths. Assumes nothing.
use native.Mathlib.Omega.{arith}
use Rattle.row_pairs.proofs.Texts.{mark-room, sequence-room, pair_put}
use Rattle.row_pairs.proofs.put_pair.Goals as goal

pub put_part-m-requires : goal.put_part-m-requires
put_part-m-requires c =
    let m = c.name_text-mark in
    let s = c.symbol_text-symbol in
    record { part = record { order = omega arith; within = omega arith }; from_in_bounds = mark-room s.result.now m.result.now s.ensures.1 m.ensures.1 c.requires.row_buffer_in_bounds c.put_part-n.ensures }

pub put_sequence-end-requires : goal.put_sequence-end-requires
put_sequence-end-requires c =
    let m = c.name_text-mark in
    let s = c.symbol_text-symbol in
    record { t_value = c.requires.t_value; named_in = (c.requires.shown.named, c.requires.shown_2.named); at_in_bounds = sequence-room s.result.now m.result.now s.ensures.1 m.ensures.1 c.requires.row_buffer_in_bounds c.put_part-n.ensures c.put_part-m.ensures }

pub returns : goal.returns
returns c =
    pair_put _ _ _ c.symbol_text-symbol.ensures.0 c.name_text-mark.ensures.0 c.put_part-n.ensures c.put_part-m.ensures
    c.put_sequence-end.ensures c.row_of.ensures
