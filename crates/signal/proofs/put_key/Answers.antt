-- The three parts of a key, one behind another. Assumes nothing.
use native.Mathlib.Omega.{arith}
use Rattle.signal.proofs.Keys.{key_one_room, key_two_room, key_three_room, key-is}
use Rattle.signal.proofs.put_key.Goals as goal

pub put_key_part-one-requires-clause-s_in_bounds : goal.put_key_part-one-requires-clause-s_in_bounds
put_key_part-one-requires-clause-s_in_bounds c = key_one_room c.args.s.now c.args.a c.args.at c.args.dst.now c.requires.a_in_bounds

pub put_key_part-two-requires-clause-s_in_bounds : goal.put_key_part-two-requires-clause-s_in_bounds
put_key_part-two-requires-clause-s_in_bounds c = key_two_room c.args.s.now c.args.a c.args.at c.args.dst.now c.requires.a_in_bounds c.put_key_part-one.ensures

pub put_key_part-three-requires-clause-s_in_bounds : goal.put_key_part-three-requires-clause-s_in_bounds
put_key_part-three-requires-clause-s_in_bounds c =
    key_three_room c.args.s.now c.args.a c.args.at c.args.dst.now c.requires.a_in_bounds c.put_key_part-one.ensures c.put_key_part-two.ensures

pub returns : goal.returns
returns c =
    record {
      put = key-is c.put_key_part-one.ensures c.put_key_part-two.ensures c.put_key_part-three.ensures;
      near = omega (arith, c.put_key_part-one.ensures.near, c.put_key_part-two.ensures.near, c.put_key_part-three.ensures.near);
    }
