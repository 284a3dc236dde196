-- `utf8::tails` meets its contract. The loop has read i..j, and the tails up to `end` are still to come. Assumes nothing.
use Rattle.utf8.proofs.Laws.{tails_some, range_cut, range_below, range_above, range_among}
use native.Mathlib.Omega.{arith}
use Prim.Native.Nat.{◌+◌, ◌-◌, ◌≤◌}
use lib.ListN.{get_or}
use Rattle.utf8.proofs.tails.Goals as goal

pub returns-in_err-get : goal.returns-in_err-get
returns-in_err-get c =
    let coming = tails_some c.loop-j.invariant (c.args.i + c.args.more - (c.loop-j.j + 1)) (omega arith) in
    rw c.from_residual.ensures (range_cut coming c.in_err-get.ensures.lookup.3)

pub returns-then-not-matches : goal.returns-then-not-matches
returns-then-not-matches c =
    let coming = tails_some c.loop-j.invariant (c.args.i + c.args.more - (c.loop-j.j + 1)) (omega arith) in
    let byte = c.in_ok-get.ensures.lookup.4 (omega arith) 0 in
    let low = range_below coming c.in_ok-get.ensures.lookup.3.0 in
    let high = range_above coming c.in_ok-get.ensures.lookup.3.0 in
    grind arith

pub loop-j-preserved : goal.loop-j-preserved
loop-j-preserved c =
    let coming = tails_some c.loop-j.invariant (c.args.i + c.args.more - (c.loop-j.j + 1)) (omega arith) in
    let byte = c.in_ok-get.ensures.lookup.4 (omega arith) 0 in
    let low : 0x80 ≤ get_or c.args.s.now c.loop-j.j 0 = grind arith in
    let high : get_or c.args.s.now c.loop-j.j 0 ≤ 0xbf = grind arith in
    range_among coming c.in_ok-get.ensures.lookup.3.0 low high
