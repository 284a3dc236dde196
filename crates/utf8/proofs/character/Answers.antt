-- `utf8::character` meets its contract: each way out is a law on what the first two bytes tell. Assumes nothing.
use Rattle.utf8.proofs.Laws.{read_none, read_first, range_cut, range_below, range_above, range_among, char_on}
use native.Mathlib.Omega.{arith}
use mathlib.Core.Path.{◌≡◌, sym}
use lib.ListN.{get_or, drop}
use Prim.Native.Nat.{◌+◌, ◌≤◌, ◌<◌}
use mathlib.Core.Bool.{false}
use Rattle.utf8.specs.Utf8.{utf8}
use Rattle.utf8.proofs.character.Goals as goal

pub returns-in_err-f : goal.returns-in_err-f
returns-in_err-f c = rw c.from_residual.ensures (read_none (read_first _ _ _ c.requires.0 (sym c.in_err-f.ensures)))

pub returns-in_err-t : goal.returns-in_err-t
returns-in_err-t c = rw c.from_residual-in_err-t.ensures (range_cut (read_first _ _ _ c.requires.0 (sym c.in_ok-f.ensures)) c.in_err-t.ensures.lookup.3)

pub returns-then-contains : goal.returns-then-contains
returns-then-contains c =
    let byte = c.in_ok-t.ensures.lookup.4 (omega arith) 0 in
    let low : c.in_ok-f.f.lo ≤ get_or c.args.s.now (c.args.i + 1) 0 = grind arith in
    let high : get_or c.args.s.now (c.args.i + 1) 0 ≤ c.in_ok-f.f.hi = grind arith in
    let follows = read_first _ _ _ c.requires.0 (sym c.in_ok-f.ensures) in
    char_on (range_among follows c.in_ok-t.ensures.lookup.3.0 low high) c.tails.result c.tails.ensures

pub returns-else-contains : goal.returns-else-contains
returns-else-contains c =
    let byte = c.in_ok-t.ensures.lookup.4 (omega arith) 0 in
    let wrong : (get_or c.args.s.now (c.args.i + 1) 0 < c.in_ok-f.f.lo → utf8 (drop c.args.i c.args.s.now) ≡ false) × (c.in_ok-f.f.hi < get_or c.args.s.now (c.args.i + 1) 0 → utf8 (drop c.args.i c.args.s.now) ≡ false) =
    let follows = read_first _ _ _ c.requires.0 (sym c.in_ok-f.ensures) in
    (range_below follows c.in_ok-t.ensures.lookup.3.0, range_above follows c.in_ok-t.ensures.lookup.3.0) in
    grind arith
