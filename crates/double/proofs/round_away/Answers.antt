-- `double::round_away` meets its contract. Assumes nothing.
use Prim.Native.Nat.{◌^◌}
use mathlib.Core.Path.{sym, subst}
use lib.Dec.{T, le→leb}
use lib.Ieee.{binary64, fits, in_float}
use lib.Ieee.Compare.{differs_from_itself}
use denote.Floats.{passes}
use Rattle.double.specs.Double.{round_away}
use Rattle.double.proofs.Tests.{number}
use Rattle.double.proofs.Away.{kept, plus, minus}
use Rattle.double.proofs.round_away.Goals as goal

pub returns-then-x : goal.returns-then-x
unfolding round_away
returns-then-x c = rw (differs_from_itself c.args.x (subst T (sym c.if-x.true) tt))

pub float_to_bits-b : goal.float_to_bits-b
float_to_bits-b c = number c.args.x c.if-x.false

pub returns-then-e-ge1075 : goal.returns-then-e-ge1075
returns-then-e-ge1075 c =
    let fitting : T (fits binary64 c.args.x) = passes (fits binary64 c.args.x) c.well_formed.0.1 in
    kept c.args.x fitting (number c.args.x c.if-x.false) c.if-e-ge1075.true

pub int_to_float-r : goal.int_to_float-r
unfolding in_float
int_to_float-r c = le→leb c.nearest-n.result (2 ^ 53) c.nearest-n.ensures.1

pub returns-then-b-lt9223372036854775808 : goal.returns-then-b-lt9223372036854775808
returns-then-b-lt9223372036854775808 c =
    let fitting : T (fits binary64 c.args.x) = passes (fits binary64 c.args.x) c.well_formed.0.1 in
    let n = c.nearest-n in
    plus c.args.x fitting n.result n.ensures.0 c.if-e-ge1075.false c.if-b-lt9223372036854775808.true

pub returns : goal.returns
returns c =
    let fitting : T (fits binary64 c.args.x) = passes (fits binary64 c.args.x) c.well_formed.0.1 in
    let n = c.nearest-n in
    minus c.args.x fitting n.result n.ensures.0 c.if-e-ge1075.false c.if-b-lt9223372036854775808.false
