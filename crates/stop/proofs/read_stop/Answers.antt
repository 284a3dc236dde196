-- `stop::read_stop` meets its contract: one law for each number of points. Assumes nothing.
use mathlib.Core.Path.{◌≡◌, sym, ◌∙◌}
use Rattle.std.specs.Prelude.{Some}
use native.Mathlib.Omega.{arith}
use lib.Seq.{slice}
use Prim.Native.Nat.{◌+◌, ◌-◌, ◌*◌}
use Rattle.text.specs.Number.{at_most}
use Rattle.stop.specs.Stop.{stop_in}
use Rattle.stop.proofs.Digits.{digits_to-small}
use Rattle.stop.proofs.Reading.{whole_none, decimals_none, behind-small, limited, no_point, one-point}
use Rattle.stop.proofs.read_stop.Goals as goal
use Rattle.stop.proofs.read_stop.Goals.{then-point-to, else-point-to+in_ok-behind}

pub returns-in_err-whole : goal.returns-in_err-whole
returns-in_err-whole c =
    c.from_residual.ensures ∙ whole_none c.args.hi c.requires c.find-point.ensures (sym c.decimal.ensures ∙ c.in_err-whole.was)

pub returns-in_err-behind : goal.returns-in_err-behind
returns-in_err-behind c =
    c.from_residual-in_err-behind.ensures
    ∙ decimals_none c.args.hi c.requires c.find-point.ensures c.if-point-to.false (sym c.in_err-behind.was ∙ c.read_decimals.ensures)

pub overflow_mul-h : goal.overflow_mul-h
overflow_mul-h c =
    omega (arith, digits_to-small 10 (slice c.args.from c.find-point.result c.args.s.now) c.in_ok-whole.whole (sym c.decimal.ensures ∙ c.in_ok-whole.was))

pub overflow_add-h : goal.overflow_add-h
overflow_add-h c =
    let whole = digits_to-small 10 (slice c.args.from c.find-point.result c.args.s.now) c.in_ok-whole.whole (sym c.decimal.ensures ∙ c.in_ok-whole.was) in
    elim c.if-point-to.branch [
      | then-point-to w ↦ omega (arith, whole)
      | else-point-to+in_ok-behind w ↦
          let few = behind-small (slice (c.find-point.result + 1) c.args.to c.args.s.now) (c.args.to - (c.find-point.result + 1)) (sym w.in_ok-behind.was ∙ w.read_decimals.ensures) in
          omega (arith, whole, few)
    ]

pub returns : goal.returns
returns c =
    let whole = sym c.in_ok-whole.was ∙ c.decimal.ensures in
    let is : at_most c.args.hi (Some (c.in_ok-whole.whole * 100 + c.if-point-to.behind)) ≡ stop_in c.args.hi (slice c.args.from c.args.to c.args.s.now) =
    elim c.if-point-to.branch [
      | then-point-to w ↦ rw w.behind-is (no_point c.args.hi c.requires c.find-point.ensures whole w.if-point-to.true)
      | else-point-to+in_ok-behind w ↦
          rw w.behind-is (one-point c.args.hi c.requires c.find-point.ensures whole w.if-point-to.false (sym w.in_ok-behind.was ∙ w.read_decimals.ensures))
    ] in
    c.then_some.ensures ∙ limited _ _ ∙ is
