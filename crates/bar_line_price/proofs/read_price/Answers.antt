-- The digits before the point, and those behind it. Assumes nothing.
use Prim.Native.Nat.{◌+◌, ◌≤◌}
use native.Mathlib.Omega.{arith}
use mathlib.Core.List.{◌++◌}
use mathlib.Core.Path.{refl, sym, ap, ◌∙◌}
use lib.ListN.{length, take}
use Rattle.text.specs.Conditions.{every}
use Rattle.text.proofs.Laws.{part-size}
use Rattle.bar_line_price.specs.Read.{are_digits, priced}
use Rattle.bar_line_price.proofs.Digits.{natural-digits}
use Rattle.bar_line_price.proofs.Form.{bad_whole, bad_behind, plain-is, pointed-is}
use Rattle.bar_line_price.proofs.read_price.Goals as goal

pub returns-then-not-are_digits : goal.returns-then-not-are_digits
returns-then-not-are_digits c = bad_whole c.find-point.ensures (sym c.are_digits.ensures ∙ c.if-not-are_digits.true)

pub price-requires-clause-whole_digits : goal.price-requires-clause-whole_digits
price-requires-clause-whole_digits c = natural-digits _ (sym c.are_digits.ensures ∙ c.if-not-are_digits.false)

pub price-requires-clause-behind_digits : goal.price-requires-clause-behind_digits
unfolding every
price-requires-clause-behind_digits c = refl

pub returns-then-point-n : goal.returns-then-point-n
returns-then-point-n c =
    c.price.ensures ∙ plain-is c.find-point.ensures (sym c.are_digits.ensures ∙ c.if-not-are_digits.false) c.if-point-n.true

pub returns-then-not-are_digits-2 : goal.returns-then-not-are_digits-2
returns-then-not-are_digits-2 c =
    let order : c.find-point.result + 1 ≤ length c.args.s.now = omega (arith, c.find-point.ensures.high) in
    bad_behind c.find-point.ensures c.if-point-n.false
    (ap are_digits (sym (part-size (c.find-point.result + 1) (length c.args.s.now) c.args.s.now order)) ∙ sym c.are_digits-2.ensures ∙ c.if-not-are_digits-2.true)

pub price-requires-2-clause-whole_digits : goal.price-requires-2-clause-whole_digits
price-requires-2-clause-whole_digits c = natural-digits _ (sym c.are_digits.ensures ∙ c.if-not-are_digits.false)

pub price-requires-2-clause-behind_digits : goal.price-requires-2-clause-behind_digits
price-requires-2-clause-behind_digits c = natural-digits _ (sym c.are_digits-2.ensures ∙ c.if-not-are_digits-2.false)

pub returns : goal.returns
returns c =
    let s = c.args.s.now in
    let p = c.find-point.result in
    let order : p + 1 ≤ length s = omega (arith, c.find-point.ensures.high) in
    let part = part-size (p + 1) (length s) s order in
    let digits = ap are_digits (sym part) ∙ sym c.are_digits-2.ensures ∙ c.if-not-are_digits-2.false in
    c.price-2.ensures
    ∙ ap (λ l. priced (take p s ++ l) (length l)) part
    ∙ pointed-is c.find-point.ensures (sym c.are_digits.ensures ∙ c.if-not-are_digits.false) c.if-point-n.false digits
