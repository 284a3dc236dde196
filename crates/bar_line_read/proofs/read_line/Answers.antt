-- The fields of a line in their order. Assumes nothing.
use native.Mathlib.Omega.{arith}
use mathlib.Core.Path.{sym, ap, ◌∙◌}
use borrow.Author.Rules.{rules}
use mir.Syntax.{w64}
use mir.Val.{SFits}
use lib.Seq.{slice}
use Rattle.std.proofs.lemmas.Result.{err_from_is_err_and}
use Rattle.text.specs.Answer.{Got}
use Rattle.text.proofs.Cut.{cut, cut-rest}
use Rattle.text.proofs.Laws.{part-size}
use Rattle.text_number.proofs.Whole.{small}
use Rattle.bar_line.specs.Line.{stamp_of, price_of}
use Rattle.bar_line_stamp.specs.Read.{stamp_read_of}
use Rattle.bar_line_read.proofs.Line.{not_three, cut-first, none_refused, bar-is, bad_id, bad_stamp, bad_price, line-is}
use Rattle.bar_line_read.proofs.read_line.Goals as goal

pub returns-then-count_parts-ne3 : goal.returns-then-count_parts-ne3
returns-then-count_parts-ne3 c = not_three _ c.count_parts.ensures c.if-count_parts-ne3.true

pub find-b-requires : goal.find-b-requires
find-b-requires c = cut-rest (cut-first _ c.count_parts.ensures c.if-count_parts-ne3.false c.find-a.ensures)

pub returns-in_err-id : goal.returns-in_err-id
returns-in_err-id c =
    let id-field = cut-first _ c.count_parts.ensures c.if-count_parts-ne3.false c.find-a.ensures in
    let p = err_from_is_err_and c.from_residual.result c.from_residual.ensures.1 in
    let none = none_refused c.decimal.result _ _ c.in_err-id.ensures.value in
    rw (p.1, p.2, none.1) (bad_id id-field (sym none.0 ∙ c.decimal.ensures))

pub returns-in_err-at : goal.returns-in_err-at
returns-in_err-at c =
    let id-field = cut-first _ c.count_parts.ensures c.if-count_parts-ne3.false c.find-a.ensures in
    let stamp-field = cut (cut-rest id-field) c.find-b.ensures id-field.left (omega arith) in
    let p = err_from_is_err_and c.from_residual-in_err-at.result c.from_residual-in_err-at.ensures.1 in
    let none = none_refused c.read_stamp.result _ _ c.in_err-at.ensures.value in
    let stamp = ap stamp_read_of (sym none.0) ∙ c.read_stamp.ensures ∙ ap stamp_of (part-size _ _ c.args.line.now stamp-field.low) in
    rw (p.1, p.2, none.1) (bad_stamp id-field (sym c.in_ok-id.ensures.ok_part ∙ c.decimal.ensures) stamp-field stamp)

pub slice_bounds-read_price-count : goal.slice_bounds-read_price-count
slice_bounds-read_price-count c =
    let id-field = cut-first _ c.count_parts.ensures c.if-count_parts-ne3.false c.find-a.ensures in
    let stamp-field = cut (cut-rest id-field) c.find-b.ensures id-field.left (omega arith) in
    omega (arith, stamp-field.high)

pub slice_bounds-read_price-start : goal.slice_bounds-read_price-start
slice_bounds-read_price-start c =
    let id-field = cut-first _ c.count_parts.ensures c.if-count_parts-ne3.false c.find-a.ensures in
    let stamp-field = cut (cut-rest id-field) c.find-b.ensures id-field.left (omega arith) in
    omega (arith, stamp-field.high)

pub returns-in_err-price : goal.returns-in_err-price
returns-in_err-price c =
    let id-field = cut-first _ c.count_parts.ensures c.if-count_parts-ne3.false c.find-a.ensures in
    let stamp-field = cut (cut-rest id-field) c.find-b.ensures id-field.left (omega arith) in
    let p = err_from_is_err_and c.from_residual-in_err-price.result c.from_residual-in_err-price.ensures.1 in
    let stamp = ap stamp_read_of (sym c.in_ok-at.ensures.ok_part) ∙ c.read_stamp.ensures ∙ ap stamp_of (part-size _ _ c.args.line.now stamp-field.low) in
    let price = c.in_err-price.ensures ∙ ap price_of (part-size _ _ c.args.line.now (cut-rest stamp-field).order) in
    rw (p.1, p.2) (bad_price id-field (sym c.in_ok-id.ensures.ok_part ∙ c.decimal.ensures) stamp-field stamp price)

pub overflow_cast-result : goal.overflow_cast-result
overflow_cast-result c =
    record { sfits = small {n = 10} (omega arith) (slice 0 c.find-a.result c.args.line.now) (sym c.in_ok-id.ensures.ok_part ∙ c.decimal.ensures) }

pub returns : goal.returns
returns c =
    let id-field = cut-first _ c.count_parts.ensures c.if-count_parts-ne3.false c.find-a.ensures in
    let stamp-field = cut (cut-rest id-field) c.find-b.ensures id-field.left (omega arith) in
    let id = sym c.in_ok-id.ensures.ok_part ∙ c.decimal.ensures in
    let stamp = ap stamp_read_of (sym c.in_ok-at.ensures.ok_part) ∙ c.read_stamp.ensures ∙ ap stamp_of (part-size _ _ c.args.line.now stamp-field.low) in
    let price = c.in_ok-price.ensures ∙ ap price_of (part-size _ _ c.args.line.now (cut-rest stamp-field).order) in
    let instant : SFits w64 c.in_ok-at.at.instant = search rules in
    let offset : SFits w64 c.in_ok-at.at.offset = search rules in
    ap Got (bar-is c.in_ok-id.id c.in_ok-at.at (small {n = 10} (omega arith) (slice 0 c.find-a.result c.args.line.now) id) instant offset)
    ∙ line-is id-field id stamp-field stamp price
