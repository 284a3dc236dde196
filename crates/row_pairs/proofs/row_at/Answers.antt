-- An index below 0, no such pair, or the pair that was found. Assumes nothing.
use native.Mathlib.Omega.{arith}
use mathlib.Core.Path.{◌≡◌, ◌∙◌, subst}
use Rattle.row.specs.declared.RowError.TheVariants.{PastLast}
use Rattle.std.specs.Prelude.{None, Some}
use Rattle.std.proofs.lemmas.Result.{err_from_is_err_and}
use Rattle.table.specs.Layout.{parts_in}
use Rattle.table.specs.Table.{sheet_of}
use Rattle.row.proofs.Index.{index_below, index_is}
use Rattle.row_pairs.specs.Found.{FoundAs}
use Rattle.row_pairs.proofs.Answers.{answered-none, answered-row}
use Rattle.row_pairs.proofs.Find.{found_none, found_some}
use Rattle.row_pairs.proofs.row_at.Goals as goal

pub returns-in_err-k : goal.returns-in_err-k
returns-in_err-k c =
    let p = err_from_is_err_and c.from_residual.result c.from_residual.ensures.1 in
    let b = index_below _ c.ranges.i c.in_err-k.ensures in
    rw (p.1, p.2, b.0) (answered-none _ b.1)

pub returns-in_err-j : goal.returns-in_err-j
returns-in_err-j c =
    let p = err_from_is_err_and c.from_residual-in_err-j.result c.from_residual-in_err-j.ensures.1 in
    let none : c.find_pair.result ≡ None = grind arith in
    let last : c.in_err-j.field-0.0 ≡ PastLast = grind arith in
    rw (p.1, p.2, last)
    (answered-none _ (index_is _ c.ranges.i c.in_ok-k.ensures ∙ found_none (sheet_of (parts_in c.args.t.now)) (subst (FoundAs c.args.c c.args.b.now 0 c.in_ok-k.k) none c.find_pair.ensures)))

pub pair_at-requires : goal.pair_at-requires
pair_at-requires c =
    let some : c.find_pair.result ≡ Some c.in_ok-j.j = grind arith in
    let found : FoundAs c.args.c c.args.b.now 0 c.in_ok-k.k (Some c.in_ok-j.j) = subst (FoundAs c.args.c c.args.b.now 0 c.in_ok-k.k) some c.find_pair.ensures in
    record { t_value = c.requires.t_value; traded = c.requires.traded; j_bound = found.ok.1; row_buffer_in_bounds = c.requires.row_buffer_in_bounds }

pub returns : goal.returns
returns c =
    let some : c.find_pair.result ≡ Some c.in_ok-j.j = grind arith in
    let found : FoundAs c.args.c c.args.b.now 0 c.in_ok-k.k (Some c.in_ok-j.j) = subst (FoundAs c.args.c c.args.b.now 0 c.in_ok-k.k) some c.find_pair.ensures in
    answered-row (index_is _ c.ranges.i c.in_ok-k.ensures ∙ found_some (sheet_of (parts_in c.args.t.now)) found) c.pair_at.ensures
