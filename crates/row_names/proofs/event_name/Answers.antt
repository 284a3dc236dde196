-- The refusals one after another, then the name. Assumes nothing.
use Prim.Native.Nat.{◌<◌}
use native.Mathlib.Omega.{arith}
use mathlib.Core.Path.{◌≡◌, ◌∙◌, sym, ap}
use mathlib.Core.Bool.{true}
use Rattle.std.proofs.lemmas.Result.{err_from_is_err_and}
use Rattle.table.specs.Layout.{counts_in}
use Rattle.table.specs.Table.{is_table}
use Rattle.row.proofs.Index.{index_below, index_is}
use Rattle.row_names.proofs.Asked.{other_length, short_buffer, not_table, no_row, past-last, name-put}
use Rattle.row_names.proofs.event_name.Goals as goal
use Rattle.row_names.proofs.event_name.Goals.{then-table-ne-TABLE_LENGTH-via-then-table-ne-TABLE_LENGTH, then-table-ne-TABLE_LENGTH-via-else-table-ne-TABLE_LENGTH+then-buffer-lt-NAME_LIMIT}

pub returns-then-table-ne-TABLE_LENGTH : goal.returns-then-table-ne-TABLE_LENGTH
returns-then-table-ne-TABLE_LENGTH c =
    elim c.then-table-ne-TABLE_LENGTH.branch [
      | then-table-ne-TABLE_LENGTH-via-then-table-ne-TABLE_LENGTH w ↦ other_length _ _ _ w.if-table-ne-TABLE_LENGTH.true
      | then-table-ne-TABLE_LENGTH-via-else-table-ne-TABLE_LENGTH+then-buffer-lt-NAME_LIMIT w ↦ short_buffer _ _ _ w.if-table-ne-TABLE_LENGTH.false w.if-buffer-lt-NAME_LIMIT.true
    ]

pub returns-then-not-is_table : goal.returns-then-not-is_table
returns-then-not-is_table c = not_table _ _ _ c.if-table-ne-TABLE_LENGTH.false c.if-buffer-lt-NAME_LIMIT.false (sym c.is_table.ensures ∙ c.if-not-is_table.true)

pub returns-in_err-k : goal.returns-in_err-k
returns-in_err-k c =
    let p = err_from_is_err_and c.from_residual.result c.from_residual.ensures.1 in
    let accepted : is_table c.args.table.now ≡ true = sym c.is_table.ensures ∙ c.if-not-is_table.false in
    rw (p.1, p.2)
    (no_row _ _ _ c.if-table-ne-TABLE_LENGTH.false c.if-buffer-lt-NAME_LIMIT.false accepted (index_below _ c.ranges.i (sym c.in_err-k.was ∙ c.index_of.ensures)))

pub returns-then-read_counts-k : goal.returns-then-read_counts-k
returns-then-read_counts-k c =
    let accepted : is_table c.args.table.now ≡ true = sym c.is_table.ensures ∙ c.if-not-is_table.false in
    past-last _ _ _ c.if-table-ne-TABLE_LENGTH.false c.if-buffer-lt-NAME_LIMIT.false accepted (index_is _ c.ranges.i (sym c.in_ok-k.was ∙ c.index_of.ensures))
    (omega (arith, c.if-read_counts-k.true, ap (λ k. k.events) c.read_counts.ensures))

pub event_text-name-requires : goal.event_text-name-requires
event_text-name-requires c = record {
  t_value = sym c.is_table.ensures ∙ c.if-not-is_table.false;
  i_bound = omega (arith, c.if-read_counts-k.false, ap (λ k. k.events) c.read_counts.ensures);
}

pub returns : goal.returns
returns c =
    let accepted : is_table c.args.table.now ≡ true = sym c.is_table.ensures ∙ c.if-not-is_table.false in
    let below : c.in_ok-k.k < (counts_in c.args.table.now).events = omega (arith, c.if-read_counts-k.false, ap (λ k. k.events) c.read_counts.ensures) in
    name-put _ _ _ c.if-table-ne-TABLE_LENGTH.false c.if-buffer-lt-NAME_LIMIT.false accepted (index_is _ c.ranges.i (sym c.in_ok-k.was ∙ c.index_of.ensures)) below c.event_text-name.ensures.0 c.put_part.ensures
