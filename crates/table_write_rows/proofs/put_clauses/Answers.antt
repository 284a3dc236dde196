-- `table_write_rows::put_clauses` meets its contract: `Clausing`, the rows that stand, is the invariant. Assumes nothing.
use Rattle.table_write_rows.proofs.Rows.{rowing_last, clausing_first, clausing_room, clausing_codes, clausing_more}
use Rattle.table_write_rows.proofs.put_clauses.Goals as goal

pub loop-clause-init : goal.loop-clause-init
loop-clause-init c =
    clausing_first c.requires.clauses_fit c.args.dst.now c.args.at c.requires.n_in_bounds

pub clause_row-requires : goal.clause_row-requires
clause_row-requires c =
    let x = c.loop-clause.invariant in
    let h = c.loop-clause-test.true in
    record { clause_numbers_in_bounds = clausing_room x h; in_bounds = clausing_codes x h }

pub loop-clause-preserved : goal.loop-clause-preserved
loop-clause-preserved c =
    clausing_more c.loop-clause.invariant c.loop-clause-test.true c.clause_row.ensures c.put_clause-p.ensures

pub returns : goal.returns
returns c = rowing_last c.loop-clause.invariant.rows c.loop-clause-test.false
