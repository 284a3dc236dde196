-- One field that is a signal, behind an event; then its numbers and one more in the last event's count. Assumes nothing.
use Prim.Native.Nat.{◌-◌}
use native.Mathlib.Omega.{arith}
use lib.ListN.{drop}
use Rattle.std.proofs.lemmas.Result.{err_from_is_err_and}
use Rattle.sheet_clause.specs.Line.{kind_number}
use Rattle.sheet_clause.proofs.ClauseLine.{two_fields, no_event_lem, no_signal, no_room, clause-is, narrow, count_room, kind_low}
use Rattle.sheet_clause.proofs.clause_line.Goals as goal
use Rattle.sheet_clause.proofs.clause_line.Goals.{then-find-to-via-then-find-to, then-find-to-via-else-find-to+then-n-eq0}

pub returns-then-find-to : goal.returns-then-find-to
returns-then-find-to c =
    elim c.then-find-to.branch [
      | then-find-to-via-then-find-to w ↦ two_fields c.requires.sheet_ok c.requires.part (kind_number c.args.kind) c.find.ensures w.if-find-to.true
      | then-find-to-via-else-find-to+then-n-eq0 w ↦ no_event_lem c.requires.sheet_ok c.requires.part (kind_number c.args.kind) c.find.ensures w.if-find-to.false w.if-n-eq0.true
    ]

pub returns-in_err-g : goal.returns-in_err-g
returns-in_err-g c =
    let p = err_from_is_err_and c.from_residual.result c.from_residual.ensures.1 in
    rw (p.1, p.2) (no_signal c.requires.sheet_ok c.requires.part (kind_number c.args.kind) c.find.ensures c.if-find-to.false c.if-n-eq0.false c.in_err-g.ensures)

pub returns-then-m-ge-CLAUSE_LIMIT : goal.returns-then-m-ge-CLAUSE_LIMIT
returns-then-m-ge-CLAUSE_LIMIT c =
    no_room c.requires.sheet_ok c.requires.part (kind_number c.args.kind) c.find.ensures c.if-find-to.false c.if-n-eq0.false c.in_ok-g.ensures c.if-m-ge-CLAUSE_LIMIT.true

pub put_clause-requires : goal.put_clause-requires
put_clause-requires c =
    let a = c.args in
    record {
      n_in_bounds = omega (arith, c.requires.events_len.1, c.if-m-ge-CLAUSE_LIMIT.false);
      narrow = narrow (a.to - a.from) (drop a.from a.s.now) c.in_ok-g.ensures.ok (omega (arith, c.requires.part.within, c.requires.events_len.2));
    }

pub more_clauses-requires : goal.more_clauses-requires
more_clauses-requires c = count_room c.requires.sheet_ok c.requires.events_len.0 _ (omega arith)

pub returns : goal.returns
returns c =
    clause-is c.requires.sheet_ok c.requires.part (kind_number c.args.kind) c.find.ensures c.if-find-to.false c.if-n-eq0.false c.in_ok-g.ensures
    c.requires.events_len.0 c.requires.events_len.1 c.if-m-ge-CLAUSE_LIMIT.false (kind_low c.args.kind) c.more_clauses.ensures (rw c.number.ensures at c.put_clause.ensures) c.with_counts.ensures
