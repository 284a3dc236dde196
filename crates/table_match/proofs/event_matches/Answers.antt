-- `table_match::event_matches` meets its contract: `Judging`, what is known up to a clause, is the invariant. Assumes nothing.
use Prim.Native.Nat.{◌<◌}
use native.Mathlib.Omega.{arith}
use Rattle.table.specs.Layout.{counts_in}
use Rattle.table_match.proofs.Sound.{Accepted, head-room, clauses-room, clause-room, clause_in_lem, clause-next}
use Rattle.table_match.proofs.Judge.{step_is, judging_first, judging_last, judging_no, judging_more}
use Rattle.table_match.proofs.event_matches.Goals as goal

pub read_places-p-requires : goal.read_places-p-requires
read_places-p-requires c = head-room _ c.requires.t_value

pub section-rows-requires : goal.section-rows-requires
section-rows-requires c =
    let accepted : Accepted c.args.t.now c.read_places-p.result = record { table = c.requires.t_value; places = c.read_places-p.ensures } in
    clauses-room accepted

pub loop-i-init : goal.loop-i-init
loop-i-init c = judging_first _ _ (omega arith)

pub clause_at-c-requires : goal.clause_at-c-requires
clause_at-c-requires c =
    let accepted : Accepted c.args.t.now c.read_places-p.result = record { table = c.requires.t_value; places = c.read_places-p.ensures } in
    clause-room accepted c.section-rows.ensures (omega (arith, c.loop-i-test.true, c.requires.event_in.clauses))

pub clause_holds-requires : goal.clause_holds-requires
clause_holds-requires c =
    let accepted : Accepted c.args.t.now c.read_places-p.result = record { table = c.requires.t_value; places = c.read_places-p.ensures } in
    let below : c.loop-i.i < (counts_in c.args.t.now).clauses = omega (arith, c.loop-i-test.true, c.requires.event_in.clauses) in
    record { t_value = c.requires.t_value; clause_in = clause_in_lem accepted c.section-rows.ensures below c.clause_at-c.ensures; lines_ok = c.requires.lines_ok }

pub returns-then-k-eq3 : goal.returns-then-k-eq3
returns-then-k-eq3 c =
    let accepted : Accepted c.args.t.now c.read_places-p.result = record { table = c.requires.t_value; places = c.read_places-p.ensures } in
    let below : c.loop-i.i < (counts_in c.args.t.now).clauses = omega (arith, c.loop-i-test.true, c.requires.event_in.clauses) in
    let a = c.args in
    judging_no a.t.now a.e c.loop-i.invariant c.loop-i-test.true (clause-next accepted c.section-rows.ensures below c.clause_at-c.ensures)
    (step_is a.t.now c.clause_at-c.result _ c.loop-i.k c.step-k.ensures.0 c.clause_holds.ensures)
    c.if-k-eq3.true

pub loop-i-preserved : goal.loop-i-preserved
loop-i-preserved c =
    let accepted : Accepted c.args.t.now c.read_places-p.result = record { table = c.requires.t_value; places = c.read_places-p.ensures } in
    let below : c.loop-i.i < (counts_in c.args.t.now).clauses = omega (arith, c.loop-i-test.true, c.requires.event_in.clauses) in
    let a = c.args in
    judging_more a.t.now a.e c.loop-i.invariant c.loop-i-test.true (clause-next accepted c.section-rows.ensures below c.clause_at-c.ensures)
    (step_is a.t.now c.clause_at-c.result _ c.loop-i.k c.step-k.ensures.0 c.clause_holds.ensures)
    c.step-k.ensures.1 c.if-k-eq3.false

pub returns : goal.returns
returns c = judging_last c.args.t.now c.args.e c.loop-i.invariant c.loop-i-test.false
