-- `table_match::clause_holds` meets its contract: no line has the clause's key, or the value of the first that has it decides. Assumes nothing.
use mathlib.Core.Path.{subst}
use Rattle.event_find.specs.Steps.{FoundAt, FoundAs}
use Rattle.table_match.proofs.Clauses.{clause-key, value-part, holds_not, holds_at}
use Rattle.table_match.proofs.clause_holds.Goals as goal

pub key_text-key-requires-clause-k_bound : goal.key_text-key-requires-clause-k_bound
key_text-key-requires-clause-k_bound c = clause-key c.args.t.now c.args.c c.requires.clause_in

pub returns-in_default : goal.returns-in_default
returns-in_default c =
    let a = c.args in
    holds_not a.t.now a.c c.key_text-key.ensures
    (subst (FoundAs c.key_text-key.result.now a.s.now a.starts.now a.mids.now a.n) c.in_default.is c.find_line.ensures)

pub returns : goal.returns
returns c =
    let a = c.args in
    let found : FoundAt c.key_text-key.result.now a.s.now a.starts.now a.mids.now a.n c.in-Some.i = c.in-Some.ensures in
    holds_at a.t.now a.c c.key_text-key.ensures found (value-part c.requires.lines_ok found.below) c.meets.ensures
