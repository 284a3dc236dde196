-- `table_check_clauses::clauses_ok` meets its contract: `Using`, what is used so far, is the invariant. Assumes nothing.
use borrow.Author.Tests.{ne_eqb}
use mathlib.Core.Path.{◌∙◌}
use Rattle.table_check_clauses.proofs.Clauses.{using_first, using_stop, using_more, using_short, using_last}
use Rattle.table_check_clauses.proofs.clauses_ok.Goals as goal

pub loop-i-init : goal.loop-i-init
loop-i-init c = using_first _ _ _ _ c.requires

pub returns-in_default : goal.returns-in_default
returns-in_default c = using_stop c.loop-i.invariant c.loop-i-test.true c.clause_at.ensures c.clause_step.ensures c.in_default.is

pub loop-i-preserved : goal.loop-i-preserved
loop-i-preserved c = using_more c.loop-i.invariant c.loop-i-test.true c.clause_at.ensures c.clause_step.ensures _ c.in-Some.is

pub returns-then-used-keys : goal.returns-then-used-keys
returns-then-used-keys c = using_last c.loop-i.invariant c.loop-i-test.false c.if-used-keys.true

pub returns-else-used-keys : goal.returns-else-used-keys
returns-else-used-keys c = ne_eqb _ _ c.if-used-keys.false ∙ using_short c.loop-i.invariant c.loop-i-test.false c.if-used-keys.false
