-- Each arm's operate has its code. Assumes nothing.
use native.Mathlib.Omega.{arith}
use Rattle.operate.proofs.Laws.{past_arms, known_at, known-not}
use Rattle.operate.proofs.of_code.Goals as goal

pub returns-in-0 : goal.returns-in-0
returns-in-0 c = known_at 0 c.args.code c.in-0.is (omega arith)

pub returns-in-1 : goal.returns-in-1
returns-in-1 c = known_at 1 c.args.code c.in-1.is (omega arith)

pub returns-in-2 : goal.returns-in-2
returns-in-2 c = known_at 2 c.args.code c.in-2.is (omega arith)

pub returns-in-3 : goal.returns-in-3
returns-in-3 c = known_at 3 c.args.code c.in-3.is (omega arith)

pub returns-in-4 : goal.returns-in-4
returns-in-4 c = known_at 4 c.args.code c.in-4.is (omega arith)

pub returns-in-5 : goal.returns-in-5
returns-in-5 c = known_at 5 c.args.code c.in-5.is (omega arith)

pub returns-in-6 : goal.returns-in-6
returns-in-6 c = known_at 6 c.args.code c.in-6.is (omega arith)

pub returns-in_default : goal.returns-in_default
returns-in_default c = known-not c.args.code (past_arms c.args.code c.in_default.in_default-own.rest)
