-- The first match as a number. Assumes nothing.
use Rattle.revise_match.proofs.Number.{code_event, code_nothing}
use Rattle.table_match.specs.First.{MatchAs}
use Rattle.table.proofs.Heads.{headed}
use Rattle.table.proofs.Facts.{table_facts}
use Rattle.table.specs.Layout.{counts_in}
use mathlib.Core.Path.{subst}
use native.Mathlib.Omega.{arith}
use Prim.Native.Nat.{◌≤◌}
use Rattle.revise_match.proofs.match_code.Goals as goal

pub overflow_cast-result : goal.overflow_cast-result
overflow_cast-result c =
    let few : (counts_in c.args.t.now).events ≤ 32 = (headed _ (table_facts _ c.requires.t_value).0).events-few in
    let k = subst (MatchAs _ _ _ _ _) c.in-Some.is c.first_match.ensures in
    omega (arith, k.ok, few)

pub returns-in-Some : goal.returns-in-Some
returns-in-Some c =
    let few : (counts_in c.args.t.now).events ≤ 32 = (headed _ (table_facts _ c.requires.t_value).0).events-few in
    let k = subst (MatchAs _ _ _ _ _) c.in-Some.is c.first_match.ensures in
    code_event k.is k.ok few

pub returns-in-None : goal.returns-in-None
returns-in-None c = code_nothing (subst (MatchAs _ _ _ _ _) c.in-None.is c.first_match.ensures).is
