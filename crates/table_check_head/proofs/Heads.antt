-- The tests of a header: counts that are in range. Assumes nothing.
use mathlib.Core.Bool.{true}
use mathlib.Core.Path.{◌≡◌}
use borrow.Author.Tests.{leb-true}
use Rattle.text.proofs.Conditions.{fact}
use Rattle.table.specs.Table.{counts_ok}
use Rattle.table.specs.declared.Counts.{Counts}
use Rattle.table_check_head.specs.Check.{Few}

pub few : (c : Counts) → counts_ok c ≡ true → Few c
unfolding counts_ok
few c e = record {
  events = leb-true _ _ (fact _ e 0);
  clauses = leb-true _ _ (fact _ e 1);
  keys = leb-true _ _ (fact _ e 2);
  values = leb-true _ _ (fact _ e 3);
  name = leb-true _ _ (fact _ e 4);
  symbol = leb-true _ _ (fact _ e 5);
}
