-- Clauses that go on, and clauses that stop the walk. Assumes nothing.
use mathlib.Core.Path.{◌≡◌, refl}
use Rattle.std.specs.Prelude.{None, Some}
use Rattle.table.specs.declared.ClauseRow.{ClauseRow}
use Rattle.table_check_clauses.specs.Check.{clause_step}
use Rattle.table_check_clauses.specs.declared.Used.{Used}
use Rattle.table_check_clauses.proofs.Opened.{opened}

abbrev up : ClauseRow
up = record { kind = 0; key = 0; v1 = 1; v2 = 65535; v3 = 2; score = 10 }

abbrev none_used : Used
none_used = record { keys = 0; values = 0 }

abbrev all_used : Used
all_used = record { keys = 1; values = 2 }

-- one key and two values are used; a value that skips one, a value that there is not
clauses : (clause_step 1 2 up none_used ≡ Some all_used) × (clause_step 1 2 up all_used ≡ Some all_used)
    × (clause_step 1 3 (record { kind = 0; key = 0; v1 = 2; v2 = 65535; v3 = 65535; score = 0 }) none_used ≡ None) × (clause_step 1 1 up none_used ≡ None)
unfolding opened
clauses = (refl, refl, refl, refl)
