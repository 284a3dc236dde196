-- What the check of clauses knows and answers on its way, row by row. Assumes nothing.
use Rattle.std.specs.Prelude.{ℕ, ◌+◌, ◌-◌, ◌≤◌, cond, List, leb, eqb, Option, Some, None}
use Rattle.list.specs.Numbered.{rows}
use Rattle.table.specs.Layout.{clause_length, clause_in}
use Rattle.table.specs.Table.{wild_code, clause_ok}
use Rattle.table.specs.declared.ClauseRow.{ClauseRow}
use Rattle.table_check_clauses.specs.declared.Used.{Used}

-- the first n rows of l
abbrev pub clause_rows : ℕ → List ℕ → List ClauseRow
clause_rows n l = rows clause_in clause_length n l

-- a use of number u where `seen` numbers were used before: how many are used after it
unfoldable pub use_next : ℕ → ℕ → Option ℕ
use_next seen u = cond (leb u seen) (Some (cond (eqb u seen) (seen + 1) seen)) None

-- a use of a value by its code
unfoldable pub code_next : ℕ → ℕ → Option ℕ
code_next seen v = cond (eqb v wild_code) (Some seen) (use_next seen (v - 1))

-- what follows a use, unless that skipped a number
abbrev pub and_then {ℓ} : {A : Type 0} {X : Type ℓ} → Option A → X → (A → X) → X
and_then (Some s) x f = f s
and_then None x f = x

-- the values of a clause, where b were used before it
unfoldable pub values_next : ℕ → ClauseRow → Option ℕ
values_next b c = and_then (code_next b c.v1) None (λ x. and_then (code_next x c.v2) None (λ y. code_next y c.v3))

-- a clause where so many keys and values were used before it: how many are after it
unfoldable pub clause_step : ℕ → ℕ → ClauseRow → Used → Option Used
clause_step k v c u =
    cond (clause_ok k v c) (and_then (use_next u.keys c.key) None (λ x. and_then (values_next u.values c) None (λ y. Some (record { keys = x; values = y })))) None

-- the codes of a clause's values are in range
pub record Coded (c : ClauseRow) : Type 0 where
  pub v1 : 1 ≤ c.v1
  pub v2 : 1 ≤ c.v2
  pub v3 : 1 ≤ c.v3
