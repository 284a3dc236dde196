-- The walk over the records that counts the pairs. Assumes nothing.
use Prim.Native.Nat.{ℕ, ◌+◌, ◌<◌, ◌≤◌}
use native.Mathlib.Omega.{arith}
use mathlib.Core.Path.{◌≡◌, ap}
use mathlib.Core.Bool.{true, false}
use mathlib.Core.List.{List}
use lib.ListN.{length, drop}
use Rattle.le.specs.Field.{u32}
use Rattle.sheet.specs.Sheet.{Sheet}
use Rattle.position.specs.Rows.{pairs_of, opens}
use Rattle.book.specs.Layout.{records_of}
use Rattle.row_pairs.specs.Found.{record_at}
use Rattle.row_pairs.proofs.Find.{pairs-opened, pairs-passed, pairs-last}

-- n pairs are counted, and those from record number j on are not
pub record Counting (c : ℕ) (b : List ℕ) (j n : ℕ) : Type 0 where
  pub few : n ≤ j
  pub all : (s : Sheet) → length (pairs_of s (records_of c b)) ≡ n + length (pairs_of s (drop j (records_of c b)))

pub counting_none : (c : ℕ) (b : List ℕ) → Counting c b 0 0
counting_none c b = record { few = omega arith; all = λ s. omega arith }

module _ {c : ℕ} {b : List ℕ} {j n : ℕ} (k : Counting c b j n) where
  pub counting_last : u32 b 4 ≤ j + 1 → (s : Sheet) → n ≡ length (pairs_of s (records_of c b))
  counting_last h s = omega (arith, k.all s, ap length (pairs-last c b j h s))

  module _ (more : j + 1 < u32 b 4) where
    pub counting_next : true ≡ opens (record_at c b j) → Counting c b (j + 1) (n + 1)
    counting_next e = record { few = omega (arith, k.few); all = λ s. omega (arith, k.all s, ap length (pairs-opened c b j more e s)) }

    pub counting_passed : false ≡ opens (record_at c b j) → Counting c b (j + 1) n
    counting_passed e = record { few = omega (arith, k.few); all = λ s. omega (arith, k.all s, ap length (pairs-passed c b j more e s)) }
