-- The walk over the records: the rows of their pairs are written one behind another while they fit. Assumes nothing.
use Prim.Native.Nat.{ℕ, ◌+◌, ◌-◌, ◌<◌, ◌≤◌}
use native.Mathlib.Omega.{arith}
use mathlib.Core.Path.{◌≡◌, refl}
use mathlib.Core.Bool.{true, false}
use mathlib.Core.List.{List, map}
use lib.ListN.{length, drop}
use Rattle.le.specs.Field.{u32}
use Rattle.text.specs.Read.{Put}
use Rattle.sheet.specs.Sheet.{Sheet}
use Rattle.position.specs.Rows.{pairs_of, opens}
use Rattle.book.specs.Layout.{records_of}
use Rattle.row_pairs.specs.Found.{record_at, pair_from}
use Rattle.row_pairs.proofs.Find.{pairs-opened, pairs-passed, pairs-last}
use Rattle.row_blocks.specs.Blocks.{pair_row_bytes}
use Rattle.row_blocks.specs.Read.{Filled}
use Rattle.row_blocks.proofs.Filling.{Filling, filling_none, filling_next, filling_full, filling_last}

-- the rows of the pairs from record number j on
abbrev pub rows_at : Sheet → ℕ → List ℕ → ℕ → List (List ℕ)
rows_at s c b j = map pair_row_bytes (pairs_of s (drop j (records_of c b)))

-- so many of all rows are written, up to `at`, and those of the pairs from record number j on follow
pub record Walking (s : Sheet) (c : ℕ) (b : List ℕ) (all : List (List ℕ)) (before after : List ℕ) (j rows at : ℕ) : Type 0 where
  pub fit : at ≤ length before
  pub kept : length after ≡ length before
  pub few : rows ≤ j
  pub fill : Filling all before after (rows_at s c b j) rows at

pub walking_none : (s : Sheet) (c : ℕ) (b : List ℕ) (j : ℕ) (before : List ℕ) → Walking s c b (rows_at s c b j) before before j 0 0
walking_none s c b j before = record { fit = omega arith; kept = refl; few = omega arith; fill = filling_none (rows_at s c b j) before }

module _ {s : Sheet} {c : ℕ} {b : List ℕ} {all : List (List ℕ)} {before after : List ℕ} {j rows at : ℕ} (w : Walking s c b all before after j rows at) where
  pub walking_last : u32 b 4 ≤ j + 1 → Filled all before after (record { rows = rows; length = at })
  walking_last h = filling_last (rw (pairs-last c b j h s) at w.fill)

  module _ (more : j + 1 < u32 b 4) where
    pub walking_passed : false ≡ opens (record_at c b j) → Walking s c b all before after (j + 1) rows at
    walking_passed e = record { fit = w.fit; kept = w.kept; few = omega (arith, w.few); fill = rw (pairs-passed c b j more e s) at w.fill }

    module _ (e : true ≡ opens (record_at c b j)) where
      pub walking_full : {later : List ℕ} → (length after - at < length (pair_row_bytes (pair_from s c b j))) × (later ≡ after) → Filled all before later (record { rows = rows; length = at })
      walking_full h = rw h.1 (filling_full (rw (pairs-opened c b j more e s) at w.fill) (omega (arith, h.0, w.kept)))

      pub walking_next : {later : List ℕ} {q : ℕ} → Put after later at (pair_row_bytes (pair_from s c b j)) q → Walking s c b all before later (j + 1) (rows + 1) q
      walking_next {later} {q} p = record {
        fit = omega (arith, p.fit, w.kept);
        kept = omega (arith, p.kept, w.kept);
        few = omega (arith, w.few);
        fill = filling_next (rw (pairs-opened c b j more e s) at w.fill) p;
      }
