-- The walk over the holds: their rows are written one behind another while they fit. Assumes nothing.
use Prim.Native.Nat.{ℕ, min, ◌/◌, ◌*◌, ◌+◌, ◌-◌, ◌<◌, ◌≤◌}
use native.Mathlib.Omega.{arith}
use native.Mathlib.Decide.{dec_le}
use mathlib.Core.Path.{◌≡◌, refl}
use mathlib.Core.List.{List}
use lib.ListN.{length, drop}
use Rattle.le.specs.Le.{part}
use Rattle.le.specs.Field.{u32}
use Rattle.text.specs.Read.{Put}
use Rattle.position.specs.Rows.{hold_row}
use Rattle.book.specs.Layout.{hold_place, hold_of}
use Rattle.row_blocks.specs.Blocks.{hold_block}
use Rattle.row_blocks.specs.Read.{Filled}
use Rattle.row_blocks.proofs.Single.{hold_long}
use Rattle.row_blocks.proofs.Filling.{Filling, filling_none, filling_next, filling_full, filling_last}
use Rattle.row_blocks_holds.specs.Row.{row_at}
use Rattle.row_blocks_holds.proofs.Row.{row_next, row-none}

-- so many rows of the holds from number k on are written
pub record Writing (b : List ℕ) (k : ℕ) (before after : List ℕ) (i : ℕ) : Type 0 where
  pub fit : 32 * i ≤ length before
  pub kept : length after ≡ length before
  pub rows : Filling (drop k (hold_block b)) before after (drop (k + i) (hold_block b)) i (32 * i)

pub writing_none : (b : List ℕ) (k : ℕ) (before : List ℕ) → Writing b k before before 0
writing_none b k before =
    let first : k + 0 ≡ k = omega arith in
    record { fit = omega arith; kept = refl; rows = rw first (filling_none (drop k (hold_block b)) before) }

module _ {b : List ℕ} {k : ℕ} {before after : List ℕ} {i : ℕ} (w : Writing b k before after i) where
  pub writing_last : u32 b 0 ≤ k + i → Filled (drop k (hold_block b)) before after (record { rows = i; length = 32 * i })
  writing_last h = filling_last (rw (row-none b (k + i) h) at w.rows)

  module _ (h : k + i < u32 b 0) where
    pub writing_next : {later : List ℕ} → Put after later (32 * i) (row_at b (k + i)) (32 * i + 32) → Writing b k before later (i + 1)
    writing_next p =
        let next : k + i + 1 ≡ k + (i + 1) = omega arith in
        let end : 32 * i + 32 ≡ 32 * (i + 1) = omega arith in
        record {
          fit = omega (arith, p.fit, w.kept);
          kept = omega (arith, p.kept, w.kept);
          rows = rw (← next, ← end) (filling_next (rw (row_next b (k + i) h) at w.rows) p);
        }

    pub writing_full : length after - 32 * i < 32 → Filled (drop k (hold_block b)) before after (record { rows = i; length = 32 * i })
    writing_full f =
        filling_full (rw (row_next b (k + i) h) at w.rows)
        (omega (arith, f, w.kept, hold_long (hold_row (hold_of (part b (hold_place (k + i)) 32)))))

  -- as many as there are, or as fit
  pub writing_end : i ≡ min (u32 b 0 - k) (length before / 32) → k ≤ u32 b 0 → Filled (drop k (hold_block b)) before after (record { rows = i; length = 32 * i })
  writing_end e l = elim (dec_le (u32 b 0) (k + i)) [ yes h ↦ writing_last h | no h ↦ writing_full (omega arith) (omega (arith, w.kept)) ]
