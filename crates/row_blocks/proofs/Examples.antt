-- Blocks of case *1's rows, asked of its book by its table; computed from the definitions. Assumes nothing.
use mathlib.Core.List.{[], ◌∷◌}
use mathlib.Core.Path.{◌≡◌, refl}
use lib.IntN.{pos, negsuc}
use lib.ListN.{replicate}
use Rattle.text.specs.Answer.{Refused, Got, ◌>>=◌}
use Rattle.table.proofs.Examples.{soy}
use Rattle.row.proofs.Examples.{fed, first_bar, second_bar, opening, whole}
use Rattle.row.proofs.Opened.{opened as opened-row}
use Rattle.row_blocks.specs.Blocks.{hold_row_bytes, pair_row_bytes, fitting, block_do, hold_block_do, pair_block_do, block_of, block_bytes, counts_do}

unfoldable opened : Unit {0}
unfolding opened-row hold_row_bytes pair_row_bytes fitting block_do counts_do mathlib.Core.List.flatten
opened = tt

-- both holds where they fit, one where they do not, and the second alone
holds : ((hold_block_do soy whole (pos 0) (replicate 64 7) >>= λ rows. Got (block_of rows)) ≡ Got (record { rows = 2; length = 64 }))
    × ((hold_block_do soy whole (pos 0) (replicate 63 7) >>= λ rows. Got (block_of rows)) ≡ Got (record { rows = 1; length = 32 }))
    × ((hold_block_do soy whole (pos 1) (replicate 64 7) >>= λ rows. Got (block_of rows)) ≡ Got (record { rows = 1; length = 32 }))
unfolding opened soy fed first_bar second_bar opening whole
holds = (refl, refl, refl)

-- the second: a day, flat, no yield, 125, 0; the later bytes are kept
hold_bytes_lem : block_bytes (replicate 34 7) (hold_block_do soy whole (pos 1) (replicate 34 7))
    ≡ 0 ∷ 96 ∷ 215 ∷ 29 ∷ 20 ∷ 0 ∷ 0 ∷ 0 ∷ 0 ∷ 0 ∷ 0 ∷ 0 ∷ 0 ∷ 0 ∷ 0 ∷ 0 ∷ 0 ∷ 0 ∷ 0 ∷ 0 ∷ 0 ∷ 64 ∷ 95 ∷ 64 ∷ 0 ∷ 0 ∷ 0 ∷ 0 ∷ 0 ∷ 0 ∷ 0 ∷ 0 ∷ 7 ∷ 7 ∷ []
unfolding opened soy fed first_bar second_bar opening whole
hold_bytes_lem = refl

-- the pair: 96 bytes, and the 32 of its texts
pairs : (pair_block_do soy whole (pos 0) (replicate 2144 7) >>= λ rows. Got (block_of rows)) ≡ Got (record { rows = 1; length = 128 })
unfolding opened soy fed first_bar second_bar opening whole
pairs = refl

-- a buffer too short, a row past the last, a row below 0
refused : (hold_block_do soy whole (pos 0) (replicate 31 7) ≡ Refused 8) × (pair_block_do soy whole (pos 0) (replicate 2135 7) ≡ Refused 8)
    × (hold_block_do soy whole (pos 2) (replicate 32 7) ≡ Refused 15) × (pair_block_do soy whole (negsuc 0) (replicate 2144 7) ≡ Refused 15)
unfolding opened soy fed first_bar second_bar opening whole
refused = (refl, refl, refl, refl)

counts : counts_do soy whole ≡ Got (record { holds = 2; pairs = 1 })
unfolding opened soy fed first_bar second_bar opening whole
counts = refl
