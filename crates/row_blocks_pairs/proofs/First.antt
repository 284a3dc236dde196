-- The rows from the pair that was found first on. Assumes nothing.
use Prim.Native.Nat.{ℕ, zero, suc}
use mathlib.Core.Path.{◌≡◌, ◌∙◌, refl, sym, ap, subst}
use mathlib.Core.List.{List, [], ◌∷◌, map}
use Rattle.std.specs.Prelude.{None, Some, slice_get}
use lib.ListN.{drop}
use Rattle.list.proofs.Elements.{map_some}
use Rattle.sheet.specs.Sheet.{Sheet}
use Rattle.position.specs.Rows.{pairs_of}
use Rattle.book.specs.Layout.{records_of}
use Rattle.row_pairs.specs.Found.{pair_from, FoundAs}
use Rattle.row_pairs.proofs.Find.{found_none, found_some, pairs-opened}
use Rattle.row_blocks.specs.Blocks.{pair_row_bytes, pair_block}
use Rattle.row_blocks.specs.Read.{Filled}
use Rattle.row_blocks.specs.declared.Block.{Block}
use Rattle.row_blocks_pairs.proofs.Walking.{rows_at}

-- a map keeps what is left of a list, and that nothing is there
map-drop : {X Y : Type 0} (f : X → Y) (xs : List X) (i : ℕ) → drop i (map f xs) ≡ map f (drop i xs)
map-drop f xs zero = refl
map-drop f [] (suc i) = refl
map-drop f (x ∷ xs) (suc i) = map-drop f xs i

map-none : {X Y : Type 0} (f : X → Y) (xs : List X) (i : ℕ) → slice_get xs i ≡ None → slice_get (map f xs) i ≡ None
map-none f [] i e = refl
map-none f (x ∷ xs) zero e = cc
map-none f (x ∷ xs) (suc i) e = map-none f xs i e

module _ (s : Sheet) {c : ℕ} {b : List ℕ} {i : ℕ} where
  pub first-none : FoundAs c b 0 i None → slice_get (pair_block s c b) i ≡ None
  first-none f = map-none pair_row_bytes (pairs_of s (records_of c b)) i (found_none s f)

  module _ {j : ℕ} (f : FoundAs c b 0 i (Some j)) where
    pub first_some : slice_get (pair_block s c b) i ≡ Some (pair_row_bytes (pair_from s c b j))
    first_some = map_some pair_row_bytes (pairs_of s (records_of c b)) i (pair_from s c b j) (found_some s f)

    -- they are those of the pairs from that record on
    pub first_rows : {before after : List ℕ} {q : Block} → Filled (rows_at s c b j) before after q → Filled (drop i (pair_block s c b)) before after q
    first_rows {before} {after} {q} w =
        subst (λ (l : List (List ℕ)). Filled l before after q)
        (sym (map-drop pair_row_bytes (pairs_of s (records_of c b)) i ∙ ap (map pair_row_bytes) (f.is s ∙ sym (pairs-opened c b j f.ok.1 (sym f.ok.2) s)))) w
