-- The texts of a pair in the row buffer: they are found there again. Assumes nothing.
use Prim.Native.Nat.{ℕ, ◌+◌}
use mathlib.Core.Path.{◌≡◌, refl}
use mathlib.Core.List.{List, [], ◌++◌, append_assoc}
use lib.ListN.{length, drop, length-append}
use lib.Seq.{drop_at, take-append_seam}
use Rattle.le.specs.Le.{part, patch}
use Rattle.position.specs.Rows.{Pair}
use Rattle.row.specs.Calls.{pair_text, pair_row}
use Rattle.row_pairs.proofs.Texts.{start}
use Rattle.run_output.specs.Shown.{pair_in}

-- a text behind n bytes
behind : (x y z : List ℕ) (n : ℕ) → length x ≡ n → part (x ++ (y ++ z)) n (length y) ≡ y
unfolding part
behind x y z n e = rw (drop_at x (y ++ z) n e, take-append_seam)

pub pair_back : (p : Pair) (before : List ℕ) → pair_in (pair_row p) (patch before 0 (pair_text p)) ≡ p
pair_back p before = rw (first, second, third)
  where
    x : List ℕ
    x = p.symbol

    y : List ℕ
    y = p.mark

    z : List ℕ
    z = p.sequence

    rest : List ℕ
    rest = drop (length (x ++ y ++ z)) before

    first : part (patch before 0 (pair_text p)) 0 (length p.symbol) ≡ p.symbol
    first = rw (start, append_assoc (x ++ y) z rest, append_assoc x y (z ++ rest)) (behind [] x (y ++ (z ++ rest)) 0 refl)

    second : part (patch before 0 (pair_text p)) (length p.symbol) (length p.mark) ≡ p.mark
    second = rw (start, append_assoc (x ++ y) z rest, append_assoc x y (z ++ rest)) (behind x y (z ++ rest) (length x) refl)

    third : part (patch before 0 (pair_text p)) (length p.symbol + length p.mark) (length p.sequence) ≡ p.sequence
    third = rw (start, append_assoc (x ++ y) z rest) (behind (x ++ y) z rest (length x + length y) (length-append x y))
