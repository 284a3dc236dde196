-- A pair row, field by field, with its texts behind it. Assumes nothing.
use Prim.Native.Nat.{ℕ, ◌+◌, ◌≤◌}
use native.Mathlib.Omega.{arith}
use mathlib.Core.Path.{◌≡◌, refl}
use mathlib.Core.List.{List, ◌++◌}
use lib.IntN.{ℤ}
use lib.ListN.{length}
use Rattle.le.specs.Le.{patch, le_bytes}
use Rattle.le.specs.Field.{put32, put_i32, put_i64, put_f64}
use Rattle.le.proofs.Laws.{length-le_bytes}
use Rattle.text.specs.Read.{Put}
use Rattle.text.proofs.Put.{put-put}
use Rattle.position.specs.declared.PairRow.{PairRow}
use Rattle.book.specs.Layout.{yield_flag, yield_bytes}
use Rattle.book.proofs.Lengths.{yield-length}
use Rattle.book_field.proofs.Laws.{put_first, put_next}
use Rattle.row_blocks.specs.Blocks.{side_sign}
use Rattle.row_blocks_pair_write.specs.Row.{trade_bytes, figure_bytes}

pub trade_put : (p : PairRow) {l l1 l2 l3 l4 l5 l6 : List ℕ} {at k : ℕ} {x y z : ℤ} → at + 40 ≤ length l
    → x ≡ side_sign p.side → k ≡ yield_flag p.bp → y ≡ p.opened.0 → z ≡ p.closed.0
    → l1 ≡ patch l at (put_i32 x)
    → l2 ≡ patch l1 (at + 4) (put32 k)
    → l3 ≡ patch l2 (at + 8) (put_i64 y)
    → l4 ≡ patch l3 (at + 16) (put_i64 z)
    → l5 ≡ patch l4 (at + 24) (put_f64 p.from)
    → l6 ≡ patch l5 (at + 32) (put_f64 p.to)
    → Put l l6 at (trade_bytes p) (at + 40)
trade_put p {at = at} {k} {x} {y} {z} h ex ek ey ez w1 w2 w3 w4 w5 w6 =
    let p1 = put_first 4 w1 (length-le_bytes 4 _) (omega arith) in
    let p2 = put_next 4 (put32 k) p1 w2 (length-le_bytes 4 _) refl (omega arith) in
    let p3 = put_next 8 (put_i64 y) p2 w3 (length-le_bytes 8 _) (omega arith) (omega arith) in
    let p4 = put_next 8 (put_i64 z) p3 w4 (length-le_bytes 8 _) (omega arith) (omega arith) in
    let p5 = put_next 8 (put_f64 p.from) p4 w5 (length-le_bytes 8 _) (omega arith) (omega arith) in
    let p6 = put_next 8 (put_f64 p.to) p5 w6 (length-le_bytes 8 _) (omega arith) (omega arith) in
    let e : at + 32 + 8 ≡ at + 40 = omega arith in
    rw (← ex, ← ek, ← ey, ← ez, ← e) p6

pub figures_put : (p : PairRow) {l l1 l2 l3 l4 l5 l6 l7 : List ℕ} {at : ℕ} {x : ℤ} → at + 56 ≤ length l → x ≡ p.ids
    → l1 ≡ patch l at (put_i64 x)
    → l2 ≡ patch l1 (at + 8) (put_f64 p.days)
    → l3 ≡ patch l2 (at + 16) (yield_bytes p.bp)
    → l4 ≡ patch l3 (at + 24) (le_bytes 8 p.symbol)
    → l5 ≡ patch l4 (at + 32) (le_bytes 8 p.mark)
    → l6 ≡ patch l5 (at + 40) (le_bytes 8 p.sequence)
    → l7 ≡ patch l6 (at + 48) (le_bytes 8 p.lots)
    → Put l l7 at (figure_bytes p) (at + 56)
figures_put p {at = at} {x} h ex w1 w2 w3 w4 w5 w6 w7 =
    let p1 = put_first 8 w1 (length-le_bytes 8 _) (omega arith) in
    let p2 = put_next 8 (put_f64 p.days) p1 w2 (length-le_bytes 8 _) refl (omega arith) in
    let p3 = put_next 8 (yield_bytes p.bp) p2 w3 (yield-length p.bp) (omega arith) (omega arith) in
    let p4 = put_next 8 (le_bytes 8 p.symbol) p3 w4 (length-le_bytes 8 _) (omega arith) (omega arith) in
    let p5 = put_next 8 (le_bytes 8 p.mark) p4 w5 (length-le_bytes 8 _) (omega arith) (omega arith) in
    let p6 = put_next 8 (le_bytes 8 p.sequence) p5 w6 (length-le_bytes 8 _) (omega arith) (omega arith) in
    let p7 = put_next 8 (le_bytes 8 p.lots) p6 w7 (length-le_bytes 8 _) (omega arith) (omega arith) in
    let e : at + 48 + 8 ≡ at + 56 = omega arith in
    rw (← ex, ← e) p7

-- the three parts, one behind another
pub row_put : {l m n z x y t : List ℕ} {at r : ℕ} → Put l m at x (at + 40) → Put m n (at + 40) y (at + 40 + 56) → Put n z (at + 96) t r → Put l z at (x ++ y ++ t) r
row_put {n = n} {z} {t = t} {at} {r} a b w =
    let e : at + 96 ≡ at + 40 + 56 = omega arith in
    let v : Put n z (at + 40 + 56) t r = rw (← e) w in
    put-put (put-put a b) v
