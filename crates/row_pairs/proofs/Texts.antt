-- Symbol, mark and sequence one behind another at the start of the buffer. Assumes nothing.
use Prim.Native.Nat.{ℕ, ◌+◌, ◌-◌, ◌≤◌}
use native.Mathlib.Omega.{arith}
use mathlib.Core.Path.{◌≡◌, ◌∙◌}
use mathlib.Core.List.{List, ◌++◌}
use lib.ListN.{length, drop, length-append}
use lib.Seq.{slice}
use Rattle.le.specs.Le.{patch}
use Rattle.text.specs.Literal.{bytes}
use Rattle.text.specs.Read.{Put}
use Rattle.text.proofs.Put.{put-put, put_whole}
use Rattle.sheet.specs.Sheet.{Sheet, name_limit}
use Rattle.position.specs.Rows.{Pair, sequence_of, pair_of}
use Rattle.position.specs.declared.Record.{Record}
use Rattle.position.specs.declared.PairRow.{PairRow}
use Rattle.row.specs.Calls.{row_buffer, pair_text, pair_row}
use Rattle.row_pairs.specs.Row.{row_of, PairPut}

-- behind one text, and behind two, there is room for the next
module _ (x y : List ℕ) {before l : List ℕ} {n : ℕ} (hx : length x ≤ name_limit) (hy : length y ≤ name_limit) (room : row_buffer ≤ length before) (p : Put before l 0 (slice 0 (length x) x) n) where
  pub mark-room : n + (length y - 0) ≤ length l
  mark-room = omega (arith, (put_whole x p).end, p.kept)

  pub sequence-room : {k : List ℕ} {m : ℕ} → Put l k n (slice 0 (length y) y) m → m + 1024 ≤ length k
  sequence-room q = omega (arith, (put_whole x p).end, p.kept, (put_whole y q).end, q.kept)

module _ (s : Sheet) (a z : Record) where
  row_of_lem : (n m k : ℕ) → n ≡ length s.symbol → m ≡ length s.name → k ≡ length (sequence_of s a ++ bytes " -> " ++ sequence_of s z)
      → row_of a z n m k ≡ pair_row (pair_of s a z)
  unfolding row_of pair_of
  row_of_lem n m k e f g = rw (e, f, g)

  pub pair_put : {x y before l k after : List ℕ} {n m end : ℕ} {r : PairRow} → x ≡ s.symbol → y ≡ s.name
      → Put before l 0 (slice 0 (length x) x) n
      → Put l k n (slice 0 (length y) y) m
      → Put k after m (sequence_of s a ++ bytes " -> " ++ sequence_of s z) end
      → r ≡ row_of a z n (m - n) (end - m)
      → PairPut (pair_of s a z) before after r
  unfolding pair_of
  pair_put {x} {y} {before} {l} {k} {after} {n} {m} {end} {r} ex ey p q t e =
      let px : Put before l 0 s.symbol n = rw ex at (put_whole x p) in
      let qy : Put l k n s.name m = rw ey at (put_whole y q) in
      record {
        is = e ∙ row_of_lem n (m - n) (end - m) (omega (arith, px.end)) (omega (arith, qy.end)) (omega (arith, t.end));
        bytes = (put-put (put-put px qy) t).written;
      }

-- ---- the buffer behind it

pub start : (l t : List ℕ) → patch l 0 t ≡ t ++ drop (length t) l
unfolding patch
start l t =
    let e : 0 + length t ≡ length t = omega arith in
    rw e

-- where its length is kept, it has room for the texts
pub pair_room_lem : (p : Pair) (before : List ℕ) → length (patch before 0 (pair_text p)) ≡ length before
    → length p.symbol + length p.mark + length p.sequence ≤ length before
pair_room_lem p before e = omega (arith, e, size)
  where
    size : length (patch before 0 (pair_text p)) ≡ length p.symbol + length p.mark + length p.sequence + length (drop (length (pair_text p)) before)
    size = rw (start, length-append, length-append, length-append)
