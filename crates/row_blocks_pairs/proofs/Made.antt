-- A pair row that was made in a buffer of its own: it is written where it fits. Assumes nothing.
use Prim.Native.Nat.{ℕ, ◌+◌, ◌-◌, ◌<◌, ◌≤◌}
use native.Mathlib.Omega.{arith}
use mathlib.Core.Path.{◌≡◌, ◌∙◌, sym, ap}
use mathlib.Core.List.{List, ◌++◌}
use denote.Floats.{is_true}
use lib.ListN.{length, length-append}
use lib.Seq.{slice}
use Rattle.le.specs.Le.{part}
use Rattle.le.proofs.Laws.{part_same}
use Rattle.text.specs.Read.{Put}
use Rattle.double.specs.Double.{yield_ok}
use Rattle.position.specs.Rows.{Pair}
use Rattle.position.specs.declared.PairRow.{PairRow}
use Rattle.row.specs.Calls.{row_buffer, pair_text, pair_row}
use Rattle.row_pairs.specs.Row.{PairPut}
use Rattle.row_pairs.proofs.Texts.{pair_room_lem}
use Rattle.row_pairs.proofs.Numbers.{PairNumbers}
use Rattle.row_blocks.specs.Blocks.{pair_row_bytes}
use Rattle.row_blocks.proofs.Single.{pair_long}
use Rattle.row_blocks_pair_write.specs.Row.{trade_bytes, figure_bytes, RowNumbers}

-- the length of a row's texts
abbrev pub texts : PairRow → ℕ
texts r = r.symbol + r.mark + r.sequence

-- r is the row of p, and the buffer begins with its texts
pub record Made (p : Pair) (r : PairRow) (buffer : List ℕ) : Type 0 where
  pub is : r ≡ pair_row p
  pub size : length buffer ≡ row_buffer
  pub fit : texts r ≤ row_buffer
  pub back : slice 0 (texts r) buffer ≡ pair_text p

pub made : {p : Pair} {before after : List ℕ} {r : PairRow} → length before ≡ row_buffer → length after ≡ length before → PairPut p before after r → Made p r after
unfolding part
made {p} {before} {after} {r} long kept w =
    let room : length p.symbol + length p.mark + length p.sequence ≤ length before = pair_room_lem p before (ap length (sym w.bytes) ∙ kept) in
    let count : length p.symbol + length p.mark + length p.sequence ≡ length (pair_text p) = rw (length-append, length-append) in
    record {
      is = w.is;
      size = kept ∙ long;
      fit = rw w.is (omega (arith, room, long));
      back = rw (w.is, count, w.bytes) (part_same before 0 (pair_text p) (omega (arith, room, count)));
    }

module _ {p : Pair} {r : PairRow} {buffer : List ℕ} (m : Made p r buffer) where
  pub made_full : (n at : ℕ) → n - at < 96 + texts r → n - at < length (pair_row_bytes p)
  made_full n at h =
      let e : texts r ≡ length (pair_text p) = rw (m.is, length-append, length-append) in
      omega (arith, h, e, pair_long p)

  pub made_put : {l z : List ℕ} {at q : ℕ} → Put l z at (trade_bytes r ++ figure_bytes r ++ slice 0 (texts r) buffer) q → Put l z at (pair_row_bytes p) q
  unfolding pair_row_bytes
  made_put {l} {z} {at} {q} w =
      let v : Put l z at (trade_bytes r ++ figure_bytes r ++ pair_text p) q = rw (← m.back) w in
      rw m.is at v

  pub made_numbers : PairNumbers p → RowNumbers r
  made_numbers n = rw m.is (record { from = n.from; to = n.to; days = n.days; bp = is_true (yield_ok p.yield) n.bp })
