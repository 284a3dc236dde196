-- From the fresh book to the printed bytes: what the parts that were printed make. Assumes nothing.
use Prim.Native.Nat.{ℕ, ◌+◌, ◌*◌, ◌≤◌}
use native.Mathlib.Omega.{arith}
use mathlib.Core.List.{List, [], append_assoc, flat_map}
use Rattle.book.specs.declared.OpenError.{OpenError}
use Rattle.std.specs.Prelude.{Some, Result, Ok, Err, IsOk}
use Rattle.text.specs.Answer.{Refused, Got}
use Rattle.book.specs.Opened.{open_refusal}
use mathlib.Core.Path.{◌≡◌, refl, ap, ◌∙◌}
use lib.ListN.{length, replicate}
use Rattle.text.specs.Read.{Put}
use Rattle.text.proofs.Put.{put-put}
use Rattle.position.specs.State.{fresh_state}
use Rattle.position.specs.Rows.{pairs_of, hold_rows}
use Rattle.position.specs.Cases.{state_after}
use Rattle.position.specs.Run.{run_bars, input_limit, pair_line, hold_line, feed_all, run_do}
use Rattle.position.specs.declared.Hold.{Hold}
use Rattle.book.specs.Layout.{capacity, fresh_book, holds_of}
use Rattle.book.specs.Calls.{fresh_do}
use Rattle.book.proofs.Lengths.{capacity_by}
use Rattle.book_store.specs.Stored.{StoredAs}
use Rattle.run_fields.specs.Fields.{ShortPut}
use Rattle.run_output.specs.Shown.{pair_room, hold_room}
use Rattle.run_rows.specs.Rows.{Booked, pair_rows, pair_lines, hold_lines}
use Rattle.run_rows.proofs.Asked.{pairs_are, holds-are}
use Rattle.run_feed.specs.Steps.{starting, Running, AllFed}
use Rattle.run_feed.proofs.Fed.{fed-all, fed-none, booked}
use Rattle.run_bars.specs.Steps.{Begun}

-- ---- the fresh book

-- zeros of a book's length are made one
pub made : (zeros book : List ℕ) (r : Result (Unit {0}) OpenError) → length zeros ≡ 57696 → StoredAs (fresh_do zeros) zeros book r → IsOk r
unfolding fresh_do
made zeros book (Ok u) long stored = refl
made zeros book (Err e) long stored =
    let bars : capacity zeros ≡ Some run_bars = capacity_by zeros run_bars long (omega arith) (omega arith) in
    absurd (let z : Refused (open_refusal e) ≡ Got (fresh_book run_bars) = stored.is ∙ rw bars refl in let y : ◌≡◌ {A = ℕ} 0 1 = cc in omega arith)

-- zeros of a book's length are made a book of 900 bars, and the bars can be read
pub started : {s table out : List ℕ} {from : ℕ} → Begun s table out from → (zeros book signals : List ℕ) (r : Result (Unit {0}) OpenError) → length zeros ≡ 57696
    → StoredAs (fresh_do zeros) zeros book r → input_limit ≤ length signals → Running s table book signals out starting from
unfolding fresh_do
started {out = out} k zeros book signals r long stored room =
    let bars : capacity zeros ≡ Some run_bars = capacity_by zeros run_bars long (omega arith) (omega arith) in
    let is : book ≡ fresh_book run_bars = stored.bytes ∙ rw bars refl in
    record {
      sheet = k.sheet;
      done = [];
      fed = fed-none _ zeros book out k.sheet k.meant (run_bars, bars, is) refl k.clear;
      waits = tt;
      first = refl;
      read = k.read;
      within = k.within;
      short = k.short;
      few = omega arith;
      room = room;
      lines = omega arith;
      space = k.space;
    }

-- ---- what is printed

-- there is room for all rows
pub rows_ready : {s table b out : List ℕ} {at : ℕ} → AllFed s table b out at → Booked table b × (at + (run_bars + 1) * pair_room ≤ length out)
rows_ready f =
    let few = f.few in
    let space = f.space in
    (booked f.fed, omega arith)

pub holds_ready : {s table b out more : List ℕ} {at r : ℕ} → AllFed s table b out at → ShortPut (run_bars * pair_room) out more at (pair_lines table b) r
    → Booked table b × (r + (run_bars + 1) * hold_room ≤ length more)
holds_ready f ps =
    let few = f.few in
    let space = f.space in
    let short = ps.short in
    let kept = ps.put.kept in
    (booked f.fed, omega arith)

-- the bars' lines, the pairs and the holds
pub printed-all : {s table b out more last : List ℕ} {at r q n m : ℕ} → AllFed s table b out at → ShortPut n out more at (pair_lines table b) r
    → ShortPut m more last r (hold_lines b) q → Put (replicate (length out) 0) last 0 (run_do s) q
unfolding run_do feed_all pair_lines hold_lines booked
printed-all {s} {table} {b} {out} f ps hs =
    let sheet = f.asks.sheet in
    let inputs = f.asks.inputs in
    let st = state_after sheet fresh_state inputs in
    let k = booked f.fed in
    let pairs : flat_map pair_line (pair_rows table b) ≡ flat_map pair_line (pairs_of sheet st.records) = ap (flat_map pair_line) (pairs_are k) in
    let holds : flat_map hold_line (hold_rows (holds_of b)) ≡ flat_map hold_line (hold_rows st.holds) = ap (λ (os : List Hold). flat_map hold_line (hold_rows os)) (holds-are k) in
    rw (f.read, fed-all sheet fresh_state inputs, ← pairs, ← holds, ← append_assoc) (put-put (put-put f.fed.printed ps.put) hs.put)
