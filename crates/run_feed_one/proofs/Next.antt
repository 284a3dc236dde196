-- The book of a bar that is fed: its length, and that it is still one of the plain machine. Assumes nothing.
use Prim.Native.Nat.{ℕ, ◌+◌, ◌*◌}
use native.Mathlib.Omega.{arith}
use mathlib.Core.List.{List}
use mathlib.Core.Path.{◌≡◌, sym, ap, subst, ◌∙◌}
use lib.Dec.{T}
use lib.Ieee.{binary64, fits}
use lib.ListN.{length}
use Rattle.position.specs.Feed.{Input, feed_state}
use Rattle.position.specs.Run.{next_state}
use Rattle.book.specs.Calls.{feed_do, feed_bytes}
use Rattle.book.proofs.Lengths.{length-encode}
use Rattle.history.proofs.Booked.{fed-next}
use Rattle.run_rows.specs.Rows.{Booked}
use Rattle.run_feed_one.specs.One.{Held}

pub book-long : {table b : List ℕ} → Booked table b → length b ≡ 57696
book-long {table} {b} k =
    let book = k.book in
    let c = book.bars in
    let room = book.room.holds in
    let few = book.sound.few in
    let bars = k.bars in
    ap length book.state ∙ length-encode c k.state room (omega arith) ∙ ap (λ (n : ℕ). 96 + 64 * n) bars

-- after a feed the book is still one of the plain machine
pub booked_next : {table b : List ℕ} → Booked table b → (i : Input) → T (fits binary64 i.price) → (next : List ℕ) → next ≡ feed_bytes b (feed_do table b i) → Booked table next
booked_next {table} {b} k i double next e =
    let n = fed-next table k.sheet k.meant k.state b k.book i double in
    let held : Held k.sheet (next_state k.state (feed_state k.sheet k.book.bars i k.state)) next =
    subst (Held k.sheet (next_state k.state (feed_state k.sheet k.book.bars i k.state))) (sym e) (n.book, n.bars ∙ k.bars) in
    record {
      sheet = k.sheet;
      state = next_state k.state (feed_state k.sheet k.book.bars i k.state);
      meant = k.meant;
      book = held.0;
      bars = held.1;
    }
