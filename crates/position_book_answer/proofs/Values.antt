-- The values of an answer by its parts. Assumes nothing.
use Prim.Native.Nat.{ℕ}
use mathlib.Core.Path.{◌≡◌, refl}
use mathlib.Core.Bool.{Bool, true, false}
use mathlib.Core.List.{[]}
use mir.Val.{bool_byte}
use lib.IntN.{ℤ}
use lib.Ieee.{Float}
use Rattle.text.specs.Answer.{Got}
use Rattle.position.specs.State.{pos_sign}
use Rattle.position.specs.declared.HoldRow.{HoldRow}
use Rattle.position.specs.declared.Report.{Report}
use Rattle.position.specs.declared.PairRow.{PairRow}
use Rattle.book.specs.Layout.{flag, yield_flag}
use Rattle.row_blocks.specs.Blocks.{side_sign}
use Rattle.position_book_answer.specs.Rows.{decision_code, decision_event, feed_answer, yield_value, pair_answer, hold_answer}

pub flag_is : (t : Bool) → bool_byte t ≡ flag t
flag_is true = refl
flag_is false = refl

pub feed_values : (r : Report) {z : ℤ} {t d e : ℕ} → z ≡ pos_sign r.pos → t ≡ flag r.changed → d ≡ decision_code r.decision → e ≡ decision_event r.decision
    → record { number = 0; pos = z; changed = t; decision = d; event = e } ≡ feed_answer (Got (record { after = []; report = r }))
feed_values r a b c d = rw (a, b, c, d) refl

pub hold_values : (o : HoldRow) {l z : ℤ} {t : ℕ} {x : Float} → l ≡ o.local.0 → z ≡ o.pos → t ≡ yield_flag o.n1b → x ≡ yield_value o.n1b
    → record { number = 0; local = l; pos = z; price = o.price; present = t; bp = x } ≡ hold_answer (Got o)
hold_values o a b c d = rw (a, b, c, d) refl

pub pair_values : (p : PairRow) {s a z i : ℤ} {t : ℕ} {x : Float} → s ≡ side_sign p.side → a ≡ p.opened.0 → z ≡ p.closed.0 → i ≡ p.ids → t ≡ yield_flag p.bp
    → x ≡ yield_value p.bp
    → record {
      number = 0;
      side = s;
      opened = a;
      closed = z;
      from = p.from;
      to = p.to;
      ids = i;
      days = p.days;
      present = t;
      bp = x;
      symbol = p.symbol;
      mark = p.mark;
      sequence = p.sequence;
      lots = p.lots;
    } ≡ pair_answer (Got p)
pair_values p a b c d e f = rw (a, b, c, d, e, f) refl
