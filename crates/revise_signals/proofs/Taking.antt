-- S lines one after another: the invariant of the loop that copies them, and each way out of it. Assumes nothing.
use Prim.Native.Nat.{ℕ, ◌+◌, ◌-◌, ◌<◌, ◌≤◌}
use native.Mathlib.Omega.{arith}
use mathlib.Core.Bool.{true, false}
use mathlib.Core.List.{List, [], ◌++◌, append-nil, append_assoc}
use mathlib.Core.Path.{◌≡◌, refl, sym, ap, ◌∙◌}
use lib.ListN.{length, take, drop, length-append}
use lib.Seq.{slice, length-slice, length-take-le, drop-drop, take_at, slice_empty}
use Rattle.le.specs.Le.{patch}
use Rattle.text.specs.Read.{Put}
use Rattle.utf8.specs.Alone.{text_limit}
use Rattle.revise.specs.Lines.{is_signal, bar_count, signal_lines}
use Rattle.revise.specs.Entries.{entries}
use Rattle.revise.specs.Places.{lines_in, LineEnd}
use Rattle.revise.proofs.Lines.{lines_end, part_two}
use Rattle.revise.proofs.Tags.{signal-long, signals-more, entries-more, bars-more, signals-stop, signals-none}
use Rattle.revise_signals.specs.Taken.{Copied, TooMany}

-- ---- the loop

-- the S lines of s in from..at are copied: `size` bytes
pub record Taking (s : List ℕ) (from : ℕ) (signals : List ℕ) (at size : ℕ) : Type 0 where
  pub low : from ≤ at
  pub high : at ≤ length s
  pub few : size ≤ length signals
  pub room : length signals ≡ text_limit
  pub text : signal_lines 2 (lines_in s from) ≡ take size signals ++ signal_lines 2 (lines_in s at)
  pub raw : signal_lines 0 (lines_in s from) ≡ slice from at s ++ signal_lines 0 (lines_in s at)
  pub rest : entries (lines_in s from) ≡ entries (lines_in s at)
  pub bars : bar_count (lines_in s from) ≡ bar_count (lines_in s at)

pub taking_first : {s signals : List ℕ} {from : ℕ} → from ≤ length s → length signals ≡ text_limit → Taking s from signals from 0
taking_first {s} {signals} {from} h k = record {
  low = omega arith;
  high = h;
  few = omega arith;
  room = k;
  text = refl;
  raw = sym (ap (λ l. l ++ signal_lines 0 (lines_in s from)) (slice_empty from s));
  rest = refl;
  bars = refl;
}

-- what was written stands behind what was there
pub put-take : {l m t : List ℕ} {at r : ℕ} → Put l m at t r → at ≤ length l → take r m ≡ take at l ++ t
unfolding patch
put-take {l} {m} {t} {at} {r} p h =
    ap (take r) p.written
    ∙ take_at (take at l ++ t) (drop (at + length t) l) r (length-append (take at l) t ∙ ap (λ (n : ℕ). n + length t) (length-take-le at l h) ∙ sym p.end)

module _ {s : List ℕ} {from : ℕ} {signals : List ℕ} {at size : ℕ} (w : Taking s from signals at size) where
  ended : (end : ℕ) → end ≡ at → signal_lines 0 (lines_in s at) ≡ [] → signal_lines 2 (lines_in s at) ≡ [] → Copied s from end size signals
  ended end e h k = rw e record {
    run = record {
      low = w.low;
      high = w.high;
      lines = w.raw ∙ ap (λ l. slice from at s ++ l) h ∙ append-nil (slice from at s);
      rest = w.rest;
      bars = w.bars;
      stop = h;
    };
    few = omega (arith, w.few, w.room);
    room = w.room;
    text = w.text ∙ ap (λ l. take size signals ++ l) k ∙ append-nil (take size signals);
  }

  -- the text ends
  pub taking_last : length s ≤ at → Copied s from at size signals
  taking_last h =
      let none = lines_end s at h in
      ended at refl (ap (signal_lines 0) none ∙ signals-none 0) (ap (signal_lines 2) none ∙ signals-none 2)

  module _ {end : ℕ} (e : LineEnd s at end) where
    abbrev pub line : List ℕ
    line = slice at end s

    -- another line
    pub taking_stop : is_signal line ≡ false → Copied s from at size signals
    taking_stop h =
        ended at refl (ap (signal_lines 0) e.is ∙ signals-stop line (lines_in s end) 0 h) (ap (signal_lines 2) e.is ∙ signals-stop line (lines_in s end) 2 h)

    module _ (h : is_signal line ≡ true) where
      pub tagged : at + 2 ≤ end
      tagged = omega (arith, signal-long line h, length-slice at end s e.high, e.low)

      behind : drop 2 line ≡ slice (at + 2) end s
      behind = drop-drop 2 at (take end s)

      here : signal_lines 2 (lines_in s from) ≡ take size signals ++ (slice (at + 2) end s ++ signal_lines 2 (lines_in s end))
      here = w.text ∙ ap (λ ls. take size signals ++ signal_lines 2 ls) e.is ∙ ap (λ l. take size signals ++ l) (signals-more line (lines_in s end) h 2 ∙ ap (λ l. l ++ signal_lines 2 (lines_in s end)) behind)

      -- no room for it
      pub taking_many : length signals - size < end - (at + 2) → TooMany s from signals
      taking_many k = record {
        many = omega (
          arith,
          ap length here,
          length-append (take size signals) (slice (at + 2) end s ++ signal_lines 2 (lines_in s end)),
          length-take-le size signals w.few,
          length-append (slice (at + 2) end s) (signal_lines 2 (lines_in s end)),
          length-slice (at + 2) end s e.high,
          w.room,
          w.few,
        );
        room = w.room;
      }

      -- one more
      pub taking_next : {more : List ℕ} {r : ℕ} → Put signals more size (slice (at + 2) end s) r → Taking s from more end r
      taking_next {more} {r} p = record {
        low = omega (arith, w.low, e.low);
        high = e.high;
        few = omega (arith, p.fit, p.kept);
        room = p.kept ∙ w.room;
        text = here ∙ sym (append_assoc (take size signals) (slice (at + 2) end s) (signal_lines 2 (lines_in s end))) ∙ ap (λ l. l ++ signal_lines 2 (lines_in s end)) (sym (put-take p w.few));
        raw = w.raw ∙ ap (λ ls. slice from at s ++ signal_lines 0 ls) e.is ∙ ap (λ l. slice from at s ++ l) (signals-more line (lines_in s end) h 0)
            ∙ sym (append_assoc (slice from at s) line (signal_lines 0 (lines_in s end))) ∙ ap (λ l. l ++ signal_lines 0 (lines_in s end)) (sym (part_two from at end s w.low (omega (arith, e.low)) e.high));
        rest = w.rest ∙ ap entries e.is ∙ entries-more line (lines_in s end) h;
        bars = w.bars ∙ ap bar_count e.is ∙ bars-more line (lines_in s end) h;
      }
