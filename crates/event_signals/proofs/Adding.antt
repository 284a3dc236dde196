-- One line more of a bar's signals: refused, or kept behind those that are read. Assumes nothing.
use Rattle.event_signals.specs.declared.SignalsError.TheVariants.{PastLimit, NotUtf8, Twice}
use Rattle.std.specs.Prelude.{Option, None, Some, is_some, Ok, Err}
use mathlib.Core.Path.{◌≡◌, ◌∙◌, sym, ap, ap₂}
use mathlib.Core.Logic.{◌≢◌}
use mathlib.Core.Bool.{true, false}
use mathlib.Core.List.{List, [], ◌∷◌, ◌++◌}
use Prim.Native.Nat.{ℕ, suc, ◌+◌, ◌-◌, ◌≤◌, ◌<◌}
use native.Mathlib.Decide.{dec_lt}
use native.Mathlib.Omega.{arith}
use borrow.Author.Tests.{lt-ltb, le-ltb, le-leb, lt-leb}
use lib.ListN.{length, get_or, take, drop, set, length-set}
use lib.Seq.{slice, get_or-set_same, get_or-set_other}
use Rattle.list.specs.Numbered.{numbered}
use Rattle.list.proofs.Laws.{numbered-same}
use Rattle.text.specs.Answer.{Answer, Refused, Got, ◌>>=◌}
use Rattle.text.specs.Text.{split, each_line, LF}
use Rattle.text.proofs.Answers.{got_then}
use Rattle.text.proofs.Laws.{part-size, part_end}
use Rattle.text.proofs.Lines.{lines_end}
use Rattle.utf8.specs.Utf8.{utf8}
use Rattle.utf8.specs.Alone.{text, text_limit}
use Rattle.event.specs.Signals.{Line, line_limit, has_key, signal_line, read_signals}
use Rattle.event_find.specs.Places.{print, line_at, lines_at, LineOk}
use Rattle.event_signals.specs.Read.{SignalsAs}
use Rattle.event_find.specs.Steps.{FoundAs}
use Rattle.event_line.specs.Fields.{signals_from, TwoFields}
use Rattle.event_signals.specs.Read.{Room}
use Rattle.event_signals.specs.Steps.{Reading, Onward}
use Rattle.event_find.proofs.Seek.{lines-length}

-- ---- what a line of two fields adds: "12, count"

module _ (ls : List Line) (k v : List ℕ) where
  adds_twice : has_key k ls ≡ true → signal_line ls (k ∷ v ∷ []) ≡ Refused 12
  unfolding signal_line
  adds_twice e = rw e

  adds_past : has_key k ls ≡ false → line_limit ≤ length ls → signal_line ls (k ∷ v ∷ []) ≡ Refused 7
  unfolding signal_line
  adds_past e h = rw (e, le-ltb (length ls) line_limit h)

  adds_one : has_key k ls ≡ false → length ls < line_limit → signal_line ls (k ∷ v ∷ []) ≡ Got (ls ++ record { key = k; value = v } ∷ [])
  unfolding signal_line
  adds_one e h = rw (e, lt-ltb (length ls) line_limit h)

-- ---- the places with one line more

module _ (s starts mids : List ℕ) (n mid end : ℕ) where
  abbrev later : List ℕ
  later = set starts (n + 1) (end + 1)

  abbrev between : List ℕ
  between = set mids n mid

  kept_line : (i : ℕ) → i < n → line_at s later between i ≡ line_at s starts mids i
  kept_line i h =
      rw (
        get_or-set_other starts (n + 1) i (end + 1) 0 (omega arith),
        get_or-set_other starts (n + 1) (i + 1) (end + 1) 0 (omega arith),
        get_or-set_other mids n i mid 0 (omega arith),
      )

  module _ {from : ℕ} (here : get_or starts n 0 ≡ from) (few : n < line_limit) (more : line_limit < length starts) (room : line_limit ≤ length mids) where
    start_is : get_or later n 0 ≡ from
    start_is = get_or-set_other starts (n + 1) n (end + 1) 0 (omega arith) ∙ here

    next-is : get_or later (n + 1) 0 ≡ end + 1
    next-is = get_or-set_same starts (n + 1) (end + 1) 0 (omega arith)

    mid_is : get_or between n 0 ≡ mid
    mid_is = get_or-set_same mids n mid 0 (omega arith)

    new_line : line_at s later between n ≡ record { key = slice from mid s; value = slice (mid + 1) end s }
    new_line =
        let e : end + 1 - 1 ≡ end = omega arith in
        rw (start_is, next-is, mid_is, e)

    lines_grown : lines_at s later between (n + 1) ≡ lines_at s starts mids n ++ record { key = slice from mid s; value = slice (mid + 1) end s } ∷ []
    unfolding lines_at numbered
    lines_grown =
        let e : n + 1 ≡ suc n = omega arith in
        ap (numbered (line_at s later between)) e
        ∙ ap₂ (λ (ls : List Line) (l : Line). ls ++ l ∷ []) (numbered-same (line_at s later between) (line_at s starts mids) n kept_line) new_line

-- ---- `add_line`

-- whether some line has the key
pub found-has : (k s starts mids : List ℕ) (n : ℕ) (r : Option ℕ) → FoundAs k s starts mids n r → has_key k (lines_at s starts mids n) ≡ is_some r
found-has k s starts mids n (Some i) m = m.has
found-has k s starts mids n None m = m.has

module _ {s starts mids prints : List ℕ} {n from : ℕ} (g : Reading s starts mids prints n from) where
  abbrev lines : List Line
  lines = lines_at s starts mids n

  size : length lines ≡ n
  size = lines-length s starts mids n

  module _ {mid end : ℕ} (f : TwoFields s from mid end) where
    -- what the line makes of the whole
    whole : (a : Answer (List Line)) → signal_line lines (slice from mid s ∷ slice (mid + 1) end s ∷ []) ≡ a → (a >>= λ y. signals_from y s (end + 1)) ≡ read_signals s
    whole a e = ap (λ (b : Answer (List Line)). b >>= λ y. signals_from y s (end + 1)) (sym e) ∙ sym (f.next lines) ∙ g.still

    pub line_twice : has_key (take (mid - from) (drop from s)) lines ≡ true → SignalsAs s starts mids prints (Err Twice)
    line_twice m =
        let has = rw (part-size from mid s f.first) at m in
        record { is = whole (Refused 12) (adds_twice lines (slice from mid s) (slice (mid + 1) end s) has); ok = tt }

    module _ (m : has_key (take (mid - from) (drop from s)) lines ≡ false) where
      new : has_key (slice from mid s) lines ≡ false
      new = rw (part-size from mid s f.first) at m

      pub line-past : n ≡ line_limit → SignalsAs s starts mids prints (Err PastLimit)
      line-past e = record { is = whole (Refused 7) (adds_past lines (slice from mid s) (slice (mid + 1) end s) new (omega (arith, size))); ok = tt }

      module _ (q : n ≢ line_limit) where
        few : n < line_limit
        few = omega (arith, g.lines.few)

        grown : lines_at s (set starts (n + 1) (end + 1)) (set mids n mid) (n + 1) ≡ lines ++ record { key = slice from mid s; value = slice (mid + 1) end s } ∷ []
        grown = lines_grown s starts mids n mid end g.here few g.lines.starts-room g.lines.mids_room

        line_ok : {h : ℕ} → h ≡ print (slice from mid s) → (i : ℕ) → i < n + 1 → LineOk s (set starts (n + 1) (end + 1)) (set mids n mid) (set prints n h) i
        line_ok {h} e i b = elim (dec_lt i n) [ yes l ↦ old l | no l ↦ last (omega arith) ]
          where
            old : i < n → LineOk s (set starts (n + 1) (end + 1)) (set mids n mid) (set prints n h) i
            old l =
                let k = g.lines.lines i l in
                let a = get_or-set_other starts (n + 1) i (end + 1) 0 (omega arith) in
                let z = get_or-set_other starts (n + 1) (i + 1) (end + 1) 0 (omega arith) in
                let m = get_or-set_other mids n i mid 0 (omega arith) in
                record {
                  key = rw (a, m) k.key;
                  value = rw (m, z) k.value;
                  within = rw z k.within;
                  printed = rw (a, m, get_or-set_other prints n i h 0 (omega arith)) k.printed;
                }

            last : i ≡ n → LineOk s (set starts (n + 1) (end + 1)) (set mids n mid) (set prints n h) i
            last j =
                let a = start_is s starts mids n mid end g.here few g.lines.starts-room g.lines.mids_room in
                let z = next-is s starts mids n mid end g.here few g.lines.starts-room g.lines.mids_room in
                let m = mid_is s starts mids n mid end g.here few g.lines.starts-room g.lines.mids_room in
                rw j (record {
                  key = rw (a, m) f.first;
                  value = rw (m, z) (omega (arith, f.second));
                  within = rw z (omega (arith, f.within));
                  printed = rw (a, m, get_or-set_same prints n h 0 (omega (arith, g.lines.prints_room))) e;
                })

        pub line-more : {h : ℕ} → h ≡ print (slice from mid s) → Onward s (set starts (n + 1) (end + 1)) (set mids n mid) (set prints n h) n from (end + 1)
        line-more {h} e = record {
          more = omega (arith, f.first, f.second);
          reading = record {
            lines = record {
              starts-room = rw (length-set starts (n + 1) (end + 1)) g.lines.starts-room;
              mids_room = rw (length-set mids n mid) g.lines.mids_room;
              prints_room = rw (length-set prints n h) g.lines.prints_room;
              few = omega (arith, few);
              lines = line_ok e;
            };
            here = next-is s starts mids n mid end g.here few g.lines.starts-room g.lines.mids_room;
            within = omega (arith, f.within);
            still =
                rw grown
                (whole (Got (lines ++ record { key = slice from mid s; value = slice (mid + 1) end s } ∷ [])) (adds_one lines (slice from mid s) (slice (mid + 1) end s) new (omega (arith, size, few))));
          };
        }

-- ---- `read_lines`

module _ (s starts mids prints : List ℕ) (fine : text s ≡ Got tt) (room : Room starts mids prints) where
  signals-text : each_line signal_line [] (split LF s) ≡ read_signals s
  unfolding read_signals
  signals-text = got_then (λ _. each_line signal_line [] (split LF s)) (sym fine)

  pub reading-first : Reading s (set starts 0 0) mids prints 0 0
  unfolding lines_at numbered
  reading-first = record {
    lines = record {
      starts-room = rw (length-set starts 0 0) room.starts-room;
      mids_room = room.mids_room;
      prints_room = room.prints_room;
      few = omega arith;
      lines = λ i h. absurd (omega arith);
    };
    here = get_or-set_same starts 0 0 0 (omega (arith, room.starts-room));
    within = omega arith;
    still = ap (λ t. each_line signal_line [] (split LF t)) (part_end 0 s) ∙ signals-text;
  }

pub reading-last : {s starts mids prints : List ℕ} {n i : ℕ} → Reading s starts mids prints n i → length s ≤ i → SignalsAs s starts mids prints (Ok n)
reading-last {s} {starts} {mids} {prints} {n} {i} g h = record { is = sym (lines_end signal_line (lines_at s starts mids n) s i h) ∙ g.still; ok = g.lines }

-- ---- `read_signals`: "signals (7, 1, then per line ..)"

module _ {s starts mids prints : List ℕ} where
  pub signals-long : text_limit < length s → SignalsAs s starts mids prints (Err PastLimit)
  unfolding read_signals text
  signals-long h = record { is = rw (lt-leb (length s) text_limit h); ok = tt }

  pub signals-bytes : length s ≤ text_limit → utf8 s ≡ false → SignalsAs s starts mids prints (Err NotUtf8)
  unfolding read_signals text
  signals-bytes h e = record { is = rw (le-leb (length s) text_limit h, e); ok = tt }

pub signals-fine : (s : List ℕ) → length s ≤ text_limit → utf8 s ≡ true → text s ≡ Got tt
unfolding text
signals-fine s h e = rw (le-leb (length s) text_limit h, e)
