-- What a line of the input does to the bars before it. Assumes nothing.
use Rattle.std.specs.Prelude.{Option, Some, None, is_some, not, Result, Ok, Err}
use mathlib.Core.Bool.{Bool, true, false, false≢true, true≢false}
use Prim.Native.Nat.{ℕ, ◌+◌, ◌-◌, ◌≤◌, ◌<◌}
use native.Mathlib.Omega.{arith}
use mathlib.Core.List.{List, [], ◌∷◌, ◌++◌, append-nil}
use mathlib.Core.Path.{◌≡◌, refl, sym, ap, subst, ◌∙◌}
use lib.ListN.{length, take, drop, length-append}
use lib.Seq.{slice, length-slice, length-take-le, take-append_seam, take-append-add, drop-append-le, drop-drop}
use Rattle.le.specs.Le.{patch}
use Rattle.text.specs.Answer.{Answer, Refused, Got, ◌>>=◌}
use Rattle.text.specs.Read.{Part, FirstAt, Put}
use Rattle.text.specs.Text.{LF, pipe, split}
use Rattle.text.proofs.Joined.{part-first}
use Rattle.text.proofs.Laws.{part-take}
use Rattle.text.proofs.Lines.{lines_from, lines_next, lines_cut, lines_end}
use Rattle.sheet.specs.Sheet.{Sheet}
use Rattle.bar.specs.declared.BarNumbers.{BarNumbers}
use Rattle.position.specs.Feed.{Input, input_of}
use Rattle.position.specs.Run.{add_signal, input_line, read_input}
use Rattle.run_input.specs.Lines.{input_refusal, LineAs}
use Rattle.run_input.specs.declared.InputError.{InputError}
use Rattle.run_input.specs.declared.InputLine.TheVariants as InputLine
use Rattle.run_output.specs.Shown.{feed_room}
use Rattle.run_rows.specs.Rows.{Booked}
use Rattle.run_feed.specs.Steps.{FedAll, waiting_input, WaitingOk, waiting_room, FedWaiting, First, IsBar, asked, Running, SignalPut, SignalAdded, TakenAs, AllFed}
use Rattle.run_feed.specs.declared.Progress.{Progress}
use Rattle.run_feed.proofs.Fed.{fed-step, booked}

-- ---- the bar that waits

-- it is fed, where there is one
pub fed-waiting : {table b next out more : List ℕ} {at r : ℕ} {sheet : Sheet} {done : List Input} (signals : List ℕ) (w : Option BarNumbers) → WaitingOk w → FedAll table b out at sheet done
    → FedWaiting table b next w signals out more at r → FedAll table next more r sheet (done ++ waiting_input w signals) × (r ≤ at + waiting_room w)
fed-waiting signals (Some w) double f one = (fed-step f double one, one.line.short)
fed-waiting {done = done} signals None double f (e, g, h) = (rw (e, g, h, append-nil done) f, omega arith)

-- whether one waits
pub none-waits : (w : Option BarNumbers) {none : Bool} → is_some w ≡ not none → none ≡ true → w ≡ None
none-waits None e h = refl
none-waits (Some b) e h = absurd (true≢false (e ∙ ap not h))

pub bar-waits : (w : Option BarNumbers) {none : Bool} → is_some w ≡ not none → none ≡ false → IsBar w
bar-waits None e h = absurd (false≢true (e ∙ ap not h))
bar-waits (Some b) e h = tt

-- a signal goes to the last bar
add-last : (is : List Input) (b : BarNumbers) (signals l : List ℕ) → add_signal l (is ++ input_of b signals ∷ []) ≡ Got (is ++ input_of b (signals ++ l) ∷ [])
unfolding add_signal
add-last [] b signals l = refl
add-last (i ∷ []) b signals l = refl
add-last (i ∷ j ∷ is) b signals l = rw (add-last (j ∷ is) b signals l) refl

pub add-waiting : (w : Option BarNumbers) → IsBar w → (is : List Input) (signals l : List ℕ) → add_signal l (is ++ waiting_input w signals) ≡ Got (is ++ waiting_input w (signals ++ l))
add-waiting (Some b) h is signals l = add-last is b signals l
add-waiting None h is signals l = absurd h

-- before the first bar it is in the wrong place
add_stray : (w : Option BarNumbers) → w ≡ None → (is : List Input) → First w is → (signals l : List ℕ) → add_signal l (is ++ waiting_input w signals) ≡ Refused 2
unfolding add_signal
add_stray (Some b) e is first signals l = absurd (let z : ◌≡◌ {A = ℕ} 0 1 = cc in omega arith)
add_stray None e is first signals l = rw first refl

-- ---- texts

-- the line with its LF, behind its first two bytes
line-text : {s : List ℕ} {from to : ℕ} → Part s from (length s) → FirstAt s from (length s) LF to → to < length s → from + 2 ≤ to
    → drop 2 (slice from to s) ++ LF ∷ [] ≡ slice (from + 2) (to + 1) s
line-text {s} {from} {to} p f h two =
    let l = slice from to s in
    let size : length l ≡ to - from = length-slice from to s (omega arith) in
    let whole : slice from (to + 1) s ≡ l ++ LF ∷ [] =
    ap (λ (k : ℕ). slice from k s) (let e : to + 1 ≡ from + (length l + 1) = omega arith in e)
    ∙ sym (part-take from (length s) (length l + 1) s (omega arith)) ∙ ap (take (length l + 1)) (part-first p f h)
    ∙ take-append-add l (LF ∷ slice (to + 1) (length s) s) 1 in
    sym (drop-append-le 2 l (LF ∷ []) (omega arith)) ∙ ap (drop 2) (sym whole) ∙ drop-drop 2 from (take (to + 1) s)

-- what was written behind the first n bytes
take_put : {l m t : List ℕ} {n r : ℕ} → Put l m n t r → take r m ≡ take n l ++ t
unfolding patch
take_put {l} {m} {t} {n} {r} p =
    let fit = p.fit in
    let end = p.end in
    let size : length (take n l ++ t) ≡ r = rw length-append (omega (arith, length-take-le n l (omega arith))) in
    ap (take r) p.written ∙ ap (λ (k : ℕ). take k (take n l ++ t ++ drop (n + length t) l)) (sym size) ∙ take-append_seam (take n l ++ t) (drop (n + length t) l)

-- ---- a line that was read

module _ {s table b signals out : List ℕ} {p : Progress} {from : ℕ} (k : Running s table b signals out p from) where
  abbrev before : List Input
  before = k.done ++ waiting_input p.waiting (take p.signals signals)

  rest : Part s from (length s)
  rest = record { order = k.within; within = omega arith }

  -- the bar that waits can be fed
  pub waiting_ready : Booked table b × (WaitingOk p.waiting × ((p.signals ≤ length signals) × (p.at + feed_room ≤ length out)))
  waiting_ready =
      let within = k.within in
      let short = k.short in
      let few = k.few in
      let room = k.room in
      let lines = k.lines in
      let space = k.space in
      (booked k.fed, (k.waits, (omega arith, omega arith)))

  -- no line is left
  pub read-end : length s ≤ from → read_input s ≡ Got (record { sheet = k.sheet; inputs = before })
  read-end h = k.read ∙ ap (asked k.sheet) (lines_end input_line before s from h)

  -- and the last bar is fed: all of them are
  pub all-fed : length s ≤ from → (next more : List ℕ) (r : ℕ) → FedWaiting table b next p.waiting (take p.signals signals) out more p.at r
      → length more ≡ length out → AllFed s table next more r
  all-fed h next more r fed size =
      let done = fed-waiting (take p.signals signals) p.waiting k.waits k.fed fed in
      let most = done.1 in
      let lines = k.lines in
      let within = k.within in
      let short = k.short in
      let space = k.space in
      record { asks = record { sheet = k.sheet; inputs = before }; read = read-end h; fed = done.0; few = omega arith; space = omega arith }

  module _ {to : ℕ} (f : FirstAt s from (length s) LF to) where
    -- "no LF" (2)
    pub read-cut : from < length s → to ≡ length s → read_input s ≡ Refused 2
    read-cut h e = k.read ∙ ap (asked k.sheet) (lines_cut input_line before rest f h e)

    module _ (h : to < length s) where
      read-line : read_input s ≡ asked k.sheet (input_line before (split pipe (slice from to s)) >>= λ is. lines_from input_line is s (to + 1))
      read-line = k.read ∙ ap (asked k.sheet) (lines_next input_line before rest f h)

      read-refused : (n : ℕ) → Refused n ≡ input_line before (split pipe (slice from to s)) → read_input s ≡ Refused n
      read-refused n e = read-line ∙ ap (λ (a : Answer (List Input)). asked k.sheet (a >>= λ is. lines_from input_line is s (to + 1))) (sym e)

      read_next : (is : List Input) → Got is ≡ input_line before (split pipe (slice from to s)) → read_input s ≡ asked k.sheet (lines_from input_line is s (to + 1))
      read_next is e = read-line ∙ ap (λ (a : Answer (List Input)). asked k.sheet (a >>= λ js. lines_from input_line js s (to + 1))) (sym e)

      -- "a wrong tag, place or field count (2) or a malformed B field (3)"
      pub took_refused : (e : InputError) → LineAs (slice from to s) (Err e) → read_input s ≡ Refused (input_refusal e)
      took_refused e l = read-refused (input_refusal e) (l.is before)

      -- a bar: the one that waited is fed, and it waits
      pub took_bar : (w : BarNumbers) → LineAs (slice from to s) (Ok (InputLine.Bar w)) → (next more : List ℕ) (r : ℕ)
          → FedWaiting table b next p.waiting (take p.signals signals) out more p.at r → length more ≡ length out
          → Running s table next signals more (record { waiting = Some w; signals = 0; at = r }) (to + 1)
      took_bar w l next more r fed size =
          let done = fed-waiting (take p.signals signals) p.waiting k.waits k.fed fed in
          let long : length (slice from to s) ≡ to - from = length-slice from to s (omega arith) in
          let wide = l.ok.1 in
          let lines = k.lines in
          let most = done.1 in
          let space = k.space in
          record {
            sheet = k.sheet;
            done = before;
            fed = done.0;
            waits = l.ok.0;
            first = tt;
            read = read_next (before ++ input_of w [] ∷ []) (l.is before);
            within = omega arith;
            short = k.short;
            few = omega arith;
            room = k.room;
            lines = omega arith;
            space = omega arith;
          }

      -- a signal of the bar that waits, or of none
      pub signal_ready : LineAs (slice from to s) (Ok InputLine.Signal) → ((from + 2 ≤ to) × (to < length s)) × (p.signals + to ≤ from + length signals)
      signal_ready l =
          let long : length (slice from to s) ≡ to - from = length-slice from to s (omega arith) in
          let two = l.ok in
          let short = k.short in
          let few = k.few in
          let room = k.room in
          ((omega arith, omega arith), omega arith)

      pub took_signal : LineAs (slice from to s) (Ok InputLine.Signal) → (more : List ℕ) (q : Progress) → SignalPut s from to signals more p q → IsBar p.waiting
          → Running s table b more out q (to + 1)
      took_signal l more q put bar =
          let long : length (slice from to s) ≡ to - from = length-slice from to s (omega arith) in
          let two = l.ok in
          let text : drop 2 (slice from to s) ++ LF ∷ [] ≡ slice (from + 2) (to + 1) s = line-text rest f h (omega arith) in
          let size : length (slice (from + 2) (to + 1) s) ≡ to + 1 - (from + 2) = length-slice (from + 2) (to + 1) s (omega arith) in
          let new : take q.signals more ≡ take p.signals signals ++ (drop 2 (slice from to s) ++ LF ∷ []) = take_put put.put ∙ ap (λ (t : List ℕ). take p.signals signals ++ t) (sym text) in
          let is : Got (k.done ++ waiting_input p.waiting (take p.signals signals ++ (drop 2 (slice from to s) ++ LF ∷ []))) ≡ input_line before (split pipe (slice from to s)) =
          sym (add-waiting p.waiting bar k.done (take p.signals signals) (drop 2 (slice from to s) ++ LF ∷ [])) ∙ l.is before in
          let kept = put.put.kept in
          let end = put.put.end in
          let few = k.few in
          let room = k.room in
          let lines = k.lines in
          record {
            sheet = k.sheet;
            done = k.done;
            fed = rw put.at k.fed;
            waits = rw put.waiting k.waits;
            first = rw put.waiting k.first;
            read = rw (put.waiting, new) (read_next _ is);
            within = omega arith;
            short = k.short;
            few = omega arith;
            room = omega arith;
            lines = rw (put.at, put.waiting) (omega arith);
            space = k.space;
          }

      pub took_stray : LineAs (slice from to s) (Ok InputLine.Signal) → p.waiting ≡ None → read_input s ≡ Refused 2
      took_stray l e = read-refused 2 (sym (add_stray p.waiting e k.done k.first (take p.signals signals) (drop 2 (slice from to s) ++ LF ∷ [])) ∙ l.is before)

      pub took_added : LineAs (slice from to s) (Ok InputLine.Signal) → (more : List ℕ) (r : Result Progress InputError) → SignalAdded s from to signals more p r → TakenAs s table b more out to r
      took_added l more (Ok q) a = took_signal l more q a.0 a.1
      took_added l more (Err e) a = rw a.0 (took_stray l a.2)

-- ---- the loop

-- what is known before each line, and that the lent lists keep their lengths
pub record Looping (s table first heard clean b signals out : List ℕ) (p : Progress) (i : ℕ) : Type 0 where
  pub running : Running s table b signals out p i
  pub book : length b ≡ length first
  pub notes : length signals ≡ length heard
  pub paper : length out ≡ length clean

module _ {s table first heard clean b signals out : List ℕ} {p : Progress} {i : ℕ} (l : Looping s table first heard clean b signals out p i) where
  pub looping_next : (next notes more : List ℕ) (to : ℕ) (r : Result Progress InputError) (q : Progress) → TakenAs s table next notes more to r → r ≡ Ok q
      → length next ≡ length b → length notes ≡ length signals → length more ≡ length out → Looping s table first heard clean next notes more q (to + 1)
  looping_next next notes more to r q t e x y z =
      record { running = subst (TakenAs s table next notes more to) e t; book = x ∙ l.book; notes = y ∙ l.notes; paper = z ∙ l.paper }

pub refused_with : (s table next notes more : List ℕ) (to : ℕ) (r : Result Progress InputError) (q : InputError) → TakenAs s table next notes more to r → r ≡ Err q → read_input s ≡ Refused (input_refusal q)
refused_with s table next notes more to r q t e = subst (TakenAs s table next notes more to) e t
