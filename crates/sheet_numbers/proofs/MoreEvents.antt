-- One event more: what its six numbers behind the others' make of a sheet. Assumes nothing.
use Prim.Native.Nat.{ℕ, suc, ◌+◌, ◌*◌, ◌<◌, ◌≤◌}
use native.Mathlib.Omega.{arith}
use native.Mathlib.Decide.{dec_lt}
use native.Mathlib.Numerals.{add-one}
use mathlib.Core.Path.{◌≡◌, ◌∙◌, refl, sym, ap}
use mathlib.Core.Bool.{Bool, true, false, not, ◌||◌, false≢true}
use mathlib.Core.List.{List, [], ◌∷◌, ◌++◌}
use lib.ListN.{length, get_or, take, drop}
use lib.Seq.{take-take}
use Rattle.list.specs.Numbered.{rows}
use Rattle.le.specs.Le.{part, patch}
use Rattle.sheet.specs.Sheet.{Event, event_limit, name_limit, lots_ok, exit_in, lots_in}
use Rattle.sheet.specs.Read.{with_events}
use Rattle.sheet.specs.Places.{clauses_at, clauses_before, event_at, event_number, EventOk, sheet_at, SheetOk}
use Rattle.sheet.specs.declared.SheetAt.{SheetAt}
use Rattle.sheet_numbers.specs.Counted.{counted, last_exit, in_place}
use Rattle.sheet_numbers.proofs.Rows.{number_same, event_same, event_ok-same, rows_snoc, row_before, row_here}
use Rattle.sheet_numbers.proofs.Counts.{before-next, before_same, settings-kept}

-- the numbers of an event that is read, and what holds of them
pub record EventNumbers (s es : List ℕ) (a : SheetAt) (kind operate from len : ℕ) : Type 0 where
  pub room : length es ≡ 192
  pub free : a.events < event_limit
  pub lots : lots_ok (lots_in kind) ≡ true
  pub single : exit_in kind ≡ true → lots_in kind ≡ 1
  pub operate-low : operate ≤ 6
  pub within : from + len ≤ length s
  pub brief : len ≤ name_limit
  pub place : in_place es a.events kind ≡ true

module _ {s es cs : List ℕ} {a : SheetAt} (ok : SheetOk s es cs a) {kind operate from len : ℕ} (e : EventNumbers s es a kind operate from len) where
  row : List ℕ
  row = kind ∷ operate ∷ from ∷ len ∷ a.clauses ∷ 0 ∷ []

  after : List ℕ
  after = patch es (6 * a.events) row

  fits : 6 * a.events + 6 ≤ length es
  fits = omega (arith, e.room, e.free)

  -- the first n numbers of each row before stay, and those of the new row are there
  earlier : (i n : ℕ) → i < a.events → n ≤ 6 → take n (drop (6 * i) after) ≡ take n (drop (6 * i) es)
  unfolding after row
  earlier i n h k = row_before es (6 * a.events) row fits (6 * i) n (omega arith)

  here : take 6 (drop (6 * a.events) after) ≡ row
  unfolding after row
  here = row_here es (6 * a.events) row fits

  old_number : (i j : ℕ) → i < a.events → j < 6 → event_number after i j ≡ event_number es i j
  old_number i j h k = number_same 6 j (drop (6 * i) after) (drop (6 * i) es) (earlier i 6 h (omega arith)) k

  new_number : (j : ℕ) → j < 6 → event_number after a.events j ≡ get_or row j 0
  unfolding row
  new_number j k = number_same 6 j (drop (6 * a.events) after) row here k

  here_five : take 5 (drop (6 * a.events) after) ≡ take 5 row
  unfolding row
  here_five = sym (take-take 5 6 (drop (6 * a.events) after) (omega arith)) ∙ ap (take 5) here

  new : Event
  new = record { exit = exit_in kind; operate = operate; name = part s from len; lots = lots_in kind; clauses = [] }

  new_is : event_at s (clauses_at s cs a) (drop (6 * a.events) after) ≡ new
  unfolding event_at row new
  new_is = event_same (drop (6 * a.events) after) row here_five s (clauses_at s cs a) (new_number 5 (omega arith))

  pub event_added : sheet_at s (patch es (6 * a.events) (kind ∷ operate ∷ from ∷ len ∷ a.clauses ∷ 0 ∷ [])) cs (counted a (a.events + 1) a.clauses)
      ≡ with_events (sheet_at s es cs a) ((sheet_at s es cs a).events ++ record { exit = exit_in kind; operate = operate; name = part s from len; lots = lots_in kind; clauses = [] } ∷ [])
  unfolding sheet_at after row new
  event_added = ap (with_events (sheet_at s es cs a)) (rw add-one (
      rows_snoc (event_at s (clauses_at s cs a)) (event_at s (clauses_at s cs a)) 6 a.events es after (λ i h. event_same (drop (6 * i) after) (drop (6 * i) es) (earlier i 5 h (omega arith)) s (clauses_at s cs a) (old_number i 5 h (omega arith)))
      ∙ ap (λ x. rows (event_at s (clauses_at s cs a)) 6 a.events es ++ x ∷ []) new_is))

  -- ---- the numbers stay in order

  before_old : (n : ℕ) → n ≤ a.events → clauses_before after n ≡ clauses_before es n
  before_old n h = before_same after es n (λ i k. old_number i 5 (omega arith) (omega arith))

  events-ok : (i : ℕ) → i < a.events + 1 → EventOk s (clauses_before after i) (drop (6 * i) after)
  unfolding row
  events-ok i h = elim (dec_lt i a.events) [
    | yes l ↦ rw (before_old i (omega arith)) (event_ok-same (drop (6 * i) es) (drop (6 * i) after) (sym (earlier i 5 l (omega arith))) (ok.events i l))
    | no l ↦ let g : i ≡ a.events = omega arith in rw (g, before_old a.events (omega arith)) (event_ok-same row (drop (6 * a.events) after) (sym here_five) fresh)
  ]
    where
      fresh : EventOk s (clauses_before es a.events) row
      fresh = record { lots = e.lots; single = e.single; operate = e.operate-low; name = e.within; brief = e.brief; clauses = sym ok.all }

  before-all : clauses_before after (a.events + 1) ≡ a.clauses
  unfolding row
  before-all = rw add-one (omega (arith, before-next after a.events, before_old a.events (omega arith), new_number 5 (omega arith), ok.all))

  last_rises : (i : ℕ) → suc i ≡ a.events → exit_in (event_number es i 0) ≡ true → exit_in kind ≡ true
  last_rises i h = go (exit_in kind) (exit_in (event_number es i 0)) (ap (λ n. exit_in kind || not (last_exit es n)) h ∙ e.place)
    where
      go : (t u : Bool) → (t || not u) ≡ true → u ≡ true → t ≡ true
      go true u r q = refl
      go false true r q = absurd (false≢true r)
      go false false r q = absurd (false≢true q)

  rises : (i : ℕ) → suc i < a.events + 1 → exit_in (event_number after i 0) ≡ true → exit_in (event_number after (suc i) 0) ≡ true
  unfolding row
  rises i h x = elim (dec_lt (suc i) a.events) [
    | yes l ↦ ap (λ k. exit_in k) (old_number (suc i) 0 l (omega arith)) ∙ ok.rise i l was
    | no l ↦ let g : suc i ≡ a.events = omega arith in
        ap (λ k. exit_in k) (ap (λ n. event_number after n 0) g ∙ new_number 0 (omega arith)) ∙ last_rises i g was
  ]
    where
      was : exit_in (event_number es i 0) ≡ true
      was = sym (ap (λ k. exit_in k) (old_number i 0 (omega arith) (omega arith))) ∙ x

  pub event_ok_lem : SheetOk s (patch es (6 * a.events) (kind ∷ operate ∷ from ∷ len ∷ a.clauses ∷ 0 ∷ [])) cs (counted a (a.events + 1) a.clauses)
  unfolding after row
  event_ok_lem = record {
    name = ok.name;
    symbol = ok.symbol;
    within = ok.within;
    brief-name = ok.brief-name;
    brief-symbol = ok.brief-symbol;
    settings = settings-kept ok.settings (a.events + 1) a.clauses;
    few = omega (arith, e.free);
    short = ok.short;
    events = events-ok;
    all = before-all;
    clauses = ok.clauses;
    rise = rises;
  }
