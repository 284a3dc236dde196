-- What the numbers of a sheet tell of its events: how many there are, how many clauses they have, whether one is an exit. Assumes nothing.
use Prim.Native.Nat.{ℕ, zero, suc, ◌+◌, ◌*◌, ◌<◌, ◌≤◌}
use native.Mathlib.Omega.{arith}
use native.Mathlib.Decide.{dec_le}
use mathlib.Core.Path.{◌≡◌, ◌∙◌, refl, sym}
use mathlib.Core.Bool.{Bool, true, false, cond, ◌||◌}
use mathlib.Core.List.{List, [], ◌∷◌, ◌++◌}
use lib.ListN.{length, drop, length-drop}
use lib.Seq.{length-take-le}
use Rattle.list.specs.Numbered.{numbered, rows}
use Rattle.list.proofs.Laws.{rows-length}
use Rattle.text.specs.Conditions.{any_of}
use Rattle.sheet.specs.Sheet.{Event, clause_count, exit_in}
use Rattle.sheet.specs.Read.{any_exit}
use Rattle.sheet.specs.Places.{
  clause_at,
  clauses_at,
  clause_numbers,
  event_at,
  event_numbers,
  event_number,
  clauses_before,
  sheet_at,
  SettingsOk,
  SheetOk,
}
use Rattle.sheet.specs.declared.SheetAt.{SheetAt}
use Rattle.sheet_numbers.specs.Counted.{counted, last_exit}

-- ---- clauses

count_snoc : (es : List Event) (e : Event) → clause_count (es ++ e ∷ []) ≡ clause_count es + length e.clauses
unfolding clause_count
count_snoc [] e = omega arith
count_snoc (d ∷ es) e = omega (arith, count_snoc es e)

-- the clauses of each event end where those of the next one start
counted-to : (f : ℕ → Event) (ends : ℕ → ℕ) (n : ℕ) → ends 0 ≡ 0 → ((i : ℕ) → i < n → ends i + length (f i).clauses ≡ ends (suc i)) → clause_count (numbered f n) ≡ ends n
unfolding clause_count numbered
counted-to f ends zero z h = sym z
counted-to f ends (suc n) z h = count_snoc (numbered f n) (f n) ∙ omega (arith, counted-to f ends n z (λ i k. h i (omega arith)), h n (omega arith))

-- ---- exits

any_snoc : (es : List Event) (e : Event) → any_exit (es ++ e ∷ []) ≡ (any_exit es || e.exit)
unfolding any_of
any_snoc [] e = go e.exit
  where
    go : (t : Bool) → cond t true false ≡ t
    go true = refl
    go false = refl
any_snoc (d ∷ es) e = go d.exit (any_snoc es e)
  where
    go : (t : Bool) → any_exit (es ++ e ∷ []) ≡ (any_exit es || e.exit) → cond t true (any_exit (es ++ e ∷ [])) ≡ (cond t true (any_exit es) || e.exit)
    go true k = refl
    go false k = k

-- behind an exit there are only exits
any_last : (f : ℕ → Event) (n : ℕ) → ((i : ℕ) → i < n → (f i).exit ≡ true → (f (suc i)).exit ≡ true) → any_exit (numbered f (suc n)) ≡ (f n).exit
unfolding numbered any_of
any_last f zero h = go (f 0).exit
  where
    go : (t : Bool) → cond t true false ≡ t
    go true = refl
    go false = refl
any_last f (suc n) h = any_snoc (numbered f (suc n)) (f (suc n)) ∙ rw (any_last f n (λ i k. h i (omega arith))) (go (f n).exit (f (suc n)).exit (h n (omega arith)))
  where
    go : (t u : Bool) → (t ≡ true → u ≡ true) → (t || u) ≡ u
    go true u k = sym (k refl)
    go false u k = refl

-- ---- of a sheet

pub before-none : (es : List ℕ) → clauses_before es 0 ≡ 0
unfolding clauses_before
before-none es = refl

pub before-next : (es : List ℕ) (n : ℕ) → clauses_before es (suc n) ≡ clauses_before es n + event_number es n 5
unfolding clauses_before
before-next es n = refl

pub before_rises : (es : List ℕ) (i n : ℕ) → i ≤ n → clauses_before es i ≤ clauses_before es n
before_rises es i zero h = let e : i ≡ 0 = omega arith in rw e (omega arith)
before_rises es i (suc n) h = elim (dec_le i n) [
  | yes l ↦ omega (arith, before_rises es i n l, before-next es n)
  | no l ↦ let e : i ≡ suc n = omega arith in rw e (omega arith)
]

-- counts that agree
pub before_same : (es fs : List ℕ) (n : ℕ) → ((i : ℕ) → i < n → event_number es i 5 ≡ event_number fs i 5) → clauses_before es n ≡ clauses_before fs n
unfolding clauses_before
before_same es fs zero h = refl
before_same es fs (suc n) h = omega (arith, before_same es fs n (λ i k. h i (omega arith)), h n (omega arith))

-- other counts, the same settings
pub settings-kept : {a : SheetAt} → SettingsOk a → (e c : ℕ) → SettingsOk (counted a e c)
settings-kept k e c = record { interval = k.interval; timeout = k.timeout; stop = k.stop; t0 = k.t0; evening = k.evening }

module _ {s es cs : List ℕ} {a : SheetAt} (ok : SheetOk s es cs a) where
  event : ℕ → Event
  event i = event_at s (clauses_at s cs a) (drop (event_numbers * i) es)

  pub event_total : length (sheet_at s es cs a).events ≡ a.events
  unfolding sheet_at
  event_total = rows-length (event_at s (clauses_at s cs a)) event_numbers a.events es

  clauses-length : length (clauses_at s cs a) ≡ a.clauses
  clauses-length = rows-length (clause_at s) clause_numbers a.clauses cs

  -- the clauses of an event are within
  pub span_within : (i : ℕ) → i < a.events → event_number es i 4 + event_number es i 5 ≤ a.clauses
  span_within i h = omega (arith, (ok.events i h).clauses, before-next es i, before_rises es (suc i) a.events h, ok.all)

  size : (i : ℕ) → i < a.events → length (event i).clauses ≡ event_number es i 5
  unfolding event_at event
  size i h =
      let g : event_number es i 5 ≤ length (drop (event_number es i 4) (clauses_at s cs a)) = rw length-drop (omega (arith, span_within i h, clauses-length)) in
      length-take-le (event_number es i 5) (drop (event_number es i 4) (clauses_at s cs a)) g

  pub clause_total : clause_count (sheet_at s es cs a).events ≡ a.clauses
  unfolding sheet_at rows event
  clause_total = counted-to event (clauses_before es) a.events (before-none es) (λ i h. omega (arith, size i h, before-next es i)) ∙ ok.all

  pub exit-last : any_exit (sheet_at s es cs a).events ≡ last_exit es a.events
  unfolding sheet_at rows event event_at numbered any_of
  exit-last = go a.events (λ i h. ok.rise i h)
    where
      go : (n : ℕ) → ((i : ℕ) → suc i < n → exit_in (event_number es i 0) ≡ true → exit_in (event_number es (suc i) 0) ≡ true) → any_exit (numbered event n) ≡ last_exit es n
      go zero h = refl
      go (suc n) h = any_last event n (λ i g e. h i (omega arith) e)
