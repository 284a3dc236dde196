-- A bar writes at most one record, whatever the head was: of this bar, with the pos after it, an operate that opens or closes, and an event of
-- the sheet where it names one. Assumes nothing.
use Prim.Native.Nat.{ℕ, zero, suc, ◌≤◌, ◌<◌}
use native.Mathlib.Omega.{arith}
use mathlib.Core.Bool.{Bool, true, false, not, cond, ◌&&◌, false≢true}
use mathlib.Core.List.{List, [], ◌∷◌}
use mathlib.Core.Logic.{◌⊎◌, inl, inr}
use Rattle.std.specs.Prelude.{Option, None, Some, slice_get}
use mathlib.Core.Path.{◌≡◌, refl, sym, ap, ◌∙◌, subst}
use lib.Dec.{eqb}
use lib.ListN.{length}
use borrow.Author.Tests.{eqb-true}
use Rattle.position.specs.declared.LastEvent.{LastEvent}
use Rattle.double.specs.declared.Side.{Side}
use Rattle.double.proofs.Branches.{both}
use Rattle.operate.specs.Operate.{LO, SO}
use Rattle.bar.specs.declared.Bar.{Bar}
use Rattle.sheet.specs.Sheet.{Event, Sheet}
use Rattle.event.specs.Signals.{Line}
use Rattle.event.specs.Match.{first_match}
use Rattle.position.specs.State.{trades}
use Rattle.position.specs.Step.{Going, choice_at, choice_of, choose, other, open_of, close_of, pos_of, on, last_open, allowed, may_close, stopped, timed_out, write, open_now, arrive, open_or_close, close_on, closing, going, step_head}
use Rattle.position.specs.declared.Choice.{Choice}
use Rattle.position.specs.declared.Pos.{Pos}
use Rattle.position.specs.declared.Pos.TheVariants.{Flat}
use Rattle.position.specs.declared.Head.{Head}
use Rattle.position.specs.declared.Description.{Description}
use Rattle.position.specs.declared.Description.TheVariants.{Event as ByEvent, Stop, Timeout}
use Rattle.position.specs.declared.Record.{Record}
use Rattle.position_laws.proofs.Acts.{closing_flat, going-opens, going_closes}

-- ---- what a bar writes

-- an event that a description names is one of the sheet's
abbrev pub Named : Sheet → Description → Type 0
Named s (ByEvent i) = i < length s.events
Named s Stop = Unit {0}
Named s Timeout = Unit {0}

-- r is the record of the bar b, after which the head is h
pub record Recorded (s : Sheet) (b : Bar) (h : Head) (r : Record) : Type 0 where
  pub changed : h.changed ≡ true
  pub bar : r.bar ≡ b
  pub pos : r.pos ≡ h.pos
  pub operate : trades r.operate ≡ true
  pub named : Named s r.description

-- no record, or one
abbrev pub Written : Sheet → Bar → Head → List Record → Type 0
Written s b h [] = h.changed ≡ false
Written s b h (r ∷ []) = Recorded s b h r
Written s b h (r ∷ q ∷ rs) = ⊥

-- ---- the event chosen is one of the sheet's where its operate opens or closes

pub event_known : (s : Sheet) (ls : List Line) → trades (choose s ls).operate ≡ true → (choose s ls).event < length s.events
unfolding choose
event_known s ls t = chosen (first_match s.events ls) t
  where
    within : (es : List Event) (i k : ℕ) → trades (choice_at k (slice_get es i)).operate ≡ true → i < length es
    within [] i k t = absurd (false≢true t)
    within (e ∷ es) zero k t = omega arith
    within (e ∷ es) (suc i) k t = omega (arith, within es i k t)

    index : (i : ℕ) (e : Option Event) → trades (choice_at i e).operate ≡ true → i < length s.events → (choice_at i e).event < length s.events
    index i None t h = absurd (false≢true t)
    index i (Some e) t h = h

    chosen : (o : Option ℕ) → trades (choice_of s.events o).operate ≡ true → (choice_of s.events o).event < length s.events
    chosen None t = absurd (false≢true t)
    chosen (Some i) t = index i (slice_get s.events i) t (within s.events i i t)

-- ---- the two sides

pub open_trades : (side : Side) → trades (open_of side) ≡ true
open_trades Side.Long = refl
open_trades Side.Short = refl

close_trades : (side : Side) → trades (close_of side) ≡ true
close_trades Side.Long = refl
close_trades Side.Short = refl

now_wrote : (side : Side) (b : Bar) (g : Going) → (open_now side b g).wrote ≡ g.wrote
now_wrote Side.Long b g = refl
now_wrote Side.Short b g = refl

-- ---- a bar on its way

-- nothing written yet
abbrev Quiet : Going → Type 0
Quiet g = (g.wrote ≡ []) × (g.head.changed ≡ false)

arrive_quiet : (b : Bar) (c : Choice) (lots : ℕ) (h : Head) → Quiet (arrive b c lots h)
unfolding arrive
arrive_quiet b c lots h = (refl, refl)

abbrev Says : Sheet → Bar → Going → Type 0
Says s b g = Written s b g.head g.wrote

-- nothing, or a record that left Flat
abbrev Calm : Sheet → Bar → Going → Type 0
Calm s b g = Quiet g ⊎ (Says s b g × (g.head.pos ≡ Flat))

module _ (s : Sheet) (b : Bar) where
  quiet_says : (g : Going) → Quiet g → Says s b g
  quiet_says g q = rw q.0 q.1

  calm_says : (g : Going) → Calm s b g → Says s b g
  calm_says g (inl q) = quiet_says g q
  calm_says g (inr h) = h.0

  write-says : (operate : ℕ) (p : Pos) (d : Description) (lots : ℕ) (g : Going) → g.wrote ≡ [] → trades operate ≡ true → Named s d → Says s b (write b operate p d lots g)
  unfolding write
  write-says operate p d lots g e t n = rw e (record { changed = refl; bar = refl; pos = refl; operate = t; named = n })

  close_calm : (side : Side) (d : Description) (g : Going) → Quiet g → Named s d → Calm s b (write b (close_of side) Flat d g.lots g)
  unfolding write
  close_calm side d g q n = inr (write-says (close_of side) Flat d g.lots g q.0 (close_trades side) n, refl)

module _ (s : Sheet) (b : Bar) (c : Choice) (known : trades c.operate ≡ true → c.event < length s.events) where
  -- ---- opening writes one record at most

  opening-says : (side : Side) (g : Going) → eqb c.operate (open_of side) ≡ true → Quiet g → Says s b (open_or_close s b c side g)
  unfolding open_or_close
  opening-says side g e q =
      let n = known (ap trades (eqb-true c.operate (open_of side) e) ∙ open_trades side) in
      both (Says s b) (allowed s b (last_open side g.head) && not (on side g.head.pos)) _ _
      (write-says s b (open_of side) (pos_of side) (ByEvent c.event) c.lots (open_now side b g) (now_wrote side b g ∙ q.0) (open_trades side) n)
      (both (Says s b) (on (other side) g.head.pos && may_close s b (last_open (other side) g.head)) _ g
      (write-says s b (close_of (other side)) Flat (ByEvent c.event) g.lots g q.0 (close_trades (other side)) n)
      (quiet_says s b g q))

  -- ---- the first closing that writes leaves Flat, so no other does

  close_on_calm : (side : Side) (r : Option LastEvent) (g : Going) → Quiet g → Calm s b (close_on s b c side r g)
  close_on_calm side None g q = inl q
  close_on_calm side (Some r) g q = go (eqb c.operate (close_of side)) refl
    where
      go : (t : Bool) → eqb c.operate (close_of side) ≡ t
          → Calm s b (cond t (write b (close_of side) Flat (ByEvent c.event) g.lots g)
          (cond (stopped s side b r) (write b (close_of side) Flat Stop g.lots g) (cond (timed_out s b r) (write b (close_of side) Flat Timeout g.lots g) g)))
      go true e = close_calm s b side (ByEvent c.event) g q (known (ap trades (eqb-true c.operate (close_of side) e) ∙ close_trades side))
      go false e =
          both (Calm s b) (stopped s side b r) _ _ (close_calm s b side Stop g q tt)
          (both (Calm s b) (timed_out s b r) _ g (close_calm s b side Timeout g q tt) (inl q))

  closing_calm : (side : Side) (g : Going) → Calm s b g → Calm s b (closing s b c side g)
  unfolding closing
  closing_calm side g (inl q) =
      both (Calm s b) (on side g.head.pos && may_close s b (last_open side g.head)) _ g (close_on_calm side g.head.reference g q) (inl q)
  closing_calm side g (inr h) = subst (Calm s b) (sym (closing_flat s b c side g h.1)) (inr h)

  -- ---- the whole step

  opens-says : (side : Side) (lots : ℕ) (h : Head) → eqb c.operate (open_of side) ≡ true → Says s b (going s b c lots h)
  opens-says side lots h e = subst (Says s b) (sym (going-opens s b c side lots h e)) (opening-says side (arrive b c lots h) e (arrive_quiet b c lots h))

  closes_says : (lots : ℕ) (h : Head) → eqb c.operate LO ≡ false → eqb c.operate SO ≡ false → Says s b (going s b c lots h)
  closes_says lots h e f =
      let g = closing s b c Side.Long (arrive b c lots h) in
      subst (Says s b) (sym (going_closes s b c lots h e f))
      (calm_says s b (closing s b c Side.Short g) (closing_calm Side.Short g (closing_calm Side.Long (arrive b c lots h) (inl (arrive_quiet b c lots h)))))

  going-says : (lots : ℕ) (h : Head) (l t : Bool) → eqb c.operate LO ≡ l → eqb c.operate SO ≡ t → Says s b (going s b c lots h)
  going-says lots h true t e f = opens-says Side.Long lots h e
  going-says lots h false true e f = opens-says Side.Short lots h f
  going-says lots h false false e f = closes_says lots h e f

pub recorded : (s : Sheet) (b : Bar) (ls : List Line) (lots : ℕ) (h : Head) → Written s b (step_head s b ls lots h).head (step_head s b ls lots h).wrote
unfolding step_head
recorded s b ls lots h =
    let c = choose s ls in
    going-says s b c (event_known s ls) lots h (eqb c.operate LO) (eqb c.operate SO) refl refl

written-few : (s : Sheet) (b : Bar) (h : Head) (rs : List Record) → Written s b h rs → length rs ≤ 1
written-few s b h [] w = omega arith
written-few s b h (r ∷ []) w = omega arith
written-few s b h (r ∷ q ∷ rs) w = absurd w

pub one_record : (s : Sheet) (b : Bar) (ls : List Line) (lots : ℕ) (h : Head) → length (step_head s b ls lots h).wrote ≤ 1
one_record s b ls lots h = written-few s b (step_head s b ls lots h).head (step_head s b ls lots h).wrote (recorded s b ls lots h)
