-- The lots of a sheet in range, those of every position and record are: a record has the lots of an event, or those that were open. Assumes nothing.
use Prim.Native.Nat.{ℕ, zero, suc}
use mathlib.Core.Bool.{Bool, true, false≢true}
use mathlib.Core.List.{List, [], ◌∷◌}
use Rattle.std.specs.Prelude.{Option, None, Some, slice_get}
use mathlib.Core.Path.{◌≡◌, refl, ap, ◌∙◌}
use mathlib.Mathlib.Data.List.Defs.{Forall}
use mathlib.Mathlib.Data.List.Basic.{Forall-append}
use lib.Dec.{eqb}
use borrow.Author.Tests.{eqb-true}
use Rattle.text.specs.Conditions.{every}
use Rattle.text.proofs.Every.{every_cons}
use Rattle.double.specs.declared.Side.{Side}
use Rattle.bar.specs.declared.Bar.{Bar}
use Rattle.sheet.specs.Sheet.{Event, Sheet, lots_ok}
use Rattle.event.specs.Signals.{Line}
use Rattle.event.specs.Match.{first_match}
use Rattle.position.specs.State.{trades}
use Rattle.position.specs.Step.{Going, choice_at, choice_of, choose, open_of, close_of, pos_of, on, write, open_now, arrive, step_head, held_lots}
use Rattle.position.specs.declared.Pos.{Pos}
use Rattle.position.specs.declared.Pos.TheVariants.{Short, Flat, Long}
use Rattle.position.specs.declared.Head.{Head}
use Rattle.position.specs.declared.Description.{Description}
use Rattle.position.specs.declared.Description.TheVariants.{Event as ByEvent}
use Rattle.position.specs.declared.Record.{Record}
use Rattle.position_laws.proofs.Keeps.{going_keeps}
use Rattle.position_laws.proofs.OneRecord.{open_trades}
use Rattle.position_laws.proofs.Sound.{LotsFor}

abbrev in_range : Event → Bool
in_range e = lots_ok e.lots

-- every event's lots are in range
abbrev pub EventLots : Sheet → Type 0
EventLots s = every (λ e. lots_ok e.lots) s.events ≡ true

-- ---- the event chosen

chosen-lots : (s : Sheet) (ls : List Line) → EventLots s → trades (choose s ls).operate ≡ true → lots_ok (choose s ls).lots ≡ true
unfolding choose
chosen-lots s ls h t = chosen (first_match s.events ls) t
  where
    within : (es : List Event) (i k : ℕ) → every in_range es ≡ true → trades (choice_at k (slice_get es i)).operate ≡ true
        → lots_ok (choice_at k (slice_get es i)).lots ≡ true
    within [] i k h t = absurd (false≢true t)
    within (e ∷ es) zero k h t = (every_cons in_range e es h).0
    within (e ∷ es) (suc i) k h t = within es i k (every_cons in_range e es h).1 t

    chosen : (o : Option ℕ) → trades (choice_of s.events o).operate ≡ true → lots_ok (choice_of s.events o).lots ≡ true
    chosen None t = absurd (false≢true t)
    chosen (Some i) t = within s.events i i h t

-- ---- a bar on its way

-- lots that a position has, if there is one
abbrev pub Carried : Pos → ℕ → Type 0
Carried Short n = lots_ok n ≡ true
Carried Flat n = Unit {0}
Carried Long n = lots_ok n ≡ true

abbrev InRange : Record → Type 0
InRange r = lots_ok r.lots ≡ true

-- the lots of the position and of the records written
abbrev Sized : Going → Type 0
Sized g = Carried g.head.pos g.lots × Forall InRange g.wrote

pub carries : (p : Pos) (n : ℕ) → LotsFor p n → Carried p n
carries Short n h = h
carries Flat n h = tt
carries Long n h = h

pub held : (p : Pos) (n : ℕ) → Carried p n → LotsFor p (held_lots p n)
held Short n h = h
held Flat n h = refl
held Long n h = h

on_carried : (side : Side) (p : Pos) (n : ℕ) → on side p ≡ true → Carried p n → lots_ok n ≡ true
on_carried Side.Long Short n e h = h
on_carried Side.Long Flat n e h = absurd (false≢true e)
on_carried Side.Long Long n e h = h
on_carried Side.Short Short n e h = h
on_carried Side.Short Flat n e h = absurd (false≢true e)
on_carried Side.Short Long n e h = h

module _ (s : Sheet) (b : Bar) (ls : List Line) (sheet : EventLots s) where
  wrote-more : (operate : ℕ) (p : Pos) (d : Description) (n : ℕ) (g : Going) → lots_ok n ≡ true → Forall InRange g.wrote → Forall InRange (write b operate p d n g).wrote
  unfolding write Forall
  wrote-more operate p d n g e k = (Forall-append InRange g.wrote _).1 (k, e)

  now_wrote : (side : Side) (g : Going) → Forall InRange g.wrote → Forall InRange (open_now side b g).wrote
  now_wrote Side.Long g k = k
  now_wrote Side.Short g k = k

  on-side : (side : Side) (n : ℕ) → lots_ok n ≡ true → Carried (pos_of side) n
  on-side Side.Long n e = e
  on-side Side.Short n e = e

  opened : (side : Side) (g : Going) → eqb (choose s ls).operate (open_of side) ≡ true → Sized g
      → Sized (write b (open_of side) (pos_of side) (ByEvent (choose s ls).event) (choose s ls).lots (open_now side b g))
  unfolding write
  opened side g e k =
      let fits = chosen-lots s ls sheet (ap trades (eqb-true (choose s ls).operate (open_of side) e) ∙ open_trades side) in
      (on-side side (choose s ls).lots fits, wrote-more _ _ _ _ (open_now side b g) fits (now_wrote side g k.1))

  closed : (side : Side) (d : Description) (g : Going) → on side g.head.pos ≡ true → Sized g → Sized (write b (close_of side) Flat d g.lots g)
  unfolding write
  closed side d g e k = (tt, wrote-more _ _ _ _ g (on_carried side g.head.pos g.lots e k.0) k.1)

  pub lots-kept : (lots : ℕ) (h : Head) → Carried h.pos lots → let g = step_head s b ls lots h in Carried g.head.pos g.lots × Forall (λ r. lots_ok r.lots ≡ true) g.wrote
  unfolding step_head arrive Forall
  lots-kept lots h k = going_keeps Sized s b (choose s ls) opened closed lots h (k, tt)
