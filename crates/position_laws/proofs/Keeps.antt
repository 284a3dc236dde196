-- What an opening and a closing keep, a bar keeps. Assumes nothing.
use Rattle.std.specs.Prelude.{Option, None, Some}
use Prim.Native.Nat.{ℕ}
use mathlib.Core.Bool.{Bool, true, false, not, cond, ◌&&◌, and-eq-true_iff}
use mathlib.Core.Path.{◌≡◌, refl}
use lib.Dec.{eqb}
use Rattle.position.specs.declared.LastEvent.{LastEvent}
use Rattle.double.specs.declared.Side.{Side}
use Rattle.double.proofs.Branches.{both}
use Rattle.bar.specs.declared.Bar.{Bar}
use Rattle.sheet.specs.Sheet.{Sheet}
use Rattle.position.specs.declared.Choice.{Choice}
use Rattle.position.specs.declared.Pos.TheVariants.{Flat}
use Rattle.position.specs.declared.Head.{Head}
use Rattle.position.specs.declared.Description.{Description}
use Rattle.position.specs.declared.Description.TheVariants.{Event as ByEvent, Stop, Timeout}
use Rattle.position.specs.Step.{Going, other, open_of, close_of, pos_of, on, last_open, allowed, may_close, stopped, timed_out, write, open_now, arrive, open_or_close, opening, close_on, closing, going}

-- what the one branch has where the test holds, and the other has
when : {A : Type 0} (P : A → Type 0) (t : Bool) (x y : A) → (t ≡ true → P x) → P y → P (cond t x y)
when P true x y p q = p refl
when P false x y p q = q

-- an opening is by an event that opens the side; a closing is of the side that the position is on
module _ (P : Going → Type 0) (s : Sheet) (b : Bar) (c : Choice)
    (opened : (side : Side) (g : Going) → eqb c.operate (open_of side) ≡ true → P g
    → P (write b (open_of side) (pos_of side) (ByEvent c.event) c.lots (open_now side b g)))
    (closed : (side : Side) (d : Description) (g : Going) → on side g.head.pos ≡ true → P g → P (write b (close_of side) Flat d g.lots g)) where
  pub opening_keeps : (side : Side) (g : Going) → P g → P (opening s b c side g)
  unfolding opening open_or_close
  opening_keeps side g p =
      when P (eqb c.operate (open_of side)) _ g
      (λ e. both P (allowed s b (last_open side g.head) && not (on side g.head.pos)) _ _ (opened side g e p)
      (when P (on (other side) g.head.pos && may_close s b (last_open (other side) g.head)) _ g
      (λ f. closed (other side) (ByEvent c.event) g ((and-eq-true_iff (on (other side) g.head.pos) _).0 f).0 p) p))
      p

  close_on_keeps : (side : Side) (r : Option LastEvent) (g : Going) → on side g.head.pos ≡ true → P g → P (close_on s b c side r g)
  close_on_keeps side None g e p = p
  close_on_keeps side (Some r) g e p =
      both P (eqb c.operate (close_of side)) _ _ (closed side (ByEvent c.event) g e p)
      (both P (stopped s side b r) _ _ (closed side Stop g e p)
      (both P (timed_out s b r) _ g (closed side Timeout g e p) p))

  closing_keeps : (side : Side) (g : Going) → P g → P (closing s b c side g)
  unfolding closing
  closing_keeps side g p =
      when P (on side g.head.pos && may_close s b (last_open side g.head)) _ g
      (λ f. close_on_keeps side g.head.reference g ((and-eq-true_iff (on side g.head.pos) _).0 f).0 p) p

  pub going_keeps : (lots : ℕ) (h : Head) → P (arrive b c lots h) → P (going s b c lots h)
  unfolding going
  going_keeps lots h p =
      closing_keeps Side.Short _ (closing_keeps Side.Long _ (opening_keeps Side.Short _ (opening_keeps Side.Long (arrive b c lots h) p)))
