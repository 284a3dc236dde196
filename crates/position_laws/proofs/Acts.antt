-- Which steps act: for an LO or SO its opening alone, for any other operate the closings alone. Assumes nothing.
use Rattle.std.specs.Prelude.{Option, Some}
use Prim.Native.Nat.{ℕ, ◌-◌}
use native.Mathlib.Omega.{arith}
use mathlib.Core.Bool.{true, false, cond, ◌&&◌}
use mathlib.Core.Path.{◌≡◌, refl, ap, ◌∙◌}
use lib.Dec.{eqb}
use borrow.Author.Tests.{eqb-true, le-ltb}
use Rattle.position.specs.declared.LastEvent.{LastEvent}
use Rattle.double.specs.declared.Side.{Side}
use Rattle.double.proofs.Branches.{both}
use Rattle.double.proofs.OwnPrice.{own_price}
use Rattle.stop.specs.Stop.{stop_double}
use Rattle.stop.proofs.Double.{stop-signed}
use Rattle.operate.specs.Operate.{LO, SO}
use Rattle.bar.specs.declared.Bar.{Bar}
use Rattle.sheet.specs.Sheet.{Sheet}
use Rattle.position.specs.Step.{Going, open_of, close_of, on, last_open, may_close, stopped, timed_out, write, open_now, arrive, open_or_close, opening, close_on, closing, going}
use Rattle.position.specs.declared.Pos.TheVariants.{Flat}
use Rattle.position.specs.declared.Choice.{Choice}
use Rattle.position.specs.declared.Head.{Head}
use Rattle.position_laws.proofs.Keeps.{opening_keeps}

-- the reference that an LO or SO makes
own : Bar → Choice → Option LastEvent
own b c = Some (record { bar = b; operate = c.operate; event = c.event })

now_reference : (side : Side) (b : Bar) (g : Going) → (open_now side b g).head.reference ≡ g.head.reference
now_reference Side.Long b g = refl
now_reference Side.Short b g = refl

flat_off : (side : Side) → on side Flat ≡ false
flat_off Side.Long = refl
flat_off Side.Short = refl

open_no_close : (side other : Side) → eqb (open_of side) (close_of other) ≡ false
open_no_close Side.Long Side.Long = refl
open_no_close Side.Long Side.Short = refl
open_no_close Side.Short Side.Long = refl
open_no_close Side.Short Side.Short = refl

module _ (s : Sheet) (b : Bar) (c : Choice) where
  -- the operate is one number, so not another
  differs : (m n : ℕ) → eqb m n ≡ false → eqb c.operate m ≡ true → eqb c.operate n ≡ false
  differs m n f e = rw (eqb-true c.operate m e) f

  opening-other : (side : Side) (g : Going) → eqb c.operate (open_of side) ≡ false → opening s b c side g ≡ g
  unfolding opening
  opening-other side g e = rw e refl

  -- Flat has no side to close
  pub closing_flat : (side : Side) (g : Going) → g.head.pos ≡ Flat → closing s b c side g ≡ g
  unfolding closing
  closing_flat side g e = rw (e, flat_off side) refl

  -- ---- an LO or SO: the bar is its own reference, against which nothing closes

  arrive_refers : (side : Side) (lots : ℕ) (h : Head) → eqb c.operate (open_of side) ≡ true → (arrive b c lots h).head.reference ≡ own b c
  unfolding arrive own
  arrive_refers Side.Long lots h e = rw e refl
  arrive_refers Side.Short lots h e = rw (differs SO LO refl e, e) refl

  opening_refers : (side : Side) (g : Going) → g.head.reference ≡ own b c → (opening s b c side g).head.reference ≡ own b c
  unfolding write
  opening_refers side g e =
      opening_keeps (λ (x : Going). x.head.reference ≡ own b c) s b c (λ side x _ e. now_reference side b x ∙ e) (λ side d x _ e. e) side g e

  close_on_own : (side : Side) (g : Going) → eqb c.operate (close_of side) ≡ false → close_on s b c side (own b c) g ≡ g
  unfolding stopped timed_out own
  close_on_own side g e = rw (e, own_price side (stop_double s.stop) (stop-signed s.stop) b.price, le-ltb s.timeout (b.id - b.id) (omega arith)) refl

  closing_own : (side : Side) (g : Going) → eqb c.operate (close_of side) ≡ false → g.head.reference ≡ own b c → closing s b c side g ≡ g
  unfolding closing
  closing_own side g e r =
      let t = on side g.head.pos && may_close s b (last_open side g.head) in
      ap (λ (x : Option LastEvent). cond t (close_on s b c side x g) g) r
      ∙ ap (λ (x : Going). cond t x g) (close_on_own side g e)
      ∙ both (λ (x : Going). x ≡ g) t g g refl refl

  openings : (side : Side) (g : Going) → eqb c.operate (open_of side) ≡ true → opening s b c Side.Short (opening s b c Side.Long g) ≡ opening s b c side g
  openings Side.Long g e = opening-other Side.Short (opening s b c Side.Long g) (differs LO SO refl e)
  openings Side.Short g e = ap (opening s b c Side.Short) (opening-other Side.Long g (differs SO LO refl e))

  pub going-opens : (side : Side) (lots : ℕ) (h : Head) → eqb c.operate (open_of side) ≡ true → going s b c lots h ≡ open_or_close s b c side (arrive b c lots h)
  unfolding going opening
  going-opens side lots h e =
      let g = opening s b c side (arrive b c lots h) in
      let r = opening_refers side (arrive b c lots h) (arrive_refers side lots h e) in
      let no : (x : Side) → eqb c.operate (close_of x) ≡ false = λ x. differs (open_of side) (close_of x) (open_no_close side x) e in
      ap (λ (x : Going). closing s b c Side.Short (closing s b c Side.Long x)) (openings side (arrive b c lots h) e)
      ∙ ap (closing s b c Side.Short) (closing_own Side.Long g (no Side.Long) r)
      ∙ closing_own Side.Short g (no Side.Short) r
      ∙ rw e

  -- ---- any other operate

  pub going_closes : (lots : ℕ) (h : Head) → eqb c.operate LO ≡ false → eqb c.operate SO ≡ false
      → going s b c lots h ≡ closing s b c Side.Short (closing s b c Side.Long (arrive b c lots h))
  unfolding going
  going_closes lots h e f =
      ap (λ (x : Going). closing s b c Side.Short (closing s b c Side.Long x))
      (ap (opening s b c Side.Short) (opening-other Side.Long (arrive b c lots h) e) ∙ opening-other Side.Short (arrive b c lots h) f)
