-- Steps 3 to 6 by their branches, and the whole step: a closing that wrote leaves Flat, so no other writes. Assumes nothing.
use Rattle.std.specs.Prelude.{Option, None, Some}
use Prim.Native.Nat.{ℕ}
use mathlib.Core.Bool.{Bool, true, false, not, cond, ◌&&◌, false≢true}
use mathlib.Core.Logic.{◌⊎◌, inl, inr}
use mathlib.Core.Path.{◌≡◌, refl, sym, ap, ap₂, ◌∙◌, subst}
use lib.Dec.{eqb}
use Rattle.position.specs.declared.Description.{Description}
use Rattle.position.specs.declared.LastEvent.{LastEvent}
use Rattle.double.specs.declared.Side.{Side}
use Rattle.double.proofs.Branches.{both}
use Rattle.operate.specs.Operate.{LO, SO}
use Rattle.bar.specs.declared.Bar.{Bar}
use Rattle.sheet.specs.Sheet.{Sheet}
use Rattle.position.specs.State.{open_in_range}
use Rattle.position.specs.Step.{Going, other, open_of, close_of, pos_of, on, last_open, allowed, may_close, stopped, timed_out, write, open_now, arrive, open_or_close, close_on, closing, going}
use Rattle.position.specs.declared.Pos.{Pos}
use Rattle.position.specs.declared.Pos.TheVariants.{Flat}
use Rattle.position.specs.declared.Choice.{Choice}
use Rattle.position.specs.declared.Head.{Head}
use Rattle.position.specs.declared.Description.TheVariants.{Event as ByEvent, Stop, Timeout}
use Rattle.position.specs.declared.Record.{Record}
use Rattle.position_laws.proofs.Acts.{closing_flat, going-opens, going_closes}
use Rattle.position_laws.proofs.Steps.{not_empty}
use Rattle.position_machine.specs.Update.{wrote_of, going_of, TimesOk}
use Rattle.position_machine.specs.Rules.{silent, exit_of}
use Rattle.position_machine.specs.declared.Update.{Update}

-- ---- opening and closing

-- an exit's closing
abbrev close_by : Bar → Side → Option Description → Going → Going
close_by b side None g = g
close_by b side (Some d) g = write b (close_of side) Flat d g.lots g

-- whether the position is on the side and may close
abbrev may_leave : Sheet → Bar → Side → Head → Bool
may_leave s b side h = on side h.pos && may_close s b (last_open side h)

module _ (s : Sheet) (b : Bar) (c : Choice) (side : Side) (lots : ℕ) (h : Head) where
  abbrev may_enter : Bool
  may_enter = allowed s b (last_open side h) && not (on side h.pos)

  pub enters : {n : ℕ} {p : Pos} {k : Head} → n ≡ open_of side → p ≡ pos_of side → silent k lots ≡ open_now side b (silent h lots) → may_enter ≡ true
      → write b n p (ByEvent c.event) c.lots (silent k lots) ≡ open_or_close s b c side (silent h lots)
  unfolding open_or_close
  enters {n} {p} {k} en ep ek e =
      ap₂ (λ (n : ℕ) (p : Pos). write b n p (ByEvent c.event) c.lots (silent k lots)) en ep
      ∙ ap (write b (open_of side) (pos_of side) (ByEvent c.event) c.lots) ek
      ∙ rw e refl

  pub turns : {n : ℕ} {x : Side} → x ≡ other side → n ≡ close_of x → may_enter ≡ false → may_leave s b x h ≡ true
      → write b n Flat (ByEvent c.event) lots (silent h lots) ≡ open_or_close s b c side (silent h lots)
  unfolding open_or_close
  turns {n} {x} ex en e f =
      ap (λ (n : ℕ). write b n Flat (ByEvent c.event) lots (silent h lots)) (en ∙ ap close_of ex) ∙ rw (e, sym (ap (λ (y : Side). may_leave s b y h) ex) ∙ f) refl

  pub keeps : {x : Side} → x ≡ other side → may_enter ≡ false → may_leave s b x h ≡ false → silent h lots ≡ open_or_close s b c side (silent h lots)
  unfolding open_or_close
  keeps {x} ex e f = rw (e, sym (ap (λ (y : Side). may_leave s b y h) ex) ∙ f) refl

  exit_closes : (r : Option LastEvent) → close_by b side (exit_of s b c side r) (silent h lots) ≡ close_on s b c side r (silent h lots)
  exit_closes None = refl
  exit_closes (Some r) = go (eqb c.operate (close_of side)) (stopped s side b r) (timed_out s b r)
    where
      go : (x y z : Bool)
          → close_by b side (cond x (Some (ByEvent c.event)) (cond y (Some Stop) (cond z (Some Timeout) None))) (silent h lots)
          ≡ cond x (write b (close_of side) Flat (ByEvent c.event) lots (silent h lots))
          (cond y (write b (close_of side) Flat Stop lots (silent h lots)) (cond z (write b (close_of side) Flat Timeout lots (silent h lots)) (silent h lots)))
      go true y z = refl
      go false true z = refl
      go false false true = refl
      go false false false = refl

  pub stays : may_leave s b side h ≡ false → silent h lots ≡ closing s b c side (silent h lots)
  unfolding closing
  stays e = rw e refl

  pub leaves : (d : Option Description) → may_leave s b side h ≡ true → exit_of s b c side h.reference ≡ d → close_by b side d (silent h lots) ≡ closing s b c side (silent h lots)
  unfolding closing
  leaves d e f = rw (e, ← f) (exit_closes h.reference)

-- ---- a closing that wrote leaves Flat, so no other writes

module _ (s : Sheet) (b : Bar) (c : Choice) (lots : ℕ) (h : Head) where
  -- nothing was done, or a record was written that left Flat
  abbrev Left : Going → Type 0
  Left g = (g ≡ silent h lots) ⊎ ((not_empty g.wrote ≡ true) × (g.head.pos ≡ Flat))

  close_by_left : (side : Side) (d : Option Description) → Left (close_by b side d (silent h lots))
  unfolding write
  close_by_left side None = inl refl
  close_by_left side (Some d) = inr (refl, refl)

  closing-left : (side : Side) → Left (closing s b c side (silent h lots))
  unfolding closing
  closing-left side =
      both Left (may_leave s b side h) _ (silent h lots)
      (subst Left (exit_closes s b c side lots h h.reference) (close_by_left side (exit_of s b c side h.reference))) (inl refl)

  pub first-still : (u : Update) → going_of u ≡ closing s b c Side.Long (silent h lots) → u.wrote ≡ None
      → closing s b c Side.Short (silent h lots) ≡ closing s b c Side.Short (closing s b c Side.Long (silent h lots))
  first-still u e w = go (closing-left Side.Long)
    where
      go : Left (closing s b c Side.Long (silent h lots)) → closing s b c Side.Short (silent h lots) ≡ closing s b c Side.Short (closing s b c Side.Long (silent h lots))
      go (inl f) = ap (closing s b c Side.Short) (sym f)
      go (inr f) = absurd (false≢true (ap (λ x. not_empty (wrote_of x)) (sym w) ∙ ap (λ (g : Going). not_empty g.wrote) e ∙ f.0))

  pub first-wrote : (u : Update) (r : Record) → going_of u ≡ closing s b c Side.Long (silent h lots) → u.wrote ≡ Some r
      → going_of u ≡ closing s b c Side.Short (closing s b c Side.Long (silent h lots))
  first-wrote u r e w = go (closing-left Side.Long)
    where
      go : Left (closing s b c Side.Long (silent h lots)) → going_of u ≡ closing s b c Side.Short (closing s b c Side.Long (silent h lots))
      go (inl f) = absurd (false≢true (sym (ap (λ (g : Going). not_empty g.wrote) (e ∙ f)) ∙ ap (λ x. not_empty (wrote_of x)) w))
      go (inr f) = e ∙ sym (closing_flat s b c Side.Short (closing s b c Side.Long (silent h lots)) f.1)

-- ---- the whole of it, from the header as the bar came

module _ (b : Bar) (c : Choice) (lots : ℕ) (h : Head) {a : Head} (came : silent a lots ≡ arrive b c lots h) where
  pub times_still : TimesOk b h → TimesOk b a
  unfolding arrive
  times_still ok =
      record {
        bar = ok.bar;
        long = ap (λ (g : Going). open_in_range g.head.long) came ∙ ok.long;
        short = ap (λ (g : Going). open_in_range g.head.short) came ∙ ok.short;
      }

  pub opens : (s : Sheet) (side : Side) → eqb c.operate (open_of side) ≡ true → open_or_close s b c side (silent a lots) ≡ going s b c lots h
  opens s side e = ap (open_or_close s b c side) came ∙ sym (going-opens s b c side lots h e)

  pub closes : (s : Sheet) → eqb c.operate LO ≡ false → eqb c.operate SO ≡ false
      → closing s b c Side.Short (closing s b c Side.Long (silent a lots)) ≡ going s b c lots h
  closes s e f = ap (λ (g : Going). closing s b c Side.Short (closing s b c Side.Long g)) came ∙ sym (going_closes s b c lots h e f)
