-- What steps 1 to 6 of a bar read and leave: of a sheet the settings alone, a record of this bar, its own reference. Assumes nothing.
use Rattle.std.specs.Prelude.{Option, None, Some}
use Prim.Native.Nat.{ℕ}
use mathlib.Core.List.{List, [], ◌∷◌}
use mathlib.Core.Path.{◌≡◌, refl, ap, ◌∙◌, subst}
use mathlib.Mathlib.Data.List.Defs.{Forall}
use mathlib.Mathlib.Data.List.Basic.{Forall-append}
use Rattle.position.specs.declared.LastEvent.{LastEvent}
use Rattle.bar.specs.declared.Time.{Time}
use Rattle.double.specs.declared.Side.{Side}
use Rattle.double.specs.declared.Side.TheVariants as Side
use Rattle.bar.specs.declared.Bar.{Bar}
use Rattle.sheet.specs.Sheet.{Sheet}
use Rattle.table.specs.Layout.{settings_in, parts_in}
use Rattle.table.specs.Table.{sheet_of}
use Rattle.position.specs.Step.{Going, last_open, allowed, stopped, timed_out, write, open_now, reference_for, arrive, open_or_close, opening, close_on, closing, going}
use Rattle.position.specs.declared.Choice.{Choice}
use Rattle.position.specs.declared.Head.{Head}
use Rattle.position.specs.declared.Record.{Record}
use Rattle.position_laws.proofs.Keeps.{going_keeps}
use Rattle.position_machine.specs.Update.{of_settings}

-- ---- steps 2 to 6 read the settings alone

module _ (t : List ℕ) (b : Bar) (c : Choice) where
  allowed_same : (o : Option Time) → allowed (sheet_of (parts_in t)) b o ≡ allowed (of_settings (settings_in t)) b o
  unfolding sheet_of parts_in
  allowed_same None = refl
  allowed_same (Some r) = refl

  opening-same : (side : Side) (g : Going) → opening (sheet_of (parts_in t)) b c side g ≡ opening (of_settings (settings_in t)) b c side g
  unfolding opening open_or_close sheet_of parts_in
  opening-same side g = rw (allowed_same (last_open side g.head)) refl

  close_on-same : (side : Side) (r : Option LastEvent) (g : Going) → close_on (sheet_of (parts_in t)) b c side r g ≡ close_on (of_settings (settings_in t)) b c side r g
  unfolding stopped timed_out sheet_of parts_in
  close_on-same side None g = refl
  close_on-same side (Some r) g = refl

  closing_same : (side : Side) (g : Going) → closing (sheet_of (parts_in t)) b c side g ≡ closing (of_settings (settings_in t)) b c side g
  unfolding closing sheet_of parts_in
  closing_same side g = rw (close_on-same side g.head.reference g) refl

  pub settings_only : (lots : ℕ) (h : Head) → going (sheet_of (parts_in t)) b c lots h ≡ going (of_settings (settings_in t)) b c lots h
  unfolding going
  settings_only lots h =
      let s = sheet_of (parts_in t) in
      let k = of_settings (settings_in t) in
      let o = opening k b c Side.Short (opening k b c Side.Long (arrive b c lots h)) in
      ap (λ (x : Going). closing s b c Side.Short (closing s b c Side.Long (opening s b c Side.Short x))) (opening-same Side.Long (arrive b c lots h))
      ∙ ap (λ (x : Going). closing s b c Side.Short (closing s b c Side.Long x)) (opening-same Side.Short (opening k b c Side.Long (arrive b c lots h)))
      ∙ ap (closing s b c Side.Short) (closing_same Side.Long o)
      ∙ closing_same Side.Short (closing k b c Side.Long o)

-- ---- what a bar writes and refers to

pub update_bar : (s : Sheet) (b : Bar) (c : Choice) (lots : ℕ) (h : Head) (r : Record) → (going s b c lots h).wrote ≡ r ∷ [] → r.bar ≡ b
unfolding arrive write Forall
update_bar s b c lots h r e =
    subst (Forall Own) e
    (going_keeps (λ (g : Going). Forall Own g.wrote) s b c (λ side g _ k. (Forall-append Own (open_now side b g).wrote _).1 (noted side g k, refl))
    (λ side d g _ k. (Forall-append Own g.wrote _).1 (k, refl)) lots h tt)
  where
    Own : Record → Type 0
    Own r = r.bar ≡ b

    noted : (side : Side) (g : Going) → Forall Own g.wrote → Forall Own (open_now side b g).wrote
    noted Side.Long g k = k
    noted Side.Short g k = k

pub going-reference : (s : Sheet) (b : Bar) (c : Choice) (lots : ℕ) (h : Head) → (going s b c lots h).head.reference ≡ reference_for b c h.reference
unfolding arrive write
going-reference s b c lots h =
    going_keeps (λ (g : Going). g.head.reference ≡ reference_for b c h.reference) s b c (λ side g _ e. noted side g e) (λ side d g _ e. e) lots h refl
  where
    noted : (side : Side) (g : Going) → g.head.reference ≡ reference_for b c h.reference → (open_now side b g).head.reference ≡ reference_for b c h.reference
    noted Side.Long g e = e
    noted Side.Short g e = e
