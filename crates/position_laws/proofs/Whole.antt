-- "Whole stops give the books they gave.": the machine with a stop of 100 * w hundredths is the one with w basis points, and a closing by it is
-- shown as it was. Assumes nothing.
use Rattle.std.specs.Prelude.{Option, None, Some}
use Prim.Native.Nat.{ℕ, ◌*◌, ◌≤◌}
use mathlib.Core.List.{List, [], ◌∷◌, ◌++◌}
use mathlib.Core.Path.{◌≡◌, refl, ap, ◌∙◌}
use lib.Ieee.{Float}
use Rattle.position.specs.declared.LastEvent.{LastEvent}
use Rattle.text.specs.Literal.{bytes}
use Rattle.text.specs.Number.{decimal_of}
use Rattle.double.specs.Double.{whole, stop_hit}
use Rattle.double.specs.declared.Side.{Side}
use Rattle.stop.specs.Stop.{stop_double, stop_text}
use Rattle.stop.proofs.Double.{stop-whole}
use Rattle.stop.proofs.Writing.{text-whole}
use Rattle.bar.specs.declared.Bar.{Bar}
use Rattle.sheet.specs.Sheet.{Sheet}
use Rattle.position.specs.State.{State, fresh_state}
use Rattle.position.specs.Step.{Going, Fed, stopped, close_on, closing, going, step_head, step, plain_from, plain}
use Rattle.position.specs.Rows.{close_name, description_text}
use Rattle.position.specs.declared.Choice.{Choice}
use Rattle.position.specs.declared.Head.{Head}
use Rattle.position.specs.declared.Description.TheVariants.{Stop}
use Rattle.position_laws.specs.Before.{Test, whole_test, close_on_by, closing_by, going_by, plain_from_by, plain_before}

-- ---- the machine is the one with its own test

module _ (s : Sheet) (b : Bar) (c : Choice) where
  close_on_own : (side : Side) (r : Option LastEvent) (g : Going) → close_on s b c side r g ≡ close_on_by (stopped s) s b c side r g
  close_on_own side None g = refl
  close_on_own side (Some r) g = refl

  closing_own : (side : Side) (g : Going) → closing s b c side g ≡ closing_by (stopped s) s b c side g
  unfolding closing
  closing_own side g = rw (close_on_own side g.head.reference g)

  going_own : (lots : ℕ) (h : Head) → going s b c lots h ≡ going_by (stopped s) s b c lots h
  unfolding going
  going_own lots h = rw (closing_own, closing_own)

plain_own : (s : Sheet) (fs : List Fed) (st : State) → plain_from s st fs ≡ plain_from_by (stopped s) s st fs
unfolding plain_from plain_from_by step step_head
plain_own s [] st = refl
plain_own s (f ∷ fs) st = rw going_own (plain_own s fs _)

-- ---- the test of a whole stop is the one that it was

module _ (w : ℕ) (few : w ≤ 1_000_000) (s : Sheet) (is : s.stop ≡ 100 * w) where
  double_whole : stop_double s.stop ≡ whole w
  double_whole = ap stop_double is ∙ stop-whole w few

  test_whole : stopped s ≡ whole_test w
  unfolding stopped
  test_whole = ap (λ (x : Float). λ side b r. stop_hit side x r.bar.price b.price) double_whole

  pub whole_books : (fs : List Fed) → plain s fs ≡ plain_before w s fs
  unfolding plain
  whole_books fs = plain_own s fs fresh_state ∙ ap (λ (hit : Test). plain_from_by hit s fresh_state fs) test_whole

  pub whole_shown : (operate : ℕ) → description_text s operate Stop ≡ close_name operate ++ bytes "@" ++ decimal_of w ++ bytes "BP止损"
  whole_shown operate = ap (λ (t : List ℕ). close_name operate ++ bytes "@" ++ t ++ bytes "BP止损") (ap stop_text is ∙ text-whole w)
