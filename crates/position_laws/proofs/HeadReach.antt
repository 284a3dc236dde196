-- The head after an accepted bar is in range, its opens and its reference not after the bar. Assumes nothing.
use Rattle.std.specs.Prelude.{Option, None, Some}
use Prim.Native.Nat.{ℕ}
use native.Mathlib.Nat.{le_of_lt}
use mathlib.Core.Bool.{Bool, true, false, cond, ◌||◌, false≢true}
use mathlib.Core.List.{List}
use mathlib.Core.Path.{◌≡◌, refl}
use lib.Dec.{eqb}
use lib.IntN.{ℤ, pos, negsuc}
use lib.Ieee.Bits.{is_true}
use lib.Signed.{le_z, lt_z, le_z_yes, lt_z_yes, lt_z_no, ≤ℤ_refl, <ℤ-≤ℤ_trans, clash_ℤ}
use denote.Floats.{passes}
use borrow.Author.Tests.{ltb-true, le-leb}
use Rattle.position.specs.declared.LastEvent.{LastEvent}
use Rattle.double.specs.declared.Side.{Side}
use Rattle.operate.specs.Operate.{LO, LE, SO, SE}
use Rattle.bar.specs.declared.Time.{Time}
use Rattle.bar.specs.declared.Bar.{Bar}
use Rattle.sheet.specs.Sheet.{Sheet}
use Rattle.event.specs.Signals.{Line}
use Rattle.position.specs.State.{fresh_head}
use Rattle.position.specs.Step.{Going, choose, write, open_now, reference_for, arrive, step_head}
use Rattle.position.specs.declared.Pos.{Pos}
use Rattle.position.specs.declared.Head.{Head}
use Rattle.position.specs.declared.Description.{Description}
use Rattle.position_laws.proofs.Keeps.{going_keeps}
use Rattle.position_laws.proofs.OneRecord.{event_known}
use Rattle.position_laws.proofs.Sound.{By, Before, BarOk, OpenOk, ReferenceOk, HeadOk}

-- ---- times

pub by_self : (t : Time) → By t t
by_self t = is_true (le_z t.instant.0 t.instant.0) (≤ℤ_refl t.instant.0).le

-- what is not after t is before u, where t is
pub by_before : (r t u : Time) → By t r → Before t u → Before r u
by_before r t u h k = go (lt_z r.instant.0 u.instant.0) refl
  where
    go : (x : Bool) → lt_z r.instant.0 u.instant.0 ≡ x → x ≡ true
    go true e = refl
    go false e = clash_ℤ (<ℤ-≤ℤ_trans (lt_z_yes (passes _ k)) (lt_z_no {a = r.instant.0} {b = u.instant.0} (rw e tt))) (le_z_yes (passes _ h))

pub before_by : (t u : Time) → Before t u → By u t
before_by t u h = go t.instant.0 u.instant.0 h
  where
    go : (a b : ℤ) → lt_z a b ≡ true → le_z a b ≡ true
    go (pos a) (pos b) h = le-leb a b (le_of_lt (ltb-true a b h))
    go (pos a) (negsuc b) h = h
    go (negsuc a) (pos b) h = h
    go (negsuc a) (negsuc b) h = le-leb b a (le_of_lt (ltb-true b a h))

-- ---- a head whose opens and reference are not after t

pub record Past (s : Sheet) (t : Time) (h : Head) : Type 0 where
  pub long : OpenOk t h.long
  pub short : OpenOk t h.short
  pub reference : ReferenceOk s t h.reference

pub past-fresh : (s : Sheet) (t : Time) → Past s t fresh_head
unfolding fresh_head
past-fresh s t = record { long = tt; short = tt; reference = tt }

later_open : (t u : Time) (o : Option Time) → Before t u → OpenOk t o → OpenOk u o
later_open t u None h k = k
later_open t u (Some r) h k = (k.0, before_by r u (by_before r t u k.1 h))

later_reference : (s : Sheet) (t u : Time) (r : Option LastEvent) → Before t u → ReferenceOk s t r → ReferenceOk s u r
later_reference s t u None h k = k
later_reference s t u (Some r) h k =
    record { bar = k.bar; operate = k.operate; event = k.event; past = before_by r.bar.time u (by_before r.bar.time t u k.past h) }

pub past_later : (s : Sheet) (t : Time) (h : Head) → HeadOk s h → Before h.end t → Past s t h
past_later s t h k e =
    record {
      long = later_open h.end t h.long e k.long;
      short = later_open h.end t h.short e k.short;
      reference = later_reference s h.end t h.reference e k.reference;
    }

-- ---- a bar on its way

-- its head ends at the bar and is in range
abbrev Fine : Sheet → Bar → Going → Type 0
Fine s b g = (g.head.end ≡ b.time) × HeadOk s g.head

module _ (s : Sheet) (b : Bar) (ok : BarOk b) where
  write-fine : (operate : ℕ) (p : Pos) (d : Description) (lots : ℕ) (g : Going) → Fine s b g → Fine s b (write b operate p d lots g)
  unfolding write
  write-fine operate p d lots g f = (f.0, record { end = f.1.end; long = f.1.long; short = f.1.short; reference = f.1.reference })

  now_fine : (side : Side) (g : Going) → Fine s b g → Fine s b (open_now side b g)
  now_fine Side.Long g f =
      (f.0, record { end = f.1.end; long = (ok.time, rw f.0 (by_self b.time)); short = f.1.short; reference = f.1.reference })
  now_fine Side.Short g f =
      (f.0, record { end = f.1.end; long = f.1.long; short = (ok.time, rw f.0 (by_self b.time)); reference = f.1.reference })

  -- an LO or SO is one of the sheet's events
  refers : (ls : List Line) (r : Option LastEvent) → ReferenceOk s b.time r → ReferenceOk s b.time (reference_for b (choose s ls) r)
  refers ls r k = go (eqb operate LO || eqb operate SO) refl
    where
      operate : ℕ
      operate = (choose s ls).operate

      opens : (a b c d : Bool) → (a || c) ≡ true → (a || b || c || d) ≡ true
      opens true b c d e = refl
      opens false true c d e = refl
      opens false false true d e = refl
      opens false false false d e = absurd (false≢true e)

      go : (t : Bool) → (eqb operate LO || eqb operate SO) ≡ t
          → ReferenceOk s b.time (cond t (Some (record { bar = b; operate = operate; event = (choose s ls).event })) r)
      go true e =
          record {
            bar = ok;
            operate = e;
            event = event_known s ls (opens (eqb operate LO) (eqb operate LE) (eqb operate SO) (eqb operate SE) e);
            past = by_self b.time;
          }
      go false e = k

  pub head_reach : (ls : List Line) (lots : ℕ) (h : Head) → Past s b.time h → HeadOk s (step_head s b ls lots h).head
  unfolding step_head arrive
  head_reach ls lots h p =
      (going_keeps (Fine s b) s b (choose s ls) (λ side g _ f. write-fine _ _ _ _ _ (now_fine side g f)) (λ side d g _ f. write-fine _ _ _ _ g f) lots h
      (refl, record { end = ok.time; long = p.long; short = p.short; reference = refers ls h.reference p.reference })
      ).1
