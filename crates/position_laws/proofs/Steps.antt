-- What a bar adds to a state: one hold, at most one record, its time as the end; and how many a list of bars adds. Assumes nothing.
use Prim.Native.Nat.{ℕ, suc, ◌+◌, ◌≤◌}
use native.Mathlib.Omega.{arith}
use mathlib.Core.Bool.{Bool, true, false}
use mathlib.Core.List.{List, [], ◌∷◌, ◌++◌}
use mathlib.Core.Path.{◌≡◌, refl, ap, ◌∙◌}
use lib.ListN.{length, length-append}
use Rattle.double.specs.declared.Side.{Side}
use Rattle.bar.specs.declared.Bar.{Bar}
use Rattle.sheet.specs.Sheet.{Sheet}
use Rattle.event.specs.Signals.{Line}
use Rattle.position.specs.State.{State, fresh_state}
use Rattle.position.specs.Step.{Going, Fed, choose, write, open_now, arrive, step_head, settle_last, open_lots, step, plain_from, plain}
use Rattle.position.specs.declared.Head.{Head}
use Rattle.position.specs.declared.Record.{Record}
use Rattle.position.specs.declared.Hold.{Hold}
use Rattle.position_laws.proofs.Keeps.{going_keeps}
use Rattle.position_laws.proofs.OneRecord.{Written, recorded, one_record}

-- ---- the head

now_end : (side : Side) (b : Bar) (g : Going) → (open_now side b g).head.end ≡ g.head.end
now_end Side.Long b g = refl
now_end Side.Short b g = refl

pub end_now : (s : Sheet) (b : Bar) (ls : List Line) (lots : ℕ) (h : Head) → (step_head s b ls lots h).head.end ≡ b.time
unfolding step_head arrive write
end_now s b ls lots h =
    going_keeps (λ (g : Going). g.head.end ≡ b.time) s b (choose s ls) (λ side g _ e. now_end side b g ∙ e) (λ side d g _ e. e) lots h refl

abbrev pub not_empty : List Record → Bool
not_empty [] = false
not_empty (r ∷ rs) = true

pub changed_iff : (s : Sheet) (b : Bar) (ls : List Line) (lots : ℕ) (h : Head) → (step_head s b ls lots h).head.changed ≡ not_empty (step_head s b ls lots h).wrote
changed_iff s b ls lots h = go (step_head s b ls lots h).wrote (recorded s b ls lots h)
  where
    go : (rs : List Record) → Written s b (step_head s b ls lots h).head rs → (step_head s b ls lots h).head.changed ≡ not_empty rs
    go [] w = w
    go (r ∷ []) w = w.changed
    go (r ∷ q ∷ rs) w = absurd w

-- ---- one bar

pub settled-many : (b : Bar) (os : List Hold) → length (settle_last b os) ≡ length os
unfolding settle_last
settled-many b [] = refl
settled-many b (o ∷ []) = refl
settled-many b (o ∷ p ∷ os) = ap suc (settled-many b (p ∷ os))

pub holds_grow : (s : Sheet) (b : Bar) (ls : List Line) (st : State) → length (step s b ls st).holds ≡ length st.holds + 1
unfolding step
holds_grow s b ls st = rw (length-append, settled-many b st.holds) refl

pub records_grow : (s : Sheet) (b : Bar) (ls : List Line) (st : State) → length (step s b ls st).records ≤ length st.records + 1
unfolding step
records_grow s b ls st = rw length-append (omega (arith, one_record s b ls (open_lots st.holds) st.head))

-- ---- a list of bars

holds-from : (s : Sheet) (st : State) (fs : List Fed) → length (plain_from s st fs).holds ≡ length st.holds + length fs
unfolding plain_from
holds-from s st [] = omega arith
holds-from s st (f ∷ fs) =
    let next = step s f.bar f.signals st in
    omega (arith, holds-from s next fs, holds_grow s f.bar f.signals st)

records-from : (s : Sheet) (st : State) (fs : List Fed) → length (plain_from s st fs).records ≤ length st.records + length fs
unfolding plain_from
records-from s st [] = omega arith
records-from s st (f ∷ fs) =
    let next = step s f.bar f.signals st in
    omega (arith, records-from s next fs, records_grow s f.bar f.signals st)

pub holds-count : (s : Sheet) (fs : List Fed) → length (plain s fs).holds ≡ length fs
unfolding plain fresh_state
holds-count s fs = omega (arith, holds-from s fresh_state fs)

pub records-few : (s : Sheet) (fs : List Fed) → length (plain s fs).records ≤ length fs
unfolding plain fresh_state
records-few s fs = omega (arith, records-from s fresh_state fs)

from_more : (s : Sheet) (st : State) (fs : List Fed) (f : Fed) → plain_from s st (fs ++ f ∷ []) ≡ step s f.bar f.signals (plain_from s st fs)
unfolding plain_from
from_more s st [] f = refl
from_more s st (e ∷ fs) f = from_more s (step s e.bar e.signals st) fs f

pub plain_more : (s : Sheet) (fs : List Fed) (f : Fed) → plain s (fs ++ f ∷ []) ≡ step s f.bar f.signals (plain s fs)
unfolding plain
plain_more s fs f = from_more s fresh_state fs f
