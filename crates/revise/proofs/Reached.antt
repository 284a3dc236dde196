-- The chosen bars can be fed one after another: each is in range and behind those before it, and the machine is in a sound state, with room for it.
-- Assumes nothing.
use Prim.Native.Nat.{ℕ, ◌≤◌, ◌<◌}
use native.Mathlib.Omega.{arith}
use mathlib.Core.Bool.{Bool, true, false, ◌||◌, false≢true, and-eq-true_iff}
use mathlib.Core.List.{List, [], ◌∷◌, ◌++◌, map-append}
use mathlib.Core.Path.{◌≡◌, refl, subst}
use mathlib.Mathlib.Data.List.Defs.{Forall}
use mathlib.Mathlib.Data.List.Basic.{Forall-cons, Forall-append, Forall-map_iff, Forall-imp}
use borrow.Author.Tests.{lt-ltb}
use lib.Dec.{eqb}
use lib.IntN.{ℤ, pos, negsuc, nat_abs}
use lib.ListN.{length, length-map}
use lib.Signed.{lt_z}
use Rattle.text.specs.Answer.{Got}
use Rattle.bar.specs.Bar.{instant_ok, offset_ok}
use Rattle.bar.specs.declared.Bar.{Bar}
use Rattle.sheet.specs.Sheet.{Sheet}
use Rattle.table.specs.Table.{read_table}
use Rattle.table.proofs.Facts.{table_events, table_lots}
use Rattle.position.specs.State.{State, fresh_state}
use Rattle.position.specs.Step.{Fed, open_lots, step, plain_from, plain}
use Rattle.position_laws.proofs.Lots.{EventLots}
use Rattle.position_laws.proofs.Sound.{Before, BarOk, Sound}
use Rattle.position_laws.proofs.Steps.{end_now, holds-count}
use Rattle.position_laws.proofs.Reach.{sound_fresh, sound_step}
use Rattle.book.specs.Layout.{bar_limit}
use Rattle.book.proofs.Passes.{Room}
use Rattle.revise.specs.Entries.{Revision, Entry, first_line, read_entries}
use Rattle.revise.specs.Chosen.{instant_of, chosen, feds}
use Rattle.revise.proofs.Chosen.{Rises, chosen-all, chosen_rises}
use Rattle.revise.proofs.Given.{of_got, EntryOk, first_gives, read_gives}

-- ---- what was read is in range

pub first-ok : (l : List ℕ) (r : Revision) → first_line l ≡ Got r → BarOk r.bar
first-ok l r e = of_got r (first_gives l) e

pub entries-ok : (s : List ℕ) (es : List Entry) → read_entries s ≡ Got es → Forall (λ e. BarOk e.fed.bar) es
entries-ok s es e = of_got es (read_gives s) e

-- ---- times

-- a bar that a feed in this state does not refuse with 13
abbrev pub InTime : State → Bar → Type 0
InTime st b = (eqb (length st.holds) 0 || lt_z st.head.end.instant.0 b.time.instant.0) ≡ true

-- each before all those behind it
abbrev pub Later : List Fed → Type 0
Later [] = Unit {0}
Later (f ∷ fs) = Forall (λ g. Before f.bar.time g.bar.time) fs × Later fs

-- instants that are in range are naturals
instants : (a b : ℤ) → instant_ok a ≡ true → instant_ok b ≡ true → nat_abs a < nat_abs b → lt_z a b ≡ true
instants (pos m) (pos n) h k l = lt-ltb m n l
instants (pos m) (negsuc n) h k l = absurd (false≢true k)
instants (negsuc m) b h k l = absurd (false≢true h)

before : (a b : Bar) → BarOk a → BarOk b → nat_abs a.time.instant.0 < nat_abs b.time.instant.0 → Before a.time b.time
before a b h k l =
    let u = (and-eq-true_iff (instant_ok a.time.instant.0) (offset_ok a.time.offset)).0 h.time in
    let v = (and-eq-true_iff (instant_ok b.time.instant.0) (offset_ok b.time.offset)).0 k.time in
    instants a.time.instant.0 b.time.instant.0 u.0 v.0 l

behind : (c : Entry) → EntryOk c → (cs : List Entry) → Forall EntryOk cs → Forall (λ d. instant_of c < instant_of d) cs
    → Forall (λ g. Before c.fed.bar.time g.bar.time) (feds cs)
unfolding Forall
behind c ok [] oks h = tt
behind c ok (d ∷ cs) oks h =
    let each = (Forall-cons EntryOk d cs).0 oks in
    let lt = (Forall-cons (λ (d : Entry). instant_of c < instant_of d) d cs).0 h in
    (Forall-cons (λ (g : Fed). Before c.fed.bar.time g.bar.time) d.fed (feds cs)).1
    (before c.fed.bar d.fed.bar ok each.0 lt.0, behind c ok cs each.1 lt.1)

pub feds_later : (cs : List Entry) → Forall EntryOk cs → Rises cs → Later (feds cs)
feds_later [] oks h = tt
feds_later (c ∷ cs) oks h =
    let each = (Forall-cons EntryOk c cs).0 oks in
    (behind c each.0 cs each.1 h.0, feds_later cs each.1 h.1)

-- ---- the machine

or_sure : (t u : Bool) → u ≡ true → (t || u) ≡ true
or_sure true u h = refl
or_sure false u h = h

-- after a bar, those behind it are in time
now : (s : Sheet) (f : Fed) (st : State) (g : Fed) → Before f.bar.time g.bar.time → InTime (step s f.bar f.signals st) g.bar
unfolding step
now s f st g h =
    let next = step s f.bar f.signals st in
    or_sure (eqb (length next.holds) 0) (lt_z next.head.end.instant.0 g.bar.time.instant.0)
    (rw (end_now s f.bar f.signals (open_lots st.holds) st.head) h)

all_now : (s : Sheet) (f : Fed) (st : State) (gs : List Fed) → Forall (λ g. Before f.bar.time g.bar.time) gs
    → Forall (λ g. InTime (step s f.bar f.signals st) g.bar) gs
all_now s f st gs h = Forall-imp (λ g k. now s f st g k) gs h

times_from : (s : Sheet) (fs gs : List Fed) (st : State) → Later (fs ++ gs) → Forall (λ g. InTime st g.bar) (fs ++ gs)
    → Forall (λ g. InTime (plain_from s st fs) g.bar) gs
unfolding plain_from
times_from s [] gs st l h = h
times_from s (f ∷ fs) gs st l h = times_from s fs gs (step s f.bar f.signals st) l.1 (all_now s f st (fs ++ gs) l.0)

sound_from : (s : Sheet) → EventLots s → (fs : List Fed) (st : State) → Forall (λ f. BarOk f.bar) fs → Later fs → Forall (λ f. InTime st f.bar) fs
    → Sound s st → Sound s (plain_from s st fs)
unfolding plain_from
sound_from s lots [] st ok l h w = w
sound_from s lots (f ∷ fs) st ok l h w =
    let each = (Forall-cons (λ (f : Fed). BarOk f.bar) f fs).0 ok in
    let first = (Forall-cons (λ (f : Fed). InTime st f.bar) f fs).0 h in
    sound_from s lots fs (step s f.bar f.signals st) each.1 l.1 (all_now s f st fs l.0)
    (sound_step s f.bar f.signals st lots w each.0 first.0)

-- a fresh machine refuses no bar with 13
any_time : (fs : List Fed) → Forall (λ f. InTime fresh_state f.bar) fs
unfolding fresh_state Forall
any_time [] = tt
any_time (f ∷ fs) = (Forall-cons (λ (f : Fed). InTime fresh_state f.bar) f fs).1 (refl, any_time fs)

pub reached : (s : Sheet) → EventLots s → (c : ℕ) → length s.events ≤ 32 → 1 ≤ c → c ≤ bar_limit
    → (fs : List Fed) → Forall (λ f. BarOk f.bar) fs → Later fs → length fs ≤ c → Sound s (plain s fs) × Room s c (plain s fs)
unfolding plain
reached s lots c events least most fs ok l few = (
  sound_from s lots fs fresh_state ok l (any_time fs) (sound_fresh s),
  record { events = events; least = least; most = most; holds = omega (arith, few, holds-count s fs) },
)

-- a bar behind those fed is in time
pub in_time_lem : (s : Sheet) (fs : List Fed) (g : Fed) (gs : List Fed) → Later (fs ++ g ∷ gs) → InTime (plain s fs) g.bar
unfolding plain
in_time_lem s fs g gs l =
    ((Forall-cons (λ (g : Fed). InTime (plain_from s fresh_state fs) g.bar) g gs).0 (times_from s fs (g ∷ gs) fresh_state l (any_time (fs ++ g ∷ gs)))).0

-- ---- the chosen: each front of them, and the next

later_front : (fs gs : List Fed) → Later (fs ++ gs) → Later fs
later_front [] gs l = tt
later_front (f ∷ fs) gs l = (((Forall-append (λ (g : Fed). Before f.bar.time g.bar.time) fs gs).0 l.0).0, later_front fs gs l.1)

module _ (text : List ℕ) (es : List Entry) (read : read_entries text ≡ Got es) where
  all-ok : (cs : List Entry) → chosen es ≡ cs → Forall EntryOk cs
  all-ok cs e = subst (Forall EntryOk) e (chosen-all EntryOk es (entries-ok text es read))

  all_later : (cs rest : List Entry) → chosen es ≡ cs ++ rest → Later (feds cs ++ feds rest)
  all_later cs rest e =
      subst Later (map-append (λ (e : Entry). e.fed) cs rest) (feds_later (cs ++ rest) (all-ok (cs ++ rest) e) (subst Rises e (chosen_rises es)))

-- the machine after a front
pub chosen-reached : (table : List ℕ) (s : Sheet) → read_table table ≡ Got s → (text : List ℕ) (es : List Entry) → read_entries text ≡ Got es
    → (c : ℕ) → 1 ≤ c → c ≤ bar_limit → (cs rest : List Entry) → chosen es ≡ cs ++ rest → length cs ≤ c
    → Sound s (plain s (feds cs)) × Room s c (plain s (feds cs))
chosen-reached table s meant text es read c least most cs rest e few =
    let ok = ((Forall-append EntryOk cs rest).0 (all-ok text es read (cs ++ rest) e)).0 in
    reached s (table_lots table s meant) c (table_events table s meant) least most (feds cs)
    ((Forall-map_iff cs (λ (f : Fed). BarOk f.bar) (λ (e : Entry). e.fed)).1 ok)
    (later_front (feds cs) (feds rest) (all_later text es read cs rest e))
    (omega (arith, few, length-map cs (λ (e : Entry). e.fed)))

-- the bar behind a front is in time, and in range
pub chosen-next : (s : Sheet) (text : List ℕ) (es : List Entry) → read_entries text ≡ Got es
    → (cs : List Entry) (e : Entry) (rest : List Entry) → chosen es ≡ cs ++ e ∷ rest
    → ((eqb (length (plain s (feds cs)).holds) 0 || lt_z (plain s (feds cs)).head.end.instant.0 e.fed.bar.time.instant.0) ≡ true) × BarOk e.fed.bar
chosen-next s text es read cs e rest h = (
  in_time_lem s (feds cs) e.fed (feds rest) (all_later text es read cs (e ∷ rest) h),
  ((Forall-cons EntryOk e rest).0 ((Forall-append EntryOk cs (e ∷ rest)).0 (all-ok text es read (cs ++ e ∷ rest) h)).1).0,
)
