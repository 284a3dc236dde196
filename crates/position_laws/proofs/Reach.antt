-- Every state that bars can reach is sound. Assumes nothing.
use Prim.Native.Nat.{ℕ, ◌≤◌, ◌<◌}
use native.Mathlib.Omega.{arith}
use mathlib.Core.Bool.{Bool, true, false, cond, ◌&&◌, ◌||◌, and-eq-true_iff, false≢true}
use mathlib.Core.List.{List, [], ◌∷◌, ◌++◌, append-nil}
use mathlib.Core.Logic.{◌⊎◌, inl, inr}
use mathlib.Core.Path.{◌≡◌, refl, sym, ap, ap₂, ◌∙◌, subst}
use mathlib.Mathlib.Data.List.Defs.{Forall}
use mathlib.Mathlib.Data.List.Basic.{Forall-cons, Forall-append, Forall-imp}
use lib.Dec.{T, leb, ltb, eqb, eqb-suc-zero}
use lib.IntN.{ℤ, pos, negsuc, nat_abs}
use lib.Ieee.{Float, binary64, fits, is_nan, lt}
use lib.Ieee.Bits.{is_false}
use lib.Ieee.Fits.{mul-fits}
use lib.Ieee.Scale.{finite}
use lib.ListN.{length}
use lib.Signed.{lt_z}
use denote.Floats.{passes}
use borrow.Author.Tests.{leb-true, ltb-true}
use Rattle.double.specs.declared.Yield.TheVariants.{Absent, Bp}
use Rattle.text.specs.Answer.{Answer, Got, ◌>>=◌, must}
use Rattle.text.proofs.Answers.{got_from, must_got, got_same}
use Rattle.double.specs.Double.{whole, ◌×ᶠ◌, gain, hold_yield, yield_ok}
use Rattle.double.specs.declared.Side.TheVariants.{Long}
use Rattle.double.proofs.Numbers.{hold_number}
use Rattle.bar.specs.Bar.{last_id, id_ok, instant_ok, offset_ok, bar_of}
use Rattle.bar.specs.declared.Time.{Time}
use Rattle.bar.specs.declared.Bar.{Bar}
use Rattle.sheet.specs.Sheet.{Sheet, lots_ok}
use Rattle.event.specs.Signals.{Line, read_signals}
use Rattle.position.specs.State.{State, fresh_head, fresh_state}
use Rattle.position.specs.Step.{Going, Fed, step_head, settle, settle_last, new_hold, open_lots, step}
use Rattle.position.specs.Feed.{Input, fed_of, admitted, Accepted, report_of, feed_state}
use Rattle.position.specs.declared.Head.{Head}
use Rattle.position.specs.declared.Record.{Record}
use Rattle.position.specs.declared.Hold.{Hold}
use Rattle.position_laws.proofs.OneRecord.{Written, recorded}
use Rattle.position_laws.proofs.Steps.{end_now, holds_grow, records_grow}
use Rattle.position_laws.proofs.Sound.{By, Before, Rising, BarOk, YieldOk, HoldOk, RecordOk, hold_time, record_time, Ends, Sound}
use Rattle.position_laws.proofs.Lots.{EventLots, Carried, carries, held, lots-kept}
use Rattle.position_laws.proofs.HeadReach.{by_self, by_before, before_by, Past, past-fresh, past_later, head_reach}

-- ---- what a feed's arguments give

id-most : (id : ℤ) → id_ok id ≡ true → nat_abs id ≤ last_id
id-most (pos n) e = leb-true n last_id ((and-eq-true_iff (leb 0 n) (leb n last_id)).0 e).1
id-most (negsuc n) e = absurd (false≢true e)

-- the bar that was read passed, and is this one
pub bar_made : (id instant offset : ℤ) (p : Float) (b : Bar) → bar_of id instant offset p ≡ Got b
    → ((id_ok id && instant_ok instant && offset_ok offset && finite p) ≡ true) × (◌≡◌ {A = Bar} (record { id = nat_abs id; time = record { instant = record { 0 = instant }; offset = offset }; price = p }) b)
unfolding bar_of
bar_made id instant offset p b e =
    let made : Bar = record { id = nat_abs id; time = record { instant = record { 0 = instant }; offset = offset }; price = p } in
    let m = must_got 11 (id_ok id && instant_ok instant && offset_ok offset && finite p) (λ _. Got made) b e in
    (m.0, got_same made b m.1)

pub fed-bar : (i : Input) (f : Fed) → fed_of i ≡ Got f → bar_of i.id i.instant i.offset i.price ≡ Got f.bar
unfolding fed_of
fed-bar i f e =
    let more : Bar → List Line → Answer Fed = λ b ls. Got (record { bar = b; signals = ls }) in
    let b = got_from (bar_of i.id i.instant i.offset i.price) (λ b. read_signals i.signals >>= more b) f e in
    let ls = got_from (read_signals i.signals) (more b.0) f b.2 in
    b.1 ∙ ap (λ (x : Fed). Got x.bar) (got_same (record { bar = b.0; signals = ls.0 }) f ls.2)

bar-ok : (id instant offset : ℤ) (p : Float) (b : Bar) → bar_of id instant offset p ≡ Got b → T (fits binary64 p) → BarOk b
bar-ok id instant offset p b e double =
    let m = bar_made id instant offset p b e in
    let price = (and-eq-true_iff (id_ok id && instant_ok instant && offset_ok offset) (finite p)).0 m.0 in
    let offsets = (and-eq-true_iff (id_ok id && instant_ok instant) (offset_ok offset)).0 price.0 in
    let instants = (and-eq-true_iff (id_ok id) (instant_ok instant)).0 offsets.0 in
    subst BarOk m.1 (record { id = id-most id instants.0; time = ap₂ ◌&&◌ instants.1 offsets.1; price = price.1; double = double })

pub fed-ok : (i : Input) (f : Fed) → fed_of i ≡ Got f → T (fits binary64 i.price) → BarOk f.bar
fed-ok i f e double = bar-ok i.id i.instant i.offset i.price f.bar (fed-bar i f e) double

pub admitted_got : (c holds : ℕ) (end : Time) (i : Input) (f : Fed) → admitted c holds end i ≡ Got f
    → (fed_of i ≡ Got f) × ((eqb holds 0 || lt_z end.instant.0 f.bar.time.instant.0) ≡ true) × (holds < c)
unfolding admitted
admitted_got c holds end i f e =
    let test : Fed → Bool = λ f. eqb holds 0 || lt_z end.instant.0 f.bar.time.instant.0 in
    let a = got_from (fed_of i) (λ f. must 13 (test f) >>= λ _. must 14 (ltb holds c) >>= λ _. Got f) f e in
    let t = must_got 13 (test a.0) (λ _. must 14 (ltb holds c) >>= λ _. Got a.0) f a.2 in
    let u = must_got 14 (ltb holds c) (λ _. Got a.0) f t.1 in
    let same = got_same a.0 f u.1 in
    (subst (λ (x : Fed). fed_of i ≡ Got x) same a.1, subst (λ (x : Fed). test x ≡ true) same t.0, ltb-true holds c u.0)

-- ---- the fresh state

pub sound_fresh : (s : Sheet) → Sound s fresh_state
unfolding fresh_state fresh_head Forall
sound_fresh s =
    record {
      head = record { end = refl; long = tt; short = tt; reference = tt };
      holds = tt;
      holds_rise = tt;
      records = tt;
      records_rise = tt;
      records_past = tt;
      few = omega arith;
      ends = inl refl;
    }

-- ---- lists that rise

rising-more : {A : Type 0} (f : A → Time) (l : List A) (a : A) → Rising f l → Forall (λ x. Before (f x) (f a)) l → Rising f (l ++ a ∷ [])
unfolding Forall
rising-more f [] a r h = tt
rising-more f (x ∷ []) a r h = (h, tt)
rising-more f (x ∷ y ∷ l) a r h = (r.0, rising-more f (y ∷ l) a r.1 h.1)

-- settled, then one more after the last
settled-more : (b : Bar) (os : List Hold) (o n : Hold) → Rising hold_time (os ++ o ∷ []) → Before o.time n.time
    → Rising hold_time (settle_last b (os ++ o ∷ []) ++ n ∷ [])
unfolding settle_last settle
settled-more b [] o n r h = (h, tt)
settled-more b (p ∷ []) o n r h = (r.0, (h, tt))
settled-more b (p ∷ q ∷ []) o n r h = (r.0, settled-more b (q ∷ []) o n r.1 h)
settled-more b (p ∷ q ∷ u ∷ os) o n r h = (r.0, settled-more b (q ∷ u ∷ os) o n r.1 h)

-- ---- a state before an admitted bar

record Prior (s : Sheet) (b : Bar) (st : State) : Type 0 where
  head : Past s b.time st.head
  holds : (g : Going) → Rising hold_time (settle_last b st.holds ++ new_hold b g ∷ [])
  records : Forall (λ r. Before (record_time r) b.time) st.records

filled : (os : List Hold) (o : Hold) (t : Bool) → (eqb (length (os ++ o ∷ [])) 0 || t) ≡ true → t ≡ true
filled [] o t e = e
filled (p ∷ os) o t e = rw (eqb-suc-zero (length (os ++ o ∷ []))) at e

prior : (s : Sheet) (b : Bar) (st : State) → Sound s st → (eqb (length st.holds) 0 || lt_z st.head.end.instant.0 b.time.instant.0) ≡ true
    → Prior s b st
unfolding fresh_state settle_last new_hold Forall
prior s b st w t = go w.ends
  where
    go : (st ≡ fresh_state) ⊎ Ends st → Prior s b st
    go (inl e) = subst (Prior s b) (sym e) (record { head = past-fresh s b.time; holds = λ g. tt; records = tt })
    go (inr e) =
        let now : Before st.head.end b.time = filled e.front e.last (lt_z st.head.end.instant.0 b.time.instant.0) (rw e.whole at t) in
        record {
          head = past_later s b.time st.head w.head now;
          holds = λ g. rw e.whole (settled-more b e.front e.last (new_hold b g) (rw e.whole at w.holds_rise) (rw e.time now));
          records = Forall-imp (λ r k. by_before (record_time r) st.head.end b.time k now) st.records w.records_past;
        }

-- ---- holds

pub yield-ok : (own next : Float) → finite next ≡ true → YieldOk (hold_yield own next)
unfolding hold_yield
yield-ok own next e = go (lt (whole 0) own) (hold_number own next (passes (finite next) e))
  where
    x : Float
    x = gain Long next own ×ᶠ whole 10000

    go : (t : Bool) → T (yield_ok (cond t (Bp x) Absent)) → YieldOk (cond t (Bp x) Absent)
    go true k = (is_false (is_nan x) k, mul-fits binary64 (gain Long next own) (whole 10000))
    go false k = tt

settled-ok : (b : Bar) (os : List Hold) → BarOk b → Forall HoldOk os → Forall HoldOk (settle_last b os)
unfolding settle_last settle Forall
settled-ok b [] ok h = tt
settled-ok b (o ∷ []) ok h = record { time = h.time; price = h.price; double = h.double; n1b = yield-ok o.price b.price ok.price; lots = h.lots }
settled-ok b (o ∷ p ∷ os) ok h = (Forall-cons HoldOk o (settle_last b (p ∷ os))).1 (h.0, settled-ok b (p ∷ os) ok h.1)

-- ---- records

module _ (s : Sheet) (b : Bar) (h : Head) where
  written-ok : (rs : List Record) → BarOk b → Written s b h rs → Forall (λ r. lots_ok r.lots ≡ true) rs → Forall (RecordOk s) rs
  unfolding Forall
  written-ok [] ok w n = tt
  written-ok (r ∷ []) ok w n = record { bar = subst BarOk (sym w.bar) ok; operate = w.operate; named = w.named; lots = n }
  written-ok (r ∷ q ∷ rs) ok w n = absurd w

  written_now : (rs : List Record) → Written s b h rs → Forall (λ r. By b.time (record_time r)) rs
  unfolding Forall
  written_now [] w = tt
  written_now (r ∷ []) w = rw w.bar (by_self b.time)
  written_now (r ∷ q ∷ rs) w = absurd w

  written-rise : (old rs : List Record) → Written s b h rs → Rising record_time old → Forall (λ r. Before (record_time r) b.time) old
      → Rising record_time (old ++ rs)
  written-rise old [] w r k = rw append-nil r
  written-rise old (q ∷ []) w r k = rising-more record_time old q r (rw w.bar k)
  written-rise old (q ∷ p ∷ rs) w r k = absurd w

-- ---- the open lots

pub last-lots : (os : List Hold) (o : Hold) → open_lots (os ++ o ∷ []) ≡ o.lots
unfolding open_lots
last-lots [] o = refl
last-lots (p ∷ []) o = refl
last-lots (p ∷ q ∷ os) o = last-lots (q ∷ os) o

open_carried : (s : Sheet) (st : State) → Sound s st → Carried st.head.pos (open_lots st.holds)
unfolding fresh_state fresh_head Forall
open_carried s st w = go w.ends
  where
    go : (st ≡ fresh_state) ⊎ Ends st → Carried st.head.pos (open_lots st.holds)
    go (inl e) = subst (λ (x : State). Carried x.head.pos (open_lots x.holds)) (sym e) tt
    go (inr e) =
        let last = ((Forall-append HoldOk e.front (e.last ∷ [])).0 (rw e.whole at w.holds)).1 in
        rw (e.whole, last-lots e.front e.last, ← e.pos) (carries e.last.pos e.last.lots last.lots)

-- ---- one bar

pub sound_step : (s : Sheet) (b : Bar) (ls : List Line) (st : State) → EventLots s → Sound s st → BarOk b
    → (eqb (length st.holds) 0 || lt_z st.head.end.instant.0 b.time.instant.0) ≡ true → Sound s (step s b ls st)
unfolding step new_hold Forall
sound_step s b ls st sheet w ok t =
    let lots = open_lots st.holds in
    let g = step_head s b ls lots st.head in
    let new = new_hold b g in
    let old = prior s b st w t in
    let said = recorded s b ls lots st.head in
    let sized = lots-kept s b ls sheet lots st.head (open_carried s st w) in
    record {
      head = head_reach s b ok ls lots st.head old.head;
      holds = (Forall-append HoldOk (settle_last b st.holds) (new ∷ [])).1
          (settled-ok b st.holds ok w.holds, record { time = ok.time; price = ok.price; double = ok.double; n1b = tt; lots = held g.head.pos g.lots sized.0 });
      holds_rise = old.holds g;
      records = (Forall-append (RecordOk s) st.records g.wrote).1 (w.records, written-ok s b g.head g.wrote ok said sized.1);
      records_rise = written-rise s b g.head st.records g.wrote said w.records_rise old.records;
      records_past = rw (end_now s b ls lots st.head)
          ((Forall-append (λ r. By b.time (record_time r)) st.records g.wrote).1
          (Forall-imp (λ r k. before_by (record_time r) b.time k) st.records old.records, written_now s b g.head g.wrote said));
      few = omega (arith, w.few, records_grow s b ls st, holds_grow s b ls st);
      ends = inr (record {
        front = settle_last b st.holds;
        last = new;
        whole = refl;
        time = sym (end_now s b ls lots st.head);
        pos = refl;
        n1b = refl;
      });
    }

-- ---- one feed

-- an accepted feed is one step by the bar and the signals of its arguments, which were admitted
pub record Stepped (s : Sheet) (c : ℕ) (i : Input) (st after : State) : Type 0 where
  pub fed : Fed
  pub given : fed_of i ≡ Got fed
  pub later : (eqb (length st.holds) 0 || lt_z st.head.end.instant.0 fed.bar.time.instant.0) ≡ true
  pub room : length st.holds < c
  pub stepped : after ≡ step s fed.bar fed.signals st

pub feed_steps : (s : Sheet) (c : ℕ) (i : Input) (st : State) (a : Accepted State) → feed_state s c i st ≡ Got a → Stepped s c i st a.after
unfolding feed_state
feed_steps s c i st a e =
    let made : Fed → Accepted State = λ f. record { after = step s f.bar f.signals st; report = report_of s f st } in
    let x = got_from (admitted c (length st.holds) st.head.end i) (λ f. Got (made f)) a e in
    let k = admitted_got c (length st.holds) st.head.end i x.0 x.1 in
    record { fed = x.0; given = k.0; later = k.1; room = k.2; stepped = ap (λ (y : Accepted State). y.after) (sym (got_same (made x.0) a x.2)) }

pub sound_feed : (s : Sheet) (c : ℕ) (i : Input) (st : State) (a : Accepted State) → EventLots s → Sound s st → T (fits binary64 i.price)
    → feed_state s c i st ≡ Got a → Sound s a.after
sound_feed s c i st a sheet w double e =
    let x = feed_steps s c i st a e in
    let f = x.fed in
    rw x.stepped (sound_step s f.bar f.signals st sheet w (fed-ok i f x.given double) x.later)
