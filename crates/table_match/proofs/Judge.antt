-- An event judged clause by clause, up to the first that decides against it, is matched or not as the sheet says. Assumes nothing.
use Prim.Native.Nat.{ℕ, zero, suc, ◌+◌, ◌-◌, ◌<◌, ◌≤◌}
use native.Mathlib.Omega.{arith}
use mathlib.Core.Path.{◌≡◌, ◌∙◌, refl, sym, ap}
use mathlib.Core.Logic.{◌≢◌}
use mathlib.Core.Bool.{Bool, true, false, not, cond, ◌&&◌, ◌||◌, and-false, or-false}
use mathlib.Core.List.{List, [], ◌∷◌}
use borrow.Author.Tests.{eq-eqb, ne_eqb}
use lib.Dec.{eqb}
use lib.ListN.{take, drop}
use Rattle.text.specs.Conditions.{every, any_of}
use Rattle.text.specs.Text.{empty}
use Rattle.signal.specs.Signal.{Signal}
use Rattle.sheet.specs.Sheet.{Kind, All, Any, Not, kind_of, Clause, Event}
use Rattle.event.specs.Signals.{Line}
use Rattle.event.specs.Match.{holds, is_kind, of_kind, matches}
use Rattle.table.specs.Table.{clause_of, event_of}
use Rattle.table.specs.declared.ClauseRow.{ClauseRow}
use Rattle.table.specs.declared.EventRow.{EventRow}
use Rattle.table_match.specs.Rows.{clause_from, clauses_of, event_from}
use Rattle.table_match.specs.First.{step_of}

-- the clauses that are left, where k is known
unfoldable pub judge : (Signal → Bool) → ℕ → List Clause → Bool
judge f k [] = not (eqb k 1)
judge f k (c ∷ cs) = let s = step_of k c.kind (f c.signal) in cond (eqb s 3) false (judge f s cs)

-- what is left to decide of the any clauses
abbrev left : ℕ → (Signal → Bool) → List Signal → Bool
left k f any = cond (eqb k 2) true (cond (eqb k 1) (any_of f any) (any_of f any || empty any))

abbrev open_event : ℕ → (Signal → Bool) → List Signal → List Signal → List Signal → Bool
open_event k f all any nay = not (any_of f nay) && every f all && left k f any

module _ (f : Signal → Bool) where
  any_held : (c : Signal) (cs : List Signal) → f c ≡ true → any_of f (c ∷ cs) ≡ true
  unfolding any_of
  any_held c cs e = rw e

  any_not : (c : Signal) (cs : List Signal) → f c ≡ false → any_of f (c ∷ cs) ≡ any_of f cs
  unfolding any_of
  any_not c cs e = rw e

  all_held : (c : Signal) (cs : List Signal) → f c ≡ true → every f (c ∷ cs) ≡ every f cs
  unfolding every
  all_held c cs e = rw e

  all-not : (c : Signal) (cs : List Signal) → f c ≡ false → every f (c ∷ cs) ≡ false
  unfolding every
  all-not c cs e = rw e

  left_held : (k : ℕ) (c : Signal) (cs : List Signal) → k < 3 → f c ≡ true → left k f (c ∷ cs) ≡ true
  left_held zero c cs h e = rw (any_held c cs e)
  left_held (suc zero) c cs h e = any_held c cs e
  left_held (suc (suc zero)) c cs h e = refl
  left_held (suc (suc (suc k))) c cs h e = absurd (omega arith)

  left_not : (k : ℕ) (c : Signal) (cs : List Signal) → k < 3 → f c ≡ false → left k f (c ∷ cs) ≡ left (cond (eqb k 0) 1 k) f cs
  left_not zero c cs h e = or-false (any_of f (c ∷ cs)) ∙ any_not c cs e
  left_not (suc zero) c cs h e = any_not c cs e
  left_not (suc (suc zero)) c cs h e = refl
  left_not (suc (suc (suc k))) c cs h e = absurd (omega arith)

  nothing_left : (k : ℕ) → k < 3 → not (eqb k 1) ≡ left k f []
  unfolding any_of
  nothing_left zero h = refl
  nothing_left (suc zero) h = refl
  nothing_left (suc (suc zero)) h = refl
  nothing_left (suc (suc (suc k))) h = absurd (omega arith)

  low : (k : ℕ) → k < 3 → cond (eqb k 0) 1 k < 3
  low zero h = omega arith
  low (suc k) h = rw (ne_eqb (suc k) 0 (omega arith)) h

  -- one clause more, where J judges those behind it
  module _ (c : Signal) (all any nay : List Signal) (J : ℕ → Bool) (ih : (k : ℕ) → k < 3 → J k ≡ open_event k f all any nay) (k : ℕ) (h : k < 3) where
    goes : (s : ℕ) → s < 3 → cond (eqb s 3) false (J s) ≡ open_event s f all any nay
    goes s b = rw (ne_eqb s 3 (omega arith)) (ih s b)

    turn : (kind : Kind) (held : Bool) → f c ≡ held
        → cond (eqb (step_of k kind held) 3) false (J (step_of k kind held))
        ≡ open_event k f (cond (is_kind All kind) (c ∷ all) all) (cond (is_kind Any kind) (c ∷ any) any) (cond (is_kind Not kind) (c ∷ nay) nay)
    turn All true e = goes k h ∙ rw (all_held c all e)
    turn All false e = rw (all-not c all e, and-false (not (any_of f nay)))
    turn Any true e = goes 2 (omega arith) ∙ rw (left_held k c any h e)
    turn Any false e = goes (cond (eqb k 0) 1 k) (low k h) ∙ rw (left_not k c any h e)
    turn Not true e = rw (any_held c nay e)
    turn Not false e = goes k h ∙ rw (any_not c nay e)

  judge_open : (k : ℕ) (cs : List Clause) → k < 3 → judge f k cs ≡ open_event k f (of_kind All cs) (of_kind Any cs) (of_kind Not cs)
  unfolding judge of_kind any_of every
  judge_open k [] h = nothing_left k h
  judge_open k (c ∷ cs) h =
      turn c.signal (of_kind All cs) (of_kind Any cs) (of_kind Not cs) (λ (s : ℕ). judge f s cs) (λ s g. judge_open s cs g) k h c.kind (f c.signal) refl

judge_is : (ls : List Line) (v : Event) → matches ls v ≡ judge (holds ls) 0 v.clauses
unfolding matches
judge_is ls v = sym (judge_open (holds ls) 0 v.clauses (omega arith))

-- ---- `event_matches`

-- of the clauses first..end those from i on are left, where k is known
pub record Judging (ls : List Line) (cs : List Clause) (first end k i : ℕ) : Type 0 where
  pub le : i ≤ end
  pub small : k < 3
  pub still : judge (holds ls) 0 (take (end - first) (drop first cs)) ≡ judge (holds ls) k (take (end - i) (drop i cs))

-- a step of the code is one of the sheet
pub step_is : (t : List ℕ) (c : ClauseRow) (ls : List Line) (k : ℕ) {s : ℕ} {held : Bool} → s ≡ step_of k (kind_of c.kind) held → held ≡ holds ls (clause_from t c).signal
    → s ≡ step_of k (clause_from t c).kind (holds ls (clause_from t c).signal)
unfolding clause_of
step_is t c ls k e h = e ∙ ap (step_of k (kind_of c.kind)) h

pub judging_first : (ls : List Line) (cs : List Clause) {first end : ℕ} → first ≤ end → Judging ls cs first end 0 first
judging_first ls cs h = record { le = h; small = omega arith; still = refl }

module _ {ls : List Line} (t : List ℕ) (e : EventRow) {k i : ℕ} (j : Judging ls (clauses_of t) e.first (e.first + e.count) k i) where
  abbrev end : ℕ
  end = e.first + e.count

  whole : matches ls (event_from t e) ≡ judge (holds ls) k (take (end - i) (drop i (clauses_of t)))
  unfolding event_of
  whole =
      let n : e.count ≡ end - e.first = omega arith in
      judge_is ls (event_from t e) ∙ ap (λ (m : ℕ). judge (holds ls) 0 (take m (drop e.first (clauses_of t)))) n ∙ j.still

  pub judging_last : end ≤ i → not (eqb k 1) ≡ matches ls (event_from t e)
  unfolding judge
  judging_last h =
      let z : end - i ≡ 0 = omega arith in
      sym (whole ∙ rw z)

  module _ (h : i < end) {c : Clause} (next : drop i (clauses_of t) ≡ c ∷ drop (i + 1) (clauses_of t)) {s : ℕ} (q : s ≡ step_of k c.kind (holds ls c.signal)) where
    judged : judge (holds ls) k (take (end - i) (drop i (clauses_of t))) ≡ cond (eqb s 3) false (judge (holds ls) s (take (end - (i + 1)) (drop (i + 1) (clauses_of t))))
    unfolding judge
    judged =
        let z : end - i ≡ suc (end - (i + 1)) = omega arith in
        rw (z, next, judge, ← q)

    pub judging_no : s ≡ 3 → false ≡ matches ls (event_from t e)
    judging_no b = sym (whole ∙ judged ∙ rw (eq-eqb _ _ b))

    pub judging_more : s < 4 → s ≢ 3 → Judging ls (clauses_of t) e.first end s (i + 1)
    judging_more l b = record { le = omega arith; small = omega arith; still = j.still ∙ judged ∙ rw (ne_eqb _ _ b) }
