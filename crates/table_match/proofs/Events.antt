-- The first event of a kind that matches, and the first match. Assumes nothing.
use Prim.Native.Nat.{ℕ, zero, suc, ◌+◌, ◌%◌, ◌<◌, ◌≤◌}
use native.Mathlib.Omega.{arith}
use mathlib.Core.Path.{◌≡◌, ◌∙◌, refl, sym}
use mathlib.Core.Logic.{◌≢◌}
use mathlib.Core.Bool.{Bool, true, false, not, cond, ◌&&◌}
use mathlib.Core.List.{List, [], ◌∷◌}
use Rattle.std.specs.Prelude.{Option, None, Some}
use borrow.Author.Tests.{eq-eqb, ne_eqb}
use lib.Dec.{eqb}
use lib.ListN.{drop, drop_of_length-le}
use Rattle.sheet.specs.Sheet.{Event}
use Rattle.event.specs.Signals.{Line}
use Rattle.event.specs.Match.{matches, first_of, first_match, preferred}
use Rattle.event_find.specs.Places.{lines_at}
use Rattle.table.specs.Layout.{counts_in, parts_in}
use Rattle.table.specs.Table.{event_of, sheet_of}
use Rattle.table.specs.declared.EventRow.{EventRow}
use Rattle.table.proofs.Facts.{events-count}
use Rattle.table_match.specs.Rows.{event_from}
use Rattle.table_match.specs.First.{of_number, FirstAs, MatchAs}

-- ---- `is_hit`

-- an event's kind by its number
kind-is : (t : List ℕ) (e : EventRow) (kind : ℕ) → kind ≤ 1 → of_number kind (event_from t e) ≡ eqb (e.kind % 2) kind
unfolding event_of
kind-is t e zero k = go (e.kind % 2) (omega arith)
  where
    go : (n : ℕ) → n ≤ 1 → not (eqb n 1) ≡ eqb n 0
    go zero h = refl
    go (suc zero) h = refl
    go (suc (suc n)) h = absurd (omega arith)
kind-is t e (suc zero) k = refl
kind-is t e (suc (suc kind)) k = absurd (omega arith)

module _ (ls : List Line) (t : List ℕ) (e : EventRow) {kind : ℕ} (k : kind ≤ 1) where
  pub hit_other : e.kind % 2 ≢ kind → false ≡ (of_number kind (event_from t e) && matches ls (event_from t e))
  hit_other n = rw (kind-is t e kind k, ne_eqb _ _ n)

  pub hit_same : e.kind % 2 ≡ kind → {b : Bool} → b ≡ matches ls (event_from t e) → b ≡ (of_number kind (event_from t e) && matches ls (event_from t e))
  hit_same n h = rw (kind-is t e kind k, eq-eqb _ _ n) h

-- ---- `find_event`

-- no event up to i is one
pub record Finding (kind : ℕ) (t s starts mids : List ℕ) (n i : ℕ) : Type 0 where
  pub le : i ≤ (counts_in t).events
  pub still : first_of (of_number kind) 0 (lines_at s starts mids n) (sheet_of (parts_in t)).events ≡ first_of (of_number kind) i (lines_at s starts mids n) (drop i (sheet_of (parts_in t)).events)

pub finding_first : (kind : ℕ) (t s starts mids : List ℕ) (n : ℕ) → Finding kind t s starts mids n 0
finding_first kind t s starts mids n = record { le = omega arith; still = refl }

module _ {kind : ℕ} {t s starts mids : List ℕ} {n i : ℕ} (f : Finding kind t s starts mids n i) where
  pub finding_last : (counts_in t).events ≤ i → FirstAs kind t s starts mids n None
  unfolding first_of
  finding_last h =
      let e : drop i (sheet_of (parts_in t)).events ≡ [] = drop_of_length-le (sheet_of (parts_in t)).events {i = i} (omega (arith, events-count t)) in
      record { is = sym (f.still ∙ rw e); ok = tt }

  module _ (h : i < (counts_in t).events) {v : Event} (next : drop i (sheet_of (parts_in t)).events ≡ v ∷ drop (i + 1) (sheet_of (parts_in t)).events) where
    found : first_of (of_number kind) 0 (lines_at s starts mids n) (sheet_of (parts_in t)).events
        ≡ cond (of_number kind v && matches (lines_at s starts mids n) v) (Some i) (first_of (of_number kind) (i + 1) (lines_at s starts mids n) (drop (i + 1) (sheet_of (parts_in t)).events))
    unfolding first_of
    found =
        let e : suc i ≡ i + 1 = omega arith in
        f.still ∙ rw (next, first_of, e)

    pub finding_hit : true ≡ (of_number kind v && matches (lines_at s starts mids n) v) → FirstAs kind t s starts mids n (Some i)
    finding_hit q = record { is = sym (found ∙ rw (← q)); ok = h }

    pub finding_more : false ≡ (of_number kind v && matches (lines_at s starts mids n) v) → Finding kind t s starts mids n (i + 1)
    finding_more q = record { le = omega arith; still = found ∙ rw (← q) }

-- ---- `first_match`

module _ {t s starts mids : List ℕ} {n : ℕ} where
  pub match_opening : {r : (Option ℕ)} → FirstAs 0 t s starts mids n r → {i : ℕ} → r ≡ Some i → MatchAs t s starts mids n r
  unfolding first_match
  match_opening {r} a {i} e = record {
    is = a.is ∙ go (first_of (of_number 0) 0 (lines_at s starts mids n) (sheet_of (parts_in t)).events) (sym a.is ∙ e);
    ok = a.ok;
  }
    where
      go : (o : Option ℕ) → o ≡ Some i → o ≡ preferred o (first_of (of_number 1) 0 (lines_at s starts mids n) (sheet_of (parts_in t)).events)
      go None q = absurd (let z : ◌≡◌ {A = ℕ} 0 1 = cc in omega arith)
      go (Some x) q = refl

  pub match_exit : {o : (Option ℕ)} → FirstAs 0 t s starts mids n o → o ≡ None → {r : (Option ℕ)} → FirstAs 1 t s starts mids n r → MatchAs t s starts mids n r
  unfolding first_match
  match_exit a e b = record { is = b.is ∙ rw (← a.is, e); ok = b.ok }
