-- A walk over events: what each asks of the next, and the invariant of `events_ok`. Assumes nothing.
use Prim.Native.Nat.{ℕ, ◌+◌, ◌*◌, ◌≤◌, ◌<◌}
use native.Mathlib.Omega.{arith}
use mathlib.Core.Bool.{Bool, true, false, cond}
use mathlib.Core.List.{List, [], ◌∷◌}
use mathlib.Core.Logic.{◌≢◌}
use mathlib.Core.Path.{◌≡◌, refl, sym, ◌∙◌}
use lib.Dec.{leb, eqb}
use lib.ListN.{length, drop}
use borrow.Author.Tests.{eq-eqb, ne_eqb, eqb-true, leb-false}
use Rattle.text.specs.Conditions.{all_of, every}
use Rattle.text.proofs.Conditions.{◌also◌, none_left, fact}
use Rattle.table_words.specs.Words.{clean}
use Rattle.table_words.specs.Read.{is_cut}
use Rattle.table_words.proofs.Cut.{part-clean, rest-clean}
use Rattle.table.specs.Layout.{event_length, event_in, event_text}
use Rattle.table.specs.Table.{follow, event_ok, events_ok}
use Rattle.table.specs.Read.{EventAt}
use Rattle.table.specs.declared.EventRow.{EventRow}
use Rattle.table.proofs.Spans.{follow-past}
use Rattle.table_check_events.specs.Check.{event_rows, event_asked}
use Rattle.text.proofs.Tested.{broken, decided}
use Rattle.table.proofs.Walks.{rows_more, rows_end}

-- events whose names start at f and whose clauses start at g
unfoldable pub events_from : List ℕ → ℕ → ℕ → ℕ → List EventRow → Bool
events_from names n f g es =
    all_of
    (every (event_ok names) es
    ∷ follow (λ e. e.at) (λ e. e.len) f (length names) es
    ∷ follow (λ e. e.first) (λ e. e.count) g n es
    ∷ [])

module _ (names : List ℕ) (n : ℕ) (e : EventRow) (es : List EventRow) where
  abbrev sound : Bool
  sound = every (event_ok names) es

  abbrev named : ℕ → Bool
  named f = follow (λ (x : EventRow). x.at) (λ x. x.len) f (length names) es

  abbrev filled : ℕ → Bool
  filled g = follow (λ (x : EventRow). x.first) (λ x. x.count) g n es

  event_first : (f g : ℕ) → events_from names n f g (e ∷ es)
      ≡ cond (all_of (event_asked names e f g)) (events_from names n (e.at + e.len) (e.first + e.count) es) false
  unfolding events_from every follow all_of
  event_first f g = go (eqb e.at f) (eqb e.first g) (leb (e.at + e.len) (length names)) (event_ok names e) refl refl refl
    where
      go : (a b l o : Bool) → eqb e.at f ≡ a → eqb e.first g ≡ b → leb (e.at + e.len) (length names) ≡ l
          → all_of (cond o sound false ∷ cond a (named (f + e.len)) false ∷ cond b (filled (g + e.count)) false ∷ [])
          ≡ cond (all_of (a ∷ b ∷ l ∷ o ∷ [])) (events_from names n (e.at + e.len) (e.first + e.count) es) false
      go true true true true h k q = rw (eqb-true e.at f h, eqb-true e.first g k)
      go true true true false h k q = refl
      go true true false o h k q =
          let s = leb-false (e.at + e.len) (length names) q in
          let z = eqb-true e.at f h in
          let past = follow-past (λ (x : EventRow). x.at) (λ x. x.len) (f + e.len) (length names) es (omega (arith, s, z)) in
          sym (broken (cond o sound false ∷ named (f + e.len) ∷ filled (g + e.count) ∷ []) 1 past)
      go true false l o h k q = sym (broken (cond o sound false ∷ named (f + e.len) ∷ false ∷ []) 2 refl)
      go false b l o h k q = sym (broken (cond o sound false ∷ false ∷ cond b (filled (g + e.count)) false ∷ []) 1 refl)

-- ---- `event_ok`

-- a name that may be cut off from the next
pub name_clean : (names : List ℕ) (e : EventRow) → clean (drop e.at names) ≡ true → clean (event_text names e) ≡ is_cut (drop (e.at + e.len) names)
unfolding event_text
name_clean names e h = part-clean names e.at e.len h

-- behind the name of an event that is right the names are still clean
behind-event : (names : List ℕ) (e : EventRow) (f g : ℕ) → clean (drop f names) ≡ true → all_of (event_asked names e f g) ≡ true
    → clean (drop (e.at + e.len) names) ≡ true
unfolding event_ok event_text
behind-event names e f g h q = rest-clean names e.at e.len (rw (eqb-true e.at f (fact _ q 0)) h) (fact _ (fact _ q 3) 3)

-- ---- `events_ok`

pub record Walking (l names : List ℕ) (n clauses f g i : ℕ) : Type 0 where
  pub le : i ≤ n
  pub room : event_length * n ≤ length l
  pub rest : clean (drop f names) ≡ true
  pub still : events_ok names clauses (event_rows n l) ≡ events_from names clauses f g (drop i (event_rows n l))

pub walking_first : (l names : List ℕ) (n clauses : ℕ) → event_length * n ≤ length l → clean names ≡ true → Walking l names n clauses 0 0 0
unfolding events_ok events_from
walking_first l names n clauses h k = record { le = omega arith; room = h; rest = k; still = refl }

module _ {l names : List ℕ} {n clauses f g i : ℕ} (w : Walking l names n clauses f g i) where
  module _ (h : n ≤ i) where
    walked : events_ok names clauses (event_rows n l) ≡ all_of (true ∷ eqb f (length names) ∷ eqb g clauses ∷ [])
    unfolding events_from every follow
    walked = w.still ∙ rw (rows_end event_in event_length n l i h)

    pub walking_short : f ≢ length names → false ≡ events_ok names clauses (event_rows n l)
    walking_short e = broken _ 1 (ne_eqb _ _ e) ∙ sym walked

    pub walking_last : f ≡ length names → eqb g clauses ≡ events_ok names clauses (event_rows n l)
    walking_last e = decided (refl also eq-eqb _ _ e also none_left) refl ∙ sym walked

  module _ (h : i < n) {e : EventRow} (r : EventAt l i e) where
    turn : events_ok names clauses (event_rows n l)
        ≡ cond (all_of (event_asked names e f g)) (events_from names clauses (e.at + e.len) (e.first + e.count) (drop (i + 1) (event_rows n l))) false
    turn = w.still ∙ rw (rows_more event_in event_length n l i h, ← r.is) (event_first names clauses e (drop (i + 1) (event_rows n l)) f g)

    pub walking_off : all_of (event_asked names e f g) ≡ false → false ≡ events_ok names clauses (event_rows n l)
    walking_off k = sym (turn ∙ rw k)

    pub walking_more : all_of (event_asked names e f g) ≡ true → Walking l names n clauses (e.at + e.len) (e.first + e.count) (i + 1)
    walking_more k = record { le = omega arith; room = w.room; rest = behind-event names e f g w.rest k; still = turn ∙ rw k }
