-- A clause that holds: the score, the values and the line of its key. Assumes nothing.
use Prim.Native.Nat.{ℕ, ◌+◌, ◌-◌, ◌<◌, ◌≤◌}
use native.Mathlib.Omega.{arith}
use mathlib.Core.Path.{◌≡◌, ◌∙◌, refl, sym, ap}
use mathlib.Core.Logic.{◌≢◌}
use mathlib.Core.Bool.{Bool, true, false, false≢true, ◌&&◌, or-true, or-false}
use mathlib.Core.List.{List, []}
use Rattle.std.specs.Prelude.{Option, None, Some}
use borrow.Author.Tests.{leb-true, ltb-true, eq-eqb, ne_eqb}
use lib.Dec.{leb}
use lib.IntN.{ℤ}
use lib.ListN.{length, get_or, take, drop}
use lib.Seq.{slice}
use Rattle.text.specs.Text.{same}
use Rattle.text.proofs.Conditions.{fact}
use Rattle.text.proofs.Laws.{part_end, part-size}
use Rattle.text.proofs.Same.{same_refl}
use Rattle.signal.specs.Signal.{Signal, wildcard}
use Rattle.signal.specs.Value.{valued, value_of}
use Rattle.signal.specs.Read.{ValueAs}
use Rattle.signal.specs.declared.ValueAt.{ValueAt}
use Rattle.event.specs.Match.{value_at, agrees, meets, met_by, holds}
use Rattle.event_find.specs.Places.{lines_at, LinesOk}
use Rattle.event_find.specs.Steps.{FoundAt, Missing}
use Rattle.table.specs.Layout.{counts_in}
use Rattle.table.specs.Table.{wild_code, clause_ok, text_at, clause_of, is_table}
use Rattle.table.specs.declared.ClauseRow.{ClauseRow}
use Rattle.table_match.specs.Rows.{keys_of, values_of, clause_from, CodeIn, ClauseIn}
use Rattle.table_match.specs.First.{reached}
use Rattle.table_match.proofs.Sound.{value-plain}

-- ---- `agrees`

pub agree_wild : (vs : List (List ℕ)) (v : List ℕ) {code : ℕ} → code ≡ wild_code → true ≡ agrees (text_at vs code) v
agree_wild vs v e = rw (eq-eqb _ _ e, same_refl wildcard) (sym (or-true (same wildcard v)))

module _ (t : List ℕ) (ok : is_table t ≡ true) {code : ℕ} (c : CodeIn t code) (n : code ≢ wild_code) where
  known : leb 1 code && leb code (counts_in t).values ≡ true
  known = rw (ne_eqb code wild_code n) at c

  pub code_low : 1 ≤ code
  code_low = leb-true 1 code (go (leb 1 code) known)
    where
      go : (b : Bool) → b && leb code (counts_in t).values ≡ true → b ≡ true
      go true e = refl
      go false e = e

  pub code_high : code - 1 < (counts_in t).values
  code_high =
      let h = leb-true code (counts_in t).values (go (leb 1 code) known) in
      omega (arith, h, code_low)
    where
      go : (b : Bool) → b && leb code (counts_in t).values ≡ true → leb code (counts_in t).values ≡ true
      go true e = e
      go false e = absurd (false≢true e)

  pub agree-text : (own v : List ℕ) {b : Bool} → own ≡ get_or (values_of t) (code - 1) [] → b ≡ same (slice 0 (length own) own) v → b ≡ agrees (text_at (values_of t) code) v
  agree-text own v e h = rw (ne_eqb code wild_code n, value-plain t ok (code - 1) code_high, or-false, ← e) (rw (part_end 0 own) at h)

-- ---- `meets`

met_parts : (c : Signal) (x y z : List ℕ) (o : Option ℤ)
    → met_by c (valued x y z o) ≡ (reached c.score o && agrees c.v1 x && agrees c.v2 y && agrees c.v3 z)
unfolding meets
met_parts c x y z None = refl
met_parts c x y z (Some n) = refl

-- a value that was read
pub met_is : (t v : List ℕ) (c : ClauseRow) (a : ValueAt) → ValueAs v (Some a)
    → met_by (clause_from t c).signal (value_of v)
    ≡ (reached c.score (Some a.score)
    && agrees (text_at (values_of t) c.v1) (slice 0 a.v1 v)
    && agrees (text_at (values_of t) c.v2) (slice (a.v1 + 1) a.v2 v)
    && agrees (text_at (values_of t) c.v3) (slice (a.v2 + 1) a.v3 v))
unfolding clause_of
met_is t v c a r =
    ap (met_by (clause_from t c).signal) (sym r.is)
    ∙ met_parts (clause_from t c).signal (slice 0 a.v1 v) (slice (a.v1 + 1) a.v2 v) (slice (a.v2 + 1) a.v3 v) (Some a.score)

pub met_none : (t v : List ℕ) (c : ClauseRow) → ValueAs v None → met_by (clause_from t c).signal (value_of v) ≡ false
met_none t v c r = rw (← r.is)

-- four tests in a row: the first that fails, or the last
module _ {m : Bool} (r a b c : Bool) (e : m ≡ (r && a && b && c)) where
  pub first_fails : r ≡ false → m ≡ false
  first_fails h = e ∙ rw h

  module _ (h : r ≡ true) where
    pub second_fails : a ≡ false → m ≡ false
    second_fails k = e ∙ rw (h, k)

    module _ (k : a ≡ true) where
      pub third_fails : b ≡ false → m ≡ false
      third_fails l = e ∙ rw (h, k, l)

      pub last_decides : b ≡ true → m ≡ c
      last_decides l = e ∙ rw (h, k, l)

-- the key and the codes of a clause
module _ (t : List ℕ) (c : ClauseRow) (ok : ClauseIn t c) where
  pub clause-key : c.key < (counts_in t).keys
  unfolding clause_ok
  clause-key = ltb-true c.key (counts_in t).keys (fact _ ok 1)

  pub clause_v1 : CodeIn t c.v1
  unfolding clause_ok
  clause_v1 = fact _ ok 2

  pub clause_v2 : CodeIn t c.v2
  unfolding clause_ok
  clause_v2 = fact _ ok 3

  pub clause_v3 : CodeIn t c.v3
  unfolding clause_ok
  clause_v3 = fact _ ok 4

-- ---- `clause_holds`

-- the places of a line's value
pub record ValuePart (s starts mids : List ℕ) (i : ℕ) : Type 0 where
  pub below : 1 ≤ get_or starts (i + 1) 0
  pub order : get_or mids i 0 + 1 ≤ get_or starts (i + 1) 0 - 1
  pub within : get_or starts (i + 1) 0 - 1 ≤ length s

pub value-part : {s starts mids prints : List ℕ} {n i : ℕ} → LinesOk s starts mids prints n → i < n → ValuePart s starts mids i
value-part {i = i} l h =
    let k = l.lines i h in
    record { below = omega (arith, k.value); order = omega (arith, k.value); within = omega (arith, k.within) }

module _ (t : List ℕ) (c : ClauseRow) {k s starts mids : List ℕ} {n : ℕ} (e : k ≡ get_or (keys_of t) c.key []) where
  pub holds_not : Missing k s starts mids n → false ≡ holds (lines_at s starts mids n) (clause_from t c).signal
  unfolding holds clause_of
  holds_not m = rw (← e, m.value)

  pub holds_at : {i : ℕ} → FoundAt k s starts mids n i → ValuePart s starts mids i → {b : Bool}
      → b ≡ met_by (clause_from t c).signal (value_of (take (get_or starts (i + 1) 0 - 1 - (get_or mids i 0 + 1)) (drop (get_or mids i 0 + 1) s)))
      → b ≡ holds (lines_at s starts mids n) (clause_from t c).signal
  unfolding holds clause_of
  holds_at {i} f v h =
      h
      ∙ ap (met_by (clause_from t c).signal)
      (ap value_of (part-size (get_or mids i 0 + 1) (get_or starts (i + 1) 0 - 1) s v.order)
      ∙ sym f.value
      ∙ ap (λ x. value_at x (lines_at s starts mids n)) e)
