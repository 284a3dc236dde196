-- What a bar's line says by its fields: the five behind the tag, and all six. Assumes nothing.
use Rattle.revise_first.specs.declared.Revised.{Revised}
use Rattle.revise_first.specs.declared.FirstError.{FirstError}
use Rattle.revise_first.specs.declared.FirstError.TheVariants.{Malformed, BadNumber}
use Rattle.std.specs.Prelude.{Result, Err, Some, None}
use Prim.Native.Nat.{ℕ, ◌+◌, ◌-◌, ◌≤◌}
use native.Mathlib.Decide.{dec_le}
use native.Mathlib.Omega.{arith}
use mathlib.Core.Bool.{Bool, true, false, ◌&&◌, false≢true}
use mathlib.Core.List.{List, [], ◌∷◌, ◌++◌}
use mathlib.Core.Logic.{◌≢◌}
use mathlib.Core.Path.{◌≡◌, refl, sym, ◌∙◌, ap, ap₂}
use borrow.Author.Tests.{eqb-true, eq-eqb, ne_eqb}
use lib.Dec.{eqb}
use lib.ListN.{length, get_or, drop, length-append}
use lib.Seq.{slice, length-slice, take_at, get_or_at}
use Rattle.text.specs.Answer.{◌>>=◌}
use Rattle.text.specs.Literal.{bytes, encoded}
use Rattle.text.specs.Number.{unsigned}
use Rattle.text.specs.Read.{Part}
use Rattle.text.specs.Text.{LF, pipe, begins, onto, split}
use Rattle.text.proofs.Laws.{part_cons}
use Rattle.bar.specs.declared.BarNumbers.{BarNumbers}
use Rattle.position.specs.Run.{bar_line}
use Rattle.run_input.specs.Lines.{BarAs}
use Rattle.revise.specs.Entries.{last_revision, fields_in, first_line}
use Rattle.revise.specs.Lines.{is_bar}
use Rattle.revise.specs.Places.{LineEnd}
use Rattle.revise.proofs.Lines.{bar-begins, line-ended, line-text, line_open}
use Rattle.revise_first.specs.First.{FirstAs, FieldsAs, RangedAs, LastPipe, RevisionAs, ranged_do, fields_do}

-- ---- `read_fields`

module _ {s : List ℕ} {from to last : ℕ} (five : length (split pipe (slice from to s)) ≡ 5) (l : LastPipe s from to last) where
  pub four : length (split pipe (slice from last s)) ≡ 4
  four = omega (arith, ap length l.fields, length-append (split pipe (slice from last s)) (slice (last + 1) to s ∷ []))

  steps : (bar_line (bytes "B" ∷ split pipe (slice from last s)) >>= λ i. unsigned last_revision (slice (last + 1) to s) >>= λ r. ranged_do i r) ≡ fields_do (split pipe (slice from to s))
  unfolding fields_do
  steps = sym (rw (l.fields, take_at (split pipe (slice from last s)) (slice (last + 1) to s ∷ []) 4 four, get_or_at (split pipe (slice from last s)) (slice (last + 1) to s) [] [] 4 four))

  -- a field of the bar is malformed
  pub fields-bar : BarAs (slice from last s) None → FieldsAs (slice from to s) (Err BadNumber)
  fields-bar w = record { is = sym (sym steps ∙ rw (← w.is)); ok = tt }

  module _ {b : BarNumbers} (w : BarAs (slice from last s) (Some b)) where
    -- the revision is
    pub fields-revision : RevisionAs (slice (last + 1) to s) None → FieldsAs (slice from to s) (Err BadNumber)
    fields-revision q = record { is = sym (sym steps ∙ rw (← w.is, ← q.is)); ok = tt }

    pub fields_read : {v : ℕ} {r : (Result Revised FirstError)} → RevisionAs (slice (last + 1) to s) (Some v) → RangedAs b v r → FieldsAs (slice from to s) r
    unfolding ranged_do
    fields_read q k = record { is = k.is ∙ sym (sym steps ∙ rw (← w.is, ← q.is)); ok = k.ok }

-- ---- `read_first`

begins-is : (t l : List ℕ) → begins t l ≡ true → l ≡ t ++ drop (length t) l
unfolding begins
begins-is [] l e = refl
begins-is (x ∷ t) [] e = absurd (false≢true e)
begins-is (x ∷ t) (y ∷ l) e = go (eqb x y) refl (begins-is t l) e
  where
    go : (b : Bool) → eqb x y ≡ b → (begins t l ≡ true → l ≡ t ++ drop (length t) l) → (b && begins t l) ≡ true → y ∷ l ≡ x ∷ t ++ drop (length t) l
    go true h ih k = ap₂ ◌∷◌ (sym (eqb-true x y h)) (ih k)
    go false h ih k = absurd (false≢true k)

tagged : (y : List ℕ) → split pipe (66 ∷ pipe ∷ y) ≡ bytes "B" ∷ split pipe y
unfolding split onto bytes encoded
tagged y = refl

module _ {s : List ℕ} {at end : ℕ} (e : LineEnd s at end) where
  pub first-other : is_bar (slice at end s) ≡ false → FirstAs (slice at end s) (Err Malformed)
  unfolding first_line
  first-other h = record { is = rw h; ok = tt }

  module _ (b : is_bar (slice at end s) ≡ true) where
    pub first_open : get_or s (end - 1) 0 ≢ LF → FirstAs (slice at end s) (Err Malformed)
    unfolding first_line
    first_open h = record { is = rw (b, line_open e h); ok = tt }

    shape : slice at end s ≡ 66 ∷ pipe ∷ drop 2 (slice at end s)
    shape = begins-is (66 ∷ pipe ∷ []) (slice at end s) (bar-begins (slice at end s) ∙ b)

    two : at + 2 ≤ end
    two = omega (arith, ap length shape, length-slice at end s e.high)

    behind : slice at end s ≡ get_or s at 0 ∷ get_or s (at + 1) 0 ∷ slice (at + 1 + 1) end s
    behind = part_cons at end s e.low e.high ∙ rw (part_cons (at + 1) end s (omega (arith, two)) e.high)

    tag : get_or s at 0 ≡ 66
    tag = ap (λ l. get_or l 0 0) (sym behind ∙ shape)

    bar : get_or s (at + 1) 0 ≡ pipe
    bar = ap (λ l. get_or l 1 0) (sym behind ∙ shape)

    module _ (h : get_or s (end - 1) 0 ≡ LF) where
      texts : fields_in (slice at end s) ≡ split pipe (slice at (end - 1) s)
      texts = ap (split pipe) (line-text e h)

      pub first_count : length (split pipe (slice at (end - 1) s)) ≢ 6 → FirstAs (slice at end s) (Err Malformed)
      unfolding first_line
      first_count n = record { is = rw (b, line-ended e h, texts, ne_eqb _ _ n); ok = tt }

      -- the `|` behind the tag is not the LF
      pub first-room : Part s (at + 2) (end - 1)
      first-room = record { order = inner; within = omega (arith, e.high) }
        where
          inner : at + 2 ≤ end - 1
          inner =
              elim (dec_le (at + 2) (end - 1)) [
                | yes k ↦ k
                | no k ↦ (let here : end - 1 ≡ at + 1 = omega (arith, two) in let not-both : pipe ≡ LF = sym bar ∙ ap (λ (i : ℕ). get_or s i 0) (sym here) ∙ h in absurd (omega arith))
              ]

      fields : split pipe (slice at (end - 1) s) ≡ bytes "B" ∷ split pipe (slice (at + 2) (end - 1) s)
      fields =
          let next : at + 1 + 1 ≡ at + 2 = omega arith in
          ap (split pipe) (
          part_cons at (end - 1) s (omega (arith, first-room.order)) first-room.within
          ∙ ap (λ l. get_or s at 0 ∷ l) (part_cons (at + 1) (end - 1) s (omega (arith, first-room.order)) first-room.within) ∙ rw (tag, bar, next)
          )
          ∙ tagged (slice (at + 2) (end - 1) s)

      module _ (six : length (split pipe (slice at (end - 1) s)) ≡ 6) where
        pub first_five : length (split pipe (slice (at + 2) (end - 1) s)) ≡ 5
        first_five = omega (arith, ap length fields)

        pub first-is : {r : (Result Revised FirstError)} → FieldsAs (slice (at + 2) (end - 1) s) r → FirstAs (slice at end s) r
        unfolding first_line fields_do ranged_do
        first-is w = record { is = w.is ∙ sym (rw (b, line-ended e h, texts, eq-eqb _ _ six, fields)); ok = w.ok }
