-- A walk over keys or values: where their texts lie, what `word_fits` answers, and the invariant of `words_laid`. Assumes nothing.
use Prim.Native.Nat.{ℕ, ◌+◌, ◌*◌, ◌≤◌, ◌<◌}
use native.Mathlib.Omega.{arith}
use mathlib.Core.Bool.{Bool, true, false, cond, ◌&&◌}
use mathlib.Core.List.{List, [], ◌∷◌}
use mathlib.Core.Path.{◌≡◌, refl, sym, ◌∙◌}
use lib.Dec.{leb, eqb}
use lib.ListN.{length, drop}
use borrow.Author.Tests.{eqb-true, leb-false}
use Rattle.le.specs.Le.{part}
use Rattle.text.specs.Conditions.{all_of, every}
use Rattle.text.specs.Text.{split, underscore}
use Rattle.text.proofs.Conditions.{fact}
use Rattle.table_words.specs.Words.{clean, word_ok}
use Rattle.table_words.specs.Read.{is_cut}
use Rattle.table_words_parts.specs.Read.{fit, paired}
use Rattle.table_words_parts.proofs.Tame.{part_tame}
use Rattle.table_words.proofs.Cut.{part-clean, rest-clean}
use Rattle.table.specs.Layout.{word_length, word_in, word_text}
use Rattle.table.specs.Table.{follow}
use Rattle.table.specs.Read.{WordAt}
use Rattle.table.specs.declared.WordRow.{WordRow}
use Rattle.table.proofs.Spans.{follow-past}
use Rattle.table_check_words.specs.Check.{word_rows, texts_of, word_asked, laid}
use Rattle.text.proofs.Tested.{broken}
use Rattle.table.proofs.Walks.{rows_more, rows_end}

-- ---- `word_fits`

-- in clean texts a word is right where it may be cut off and its parts are right
pub word_cut : (n : ℕ) (texts : List ℕ) (w : WordRow) → clean (drop w.at texts) ≡ true
    → word_ok n (word_text texts w) ≡ (is_cut (drop (w.at + w.len) texts) && fit n (split underscore (word_text texts w)))
unfolding word_ok word_text all_of
word_cut n texts w e = rw (part-clean texts w.at w.len e) (go (is_cut (drop (w.at + w.len) texts)))
  where
    go : (b : Bool) → cond b (fit n (split underscore (part texts w.at w.len))) false ≡ (b && fit n (split underscore (part texts w.at w.len)))
    go true = refl
    go false = refl

-- a word of tame texts is tame
pub word_tame : (texts : List ℕ) (w : WordRow) → paired texts ≡ false → paired (word_text texts w) ≡ false
unfolding word_text part
word_tame texts w e = part_tame texts w.at w.len e

-- behind a word that is right the texts are still clean
behind-word : (n : ℕ) (texts : List ℕ) (w : WordRow) (f : ℕ) → clean (drop f texts) ≡ true → all_of (word_asked n texts w f) ≡ true
    → clean (drop (w.at + w.len) texts) ≡ true
unfolding word_ok word_text
behind-word n texts w f clear e = rest-clean texts w.at w.len (rw (eqb-true w.at f (fact _ e 0)) clear) (fact _ (fact _ e 2) 0)

-- ---- `words_laid`

module _ (n : ℕ) (texts : List ℕ) (w : WordRow) (ws : List WordRow) where
  abbrev spanned : ℕ → Bool
  spanned f = follow (λ (x : WordRow). x.at) (λ x. x.len) f (length texts) ws

  abbrev sound : Bool
  sound = every (word_ok n) (texts_of texts ws)

  word_first : (f : ℕ) → laid n texts f (w ∷ ws) ≡ cond (all_of (word_asked n texts w f)) (laid n texts (w.at + w.len) ws) false
  unfolding laid every follow all_of
  word_first f = go (eqb w.at f) (leb (w.at + w.len) (length texts)) (word_ok n (word_text texts w)) refl refl
    where
      go : (a l o : Bool) → eqb w.at f ≡ a → leb (w.at + w.len) (length texts) ≡ l
          → all_of (cond a (spanned (f + w.len)) false ∷ cond o sound false ∷ [])
          ≡ cond (all_of (a ∷ l ∷ o ∷ [])) (all_of (spanned (w.at + w.len) ∷ sound ∷ [])) false
      go true true true h k = rw (eqb-true w.at f h)
      go true true false h k = sym (broken (spanned (f + w.len) ∷ false ∷ []) 1 refl)
      go true false o h k =
          let s = leb-false (w.at + w.len) (length texts) k in
          let z = eqb-true w.at f h in
          sym (broken (spanned (f + w.len) ∷ cond o sound false ∷ []) 0 (follow-past (λ (x : WordRow). x.at) (λ x. x.len) (f + w.len) (length texts) ws (omega (arith, s, z))))
      go false l o h k = refl

pub record Laying (l texts : List ℕ) (n limit f i : ℕ) : Type 0 where
  pub le : i ≤ n
  pub room : word_length * n ≤ length l
  pub rest : clean (drop f texts) ≡ true
  pub still : laid limit texts 0 (word_rows n l) ≡ laid limit texts f (drop i (word_rows n l))

pub laying_first : (l texts : List ℕ) (n limit : ℕ) → word_length * n ≤ length l → clean texts ≡ true → Laying l texts n limit 0 0
laying_first l texts n limit h k = record { le = omega arith; room = h; rest = k; still = refl }

module _ {l texts : List ℕ} {n limit f i : ℕ} (y : Laying l texts n limit f i) where
  pub laying_last : n ≤ i → eqb f (length texts) ≡ laid limit texts 0 (word_rows n l)
  unfolding laid every follow all_of
  laying_last h = sym (y.still ∙ rw (rows_end word_in word_length n l i h) (go (eqb f (length texts))))
    where
      go : (b : Bool) → cond b true false ≡ b
      go true = refl
      go false = refl

  module _ (h : i < n) {w : WordRow} (r : WordAt l i w) where
    turn : laid limit texts 0 (word_rows n l) ≡ cond (all_of (word_asked limit texts w f)) (laid limit texts (w.at + w.len) (drop (i + 1) (word_rows n l))) false
    turn = y.still ∙ rw (rows_more word_in word_length n l i h, ← r.is) (word_first limit texts w (drop (i + 1) (word_rows n l)) f)

    pub laying_off : all_of (word_asked limit texts w f) ≡ false → false ≡ laid limit texts 0 (word_rows n l)
    laying_off e = sym (turn ∙ rw e)

    pub laying_more : all_of (word_asked limit texts w f) ≡ true → Laying l texts n limit (w.at + w.len) (i + 1)
    laying_more e = record { le = omega arith; room = y.room; rest = behind-word limit texts w f y.rest e; still = turn ∙ rw e }
