-- Spans of a text that are clean, one after another, make it clean. Assumes nothing.
use Prim.Native.Nat.{ℕ, ◌+◌}
use native.Mathlib.Omega.{arith}
use mathlib.Core.Bool.{Bool, true}
use mathlib.Core.List.{List, [], ◌∷◌, map}
use mathlib.Core.Path.{◌≡◌, refl, sym, ◌∙◌}
use lib.Dec.{eqb}
use lib.ListN.{length, drop, drop_of_length-le}
use borrow.Author.Tests.{eqb-true}
use Rattle.le.specs.Le.{part}
use Rattle.text.specs.Conditions.{every}
use Rattle.text.proofs.Conditions.{fact}
use Rattle.text.proofs.Every.{every_cons}
use Rattle.table_words.specs.Words.{clean, word_ok}
use Rattle.table_words.proofs.Cut.{whole-clean}
use Rattle.table.specs.Layout.{event_text, word_text}
use Rattle.table.specs.Table.{follow, event_ok, events_ok, words_ok}
use Rattle.table.specs.declared.EventRow.{EventRow}
use Rattle.table.specs.declared.WordRow.{WordRow}
use Rattle.table.proofs.Spans.{both}
use Rattle.table_check_texts.proofs.Texts.{clean-none}

module _ {X : Type 0} (at len : X → ℕ) (ok : X → Bool) (s : List ℕ) (each : (x : X) → ok x ≡ true → clean (part s (at x) (len x)) ≡ true) where
  spans_clean : (f : ℕ) (xs : List X) → follow at len f (length s) xs ≡ true → every ok xs ≡ true → clean (drop f s) ≡ true
  unfolding follow
  spans_clean f [] h k =
      let e = eqb-true f (length s) h in
      rw (drop_of_length-le s {i = f} (omega arith)) clean-none
  spans_clean f (x ∷ xs) h k =
      let b = both (eqb (at x) f) (follow at len (f + len x) (length s) xs) h in
      let o = every_cons ok x xs k in
      whole-clean s f (len x) (rw (eqb-true (at x) f b.0) at (each x o.0)) (spans_clean (f + len x) xs b.1 o.1)

pub names-clean : (names : List ℕ) (n : ℕ) (es : List EventRow) → events_ok names n es ≡ true → clean names ≡ true
unfolding events_ok event_ok event_text
names-clean names n es e = spans_clean (λ (x : EventRow). x.at) (λ x. x.len) (event_ok names) names (λ x o. fact _ o 3) 0 es (fact _ e 1) (fact _ e 0)

every_map : {X Y : Type 0} (f : Y → Bool) (g : X → Y) (xs : List X) → every f (map g xs) ≡ every (λ x. f (g x)) xs
unfolding every
every_map f g [] = refl
every_map f g (x ∷ xs) = rw (every_map f g xs)

pub words-clean : (n : ℕ) (texts : List ℕ) (ws : List WordRow) → words_ok n texts ws ≡ true → clean texts ≡ true
unfolding words_ok word_ok word_text
words-clean n texts ws e =
    spans_clean (λ (w : WordRow). w.at) (λ w. w.len) (λ w. word_ok n (word_text texts w)) texts (λ w o. fact _ o 0) 0 ws (fact _ e 0)
    (sym (every_map (word_ok n) (word_text texts) ws) ∙ fact _ e 1)
