-- "none exactly when none matches." Assumes nothing.
use Rattle.std.proofs.lemmas.Option.{none-some}
use Prim.Native.Nat.{ℕ, suc}
use mathlib.Core.Path.{◌≡◌, refl, sym, ap₂}
use mathlib.Core.Logic.{◌↔◌}
use mathlib.Core.Bool.{Bool, true, false, cond, ◌&&◌, ◌||◌, false≢true, or-not_self, not-or_self}
use mathlib.Core.List.{List, [], ◌∷◌}
use Rattle.std.specs.Prelude.{Option, None, Some}
use Rattle.text.specs.Conditions.{any_of}
use Rattle.sheet.specs.Sheet.{Event}
use Rattle.event.specs.Signals.{Line}
use Rattle.event.specs.Match.{matches, first_of, preferred, first_match}

module _ (ls : List Line) where
  -- where no event matches, none of a kind is chosen
  none_of : (kind : Event → Bool) (k : ℕ) (es : List Event) → any_of (matches ls) es ≡ false → first_of kind k ls es ≡ None
  unfolding any_of first_of
  none_of kind k [] h = refl
  none_of kind k (e ∷ es) h = go (kind e) (matches ls e) (none_of kind (suc k) es) h
    where
      go : (b m : Bool) → (any_of (matches ls) es ≡ false → first_of kind (suc k) ls es ≡ None) → cond m true (any_of (matches ls) es) ≡ false → cond (b && m) (Some k) (first_of kind (suc k) ls es) ≡ None
      go true true ih q = absurd (false≢true (sym q))
      go true false ih q = ih q
      go false true ih q = absurd (false≢true (sym q))
      go false false ih q = ih q

  -- every event is of one kind or of the other: where none of either is chosen, no event matches
  module _ (one other : Event → Bool) (either : (e : Event) → (one e || other e) ≡ true) where
    of_none : (j k : ℕ) (es : List Event) → first_of one j ls es ≡ None → first_of other k ls es ≡ None → any_of (matches ls) es ≡ false
    unfolding any_of first_of
    of_none j k [] p q = refl
    of_none j k (e ∷ es) p q = go (one e) (other e) (matches ls e) (either e) (of_none (suc j) (suc k) es) p q
      where
        go : (a b m : Bool) → (a || b) ≡ true → (first_of one (suc j) ls es ≡ None → first_of other (suc k) ls es ≡ None → any_of (matches ls) es ≡ false)
            → cond (a && m) (Some j) (first_of one (suc j) ls es) ≡ None
            → cond (b && m) (Some k) (first_of other (suc k) ls es) ≡ None
            → cond m true (any_of (matches ls) es) ≡ false
        go true true true h ih p q = absurd (none-some j (sym p))
        go true true false h ih p q = ih p q
        go true false true h ih p q = absurd (none-some j (sym p))
        go true false false h ih p q = ih p q
        go false true true h ih p q = absurd (none-some k (sym q))
        go false true false h ih p q = ih p q
        go false false m h ih p q = absurd (false≢true h)

    preferred-none : (es : List Event) → (preferred (first_of one 0 ls es) (first_of other 0 ls es) ≡ None) ↔ (any_of (matches ls) es ≡ false)
    preferred-none es = (go (first_of one 0 ls es) (first_of other 0 ls es) (of_none 0 0 es), λ h. ap₂ preferred (none_of one 0 es h) (none_of other 0 es h))
      where
        go : (x y : Option ℕ) → (x ≡ None → y ≡ None → any_of (matches ls) es ≡ false) → preferred x y ≡ None → any_of (matches ls) es ≡ false
        go None y f h = f refl h
        go (Some k) y f h = absurd (none-some k (sym h))

-- no event is chosen exactly when no event matches
pub none_exactly : (es : List Event) (ls : List Line) → (first_match es ls ≡ None) ↔ (any_of (matches ls) es ≡ false)
unfolding first_match
none_exactly es ls = preferred-none ls _ _ (λ e. simp (or-not_self, not-or_self)) es
