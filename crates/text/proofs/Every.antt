-- A condition on each element of a list: taken out, put together, of lists one behind another, and what follows from it of each. Assumes nothing.
use Prim.Native.Nat.{ℕ, zero, suc, ◌<◌}
use native.Mathlib.Omega.{arith}
use mathlib.Core.Bool.{Bool, true, false, cond, ◌&&◌, false≢true}
use mathlib.Core.List.{List, [], ◌∷◌, ◌++◌, map}
use mathlib.Core.Path.{◌≡◌, refl, ap₂}
use lib.ListN.{length, get_or}
use Rattle.text.specs.Conditions.{every}

module _ {X : Type 0} (f : X → Bool) where
  pub every_one : (x : X) → every f (x ∷ []) ≡ f x
  unfolding every
  every_one x = go (f x)
    where
      go : (t : Bool) → cond t true false ≡ t
      go true = refl
      go false = refl

  pub every-and : (x : X) (xs : List X) → every f (x ∷ xs) ≡ (f x && every f xs)
  unfolding every
  every-and x xs = go (f x)
    where
      go : (t : Bool) → cond t (every f xs) false ≡ (t && every f xs)
      go true = refl
      go false = refl

  pub every_cons : (x : X) (xs : List X) → every f (x ∷ xs) ≡ true → (f x ≡ true) × (every f xs ≡ true)
  unfolding every
  every_cons x xs e = go (f x) refl e
    where
      go : (t : Bool) → f x ≡ t → cond t (every f xs) false ≡ true → (f x ≡ true) × (every f xs ≡ true)
      go true h k = (h, k)
      go false h k = absurd (false≢true k)

  pub cons_every : (x : X) (xs : List X) → f x ≡ true → every f xs ≡ true → every f (x ∷ xs) ≡ true
  unfolding every
  cons_every x xs h k = rw h k

  -- element i, or d where there is none
  pub every-at : (d : X) → f d ≡ true → (xs : List X) → every f xs ≡ true → (i : ℕ) → f (get_or xs i d) ≡ true
  every-at d h [] e i = h
  every-at d h (x ∷ xs) e zero = (every_cons x xs e).0
  every-at d h (x ∷ xs) e (suc i) = every-at d h xs (every_cons x xs e).1 i

  -- element i, of those that there are
  pub every-below : (d : X) (xs : List X) → every f xs ≡ true → (i : ℕ) → i < length xs → f (get_or xs i d) ≡ true
  every-below d [] e i h = absurd (omega arith)
  every-below d (x ∷ xs) e zero h = (every_cons x xs e).0
  every-below d (x ∷ xs) e (suc i) h = every-below d xs (every_cons x xs e).1 i (omega arith)

  pub every_append : (xs ys : List X) → every f xs ≡ true → every f ys ≡ true → every f (xs ++ ys) ≡ true
  every_append [] ys h k = k
  every_append (x ∷ xs) ys h k =
      let p = every_cons x xs h in
      cons_every x (xs ++ ys) p.0 (every_append xs ys p.1 k)

  pub every_three : (x y z : X) → f x ≡ true → f y ≡ true → f z ≡ true → every f (x ∷ y ∷ z ∷ []) ≡ true
  unfolding every
  every_three x y z h k l = rw (h, k, l)

  -- an element's having it, for each, is enough
  pub every_of : (d : X) (xs : List X) → ((i : ℕ) → i < length xs → f (get_or xs i d) ≡ true) → every f xs ≡ true
  unfolding every
  every_of d [] h = refl
  every_of d (x ∷ xs) h = rw (h 0 (omega arith)) (every_of d xs (λ i k. h (suc i) (omega arith)))

  -- another condition, where it follows
  pub every_passes : (g : X → Bool) → ((x : X) → f x ≡ true → g x ≡ true) → (xs : List X) → every f xs ≡ true → every g xs ≡ true
  unfolding every
  every_passes g h [] e = refl
  every_passes g h (x ∷ xs) e = let p = every_cons x xs e in rw (h x p.0) (every_passes g h xs p.1)

  -- two functions that agree where it holds
  pub every-same : {Y : Type 0} (a b : X → Y) → ((x : X) → f x ≡ true → a x ≡ b x) → (xs : List X) → every f xs ≡ true → map a xs ≡ map b xs
  every-same a b h [] e = refl
  every-same a b h (x ∷ xs) e = let p = every_cons x xs e in ap₂ ◌∷◌ (h x p.0) (every-same a b h xs p.1)
