-- What numbered elements and rows are known by: how many, each of them, the next. Assumes nothing.
use Prim.Native.Nat.{ℕ, zero, suc, ◌*◌, ◌<◌}
use native.Mathlib.Omega.{arith}
use native.Mathlib.Decide.{dec_lt}
use mathlib.Core.Path.{◌≡◌, refl, ap, ap₂, ◌∙◌}
use mathlib.Core.List.{List, [], ◌∷◌, ◌++◌, map}
use lib.ListN.{length, get_or, drop, length-append}
use lib.Seq.{drop-cons, get_or_at}
use Rattle.list.specs.Numbered.{numbered, rows}

pub numbered-length {ℓ} : {X : Type ℓ} (f : ℕ → X) (n : ℕ) → length (numbered f n) ≡ n
unfolding numbered
numbered-length f zero = refl
numbered-length f (suc n) =
    let h = length-append (numbered f n) (f n ∷ []) in
    let k = numbered-length f n in
    omega (arith, h, k)

-- in front of the last, the elements are the earlier ones
front {ℓ} : {X : Type ℓ} (xs ys : List X) (i : ℕ) (d : X) → i < length xs → get_or (xs ++ ys) i d ≡ get_or xs i d
front [] ys i d h = absurd (omega arith)
front (x ∷ xs) ys zero d h = refl
front (x ∷ xs) ys (suc i) d h = front xs ys i d (omega arith)

pub numbered-at {ℓ} : {X : Type ℓ} (f : ℕ → X) (n i : ℕ) (d : X) → i < n → get_or (numbered f n) i d ≡ f i
unfolding numbered
numbered-at f zero i d h = absurd (omega arith)
numbered-at f (suc n) i d h = elim (dec_lt i n) [
  | yes l ↦ front (numbered f n) (f n ∷ []) i d (omega (arith, numbered-length f n)) ∙ numbered-at f n i d l
  | no l ↦ let e : i ≡ n = omega arith in rw e (get_or_at (numbered f n) (f n) [] d n (numbered-length f n))
]

-- elements that agree
pub numbered-same {ℓ} : {X : Type ℓ} (f g : ℕ → X) (n : ℕ) → ((i : ℕ) → i < n → f i ≡ g i) → numbered f n ≡ numbered g n
unfolding numbered
numbered-same f g zero h = refl
numbered-same f g (suc n) h = ap₂ (λ xs x. xs ++ x ∷ []) (numbered-same f g n (λ i k. h i (omega arith))) (h n (omega arith))

-- the element that a walk meets next
pub numbered_next {ℓ} : {X : Type ℓ} (f : ℕ → X) (n i : ℕ) → i < n → drop i (numbered f n) ≡ f i ∷ drop (suc i) (numbered f n)
numbered_next f n i h =
    drop-cons (numbered f n) i (f i) (omega (arith, numbered-length f n, h))
    ∙ ap (λ x. x ∷ drop (suc i) (numbered f n)) (numbered-at f n i (f i) h)

map-end {ℓ} : {X Y : Type ℓ} (g : X → Y) (xs : List X) (x : X) → map g (xs ++ x ∷ []) ≡ map g xs ++ g x ∷ []
map-end g [] x = refl
map-end g (y ∷ xs) x = ap (λ l. g y ∷ l) (map-end g xs x)

pub numbered-map {ℓ} : {X Y : Type ℓ} (g : X → Y) (f : ℕ → X) (n : ℕ) → map g (numbered f n) ≡ numbered (λ i. g (f i)) n
unfolding numbered
numbered-map g f zero = refl
numbered-map g f (suc n) = map-end g (numbered f n) (f n) ∙ ap (λ l. l ++ g (f n) ∷ []) (numbered-map g f n)

-- ---- rows

pub rows-length {ℓ} : {X : Type ℓ} (f : List ℕ → X) (w n : ℕ) (l : List ℕ) → length (rows f w n l) ≡ n
unfolding rows
rows-length f w n l = numbered-length (λ i. f (drop (w * i) l)) n

pub rows_at {ℓ} : {X : Type ℓ} (f : List ℕ → X) (w n : ℕ) (l : List ℕ) (i : ℕ) (d : X) → i < n → get_or (rows f w n l) i d ≡ f (drop (w * i) l)
unfolding rows
rows_at f w n l i d h = numbered-at (λ i. f (drop (w * i) l)) n i d h

pub rows_next {ℓ} : {X : Type ℓ} (f : List ℕ → X) (w n : ℕ) (l : List ℕ) (i : ℕ) → i < n
    → drop i (rows f w n l) ≡ f (drop (w * i) l) ∷ drop (suc i) (rows f w n l)
unfolding rows
rows_next f w n l i h = numbered_next (λ i. f (drop (w * i) l)) n i h
