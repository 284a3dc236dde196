-- Parts of a list, at the code's `i + 1`. Assumes nothing.
use mathlib.Core.Path.{◌≡◌, ◌∙◌, ap}
use mathlib.Core.List.{List, [], ◌∷◌}
use Prim.Native.Nat.{ℕ, zero, suc, ◌+◌, ◌-◌, ◌≤◌, ◌<◌}
use native.Mathlib.Numerals.{add-one}
use native.Mathlib.Omega.{arith}
use lib.ListN.{length, get_or, take, drop, length-take, drop_of_length-le}
use lib.Seq.{slice, slice-cons, take-nil, take-take, take-length}

-- a part's first element and the rest
pub part_cons : (i t : ℕ) (l : List ℕ) → i < t → t ≤ length l → slice i t l ≡ get_or l i 0 ∷ slice (i + 1) t l
part_cons i t l h k = rw (add-one, slice-cons i t l 0 h k)

-- a part that ends where it starts, or before
pub part_nil : (i t : ℕ) (l : List ℕ) → t ≤ i → slice i t l ≡ []
part_nil i t l h =
    let k : length (take t l) ≤ i = omega (arith, length-take t l) in
    drop_of_length-le (take t l) k

-- a part that goes on to the end
pub part_end : (at : ℕ) (l : List ℕ) → slice at (length l) l ≡ drop at l
part_end at l = rw take-length

take-drop : (n m : ℕ) (l : List ℕ) → take m (drop n l) ≡ drop n (take (n + m) l)
take-drop zero m l =
    let e : 0 + m ≡ m = omega arith in
    rw e
take-drop (suc n) m [] = rw (take-nil, take-nil)
take-drop (suc n) m (x ∷ l) =
    let e : suc n + m ≡ suc (n + m) = omega arith in
    rw e (take-drop n m l)

-- a part by its start and its length
pub part-size : (from to : ℕ) (l : List ℕ) → from ≤ to → take (to - from) (drop from l) ≡ slice from to l
part-size from to l h =
    let e : from + (to - from) ≡ to = omega arith in
    take-drop from (to - from) l ∙ ap (λ (k : ℕ). slice from k l) e

-- the first n of a part
pub part-take : (from to n : ℕ) (l : List ℕ) → from + n ≤ to → take n (slice from to l) ≡ slice from (from + n) l
part-take from to n l h = take-drop from n (take to l) ∙ ap (drop from) (take-take (from + n) to l h)
