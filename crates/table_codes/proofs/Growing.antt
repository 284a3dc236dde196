-- One word more of a list: the words noted by then, its number, its code. Assumes nothing.
use Prim.Native.Nat.{ℕ, zero, suc, ◌<◌}
use native.Mathlib.Omega.{arith}
use mathlib.Core.Path.{◌≡◌, refl, ap}
use mathlib.Core.List.{List, [], ◌∷◌, ◌++◌}
use lib.ListN.{length, get_or, take}
use Rattle.table_wordbook.specs.Wordbook.{number_of, noted}
use Rattle.table_parts.specs.Codes.{noted_all, numbers_of, value_noted, code_of, values_noted, codes_of}

pub noted-next : (ws ks : List (List ℕ)) (i : ℕ) → i < length ks → noted_all ws (take (suc i) ks) ≡ noted (get_or ks i []) (noted_all ws (take i ks))
unfolding noted_all
noted-next ws [] i h = absurd (omega arith)
noted-next ws (k ∷ ks) zero h = refl
noted-next ws (k ∷ ks) (suc i) h = noted-next (noted k ws) ks i (omega arith)

pub numbers_next : (ws ks : List (List ℕ)) (i : ℕ) → i < length ks
    → numbers_of ws (take (suc i) ks) ≡ numbers_of ws (take i ks) ++ number_of (get_or ks i []) (noted_all ws (take i ks)) ∷ []
unfolding noted_all numbers_of
numbers_next ws [] i h = absurd (omega arith)
numbers_next ws (k ∷ ks) zero h = refl
numbers_next ws (k ∷ ks) (suc i) h = ap (λ l. number_of k ws ∷ l) (numbers_next (noted k ws) ks i (omega arith))

pub values-next : (ws vs : List (List ℕ)) (i : ℕ) → i < length vs → values_noted ws (take (suc i) vs) ≡ value_noted (get_or vs i []) (values_noted ws (take i vs))
unfolding values_noted
values-next ws [] i h = absurd (omega arith)
values-next ws (v ∷ vs) zero h = refl
values-next ws (v ∷ vs) (suc i) h = values-next (value_noted v ws) vs i (omega arith)

pub codes_next : (ws vs : List (List ℕ)) (i : ℕ) → i < length vs
    → codes_of ws (take (suc i) vs) ≡ codes_of ws (take i vs) ++ code_of (get_or vs i []) (values_noted ws (take i vs)) ∷ []
unfolding values_noted codes_of
codes_next ws [] i h = absurd (omega arith)
codes_next ws (v ∷ vs) zero h = refl
codes_next ws (v ∷ vs) (suc i) h = ap (λ l. code_of v ws ∷ l) (codes_next (value_noted v ws) vs i (omega arith))
