-- A walk over clauses: what each uses, and the invariant of `clauses_ok`. Assumes nothing.
use Rattle.std.specs.Prelude.{Option, Some, None}
use Prim.Native.Nat.{ℕ, ◌+◌, ◌-◌, ◌*◌, ◌≤◌, ◌<◌}
use native.Mathlib.Omega.{arith}
use mathlib.Core.Bool.{Bool, true, false, cond, ◌&&◌, ◌||◌, false≢true}
use mathlib.Core.List.{List, [], ◌∷◌}
use mathlib.Core.Logic.{◌≢◌}
use mathlib.Core.Path.{◌≡◌, refl, sym, ap₂, ◌∙◌}
use lib.Dec.{leb, eqb}
use lib.ListN.{length, drop}
use borrow.Author.Tests.{eq-eqb, ne_eqb, eqb-true, leb-true}
use Rattle.text.specs.Conditions.{all_of, every}
use Rattle.text.proofs.Conditions.{◌also◌, none_left, fact}
use Rattle.table.specs.Layout.{clause_length, clause_in}
use Rattle.table.specs.Table.{wild_code, code_ok, clause_ok, key_uses, use_of, value_uses, in_order, clauses_ok}
use Rattle.table.specs.Read.{ClauseAt}
use Rattle.table.specs.declared.ClauseRow.{ClauseRow}
use Rattle.table_check_clauses.specs.Check.{clause_rows, use_next, code_next, and_then, values_next, clause_step, Coded}
use Rattle.table_check_clauses.specs.declared.Used.{Used}
use Rattle.text.proofs.Tested.{broken, decided}
use Rattle.table.proofs.Walks.{rows_more, rows_end}

-- ---- uses

use_first : (seen n u : ℕ) (us : List ℕ) → in_order seen n (u ∷ us) ≡ and_then (use_next seen u) false (λ s. in_order s n us)
unfolding in_order use_next
use_first seen n u us = go (leb u seen)
  where
    go : (b : Bool) → cond b (in_order (cond (eqb u seen) (seen + 1) seen) n us) false
        ≡ and_then (cond b (Some (cond (eqb u seen) (seen + 1) seen)) None) false (λ s. in_order s n us)
    go true = refl
    go false = refl

code_first : (seen n v : ℕ) (us : List ℕ) → in_order seen n (use_of v us) ≡ and_then (code_next seen v) false (λ s. in_order s n us)
unfolding code_next
code_first seen n v us = go (eqb v wild_code)
  where
    go : (b : Bool) → in_order seen n (cond b us ((v - 1) ∷ us)) ≡ and_then (cond b (Some seen) (use_next seen (v - 1))) false (λ s. in_order s n us)
    go true = refl
    go false = use_first seen n (v - 1) us

-- one use, then others
then_then : (u : Option ℕ) (f : ℕ → Option ℕ) (g : ℕ → Bool) (h : ℕ → Bool) → ((x : ℕ) → h x ≡ and_then (f x) false g)
    → and_then u false h ≡ and_then (and_then u None f) false g
then_then (Some s) f g h e = e s
then_then None f g h e = refl

values-first : (b n : ℕ) (c : ClauseRow) (us : List ℕ)
    → in_order b n (use_of c.v1 (use_of c.v2 (use_of c.v3 us))) ≡ and_then (values_next b c) false (λ s. in_order s n us)
unfolding values_next
values-first b n c us =
    code_first b n c.v1 (use_of c.v2 (use_of c.v3 us))
    ∙ then_then (code_next b c.v1) _ (λ s. in_order s n us) _ (λ x.
    code_first x n c.v2 (use_of c.v3 us)
    ∙ then_then (code_next x c.v2) _ (λ s. in_order s n us) _ (λ y. code_first y n c.v3 us))

-- ---- a clause

-- clauses where a keys and b values were used before
unfoldable pub clauses_from : ℕ → ℕ → ℕ → ℕ → List ClauseRow → Bool
clauses_from k v a b cs = all_of (every (clause_ok k v) cs ∷ in_order a k (key_uses cs) ∷ in_order b v (value_uses cs) ∷ [])

abbrev after_clause : ℕ → ℕ → List ClauseRow → Option Used → Bool
after_clause k v cs o = and_then o false (λ u. clauses_from k v u.keys u.values cs)

module _ (k v : ℕ) (c : ClauseRow) (cs : List ClauseRow) where
  clause-first : (u : Used) → clauses_from k v u.keys u.values (c ∷ cs) ≡ after_clause k v cs (clause_step k v c u)
  unfolding clauses_from clause_step every value_uses all_of
  clause-first u = go (clause_ok k v c)
    where
      both : (x y : Option ℕ)
          → all_of (every (clause_ok k v) cs ∷ and_then x false (λ s. in_order s k (key_uses cs)) ∷ and_then y false (λ s. in_order s v (value_uses cs)) ∷ [])
          ≡ after_clause k v cs (and_then x None (λ d. and_then y None (λ e. Some (record { keys = d; values = e }))))
      both (Some d) (Some e) = refl
      both (Some d) None = sym (broken (every (clause_ok k v) cs ∷ in_order d k (key_uses cs) ∷ false ∷ []) 2 refl)
      both None y = sym (broken (every (clause_ok k v) cs ∷ false ∷ and_then y false (λ s. in_order s v (value_uses cs)) ∷ []) 1 refl)

      go : (o : Bool)
          → all_of (cond o (every (clause_ok k v) cs) false ∷ in_order u.keys k (c.key ∷ key_uses cs) ∷ in_order u.values v (use_of c.v1 (use_of c.v2 (use_of c.v3 (value_uses cs)))) ∷ [])
          ≡ after_clause k v cs (cond o (and_then (use_next u.keys c.key) None (λ d. and_then (values_next u.values c) None (λ e. Some (record { keys = d; values = e })))) None)
      go false = refl
      go true =
          ap₂ (λ x y. all_of (every (clause_ok k v) cs ∷ x ∷ y ∷ [])) (use_first u.keys k c.key (key_uses cs)) (values-first u.values v c (value_uses cs))
          ∙ both (use_next u.keys c.key) (values_next u.values c)

-- ---- `clause_step`

code_low : (n v : ℕ) → code_ok n v ≡ true → 1 ≤ v
code_low n v e = go (eqb v wild_code) (leb 1 v) refl refl e
  where
    go : (a b : Bool) → eqb v wild_code ≡ a → leb 1 v ≡ b → (a || b && leb v n) ≡ true → 1 ≤ v
    go true b h k q = let z = eqb-true v wild_code h in omega (arith, z)
    go false true h k q = leb-true 1 v k
    go false false h k q = absurd (false≢true q)

pub clause_coded : (k v : ℕ) (c : ClauseRow) → clause_ok k v c ≡ true → Coded c
unfolding clause_ok
clause_coded k v c e = record { v1 = code_low v c.v1 (fact _ e 2); v2 = code_low v c.v2 (fact _ e 3); v3 = code_low v c.v3 (fact _ e 4) }

-- ---- `clauses_ok`

pub record Using (l : List ℕ) (n k v : ℕ) (u : Used) (i : ℕ) : Type 0 where
  pub le : i ≤ n
  pub room : clause_length * n ≤ length l
  pub still : clauses_ok k v (clause_rows n l) ≡ clauses_from k v u.keys u.values (drop i (clause_rows n l))

pub using_first : (l : List ℕ) (n k v : ℕ) → clause_length * n ≤ length l → Using l n k v (record { keys = 0; values = 0 }) 0
unfolding clauses_ok clauses_from
using_first l n k v h = record { le = omega arith; room = h; still = refl }

module _ {l : List ℕ} {n k v : ℕ} {u : Used} {i : ℕ} (c : Using l n k v u i) where
  module _ (h : n ≤ i) where
    used : clauses_ok k v (clause_rows n l) ≡ all_of (true ∷ eqb u.keys k ∷ eqb u.values v ∷ [])
    unfolding clauses_from every value_uses in_order
    used = c.still ∙ rw (rows_end clause_in clause_length n l i h)

    pub using_short : u.keys ≢ k → false ≡ clauses_ok k v (clause_rows n l)
    using_short e = broken _ 1 (ne_eqb _ _ e) ∙ sym used

    pub using_last : u.keys ≡ k → eqb u.values v ≡ clauses_ok k v (clause_rows n l)
    using_last e = decided (refl also eq-eqb _ _ e also none_left) refl ∙ sym used

  module _ (h : i < n) {r : ClauseRow} (a : ClauseAt l i r) {o : Option Used} (q : o ≡ clause_step k v r u) where
    stepped : clauses_ok k v (clause_rows n l) ≡ after_clause k v (drop (i + 1) (clause_rows n l)) o
    stepped = c.still ∙ rw (rows_more clause_in clause_length n l i h, ← a.is, q) (clause-first k v r (drop (i + 1) (clause_rows n l)) u)

    pub using_stop : o ≡ None → false ≡ clauses_ok k v (clause_rows n l)
    using_stop e = sym (stepped ∙ rw e)

    pub using_more : (w : Used) → o ≡ Some w → Using l n k v w (i + 1)
    using_more w e = record { le = omega arith; room = c.room; still = stepped ∙ rw e }
