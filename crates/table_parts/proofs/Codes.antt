-- Words noted in the order of first use, and the numbers that name them: each number leads back to its word. Assumes nothing.
use Prim.Native.Nat.{ℕ, zero, suc, ◌+◌, ◌-◌, ◌≤◌, ◌<◌}
use native.Mathlib.Omega.{arith}
use mathlib.Core.Bool.{Bool, true, false, cond, ◌||◌}
use mathlib.Core.List.{List, [], ◌∷◌, ◌++◌}
use mathlib.Core.Path.{◌≡◌, refl, sym, ap, ◌∙◌}
use borrow.Author.Tests.{eq-eqb, ne_eqb, le-leb, ltb-true, ltb-false}
use lib.Dec.{ltb, eqb}
use lib.ListN.{length, get_or, length-append}
use Rattle.text.specs.Conditions.{every}
use Rattle.text.proofs.Same.{same_eq}
use Rattle.signal.specs.Signal.{wildcard, without_wild}
use Rattle.table_words.specs.Words.{is_wild}
use Rattle.text.proofs.Every.{every_cons, cons_every, every_append}
use Rattle.text.proofs.Joined.{total}
use Rattle.table_wordbook.specs.Wordbook.{number_of, noted}
use Rattle.table_wordbook.proofs.Numbers.{number-le, noted-at, noted-kept, number-below}
use Rattle.table.specs.Table.{wild_code, code_ok, use_of, in_order, text_at}
use Rattle.table_parts.specs.Codes.{noted_all, numbers_of, value_noted, code_of, values_noted, codes_of}

-- ---- one word more

-- x was among ws, or it comes behind them
noted_case : (x : List ℕ) (ws : List (List ℕ)) (P : List (List ℕ) → Type 0) → (number_of x ws < length ws → P ws)
    → (number_of x ws ≡ length ws → P (ws ++ x ∷ [])) → P (noted x ws)
noted_case x ws P old new = go (ltb (number_of x ws) (length ws)) refl
  where
    go : (b : Bool) → ltb (number_of x ws) (length ws) ≡ b → P (cond b ws (ws ++ x ∷ []))
    go true e = old (ltb-true (number_of x ws) (length ws) e)
    go false e = new (omega (arith, ltb-false (number_of x ws) (length ws) e, number-le x ws))

-- us is ws, and perhaps more behind it
record Grown (ws us : List (List ℕ)) : Type 0 where
  pub longer : length ws ≤ length us
  pub kept : (i : ℕ) → i < length ws → get_or us i [] ≡ get_or ws i []

grown_same : (ws : List (List ℕ)) → Grown ws ws
grown_same ws = record { longer = omega arith; kept = λ i h. refl }

grown_then : {ws us ts : List (List ℕ)} → Grown ws us → Grown us ts → Grown ws ts
grown_then g h =
    record { longer = omega (arith, g.longer, h.longer); kept = λ i k. h.kept i (omega (arith, g.longer)) ∙ g.kept i k }

-- the number of x leads to it in us
pub record Named (x : List ℕ) (n : ℕ) (us : List (List ℕ)) : Type 0 where
  pub below : n < length us
  pub is : get_or us n [] ≡ x

named_later : {x : List ℕ} {n : ℕ} {us ts : List (List ℕ)} → Named x n us → Grown us ts → Named x n ts
named_later {n = n} m g = record { below = omega (arith, m.below, g.longer); is = g.kept n m.below ∙ m.is }

noted_grown : (x : List ℕ) (ws : List (List ℕ)) → Grown ws (noted x ws)
noted_grown x ws = record { longer = longer; kept = noted-kept x ws }
  where
    longer : length ws ≤ length (noted x ws)
    longer = noted_case x ws (λ us. length ws ≤ length us) (λ _. omega arith) (λ _. omega (arith, length-append ws (x ∷ [])))

noted-named : (x : List ℕ) (ws : List (List ℕ)) → Named x (number_of x ws) (noted x ws)
noted-named x ws = record { below = number-below x ws; is = noted-at x ws }

-- ---- all words

all_grown : (ws ks : List (List ℕ)) → Grown ws (noted_all ws ks)
unfolding noted_all
all_grown ws [] = grown_same ws
all_grown ws (k ∷ ks) = grown_then (noted_grown k ws) (all_grown (noted k ws) ks)

pub numbers_length : (ws ks : List (List ℕ)) → length (numbers_of ws ks) ≡ length ks
unfolding numbers_of
numbers_length ws [] = refl
numbers_length ws (k ∷ ks) = ap suc (numbers_length (noted k ws) ks)

-- number i leads to word i
pub number-named : (ws ks : List (List ℕ)) (i : ℕ) → i < length ks → Named (get_or ks i []) (get_or (numbers_of ws ks) i 0) (noted_all ws ks)
unfolding noted_all numbers_of
number-named ws [] i h = absurd (omega arith)
number-named ws (k ∷ ks) zero h = named_later (noted-named k ws) (all_grown (noted k ws) ks)
number-named ws (k ∷ ks) (suc i) h = number-named (noted k ws) ks i (omega arith)

-- "in order of first use"
pub numbers_in_order : (ws ks : List (List ℕ)) → in_order (length ws) (length (noted_all ws ks)) (numbers_of ws ks) ≡ true
unfolding noted_all numbers_of in_order
numbers_in_order ws [] = eq-eqb (length ws) (length ws) refl
numbers_in_order ws (k ∷ ks) =
    noted_case k ws (λ us. in_order (length ws) (length (noted_all us ks)) (number_of k ws ∷ numbers_of us ks) ≡ true)
    (λ h. rw (ne_eqb (number_of k ws) (length ws) (omega (arith, h)), le-leb (number_of k ws) (length ws) (omega (arith, h))) (numbers_in_order ws ks))
    (λ e. rw (eq-eqb (number_of k ws) (length ws) e, le-leb (number_of k ws) (length ws) (omega (arith, e)), ← length-append ws (k ∷ []))
    (numbers_in_order (ws ++ k ∷ []) ks))

-- what each has, all have that are noted
pub all-every : (f : List ℕ → Bool) (ws ks : List (List ℕ)) → every f ws ≡ true → every f ks ≡ true → every f (noted_all ws ks) ≡ true
unfolding noted_all every
all-every f ws [] h e = h
all-every f ws (k ∷ ks) h e =
    let p = every_cons f k ks e in
    all-every f (noted k ws) ks
    (noted_case k ws (λ us. every f us ≡ true) (λ _. h) (λ _. every_append f ws (k ∷ []) h (cons_every f k [] p.0 refl)))
    p.1

pub total_append : (ws us : List (List ℕ)) → total (ws ++ us) ≡ total ws + total us
unfolding total
total_append [] us = omega arith
total_append (w ∷ ws) us = omega (arith, total_append ws us)

-- us has no more words than ws and ks, and no more bytes
pub record Lighter (ws ks us : List (List ℕ)) : Type 0 where
  pub count : length us ≤ length ws + length ks
  pub bytes : total us ≤ total ws + total ks

noted_lighter : (k : List ℕ) (ws : List (List ℕ)) → Lighter ws (k ∷ []) (noted k ws)
unfolding total
noted_lighter k ws =
    noted_case k ws (Lighter ws (k ∷ [])) (λ _. record { count = omega arith; bytes = omega arith })
    (λ _. record { count = omega (arith, length-append ws (k ∷ [])); bytes = omega (arith, total_append ws (k ∷ [])) })

pub all_lighter : (ws ks : List (List ℕ)) → Lighter ws ks (noted_all ws ks)
unfolding noted_all total
all_lighter ws [] = record { count = omega arith; bytes = omega arith }
all_lighter ws (k ∷ ks) =
    let a = noted_lighter k ws in
    let b = all_lighter (noted k ws) ks in
    record { count = omega (arith, a.count, b.count); bytes = omega (arith, a.bytes, b.bytes) }

-- ---- values: those that are not wild are noted

values-noted : (ws vs : List (List ℕ)) → values_noted ws vs ≡ noted_all ws (without_wild vs)
unfolding values_noted noted_all without_wild
values-noted ws [] = refl
values-noted ws (v ∷ vs) = go (is_wild v) (λ us. values-noted us vs)
  where
    go : (b : Bool) → ((us : List (List ℕ)) → values_noted us vs ≡ noted_all us (without_wild vs))
        → values_noted (cond b ws (noted v ws)) vs ≡ noted_all ws (cond b (without_wild vs) (v ∷ without_wild vs))
    go true ih = ih ws
    go false ih = ih (noted v ws)

values_grown : (ws vs : List (List ℕ)) → Grown ws (values_noted ws vs)
values_grown ws vs = rw (values-noted ws vs) (all_grown ws (without_wild vs))

pub codes_length : (ws vs : List (List ℕ)) → length (codes_of ws vs) ≡ length vs
unfolding codes_of
codes_length ws [] = refl
codes_length ws (v ∷ vs) = ap suc (codes_length (value_noted v ws) vs)

-- a code that the check accepts, and that leads to the value v
pub record Coded (v : List ℕ) (c : ℕ) (us : List (List ℕ)) : Type 0 where
  pub ok : code_ok (length us) c ≡ true
  pub small : c ≤ wild_code
  pub is : text_at us c ≡ v

coded_wild : (v : List ℕ) (us : List (List ℕ)) → is_wild v ≡ true → Coded v wild_code us
coded_wild v us e = record { ok = refl; small = omega arith; is = sym (same_eq v wildcard e) }

coded_named : {v : List ℕ} {n : ℕ} {us : List (List ℕ)} → Named v n us → length us < wild_code → Coded v (n + 1) us
coded_named {v} {n} {us} m h =
    let b = m.below in
    let e : n + 1 - 1 ≡ n = omega arith in
    let w : eqb (n + 1) wild_code ≡ false = ne_eqb (n + 1) wild_code (omega arith) in
    record { ok = rw (w, le-leb 1 (n + 1) (omega arith), le-leb (n + 1) (length us) (omega arith)); small = omega arith; is = rw (w, e) m.is }

code_first : (v : List ℕ) (ws vs : List (List ℕ)) → length (values_noted (value_noted v ws) vs) < wild_code → Coded v (code_of v ws) (values_noted (value_noted v ws) vs)
code_first v ws vs h = go (is_wild v) refl h
  where
    go : (b : Bool) → is_wild v ≡ b → length (values_noted (cond b ws (noted v ws)) vs) < wild_code
        → Coded v (cond b wild_code (number_of v ws + 1)) (values_noted (cond b ws (noted v ws)) vs)
    go true e k = coded_wild v (values_noted ws vs) e
    go false e k = coded_named (named_later (noted-named v ws) (values_grown (noted v ws) vs)) k

-- code i leads to value i
pub value_coded : (ws vs : List (List ℕ)) → length (values_noted ws vs) < wild_code → (i : ℕ) → i < length vs
    → Coded (get_or vs i []) (get_or (codes_of ws vs) i 0) (values_noted ws vs)
unfolding values_noted codes_of
value_coded ws [] few i h = absurd (omega arith)
value_coded ws (v ∷ vs) few zero h = code_first v ws vs few
value_coded ws (v ∷ vs) few (suc i) h = value_coded (value_noted v ws) vs few i (omega arith)

-- the numbers of values that codes use
unfoldable pub uses_of : List ℕ → List ℕ
uses_of [] = []
uses_of (c ∷ cs) = use_of c (uses_of cs)

uses_are : (ws vs : List (List ℕ)) → length (values_noted ws vs) < wild_code → uses_of (codes_of ws vs) ≡ numbers_of ws (without_wild vs)
unfolding values_noted codes_of uses_of numbers_of without_wild
uses_are ws [] few = refl
uses_are ws (v ∷ vs) few = go (is_wild v) (λ us. uses_are us vs) few
  where
    go : (b : Bool) → ((us : List (List ℕ)) → length (values_noted us vs) < wild_code → uses_of (codes_of us vs) ≡ numbers_of us (without_wild vs))
        → length (values_noted (cond b ws (noted v ws)) vs) < wild_code
        → use_of (cond b wild_code (number_of v ws + 1)) (uses_of (codes_of (cond b ws (noted v ws)) vs)) ≡ numbers_of ws (cond b (without_wild vs) (v ∷ without_wild vs))
    go true ih k = ih ws k
    go false ih k =
        let b = (named_later (noted-named v ws) (values_grown (noted v ws) vs)).below in
        let e : number_of v ws + 1 - 1 ≡ number_of v ws = omega arith in
        rw (ne_eqb (number_of v ws + 1) wild_code (omega arith), e, ih (noted v ws) k)

pub uses_in_order : (vs : List (List ℕ)) → length (values_noted [] vs) < wild_code → in_order 0 (length (values_noted [] vs)) (uses_of (codes_of [] vs)) ≡ true
uses_in_order vs few = rw (uses_are [] vs few, values-noted [] vs) (numbers_in_order [] (without_wild vs))

-- ---- the values without the wildcard

without_every : (f : List ℕ → Bool) (vs : List (List ℕ)) → every (λ v. is_wild v || f v) vs ≡ true → every f (without_wild vs) ≡ true
unfolding without_wild every
without_every f [] e = refl
without_every f (v ∷ vs) e =
    let p = every_cons (λ v. is_wild v || f v) v vs e in
    go (is_wild v) p.0 (without_every f vs p.1)
  where
    go : (b : Bool) → (b || f v) ≡ true → every f (without_wild vs) ≡ true → every f (cond b (without_wild vs) (v ∷ without_wild vs)) ≡ true
    go true h k = k
    go false h k = cons_every f v (without_wild vs) h k

without_lighter : (vs : List (List ℕ)) → Lighter [] vs (without_wild vs)
unfolding without_wild total
without_lighter [] = record { count = omega arith; bytes = omega arith }
without_lighter (v ∷ vs) = go (is_wild v) (without_lighter vs)
  where
    go : (b : Bool) → Lighter [] vs (without_wild vs) → Lighter [] (v ∷ vs) (cond b (without_wild vs) (v ∷ without_wild vs))
    go true h = record { count = omega (arith, h.count); bytes = omega (arith, h.bytes) }
    go false h = record { count = omega (arith, h.count); bytes = omega (arith, h.bytes) }

pub values_lighter : (vs : List (List ℕ)) → Lighter [] vs (values_noted [] vs)
unfolding total
values_lighter vs =
    let a = without_lighter vs in
    let b = all_lighter [] (without_wild vs) in
    rw (values-noted [] vs) (record { count = omega (arith, a.count, b.count); bytes = omega (arith, a.bytes, b.bytes) })

pub values-every : (f : List ℕ → Bool) (vs : List (List ℕ)) → every (λ v. is_wild v || f v) vs ≡ true → every f (values_noted [] vs) ≡ true
unfolding every
values-every f vs e = rw (values-noted [] vs) (all-every f [] (without_wild vs) refl (without_every f vs e))
