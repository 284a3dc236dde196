-- Parts joined by a separator, and a text split at it: the one undoes the other. Assumes nothing.
use Prim.Native.Nat.{ℕ, zero, suc, ◌+◌, ◌-◌, ◌≤◌, ◌<◌}
use native.Mathlib.Omega.{arith}
use mathlib.Core.Bool.{Bool, true, false, not, cond, ◌||◌, false≢true}
use mathlib.Core.List.{List, [], ◌∷◌, ◌++◌, append_assoc}
use mathlib.Core.Path.{◌≡◌, refl, sym, ◌∙◌, ap, ap₂}
use borrow.Author.Tests.{eqb-true, eq-eqb}
use lib.Dec.{eqb}
use lib.ListN.{length, get_or, drop, length-append}
use lib.Seq.{slice}
use Rattle.text.specs.Conditions.{every}
use Rattle.text.specs.Read.{Part, FirstAt}
use Rattle.text.specs.Text.{has, onto, split, joined}
use Rattle.text.proofs.Parts.{split_some, split-next}
use Rattle.text.proofs.Every.{every_cons}

pub joined-more : (b : ℕ) (p q : List ℕ) (ps : List (List ℕ)) → joined (b ∷ []) (p ∷ q ∷ ps) ≡ p ++ b ∷ joined (b ∷ []) (q ∷ ps)
unfolding joined
joined-more b p q ps = append_assoc p (b ∷ []) (joined (b ∷ []) (q ∷ ps))

-- ---- split, then joined

onto-joined : (b x : ℕ) (ps : List (List ℕ)) → joined (b ∷ []) (onto x ps) ≡ x ∷ joined (b ∷ []) ps
unfolding onto joined
onto-joined b x [] = refl
onto-joined b x (p ∷ []) = refl
onto-joined b x (p ∷ q ∷ ps) = refl

-- an empty part in front
empty-joined : (b : ℕ) (ps : List (List ℕ)) → 1 ≤ length ps → joined (b ∷ []) ([] ∷ ps) ≡ b ∷ joined (b ∷ []) ps
unfolding joined
empty-joined b [] h = absurd (omega arith)
empty-joined b (p ∷ ps) h = refl

pub joined-split : (b : ℕ) (s : List ℕ) → joined (b ∷ []) (split b s) ≡ s
unfolding split joined
joined-split b [] = refl
joined-split b (x ∷ s) = go (eqb x b) refl (joined-split b s)
  where
    go : (t : Bool) → eqb x b ≡ t → joined (b ∷ []) (split b s) ≡ s → joined (b ∷ []) (cond t ([] ∷ split b s) (onto x (split b s))) ≡ x ∷ s
    go true h e = empty-joined b (split b s) (split_some b s) ∙ ap₂ ◌∷◌ (sym (eqb-true x b h)) e
    go false h e = onto-joined b x (split b s) ∙ ap (λ l. x ∷ l) e

-- ---- joined, then split

-- without the byte
abbrev pub lacks : ℕ → List ℕ → Bool
lacks b l = not (has b l)

-- a byte that is no separator goes to the first part
front : (b x : ℕ) (p : List ℕ) (ps qs : List (List ℕ)) → (lacks b p ≡ true → qs ≡ p ∷ ps) → lacks b (x ∷ p) ≡ true
    → cond (eqb x b) ([] ∷ qs) (onto x qs) ≡ (x ∷ p) ∷ ps
unfolding has onto
front b x p ps qs h e = go (eqb x b) e
  where
    go : (t : Bool) → not (t || has b p) ≡ true → cond t ([] ∷ qs) (onto x qs) ≡ (x ∷ p) ∷ ps
    go true k = absurd (false≢true k)
    go false k = ap (onto x) (h k)

split_one : (b : ℕ) (p : List ℕ) → lacks b p ≡ true → split b p ≡ p ∷ []
unfolding split
split_one b [] e = refl
split_one b (x ∷ p) e = front b x p [] (split b p) (split_one b p) e

split-behind : (b : ℕ) (p s : List ℕ) → lacks b p ≡ true → split b (p ++ b ∷ s) ≡ p ∷ split b s
unfolding split
split-behind b [] s e = rw (eq-eqb b b refl)
split-behind b (x ∷ p) s e = front b x p (split b s) (split b (p ++ b ∷ s)) (split-behind b p s) e

pub split-joined : (b : ℕ) (p : List ℕ) (ps : List (List ℕ)) → every (lacks b) (p ∷ ps) ≡ true → split b (joined (b ∷ []) (p ∷ ps)) ≡ p ∷ ps
unfolding joined
split-joined b p [] e = split_one b p (every_cons (lacks b) p [] e).0
split-joined b p (q ∷ ps) e =
    let h = every_cons (lacks b) p (q ∷ ps) e in
    ap (split b) (joined-more b p q ps) ∙ split-behind b p (joined (b ∷ []) (q ∷ ps)) h.0 ∙ ap (λ l. p ∷ l) (split-joined b q ps h.1)

-- ---- each part lacks the separator

pub split_lacks : (b : ℕ) (s : List ℕ) → every (lacks b) (split b s) ≡ true
unfolding split has every onto
split_lacks b [] = refl
split_lacks b (x ∷ s) = go (eqb x b) refl (split b s) (split_lacks b s)
  where
    go : (t : Bool) → eqb x b ≡ t → (ps : List (List ℕ)) → every (lacks b) ps ≡ true → every (lacks b) (cond t ([] ∷ ps) (onto x ps)) ≡ true
    go true h ps e = e
    go false h [] e = rw h
    go false h (p ∷ ps) e = rw h e

-- ---- lengths

-- how many bytes the parts have together
unfoldable pub total : List (List ℕ) → ℕ
total [] = 0
total (p ∷ ps) = length p + total ps

-- part i, which is empty where there is none, and those behind it
pub total_next : (ps : List (List ℕ)) (i : ℕ) → total (drop i ps) ≡ length (get_or ps i []) + total (drop (suc i) ps)
unfolding total
total_next [] zero = refl
total_next [] (suc i) = refl
total_next (p ∷ ps) zero = refl
total_next (p ∷ ps) (suc i) = total_next ps i

pub joined_length : (b : ℕ) (ps : List (List ℕ)) → length (joined (b ∷ []) ps) ≡ total ps + (length ps - 1)
unfolding joined total
joined_length b [] = refl
joined_length b (p ∷ []) = omega arith
joined_length b (p ∷ q ∷ ps) =
    omega (arith, ap length (joined-more b p q ps), length-append p (b ∷ joined (b ∷ []) (q ∷ ps)), joined_length b (q ∷ ps))

pub split-length : (b : ℕ) (s : List ℕ) → length s ≡ total (split b s) + (length (split b s) - 1)
split-length b s = ap length (sym (joined-split b s)) ∙ joined_length b (split b s)

-- ---- a part up to a separator

joined-first : (b : ℕ) (p t : List ℕ) → joined (b ∷ []) (p ∷ split b t) ≡ p ++ b ∷ t
joined-first b p t = go (split b t) (split_some b t) (joined-split b t)
  where
    go : (ps : List (List ℕ)) → 1 ≤ length ps → joined (b ∷ []) ps ≡ t → joined (b ∷ []) (p ∷ ps) ≡ p ++ b ∷ t
    go [] h e = absurd (omega arith)
    go (q ∷ ps) h e = joined-more b p q ps ∙ ap (λ l. p ++ b ∷ l) e

pub part-first : {s : List ℕ} {from to b r : ℕ} → Part s from to → FirstAt s from to b r → r < to → slice from to s ≡ slice from r s ++ b ∷ slice (r + 1) to s
part-first {s} {from} {to} {b} {r} p f h =
    sym (joined-split b (slice from to s)) ∙ ap (joined (b ∷ [])) (split-next p f h) ∙ joined-first b (slice from r s) (slice (r + 1) to s)
