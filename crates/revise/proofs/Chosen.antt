-- The chosen entries: each is an entry, they rise strictly, every instant is present, nothing chosen has a higher revision beside it, and there are not
-- more of them than entries. Assumes nothing.
use Prim.Native.Nat.{ℕ, suc, ◌<◌, ◌≤◌}
use native.Mathlib.Omega.{arith}
use mathlib.Core.Bool.{Bool, true, false, cond}
use mathlib.Core.List.{List, [], ◌∷◌}
use mathlib.Core.Logic.{◌⊎◌, inl, inr}
use mathlib.Core.Path.{◌≡◌, refl}
use mathlib.Mathlib.Data.List.Defs.{Forall}
use mathlib.Mathlib.Data.List.Basic.{Forall-cons, Forall-imp}
use borrow.Author.Tests.{ltb-true, ltb-false, leb-true, leb-false}
use lib.Dec.{leb, ltb}
use lib.ListN.{length}
use Rattle.revise.specs.Entries.{Entry}
use Rattle.revise.specs.Chosen.{instant_of, place, chosen}

-- ---- each chosen is an entry: what holds of all entries holds of the chosen ones

place-all : (P : Entry → Type 0) (e : Entry) (cs : List Entry) → P e → Forall P cs → Forall P (place e cs)
unfolding place Forall
place-all P e [] p h = p
place-all P e (c ∷ cs) p h =
    let q = (Forall-cons P c cs).0 h in
    go (ltb (instant_of e) (instant_of c)) (ltb (instant_of c) (instant_of e)) (leb c.revision e.revision) q.0 q.1 (place-all P e cs p q.1)
  where
    go : (t u v : Bool) → P c → Forall P cs → Forall P (place e cs) → Forall P (cond t (e ∷ c ∷ cs) (cond u (c ∷ place e cs) (cond v (e ∷ cs) (c ∷ cs))))
    go true u v q qs more = (Forall-cons P e (c ∷ cs)).1 (p, h)
    go false true v q qs more = (Forall-cons P c (place e cs)).1 (q, more)
    go false false true q qs more = (Forall-cons P e cs).1 (p, qs)
    go false false false q qs more = h

pub chosen-all : (P : Entry → Type 0) (es : List Entry) → Forall P es → Forall P (chosen es)
unfolding chosen
chosen-all P [] h = h
chosen-all P (e ∷ es) h = let q = (Forall-cons P e es).0 h in place-all P e (chosen es) q.0 (chosen-all P es q.1)

-- ---- strictly rising: "fed in rising instant"

abbrev pub Rises : List Entry → Type 0
Rises [] = Unit {0}
Rises (c ∷ cs) = Forall (λ d. instant_of c < instant_of d) cs × Rises cs

later : (a b : Entry) → instant_of a ≤ instant_of b → (cs : List Entry) → Forall (λ d. instant_of b < instant_of d) cs → Forall (λ d. instant_of a < instant_of d) cs
later a b h cs k = Forall-imp (λ d l. omega arith) cs k

place_rises : (e : Entry) (cs : List Entry) → Rises cs → Rises (place e cs)
unfolding place Forall
place_rises e [] h = (tt, tt)
place_rises e (c ∷ cs) h = go (ltb (instant_of e) (instant_of c)) refl (ltb (instant_of c) (instant_of e)) refl (leb c.revision e.revision) (place_rises e cs h.1)
  where
    go : (t : Bool) → ltb (instant_of e) (instant_of c) ≡ t → (u : Bool) → ltb (instant_of c) (instant_of e) ≡ u → (v : Bool) → Rises (place e cs)
        → Rises (cond t (e ∷ c ∷ cs) (cond u (c ∷ place e cs) (cond v (e ∷ cs) (c ∷ cs))))
    go true x u y v more =
        let l = ltb-true (instant_of e) (instant_of c) x in
        ((Forall-cons (λ d. instant_of e < instant_of d) c cs).1 (l, later e c (omega arith) cs h.0), h)
    go false x true y v more = (place-all (λ d. instant_of c < instant_of d) e cs (ltb-true (instant_of c) (instant_of e) y) h.0, more)
    go false x false y true more = (later e c (ltb-false (instant_of c) (instant_of e) y) cs h.0, h.1)
    go false x false y false more = h

pub chosen_rises : (es : List Entry) → Rises (chosen es)
unfolding chosen
chosen_rises [] = tt
chosen_rises (e ∷ es) = place_rises e (chosen es) (chosen_rises es)

-- ---- each chosen is one of the entries

abbrev pub Among : Entry → List Entry → Type 0
Among c [] = ⊥
Among c (e ∷ es) = (c ≡ e) ⊎ Among c es

all_among : (es : List Entry) → Forall (λ e. Among e es) es
unfolding Forall
all_among [] = tt
all_among (e ∷ es) = (Forall-cons (λ d. Among d (e ∷ es)) e es).1 (inl refl, Forall-imp (λ d h. inr h) es (all_among es))

pub chosen-entry : (es : List Entry) → Forall (λ c. Among c es) (chosen es)
chosen-entry es = chosen-all (λ c. Among c es) es (all_among es)

-- ---- every instant is present, with no lower revision than any entry has there

abbrev pub Present : Entry → List Entry → Type 0
Present e [] = ⊥
Present e (c ∷ cs) = ((instant_of c ≡ instant_of e) × (e.revision ≤ c.revision)) ⊎ Present e cs

place_present : (e : Entry) (cs : List Entry) → Present e (place e cs)
unfolding place
place_present e [] = inl (refl, omega arith)
place_present e (c ∷ cs) =
    go (ltb (instant_of e) (instant_of c)) refl (ltb (instant_of c) (instant_of e)) refl (leb c.revision e.revision) refl (place_present e cs)
  where
    go : (t : Bool) → ltb (instant_of e) (instant_of c) ≡ t → (u : Bool) → ltb (instant_of c) (instant_of e) ≡ u → (v : Bool) → leb c.revision e.revision ≡ v
        → Present e (place e cs) → Present e (cond t (e ∷ c ∷ cs) (cond u (c ∷ place e cs) (cond v (e ∷ cs) (c ∷ cs))))
    go true x u y v z more = inl (refl, omega arith)
    go false x true y v z more = inr more
    go false x false y true z more = inl (refl, omega arith)
    go false x false y false z more =
        let l = ltb-false (instant_of e) (instant_of c) x in
        let m = ltb-false (instant_of c) (instant_of e) y in
        let n = leb-false c.revision e.revision z in
        inl (omega arith, omega arith)

place_keeps : (d e : Entry) (cs : List Entry) → Present d cs → Present d (place e cs)
unfolding place
place_keeps d e [] p = absurd p
place_keeps d e (c ∷ cs) p =
    go (ltb (instant_of e) (instant_of c)) refl (ltb (instant_of c) (instant_of e)) refl (leb c.revision e.revision) refl (place_keeps d e cs) p
  where
    go : (t : Bool) → ltb (instant_of e) (instant_of c) ≡ t → (u : Bool) → ltb (instant_of c) (instant_of e) ≡ u → (v : Bool) → leb c.revision e.revision ≡ v
        → (Present d cs → Present d (place e cs)) → Present d (c ∷ cs) → Present d (cond t (e ∷ c ∷ cs) (cond u (c ∷ place e cs) (cond v (e ∷ cs) (c ∷ cs))))
    go true x u y v z more q = inr q
    go false x true y v z more (inl q) = inl q
    go false x true y v z more (inr q) = inr (more q)
    go false x false y true z more (inl q) =
        let l = ltb-false (instant_of e) (instant_of c) x in
        let m = ltb-false (instant_of c) (instant_of e) y in
        let n = leb-true c.revision e.revision z in
        inl (omega (arith, l, m, q.0), omega (arith, n, q.1))
    go false x false y true z more (inr q) = inr q
    go false x false y false z more q = q

pub chosen_present : (es : List Entry) → Forall (λ e. Present e (chosen es)) es
unfolding chosen Forall
chosen_present [] = tt
chosen_present (e ∷ es) =
    (Forall-cons (λ d. Present d (chosen (e ∷ es))) e es).1
    (place_present e (chosen es), Forall-imp (λ d p. place_keeps d e (chosen es) p) es (chosen_present es))

-- ---- nothing chosen has a higher revision beside it

behind : (i : ℕ) (d : Entry) (cs : List Entry) → Forall (λ c. i < instant_of c) cs → Present d cs → i < instant_of d
behind i d [] h p = absurd p
behind i d (c ∷ cs) h (inl q) = omega (arith, ((Forall-cons (λ c. i < instant_of c) c cs).0 h).0, q.0)
behind i d (c ∷ cs) h (inr q) = behind i d cs ((Forall-cons (λ c. i < instant_of c) c cs).0 h).1 q

highest : (d : Entry) (cs : List Entry) → Rises cs → Present d cs → Forall (λ c. instant_of d ≡ instant_of c → d.revision ≤ c.revision) cs
highest d [] h p = absurd p
highest d (c ∷ cs) h (inl q) =
    (Forall-cons (λ c. instant_of d ≡ instant_of c → d.revision ≤ c.revision) c cs).1
    (λ e. q.1, Forall-imp (λ b l e. absurd (omega (arith, q.0, l, e))) cs h.0)
highest d (c ∷ cs) h (inr q) =
    (Forall-cons (λ c. instant_of d ≡ instant_of c → d.revision ≤ c.revision) c cs).1
    (λ e. absurd (omega (arith, behind (instant_of c) d cs h.0 q, e)), highest d cs h.1 q)

-- what holds of each pair, by the second first
turned : (P : Entry → Entry → Type 0) (es cs : List Entry) → Forall (λ e. Forall (λ c. P e c) cs) es → Forall (λ c. Forall (λ e. P e c) es) cs
unfolding Forall
turned P es [] h = tt
turned P es (c ∷ cs) h =
    (Forall-cons (λ c. Forall (λ e. P e c) es) c cs).1
    (Forall-imp (λ e k. ((Forall-cons (λ c. P e c) c cs).0 k).0) es h, turned P es cs (Forall-imp (λ e k. ((Forall-cons (λ c. P e c) c cs).0 k).1) es h))

pub chosen_highest : (es : List Entry) → Forall (λ c. Forall (λ e. instant_of e ≡ instant_of c → e.revision ≤ c.revision) es) (chosen es)
chosen_highest es =
    turned (λ e c. instant_of e ≡ instant_of c → e.revision ≤ c.revision) es (chosen es)
    (Forall-imp (λ e p. highest e (chosen es) (chosen_rises es) p) es (chosen_present es))

-- ---- there are not more of them than entries

place-length : (e : Entry) (cs : List Entry) → length (place e cs) ≤ suc (length cs)
unfolding place
place-length e [] = omega arith
place-length e (c ∷ cs) = go (ltb (instant_of e) (instant_of c)) (ltb (instant_of c) (instant_of e)) (leb c.revision e.revision) (place-length e cs)
  where
    go : (t u v : Bool) → length (place e cs) ≤ suc (length cs)
        → length (cond t (e ∷ c ∷ cs) (cond u (c ∷ place e cs) (cond v (e ∷ cs) (c ∷ cs)))) ≤ suc (suc (length cs))
    go true u v h = omega arith
    go false true v h = omega arith
    go false false true h = omega arith
    go false false false h = omega arith

pub chosen-length : (es : List Entry) → length (chosen es) ≤ length es
unfolding chosen
chosen-length [] = omega arith
chosen-length (e ∷ es) = omega (arith, place-length e (chosen es), chosen-length es)
