-- Items of 32 bytes each, one behind another: what holds and records have in common. Assumes nothing.
use Prim.Native.Nat.{ℕ, ◌+◌, ◌*◌}
use native.Mathlib.Omega.{arith}
use mathlib.Core.List.{List, [], ◌∷◌, ◌++◌, map, append_assoc, append-nil}
use mathlib.Core.Path.{◌≡◌, refl, sym, ap, ◌∙◌, subst}
use mathlib.Mathlib.Data.List.Defs.{Forall}
use mathlib.Mathlib.Data.List.Basic.{Forall-cons, Forall-append}
use lib.ListN.{length, length-append}
use Rattle.le.specs.Le.{part, patch}
use Rattle.le.proofs.Places.{part_mid, patch_mid}
use Rattle.book.specs.Layout.{slots}

-- `items` writes each item behind the one before it
pub record Written {A : Type 0} (item : A → List ℕ) (items : List A → List ℕ) : Type 0 where
  pub none : items [] ≡ []
  pub more : (x : A) (xs : List A) → items (x ∷ xs) ≡ item x ++ items xs
  pub long : (x : A) → length (item x) ≡ 32

module _ {A : Type 0} {item : A → List ℕ} {items : List A → List ℕ} (w : Written item items) where
  pub items_length : (xs : List A) → length (items xs) ≡ 32 * length xs
  items_length [] = ap (λ (l : List ℕ). length l) w.none
  items_length (x ∷ xs) = rw (w.more x xs) (omega (arith, length-append (item x) (items xs), w.long x, items_length xs))

  items_append : (xs ys : List A) → items (xs ++ ys) ≡ items xs ++ items ys
  items_append [] ys = rw w.none refl
  items_append (x ∷ xs) ys = rw (w.more x (xs ++ ys), w.more x xs, items_append xs ys) (sym (append_assoc (item x) (items xs) (items ys)))

  -- one item alone
  pub items_one : (x : A) → items (x ∷ []) ≡ item x
  items_one x = rw (w.more x [], w.none) (append-nil (item x))

  -- the last item, with something before and behind the list
  pub items_last : (p : List ℕ) (xs : List A) (x : A) (q : List ℕ) → p ++ items (xs ++ x ∷ []) ++ q ≡ p ++ items xs ++ (item x ++ q)
  items_last p xs x q = rw (items_append xs (x ∷ []), items_one x) (simp append_assoc)

  module _ (p : List ℕ) (xs : List A) (at : ℕ) (place : length p + 32 * length xs ≡ at) where
    front : length (p ++ items xs) ≡ at
    front = omega (arith, length-append p (items xs), items_length xs)

    -- the item behind xs
    pub item_at : (x : A) (q : List ℕ) → part (p ++ items xs ++ (item x ++ q)) at 32 ≡ item x
    item_at x q = rw (← append_assoc (p ++ items xs) (item x) q) (part_mid (p ++ items xs) (item x) q at 32 front (w.long x))

    -- items written behind xs, over as many bytes
    pub items_put : (ys : List A) (old q : List ℕ) → length old ≡ 32 * length ys → patch (p ++ items xs ++ (old ++ q)) at (items ys) ≡ p ++ items (xs ++ ys) ++ q
    items_put ys old q e =
        rw (← append_assoc (p ++ items xs) old q, patch_mid (p ++ items xs) old (items ys) q at front (e ∙ sym (items_length ys)), items_append xs ys)
        (simp append_assoc)

  -- ---- slots

  pub items_slots : (p : List ℕ) (xs : List A) (q : List ℕ) (at : ℕ) → length p ≡ at → slots (p ++ items xs ++ q) at (length xs) ≡ map item xs
  unfolding slots
  items_slots p [] q at e = refl
  items_slots p (x ∷ xs) q at e =
      let next : p ++ items (x ∷ xs) ++ q ≡ p ++ item x ++ items xs ++ q = rw (w.more x xs) (simp append_assoc) in
      let far : length (p ++ item x) ≡ at + 32 = omega (arith, length-append p (item x), w.long x) in
      let one : part (p ++ items (x ∷ xs) ++ q) at 32 ≡ item x =
      rw (next, append_assoc (p ++ item x) (items xs) q) (part_mid p (item x) (items xs ++ q) at 32 e (w.long x))
      in
      let others : slots (p ++ items (x ∷ xs) ++ q) (at + 32) (length xs) ≡ map item xs = rw next (items_slots (p ++ item x) xs q (at + 32) far) in
      λ i. one i ∷ others i

-- items that are each read back
pub items_read : {A : Type 0} {P : A → Type 0} (item : A → List ℕ) (item_of : List ℕ → A) → ((x : A) → P x → item_of (item x) ≡ x)
    → (xs : List A) → Forall P xs → map item_of (map item xs) ≡ xs
items_read item item_of back [] h = refl
items_read {P = P} item item_of back (x ∷ xs) h =
    let k = (Forall-cons P x xs).0 h in
    λ i. back x k.0 i ∷ items_read item item_of back xs k.1 i

-- what each item has, the last one has
pub forall_last : {A : Type 0} (P : A → Type 0) (l xs : List A) (x : A) → l ≡ xs ++ x ∷ [] → Forall P l → P x
forall_last P l xs x e h = ((Forall-cons P x []).0 ((Forall-append P xs (x ∷ [])).0 (subst (Forall P) e h)).1).0
