-- Texts that rise along their orders: what `precedes` answers, and the invariant of `rising_ok`. Assumes nothing.
use Prim.Native.Nat.{ℕ, suc, ◌+◌, ◌-◌, ◌≤◌, ◌<◌}
use native.Mathlib.Omega.{arith}
use mathlib.Core.Bool.{Bool, true, false, cond, ◌&&◌}
use mathlib.Core.List.{List, [], ◌∷◌}
use mathlib.Core.Path.{◌≡◌, refl, sym, ◌∙◌}
use lib.ListN.{length, drop, length-drop}
use lib.Seq.{drop-cons}
use Rattle.std.specs.Ordering.{is_lt}
use Rattle.std.specs.declared.cmp.Ordering.TheVariants.{Less, Equal, Greater}
use Rattle.text.specs.Text.{same}
use Rattle.table_words.specs.Words.{less, ascending}
use Rattle.table_words_order.specs.Read.{order_of}
use Rattle.table.specs.Layout.{word_text}
use Rattle.table.specs.Read.{WordAt}
use Rattle.table.specs.declared.WordRow.{WordRow}
use Rattle.table_check_words.specs.Check.{word_rows, texts_of, orders_of, Inside}
use Rattle.table_check_words.proofs.Ranks.{orders-many, order-at, text_at}

-- ---- `precedes`

pub order_less : (a b : List ℕ) → is_lt (order_of a b) ≡ less a b
unfolding order_of
order_less a b = go (less a b) (same a b)
  where
    go : (p q : Bool) → is_lt (cond p Less (cond q Equal Greater)) ≡ p
    go true q = refl
    go false true = refl
    go false false = refl

module _ {l texts : List ℕ} {n : ℕ} (s : Inside l texts n) {j : ℕ} (h : j < n) {w : WordRow} (r : WordAt l j w) where
  pub inside-text : w.at + w.len ≤ length texts
  inside-text = rw r.is (s.text j h)

  pub inside-order : w.order < n
  inside-order = rw r.is (s.order j h)

-- ---- `rising_ok`

-- the texts rise along the orders before number i
pub record Rising (l texts : List ℕ) (n i : ℕ) : Type 0 where
  pub begun : 1 ≤ i
  pub still : ascending (texts_of texts (word_rows n l)) (orders_of (word_rows n l)) ≡ ascending (texts_of texts (word_rows n l)) (drop (i - 1) (orders_of (word_rows n l)))

pub rising-first : (l texts : List ℕ) (n : ℕ) → Rising l texts n 1
rising-first l texts n = record { begun = omega arith; still = refl }

few_ascend : (ts : List (List ℕ)) (os : List ℕ) → length os ≤ 1 → ascending ts os ≡ true
unfolding ascending
few_ascend ts [] h = refl
few_ascend ts (a ∷ []) h = refl
few_ascend ts (a ∷ b ∷ os) h = absurd (omega arith)

module _ {l texts : List ℕ} {n i : ℕ} (r : Rising l texts n i) where
  pub rising-last : n ≤ i → true ≡ ascending (texts_of texts (word_rows n l)) (orders_of (word_rows n l))
  rising-last h =
      let k = length-drop (i - 1) (orders_of (word_rows n l)) in
      sym (r.still ∙ few_ascend (texts_of texts (word_rows n l)) (drop (i - 1) (orders_of (word_rows n l))) (omega (arith, k, orders-many l n)))

  module _ (inside : Inside l texts n) (h : i < n) {v w : WordRow} (p : WordAt l (i - 1) v) (q : WordAt l i w)
      {x y : WordRow} (px : WordAt l v.order x) (py : WordAt l w.order y) where
    abbrev os : List ℕ
    os = orders_of (word_rows n l)

    abbrev ts : List (List ℕ)
    ts = texts_of texts (word_rows n l)

    rest : drop i os ≡ w.order ∷ drop (suc i) os
    rest = drop-cons os i 0 (omega (arith, orders-many l n)) ∙ rw (order-at l n i h, ← q.is)

    both : drop (i - 1) os ≡ v.order ∷ drop i os
    both =
        let e : suc (i - 1) ≡ i = omega (arith, r.begun) in
        drop-cons os (i - 1) 0 (omega (arith, orders-many l n)) ∙ rw (e, order-at l n (i - 1) (omega arith), ← p.is)

    turn : ascending ts os ≡ (less (word_text texts x) (word_text texts y) && ascending ts (drop i os))
    unfolding ascending
    turn =
        r.still ∙ rw (
          both,
          rest,
          text_at l n texts v.order (inside-order inside (omega arith) p),
          text_at l n texts w.order (inside-order inside h q),
          px.is,
          py.is,
        )

    pub rising_off : false ≡ less (word_text texts x) (word_text texts y) → false ≡ ascending ts os
    rising_off e = sym (turn ∙ rw (← e))

    pub rising-more : true ≡ less (word_text texts x) (word_text texts y) → Rising l texts n (i + 1)
    rising-more e =
        let k : i + 1 - 1 ≡ i = omega arith in
        record { begun = omega arith; still = turn ∙ rw (← e, k) }
