-- The orders and the ranks of keys or values: words by their numbers, and the invariant of `ranks_ok`. Assumes nothing.
use Prim.Native.Nat.{ℕ, ◌+◌, ◌*◌, ◌≤◌, ◌<◌}
use native.Mathlib.Omega.{arith}
use mathlib.Core.Bool.{Bool, true, false, cond, ◌&&◌}
use mathlib.Core.List.{List, [], ◌∷◌}
use mathlib.Core.Path.{◌≡◌, refl, sym, ap, ◌∙◌}
use lib.Dec.{ltb, eqb}
use lib.ListN.{length, get_or, drop, length-map}
use borrow.Author.Tests.{ltb-true}
use Rattle.list.proofs.Laws.{rows-length}
use Rattle.text.specs.Conditions.{all_of, every}
use Rattle.table_words.specs.Words.{ranked}
use Rattle.table.specs.Layout.{word_length, word_in, word_text}
use Rattle.table.specs.declared.WordRow.{WordRow}
use Rattle.table_check_words.specs.Check.{word_at, word_rows, texts_of, orders_of, ranks_of, rank_asked, ranks_from}
use Rattle.text.proofs.Tested.{broken}
use Rattle.table.proofs.Walks.{rows_more, rows_end, map_at}

-- ---- words by their numbers

module _ (l : List ℕ) (n : ℕ) where
  pub orders-many : length (orders_of (word_rows n l)) ≡ n
  orders-many = length-map (word_rows n l) (λ w. w.order) ∙ rows-length word_in word_length n l

  pub order-at : (j : ℕ) → j < n → get_or (orders_of (word_rows n l)) j 0 ≡ (word_at l j).order
  order-at j h = map_at (λ w. w.order) word_in word_length n l j 0 h

  pub text_at : (texts : List ℕ) (j : ℕ) → j < n → get_or (texts_of texts (word_rows n l)) j [] ≡ word_text texts (word_at l j)
  text_at texts j h = map_at (word_text texts) word_in word_length n l j [] h

-- ---- `ranks_ok`

module _ (l : List ℕ) (n i : ℕ) (ws : List WordRow) where
  abbrev os : List ℕ
  os = orders_of (word_rows n l)

  abbrev low : Bool
  low = every (λ (o : ℕ). ltb o n) (orders_of ws)

  abbrev right : Bool
  right = ranked os (i + 1) (ranks_of ws)

  rank-first : ranks_from os i (word_at l i ∷ ws) ≡ cond (all_of (rank_asked l n i)) (ranks_from os (i + 1) ws) false
  unfolding ranks_from every ranked all_of
  rank-first = rw (few, orders-many l n) (go (ltb (word_at l i).order n) (ltb (word_at l i).rank n) refl)
    where
      few : every (λ (o : ℕ). ltb o (length os)) (orders_of ws) ≡ low
      few = ap (λ (m : ℕ). every (λ (o : ℕ). ltb o m) (orders_of ws)) (orders-many l n)

      last : (a : Bool) → all_of (low ∷ cond a right false ∷ []) ≡ cond (all_of (a ∷ [])) (all_of (low ∷ right ∷ [])) false
      last true = refl
      last false = sym (broken (low ∷ false ∷ []) 1 refl)

      go : (a b : Bool) → ltb (word_at l i).rank n ≡ b
          → all_of (cond a low false ∷ cond (b && eqb (get_or os (word_at l i).rank 0) i) right false ∷ [])
          ≡ cond (all_of (a ∷ b ∷ eqb (word_at l (word_at l i).rank).order i ∷ [])) (all_of (low ∷ right ∷ [])) false
      go true true h = rw (order-at l n (word_at l i).rank (ltb-true _ _ h)) (last (eqb (word_at l (word_at l i).rank).order i))
      go true false h = sym (broken (low ∷ false ∷ []) 1 refl)
      go false b h = refl

pub record Ranking (l : List ℕ) (n i : ℕ) : Type 0 where
  pub le : i ≤ n
  pub room : word_length * n ≤ length l
  pub still : ranks_from (orders_of (word_rows n l)) 0 (word_rows n l) ≡ ranks_from (orders_of (word_rows n l)) i (drop i (word_rows n l))

pub ranking_first : (l : List ℕ) (n : ℕ) → word_length * n ≤ length l → Ranking l n 0
ranking_first l n h = record { le = omega arith; room = h; still = refl }

module _ {l : List ℕ} {n i : ℕ} (r : Ranking l n i) where
  pub ranking_last : n ≤ i → true ≡ ranks_from (orders_of (word_rows n l)) 0 (word_rows n l)
  unfolding ranks_from every ranked all_of
  ranking_last h = sym (r.still ∙ rw (rows_end word_in word_length n l i h))

  module _ (h : i < n) where
    turn : ranks_from (orders_of (word_rows n l)) 0 (word_rows n l)
        ≡ cond (all_of (rank_asked l n i)) (ranks_from (orders_of (word_rows n l)) (i + 1) (drop (i + 1) (word_rows n l))) false
    turn = r.still ∙ rw (rows_more word_in word_length n l i h) (rank-first l n i (drop (i + 1) (word_rows n l)))

    pub ranking_off : all_of (rank_asked l n i) ≡ false → false ≡ ranks_from (orders_of (word_rows n l)) 0 (word_rows n l)
    ranking_off e = sym (turn ∙ rw e)

    pub ranking_more : all_of (rank_asked l n i) ≡ true → Ranking l n (i + 1)
    ranking_more e = record { le = omega arith; room = r.room; still = turn ∙ rw e }
