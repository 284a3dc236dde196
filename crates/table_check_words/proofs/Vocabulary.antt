-- The keys, or the values, of a table: what `words_ok` concludes from their texts, ranks and orders. Assumes nothing.
use Prim.Native.Nat.{ℕ, ◌*◌, ◌≤◌}
use native.Mathlib.Omega.{arith}
use mathlib.Core.Bool.{Bool, true, false, ◌&&◌, false≢true}
use mathlib.Core.List.{List, [], ◌∷◌}
use mathlib.Core.Path.{◌≡◌, refl, sym, ◌∙◌}
use lib.Dec.{ltb}
use lib.ListN.{length, get_or, length-map}
use borrow.Author.Tests.{ltb-true}
use Rattle.list.proofs.Laws.{rows-length, rows_at}
use Rattle.text.specs.Conditions.{all_of}
use Rattle.text.proofs.Conditions.{fact}
use Rattle.text.proofs.Every.{every-below}
use Rattle.table_words.specs.Words.{ascending, ordered}
use Rattle.table_words_order.proofs.Apart.{apart}
use Rattle.table.specs.Layout.{word_length, word_in, word_text}
use Rattle.table.specs.Table.{words_ok}
use Rattle.table.specs.declared.WordRow.{WordRow}
use Rattle.table.proofs.Spans.{follow-within}
use Rattle.table_check_words.specs.Check.{word_at, word_rows, texts_of, orders_of, ranks_of, laid, ranks_from, Inside}
use Rattle.text.proofs.Tested.{broken}
use Rattle.table_check_words.proofs.Ranks.{orders-many, order-at}

module _ (l texts : List ℕ) (n limit : ℕ) where
  abbrev ws : List WordRow
  ws = word_rows n l

  abbrev os : List ℕ
  os = orders_of (word_rows n l)

  texts-many : length (texts_of texts ws) ≡ n
  texts-many = length-map ws (word_text texts) ∙ rows-length word_in word_length n l

  ranks-many : length (ranks_of ws) ≡ n
  ranks-many = length-map ws (λ w. w.rank) ∙ rows-length word_in word_length n l

  pub words_inside : word_length * n ≤ length l → laid limit texts 0 ws ≡ true → ranks_from os 0 ws ≡ true → Inside l texts n
  unfolding laid ranks_from
  words_inside h e f = record {
    room = h;
    text = λ j k.
        rw (rows_at word_in word_length n l j (word_at l j) k) at
        (follow-within (λ (w : WordRow). w.at) (λ w. w.len) (word_at l j) 0 (length texts) ws (fact _ e 0) j (omega (arith, rows-length word_in word_length n l)));
    order = λ j k.
        rw (order-at l n j k, orders-many l n) at
        (ltb-true (get_or os j 0) (length os) (every-below (λ (o : ℕ). ltb o (length os)) 0 os (fact _ f 0) j (omega (arith, orders-many l n))));
  }

  -- ---- the answers

  -- the conditions on orders, where they speak of as many texts
  orders-same : length (texts_of texts ws) ≡ length os
  orders-same = texts-many ∙ sym (orders-many l n)

  unlaid : (a b d o : Bool) → all_of (a ∷ b ∷ []) ≡ false → false ≡ all_of (a ∷ b ∷ d ∷ o ∷ [])
  unfolding all_of
  unlaid true true d o e = absurd (false≢true (sym e))
  unlaid true false d o e = refl
  unlaid false b d o e = refl

  words_unlaid : laid limit texts 0 ws ≡ false → false ≡ words_ok limit texts ws
  unfolding laid words_ok
  words_unlaid e = unlaid _ _ _ _ e

  unranked : (a b c : Bool) → all_of (a ∷ b ∷ []) ≡ false → all_of (a ∷ b ∷ c ∷ []) ≡ false
  unfolding all_of
  unranked true true c e = absurd (false≢true (sym e))
  unranked true false c e = refl
  unranked false b c e = refl

  words_unranked : ranks_from os 0 ws ≡ false → false ≡ words_ok limit texts ws
  unfolding ranks_from words_ok ordered
  words_unranked e = broken _ 3 (unranked _ _ _ (rw orders-same e))

  -- the last condition decides, and where it holds the texts are distinct
  last : (a b d x y z : Bool) → all_of (a ∷ b ∷ []) ≡ true → all_of (x ∷ y ∷ []) ≡ true → (all_of (x ∷ y ∷ z ∷ []) ≡ true → d ≡ true)
      → z ≡ all_of (a ∷ b ∷ d ∷ all_of (x ∷ y ∷ z ∷ []) ∷ [])
  unfolding all_of
  last true true d true true true e f h = rw (h refl)
  last true true d true true false e f h = broken (d ∷ false ∷ []) 1 refl
  last true true d true false z e f h = absurd (false≢true f)
  last true true d false y z e f h = absurd (false≢true f)
  last true false d x y z e f h = absurd (false≢true e)
  last false b d x y z e f h = absurd (false≢true e)

  words-rest : laid limit texts 0 ws ≡ true → ranks_from os 0 ws ≡ true → {r : Bool} → r ≡ ascending (texts_of texts ws) os → r ≡ words_ok limit texts ws
  unfolding laid ranks_from words_ok ordered
  words-rest e f h = h ∙ last _ _ _ _ _ _ e (rw orders-same f) (λ o. apart (texts_of texts ws) os (ranks_of ws) o (ranks-many ∙ sym texts-many))

  pub words_split : words_ok limit texts ws ≡ (laid limit texts 0 ws && ranks_from os 0 ws && ascending (texts_of texts ws) os)
  words_split = go (laid limit texts 0 ws) (ranks_from os 0 ws) refl refl
    where
      go : (p q : Bool) → laid limit texts 0 ws ≡ p → ranks_from os 0 ws ≡ q → words_ok limit texts ws ≡ (p && q && ascending (texts_of texts ws) os)
      go true true e f = sym (words-rest e f refl)
      go true false e f = sym (words_unranked f)
      go false q e f = sym (words_unlaid e)
