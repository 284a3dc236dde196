-- The invariant of both loops: the first of the words ks are noted, and the texts of the rest fit behind them. Assumes nothing.
use Prim.Native.Nat.{ℕ, suc, ◌+◌, ◌<◌, ◌≤◌}
use native.Mathlib.Omega.{arith}
use native.Mathlib.Numerals.{add-one}
use mathlib.Core.Path.{◌≡◌, refl, sym, ap, ap₂, ◌∙◌}
use mathlib.Core.List.{List, [], ◌∷◌, ◌++◌}
use lib.ListN.{length, get_or, set, take, drop, length-set, drop_of_length-le}
use lib.Seq.{take-suc-set, take_all}
use Rattle.list.specs.Numbered.{numbered}
use Rattle.utf8.specs.Alone.{text_limit}
use Rattle.text.proofs.Joined.{total, total_next}
use Rattle.table_wordbook.specs.Wordbook.{words_at, Words, BookOf, words_length}
use Rattle.table_wordbook.proofs.Books.{book-empty}
use Rattle.table_codes.specs.Read.{Room, Open, Added, Filled}

-- i of the m words ks are noted; `all` says which words are then in the book, and `codes` which numbers they have
pub record Filling (ks : List (List ℕ)) (all : List (List ℕ) → List (List ℕ)) (codes : List (List ℕ) → List ℕ)
    (b : Words) (numbers : List ℕ) (b₁ : Words) (numbers₁ : List ℕ) (m i : ℕ) : Type 0 where
  pub le : i ≤ m
  pub filled : Filled b numbers b₁ numbers₁ i (total (drop i ks)) (all (take i ks)) (codes (take i ks))

module _ {b : Words} {numbers : List ℕ} {m : ℕ} (room : Room b numbers m)
    (ks : List (List ℕ)) (all : List (List ℕ) → List (List ℕ)) (codes : List (List ℕ) → List ℕ) where
  pub filling_first : total ks ≤ text_limit → all [] ≡ [] → codes [] ≡ [] → Filling ks all codes b numbers b numbers m 0
  unfolding words_at numbered
  filling_first h p q = record { le = omega arith; filled = rw (p, q) filled }
    where
      no-bytes : words_length b ≡ 0
      no-bytes = ap (λ (n : ℕ). get_or b.starts n 0) room.empty ∙ room.first

      no-words : BookOf b
      no-words = rw room.empty (book-empty b.texts b.starts b.orders b.ranks room.first (omega (arith, room.starts-room)))

      filled : Filled b numbers b numbers 0 (total ks) [] []
      filled = record {
        book = no-words;
        words = ap (λ (n : ℕ). words_at b.texts b.starts n) room.empty;
        are = refl;
        few = omega (arith, room.empty);
        end = omega (arith, h, no-bytes);
        lengths = record { texts-length = refl; starts-length = refl; orders-length = refl; ranks-length = refl };
        numbers_length = refl;
      }

  module _ {b₁ : Words} {numbers₁ : List ℕ} {i : ℕ} (f : Filling ks all codes b numbers b₁ numbers₁ m i) where
    -- room for the next
    pub filling_open : i < m → {size : ℕ} → words_length b₁ + size ≤ text_limit → Open b₁ size
    filling_open h k =
        let l = f.filled.lengths in
        record {
          book = f.filled.book;
          few = omega (arith, room.few, f.filled.few);
          near = omega (arith, k);
          texts-room = omega (arith, k, l.texts-length, room.texts-room);
          starts-room = omega (arith, l.starts-length, room.starts-room, f.filled.few);
          orders-room = omega (arith, l.orders-length, room.orders-room, f.filled.few);
          ranks-room = omega (arith, l.ranks-length, room.ranks-room, f.filled.few);
        }

    -- the next, of this number, is noted
    pub filling_more : {b₂ : Words} {r number : ℕ} {us : List (List ℕ)} → i < m → Added b₁ b₂ r (length (get_or ks i [])) number us
        → all (take (suc i) ks) ≡ us → codes (take (suc i) ks) ≡ codes (take i ks) ++ number ∷ []
        → Filling ks all codes b numbers b₂ (set numbers₁ i r) m (i + 1)
    filling_more {r = r} h a p q = record {
      le = omega arith;
      filled = rw (add-one i) record {
        book = a.book;
        words = a.words ∙ sym p;
        are = take-suc-set numbers₁ i r (omega (arith, f.filled.numbers_length, room.numbers_room))
            ∙ ap₂ (λ (xs : List ℕ) (x : ℕ). xs ++ x ∷ []) f.filled.are a.is ∙ sym q;
        few = omega (arith, f.filled.few, a.most);
        end = omega (arith, f.filled.end, a.end, total_next ks i);
        lengths = record {
          texts-length = a.lengths.texts-length ∙ f.filled.lengths.texts-length;
          starts-length = a.lengths.starts-length ∙ f.filled.lengths.starts-length;
          orders-length = a.lengths.orders-length ∙ f.filled.lengths.orders-length;
          ranks-length = a.lengths.ranks-length ∙ f.filled.lengths.ranks-length;
        };
        numbers_length = length-set numbers₁ i r ∙ f.filled.numbers_length;
      };
    }

    -- all are
    pub filling_last : length ks ≡ m → m ≤ i → Filled b numbers b₁ numbers₁ m 0 (all ks) (codes ks)
    unfolding total
    filling_last e h =
        let z : i ≡ m = omega (arith, f.le) in
        rw (z, take_all m ks (omega (arith, e)), drop_of_length-le ks {i = m} (omega (arith, e))) at f.filled
