-- A text behind the last word of a book is noted, or it is a wildcard. Assumes nothing.
use Prim.Native.Nat.{ℕ, ◌+◌}
use native.Mathlib.Omega.{arith}
use mathlib.Core.Path.{◌≡◌, refl, ap, ◌∙◌}
use mathlib.Core.Bool.{true, false}
use mathlib.Core.List.{List}
use lib.ListN.{length}
use Rattle.text.specs.Read.{Put}
use Rattle.table_words.specs.Words.{is_wild}
use Rattle.table.specs.Table.{wild_code}
use Rattle.table_wordbook.specs.Wordbook.{Words, words_length}
use Rattle.table_wordbook.specs.Read.{Candidate, NotedIn}
use Rattle.table_wordbook.proofs.Candidates.{put-there, words-put, candidate_put}
use Rattle.table_codes.specs.Read.{Open, KeyAdded, ValueAdded}

-- ---- a text behind the last word

module _ {b : Words} {x : List ℕ} (o : Open b (length x)) {texts : List ℕ} {to : ℕ} (p : Put b.texts texts (words_length b) x to) where
  abbrev put : Words
  put = record { texts = texts; starts = b.starts; orders = b.orders; ranks = b.ranks; count = b.count }

  pub put_candidate : Candidate put to
  put_candidate = candidate_put o.book p (omega (arith, o.few)) (omega (arith, o.near, p.end)) o.starts-room o.orders-room o.ranks-room

  module _ {b₁ : Words} {r : ℕ} (a : NotedIn put to b₁ r) where
    pub key-added : KeyAdded x b b₁ r
    key-added = record {
      book = a.book;
      words = rw (put-there p, words-put o.book p) at a.words;
      is = rw (put-there p, words-put o.book p) at a.number;
      most = a.most;
      end = omega (arith, a.end, p.end);
      lengths = record { texts-length = ap length a.texts ∙ p.kept; starts-length = a.starts-length; orders-length = a.orders-length; ranks-length = a.ranks-length };
    }

    -- the code of a value that is not wild
    pub value-added : is_wild x ≡ false → ValueAdded x b b₁ (r + 1)
    value-added w =
        let k = key-added in
        record { book = k.book; words = rw w k.words; is = rw w (ap (λ (i : ℕ). i + 1) k.is); most = k.most; end = k.end; lengths = k.lengths }

-- ---- a wildcard

pub wild_added : {b : Words} {bytes : ℕ} → Open b bytes → (v : List ℕ) → is_wild v ≡ true → ValueAdded v b b wild_code
wild_added o v w = record {
  book = o.book;
  words = rw w;
  is = rw w;
  most = omega arith;
  end = omega arith;
  lengths = record { texts-length = refl; starts-length = refl; orders-length = refl; ranks-length = refl };
}
