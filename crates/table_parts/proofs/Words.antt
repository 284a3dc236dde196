-- A wordbook's rows and texts, as a table has them: its words, in order, distinct, and how much room they take. Assumes nothing.
use Prim.Native.Nat.{ℕ, zero, suc, ◌+◌, ◌-◌, ◌<◌, ◌≤◌}
use native.Mathlib.Omega.{arith}
use native.Mathlib.Numerals.{add-one}
use mathlib.Core.Bool.{true}
use mathlib.Core.List.{List, [], ◌∷◌, map}
use mathlib.Core.Path.{◌≡◌, refl, sym, ap, ◌∙◌}
use lib.ListN.{length, get_or, take, drop}
use lib.Seq.{length-take-le, take-take, length-slice}
use Rattle.list.specs.Numbered.{numbered}
use Rattle.list.proofs.Laws.{numbered-length, numbered-map, numbered-same}
use Rattle.le.specs.Le.{part}
use Rattle.text.specs.Conditions.{every}
use Rattle.text.proofs.Conditions.{◌also◌, none_left, sure}
use Rattle.text.proofs.Laws.{part-size}
use Rattle.table_words.specs.Words.{word_ok}
use Rattle.text.proofs.Joined.{total}
use Rattle.table_wordbook.specs.Wordbook.{word_at, words_at, Book, Words, BookOf, words_of}
use Rattle.table_wordbook.proofs.Books.{words-length, starts-rise, book_lined, book-distinct}
use Rattle.table.specs.Layout.{word_text}
use Rattle.table.specs.Table.{follow, words_ok}
use Rattle.table_layout.specs.Fits.{WordFits, AllAt}
use Rattle.table_layout.proofs.Sized.{all-numbered}
use Rattle.table_parts.specs.Draft.{word_row, word_rows, word_texts}
use Rattle.table_parts.proofs.Codes.{total_append}
use Rattle.table_parts.proofs.Rows.{numbered-take, follow-numbered}

module _ {texts starts orders ranks : List ℕ} {n : ℕ} (b : Book texts starts orders ranks n) where
  -- ---- its texts

  text-length : length (take (get_or starts n 0) texts) ≡ get_or starts n 0
  text-length = length-take-le (get_or starts n 0) texts b.within

  word-text : (i : ℕ) → i < n → word_text (take (get_or starts n 0) texts) (word_row starts orders ranks i) ≡ word_at texts starts i
  unfolding word_text word_row part
  word-text i h =
      part-size (get_or starts i 0) (get_or starts (i + 1) 0) (take (get_or starts n 0) texts) (b.rising i h)
      ∙ ap (drop (get_or starts i 0)) (take-take (get_or starts (i + 1) 0) (get_or starts n 0) texts (starts-rise b (i + 1) n (omega arith) (omega arith)))

  pub word-texts : map (word_text (take (get_or starts n 0) texts)) (word_rows starts orders ranks n) ≡ words_at texts starts n
  unfolding words_at
  word-texts =
      numbered-map (word_text (take (get_or starts n 0) texts)) (word_row starts orders ranks) n
      ∙ numbered-same (λ i. word_text (take (get_or starts n 0) texts) (word_row starts orders ranks i)) (word_at texts starts) n word-text

  -- ---- its orders and ranks

  row-orders : map (λ w. w.order) (word_rows starts orders ranks n) ≡ take n orders
  unfolding word_row
  row-orders = numbered-map (λ w. w.order) (word_row starts orders ranks) n ∙ numbered-take orders n b.orders-room

  row-ranks : map (λ w. w.rank) (word_rows starts orders ranks n) ≡ take n ranks
  unfolding word_row
  row-ranks = numbered-map (λ w. w.rank) (word_row starts orders ranks) n ∙ numbered-take ranks n b.ranks-room

  -- ---- "keys and values are distinct" and follow each other

  spans : follow (λ w. w.at) (λ w. w.len) 0 (length (take (get_or starts n 0) texts)) (word_rows starts orders ranks n) ≡ true
  unfolding word_row
  spans =
      rw text-length
      (rw b.first at (follow-numbered (λ w. w.at) (λ w. w.len) (word_row starts orders ranks) n (λ i. get_or starts i 0) (λ i h. refl) next))
    where
      next : (i : ℕ) → i < n → get_or starts (suc i) 0 ≡ get_or starts i 0 + (get_or starts (i + 1) 0 - get_or starts i 0)
      next i h = rw (← add-one i) (omega (arith, b.rising i h))

  pub words-ok : (limit : ℕ) → every (word_ok limit) (words_at texts starts n) ≡ true
      → words_ok limit (take (get_or starts n 0) texts) (word_rows starts orders ranks n) ≡ true
  unfolding words_ok
  words-ok limit e =
      rw (word-texts, row-orders, row-ranks)
      (sure (spans also e also book-distinct b also b.sorted also none_left))

  -- ---- sizes

  total_to : (k : ℕ) → k ≤ n → total (numbered (word_at texts starts) k) ≡ get_or starts k 0
  unfolding numbered total
  total_to zero h = sym b.first
  total_to (suc k) h =
      let low = b.rising k h in
      let high = starts-rise b (k + 1) n (omega arith) (omega arith) in
      let more = total_append (numbered (word_at texts starts) k) (word_at texts starts k ∷ []) in
      let size = length-slice (get_or starts k 0) (get_or starts (k + 1) 0) texts (omega (arith, b.within)) in
      rw (← add-one k) (omega (arith, low, more, size, total_to k (omega arith)))

  words_total : total (words_at texts starts n) ≡ get_or starts n 0
  unfolding words_at
  words_total = total_to n (omega arith)

  word_fits : length (take (get_or starts n 0) texts) < 65536 → n < 65536 → (i : ℕ) → i < n → WordFits (word_row starts orders ranks i)
  unfolding word_row
  word_fits small few i h =
      let end = starts-rise b (i + 1) n (omega arith) (omega arith) in
      let up = b.rising i h in
      let size = text-length in
      record { at = omega arith; len = omega arith; rank = omega (arith, ((book_lined b).rank i h).low); order = omega (arith, (book_lined b).order i h) }

  pub words-fit : length (take (get_or starts n 0) texts) < 65536 → n < 65536 → AllAt WordFits (word_rows starts orders ranks n)
  words-fit small few = all-numbered WordFits (word_row starts orders ranks) n (word_fits small few)

-- ---- books of known words

module _ (w : Words) (ws : List (List ℕ)) (e : words_of w ≡ ws) where
  pub words_count : w.count ≡ length ws
  words_count = sym (words-length w.texts w.starts w.count) ∙ ap length e

  pub rows-count : length (word_rows w.starts w.orders w.ranks w.count) ≡ length ws
  rows-count = numbered-length (word_row w.starts w.orders w.ranks) w.count ∙ words_count

  pub texts_total : BookOf w → length (word_texts w) ≡ total ws
  texts_total b = text-length b ∙ sym (words_total b) ∙ ap total e
