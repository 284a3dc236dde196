-- What the code asks and what its answers mean. Assumes nothing.
use Rattle.std.specs.Prelude.{ℕ, ◌+◌, ◌*◌, ◌/◌, ◌%◌, ◌<◌, ◌≤◌, ◌≡◌, List, [], ◌∷◌, length, get_or, take, drop}
use Rattle.list.specs.Numbered.{rows}
use Rattle.utf8.specs.Alone.{text_limit}
use Rattle.sheet.specs.Sheet.{Clause}
use Rattle.sheet.specs.Places.{clause_numbers, clause_at, ClauseOk}
use Rattle.table_limits.specs.Fine.{clauses_weight}
use Rattle.table_wordbook.specs.Wordbook.{number_of, noted, Words, BookOf, words_of, words_length}
use Rattle.table_parts.specs.Codes.{keys_in, values_in, noted_all, numbers_of, value_noted, code_of, values_noted, codes_of}

-- ---- clauses by their numbers

-- clause i, and the first m clauses
abbrev pub clause_in : List ℕ → List ℕ → ℕ → Clause
clause_in s cs i = clause_at s (drop (clause_numbers * i) cs)

abbrev pub clauses_in : List ℕ → List ℕ → ℕ → List Clause
clauses_in s cs m = rows (clause_at s) clause_numbers m cs

-- value j of all: each clause has three
abbrev pub value_in : List ℕ → List ℕ → ℕ → List ℕ
value_in s cs j = get_or (values_in (clause_in s cs (j / 3) ∷ [])) (j % 3) []

-- cs has the numbers of clause i, and they fit s
pub record RowOk (s cs : List ℕ) (i : ℕ) : Type 0 where
  pub row : clause_numbers * i + clause_numbers ≤ length cs
  pub clause : ClauseOk s (drop (clause_numbers * i) cs)

-- the same of the first m clauses, and their texts together are no longer than a text may be
pub record RowsOk (s cs : List ℕ) (m : ℕ) : Type 0 where
  pub rows : clause_numbers * m ≤ length cs
  pub clauses : (i : ℕ) → i < m → ClauseOk s (drop (clause_numbers * i) cs)
  pub light : clauses_weight (clauses_in s cs m) ≤ text_limit

-- ---- books

-- no word yet, and room for m words as long together as a text may be, and for m numbers, which fit two bytes
pub record Room (b : Words) (numbers : List ℕ) (m : ℕ) : Type 0 where
  pub empty : b.count ≡ 0
  pub first : get_or b.starts 0 0 ≡ 0
  pub few : m < 65536
  pub texts-room : text_limit ≤ length b.texts
  pub starts-room : m < length b.starts
  pub orders-room : m ≤ length b.orders
  pub ranks-room : m ≤ length b.ranks
  pub numbers_room : m ≤ length numbers

-- room for one word more, for which so many bytes are written; its code and its end fit two bytes
pub record Open (b : Words) (bytes : ℕ) : Type 0 where
  pub book : BookOf b
  pub few : b.count + 1 < 65536
  pub near : words_length b + bytes < 65536
  pub texts-room : words_length b + bytes ≤ length b.texts
  pub starts-room : b.count + 1 < length b.starts
  pub orders-room : b.count < length b.orders
  pub ranks-room : b.count < length b.ranks

pub record SameLengths (b b₁ : Words) : Type 0 where
  pub texts-length : length b₁.texts ≡ length b.texts
  pub starts-length : length b₁.starts ≡ length b.starts
  pub orders-length : length b₁.orders ≡ length b.orders
  pub ranks-length : length b₁.ranks ≡ length b.ranks

-- ---- the answers

-- after one more: the words are ws, r is this number, and the texts are longer by so many bytes at most
pub record Added (b b₁ : Words) (r bytes number : ℕ) (ws : List (List ℕ)) : Type 0 where
  pub book : BookOf b₁
  pub words : words_of b₁ ≡ ws
  pub is : r ≡ number
  pub most : b₁.count ≤ b.count + 1
  pub end : words_length b₁ ≤ words_length b + bytes
  pub lengths : SameLengths b b₁

-- of the key k
abbrev pub KeyAdded : List ℕ → Words → Words → ℕ → Type 0
KeyAdded k b b₁ r = Added b b₁ r (length k) (number_of k (words_of b)) (noted k (words_of b))

-- of the value v
abbrev pub ValueAdded : List ℕ → Words → Words → ℕ → Type 0
ValueAdded v b b₁ r = Added b b₁ r (length v) (code_of v (words_of b)) (value_noted v (words_of b))

-- after m: the words are ws, the numbers are ns, and with so many bytes more the words would still be no longer than a text may be
pub record Filled (b : Words) (numbers : List ℕ) (b₁ : Words) (numbers₁ : List ℕ) (m bytes : ℕ) (ws : List (List ℕ)) (ns : List ℕ) : Type 0 where
  pub book : BookOf b₁
  pub words : words_of b₁ ≡ ws
  pub are : take m numbers₁ ≡ ns
  pub few : b₁.count ≤ m
  pub end : words_length b₁ + bytes ≤ text_limit
  pub lengths : SameLengths b b₁
  pub numbers_length : length numbers₁ ≡ length numbers

-- the keys of m clauses, and their numbers
abbrev pub KeysNoted : List ℕ → List ℕ → ℕ → Words → List ℕ → Words → List ℕ → Type 0
KeysNoted s cs m b numbers b₁ numbers₁ =
    let ks = keys_in (clauses_in s cs m) in
    Filled b numbers b₁ numbers₁ m 0 (noted_all [] ks) (numbers_of [] ks)

-- the values of m clauses, and their codes
abbrev pub ValuesCoded : List ℕ → List ℕ → ℕ → Words → List ℕ → Words → List ℕ → Type 0
ValuesCoded s cs m b codes b₁ codes₁ =
    let vs = values_in (clauses_in s cs m) in
    Filled b codes b₁ codes₁ (3 * m) 0 (values_noted [] vs) (codes_of [] vs)
