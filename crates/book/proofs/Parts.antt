-- The book of a state as its parts, and what its header says of them. Assumes nothing.
use Prim.Native.Nat.{ℕ, ◌-◌, ◌*◌, ◌^◌, ◌<◌}
use mathlib.Core.List.{List, ◌++◌, append_assoc}
use mathlib.Core.Path.{◌≡◌, refl, ap, ◌∙◌}
use lib.ListN.{length, replicate}
use Rattle.le.specs.Field.{u32}
use Rattle.position.specs.State.{State}
use Rattle.position.specs.declared.Record.{Record}
use Rattle.position.specs.declared.Hold.{Hold}
use Rattle.book.specs.Layout.{head_bytes, holds_bytes, records_bytes, encode, head_of}
use Rattle.book.proofs.Fits.{HeadIn}
use Rattle.book.proofs.Back.{head_back, holds_back, records_back}

-- header, holds, n zeros, records, m zeros
abbrev pub book : List ℕ → List Hold → ℕ → List Record → ℕ → List ℕ
book hd os n rs m = hd ++ holds_bytes os ++ replicate n 0 ++ records_bytes rs ++ replicate m 0

-- what is behind the holds
abbrev pub behind : ℕ → List Record → ℕ → List ℕ
behind n rs m = replicate n 0 ++ (records_bytes rs ++ replicate m 0)

pub by_holds : (hd : List ℕ) (os : List Hold) (n : ℕ) (rs : List Record) (m : ℕ) → book hd os n rs m ≡ hd ++ holds_bytes os ++ behind n rs m
by_holds hd os n rs m =
    append_assoc (hd ++ holds_bytes os ++ replicate n 0) (records_bytes rs) (replicate m 0)
    ∙ append_assoc (hd ++ holds_bytes os) (replicate n 0) (records_bytes rs ++ replicate m 0)

pub by_head : (hd : List ℕ) (os : List Hold) (n : ℕ) (rs : List Record) (m : ℕ) → book hd os n rs m ≡ hd ++ (holds_bytes os ++ behind n rs m)
by_head hd os n rs m = by_holds hd os n rs m ∙ append_assoc hd (holds_bytes os) (behind n rs m)

module _ (c : ℕ) (st : State) where
  abbrev pub header : List ℕ
  header = head_bytes c (length st.holds) (length st.records) st.head

  abbrev pub holds_left : ℕ
  holds_left = 32 * (c - length st.holds)

  abbrev pub records_left : ℕ
  records_left = 32 * (c - length st.records)

  pub encode-is : encode c st ≡ book header st.holds holds_left st.records records_left
  unfolding encode
  encode-is = refl

  -- behind the header
  pub rest : List ℕ
  rest = holds_bytes st.holds ++ behind holds_left st.records records_left

  pub from-head : encode c st ≡ header ++ rest
  unfolding rest
  from-head = encode-is ∙ by_head header st.holds holds_left st.records records_left

  pub holds-count : length st.holds < 2 ^ 32 → u32 (encode c st) 0 ≡ length st.holds
  holds-count k = ap (λ (l : List ℕ). u32 l 0) from-head ∙ holds_back c (length st.holds) (length st.records) st.head rest k

  pub records-count : length st.records < 2 ^ 32 → u32 (encode c st) 4 ≡ length st.records
  records-count k = ap (λ (l : List ℕ). u32 l 4) from-head ∙ records_back c (length st.holds) (length st.records) st.head rest k

  pub head_read : HeadIn st.head → head_of (encode c st) ≡ st.head
  head_read h = ap head_of from-head ∙ head_back c (length st.holds) (length st.records) st.head rest h
