-- The loops that write rows: of events, of clauses, of words. Assumes nothing.
use Prim.Native.Nat.{ℕ, ◌+◌, ◌-◌, ◌*◌, ◌<◌, ◌≤◌}
use native.Mathlib.Nat.{mul-suc, mul-le-mul_left}
use native.Mathlib.Numerals.{add-one}
use native.Mathlib.Omega.{arith}
use mathlib.Core.Path.{◌≡◌, refl, sym, ◌∙◌, subst}
use mathlib.Core.List.{List, flat_map}
use lib.ListN.{length, get_or, take, drop, length-drop}
use lib.Seq.{take_all}
use Rattle.list.specs.Numbered.{numbered}
use Rattle.text.specs.Read.{Put}
use Rattle.text.proofs.Put.{put-none, put-put}
use Rattle.sheet.specs.Places.{event_numbers, clause_numbers}
use Rattle.table.specs.Layout.{event_length, clause_length, word_length}
use Rattle.table.specs.declared.EventRow.{EventRow}
use Rattle.table.specs.declared.ClauseRow.{ClauseRow}
use Rattle.table.specs.declared.WordRow.{WordRow}
use Rattle.table_layout.specs.Build.{event_bytes, clause_bytes, word_bytes, row_bytes}
use Rattle.table_layout.proofs.Rows.{row_bytes-next}
use Rattle.table_parts.specs.Draft.{event_row_of, clause_row_of, word_row, clause_row, event_row, names_length}
use Rattle.table_write_rows.specs.Rows.{PutOf, EventsFit, ClausesFit, WordsFit, WordFit}

-- i of n rows of w bytes each were written from `at` on, up to p
pub record Rowing {X : Type 0} (enc : X → List ℕ) (w : ℕ) (f : ℕ → X) (n : ℕ) (l : List ℕ) (at : ℕ) (m : List ℕ) (i p : ℕ) : Type 0 where
  pub le : i ≤ n
  pub room : at + w * n ≤ length l
  pub put : Put l m at (row_bytes enc (numbered f i)) p
  pub here : p ≡ at + w * i

pub rowing_first : {X : Type 0} (enc : X → List ℕ) (w : ℕ) (f : ℕ → X) (n : ℕ) (l : List ℕ) (at : ℕ) → at + w * n ≤ length l → Rowing enc w f n l at l 0 at
unfolding numbered flat_map
rowing_first enc w f n l at h = record { le = omega arith; room = h; put = put-none l at (omega arith); here = omega arith }

module _ {X : Type 0} {enc : X → List ℕ} {w : ℕ} {f : ℕ → X} {n : ℕ} {l : List ℕ} {at : ℕ} {m : List ℕ} {i p : ℕ} (r : Rowing enc w f n l at m i p) where
  pub rowing_more : {z : List ℕ} {q : ℕ} → i < n → PutOf w m z p (enc (f i)) q → Rowing enc w f n l at z (i + 1) q
  rowing_more {z} {q} h k = rw add-one (record {
    le = h;
    room = r.room;
    put = subst (λ (t : List ℕ). Put l z at t q) (sym (row_bytes-next enc f i)) (put-put r.put k.put);
    here = rw (mul-suc w i) (omega (arith, k.near, r.here));
  })

  pub rowing_last : n ≤ i → PutOf (w * n) l m at (row_bytes enc (numbered f n)) p
  rowing_last h =
      let e : i ≡ n = omega arith in
      subst (λ (j : ℕ). PutOf (w * j) l m at (row_bytes enc (numbered f j)) p) e (record { put = r.put; near = r.here })

-- ---- a list from b on, as it is lent

abbrev pub from : ℕ → List ℕ → List ℕ
from b l = take (length l - b) (drop b l)

pub lent : (b : ℕ) (l : List ℕ) → from b l ≡ drop b l
lent b l = take_all (length l - b) (drop b l) (omega (arith, length-drop b l))

-- row i of n has its w numbers there
pub lent_room : (w n i : ℕ) (l : List ℕ) → w * n ≤ length l → i < n → w ≤ length (from (w * i) l)
lent_room w n i l h k = rw (lent (w * i) l, length-drop (w * i) l) (omega (arith, h, mul-suc w i, mul-le-mul_left w k))

-- ---- the rows of events

-- i of n events were written, whose names are so long together
pub record Eventing (es : List ℕ) (n : ℕ) (l : List ℕ) (at : ℕ) (m : List ℕ) (i p names : ℕ) : Type 0 where
  pub fit : EventsFit es n
  pub rows : Rowing event_bytes event_length (event_row es) n l at m i p
  pub sum : names ≡ names_length es i

pub eventing_first : {es : List ℕ} {n : ℕ} → EventsFit es n → (l : List ℕ) (at : ℕ) → at + event_length * n ≤ length l → Eventing es n l at l 0 at 0
unfolding names_length
eventing_first {es} {n} f l at h = record { fit = f; rows = rowing_first event_bytes event_length (event_row es) n l at h; sum = refl }

module _ {es : List ℕ} {n : ℕ} {l : List ℕ} {at : ℕ} {m : List ℕ} {i p names : ℕ} (x : Eventing es n l at m i p names) where
  -- as the code makes it
  abbrev row : EventRow
  row = event_row_of (from (event_numbers * i) es) names

  row_is : row ≡ event_row es i
  unfolding event_row
  row_is = rw (lent (event_numbers * i) es, x.sum)

  pub eventing_room : i < n → event_numbers ≤ length (from (event_numbers * i) es)
  eventing_room h = lent_room event_numbers n i es x.fit.room h

  pub eventing_near : i < n → names < 65536
  eventing_near h = rw x.sum (x.fit.near i h)

  pub eventing_more : {e : EventRow} {z : List ℕ} {q : ℕ} → i < n → e ≡ row → PutOf event_length m z p (event_bytes e) q → Eventing es n l at z (i + 1) q (names + e.len)
  unfolding event_row names_length
  eventing_more {e} {z} {q} h k w =
      let g : e ≡ event_row es i = k ∙ row_is in
      record {
        fit = x.fit;
        rows = rowing_more x.rows h (subst (λ (r : EventRow). PutOf event_length m z p (event_bytes r) q) g w);
        sum = rw (add-one, g, x.sum);
      }

-- ---- the rows of clauses

-- i of n clauses were written
pub record Clausing (cs numbers codes : List ℕ) (n : ℕ) (l : List ℕ) (at : ℕ) (m : List ℕ) (i p : ℕ) : Type 0 where
  pub fit : ClausesFit cs numbers codes n
  pub rows : Rowing clause_bytes clause_length (clause_row cs numbers codes) n l at m i p

pub clausing_first : {cs numbers codes : List ℕ} {n : ℕ} → ClausesFit cs numbers codes n → (l : List ℕ) (at : ℕ) → at + clause_length * n ≤ length l
    → Clausing cs numbers codes n l at l 0 at
clausing_first {cs} {numbers} {codes} {n} f l at h = record { fit = f; rows = rowing_first clause_bytes clause_length (clause_row cs numbers codes) n l at h }

module _ {cs numbers codes : List ℕ} {n : ℕ} {l : List ℕ} {at : ℕ} {m : List ℕ} {i p : ℕ} (x : Clausing cs numbers codes n l at m i p) where
  -- as the code makes it
  abbrev made : ClauseRow
  made = clause_row_of (from (clause_numbers * i) cs) (get_or numbers i 0) (from (3 * i) codes)

  made_is : made ≡ clause_row cs numbers codes i
  unfolding clause_row
  made_is = rw (lent (clause_numbers * i) cs, lent (3 * i) codes)

  pub clausing_room : i < n → clause_numbers ≤ length (from (clause_numbers * i) cs)
  clausing_room h = lent_room clause_numbers n i cs x.fit.room h

  pub clausing_codes : i < n → 3 ≤ length (from (3 * i) codes)
  clausing_codes h = lent_room 3 n i codes x.fit.values h

  pub clausing_more : {c : ClauseRow} {z : List ℕ} {q : ℕ} → i < n → c ≡ made → PutOf clause_length m z p (clause_bytes c) q
      → Clausing cs numbers codes n l at z (i + 1) q
  clausing_more {c} {z} {q} h k w = record {
    fit = x.fit;
    rows = rowing_more x.rows h (subst (λ (r : ClauseRow). PutOf clause_length m z p (clause_bytes r) q) (k ∙ made_is) w);
  }

-- ---- the rows of words

-- i of n words were written
pub record Wording (starts orders ranks : List ℕ) (n : ℕ) (l : List ℕ) (at : ℕ) (m : List ℕ) (i p : ℕ) : Type 0 where
  pub fit : WordsFit starts orders ranks n
  pub rows : Rowing word_bytes word_length (word_row starts orders ranks) n l at m i p

pub wording_first : {starts orders ranks : List ℕ} {n : ℕ} → WordsFit starts orders ranks n → (l : List ℕ) (at : ℕ) → at + word_length * n ≤ length l
    → Wording starts orders ranks n l at l 0 at
wording_first {starts} {orders} {ranks} {n} f l at h = record { fit = f; rows = rowing_first word_bytes word_length (word_row starts orders ranks) n l at h }

module _ {starts orders ranks : List ℕ} {n : ℕ} {l : List ℕ} {at : ℕ} {m : List ℕ} {i p : ℕ} (x : Wording starts orders ranks n l at m i p) where
  pub wording_fit : i < n → WordFit starts orders ranks i
  wording_fit h = record {
    starts-room = omega (arith, x.fit.starts-room);
    orders-room = omega (arith, x.fit.orders-room);
    ranks-room = omega (arith, x.fit.ranks-room);
    rising = x.fit.rising i h;
  }

  pub wording_more : {w : WordRow} {z : List ℕ} {q : ℕ} → i < n → w ≡ word_row starts orders ranks i → PutOf word_length m z p (word_bytes w) q
      → Wording starts orders ranks n l at z (i + 1) q
  wording_more {w} {z} {q} h k v = record {
    fit = x.fit;
    rows = rowing_more x.rows h (subst (λ (r : WordRow). PutOf word_length m z p (word_bytes r) q) k v);
  }
