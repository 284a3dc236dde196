-- The loops that add up and write the names of events. Assumes nothing.
use Prim.Native.Nat.{ℕ, suc, ◌+◌, ◌-◌, ◌*◌, ◌<◌, ◌≤◌}
use native.Mathlib.Numerals.{add-one}
use native.Mathlib.Omega.{arith}
use mathlib.Core.Path.{◌≡◌, refl, sym, ◌∙◌, subst}
use mathlib.Core.List.{List}
use lib.ListN.{length, get_or, take, drop}
use lib.Seq.{slice, get_or-drop}
use Rattle.le.specs.Le.{part}
use Rattle.text.specs.Read.{Put}
use Rattle.text.proofs.Laws.{part-size}
use Rattle.text.proofs.Put.{put-none, put-put}
use Rattle.sheet.specs.Places.{event_numbers}
use Rattle.table.specs.Layout.{table_length}
use Rattle.table_parts.specs.Draft.{names_at, names_length}
use Rattle.table_parts.proofs.Rows.{sum-end}
use Rattle.table_write_rows.specs.Rows.{PutOf}
use Rattle.table_write.specs.Fits.{NamesFit}
use Rattle.table_write_rows.proofs.Rows.{from, lent, lent_room}

names-next : (es : List ℕ) (i : ℕ) → names_length es (suc i) ≡ names_length es i + get_or (drop (event_numbers * i) es) 3 0
unfolding names_length
names-next es i = refl

-- one more is not past the end
names-end : (es : List ℕ) (n i : ℕ) → i < n → names_length es i + get_or (drop (event_numbers * i) es) 3 0 ≤ names_length es n
names-end es n = sum-end (names_length es) (λ (i : ℕ). get_or (drop (event_numbers * i) es) 3 0) n (λ i h. names-next es i)

-- the sum of the first i of n
pub record Summing (es : List ℕ) (n sum i : ℕ) : Type 0 where
  pub le : i ≤ n
  pub room : event_numbers * n ≤ length es
  pub high : names_length es n ≤ table_length
  pub is : sum ≡ names_length es i

pub summing_first : (es : List ℕ) (n : ℕ) → event_numbers * n ≤ length es → names_length es n ≤ table_length → Summing es n 0 0
unfolding names_length
summing_first es n h k = record { le = omega arith; room = h; high = k; is = refl }

module _ {es : List ℕ} {n sum i : ℕ} (x : Summing es n sum i) (h : i < n) where
  here : get_or (drop (event_numbers * i) es) 3 0 ≡ get_or es (event_numbers * i + 3) 0
  here = get_or-drop (event_numbers * i) es 3 0

  pub summing_low : sum + get_or es (event_numbers * i + 3) 0 ≤ table_length
  summing_low = omega (arith, here, x.is, names-end es n i h, x.high)

  pub summing_more : Summing es n (sum + get_or es (event_numbers * i + 3) 0) (i + 1)
  summing_more = rw add-one (record { le = h; room = x.room; high = x.high; is = omega (arith, here, x.is, names-next es i) })

pub summing_last : {es : List ℕ} {n sum i : ℕ} → Summing es n sum i → n ≤ i → sum ≡ names_length es n
summing_last {es} {n} {sum} {i} x h =
    let e : i ≡ n = omega arith in
    subst (λ (j : ℕ). sum ≡ names_length es j) e x.is

-- a name by its start and its length
pub name-put : (s : List ℕ) (a n : ℕ) {l m : List ℕ} {at r : ℕ} → PutOf (a + n - a) l m at (slice a (a + n) s) r → PutOf n l m at (part s a n) r
unfolding part
name-put s a n {l} {m} {at} {r} w =
    let e : a + n - a ≡ n = omega arith in
    let t : slice a (a + n) s ≡ take n (drop a s) = sym (part-size a (a + n) s (omega arith)) ∙ rw e in
    rw (e, t) at w

-- the names of i of n events were written
pub record Naming (s es : List ℕ) (n : ℕ) (l : List ℕ) (at : ℕ) (m : List ℕ) (i p : ℕ) : Type 0 where
  pub le : i ≤ n
  pub fit : NamesFit s es n
  pub room : at + names_length es n ≤ length l
  pub put : Put l m at (names_at s es i) p
  pub here : p ≡ at + names_length es i

pub naming_first : {s es : List ℕ} {n : ℕ} → NamesFit s es n → (l : List ℕ) (at : ℕ) → at + names_length es n ≤ length l → Naming s es n l at l 0 at
unfolding names_at names_length
naming_first f l at h = record { le = omega arith; fit = f; room = h; put = put-none l at (omega arith); here = omega arith }

module _ {s es : List ℕ} {n : ℕ} {l : List ℕ} {at : ℕ} {m : List ℕ} {i p : ℕ} (x : Naming s es n l at m i p) where
  abbrev named : List ℕ
  named = from (event_numbers * i) es

  pub naming_numbers : i < n → event_numbers ≤ length named
  naming_numbers h = lent_room event_numbers n i es x.fit.room h

  pub naming_within : i < n → get_or named 2 0 + get_or named 3 0 ≤ length s
  naming_within h = rw (lent (event_numbers * i) es) (x.fit.each i h)

  pub naming_room : i < n → p + get_or named 3 0 ≤ length m
  naming_room h = rw (lent (event_numbers * i) es) (omega (arith, x.here, x.put.kept, x.room, names-end es n i h))

  pub naming_more : {z : List ℕ} {q : ℕ} → i < n → PutOf (get_or named 3 0) m z p (part s (get_or named 2 0) (get_or named 3 0)) q → Naming s es n l at z (i + 1) q
  unfolding names_at
  naming_more {z} {q} h w =
      let d = drop (event_numbers * i) es in
      let v : PutOf (get_or d 3 0) m z p (part s (get_or d 2 0) (get_or d 3 0)) q = rw (lent (event_numbers * i) es) at w in
      rw add-one (record { le = h; fit = x.fit; room = x.room; put = put-put x.put v.put; here = omega (arith, v.near, x.here, names-next es i) })

  pub naming_last : n ≤ i → PutOf (names_length es n) l m at (names_at s es n) p
  naming_last h =
      let e : i ≡ n = omega arith in
      subst (λ (j : ℕ). PutOf (names_length es j) l m at (names_at s es j) p) e (record { put = x.put; near = x.here })
