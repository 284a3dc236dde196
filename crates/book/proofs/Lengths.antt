-- How long the bytes of a book and of its parts are, and which capacity a book's length gives. Assumes nothing.
use Rattle.std.proofs.lemmas.Option.{same_Some, none-some}
use Prim.Native.Nat.{ℕ, ◌+◌, ◌-◌, ◌*◌, ◌/◌, ◌≤◌}
use native.Mathlib.Omega.{arith}
use mathlib.Core.Bool.{Bool, true, false, cond, ◌&&◌}
use mathlib.Core.List.{List, ◌++◌, flat_map}
use Rattle.std.specs.Prelude.{None, Some, Option, Float}
use mathlib.Core.Path.{◌≡◌, refl, subst}
use lib.Dec.{leb, eqb}
use lib.ListN.{length, replicate, length-append, length-replicate}
use borrow.Author.Tests.{le-leb, leb-true, eq-eqb, eqb-true}
use Rattle.double.specs.declared.Yield.{Yield}
use Rattle.double.specs.declared.Yield.TheVariants.{Absent, Bp}
use Rattle.position.specs.declared.LastEvent.{LastEvent}
use Rattle.le.specs.Le.{le_bytes}
use Rattle.position.specs.State.{State}
use Rattle.position.specs.declared.Head.{Head}
use Rattle.position.specs.declared.Record.{Record}
use Rattle.position.specs.declared.Hold.{Hold}
use Rattle.book.specs.Layout.{bar_limit, capacity, reference_bytes, head_bytes, yield_bytes, hold_bytes, record_bytes, holds_bytes, records_bytes, encode, record_place}
use Rattle.book.proofs.Items.{Written, items_length}

-- ---- the parts

reference-length : (r : Option LastEvent) → length (reference_bytes r) ≡ 28
unfolding le_bytes
reference-length None = refl
reference-length (Some r) = refl

pub head-length : (c hs rs : ℕ) (h : Head) → length (head_bytes c hs rs h) ≡ 96
unfolding head_bytes le_bytes
head-length c hs rs h = omega (arith, reference-length h.reference)

pub yield-length : (y : Yield) → length (yield_bytes y) ≡ 8
unfolding le_bytes
yield-length Absent = refl
yield-length (Bp x) = refl

pub hold_length : (o : Hold) → length (hold_bytes o) ≡ 32
unfolding hold_bytes le_bytes
hold_length o = omega (arith, yield-length o.n1b)

pub record_length : (r : Record) → length (record_bytes r) ≡ 32
unfolding record_bytes le_bytes
record_length r = refl

pub holds-written : Written hold_bytes holds_bytes
unfolding holds_bytes flat_map
holds-written = record { none = refl; more = λ o os. refl; long = hold_length }

pub records-written : Written record_bytes records_bytes
unfolding records_bytes flat_map
records-written = record { none = refl; more = λ r rs. refl; long = record_length }

pub holds-length : (os : List Hold) → length (holds_bytes os) ≡ 32 * length os
holds-length os = items_length holds-written os

pub records-length : (rs : List Record) → length (records_bytes rs) ≡ 32 * length rs
records-length rs = items_length records-written rs

-- ---- the book

-- the header and all C places for holds
pub front_length : (hd : List ℕ) (os : List Hold) (n c : ℕ) → length hd ≡ 96 → 32 * length os + n ≡ 32 * c
    → length (hd ++ holds_bytes os ++ replicate n 0) ≡ record_place c 0
front_length hd os n c e f =
    omega (arith, length-append (hd ++ holds_bytes os) (replicate n 0), length-append hd (holds_bytes os), holds-length os, length-replicate {A = ℕ} n 0)

pub length-encode : (c : ℕ) (st : State) → length st.holds ≤ c → length st.records ≤ c → length (encode c st) ≡ 96 + 64 * c
unfolding encode
length-encode c st h k =
    let hd = head_bytes c (length st.holds) (length st.records) st.head in
    let n = 32 * (c - length st.holds) in
    let m = 32 * (c - length st.records) in
    let p = hd ++ holds_bytes st.holds ++ replicate n 0 in
    omega (
      arith,
      length-append (p ++ records_bytes st.records) (replicate m 0),
      length-append p (records_bytes st.records),
      front_length hd st.holds n c (head-length c (length st.holds) (length st.records) st.head) (omega arith),
      records-length st.records,
      length-replicate {A = ℕ} m 0,
    )

-- ---- capacity

pub capacity_by : (b : List ℕ) (c : ℕ) → length b ≡ 96 + 64 * c → 1 ≤ c → c ≤ bar_limit → capacity b ≡ Some c
unfolding capacity
capacity_by b c e l h = rw (e, back, eq-eqb (96 + 64 * c) (96 + 64 * c) refl, le-leb 1 c l, le-leb c bar_limit h) refl
  where
    back : (96 + 64 * c - 96) / 64 ≡ c
    back = omega arith

pub capacity-is : (c : ℕ) (st : State) → length st.holds ≤ c → length st.records ≤ c → 1 ≤ c → c ≤ bar_limit → capacity (encode c st) ≡ Some c
capacity-is c st h k l t = capacity_by (encode c st) c (length-encode c st h k) l t

-- and what a book's capacity says of its length
pub capacity_range : (b : List ℕ) (c : ℕ) → capacity b ≡ Some c → (length b ≡ 96 + 64 * c) × (1 ≤ c) × (c ≤ bar_limit)
unfolding capacity
capacity_range b c e = go (eqb (length b) (96 + 64 * k)) (leb 1 k) (leb k bar_limit) refl refl refl e
  where
    k : ℕ
    k = (length b - 96) / 64

    go : (t u v : Bool) → eqb (length b) (96 + 64 * k) ≡ t → leb 1 k ≡ u → leb k bar_limit ≡ v → cond (t && u && v) (Some k) None ≡ Some c
        → (length b ≡ 96 + 64 * c) × (1 ≤ c) × (c ≤ bar_limit)
    go true true true p q r e =
        subst (λ (x : ℕ). (length b ≡ 96 + 64 * x) × (1 ≤ x) × (x ≤ bar_limit)) (same_Some k c e)
        (eqb-true (length b) (96 + 64 * k) p, leb-true 1 k q, leb-true k bar_limit r)
    go true true false p q r e = absurd (none-some c e)
    go true false v p q r e = absurd (none-some c e)
    go false u v p q r e = absurd (none-some c e)
