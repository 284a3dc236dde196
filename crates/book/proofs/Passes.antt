-- The book of a sound state, with room for it, passes the header check and the full check. Assumes nothing.
use Prim.Native.Nat.{ℕ, ◌-◌, ◌^◌, ◌≤◌, ◌<◌}
use native.Mathlib.Omega.{arith}
use mathlib.Core.Bool.{true, ◌||◌}
use mathlib.Core.List.{List, []}
use mathlib.Core.Logic.{◌⊎◌, inl, inr}
use mathlib.Core.Path.{◌≡◌, refl, sym, ap, ◌∙◌, subst}
use lib.Dec.{ltb, eqb, eqb-suc-zero}
use lib.ListN.{length}
use Rattle.le.specs.Le.{part}
use Rattle.le.specs.Field.{u8, u32}
use Rattle.le.proofs.Places.{part_mid}
use Rattle.text.specs.Conditions.{every}
use Rattle.text.proofs.Conditions.{none_left, ◌also◌, sure, every_sure}
use Rattle.text.proofs.Same.{same_refl}
use Rattle.sheet.specs.Sheet.{Sheet}
use Rattle.position.specs.State.{State, fresh_head, fresh_state}
use Rattle.position_laws.proofs.Sound.{HoldOk, Ends, Sound}
use Rattle.book.specs.Layout.{bar_limit, head_bytes, hold_bytes, record_bytes, encode, hold_place}
use Rattle.book.specs.Check.{hold_ok, record_ok, counts_ok, last_ok, used_ok, header_ok, rising, full_ok}
use Rattle.book.proofs.Fits.{HeadIn}
use Rattle.book.proofs.Back.{holds_back}
use Rattle.book.proofs.Items.{forall_last}
use Rattle.book.proofs.Lengths.{head-length}
use Rattle.book.proofs.Last.{last-count, last_slot_lem}
use Rattle.book.proofs.Parts.{rest, from-head}
use Rattle.book.proofs.Slots.{hold_slots_lem, record_slots_lem}
use Rattle.book.proofs.Ranges.{head_in}
use Rattle.book.proofs.Entries.{hold_passes, record_passes, holds-rise, records-rise}
use Rattle.book.proofs.Header.{counts_pass, last_passes, used_passes, named_passes}

-- the sheet has no more events than a table can hold, and the state no more holds than a book of c bars
pub record Room (s : Sheet) (c : ℕ) (st : State) : Type 0 where
  pub events : length s.events ≤ 32
  pub least : 1 ≤ c
  pub most : c ≤ bar_limit
  pub holds : length st.holds ≤ c

-- ---- the header check

fresh_passes : (c : ℕ) → c ≤ bar_limit → header_ok c (encode c fresh_state) ≡ true
unfolding header_ok fresh_state
fresh_passes c most =
    let q = rest c fresh_state in
    rw (
      from-head c fresh_state,
      counts_pass c 0 0 fresh_head q most (omega arith) (omega arith),
      holds_back c 0 0 fresh_head q (omega arith),
      part_mid [] (head_bytes c 0 0 fresh_head) q 0 96 refl (head-length c 0 0 fresh_head),
    )
    (same_refl (head_bytes c 0 0 fresh_head))

module _ (s : Sheet) (c : ℕ) (st : State) (sound : Sound s st) (room : Room s c st) where
  abbrev hs : ℕ
  hs = length st.holds

  abbrev rs : ℕ
  rs = length st.records

  pub head_fits : HeadIn st.head
  head_fits = head_in s st.head room.events sound.head

  pub holds-small : length st.holds < 2 ^ 32
  holds-small = omega (arith, room.holds, room.most)

  pub records-small : length st.records < 2 ^ 32
  records-small = omega (arith, holds-small, sound.few)

  module _ (ends : Ends st) where
    last_is_ok : HoldOk ends.last
    last_is_ok = forall_last HoldOk st.holds ends.front ends.last ends.whole sound.holds

    last-fine : last_ok (encode c st) (part (encode c st) (hold_place (u32 (encode c st) 0 - 1)) 32) ≡ true
    last-fine =
        ap (λ (o : List ℕ). last_ok (encode c st) o) (last_slot_lem c st holds-small ends.front ends.last ends.whole)
        ∙ rw (from-head c st) (last_passes c hs rs st.head (rest c st) ends.last last_is_ok ends.time ends.pos ends.n1b)

    used-fine : used_ok (encode c st) ≡ true
    used-fine =
        rw (from-head c st)
        (used_passes c hs rs st.head (rest c st) s head_fits sound.head
        (subst (λ (b : List ℕ). last_ok b (part b (hold_place (u32 b 0 - 1)) 32) ≡ true) (from-head c st) last-fine))

    ended_passes : header_ok c (encode c st) ≡ true
    unfolding header_ok
    ended_passes =
        let counts : counts_ok c (encode c st) ≡ true = rw (from-head c st) (counts_pass c hs rs st.head (rest c st) room.most sound.few room.holds) in
        rw (counts, last-count c st holds-small ends.front ends.last ends.whole, eqb-suc-zero (length ends.front)) used-fine

  pub header_passes : header_ok c (encode c st) ≡ true
  header_passes = go sound.ends
    where
      go : (st ≡ fresh_state) ⊎ Ends st → header_ok c (encode c st) ≡ true
      go (inl e) = subst (λ (x : State). header_ok c (encode c x) ≡ true) (sym e) (fresh_passes c room.most)
      go (inr e) = ended_passes e

  -- ---- the full check

  named : (eqb (u8 (encode c st) 28) 0 || ltb (u32 (encode c st) 84) (length s.events)) ≡ true
  named = rw (from-head c st) (named_passes c hs rs st.head (rest c st) s head_fits sound.head)

  pub full_passes : full_ok (length s.events) c (encode c st) ≡ true
  unfolding full_ok
  full_passes =
      let n = length s.events in
      let os = hold_slots_lem c st holds-small in
      let qs = record_slots_lem c st room.holds records-small in
      sure
      (header_passes
      also named
      also ap (every hold_ok) os ∙ every_sure hold_ok hold_bytes hold_passes st.holds sound.holds
      also ap rising os ∙ holds-rise st.holds sound.holds sound.holds_rise
      also ap (every (record_ok n)) qs ∙ every_sure (record_ok n) record_bytes (λ r. record_passes s r room.events) st.records sound.records
      also ap rising qs ∙ records-rise s st.records room.events sound.records sound.records_rise
      also none_left)
