-- The last hold of a book: its slot, and the open lots that a feed finds there. Assumes nothing.
use Prim.Native.Nat.{ℕ, suc, ◌+◌, ◌-◌, ◌*◌, ◌^◌, ◌<◌}
use native.Mathlib.Omega.{arith}
use mathlib.Core.List.{List, [], ◌∷◌, ◌++◌}
use mathlib.Core.Path.{◌≡◌, refl, sym, ap, ◌∙◌}
use mathlib.Mathlib.Data.List.Defs.{Forall}
use lib.Dec.{eqb-suc-zero}
use lib.ListN.{length, length-append}
use Rattle.le.specs.Le.{part}
use Rattle.le.specs.Field.{u32}
use Rattle.position.specs.State.{State}
use Rattle.position.specs.Step.{open_lots}
use Rattle.position.specs.declared.Hold.{Hold}
use Rattle.position_laws.proofs.Reach.{last-lots}
use Rattle.book.specs.Layout.{hold_bytes, holds_bytes, encode, hold_place}
use Rattle.book.specs.Calls.{open_lots_in}
use Rattle.book.proofs.Fits.{HoldIn}
use Rattle.book.proofs.Back.{hold_back}
use Rattle.book.proofs.Items.{items_last, item_at, forall_last}
use Rattle.book.proofs.Lengths.{head-length, holds-written}
use Rattle.book.proofs.Parts.{behind, by_holds, header, holds_left, records_left, encode-is, holds-count}

-- a list by its last hold
pub record Last (os : List Hold) : Type 0 where
  pub front : List Hold
  pub last : Hold
  pub whole : os ≡ front ++ last ∷ []

pub last_of : (o : Hold) (os : List Hold) → Last (o ∷ os)
last_of o [] = record { front = []; last = o; whole = refl }
last_of o (p ∷ os) =
    let r = last_of p os in
    record { front = o ∷ r.front; last = r.last; whole = ap (λ (l : List Hold). o ∷ l) r.whole }

module _ (c : ℕ) (st : State) (small : length st.holds < 2 ^ 32) where
  module _ (front : List Hold) (last : Hold) (whole : st.holds ≡ front ++ last ∷ []) where
    pub last-count : u32 (encode c st) 0 ≡ suc (length front)
    last-count = holds-count c st small ∙ ap (λ (os : List Hold). length os) whole ∙ omega (arith, length-append front (last ∷ []))

    pub last_slot_lem : part (encode c st) (hold_place (u32 (encode c st) 0 - 1)) 32 ≡ hold_bytes last
    last_slot_lem =
        let hd = header c st in
        let q = behind (holds_left c st) st.records (records_left c st) in
        let n = length front in
        let less : suc n - 1 ≡ n = omega arith in
        let place : length hd + 32 * n ≡ hold_place n = omega (arith, head-length c (length st.holds) (length st.records) st.head) in
        let is : encode c st ≡ hd ++ holds_bytes front ++ (hold_bytes last ++ q) =
        encode-is c st ∙ by_holds hd st.holds (holds_left c st) st.records (records_left c st)
        ∙ ap (λ (os : List Hold). hd ++ holds_bytes os ++ q) whole ∙ items_last holds-written hd front last q
        in
        rw (last-count, less, is) (item_at holds-written hd front (hold_place n) place last q)

    last-read : HoldIn last → open_lots_in (encode c st) ≡ last.lots
    unfolding open_lots_in
    last-read fits = rw (last_slot_lem, last-count, eqb-suc-zero (length front), hold_back last fits)

  pub lots-read : Forall HoldIn st.holds → open_lots_in (encode c st) ≡ open_lots st.holds
  unfolding open_lots_in open_lots
  lots-read fits = go st.holds refl
    where
      go : (os : List Hold) → st.holds ≡ os → open_lots_in (encode c st) ≡ open_lots os
      go [] e = rw (holds-count c st small ∙ ap (λ (os : List Hold). length os) e)
      go (o ∷ os) e =
          let r = last_of o os in
          let whole = e ∙ r.whole in
          last-read r.front r.last whole (forall_last HoldIn st.holds r.front r.last whole fits)
          ∙ sym (ap open_lots r.whole ∙ last-lots r.front r.last)
