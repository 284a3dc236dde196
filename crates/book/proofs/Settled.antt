-- The last hold of a book, settled in its place. Assumes nothing.
use Prim.Native.Nat.{ℕ, suc, ◌+◌, ◌-◌, ◌*◌}
use native.Mathlib.Omega.{arith}
use mathlib.Core.List.{List, [], ◌∷◌, ◌++◌}
use mathlib.Core.Path.{◌≡◌, refl, ap, ◌∙◌, subst}
use mathlib.Mathlib.Data.List.Defs.{Forall}
use lib.Dec.{eqb-suc-zero}
use lib.ListN.{length, length-append}
use Rattle.le.specs.Field.{u32}
use Rattle.bar.specs.declared.Bar.{Bar}
use Rattle.position.specs.Step.{settle, settle_last}
use Rattle.position.specs.declared.Hold.{Hold}
use Rattle.book.specs.Layout.{hold_bytes, holds_bytes, hold_place}
use Rattle.book.specs.Calls.{settled}
use Rattle.book.proofs.Fits.{HoldIn}
use Rattle.book.proofs.Back.{hold_back}
use Rattle.book.proofs.Items.{items_one, items_last, item_at, items_put, forall_last}
use Rattle.book.proofs.Lengths.{hold_length, holds-written}
use Rattle.book.proofs.Last.{Last, last_of}

settle-last : (bar : Bar) (os : List Hold) (o : Hold) → settle_last bar (os ++ o ∷ []) ≡ os ++ settle bar o ∷ []
unfolding settle_last
settle-last bar [] o = refl
settle-last bar (p ∷ []) o = refl
settle-last bar (p ∷ q ∷ os) o = ap (λ (l : List Hold). p ∷ l) (settle-last bar (q ∷ os) o)

module _ (bar : Bar) (hd : List ℕ) (q : List ℕ) (long : length hd ≡ 96) where
  in_place : (os : List Hold) (o : Hold) → HoldIn o → u32 (hd ++ holds_bytes (os ++ o ∷ []) ++ q) 0 ≡ suc (length os)
      → settled bar (hd ++ holds_bytes (os ++ o ∷ []) ++ q) ≡ hd ++ holds_bytes (os ++ settle bar o ∷ []) ++ q
  unfolding settled
  in_place os o fits n =
      rw (
        n,
        eqb-suc-zero (length os),
        less,
        items_last holds-written hd os o q,
        item_at holds-written hd os (hold_place (length os)) place o q,
        hold_back o fits,
        ← items_one holds-written (settle bar o),
      )
      (items_put holds-written hd os (hold_place (length os)) place (settle bar o ∷ []) (hold_bytes o) q (hold_length o))
    where
      less : suc (length os) - 1 ≡ length os
      less = omega arith

      place : length hd + 32 * length os ≡ hold_place (length os)
      place = omega arith

  pub settled_is : (os : List Hold) → Forall HoldIn os → u32 (hd ++ holds_bytes os ++ q) 0 ≡ length os
      → settled bar (hd ++ holds_bytes os ++ q) ≡ hd ++ holds_bytes (settle_last bar os) ++ q
  unfolding settled settle_last
  settled_is [] fits n = rw n refl
  settled_is (o ∷ os) fits n = go (o ∷ os) (last_of o os) fits n
    where
      go : (os : List Hold) → Last os → Forall HoldIn os → u32 (hd ++ holds_bytes os ++ q) 0 ≡ length os
          → settled bar (hd ++ holds_bytes os ++ q) ≡ hd ++ holds_bytes (settle_last bar os) ++ q
      go os r fits n =
          let f = r.front in
          let o = r.last in
          let count : u32 (hd ++ holds_bytes (f ++ o ∷ []) ++ q) 0 ≡ suc (length f) =
          subst (λ (l : List Hold). u32 (hd ++ holds_bytes l ++ q) 0 ≡ length l) r.whole n ∙ omega (arith, length-append f (o ∷ []))
          in
          rw (ap (settle_last bar) r.whole ∙ settle-last bar f o) (ap (λ (l : List Hold). settled bar (hd ++ holds_bytes l ++ q)) r.whole ∙ in_place f o (forall_last HoldIn os f o r.whole fits) count)
