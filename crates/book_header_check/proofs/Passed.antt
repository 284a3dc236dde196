-- What a book that passed the header check has: its counts, opens in range, a reference and a last hold that can be written. Assumes nothing.
use Rattle.std.specs.Prelude.{None}
use Prim.Native.Nat.{ℕ, zero, suc, ◌-◌, ◌≤◌}
use native.Mathlib.Omega.{arith}
use mathlib.Core.Bool.{Bool, true, false, cond, and-eq-true_iff, false≢true}
use mathlib.Core.List.{List, ◌++◌}
use mathlib.Core.Logic.{◌≢◌}
use mathlib.Core.Path.{◌≡◌, refl, sym, ap, subst, ◌∙◌}
use lib.Dec.{eqb}
use lib.Ieee.Scale.{finite}
use lib.ListN.{drop, take-append-drop}
use borrow.Author.Tests.{leb-true, eqb-true, ne_eqb}
use Rattle.double.specs.declared.Yield.TheVariants.{Absent}
use Rattle.le.specs.Le.{part}
use Rattle.le.specs.Field.{u8, u32, f64}
use Rattle.text.specs.Text.{same}
use Rattle.text.proofs.Same.{same_eq}
use Rattle.text.proofs.Conditions.{fact}
use Rattle.position.specs.State.{no_time, fresh_head, open_in_range}
use Rattle.position.specs.declared.Head.{Head}
use Rattle.position.specs.declared.LastEvent.{LastEvent}
use Rattle.book.specs.Layout.{head_bytes, head_of, hold_of, hold_place, time_at, open_at, reference_at}
use Rattle.book.specs.Check.{counts_ok, open_ok, reference_ok, hold_ok, last_ok, used_ok, header_ok}
use Rattle.book.proofs.Fits.{TimeIn, HeadIn}
use Rattle.book.proofs.Back.{head_back}
use Rattle.book_header.specs.Size.{priced}
use Rattle.book_header_check.proofs.Presence.{present_asked, present_is}

-- what the head of a book has
pub record HeadPassed (h : Head) : Type 0 where
  pub long : open_in_range h.long ≡ true
  pub short : open_in_range h.short ≡ true
  pub reference : priced h.reference ≡ true

-- the last hold's slot
abbrev pub last_slot : List ℕ → List ℕ
last_slot b = part b (hold_place (u32 b 0 - 1)) 32

-- what the last hold in its slot o has
pub record LastPassed (o : List ℕ) : Type 0 where
  pub price : finite (f64 o 16) ≡ true
  pub n1b : (hold_of o).n1b ≡ Absent

pub record Passed (c : ℕ) (b : List ℕ) : Type 0 where
  pub holds : u32 b 0 ≤ c
  pub records : u32 b 4 ≤ u32 b 0
  pub bars : u32 b 8 ≡ c
  pub head : HeadPassed (head_of b)
  pub last : u32 b 0 ≢ 0 → LastPassed (last_slot b)

-- ---- a fresh header

fresh_in : HeadIn fresh_head
unfolding fresh_head
fresh_in =
    let t : TimeIn no_time = record { instant = omega arith; offset = omega arith } in
    record { end = t; long = tt; short = tt; reference = tt }

fresh-head : (c : ℕ) (b : List ℕ) → same (part b 0 96) (head_bytes c 0 0 fresh_head) ≡ true → head_of b ≡ fresh_head
unfolding part
fresh-head c b e =
    ap head_of (sym (take-append-drop 96 b) ∙ ap (λ (l : List ℕ). l ++ drop 96 b) (same_eq _ _ e)) ∙ head_back c 0 0 fresh_head (drop 96 b) fresh_in

fresh_passed : HeadPassed fresh_head
unfolding fresh_head
fresh_passed = record { long = refl; short = refl; reference = refl }

-- ---- a used one

open_passed : (b : List ℕ) (p at offset : ℕ) → open_ok b p at offset ≡ true → open_in_range (open_at p (time_at b at offset)) ≡ true
open_passed b zero at offset e = refl
open_passed b (suc zero) at offset e = ((and-eq-true_iff _ _).0 e).0
open_passed b (suc (suc n)) at offset e = absurd (false≢true e)

reference_passed : (b : List ℕ) (p : ℕ) (r : LastEvent) → r.bar.price ≡ f64 b 88 → reference_ok b p ≡ true → priced (reference_at p r) ≡ true
reference_passed b zero r k e = refl
reference_passed b (suc zero) r k e = ap finite k ∙ fact (present_asked b) (present_is b ∙ e) 4
reference_passed b (suc (suc n)) r k e = absurd (false≢true e)

module _ (b : List ℕ) (e : used_ok b ≡ true) where
  used_passed : HeadPassed (head_of b)
  unfolding used_ok head_of
  used_passed = record {
    long = open_passed b (u8 b 26) 48 44 (fact _ e 4);
    short = open_passed b (u8 b 27) 56 64 (fact _ e 5);
    reference = reference_passed b (u8 b 28) _ refl (fact _ e 6);
  }

  last-right : last_ok b (last_slot b) ≡ true
  unfolding used_ok
  last-right = fact _ e 7

last_passed : (b o : List ℕ) → last_ok b o ≡ true → LastPassed o
unfolding last_ok hold_ok hold_of
last_passed b o e = record {
  price = fact _ (fact _ e 0) 4;
  n1b = rw (eqb-true (u8 o 13) 0 (fact _ e 3));
}

-- ---- the header check

pub passed : (c : ℕ) (b : List ℕ) → header_ok c b ≡ true → Passed c b
unfolding header_ok counts_ok
passed c b e =
    let both = (and-eq-true_iff (counts_ok c b) _).0 e in
    record {
      holds = leb-true (u32 b 0) c (fact _ both.0 5);
      records = leb-true (u32 b 4) (u32 b 0) (fact _ both.0 4);
      bars = eqb-true (u32 b 8) c (fact _ both.0 0);
      head = head (eqb (u32 b 0) 0) both.1;
      last = λ h. last_passed b (last_slot b) (last-right b (rw (ne_eqb (u32 b 0) 0 h) at both.1));
    }
  where
    head : (t : Bool) → cond t (same (part b 0 96) (head_bytes c 0 0 fresh_head)) (used_ok b) ≡ true → HeadPassed (head_of b)
    head true k = subst HeadPassed (sym (fresh-head c b k)) fresh_passed
    head false k = used_passed b k
