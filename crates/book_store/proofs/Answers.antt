-- The answers of fresh, save and restore. Assumes nothing.
use Rattle.book.specs.declared.OpenError.TheVariants.{WrongLength}
use Rattle.book.specs.declared.OpenError.{OpenError}
use Rattle.std.specs.Prelude.{Option, Some, None, Result, Ok, Err}
use Prim.Native.Nat.{ℕ, ◌+◌, ◌-◌, ◌*◌, ◌≤◌}
use native.Mathlib.Omega.{arith}
use mathlib.Core.Bool.{true}
use mathlib.Core.List.{List, ◌++◌, append_assoc, append-nil}
use mathlib.Core.Logic.{◌≢◌}
use mathlib.Core.Path.{◌≡◌, refl, sym, ap, subst, ◌∙◌}
use lib.Dec.{eqb}
use lib.ListN.{length, replicate, length-replicate, replicate-append-replicate}
use lib.Seq.{slice, take-length}
use borrow.Author.Tests.{eq-eqb, ne_eqb}
use Rattle.le.specs.Le.{patch}
use Rattle.le.proofs.Laws.{patch-all}
use Rattle.le.proofs.Places.{patch-first}
use Rattle.text.specs.Answer.{Answer, Refused, Got, ◌>>=◌, must}
use Rattle.text.specs.Read.{Put}
use Rattle.table.specs.Layout.{parts_in}
use Rattle.table.specs.Table.{sheet_of}
use Rattle.position.specs.State.{fresh_head, fresh_state}
use Rattle.position.specs.declared.Head.{Head}
use Rattle.book.specs.Layout.{head_bytes, encode, fresh_book}
use Rattle.book.specs.Calls.{sized_pair, fresh_do, save_do, restore_do}
use Rattle.book.proofs.Lengths.{head-length, holds-written, records-written}
use Rattle.book_header.specs.Size.{SizeOk, sized_of, BarsOk, RoomOk, CapacityAs, SizedAs, priced}
use Rattle.book_check.specs.Read.{checked_of, CheckedAs}
use Rattle.book_store.specs.Stored.{stored_of, StoredAs}
use Rattle.book_store.specs.Copied.{copy_do}

-- ---- done, and refused

module _ {d : Answer (List ℕ)} (before : List ℕ) where
  done : {after : List ℕ} → d ≡ Got after → StoredAs d before after (Ok tt)
  done e = record { is = sym e; bytes = rw e refl }

  refused : {r : Result (Unit {0}) OpenError} {n : ℕ} → d ≡ Refused n → stored_of before r ≡ Refused n → StoredAs d before before r
  refused e f = record { is = f ∙ sym e; bytes = rw e refl }

-- ---- `fresh`

-- zeros, then the header of no bars
fresh-bytes : (c : ℕ) → patch (replicate (96 + 64 * c) 0) 0 (head_bytes c 0 0 fresh_head) ≡ fresh_book c
unfolding fresh_book encode fresh_state
fresh-bytes c =
    ap (λ (l : List ℕ). patch l 0 hd) (sym (replicate-append-replicate {A = ℕ} 96 (64 * c) 0))
    ∙ patch-first (replicate 96 0) hd (replicate (64 * c) 0) (length-replicate {A = ℕ} 96 0 ∙ sym (head-length c 0 0 fresh_head))
    ∙ rw (holds-written.none, records-written.none, less, append-nil hd, append-nil (hd ++ half), append_assoc hd half half, twice) refl
  where
    hd : List ℕ
    hd = head_bytes c 0 0 fresh_head

    half : List ℕ
    half = replicate (32 * c) 0

    less : c - 0 ≡ c
    less = omega arith

    twice : half ++ half ≡ replicate (64 * c) 0
    twice =
        let e : 32 * c + 32 * c ≡ 64 * c = omega arith in
        replicate-append-replicate {A = ℕ} (32 * c) (32 * c) 0 ∙ rw e

pub fresh-priced : {h : Head} → h ≡ fresh_head → priced h.reference ≡ true
unfolding fresh_head
fresh-priced e = ap (λ (h : Head). priced h.reference) e

module _ {b : List ℕ} {r : Option ℕ} (k : CapacityAs b r) where
  fresh-is : fresh_do b ≡ (sized_of r >>= λ c. Got (fresh_book c))
  unfolding fresh_do
  fresh-is = rw (← k.is)

  pub fresh_wrong : r ≡ None → StoredAs (fresh_do b) b b (Err WrongLength)
  fresh_wrong e = refused b (fresh-is ∙ rw e) refl

  module _ {c : ℕ} (e : r ≡ Some c) where
    pub fresh-size : SizeOk b c
    fresh-size = subst (BarsOk b) e k.ok

    pub fresh-room : {clear : List ℕ} → clear ≡ replicate (length b) 0 → 96 ≤ length clear
    fresh-room {clear} zero =
        let e : length clear ≡ length b = ap (λ (l : List ℕ). length l) zero ∙ length-replicate {A = ℕ} (length b) 0 in
        omega (arith, e, fresh-size.long)

    pub fresh-done : {clear after : List ℕ} {h : Head} → clear ≡ replicate (length b) 0 → h ≡ fresh_head → after ≡ patch clear 0 (head_bytes c 0 0 h)
        → StoredAs (fresh_do b) b after (Ok tt)
    fresh-done zero head put = done b (fresh-is ∙ rw e (ap Got (sym (put ∙ rw (zero, head, fresh-size.long) (fresh-bytes c)))))

-- ---- `copy_book`

module _ {t : List ℕ} {c : ℕ} {from : List ℕ} {r : Result (Unit {0}) OpenError} (k : CheckedAs t c from r) (to : List ℕ) where
  copy_is : copy_do t c from ≡ (checked_of (sheet_of (parts_in t)) r >>= λ _. Got from)
  unfolding copy_do
  copy_is = rw (← k.is)

  pub copy_refused : {e : OpenError} → r ≡ Err e → StoredAs (copy_do t c from) to to (Err e)
  copy_refused e = refused to (copy_is ∙ rw e) refl

  pub copy_done : r ≡ Ok tt → SizeOk from c → length to ≡ length from → {after : List ℕ} {end : ℕ}
      → Put to after 0 (slice 0 (96 + 64 * c) from) end → StoredAs (copy_do t c from) to after (Ok tt)
  copy_done e size even {after} put = done to (copy_is ∙ rw e (ap Got (sym whole)))
    where
      whole : after ≡ from
      whole = put.written ∙ rw (← size.long, take-length from) (patch-all to from (sym even))

-- ---- `save` and `restore`

module _ {t b : List ℕ} {r : Option ℕ} (k : SizedAs t b r) where
  pub book-size : {c : ℕ} → r ≡ Some c → SizeOk b c
  book-size e = (subst (RoomOk t b) e k.ok).1

  module _ (image : List ℕ) where
    pair_is : sized_pair t b image ≡ (sized_of r >>= λ c. must 8 (eqb (length image) (length b)) >>= λ _. Got c)
    pair_is = rw (← k.is)

    module _ (e : r ≡ None) where
      none : sized_pair t b image ≡ Refused 8
      none = pair_is ∙ rw e

      pub save_wrong : StoredAs (save_do t b image) image image (Err WrongLength)
      unfolding save_do
      save_wrong = refused image (rw none) refl

      pub restore_wrong : StoredAs (restore_do t b image) b b (Err WrongLength)
      unfolding restore_do
      restore_wrong = refused b (rw none) refl

    module _ {c : ℕ} (e : r ≡ Some c) where
      module _ (h : length image ≢ length b) where
        uneven : sized_pair t b image ≡ Refused 8
        uneven = pair_is ∙ rw (e, ne_eqb _ _ h)

        pub save_uneven : StoredAs (save_do t b image) image image (Err WrongLength)
        unfolding save_do
        save_uneven = refused image (rw uneven) refl

        pub restore_uneven : StoredAs (restore_do t b image) b b (Err WrongLength)
        unfolding restore_do
        restore_uneven = refused b (rw uneven) refl

      module _ (h : length image ≡ length b) where
        even : sized_pair t b image ≡ Got c
        even = pair_is ∙ rw (e, eq-eqb _ _ h)

        pub image-size : SizeOk image c
        image-size = record { long = h ∙ (book-size e).long; least = (book-size e).least; most = (book-size e).most }

        pub save_copies : {after : List ℕ} {q : Result (Unit {0}) OpenError} → StoredAs (copy_do t c b) image after q → StoredAs (save_do t b image) image after q
        unfolding save_do copy_do
        save_copies s = rw even s

        pub restore_copies : {after : List ℕ} {q : Result (Unit {0}) OpenError} → StoredAs (copy_do t c image) b after q → StoredAs (restore_do t b image) b after q
        unfolding restore_do copy_do
        restore_copies s = rw even s
