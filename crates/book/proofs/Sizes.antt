-- Fresh, feed and restore leave a book as long as it was. Assumes nothing.
use Prim.Native.Nat.{ℕ}
use native.Mathlib.Omega.{arith}
use mathlib.Core.List.{List}
use mathlib.Core.Path.{◌≡◌, sym, ap, ◌∙◌}
use lib.Dec.{eqb}
use lib.ListN.{length}
use borrow.Author.Tests.{eqb-true}
use Rattle.text.specs.Answer.{Answer, Refused, Got, given, got_or}
use Rattle.text.proofs.Answers.{got_from, must_got, got_same, given_got}
use Rattle.position.specs.State.{fresh_state}
use Rattle.position.specs.Feed.{Input, Accepted}
use Rattle.book.specs.Layout.{capacity, fresh_book}
use Rattle.book.specs.Calls.{sized, sized_pair, checked, fresh_do, feed_do, feed_bytes, restore_do}
use Rattle.book.proofs.Lengths.{length-encode, capacity_range}
use Rattle.book.proofs.Fed.{fed-size, took}

pub feed_size : (t b : List ℕ) (i : Input) (x : Accepted (List ℕ)) → feed_do t b i ≡ Got x → length x.after ≡ length b
feed_size t b i x e =
    let f = took t b i x e in
    sym (ap (λ (l : List ℕ). length l) f.after) ∙ fed-size f.c f.got.bar f.g b f.long f.room f.few

pub restore_size : (t b image x : List ℕ) → restore_do t b image ≡ Got x → length x ≡ length b
unfolding restore_do
restore_size t b image x e =
    let size = got_from (sized_pair t b image) _ x e in
    let alone = got_from (sized t b) _ size.0 size.1 in
    let same = (must_got 8 (eqb (length image) (length b)) _ size.0 alone.2).0 in
    let check = got_from (checked t size.0 _) _ x size.2 in
    sym (ap (λ (y : List ℕ). length y) (got_same image x check.2)) ∙ eqb-true (length image) (length b) same

pub fresh-size : (b x : List ℕ) → fresh_do b ≡ Got x → length x ≡ length b
unfolding fresh_do fresh_book fresh_state
fresh-size b x e =
    let size = got_from (given 8 (capacity b)) _ x e in
    let c = size.0 in
    let long = (capacity_range b c (given_got 8 (capacity b) c size.1)).0 in
    sym (ap (λ (y : List ℕ). length y) (got_same (fresh_book c) x size.2)) ∙ length-encode c fresh_state (omega arith) (omega arith) ∙ sym long
