-- One bar: its feed and its line make what is said of it. Assumes nothing.
use Rattle.position.specs.declared.Report.{Report}
use Rattle.book_feed.specs.declared.FeedError.{FeedError}
use Rattle.std.specs.Prelude.{Result, Ok, Err}
use Prim.Native.Nat.{ℕ, ◌+◌, ◌-◌, ◌≤◌}
use mathlib.Core.List.{List, [], ◌∷◌, ◌++◌}
use mathlib.Core.Path.{◌≡◌, refl, ap, subst, ◌∙◌}
use lib.Dec.{T}
use lib.IntN.{ℤ}
use lib.Ieee.{binary64, fits}
use lib.ListN.{length, take, drop}
use mir.Syntax.{w32, w64}
use mir.Val.{SFits}
use mir.Facts.{to_z-of_z}
use Rattle.le.proofs.Signs.{back}
use Rattle.text.specs.Answer.{number}
use Rattle.text.specs.Literal.{bytes}
use Rattle.text.specs.Number.{decimal_of, integer_of}
use Rattle.text.specs.Read.{Put}
use Rattle.bar.specs.declared.BarNumbers.{BarNumbers}
use Rattle.position.specs.State.{pos_sign}
use Rattle.position.specs.Feed.{Input, input_of}
use Rattle.position.specs.Run.{line, flag_text}
use Rattle.position.specs.declared.Head.{Head}
use Rattle.book.specs.Layout.{head_of}
use Rattle.book.specs.Calls.{feed_do}
use Rattle.book_feed.specs.Feed.{feed_of, FeedAs}
use Rattle.run_rows.specs.Rows.{Booked}
use Rattle.run_rows.proofs.Lent.{lent_put}
use Rattle.run_output.specs.Shown.{feed_room}
use Rattle.run_feed_one.specs.One.{FedOne}
use Rattle.run_feed_one.proofs.Next.{booked_next, book-long}

-- the number of a feed's answer, whatever its bytes
number_same : (a b : List ℕ) (r : Result Report FeedError) → number (feed_of a r) ≡ number (feed_of b r)
number_same a b (Ok r) = refl
number_same a b (Err e) = refl

-- the numbers of a bar as they are handed on
abbrev pub handed : BarNumbers → List ℕ → Input
handed w signals = record { id = back w64 w.id; instant = back w64 w.instant; offset = back w64 w.offset; price = w.price; signals = signals }

module _ (table : List ℕ) {b next : List ℕ} (w : BarNumbers) (signals : List ℕ) (x : SFits w64 w.id) (y : SFits w64 w.instant) (z : SFits w64 w.offset) (r : Result Report FeedError)
    (f : FeedAs (feed_do table b (handed w signals)) b next r) where
  handed_is : handed w signals ≡ input_of w signals
  handed_is = rw (to_z-of_z {w = w64} x, to_z-of_z {w = w64} y, to_z-of_z {w = w64} z)

  fed : FeedAs (feed_do table b (input_of w signals)) b next r
  fed = subst (λ (i : Input). FeedAs (feed_do table b i) b next r) handed_is f

  -- the book is still one, so its header can be read
  pub next-long : Booked table b → T (fits binary64 w.price) → length next ≡ 57696
  next-long k double = book-long (booked_next k (input_of w signals) double next fed.bytes)

  pub fed-printed : (n : ℕ) (h : Head) (p : ℤ) → SFits w32 p → n ≡ number (feed_of [] r) → h ≡ head_of next → p ≡ pos_sign h.pos
      → (out : List ℕ) (at : ℕ) {q : List ℕ} {m : ℕ} → at + feed_room ≤ length out
      → Put (take (at + feed_room - at) (drop at out)) q 0 (line (bytes "F" ∷ decimal_of n ∷ integer_of (back w32 p) ∷ flag_text h.changed ∷ [])) m
      → FedOne table b next (input_of w signals) out (take at out ++ (q ++ drop (at + feed_room - at) (drop at out))) at (at + m)
  fed-printed n h p small en eh ep out at room put =
      let number_is : n ≡ number (feed_do table b (input_of w signals)) = en ∙ number_same [] next r ∙ ap number fed.is in
      record { book = fed.bytes; line = rw (← number_is, ← eh, ← ep) (lent_put out at feed_room room (rw (to_z-of_z {w = w32} small) at put)) }
