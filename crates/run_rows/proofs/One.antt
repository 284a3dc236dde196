-- One row of a book, asked and printed. Assumes nothing.
use Prim.Native.Nat.{ℕ, ◌+◌, ◌-◌, ◌≤◌}
use native.Mathlib.Omega.{arith}
use mathlib.Core.List.{List, ◌++◌}
use Rattle.double.specs.declared.Yield.{Yield}
use Rattle.double.specs.declared.Yield.TheVariants.{Absent, Bp}
use Rattle.row.specs.Read.{row_refusal, row_read_of}
use Rattle.row.specs.declared.RowError.{RowError}
use Rattle.std.specs.Prelude.{Option, None, Some, Result, Ok, Err, Float, slice_get}
use Rattle.std.specs.Result.{result_ok}
use Rattle.std.proofs.lemmas.Option.{none-some, same_Some}
use mathlib.Core.Path.{◌≡◌, refl, sym, ap, ap₂, ◌∙◌}
use lib.Dec.{T}
use lib.IntN.{ℤ, pos}
use lib.ListN.{length, take, drop}
use mir.Syntax.{w64}
use mir.Val.{to_z}
use mir.ValLaws.{to_z_pos}
use Rattle.le.specs.Le.{patch}
use Rattle.text.specs.Answer.{Answer, Refused, Got, ◌>>=◌, given}
use Rattle.text.specs.Read.{Put}
use Rattle.double.specs.Double.{yield_ok}
use Rattle.position.specs.Rows.{Pair, hold_rows}
use Rattle.position.specs.Run.{run_bars, pair_line, hold_line}
use Rattle.position.specs.declared.HoldRow.{HoldRow}
use Rattle.position.specs.declared.PairRow.{PairRow}
use Rattle.book.specs.Layout.{holds_of}
use Rattle.row.specs.Calls.{row_buffer, row_at, pair_do, pair_text, pair_bytes, pair_row, hold_do}
use Rattle.row_pairs.specs.Read.{PairAs}
use Rattle.row_pairs.proofs.Texts.{pair_room_lem}
use Rattle.run_fields.specs.Fields.{ShortPut, YieldShown}
use Rattle.run_output.specs.Shown.{pair_room, hold_room, pair_in, PairShown, HoldShown}
use Rattle.run_output.proofs.Texts.{pair_back}
use Rattle.run_rows.specs.Rows.{Booked, pair_rows}
use Rattle.run_rows.proofs.Asked.{pair_asked, hold_asked, pair_shown, hold_shown}
use Rattle.run_rows.proofs.Lent.{lent_put}

-- ---- what a request answers

-- a number as an i64
index : (i : ℕ) → i ≤ run_bars → to_z w64 i ≡ pos i
index i few = to_z_pos w64 i (omega arith)

-- a refusal where a row is asked by its number
none-given : {X Y : Type 0} (f : X → Y) (o : Option X) (n : ℕ) → Refused n ≡ (given 15 o >>= λ x. Got (f x)) → o ≡ None
none-given f None n e = refl
none-given f (Some x) n e = absurd (let z : ◌≡◌ {A = ℕ} 0 1 = cc in omega arith)

some_given : {X Y : Type 0} (f : X → Y) (o : Option X) (y : Y) → Got y ≡ (given 15 o >>= λ x. Got (f x)) → (x : X) × (o ≡ Some x) × (y ≡ f x)
some_given f None y e = absurd (let z : ◌≡◌ {A = ℕ} 0 1 = cc in omega arith)
some_given f (Some x) y e = (x, refl, cc)

-- what `ok` keeps of a request's answer: a row, or that it was refused
row_of : {X : Type 0} (r : Result X RowError) (x : X) → result_ok r ≡ Some x → r ≡ Ok x
row_of (Ok y) x e = ap Ok (same_Some y x e)
row_of (Err d) x e = absurd (none-some x e)

refusal_of : {X : Type 0} (r : Result X RowError) → result_ok r ≡ None → (n : ℕ) × (row_read_of r ≡ Refused n)
refusal_of (Ok x) e = absurd (none-some x (sym e))
refusal_of (Err d) e = (row_refusal d, refl)

yield_shown : (y : Yield) → T (yield_ok y) → YieldShown y
yield_shown Absent h = tt
yield_shown (Bp x) h = h

-- ---- pairs

module _ {table b before after : List ℕ} (i : ℕ) {r : (Result PairRow RowError)} (k : Booked table b) (few : i ≤ run_bars) (long : length before ≡ row_buffer)
    (e : PairAs table b (to_z w64 i) before after r) where
  asked_pair : pair_do table b (to_z w64 i) before ≡ given 15 (slice_get (pair_rows table b) i)
  asked_pair = pair_asked k (to_z w64 i) before (omega arith) ∙ ap (λ (z : ℤ). given 15 (row_at (pair_rows table b) z)) (index i few)

  answer : row_read_of r ≡ (given 15 (slice_get (pair_rows table b) i) >>= λ p. Got (pair_row p))
  answer = e.is ∙ ap (λ (a : Answer Pair). a >>= λ p. Got (pair_row p)) asked_pair

  pub no_pair : result_ok r ≡ None → slice_get (pair_rows table b) i ≡ None
  no_pair h = let q = refusal_of r h in none-given pair_row (slice_get (pair_rows table b) i) q.0 (sym q.1 ∙ answer)

  module _ (row : PairRow) (is : result_ok r ≡ Some row) where
    found : (p : Pair) × (slice_get (pair_rows table b) i ≡ Some p) × (row ≡ pair_row p)
    found = some_given pair_row (slice_get (pair_rows table b) i) row (ap row_read_of (sym (row_of r row is)) ∙ answer)

    texts : after ≡ patch before 0 (pair_text found.0)
    texts = e.bytes ∙ ap (pair_bytes before) (asked_pair ∙ ap (given 15) found.1)

    pub pair_ready : length after ≡ length before → PairShown row after
    pair_ready size =
        let p = found.0 in
        let n = pair_shown k i p found.1 in
        let kept : length (patch before 0 (pair_text p)) ≡ length before = rw (← texts) size in
        let room = pair_room_lem p before kept in
        rw found.2
        (record { from = n.open_price; to = n.close_price; days = n.days; bp = yield_shown p.yield n.yield; texts = omega arith; short = omega arith })

    pub pair_printed : (out : List ℕ) (at : ℕ) (q : List ℕ) (n : ℕ) → at + pair_room ≤ length out
        → Put (take (at + pair_room - at) (drop at out)) q 0 (pair_line (pair_in row after)) n
        → (p : Pair) × (slice_get (pair_rows table b) i ≡ Some p) × ShortPut pair_room out (take at out ++ (q ++ drop (at + pair_room - at) (drop at out))) at (pair_line p) (at + n)
    pair_printed out at q n h put =
        let p = found.0 in
        let same : pair_in row after ≡ p = ap₂ pair_in found.2 texts ∙ pair_back p before in
        (p, found.1, lent_put out at pair_room h (rw same at put))

-- ---- holds

module _ {table b : List ℕ} (k : Booked table b) (i : ℕ) (r : Result HoldRow RowError) (few : i ≤ run_bars) (e : row_read_of r ≡ hold_do table b (to_z w64 i)) where
  abbrev kept : List HoldRow
  kept = hold_rows (holds_of b)

  given_hold : row_read_of r ≡ (given 15 (slice_get kept i) >>= λ o. Got o)
  given_hold = e ∙ hold_asked k (to_z w64 i) ∙ ap (λ (z : ℤ). given 15 (row_at kept z)) (index i few) ∙ got_again (slice_get kept i)
    where
      got_again : (o : Option HoldRow) → given 15 o ≡ (given 15 o >>= λ x. Got x)
      got_again None = refl
      got_again (Some x) = refl

  pub no_hold : result_ok r ≡ None → slice_get kept i ≡ None
  no_hold h = let q = refusal_of r h in none-given (λ o. o) (slice_get kept i) q.0 (sym q.1 ∙ given_hold)

  module _ (row : HoldRow) (is : result_ok r ≡ Some row) where
    asked : slice_get kept i ≡ Some row
    asked = let f = some_given (λ o. o) (slice_get kept i) row (ap row_read_of (sym (row_of r row is)) ∙ given_hold) in f.1 ∙ ap Some (sym f.2)

    pub hold_ready : HoldShown row
    hold_ready = let n = hold_shown k i row asked in record { price = n.price; n1b = yield_shown row.n1b n.n1b }

    pub hold_printed : (out : List ℕ) (at : ℕ) (q : List ℕ) (n : ℕ) → at + hold_room ≤ length out
        → Put (take (at + hold_room - at) (drop at out)) q 0 (hold_line row) n
        → (o : HoldRow) × (slice_get kept i ≡ Some o) × ShortPut hold_room out (take at out ++ (q ++ drop (at + hold_room - at) (drop at out))) at (hold_line o) (at + n)
    hold_printed out at q n h put = (row, asked, lent_put out at hold_room h put)
