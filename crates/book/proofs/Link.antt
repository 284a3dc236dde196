-- An accepted bar changes the book of a state into the book of the next state. Assumes nothing.
use Prim.Native.Nat.{ℕ, ◌+◌, ◌-◌, ◌*◌, ◌^◌, ◌≤◌, ◌<◌}
use native.Mathlib.Omega.{arith}
use mathlib.Core.List.{List, [], ◌∷◌, ◌++◌, append_assoc}
use mathlib.Core.Path.{◌≡◌, refl, sym, ap, ◌∙◌}
use mathlib.Mathlib.Data.List.Defs.{Forall}
use lib.ListN.{length, replicate, length-append, length-replicate, replicate-append-replicate}
use Rattle.le.specs.Le.{patch}
use Rattle.le.specs.Field.{u32}
use Rattle.le.proofs.Places.{patch-first}
use Rattle.bar.specs.declared.Bar.{Bar}
use Rattle.position.specs.State.{State}
use Rattle.position.specs.Step.{Going, settle_last, new_hold}
use Rattle.position.specs.declared.Record.{Record}
use Rattle.position.specs.declared.Hold.{Hold}
use Rattle.position_laws.proofs.Steps.{settled-many}
use Rattle.book.specs.Layout.{head_bytes, hold_bytes, holds_bytes, records_bytes, encode, hold_place, record_place}
use Rattle.book.specs.Calls.{settled, fed}
use Rattle.book.proofs.Fits.{HoldIn}
use Rattle.book.proofs.Items.{items_one, items_put}
use Rattle.book.proofs.Lengths.{head-length, holds-written, records-written, front_length}
use Rattle.book.proofs.Parts.{book, behind, by_holds, by_head, header, holds_left, records_left, encode-is, holds-count, records-count}
use Rattle.book.proofs.Settled.{settled_is}

-- k of n zeros
zeros : (k m n : ℕ) → k + m ≡ n → replicate {A = ℕ} n 0 ≡ replicate k 0 ++ replicate m 0
zeros k m n e = rw (← e) (sym (replicate-append-replicate {A = ℕ} k m 0))

-- ---- one patch

module _ (hd : List ℕ) (long : length hd ≡ 96) where
  -- the last hold settled
  settled-book : (bar : Bar) (os : List Hold) (n : ℕ) (rs : List Record) (m : ℕ) → Forall HoldIn os → u32 (book hd os n rs m) 0 ≡ length os
      → settled bar (book hd os n rs m) ≡ book hd (settle_last bar os) n rs m
  settled-book bar os n rs m fits e =
      rw (by_holds hd os n rs m, by_holds hd (settle_last bar os) n rs m)
      (settled_is bar hd (behind n rs m) long os fits (ap (λ (l : List ℕ). u32 l 0) (sym (by_holds hd os n rs m)) ∙ e))

  -- a hold behind the last
  hold_added : (os : List Hold) (o : Hold) (n k : ℕ) (rs : List Record) (m : ℕ) (hs : ℕ) → length os ≡ hs → 32 + k ≡ n
      → patch (book hd os n rs m) (hold_place hs) (hold_bytes o) ≡ book hd (os ++ o ∷ []) k rs m
  hold_added os o n k rs m hs count e =
      rw (
        by_holds hd os n rs m,
        by_holds hd (os ++ o ∷ []) k rs m,
        zeros 32 k n e,
        append_assoc (replicate 32 0) (replicate k 0) (records_bytes rs ++ replicate m 0),
        ← items_one holds-written o,
      )
      (items_put holds-written hd os (hold_place hs) (omega arith) (o ∷ []) (replicate 32 0) (behind k rs m) refl)

  -- records behind the last
  records-added : (c : ℕ) (os : List Hold) (n : ℕ) (rs ws : List Record) (m k : ℕ) → 32 * length os + n ≡ 32 * c → 32 * length ws + k ≡ m
      → patch (book hd os n rs m) (record_place c (length rs)) (records_bytes ws) ≡ book hd os n (rs ++ ws) k
  records-added c os n rs ws m k room e =
      let p = hd ++ holds_bytes os ++ replicate n 0 in
      let place : length p + 32 * length rs ≡ record_place c (length rs) = omega (arith, front_length hd os n c long room) in
      rw (zeros (32 * length ws) k m e)
      (items_put records-written p rs (record_place c (length rs)) place ws (replicate (32 * length ws) 0) (replicate k 0) (length-replicate {A = ℕ} (32 * length ws) 0))

  -- another header
  head_changed : (new : List ℕ) (os : List Hold) (n : ℕ) (rs : List Record) (m : ℕ) → length new ≡ 96
      → patch (book hd os n rs m) 0 new ≡ book new os n rs m
  head_changed new os n rs m e = rw (by_head hd os n rs m, by_head new os n rs m) (patch-first hd new (holds_bytes os ++ behind n rs m) (long ∙ sym e))

-- ---- the whole book

-- the state after a bar that went so
abbrev pub next : Bar → Going → State → State
next bar g st = record { head = g.head; records = st.records ++ g.wrote; holds = settle_last bar st.holds ++ new_hold bar g ∷ [] }

pub fed-is : (c : ℕ) (bar : Bar) (g : Going) (st : State) → c < 2 ^ 32 → length st.holds < c → length st.records + length g.wrote ≤ c → Forall HoldIn st.holds
    → fed c bar g (encode c st) ≡ encode c (next bar g st)
unfolding fed
fed-is c bar g st small room few fits =
    let os = st.holds in
    let rs = st.records in
    let ws = g.wrote in
    let old = settle_last bar os in
    let o = new_hold bar g in
    let hd = header c st in
    let n = 32 * (c - (length os + 1)) in
    let m = 32 * (c - (length rs + length ws)) in
    let long : length hd ≡ 96 = head-length c (length os) (length rs) st.head in
    let hs : u32 (encode c st) 0 ≡ length os = holds-count c st (omega arith) in
    let holds : length (old ++ o ∷ []) ≡ length os + 1 = omega (arith, length-append old (o ∷ []), settled-many bar os) in
    let new = head_bytes c (length os + 1) (length rs + length ws) g.head in
    rw (
      hs,
      records-count c st (omega arith),
      encode-is c (next bar g st),
      holds,
      length-append rs ws,
      encode-is c st,
      settled-book hd long bar os (holds_left c st) rs (records_left c st) fits (ap (λ (l : List ℕ). u32 l 0) (sym (encode-is c st)) ∙ hs),
      hold_added hd long old o (holds_left c st) n rs (records_left c st) (length os) (settled-many bar os) (omega arith),
      records-added hd long c (old ++ o ∷ []) n rs ws (records_left c st) m (omega arith) (omega arith),
    )
    (head_changed hd long new (old ++ o ∷ []) n (rs ++ ws) m (head-length c (length os + 1) (length rs + length ws) g.head))
