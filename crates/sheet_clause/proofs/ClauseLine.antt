-- What a clause line says, by its field and by the signal that was read. Assumes nothing.
use Rattle.sheet.specs.declared.SheetError.TheVariants as SheetError
use Rattle.signal.specs.declared.SignalError.{SignalError}
use Rattle.std.specs.Prelude.{Ok, Err}
use Prim.Native.Nat.{ℕ, suc, ◌+◌, ◌-◌, ◌*◌, ◌<◌, ◌≤◌}
use native.Mathlib.Omega.{arith}
use mathlib.Core.Path.{◌≡◌, ◌∙◌, sym, ap}
use mathlib.Core.Logic.{◌≢◌}
use mathlib.Core.Bool.{true}
use mathlib.Core.List.{List, [], ◌∷◌}
use borrow.Author.Tests.{ne_eqb, lt-ltb, le-ltb}
use lib.Dec.{ltb}
use lib.ListN.{length, take, drop, length-take}
use lib.Seq.{slice, take-take}
use Rattle.le.specs.Le.{patch}
use Rattle.text.specs.Answer.{Refused, Got}
use Rattle.text.specs.Text.{pipe}
use Rattle.text.specs.Read.{Part, FirstAt}
use Rattle.text.proofs.Laws.{part-size}
use Rattle.text.proofs.Parts.{split_some, split-next, split-last}
use Rattle.utf8.specs.Alone.{text_limit}
use Rattle.signal.specs.Signal.{signal_of}
use Rattle.signal.specs.Read.{SignalOk, signal_in, signal_refusal, ReadAs}
use Rattle.signal.specs.declared.SignalAt.{SignalAt}
use Rattle.sheet.specs.Sheet.{clause_limit}
use Rattle.sheet.specs.Read.{clause_line}
use Rattle.sheet.specs.Places.{fields_of, event_number, SheetOk}
use Rattle.sheet.specs.declared.SheetAt.{SheetAt}
use Rattle.sheet_numbers.specs.Counted.{counted, Narrow}
use Rattle.sheet_numbers.proofs.Counts.{event_total, clause_total, span_within}
use Rattle.sheet_numbers.proofs.MoreClauses.{clause-added, clause-ok, ClauseNumbers}
use Rattle.sheet_clause.specs.declared.ClauseKind.{ClauseKind}
use Rattle.sheet_clause.specs.declared.ClauseKind.TheVariants.{All, Any, Not}
use Rattle.sheet_clause.specs.Line.{kind_number, ClauseLineAs}

pub kind_low : (k : ClauseKind) → kind_number k ≤ 2
kind_low All = omega arith
kind_low Any = omega arith
kind_low Not = omega arith

-- ---- a signal in the front of a text

module _ (n : ℕ) (l : List ℕ) {g : SignalAt} (k : SignalOk (take n l) g) where
  near : g.v3 < n
  near = omega (arith, k.within, length-take n l)

  signal_front : signal_in (take n l) g ≡ signal_in l g
  signal_front =
      rw (take-take g.k1 n l (omega (arith, near)), take-take g.k2 n l (omega (arith, near)), take-take g.k3 n l (omega (arith, near)), take-take g.v1 n l (omega (arith, near)), take-take g.v2 n l (omega (arith, near)), take-take g.v3 n l (omega (arith, near)))

  front_ok : SignalOk l g
  front_ok = record {
    k1-k2 = k.k1-k2;
    k2-k3 = k.k2-k3;
    k3-v1 = k.k3-v1;
    v1-v2 = k.v1-v2;
    v2-v3 = k.v2-v3;
    within = omega (arith, k.within, length-take n l);
    low = k.low;
  }

  -- where the text is not past its limit
  pub narrow : n ≤ text_limit → Narrow g
  narrow h = record {
    k1 = omega (arith, near);
    k2 = omega (arith, near);
    k3 = omega (arith, near);
    v1 = omega (arith, near);
    v2 = omega (arith, near);
    v3 = omega (arith, near);
    score = omega (arith, k.low);
  }

-- ---- the count of an event

-- any event has its numbers, and room for one more in its count
pub count_room : {s es cs : List ℕ} {a : SheetAt} → SheetOk s es cs a → length es ≡ 192 → (i : ℕ) → i < a.events → (6 * i + 6 ≤ length es) × (event_number es i 5 ≤ 256)
count_room ok room i h = (omega (arith, ok.few), omega (arith, span_within ok i h, ok.short))

-- ---- the line

module _ {s es cs : List ℕ} {a : SheetAt} (ok : SheetOk s es cs a) {from to : ℕ} (p : Part s from to) (kind : ℕ) {c : ℕ} (f : FirstAt s from to pipe c) where
  pub two_fields : c ≢ to → ClauseLineAs s from to kind a es cs es cs (Err SheetError.Malformed)
  unfolding clause_line
  two_fields n = record { is = rw (ne_eqb (suc (length (fields_of s from to))) 2 (omega (arith, ap length (split-next p f (omega (arith, f.high))), split_some pipe (slice (c + 1) to s)))); ok = tt }

  module _ (n : c ≡ to) where
    one : fields_of s from to ≡ slice from to s ∷ []
    one = split-last p f n

    pub no_event_lem : a.events ≡ 0 → ClauseLineAs s from to kind a es cs es cs (Err SheetError.Malformed)
    unfolding clause_line
    no_event_lem h = record { is = rw (one, event_total ok, h); ok = tt }

    module _ (some : a.events ≢ 0) where
      behind : ltb 0 a.events ≡ true
      behind = lt-ltb 0 a.events (omega arith)

      whole : take (to - from) (drop from s) ≡ slice from to s
      whole = part-size from to s p.order

      pub no_signal : {e : SignalError} → ReadAs (take (to - from) (drop from s)) (Err e) → ClauseLineAs s from to kind a es cs es cs (Err (SheetError.Signal e))
      unfolding clause_line
      no_signal {e} r =
          let q : Refused (signal_refusal e) ≡ signal_of (slice from to s) = r.is ∙ ap signal_of whole in
          record { is = rw (one, event_total ok, behind, ← q); ok = tt }

      module _ {g : SignalAt} (r : ReadAs (take (to - from) (drop from s)) (Ok g)) where
        signal-is : Got (signal_in (drop from s) g) ≡ signal_of (slice from to s)
        signal-is = ap Got (sym (signal_front (to - from) (drop from s) r.ok)) ∙ r.is ∙ ap signal_of whole

        pub no_room : clause_limit ≤ a.clauses → ClauseLineAs s from to kind a es cs es cs (Err SheetError.PastLimit)
        unfolding clause_line
        no_room h = record { is = rw (one, event_total ok, behind, ← signal-is, clause_total ok, le-ltb a.clauses 256 h); ok = tt }

        -- fs and ds are the numbers, and q the counts, with one clause more
        pub clause-is : {fs ds : List ℕ} {q : SheetAt} → length es ≡ 192 → length cs ≡ 2304 → a.clauses < clause_limit → kind ≤ 2
            → fs ≡ patch es (6 * (a.events - 1) + 5) ((event_number es (a.events - 1) 5 + 1) ∷ [])
            → ds ≡ patch cs (9 * a.clauses) (kind ∷ from ∷ g.k1 ∷ g.k2 ∷ g.k3 ∷ g.v1 ∷ g.v2 ∷ g.v3 ∷ g.score ∷ [])
            → q ≡ counted a a.events (a.clauses + 1) → ClauseLineAs s from to kind a es cs fs ds (Ok q)
        unfolding clause_line
        clause-is events-room room free low u v w =
            let e : ClauseNumbers s es cs a (a.events - 1) kind from g = record {
              events-room = events-room;
              room = room;
              behind = omega arith;
              free = free;
              kind-low = low;
              within = omega (arith, p.order, p.within);
              signal = front_ok (to - from) (drop from s) r.ok;
            } in
            rw (u, v, w) (record {
              is = ap Got (clause-added ok e) ∙ rw (one, event_total ok, behind, ← signal-is, clause_total ok, lt-ltb a.clauses 256 free);
              ok = clause-ok ok e;
            })
