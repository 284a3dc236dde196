-- A line of a bar's signals by the separators that were found: one field, two, or more. Assumes nothing.
use Rattle.std.specs.Prelude.{Some, None}
use mathlib.Core.Path.{◌≡◌, ◌∙◌, refl, ap}
use mathlib.Core.Logic.{◌≢◌}
use mathlib.Core.List.{List, ◌∷◌}
use Prim.Native.Nat.{ℕ, ◌+◌, ◌≤◌, ◌<◌}
use native.Mathlib.Decide.{dec_lt}
use native.Mathlib.Omega.{arith}
use borrow.Author.Tests.{ne_eqb}
use lib.ListN.{length, get_or}
use lib.Seq.{slice}
use Rattle.text.specs.Answer.{Refused, ◌>>=◌}
use Rattle.text.specs.Text.{split, LF, pipe}
use Rattle.text.specs.Read.{Part, index_of, FirstAt}
use Rattle.text.proofs.Lines.{lines_cut, lines_next}
use Rattle.text.proofs.Parts.{split-next, split-last, split_some}
use Rattle.event.specs.Signals.{Line, signal_line}
use Rattle.event_line.specs.Fields.{FieldEnd}
use Rattle.event_line.specs.Fields.{signals_from, LineFrom}
use Rattle.event_line.proofs.Firsts.{first-at, first_some, first_past}

-- "per line 2"
not_two : (ls : List Line) (f : List (List ℕ)) → length f ≢ 2 → signal_line ls f ≡ Refused 2
unfolding signal_line
not_two ls f h = rw (ne_eqb (length f) 2 h)

module _ {s : List ℕ} {from end : ℕ} (h : from < length s) (f : FirstAt s from (length s) LF end) where
  rest : Part s from (length s)
  rest = record { order = omega arith; within = omega arith }

  pub line-cut : end ≡ length s → LineFrom s from None
  line-cut e ls = lines_cut signal_line ls rest f h e

  module _ (m : end ≢ length s) where
    one : (ls : List Line) → signals_from ls s from ≡ (signal_line ls (split pipe (slice from end s)) >>= λ y. signals_from y s (end + 1))
    one ls = lines_next signal_line ls rest f (omega (arith, f.high))

    wrong : length (split pipe (slice from end s)) ≢ 2 → LineFrom s from None
    wrong n ls = one ls ∙ ap (λ a. a >>= λ y. signals_from y s (end + 1)) (not_two ls (split pipe (slice from end s)) n)

    line : Part s from end
    line = record { order = f.low; within = f.high }

    module _ {mid : ℕ} (g : FirstAt s from end pipe mid) where
      pub one_field : mid ≡ end → LineFrom s from None
      one_field e = wrong (omega (arith, ap length (split-last line g e)))

      module _ (n : mid ≢ end) {last : ℕ} (k : FirstAt s (mid + 1) end pipe last) where
        below : mid < end
        below = omega (arith, g.high)

        value : Part s (mid + 1) end
        value = record { order = omega (arith, below); within = f.high }

        pub more-fields : last ≢ end → LineFrom s from None
        more-fields e =
            wrong
            (omega (arith, ap length (split-next line g below), ap length (split-next value k (omega (arith, k.high))), split_some pipe (slice (last + 1) end s)))

        pub two_fields : last ≡ end → LineFrom s from (Some (record { mid = mid; end = end }))
        two_fields e = record {
          first = g.low;
          second = below;
          within = omega (arith, f.high);
          next = λ ls. one ls ∙ ap (λ fs. signal_line ls fs >>= λ y. signals_from y s (end + 1)) (split-next line g below ∙ ap (λ ps. slice from mid s ∷ ps) (split-last value k e));
        }

-- ---- `read_line`: the ends of the first two fields

module _ {s : List ℕ} {from mid : ℕ} (h : from < length s) (g : FieldEnd s from (length s) mid) where
  pub mid_cut : mid ≡ length s → LineFrom s from None
  mid_cut e = line-cut h (first-at s LF (length s) (omega arith) g.low g.high g.lines (λ l. absurd (omega arith))) e

  module _ (m : mid ≢ length s) where
    pub mid_line : get_or s mid 0 ≡ LF → LineFrom s from None
    mid_line e =
        one_field h (first-at s LF (length s) (omega arith) g.low g.high g.lines (λ _. e)) m
        (first-at s pipe mid g.high g.low (omega arith) g.fields (λ l. absurd (omega arith))) refl

    module _ (e : get_or s mid 0 ≢ LF) {end : ℕ} (k : FieldEnd s (mid + 1) (length s) end) where
      bar : get_or s mid 0 ≡ pipe
      bar = g.last (omega (arith, g.high)) e

      -- no LF stands before the second end
      no_line : (j : ℕ) → from ≤ j → j < end → get_or s j 0 ≢ LF
      no_line j a b = elim (dec_lt j mid) [ yes l ↦ g.lines j a l | no l ↦ elim (dec_lt mid j) [ yes r ↦ k.lines j (omega arith) b | no r ↦ here (omega arith) ] ]
        where
          here : j ≡ mid → get_or s j 0 ≢ LF
          here q = rw q e

      first : {to : ℕ} → mid < to → to ≤ length s → FirstAt s from to pipe mid
      first {to} l w = first-at s pipe to w g.low (omega arith) g.fields (λ _. bar)

      pub end-cut : end ≡ length s → LineFrom s from None
      end-cut q = line-cut h (first-at s LF (length s) (omega arith) (omega (arith, g.low, k.low)) k.high no_line (λ l. absurd (omega arith))) q

      module _ (n : end ≢ length s) where
        -- a second `|`: there is no LF, or it stands behind this
        pub end-bar : get_or s end 0 ≢ LF → LineFrom s from None
        end-bar z =
            let f = first_some s LF (length s) (omega arith) from (omega arith) in
            let p = first_past s LF (length s) (omega arith) from (end + 1) (omega (arith, g.low, k.low)) (omega (arith, k.high)) past in
            elim (dec_lt (from + index_of LF (slice from (length s) s)) (length s)) [
              | yes l ↦ more-fields h f (omega arith) (first (omega (arith, k.low)) (omega arith)) (omega (arith, k.low)) (second (omega arith) (omega arith)) (omega arith)
              | no l ↦ line-cut h f (omega (arith, f.high))
            ]
          where
            past : (j : ℕ) → from ≤ j → j < end + 1 → get_or s j 0 ≢ LF
            past j a b = elim (dec_lt j end) [ yes l ↦ no_line j a l | no l ↦ here (omega arith) ]
              where
                here : j ≡ end → get_or s j 0 ≢ LF
                here q = rw q z

            second : {to : ℕ} → end < to → to ≤ length s → FirstAt s (mid + 1) to pipe end
            second {to} l w = first-at s pipe to w k.low (omega arith) k.fields (λ _. k.last (omega (arith, k.high)) z)

        pub end_line : get_or s end 0 ≡ LF → LineFrom s from (Some (record { mid = mid; end = end }))
        end_line z =
            two_fields h (first-at s LF (length s) (omega arith) (omega (arith, g.low, k.low)) k.high no_line (λ _. z)) n
            (first (omega (arith, k.low)) k.high) (omega (arith, k.low))
            (first-at s pipe end k.high k.low (omega arith) k.fields (λ l. absurd (omega arith))) refl
