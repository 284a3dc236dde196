-- What a line says, by its first field and how many it has. Assumes nothing.
use Prim.Native.Nat.{ℕ, ◌+◌, ◌≤◌}
use native.Mathlib.Decide.{dec_lt}
use native.Mathlib.Omega.{arith}
use mathlib.Core.Bool.{true, false}
use mathlib.Core.List.{List, [], ◌∷◌, ◌++◌}
use mathlib.Core.Logic.{◌≢◌}
use mathlib.Core.Path.{◌≡◌, ◌∙◌, refl, sym, ap}
use borrow.Author.Tests.{eq-eqb, ne_eqb}
use lib.ListN.{length, get_or, drop}
use lib.Seq.{slice, length-slice}
use Rattle.text.specs.Answer.{Got, ◌>>=◌}
use Rattle.text.specs.Literal.{bytes, encoded}
use Rattle.text.specs.Read.{Part, FirstAt}
use Rattle.text.specs.Text.{LF, pipe, same, split, joined}
use Rattle.text.proofs.Parts.{split-next, split-last}
use Rattle.text.proofs.Same.{same_eq}
use Rattle.text.proofs.Joined.{joined-more, joined-split}
use Rattle.text.proofs.Cut.{cut}
use Rattle.sheet.proofs.Fields.{Cut}
use Rattle.position.specs.Feed.{Input}
use Rattle.position.specs.Run.{bar_line, add_signal, input_line}
use Rattle.run_input.specs.Lines.{line_do, bar_do, LineOk, BarOk, LineAs, BarAs}
use Rattle.bar.specs.declared.BarNumbers.{BarNumbers}
use Rattle.run_input.specs.declared.InputLine.{InputLine}
use Rattle.run_input.specs.declared.InputLine.TheVariants.{Bar, Signal}
use Rattle.run_input.specs.declared.InputError.{InputError}
use Rattle.run_input.specs.declared.InputError.TheVariants.{Malformed, BadNumber}
use Rattle.std.specs.Prelude.{Option, None, Some, Result, Ok, Err}

-- three fields are the line, joined
joined_three : (b : ℕ) (f : List (List ℕ)) → length f ≡ 3 → joined (b ∷ []) f ≡ get_or f 0 [] ++ b ∷ (get_or f 1 [] ++ b ∷ get_or f 2 [])
unfolding joined
joined_three b [] h = absurd (omega arith)
joined_three b (p ∷ []) h = absurd (omega arith)
joined_three b (p ∷ q ∷ []) h = absurd (omega arith)
joined_three b (p ∷ q ∷ r ∷ []) h = joined-more b p q (r ∷ []) ∙ ap (λ l. p ++ b ∷ l) (joined-more b q r [])
joined_three b (p ∷ q ∷ r ∷ t ∷ ps) h = absurd (omega arith)

-- a bar's line as a line
abbrev as_read : Option BarNumbers → Result InputLine InputError
as_read (Some b) = Ok (Bar b)
as_read None = Err BadNumber

bar_do_lem : (l : List ℕ) (is : List Input) (r : Option BarNumbers) → line_do l is (as_read r) ≡ (bar_do r >>= λ i. Got (is ++ i ∷ []))
bar_do_lem l is (Some b) = refl
bar_do_lem l is None = refl

bar-ok : (k l : List ℕ) → length k ≤ length l → (r : Option BarNumbers) → BarOk k r → LineOk l (as_read r)
bar-ok k l n (Some b) h = (h.0, omega (arith, h.1))
bar-ok k l n None h = tt

module _ {s : List ℕ} {from to r : ℕ} (p : Part s from to) (f : FirstAt s from to pipe r) where
  abbrev line : List ℕ
  line = slice from to s

  first : get_or (split pipe line) 0 [] ≡ slice from r s
  first =
      elim (dec_lt r to) [
        | yes h ↦ ap (λ ps. get_or ps 0 []) (split-next p f h)
        | no h ↦ (let e : r ≡ to = omega (arith, f.high) in ap (λ ps. get_or ps 0 []) (split-last p f e) ∙ ap (λ (k : ℕ). slice from k s) (sym e))
      ]

  module _ (is_b : same (slice from r s) (66 ∷ []) ≡ true) where
    pub line-count : length (split pipe line) ≢ 5 → LineAs line (Err Malformed)
    unfolding input_line bar_line bytes encoded
    line-count n = record { is = λ is. rw (first, is_b, ne_eqb (length (split pipe line)) 5 n); ok = tt }

    module _ (five : length (split pipe line) ≡ 5) where
      pub behind_tag : Cut s from to r 4
      behind_tag = cut p f five (omega arith)

      tagged : (66 ∷ []) ∷ split pipe (slice (r + 1) to s) ≡ split pipe line
      tagged = ap (λ t. t ∷ split pipe (slice (r + 1) to s)) (sym (same_eq (slice from r s) (66 ∷ []) is_b)) ∙ sym behind_tag.fields

      as_line : (is : List Input) → (bar_line (split pipe line) >>= λ i. Got (is ++ i ∷ [])) ≡ input_line is (split pipe line)
      unfolding input_line bytes encoded
      as_line is = rw (first, is_b)

      letter : bytes "B" ≡ 66 ∷ []
      unfolding bytes encoded
      letter = refl

      pub line-bar : {q : Option BarNumbers} → BarAs (slice (r + 1) to s) q → LineAs line (as_read q)
      line-bar {q} b = record {
        is = λ is.
            bar_do_lem line is q
            ∙ ap (λ x. x >>= λ i. Got (is ++ i ∷ [])) (b.is ∙ ap (λ t. bar_line (t ∷ split pipe (slice (r + 1) to s))) letter ∙ ap bar_line tagged)
            ∙ as_line is;
        ok = bar-ok (slice (r + 1) to s) line (omega (arith, length-slice (r + 1) to s p.within, length-slice from to s p.within, f.low)) q b.ok;
      }

  module _ (no-b : same (slice from r s) (66 ∷ []) ≡ false) where
    module _ (is-s : same (slice from r s) (83 ∷ []) ≡ true) where
      pub line-signal : length (split pipe line) ≡ 3 → LineAs line (Ok Signal)
      unfolding input_line bytes encoded
      line-signal three = record {
        is = λ is. rw (first, no-b, is-s, eq-eqb (length (split pipe line)) 3 three) (ap (λ l. add_signal (l ++ LF ∷ []) is) (ap (drop 2) shape));
        ok = omega (arith, ap length shape);
      }
        where
          rest : List ℕ
          rest = get_or (split pipe line) 1 [] ++ pipe ∷ get_or (split pipe line) 2 []

          shape : line ≡ 83 ∷ pipe ∷ rest
          shape =
              sym (joined-split pipe line) ∙ joined_three pipe (split pipe line) three
              ∙ ap (λ t. t ++ pipe ∷ rest) (first ∙ same_eq (slice from r s) (83 ∷ []) is-s)

      pub line-more : length (split pipe line) ≢ 3 → LineAs line (Err Malformed)
      unfolding input_line bytes encoded
      line-more n = record { is = λ is. rw (first, no-b, is-s, ne_eqb (length (split pipe line)) 3 n); ok = tt }

    pub line_other : same (slice from r s) (83 ∷ []) ≡ false → LineAs line (Err Malformed)
    unfolding input_line bytes encoded
    line_other no-s = record { is = λ is. rw (first, no-b, no-s); ok = tt }
