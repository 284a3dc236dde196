-- The line `-`, and the invariant of the loop that looks for it. Assumes nothing.
use Prim.Native.Nat.{ℕ, ◌+◌, ◌-◌, ◌≤◌, ◌<◌}
use native.Mathlib.Omega.{arith}
use mathlib.Core.Bool.{true, false, cond}
use mathlib.Core.List.{List, [], ◌∷◌, ◌++◌, append-nil, append_assoc, flat_map}
use mathlib.Core.Logic.{◌≢◌}
use Rattle.std.specs.Prelude.{Option, None, Some}
use mathlib.Core.Path.{◌≡◌, ◌∙◌, refl, sym, ap, ap₂}
use lib.ListN.{length, take, drop, length-append, take-append-drop}
use lib.Seq.{slice, length-slice, length-take-le, take_at}
use Rattle.text.specs.Literal.{bytes, encoded}
use Rattle.text.specs.Read.{Part, FirstAt}
use Rattle.text.specs.Text.{LF, same, split}
use Rattle.text.proofs.Laws.{part_nil, part_end}
use Rattle.text.proofs.Parts.{split_some, split-next, split-last}
use Rattle.text.proofs.Same.{same_eq}
use Rattle.text.proofs.Joined.{part-first}
use Rattle.position.specs.Run.{Cut, behind, cut, ended}
use Rattle.run_input.specs.Lines.{CutAt}

-- ---- lines in front of those of a sheet

abbrev pub after : List (List ℕ) → Option Cut → Option Cut
after ps None = None
after ps (Some c) = Some (record { sheet = ps ++ c.sheet; bars = c.bars })

after_nothing : (o : Option Cut) → after [] o ≡ o
after_nothing None = refl
after_nothing (Some c) = refl

after_one : (ps : List (List ℕ)) (p : List ℕ) (o : Option Cut) → after ps (behind p o) ≡ after (ps ++ p ∷ []) o
after_one ps p None = refl
after_one ps p (Some c) = ap (λ l. Some (record { sheet = l; bars = c.bars })) (sym (append_assoc ps (p ∷ []) c.sheet))

ended-one : (ps : List (List ℕ)) (p : List ℕ) → ended (ps ++ p ∷ []) ≡ ended ps ++ (p ++ LF ∷ [])
unfolding ended flat_map
ended-one [] p = append-nil (p ++ LF ∷ [])
ended-one (q ∷ ps) p =
    ap (λ l. q ++ LF ∷ [] ++ l) (ended-one ps p) ∙ sym (append_assoc (q ++ LF ∷ []) (ended ps) (p ++ LF ∷ []))

ended-none : ended [] ≡ []
unfolding ended flat_map
ended-none = refl

-- ---- one line, and the last part

cut-last : (p : List ℕ) → cut (p ∷ []) ≡ None
unfolding cut
cut-last p = refl

abbrev both : List (List ℕ) → List (List ℕ) → Option Cut
both x y = Some (record { sheet = x; bars = y })

cut_line : (p : List ℕ) (ps : List (List ℕ)) → 1 ≤ length ps → cut (p ∷ ps) ≡ cond (same p (45 ∷ [])) (both [] ps) (behind p (cut ps))
unfolding cut bytes encoded
cut_line p [] h = absurd (omega arith)
cut_line p (q ∷ ps) h = refl

split-none : split LF [] ≡ [] ∷ []
unfolding split
split-none = refl

-- ---- the loop

-- the lines of s before `at` are `sheet`, and the line `-` is not among them
pub record Seeking (s : List ℕ) (at : ℕ) : Type 0 where
  pub le : at ≤ length s
  pub sheet : List (List ℕ)
  pub text : ended sheet ≡ take at s
  pub is : cut (split LF s) ≡ after sheet (cut (split LF (slice at (length s) s)))

pub seeking_first : (s : List ℕ) → Seeking s 0
seeking_first s = record {
  le = omega arith;
  sheet = [];
  text = ended-none;
  is = rw (part_end 0 s) (sym (after_nothing (cut (split LF s))));
}

module _ {s : List ℕ} {at : ℕ} (k : Seeking s at) where
  pub seeking_last : length s ≤ at → cut (split LF s) ≡ None
  seeking_last h = k.is ∙ rw (part_nil at (length s) s h, split-none, cut-last [])

  module _ {e : ℕ} (f : FirstAt s at (length s) LF e) where
    rest : Part s at (length s)
    rest = record { order = k.le; within = omega arith }

    pub seeking_cut : e ≡ length s → cut (split LF s) ≡ None
    seeking_cut h = k.is ∙ rw (split-last rest f h, cut-last (slice at (length s) s))

    module _ (m : e ≢ length s) where
      inner : e < length s
      inner = omega (arith, f.high)

      abbrev on : List (List ℕ)
      on = split LF (slice (e + 1) (length s) s)

      next : cut (split LF s) ≡ after k.sheet (cond (same (slice at e s) (45 ∷ [])) (both [] on) (behind (slice at e s) (cut on)))
      next = k.is ∙ ap (λ ps. after k.sheet (cut ps)) (split-next rest f inner) ∙ ap (after k.sheet) (cut_line (slice at e s) on (split_some LF (slice (e + 1) (length s) s)))

      size : length (slice at e s) ≡ e - at
      size = length-slice at e s f.high

      pub seeking_found : same (slice at e s) (45 ∷ []) ≡ true → CutAt s at
      seeking_found h =
          let one : e ≡ at + 1 = omega (arith, size, ap length (same_eq (slice at e s) (45 ∷ []) h), f.low) in
          let two : e + 1 ≡ at + 2 = omega arith in
          record {
            room = omega (arith, inner);
            sheet = k.sheet;
            is = next ∙ rw h (ap₂ both (append-nil k.sheet) (ap (split LF) (part_end (e + 1) s ∙ ap (λ i. drop i s) two)));
            text = k.text;
          }

      pub seeking_more : same (slice at e s) (45 ∷ []) ≡ false → Seeking s (e + 1)
      seeking_more h = record {
        le = omega (arith, inner);
        sheet = k.sheet ++ slice at e s ∷ [];
        text = ended-one k.sheet (slice at e s) ∙ ap (λ l. l ++ line) k.text ∙ front;
        is = next ∙ rw h (after_one k.sheet (slice at e s) (cut on));
      }
        where
          line : List ℕ
          line = slice at e s ++ LF ∷ []

          behind_it : List ℕ
          behind_it = slice (e + 1) (length s) s

          line_on : drop at s ≡ line ++ behind_it
          line_on = sym (part_end at s) ∙ part-first rest f inner ∙ sym (append_assoc (slice at e s) (LF ∷ []) behind_it)

          whole : s ≡ take at s ++ line ++ behind_it
          whole = sym (take-append-drop at s) ∙ ap (λ l. take at s ++ l) line_on ∙ sym (append_assoc (take at s) line behind_it)

          long : length (take at s ++ line) ≡ e + 1
          long = omega (arith, length-append (take at s) line, length-take-le at s k.le, length-append (slice at e s) (LF ∷ []), size, f.low)

          front : take at s ++ line ≡ take (e + 1) s
          front = sym (ap (take (e + 1)) whole ∙ take_at (take at s ++ line) behind_it (e + 1) long)
