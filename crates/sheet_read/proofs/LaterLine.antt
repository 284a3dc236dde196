-- What a later line says, by its tag. Assumes nothing.
use Rattle.sheet.specs.declared.SheetError.{SheetError}
use Rattle.std.specs.Prelude.{Result, Err}
use Prim.Native.Nat.{ℕ, ◌+◌, ◌-◌, ◌<◌, ◌≤◌}
use native.Mathlib.Omega.{arith}
use mathlib.Core.Path.{◌≡◌, ◌∙◌, refl, sym, ap}
use mathlib.Core.Logic.{◌≢◌}
use mathlib.Core.Bool.{Bool, true, false, cond}
use mathlib.Core.List.{List, [], ◌∷◌}
use borrow.Author.Tests.{ne_eqb, eqb-true}
use lib.Dec.{eqb}
use lib.ListN.{length, get_or}
use lib.Seq.{slice, length-slice}
use Rattle.text.specs.Answer.{Answer, Refused}
use Rattle.text.specs.Literal.{bytes, encoded}
use Rattle.text.specs.Text.{same, split, onto, pipe}
use Rattle.text.specs.Read.{Part}
use Rattle.sheet.specs.Sheet.{Sheet, Kind, All, Any, Not, kind_of}
use Rattle.sheet.specs.Read.{event_fields, event_line, clause_line, later_line}
use Rattle.sheet.specs.Places.{fields_of, sheet_at, SheetOk}
use Rattle.sheet.specs.declared.SheetAt.{SheetAt}
use Rattle.sheet.proofs.Fields.{split-few, tag_other, tag_long, two_first}
use Rattle.sheet_event.specs.Line.{EventLineAs}
use Rattle.sheet_clause.specs.Line.{ClauseLineAs}
use Rattle.sheet_read.specs.Lines.{LineAs}

-- ---- lines that no tag fits, or that have one field

-- none of the five tags
no_tag : (q : Sheet) (f : List (List ℕ)) → let tag = get_or f 0 [] in
    same tag (79 ∷ []) ≡ false → same tag (88 ∷ []) ≡ false → same tag (65 ∷ []) ≡ false → same tag (89 ∷ []) ≡ false → same tag (78 ∷ []) ≡ false
    → later_line q f ≡ Refused 2
unfolding later_line bytes encoded
no_tag q f o x a y n = rw (o, x, a, y, n)

too_few : (exit : Bool) (n : ℕ) → n ≤ 1 → event_fields exit n ≡ false
too_few true n h = rw (ne_eqb n 3 (omega arith))
too_few false n h = rw (ne_eqb n 3 (omega arith)) (ne_eqb n 4 (omega arith))

event_one : (exit : Bool) (q : Sheet) (f : List (List ℕ)) → length f ≤ 1 → event_line exit q f ≡ Refused 2
unfolding event_line
event_one exit q f h = rw (too_few exit (length f) h)

clause-one : (kind : Kind) (q : Sheet) (f : List (List ℕ)) → length f ≤ 1 → clause_line kind q f ≡ Refused 2
unfolding clause_line
clause-one kind q f h = rw (ne_eqb (length f) 2 (omega arith))

one_field : (q : Sheet) (f : List (List ℕ)) → length f ≤ 1 → later_line q f ≡ Refused 2
unfolding later_line
one_field q f h =
    rw (event_one false q f h, event_one true q f h, clause-one (kind_of 0) q f h, clause-one (kind_of 1) q f h, clause-one (kind_of 2) q f h)
    (go (same (get_or f 0 []) (bytes "O")) (same (get_or f 0 []) (bytes "X")) (same (get_or f 0 []) (bytes "A")) (same (get_or f 0 []) (bytes "Y")) (same (get_or f 0 []) (bytes "N")))
  where
    go : (o x a y n : Bool) → ◌≡◌ {A = Answer Sheet} (cond o (Refused 2) (cond x (Refused 2) (cond a (Refused 2) (cond y (Refused 2) (cond n (Refused 2) (Refused 2)))))) (Refused 2)
    go true x a y n = refl
    go false true a y n = refl
    go false false true y n = refl
    go false false false true n = refl
    go false false false false true = refl
    go false false false false false = refl

-- a first byte that is no tag
other_byte : (q : Sheet) (b : ℕ) (t : List ℕ) → b ≢ 79 → b ≢ 88 → b ≢ 65 → b ≢ 89 → b ≢ 78 → later_line q (split pipe (b ∷ t)) ≡ Refused 2
other_byte q b t o x a y n = no_tag q (split pipe (b ∷ t)) (tag_other 79 b t o) (tag_other 88 b t x) (tag_other 65 b t a) (tag_other 89 b t y) (tag_other 78 b t n)

byte_alone : (b : ℕ) → eqb b pipe ≡ false → length (split pipe (b ∷ [])) ≡ 1
unfolding split onto
byte_alone b e = rw e

-- at most one byte
short-line : (q : Sheet) (l : List ℕ) → length l ≤ 1 → later_line q (split pipe l) ≡ Refused 2
short-line q [] h = one_field q (split pipe []) (omega (arith, split-few pipe []))
short-line q (b ∷ c ∷ l) h = absurd (omega arith)
short-line q (b ∷ []) h = go (eqb b pipe) refl
  where
    go : (t : Bool) → eqb b pipe ≡ t → later_line q (split pipe (b ∷ [])) ≡ Refused 2
    go true e =
        let k : b ≡ 124 = eqb-true b pipe e in
        other_byte q b [] (omega arith) (omega arith) (omega arith) (omega arith) (omega arith)
    go false e = one_field q (split pipe (b ∷ [])) (omega (arith, byte_alone b e))

-- ---- the five tags

tag_o : (q : Sheet) (t : List ℕ) → event_line false q ([] ∷ split pipe t) ≡ later_line q (split pipe (79 ∷ pipe ∷ t))
unfolding later_line event_line split onto same bytes encoded
tag_o q t = refl

tag_x : (q : Sheet) (t : List ℕ) → event_line true q ([] ∷ split pipe t) ≡ later_line q (split pipe (88 ∷ pipe ∷ t))
unfolding later_line event_line split onto same bytes encoded
tag_x q t = refl

tag_a : (q : Sheet) (t : List ℕ) → clause_line All q ([] ∷ split pipe t) ≡ later_line q (split pipe (65 ∷ pipe ∷ t))
unfolding later_line clause_line split onto same bytes encoded
tag_a q t = refl

tag_y : (q : Sheet) (t : List ℕ) → clause_line Any q ([] ∷ split pipe t) ≡ later_line q (split pipe (89 ∷ pipe ∷ t))
unfolding later_line clause_line split onto same bytes encoded
tag_y q t = refl

tag_n : (q : Sheet) (t : List ℕ) → clause_line Not q ([] ∷ split pipe t) ≡ later_line q (split pipe (78 ∷ pipe ∷ t))
unfolding later_line clause_line split onto same bytes encoded
tag_n q t = refl

-- ---- the line

module _ {s es cs : List ℕ} {a : SheetAt} (ok : SheetOk s es cs a) {from to : ℕ} (p : Part s from to) where
  pub line-short : to - from < 2 → LineAs s from to a es cs es cs (Err SheetError.Malformed)
  line-short h = record { is = sym (short-line (sheet_at s es cs a) (slice from to s) (omega (arith, length-slice from to s p.within))); ok = tt }

  module _ (h : 2 ≤ to - from) where
    pub on : Part s (from + 2) to
    on = record { order = omega arith; within = p.within }

    split-is : slice from to s ≡ get_or s from 0 ∷ get_or s (from + 1) 0 ∷ slice (from + 2) to s
    split-is = two_first p (omega arith)

    pub line-long : get_or s (from + 1) 0 ≢ pipe → LineAs s from to a es cs es cs (Err SheetError.Malformed)
    line-long n = record { is = sym (rw split-is (no_tag (sheet_at s es cs a) (split pipe (x ∷ y ∷ t)) (tag_long 79 x y t n) (tag_long 88 x y t n) (tag_long 65 x y t n) (tag_long 89 x y t n) (tag_long 78 x y t n))); ok = tt }
      where
        x : ℕ
        x = get_or s from 0

        y : ℕ
        y = get_or s (from + 1) 0

        t : List ℕ
        t = slice (from + 2) to s

    module _ (m : get_or s (from + 1) 0 ≡ pipe) where
      tagged : (x : ℕ) → get_or s from 0 ≡ x → split pipe (x ∷ pipe ∷ slice (from + 2) to s) ≡ fields_of s from to
      tagged x e = let k : x ∷ pipe ∷ slice (from + 2) to s ≡ slice from to s = sym (split-is ∙ rw (e, m)) in ap (split pipe) k

      pub line_other : get_or s from 0 ≢ 79 → get_or s from 0 ≢ 88 → get_or s from 0 ≢ 65 → get_or s from 0 ≢ 89 → get_or s from 0 ≢ 78 → LineAs s from to a es cs es cs (Err SheetError.Malformed)
      line_other o x b y n = record { is = sym (rw split-is (other_byte (sheet_at s es cs a) (get_or s from 0) (get_or s (from + 1) 0 ∷ slice (from + 2) to s) o x b y n)); ok = tt }

      module _ {fs : List ℕ} {r : Result SheetAt SheetError} where
        pub line_o : get_or s from 0 ≡ 79 → EventLineAs s (from + 2) to 0 a es fs r → LineAs s from to a es cs fs cs r
        line_o e k = record { is = (k cs ok).is ∙ tag_o (sheet_at s es cs a) (slice (from + 2) to s) ∙ ap (later_line (sheet_at s es cs a)) (tagged 79 e); ok = (k cs ok).ok }

        pub line_x : get_or s from 0 ≡ 88 → EventLineAs s (from + 2) to 1 a es fs r → LineAs s from to a es cs fs cs r
        line_x e k = record { is = (k cs ok).is ∙ tag_x (sheet_at s es cs a) (slice (from + 2) to s) ∙ ap (later_line (sheet_at s es cs a)) (tagged 88 e); ok = (k cs ok).ok }

      module _ {fs ds : List ℕ} {r : Result SheetAt SheetError} where
        pub line_a : get_or s from 0 ≡ 65 → ClauseLineAs s (from + 2) to 0 a es cs fs ds r → LineAs s from to a es cs fs ds r
        line_a e k = record { is = k.is ∙ tag_a (sheet_at s es cs a) (slice (from + 2) to s) ∙ ap (later_line (sheet_at s es cs a)) (tagged 65 e); ok = k.ok }

        pub line_y : get_or s from 0 ≡ 89 → ClauseLineAs s (from + 2) to 1 a es cs fs ds r → LineAs s from to a es cs fs ds r
        line_y e k = record { is = k.is ∙ tag_y (sheet_at s es cs a) (slice (from + 2) to s) ∙ ap (later_line (sheet_at s es cs a)) (tagged 89 e); ok = k.ok }

        pub line_n : get_or s from 0 ≡ 78 → ClauseLineAs s (from + 2) to 2 a es cs fs ds r → LineAs s from to a es cs fs ds r
        line_n e k = record { is = k.is ∙ tag_n (sheet_at s es cs a) (slice (from + 2) to s) ∙ ap (later_line (sheet_at s es cs a)) (tagged 78 e); ok = k.ok }
