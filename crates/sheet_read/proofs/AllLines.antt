-- Line by line to the end of a sheet, and the whole text. Assumes nothing.
use Prim.Native.Nat.{ℕ, ◌+◌, ◌<◌, ◌≤◌}
use native.Mathlib.Omega.{arith}
use native.Mathlib.Decide.{dec_lt}
use mathlib.Core.Path.{◌≡◌, ◌∙◌, refl, sym, ap}
use mathlib.Core.Logic.{◌≢◌}
use mathlib.Core.Bool.{true, false}
use mathlib.Core.List.{List}
use Rattle.sheet.specs.declared.SheetError.{SheetError}
use Rattle.std.specs.Prelude.{Option, None, Some, Result, Ok, Err}
use borrow.Author.Tests.{le-leb, lt-leb}
use lib.ListN.{length}
use Rattle.text.specs.Answer.{Answer, Refused, Got, ◌>>=◌, given}
use Rattle.text.specs.Text.{LF}
use Rattle.text.specs.Read.{Part, FirstAt}
use Rattle.text.proofs.Laws.{part_end}
use Rattle.text.proofs.Lines.{lines_from, lines_end, lines_cut, lines_next}
use Rattle.utf8.specs.Utf8.{utf8}
use Rattle.utf8.specs.Alone.{text, text_limit}
use Rattle.sheet.specs.Sheet.{Sheet}
use Rattle.sheet.specs.Read.{sheet_line, later_line, position_line, read_sheet}
use Rattle.sheet.specs.Places.{fields_of, sheet_at, SheetOk, SheetIs, SheetAs}
use Rattle.sheet.specs.declared.SheetAt.{SheetAt}
use Rattle.sheet_first.specs.First.{PositionAs}
use Rattle.sheet_read.specs.Lines.{lines_on, LineAs, LinesAs}

-- ---- refusals

-- a refusal of one step is one of the whole
stays : {s es cs : List ℕ} {x : Answer Sheet} {e : SheetError} → SheetIs s es cs x (Err e) → (k : Sheet → Answer Sheet) (y : Answer Sheet) → y ≡ (x >>= k) → SheetIs s es cs y (Err e)
stays i k y q = record { is = ap (λ x. x >>= k) i.is ∙ sym q; ok = tt }

-- one line more, then the others
folded : (x : Answer Sheet) (k : Option Sheet → Answer (Option Sheet)) → (((x >>= λ t. Got (Some t)) >>= k) >>= given 2) ≡ (x >>= λ t. k (Some t) >>= given 2)
folded (Refused n) k = refl
folded (Got t) k = refl

-- ---- later lines

-- the lines before i made of the sheet a₀ the sheet a
pub record Going (s : List ℕ) (from : ℕ) (a₀ : SheetAt) (es₀ cs₀ es cs : List ℕ) (a : SheetAt) (i : ℕ) : Type 0 where
  pub le : i ≤ length s
  pub events : length es ≡ 192
  pub clauses : length cs ≡ 2304
  pub ok : SheetOk s es cs a
  pub same : lines_on s (sheet_at s es₀ cs₀ a₀) from ≡ lines_on s (sheet_at s es cs a) i

module _ {s : List ℕ} {from : ℕ} {a₀ : SheetAt} {es₀ cs₀ es cs : List ℕ} {a : SheetAt} {i : ℕ} (g : Going s from a₀ es₀ cs₀ es cs a i) where
  pub going-last : length s ≤ i → LinesAs s from a₀ es₀ cs₀ es cs (Ok a)
  going-last h = record { is = sym (g.same ∙ ap (λ x. x >>= given 2) (lines_end sheet_line (Some (sheet_at s es cs a)) s i h)); ok = g.ok }

  module _ {e : ℕ} (f : FirstAt s i (length s) LF e) where
    rest : Part s i (length s)
    rest = record { order = g.le; within = omega arith }

    pub going-cut : i < length s → e ≡ length s → LinesAs s from a₀ es₀ cs₀ es cs (Err SheetError.Malformed)
    going-cut h k = record { is = sym (g.same ∙ ap (λ x. x >>= given 2) (lines_cut sheet_line (Some (sheet_at s es cs a)) rest f h k)); ok = tt }

    module _ (m : e ≢ length s) where
      pub line : Part s i e
      line = record { order = f.low; within = f.high }

      one_more : lines_on s (sheet_at s es₀ cs₀ a₀) from ≡ (later_line (sheet_at s es cs a) (fields_of s i e) >>= λ t. lines_on s t (e + 1))
      one_more =
          g.same ∙ ap (λ x. x >>= given 2) (lines_next sheet_line (Some (sheet_at s es cs a)) rest f (omega (arith, f.high)))
          ∙ folded (later_line (sheet_at s es cs a) (fields_of s i e)) (λ y. lines_from sheet_line y s (e + 1))

      module _ {fs ds : List ℕ} where
        pub going-refused : {d : SheetError} → LineAs s i e a es cs fs ds (Err d) → LinesAs s from a₀ es₀ cs₀ fs ds (Err d)
        going-refused l = stays l (λ t. lines_on s t (e + 1)) (lines_on s (sheet_at s es₀ cs₀ a₀) from) one_more

        pub going_next : {b : SheetAt} → LineAs s i e a es cs fs ds (Ok b) → length fs ≡ 192 → length ds ≡ 2304 → Going s from a₀ es₀ cs₀ fs ds b (e + 1)
        going_next l p q = record {
          le = omega (arith, f.high);
          events = p;
          clauses = q;
          ok = l.ok;
          same = one_more ∙ ap (λ x. x >>= λ t. lines_on s t (e + 1)) (sym l.is);
        }

pub going-first : {s es cs : List ℕ} {a : SheetAt} {i : ℕ} → i ≤ length s → length es ≡ 192 → length cs ≡ 2304 → SheetOk s es cs a → Going s i a es cs es cs a i
going-first h p q k = record { le = h; events = p; clauses = q; ok = k; same = refl }

-- ---- the whole text

pub too_long : (s es cs : List ℕ) → text_limit < length s → SheetAs s es cs (Err SheetError.PastLimit)
unfolding read_sheet text
too_long s es cs h = record { is = rw (lt-leb (length s) 16384 h); ok = tt }

pub not-utf8 : (s es cs : List ℕ) → length s ≤ text_limit → utf8 s ≡ false → SheetAs s es cs (Err SheetError.NotUtf8)
unfolding read_sheet text
not-utf8 s es cs h u = record { is = rw (le-leb (length s) 16384 h, u); ok = tt }

-- a text of the right length and of UTF-8 is judged by its lines
lines_are : (s : List ℕ) → length s ≤ text_limit → utf8 s ≡ true → read_sheet s ≡ (lines_from sheet_line None s 0 >>= given 2)
unfolding read_sheet text
lines_are s h u = rw (le-leb (length s) 16384 h, u, part_end 0 s)

module _ (s es cs : List ℕ) (short : length s ≤ text_limit) (right : utf8 s ≡ true) {e : ℕ} (f : FirstAt s 0 (length s) LF e) where
  whole : Part s 0 (length s)
  whole = record { order = omega arith; within = omega arith }

  pub no_line : e ≡ length s → SheetAs s es cs (Err SheetError.Malformed)
  no_line k = record {
    is = sym (lines_are s short right ∙ elim (dec_lt 0 (length s)) [
      | yes l ↦ ap (λ x. x >>= given 2) (lines_cut sheet_line None whole f l k)
      | no l ↦ ap (λ x. x >>= given 2) (lines_end sheet_line None s 0 (omega arith))
    ]);
    ok = tt;
  }

  module _ (m : e ≢ length s) where
    first_then : read_sheet s ≡ (position_line (fields_of s 0 e) >>= λ t. lines_on s t (e + 1))
    first_then =
        lines_are s short right ∙ ap (λ x. x >>= given 2) (lines_next sheet_line None whole f (omega (arith, f.high)))
        ∙ folded (position_line (fields_of s 0 e)) (λ y. lines_from sheet_line y s (e + 1))

    pub first-refused : {d : SheetError} → PositionAs s e (Err d) → SheetAs s es cs (Err d)
    first-refused p = stays (p es cs) (λ t. lines_on s t (e + 1)) (read_sheet s) first_then

    pub sheet-is : {a : SheetAt} → PositionAs s e (Ok a) → {fs ds : List ℕ} {q : Result SheetAt SheetError} → LinesAs s (e + 1) a es cs fs ds q → SheetAs s fs ds q
    sheet-is p l = record { is = l.is ∙ sym (first_then ∙ ap (λ x. x >>= λ t. lines_on s t (e + 1)) (sym (p es cs).is)); ok = l.ok }
