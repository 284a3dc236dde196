-- What is asked of a book behind its opening: the first refusal counts. Assumes nothing.
use mathlib.Core.Path.{◌≡◌, ◌∙◌, refl, sym, ap}
use mathlib.Core.Bool.{Bool, true, false}
use mathlib.Core.List.{List}
use Prim.Native.Nat.{ℕ}
use Rattle.std.specs.Prelude.{Option, None, Some, Result, Ok, Err}
use Rattle.text.specs.Answer.{Answer, Refused, Got, ◌>>=◌, must, given}
use Rattle.sheet.specs.Sheet.{Sheet}
use Rattle.table.specs.Layout.{table_length, parts_in}
use Rattle.table.specs.Table.{sheet_of}
use Rattle.book.specs.Layout.{capacity}
use Rattle.book.specs.Calls.{sized, checked}
use Rattle.book.specs.Opened.{open_refusal}
use Rattle.book.specs.declared.OpenError.{OpenError}
use Rattle.row_open.specs.Open.{Opened, open_do, OpenedAs}
use lib.Dec.{eqb}
use lib.ListN.{length}

-- ---- a request behind the opening

-- a chain of three is read from either end
behind : {X : Type 0} (a : Answer ℕ) (f : ℕ → Answer Sheet) (k : ℕ → Sheet → Answer X)
    → ((a >>= λ c. f c >>= λ s. Got (record { bars = c; sheet = s })) >>= λ (o : Opened). k o.bars o.sheet) ≡ (a >>= λ c. f c >>= k c)
behind (Refused n) f k = refl
behind {X} (Got c) f k = go (f c)
  where
    go : (s : Answer Sheet) → ((s >>= λ s. Got (record { bars = c; sheet = s })) >>= λ (o : Opened). k o.bars o.sheet) ≡ (s >>= k c)
    go (Refused n) = refl
    go (Got s) = refl

module _ {t b : List ℕ} {X : Type 0} (k : ℕ → Sheet → Answer X) where
  pub not_opened : {e : OpenError} → OpenedAs t b (Err e) → Refused (open_refusal e) ≡ (sized t b >>= λ c. checked t c b >>= k c)
  not_opened z = ap (λ a. a >>= λ (o : Opened). k o.bars o.sheet) z.is ∙ behind (sized t b) (λ c. checked t c b) k

  pub opened : {c : ℕ} → OpenedAs t b (Ok c) → k c (sheet_of (parts_in t)) ≡ (sized t b >>= λ c. checked t c b >>= k c)
  opened z = ap (λ a. a >>= λ (o : Opened). k o.bars o.sheet) z.is ∙ behind (sized t b) (λ c. checked t c b) k

-- ---- a test with the number of the lengths

-- where it fails, that number is the answer, whatever the lengths
pub short : {X : Type 0} (t b : List ℕ) (k : ℕ → Answer X) → (sized t b >>= λ c. must 8 false >>= λ _. k c) ≡ Refused 8
short {X} t b k = go (eqb (length t) table_length) (capacity b)
  where
    go : (y : Bool) (o : Option ℕ) → ((must 8 y >>= λ _. given 8 o) >>= λ c. must 8 false >>= λ _. k c) ≡ Refused 8
    go false o = refl
    go true None = refl
    go true (Some c) = refl
