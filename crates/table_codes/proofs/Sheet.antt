-- What the code asks follows from a fine sheet's places, and what it answers is a draft. Assumes nothing.
use Prim.Native.Nat.{ℕ, ◌*◌, ◌≤◌}
use mathlib.Core.Path.{◌≡◌}
use mathlib.Core.Bool.{true}
use mathlib.Core.List.{List}
use lib.ListN.{length}
use Rattle.sheet.specs.Places.{clause_numbers, sheet_at, SheetOk}
use Rattle.sheet.specs.declared.SheetAt.{SheetAt}
use Rattle.table_limits.specs.Fine.{fine_sheet}
use Rattle.table_wordbook.specs.Wordbook.{Words}
use Rattle.table_parts.specs.Draft.{Drafted}
use Rattle.table_parts.proofs.Known.{clauses-light}
use Rattle.table_codes.specs.Read.{RowsOk, KeysNoted, ValuesCoded}

module _ {s es cs : List ℕ} {a : SheetAt} (ok : SheetOk s es cs a) where
  -- the clauses of a sheet within its limits
  pub sheet-rows : fine_sheet (sheet_at s es cs a) ≡ true → clause_numbers * a.clauses ≤ length cs → RowsOk s cs a.clauses
  sheet-rows f h = record { rows = h; clauses = ok.clauses; light = clauses-light ok f }

  -- two books and their numbers
  pub drafted : {numbers codes numbers₁ codes₁ : List ℕ} {ks vs ks₁ vs₁ : Words} → KeysNoted s cs a.clauses ks numbers ks₁ numbers₁
      → ValuesCoded s cs a.clauses vs codes vs₁ codes₁ → Drafted s es cs a numbers₁ codes₁ ks₁ vs₁
  drafted k v = record {
    sheet = ok;
    keys = k.book;
    keys-are = k.words;
    numbers_are = k.are;
    values = v.book;
    values-are = v.words;
    codes_are = v.are;
  }
