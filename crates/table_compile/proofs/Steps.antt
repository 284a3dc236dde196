-- What each step of compiling asks follows from the steps before it. Assumes nothing.
use Prim.Native.Nat.{ℕ, suc, ◌*◌, ◌<◌, ◌≤◌}
use native.Mathlib.Omega.{arith}
use mathlib.Core.List.{List}
use mathlib.Core.Path.{◌≡◌, sym, ap, ◌∙◌}
use lib.ListN.{length, get_or, replicate, length-replicate}
use Rattle.std.specs.Prelude.{Ok}
use Rattle.std.specs.Borrow.{MutBor}
use Rattle.utf8.specs.Alone.{text_limit}
use Rattle.sheet.specs.Sheet.{event_limit, clause_limit}
use Rattle.sheet.specs.Places.{clause_numbers, event_numbers, sheet_at, SheetAs}
use Rattle.sheet.specs.declared.SheetAt.{SheetAt}
use Rattle.table_limits.proofs.Theorem.{sheet-fine}
use Rattle.table.specs.Compile.{Means}
use Rattle.table_layout.specs.Build.{table_of}
use Rattle.table_wordbook.specs.Wordbook.{Words, book_words}
use Rattle.table_wordbook.specs.Read.{NewIn}
use Rattle.table_wordbook.specs.declared.Wordbook.{Wordbook}
use Rattle.table_parts.specs.Draft.{draft, Drafted}
use Rattle.table_parts.proofs.Right.{draft-sized}
use Rattle.table_codes.specs.Read.{RowsOk, Room, KeysNoted, ValuesCoded}
use Rattle.table_codes.proofs.Sheet.{sheet-rows, drafted}
use Rattle.table_write.specs.Fits.{TableFits}
use Rattle.table_write.proofs.Asked.{table_fits}
use Rattle.table_compile.specs.Steps.{SheetDone}
use Rattle.table_compile.proofs.Compiled.{written_means}

-- a sheet was read
pub sheet-done : {s es cs : List ℕ} {a : SheetAt} → SheetAs s es cs (Ok a) → length es ≡ event_numbers * event_limit → length cs ≡ clause_numbers * clause_limit
    → SheetDone s es cs a
sheet-done {s} {es} {cs} {a} r e c =
    record {
      ok = r.ok;
      fine = sheet-fine s (sheet_at s es cs a) (sym r.is);
      events-room = e;
      clauses-room = c;
    }

pub sheet-clauses : {s es cs : List ℕ} {a : SheetAt} → SheetDone s es cs a → RowsOk s cs a.clauses
sheet-clauses d = sheet-rows d.ok d.fine (omega (arith, d.clauses-room, d.ok.short))

-- a new book in fresh buffers has room for n words
module _ {starts orders ranks : MutBor (List ℕ)} {b : Wordbook} (w : NewIn starts orders ranks b) where
  pub fresh-room : (n m : ℕ) → starts.now ≡ replicate (suc n) 0 → orders.now ≡ replicate n 0 → ranks.now ≡ replicate n 0 → n < 65536 → m ≤ n
      → Room (book_words (replicate text_limit 0) b) (replicate n 0) m
  fresh-room n m s o r h k =
      let texts-are = length-replicate {A = ℕ} text_limit 0 in
      let words-are = length-replicate {A = ℕ} n 0 in
      let starts-are = ap length (w.starts.1 ∙ s) ∙ length-replicate {A = ℕ} (suc n) 0 in
      let orders-are = ap length (w.orders.1 ∙ o) ∙ words-are in
      let ranks-are = ap length (w.ranks.1 ∙ r) ∙ words-are in
      record {
        empty = w.empty;
        first = ap (λ l. get_or l 0 0) (w.starts.1 ∙ s);
        few = omega arith;
        texts-room = omega (arith, texts-are);
        starts-room = omega (arith, starts-are);
        orders-room = omega (arith, orders-are);
        ranks-room = omega (arith, ranks-are);
        numbers_room = omega (arith, words-are);
      }

-- its keys and values are noted
module _ {s es cs : List ℕ} {a : SheetAt} (d : SheetDone s es cs a) {numbers codes numbers₁ codes₁ : List ℕ} {ks vs ks₁ vs₁ : Words}
    (k : KeysNoted s cs a.clauses ks numbers ks₁ numbers₁) (v : ValuesCoded s cs a.clauses vs codes vs₁ codes₁) where
  noted : Drafted s es cs a numbers₁ codes₁ ks₁ vs₁
  noted = drafted d.ok k v

  -- the table can be written of the words that stand in both books
  module _ {kw vw : Words} (kr : kw ≡ ks₁) (vr : vw ≡ vs₁) where
    pub noted-fit : length numbers ≡ clause_limit → length codes ≡ 3 * clause_limit → TableFits s es cs a numbers₁ codes₁ kw vw
    noted-fit hn hc =
        rw (kr, vr)
        (table_fits noted (draft-sized noted d.fine)
        (omega (arith, d.events-room, d.ok.few))
        (omega (arith, d.clauses-room, d.ok.short))
        (omega (arith, k.numbers_length, hn, d.ok.short))
        (omega (arith, v.numbers_length, hc, d.ok.short)))

    -- and means the sheet
    pub noted_mean : {after : List ℕ} → after ≡ table_of (draft s es cs a numbers₁ codes₁ kw vw) → Means after (sheet_at s es cs a)
    noted_mean e = written_means noted d.fine (rw (kr, vr) at e)
