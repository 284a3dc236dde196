-- What is known of the events, the clauses and the words that compiling keeps of a fine sheet. Assumes nothing.
use Prim.Native.Nat.{ℕ, ◌*◌, ◌≤◌}
use native.Mathlib.Omega.{arith}
use mathlib.Core.Bool.{true}
use mathlib.Core.List.{List, []}
use mathlib.Core.Path.{◌≡◌, refl, sym, ◌∙◌}
use lib.ListN.{length, drop}
use Rattle.list.specs.Numbered.{rows}
use Rattle.list.proofs.Laws.{numbered-length, rows-length}
use Rattle.text.specs.Conditions.{every}
use Rattle.utf8.specs.Alone.{text_limit}
use Rattle.sheet.specs.Sheet.{Event, clause_limit}
use Rattle.sheet.specs.Places.{clause_numbers, clause_at, event_numbers, event_at, clauses_at, sheet_at, SheetOk}
use Rattle.sheet.specs.declared.SheetAt.{SheetAt}
use Rattle.table_words.specs.Words.{word_ok, key_parts, value_parts}
use Rattle.table_limits.specs.Fine.{clauses_weight, fine_clause, fine_event, fine_sheet}
use Rattle.table_limits.proofs.Facts.{event_facts, sheet_facts}
use Rattle.table_limits.proofs.Clauses.{all-fine, all-weight}
use Rattle.table_parts.specs.Codes.{keys_in, values_in}
use Rattle.table_wordbook.specs.Wordbook.{Words, words_of}
use Rattle.table_parts.specs.Draft.{clause_row, clause_rows, Drafted}
use Rattle.table_parts.proofs.Codes.{all-every, values-every}
use Rattle.table_parts.proofs.Rows.{every-numbered}
use Rattle.table_parts.proofs.Clauses.{keys-fine, values-fine, Coding}
use Rattle.table_parts.proofs.Events.{Chain, all-clauses}

module _ {s es cs : List ℕ} {a : SheetAt} (ok : SheetOk s es cs a) where
  clauses-many : length (clauses_at s cs a) ≡ a.clauses
  clauses-many = rows-length (clause_at s) clause_numbers a.clauses cs

  pub clauses-few : length (clauses_at s cs a) ≤ clause_limit
  clauses-few = omega (arith, clauses-many, ok.short)

  module _ (f : fine_sheet (sheet_at s es cs a) ≡ true) where
    abbrev event : ℕ → Event
    event i = event_at s (clauses_at s cs a) (drop (event_numbers * i) es)

    pub chain : Chain s es (clauses_at s cs a) a.events
    unfolding sheet_at rows
    chain =
        let fine = (sheet_facts (sheet_at s es cs a) f).events in
        record {
          single = λ i h. (ok.events i h).single;
          name = λ i h. (ok.events i h).name;
          clauses = λ i h. (ok.events i h).clauses;
          all = ok.all ∙ sym clauses-many;
          fine = λ i h. event_facts (event i) (every-numbered fine_event event a.events fine i h);
        }

    clauses-fine : every fine_clause (clauses_at s cs a) ≡ true
    unfolding sheet_at
    clauses-fine = rw (all-clauses chain) at (all-fine (sheet_at s es cs a) f)

    -- the texts of the clauses are no longer than a text
    pub clauses-light : clauses_weight (clauses_at s cs a) ≤ text_limit
    unfolding sheet_at
    clauses-light =
        let all = rw (all-clauses chain) at (all-weight (sheet_at s es cs a)) in
        omega (arith, all, (sheet_facts (sheet_at s es cs a) f).light)

module _ {s es cs : List ℕ} {a : SheetAt} {numbers codes : List ℕ} {ks vs : Words} (d : Drafted s es cs a numbers codes ks vs) where
  pub clauses-count : length (clause_rows cs numbers codes a.clauses) ≡ length (clauses_at s cs a)
  clauses-count = numbered-length (clause_row cs numbers codes) a.clauses ∙ sym (clauses-many d.sheet)

  pub coding : Coding s cs numbers codes a.clauses
  coding = record { few = d.sheet.short; clauses = d.sheet.clauses; numbers_are = d.numbers_are; codes_are = d.codes_are }

  module _ (f : fine_sheet (sheet_at s es cs a) ≡ true) where
    pub keys-ok : every (word_ok key_parts) (words_of ks) ≡ true
    unfolding every
    keys-ok = rw d.keys-are (all-every (word_ok key_parts) [] (keys_in (clauses_at s cs a)) refl (keys-fine (clauses_at s cs a) (clauses-fine d.sheet f)))

    pub values-ok : every (word_ok value_parts) (words_of vs) ≡ true
    values-ok = rw d.values-are (values-every (word_ok value_parts) (values_in (clauses_at s cs a)) (values-fine (clauses_at s cs a) (clauses-fine d.sheet f)))
