-- The parts that compiling writes are right, mean the sheet, and fit a table. Assumes nothing.
use Prim.Native.Nat.{ℕ}
use native.Mathlib.Omega.{arith}
use mathlib.Core.Bool.{true}
use mathlib.Core.List.{List}
use mathlib.Core.Path.{◌≡◌, ◌∙◌}
use borrow.Author.Tests.{le-leb}
use lib.ListN.{length}
use Rattle.list.proofs.Laws.{numbered-length}
use Rattle.text.proofs.Conditions.{◌also◌, none_left, sure}
use Rattle.sheet.specs.Sheet.{interval_limit, timeout_limit, stop_limit, t0_limit, evening_limit}
use Rattle.sheet.specs.Places.{sheet_at}
use Rattle.sheet.specs.declared.SheetAt.{SheetAt}
use Rattle.table_words.specs.Words.{key_parts, value_parts}
use Rattle.table_limits.specs.Fine.{fine_sheet}
use Rattle.table_limits.proofs.Facts.{sheet_facts}
use Rattle.table.specs.Table.{settings_ok, parts_ok, sheet_of}
use Rattle.table_layout.specs.Fits.{Sized}
use Rattle.table_wordbook.specs.Wordbook.{Words}
use Rattle.table_parts.specs.Draft.{word_rows, event_row, draft, Drafted}
use Rattle.table_parts.proofs.Words.{word-texts, words-ok, words-fit, words_count, rows-count}
use Rattle.table_parts.proofs.Clauses.{keys_to, values_to, few-keys, few-values, clauses_mean, clauses-ok, clauses-fit}
use Rattle.table_parts.proofs.Events.{events_mean, events-ok, events-fit}
use Rattle.table_parts.proofs.Known.{clauses-few, clauses-count, coding, chain, keys-ok, values-ok}
use Rattle.table_parts.proofs.Sizes.{texts-light}

module _ {s es cs : List ℕ} {a : SheetAt} {numbers codes : List ℕ} {ks vs : Words} (d : Drafted s es cs a numbers codes ks vs) (f : fine_sheet (sheet_at s es cs a) ≡ true) where
  keys-count : length (word_rows ks.starts ks.orders ks.ranks ks.count) ≡ length (keys_to s cs a.clauses)
  keys-count = rows-count ks (keys_to s cs a.clauses) d.keys-are

  values-count : length (word_rows vs.starts vs.orders vs.ranks vs.count) ≡ length (values_to s cs a.clauses)
  values-count = rows-count vs (values_to s cs a.clauses) d.values-are

  -- "A table is accepted when ..": the parts are accepted
  pub draft-ok : parts_ok (draft s es cs a numbers codes ks vs) ≡ true
  unfolding draft parts_ok sheet_at
  draft-ok =
      let fine = sheet_facts (sheet_at s es cs a) f in
      rw (keys-count, values-count, clauses-count d)
      (sure
      (fine.clean_name
      also fine.clean_symbol
      also events-ok (chain d.sheet f)
      also clauses-ok (coding d)
      also words-ok d.keys key_parts (keys-ok d f)
      also words-ok d.values value_parts (values-ok d f)
      also none_left))

  -- they mean the sheet
  pub draft_means : sheet_of (draft s es cs a numbers codes ks vs) ≡ sheet_at s es cs a
  unfolding draft sheet_of sheet_at
  draft_means =
      let keys = word-texts d.keys ∙ d.keys-are in
      let values = word-texts d.values ∙ d.values-are in
      rw (keys, values, clauses_mean (coding d), events_mean (chain d.sheet f))

  settings-ok : settings_ok (draft s es cs a numbers codes ks vs).settings ≡ true
  unfolding draft settings_ok
  settings-ok =
      let ok = d.sheet.settings in
      sure
      (le-leb a.interval interval_limit ok.interval
      also le-leb a.timeout timeout_limit ok.timeout
      also le-leb a.stop stop_limit ok.stop
      also le-leb a.t0 t0_limit ok.t0
      also le-leb a.evening evening_limit ok.evening
      also none_left)

  -- they fit a table
  pub draft-sized : Sized (draft s es cs a numbers codes ks vs)
  unfolding draft sheet_at
  draft-sized =
      let fine = sheet_facts (sheet_at s es cs a) f in
      let light = texts-light d f in
      let keys = few-keys (coding d) in
      let values = few-values (coding d) in
      record {
        settings = settings-ok;
        events = omega (arith, d.sheet.few, numbered-length (event_row es) a.events);
        clauses = omega (arith, clauses-count d, clauses-few d.sheet);
        keys = omega (arith, keys-count, keys);
        values = omega (arith, values-count, values);
        name = fine.short_name;
        symbol = fine.short_symbol;
        texts = light;
        event_rows = events-fit (chain d.sheet f) (omega (arith, light)) (omega (arith, clauses-few d.sheet));
        clause_rows = clauses-fit (coding d);
        key_rows = words-fit d.keys (omega (arith, light)) (omega (arith, words_count ks (keys_to s cs a.clauses) d.keys-are, keys));
        value_rows = words-fit d.values (omega (arith, light)) (omega (arith, words_count vs (values_to s cs a.clauses) d.values-are, values));
      }
