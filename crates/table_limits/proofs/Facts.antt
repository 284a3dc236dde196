-- What a fine clause, a fine event and a fine sheet are known by. Assumes nothing.
use Prim.Native.Nat.{◌≤◌}
use mathlib.Core.Bool.{true}
use mathlib.Core.Path.{◌≡◌}
use borrow.Author.Tests.{le-leb, leb-true}
use lib.ListN.{length}
use Rattle.text.specs.Conditions.{every}
use Rattle.text.proofs.Conditions.{◌also◌, none_left, sure, fact}
use Rattle.utf8.specs.Alone.{text_limit}
use Rattle.signal.specs.Signal.{score_limit}
use Rattle.sheet.specs.Sheet.{Clause, Event, Sheet, clause_count, event_limit, clause_limit, name_limit, interval_limit, timeout_limit, stop_limit, evening_limit, lots_ok}
use Rattle.table_words.specs.Words.{clean, word_ok, key_parts}
use Rattle.table_limits.specs.Fine.{value_ok, operate_limit, fine_clause, fine_event, weight, fine_sheet}

-- ---- a clause

pub record ClauseFacts (c : Clause) : Type 0 where
  pub key : word_ok key_parts c.signal.key ≡ true
  pub v1 : value_ok c.signal.v1 ≡ true
  pub v2 : value_ok c.signal.v2 ≡ true
  pub v3 : value_ok c.signal.v3 ≡ true
  pub score : c.signal.score ≤ score_limit

module _ (c : Clause) where
  pub clause_facts : fine_clause c ≡ true → ClauseFacts c
  unfolding fine_clause
  clause_facts e =
      let is = fact _ e in
      record { key = is 0; v1 = is 1; v2 = is 2; v3 = is 3; score = leb-true c.signal.score score_limit (is 4) }

  pub clause_sure : ClauseFacts c → fine_clause c ≡ true
  unfolding fine_clause
  clause_sure f = sure (f.key also f.v1 also f.v2 also f.v3 also le-leb c.signal.score score_limit f.score also none_left)

-- ---- an event

pub record EventFacts (e : Event) : Type 0 where
  pub operate : e.operate ≤ operate_limit
  pub short_name : length e.name ≤ name_limit
  pub clean_name : clean e.name ≡ true
  pub lots : lots_ok e.lots ≡ true
  pub clauses : every fine_clause e.clauses ≡ true

module _ (e : Event) where
  pub event_facts : fine_event e ≡ true → EventFacts e
  unfolding fine_event
  event_facts h =
      let is = fact _ h in
      record {
        operate = leb-true e.operate operate_limit (is 0);
        short_name = leb-true (length e.name) name_limit (is 1);
        clean_name = is 2;
        lots = is 3;
        clauses = is 4;
      }

  pub event_sure : EventFacts e → fine_event e ≡ true
  unfolding fine_event
  event_sure f =
      sure
      (le-leb e.operate operate_limit f.operate
      also le-leb (length e.name) name_limit f.short_name
      also f.clean_name
      also f.lots
      also f.clauses
      also none_left)

-- ---- a sheet

pub record SheetFacts (s : Sheet) : Type 0 where
  pub short_name : length s.name ≤ name_limit
  pub short_symbol : length s.symbol ≤ name_limit
  pub clean_name : clean s.name ≡ true
  pub clean_symbol : clean s.symbol ≡ true
  pub interval : s.interval ≤ interval_limit
  pub timeout : s.timeout ≤ timeout_limit
  pub stop : s.stop ≤ stop_limit
  pub evening : s.evening ≤ evening_limit
  pub few : length s.events ≤ event_limit
  pub clauses : clause_count s.events ≤ clause_limit
  pub events : every fine_event s.events ≡ true
  pub light : weight s ≤ text_limit

module _ (s : Sheet) where
  pub sheet_facts : fine_sheet s ≡ true → SheetFacts s
  unfolding fine_sheet
  sheet_facts e =
      let is = fact _ e in
      record {
        short_name = leb-true (length s.name) name_limit (is 0);
        short_symbol = leb-true (length s.symbol) name_limit (is 1);
        clean_name = is 2;
        clean_symbol = is 3;
        interval = leb-true s.interval interval_limit (is 4);
        timeout = leb-true s.timeout timeout_limit (is 5);
        stop = leb-true s.stop stop_limit (is 6);
        evening = leb-true s.evening evening_limit (is 7);
        few = leb-true (length s.events) event_limit (is 8);
        clauses = leb-true (clause_count s.events) clause_limit (is 9);
        events = is 10;
        light = leb-true (weight s) text_limit (is 11);
      }

  pub sheet_sure : SheetFacts s → fine_sheet s ≡ true
  unfolding fine_sheet
  sheet_sure f =
      sure
      (le-leb (length s.name) name_limit f.short_name
      also le-leb (length s.symbol) name_limit f.short_symbol
      also f.clean_name
      also f.clean_symbol
      also le-leb s.interval interval_limit f.interval
      also le-leb s.timeout timeout_limit f.timeout
      also le-leb s.stop stop_limit f.stop
      also le-leb s.evening evening_limit f.evening
      also le-leb (length s.events) event_limit f.few
      also le-leb (clause_count s.events) clause_limit f.clauses
      also f.events
      also le-leb (weight s) text_limit f.light
      also none_left)
