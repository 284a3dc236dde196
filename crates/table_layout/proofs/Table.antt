-- The bytes of a table's parts mean the parts: they are read back, the header is right, and zeros are after. Assumes nothing.
use Prim.Native.Nat.{ℕ, ◌*◌, ◌≤◌}
use native.Mathlib.Omega.{arith}
use mathlib.Core.Bool.{true}
use mathlib.Core.Path.{◌≡◌, refl, sym, ap, ◌∙◌}
use lib.ListN.{length, drop, replicate, length-append, length-replicate}
use borrow.Author.Tests.{le-leb, leb-true, eq-eqb}
use Rattle.text.specs.Answer.{Got}
use Rattle.text.proofs.Conditions.{none_left, ◌also◌, sure, fact}
use Rattle.sheet.specs.Sheet.{event_limit, clause_limit, name_limit, interval_limit, timeout_limit, stop_limit, t0_limit, evening_limit}
use Rattle.table.specs.Layout.{table_length, event_length, clause_length, word_length, layout_number, layout_in, settings_in, counts_in, places_in, event_in, clause_in, word_in, Parts, parts_in}
use Rattle.table.specs.Table.{settings_ok, counts_ok, places_ok, head_ok, parts_ok, is_table, sheet_of, read_table}
use Rattle.table.specs.Compile.{Means}
use Rattle.table.specs.declared.Settings.{Settings}
use Rattle.table_layout.specs.Build.{event_bytes, clause_bytes, word_bytes, counts_for, places_for, head_bytes, used_bytes, zeros_after, table_of}
use Rattle.table_layout.specs.Fits.{SettingsFit, CountsFit, PlacesFit, EventFits, ClauseFits, WordFits, Sized}
use Rattle.table_layout.proofs.Rows.{event_length_lem, clause-length, word-length, event_back, clause_back, word_back, rows_back}
use Rattle.table_layout.proofs.Head.{layout_back, settings_back, counts_back, places_back}
use Rattle.table_layout.proofs.Placed.{here, behind, by_head, events-at, clauses-at, keys-at, values-at, name-at, symbol-at, names_at, keytexts-at, valuetexts-at, used-length}

-- settings within their limits fit
settings-fit : (s : Settings) → settings_ok s ≡ true → SettingsFit s
unfolding settings_ok
settings-fit s e =
    let interval = leb-true s.interval interval_limit (fact _ e 0) in
    let timeout = leb-true s.timeout timeout_limit (fact _ e 1) in
    let stop = leb-true s.stop stop_limit (fact _ e 2) in
    let t0 = leb-true s.t0 t0_limit (fact _ e 3) in
    let evening = leb-true s.evening evening_limit (fact _ e 4) in
    record { interval = omega arith; timeout = omega arith; stop = omega arith; t0 = omega arith; evening = omega arith }

module _ {p : Parts} (z : Sized p) where
  -- 80 + 32 events, 256 clauses, 256 keys, 768 values and 16,384 bytes of texts
  pub used_fits : (places_for p).used ≤ 28112
  unfolding places_for counts_for
  used_fits = omega arith

  pub table_length_lem : length (table_of p) ≡ table_length
  unfolding table_of
  table_length_lem =
      length-append (used_bytes p) (replicate (zeros_after p) 0) ∙ rw (length-replicate {A = ℕ} (zeros_after p) 0) (omega (arith, used-length p, used_fits))

  -- ---- the header

  counts-fit : CountsFit (counts_for p)
  unfolding counts_for
  counts-fit = record { events = omega arith; clauses = omega arith; keys = omega arith; values = omega arith; name = omega arith; symbol = omega arith }

  places-fit : PlacesFit (places_for p)
  unfolding places_for counts_for
  places-fit = record {
    events = omega arith;
    clauses = omega arith;
    keys = omega arith;
    values = omega arith;
    texts = omega arith;
    names = omega arith;
    keytexts = omega arith;
    valuetexts = omega arith;
    used = omega arith;
  }

  table_layout_lem : layout_in (table_of p) ≡ layout_number
  unfolding head_bytes
  table_layout_lem = rw (by_head p) (layout_back p.settings (counts_for p) (places_for p) _)

  table_settings : settings_in (table_of p) ≡ p.settings
  unfolding head_bytes
  table_settings = rw (by_head p) (settings_back p.settings (counts_for p) (places_for p) _ (settings-fit p.settings z.settings))

  table_counts : counts_in (table_of p) ≡ counts_for p
  unfolding head_bytes
  table_counts = rw (by_head p) (counts_back p.settings (counts_for p) (places_for p) _ counts-fit)

  pub table_places : places_in (table_of p) ≡ places_for p
  unfolding head_bytes
  table_places = rw (by_head p) (places_back p.settings (counts_for p) (places_for p) _ places-fit)

  counts-ok : counts_ok (counts_for p) ≡ true
  unfolding counts_ok counts_for
  counts-ok =
      sure
      (le-leb (length p.events) event_limit z.events
      also le-leb (length p.clauses) clause_limit z.clauses
      also le-leb (length p.keys) clause_limit z.keys
      also le-leb (length p.values) (3 * clause_limit) z.values
      also le-leb (length p.name) name_limit z.name
      also le-leb (length p.symbol) name_limit z.symbol
      also none_left)

  places-ok : places_ok (counts_for p) (places_for p) ≡ true
  unfolding places_ok counts_for places_for
  places-ok =
      let q = places_for p in
      sure
      (refl
      also eq-eqb q.clauses q.clauses refl
      also eq-eqb q.keys q.keys refl
      also eq-eqb q.values q.values refl
      also eq-eqb q.texts q.texts refl
      also eq-eqb q.names q.names refl
      also le-leb q.names q.keytexts (omega arith)
      also le-leb q.keytexts q.valuetexts (omega arith)
      also le-leb q.valuetexts q.used (omega arith)
      also le-leb q.used table_length (omega arith)
      also none_left)

  pub table_head : head_ok (table_of p) ≡ true
  unfolding head_ok
  table_head =
      rw (table_layout_lem, table_settings, table_counts, table_places)
      (sure (eq-eqb (length (table_of p)) table_length table_length_lem also refl also z.settings also counts-ok also places-ok also none_left))

  -- ---- the parts

  pub table_parts : parts_in (table_of p) ≡ p
  unfolding parts_in counts_for
  table_parts =
      rw (
        table_settings,
        table_counts,
        table_places,
        here (events-at p),
        here (clauses-at p),
        here (keys-at p),
        here (values-at p),
        here (name-at p),
        here (symbol-at p),
        here (names_at p),
        here (keytexts-at p),
        here (valuetexts-at p),
      )
      (λ i. record {
        settings = p.settings;
        events = rows_back event_bytes event_length event_length_lem event_in EventFits event_back p.events z.event_rows i;
        clauses = rows_back clause_bytes clause_length clause-length clause_in ClauseFits clause_back p.clauses z.clause_rows i;
        keys = rows_back word_bytes word_length word-length word_in WordFits word_back p.keys z.key_rows i;
        values = rows_back word_bytes word_length word-length word_in WordFits word_back p.values z.value_rows i;
        name = p.name;
        symbol = p.symbol;
        names = p.names;
        keytexts = p.keytexts;
        valuetexts = p.valuetexts;
      })

  -- ---- the meaning

  table_read : parts_ok p ≡ true → read_table (table_of p) ≡ Got (sheet_of p)
  unfolding read_table is_table
  table_read ok = rw (table_head, table_parts, ok)

  table_rest : drop (places_in (table_of p)).used (table_of p) ≡ replicate (length (drop (places_in (table_of p)).used (table_of p))) 0
  table_rest = rw (table_places, behind (valuetexts-at p)) (ap (λ (n : ℕ). replicate n 0) (sym (length-replicate {A = ℕ} (zeros_after p) 0)))

  pub table_means : parts_ok p ≡ true → Means (table_of p) (sheet_of p)
  table_means ok = record { meant = table_read ok; rest = table_rest }
