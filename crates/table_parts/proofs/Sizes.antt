-- The texts of a draft are not longer than those of its sheet. Assumes nothing.
use Prim.Native.Nat.{ℕ, ◌+◌, ◌≤◌}
use native.Mathlib.Omega.{arith}
use mathlib.Core.Bool.{true}
use mathlib.Core.List.{List, []}
use mathlib.Core.Path.{◌≡◌}
use lib.ListN.{length}
use lib.Seq.{slice}
use Rattle.utf8.specs.Alone.{text_limit}
use Rattle.sheet.specs.Places.{clauses_at, sheet_at}
use Rattle.sheet.specs.declared.SheetAt.{SheetAt}
use Rattle.table_limits.specs.Fine.{fine_sheet}
use Rattle.text.proofs.Joined.{total}
use Rattle.table_limits.proofs.Facts.{sheet_facts}
use Rattle.table_limits.proofs.Clauses.{all-weight}
use Rattle.table_parts.specs.Codes.{keys_in, values_in}
use Rattle.table_wordbook.specs.Wordbook.{Words}
use Rattle.table_parts.specs.Draft.{word_texts, names_at, Drafted}
use Rattle.table_parts.proofs.Codes.{all_lighter, values_lighter}
use Rattle.table_parts.proofs.Words.{texts_total}
use Rattle.table_parts.proofs.Clauses.{keys_to, values_to, words-weight}
use Rattle.table_parts.proofs.Events.{names-length, names-weight, all-clauses}
use Rattle.table_parts.proofs.Known.{chain}

module _ {s es cs : List ℕ} {a : SheetAt} {numbers codes : List ℕ} {ks vs : Words} (d : Drafted s es cs a numbers codes ks vs) where
  keys-bytes : length (word_texts ks) ≤ total (keys_in (clauses_at s cs a))
  unfolding total
  keys-bytes = omega (arith, texts_total ks (keys_to s cs a.clauses) d.keys-are d.keys, (all_lighter [] (keys_in (clauses_at s cs a))).bytes)

  values-bytes : length (word_texts vs) ≤ total (values_in (clauses_at s cs a))
  unfolding total
  values-bytes = omega (arith, texts_total vs (values_to s cs a.clauses) d.values-are d.values, (values_lighter (values_in (clauses_at s cs a))).bytes)

  pub texts-light : fine_sheet (sheet_at s es cs a) ≡ true
      → length (slice 2 a.name s) + length (slice (a.name + 1) a.symbol s) + length (names_at s es a.events) + length (word_texts ks) + length (word_texts vs)
      ≤ text_limit
  unfolding sheet_at
  texts-light f =
      let events = chain d.sheet f in
      let all = rw (names-weight events, all-clauses events) at (all-weight (sheet_at s es cs a)) in
      omega (arith, all, (sheet_facts (sheet_at s es cs a) f).light, names-length events, keys-bytes, values-bytes, words-weight (clauses_at s cs a))
