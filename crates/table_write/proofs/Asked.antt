-- What writing a table asks is so of a draft that is known to be right and within the limits. Assumes nothing.
use Prim.Native.Nat.{ℕ, ◌*◌, ◌<◌, ◌≤◌}
use native.Mathlib.Omega.{arith}
use mathlib.Core.List.{List}
use mathlib.Core.Path.{subst}
use lib.ListN.{length}
use Rattle.sheet.specs.Places.{clause_numbers, event_numbers, SettingsOk}
use Rattle.sheet.specs.declared.SheetAt.{SheetAt}
use Rattle.table.specs.declared.Places.{Places}
use Rattle.table_layout.specs.Fits.{SettingsFit, EventFits, Sized}
use Rattle.table_layout.proofs.Table.{used_fits}
use Rattle.table_layout.proofs.Sized.{numbered-all}
use Rattle.table_wordbook.specs.Wordbook.{Words, Book}
use Rattle.table_parts.specs.Draft.{event_row, names_length, draft, Drafted}
use Rattle.table_write_rows.specs.Rows.{WordsFit}
use Rattle.table_write_head.specs.Head.{settings_of}
use Rattle.table_write.specs.Fits.{TextsFit, TableFits}
use Rattle.table_write.proofs.Table.{places-are}

-- a name's place fits where its event's row does
near : (es : List ℕ) (i : ℕ) → EventFits (event_row es i) → names_length es i < 65536
unfolding event_row
near es i e = e.at

settings-fit : {a : SheetAt} → SettingsOk a → SettingsFit (settings_of a)
settings-fit k = record { interval = omega arith; timeout = omega arith; stop = omega arith; t0 = omega arith; evening = omega arith }

words-fit : {texts starts orders ranks : List ℕ} {n : ℕ} → Book texts starts orders ranks n → WordsFit starts orders ranks n
words-fit b = record {
  starts-room = b.starts-room;
  orders-room = b.orders-room;
  ranks-room = b.ranks-room;
  rising = b.rising;
}

module _ {s es cs : List ℕ} {a : SheetAt} {numbers codes : List ℕ} {ks vs : Words} (d : Drafted s es cs a numbers codes ks vs) where
  texts-fit : event_numbers * a.events ≤ length es → TextsFit s es a ks vs
  texts-fit h =
      let k = d.sheet in
      record {
        name = k.name;
        symbol = k.symbol;
        within = omega (arith, k.within);
        names = record { room = h; each = λ i g. (k.events i g).name };
        keys = d.keys.within;
        values = d.values.within;
      }

  -- with room for the numbers in their buffers
  pub table_fits : Sized (draft s es cs a numbers codes ks vs) → event_numbers * a.events ≤ length es → clause_numbers * a.clauses ≤ length cs
      → a.clauses ≤ length numbers → 3 * a.clauses ≤ length codes → TableFits s es cs a numbers codes ks vs
  unfolding draft
  table_fits z he hc hn hv =
      let t = texts-fit he in
      let used = subst (λ (q : Places). q.used ≤ 28112) (places-are s es cs a numbers codes ks vs t) (used_fits z) in
      record {
        settings = settings-fit d.sheet.settings;
        events = record { room = he; near = λ i h. near es i (numbered-all EventFits (event_row es) a.events z.event_rows i h) };
        clauses = record { room = hc; keys = hn; values = hv };
        keys = words-fit d.keys;
        values = words-fit d.values;
        texts = t;
        room = omega (arith, used);
      }
