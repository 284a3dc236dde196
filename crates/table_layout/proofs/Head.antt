-- The header of a table is read back, whatever is behind it. Assumes nothing.
use Prim.Native.Nat.{ℕ}
use mathlib.Core.List.{List, ◌++◌}
use mathlib.Core.Path.{◌≡◌, refl}
use lib.Dec.{lit<}
use lib.ListN.{length}
use Rattle.le.specs.Le.{part, le_bytes}
use Rattle.le.specs.Field.{put32}
use Rattle.le.proofs.Laws.{le_nat-le_bytes}
use Rattle.table.specs.Layout.{head_length, layout_number, layout_in, settings_in, counts_in, places_in, Parts}
use Rattle.table.specs.declared.Settings.{Settings}
use Rattle.table.specs.declared.Counts.{Counts}
use Rattle.table.specs.declared.Places.{Places}
use Rattle.table_layout.specs.Fits.{SettingsFit, CountsFit, PlacesFit}
use Rattle.table_layout.specs.Build.{settings_bytes, counts_bytes, places_bytes, head_bytes}

pub head-length : (p : Parts) → length (head_bytes p) ≡ head_length
unfolding head_bytes settings_bytes counts_bytes places_bytes le_bytes
head-length p = refl

module _ (s : Settings) (c : Counts) (q : Places) (rest : List ℕ) where
  abbrev headed : List ℕ
  headed = put32 layout_number ++ settings_bytes s ++ counts_bytes c ++ places_bytes q ++ rest

  pub layout_back : layout_in headed ≡ layout_number
  unfolding layout_in part le_bytes
  layout_back = le_nat-le_bytes 4 layout_number (lit< tt)

  pub settings_back : SettingsFit s → settings_in headed ≡ s
  unfolding settings_in settings_bytes part le_bytes
  settings_back f =
      λ i. record {
        interval = le_nat-le_bytes 4 s.interval f.interval i;
        timeout = le_nat-le_bytes 4 s.timeout f.timeout i;
        stop = le_nat-le_bytes 4 s.stop f.stop i;
        t0 = le_nat-le_bytes 2 s.t0 f.t0 i;
        evening = le_nat-le_bytes 2 s.evening f.evening i;
      }

  pub counts_back : CountsFit c → counts_in headed ≡ c
  unfolding counts_in settings_bytes counts_bytes part le_bytes
  counts_back f =
      λ i. record {
        events = le_nat-le_bytes 4 c.events f.events i;
        clauses = le_nat-le_bytes 4 c.clauses f.clauses i;
        keys = le_nat-le_bytes 4 c.keys f.keys i;
        values = le_nat-le_bytes 4 c.values f.values i;
        name = le_nat-le_bytes 4 c.name f.name i;
        symbol = le_nat-le_bytes 4 c.symbol f.symbol i;
      }

  pub places_back : PlacesFit q → places_in headed ≡ q
  unfolding places_in settings_bytes counts_bytes places_bytes part le_bytes
  places_back f =
      λ i. record {
        events = le_nat-le_bytes 4 q.events f.events i;
        clauses = le_nat-le_bytes 4 q.clauses f.clauses i;
        keys = le_nat-le_bytes 4 q.keys f.keys i;
        values = le_nat-le_bytes 4 q.values f.values i;
        texts = le_nat-le_bytes 4 q.texts f.texts i;
        names = le_nat-le_bytes 4 q.names f.names i;
        keytexts = le_nat-le_bytes 4 q.keytexts f.keytexts i;
        valuetexts = le_nat-le_bytes 4 q.valuetexts f.valuetexts i;
        used = le_nat-le_bytes 4 q.used f.used i;
      }
