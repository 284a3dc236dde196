-- Case *1's parts: their bytes are case *1's table, byte by byte, and by the theorem they mean its sheet. Assumes nothing.
use native.Mathlib.Omega.{arith}
use mathlib.Core.Bool.{true}
use mathlib.Core.List.{[], ◌∷◌}
use mathlib.Core.Path.{◌≡◌, refl, subst}
use Rattle.text.specs.Literal.{bytes}
use Rattle.text.specs.Text.{same}
use Rattle.table.specs.Layout.{Parts}
use Rattle.table.specs.Table.{parts_ok, sheet_of}
use Rattle.table.specs.Compile.{Means}
use Rattle.table.specs.declared.EventRow.{EventRow}
use Rattle.table.specs.declared.ClauseRow.{ClauseRow}
use Rattle.table.specs.declared.WordRow.{WordRow}
use Rattle.table.proofs.Examples.{soy, meant}
use Rattle.table_layout.specs.Build.{table_of}
use Rattle.table_layout.specs.Fits.{EventFits, ClauseFits, WordFits, Sized}
use Rattle.table_layout.proofs.Sized.{all_none, all_more}
use Rattle.table_layout.proofs.Table.{table_means}
use Rattle.table_layout.proofs.Opened.{opened}

abbrev go : EventRow
go = record { kind = 0; operate = 3; at = 0; len = 2; first = 0; count = 1 }

abbrev out : EventRow
out = record { kind = 1; operate = 4; at = 2; len = 3; first = 1; count = 1 }

abbrev is_up : ClauseRow
is_up = record { kind = 0; key = 0; v1 = 1; v2 = 65535; v3 = 65535; score = 10 }

abbrev is_down : ClauseRow
is_down = record { kind = 0; key = 0; v1 = 2; v2 = 65535; v3 = 65535; score = 0 }

abbrev key : WordRow
key = record { at = 0; len = 6; rank = 0; order = 0 }

abbrev up : WordRow
up = record { at = 0; len = 2; rank = 1; order = 1 }

abbrev down : WordRow
down = record { at = 2; len = 4; rank = 0; order = 0 }

unfoldable parts : Parts
parts =
    record {
      settings = record { interval = 0; timeout = 5; stop = 10_000; t0 = 0; evening = 0 };
      events = go ∷ out ∷ [];
      clauses = is_up ∷ is_down ∷ [];
      keys = key ∷ [];
      values = up ∷ down ∷ [];
      name = bytes "soy";
      symbol = bytes "M1";
      names = bytes "goout";
      keytexts = bytes "d1_u_w";
      valuetexts = bytes "updown";
    }

bytes-are : same (table_of parts) soy ≡ true
unfolding opened soy parts
bytes-are = refl

parts-ok : (parts_ok parts ≡ true) × (sheet_of parts ≡ meant)
unfolding opened parts meant
parts-ok = (refl, refl)

sized : Sized parts
unfolding opened parts
sized = record {
  settings = refl;
  events = omega arith;
  clauses = omega arith;
  keys = omega arith;
  values = omega arith;
  name = omega arith;
  symbol = omega arith;
  texts = omega arith;
  event_rows = all_more EventFits go (out ∷ []) (omega arith) (all_more EventFits out [] (omega arith) (all_none EventFits));
  clause_rows = all_more ClauseFits is_up (is_down ∷ []) (omega arith) (all_more ClauseFits is_down [] (omega arith) (all_none ClauseFits));
  key_rows = all_more WordFits key [] (omega arith) (all_none WordFits);
  value_rows = all_more WordFits up (down ∷ []) (omega arith) (all_more WordFits down [] (omega arith) (all_none WordFits));
}

means : Means (table_of parts) meant
means = subst (Means (table_of parts)) parts-ok.1 (table_means sized parts-ok.0)
