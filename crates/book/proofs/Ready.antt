-- The book of a sound state is ready for a feed, and its lists are read back. Assumes nothing.
use Prim.Native.Nat.{ℕ}
use mathlib.Core.List.{List}
use mathlib.Core.Path.{◌≡◌}
use mathlib.Mathlib.Data.List.Defs.{Forall}
use mathlib.Mathlib.Data.List.Basic.{Forall-imp}
use lib.ListN.{length}
use Rattle.text.specs.Answer.{Got}
use Rattle.sheet.specs.Sheet.{Sheet}
use Rattle.position.specs.State.{State}
use Rattle.position_laws.proofs.Sound.{Sound}
use Rattle.table.specs.Layout.{table_length}
use Rattle.table.specs.Table.{read_table}
use Rattle.book.specs.Layout.{encode, holds_of, records_of}
use Rattle.book.proofs.Fits.{HoldIn}
use Rattle.book.proofs.Slots.{holds_read, records-read}
use Rattle.book.proofs.Feeds.{Ready}
use Rattle.book.proofs.Ranges.{hold_in_lem, record_in}
use Rattle.book.proofs.Passes.{Room, head_fits, holds-small, records-small, header_passes}

holds_in : (s : Sheet) (st : State) → Sound s st → Forall HoldIn st.holds
holds_in s st sound = Forall-imp hold_in_lem st.holds sound.holds

pub ready : (table : List ℕ) (s : Sheet) (c : ℕ) (st : State) → length table ≡ table_length → read_table table ≡ Got s → Sound s st → Room s c st
    → Ready table s c st
ready table s c st sized meant sound room =
    record {
      sized = sized;
      meant = meant;
      least = room.least;
      most = room.most;
      holds = room.holds;
      records = sound.few;
      checked = header_passes s c st sound room;
      head = head_fits s c st sound room;
      fits = holds_in s st sound;
    }

module _ (s : Sheet) (c : ℕ) (st : State) (sound : Sound s st) (room : Room s c st) where
  pub holds_kept : holds_of (encode c st) ≡ st.holds
  holds_kept = holds_read c st (holds-small s c st sound room) (holds_in s st sound)

  pub records-kept : records_of c (encode c st) ≡ st.records
  records-kept =
      records-read c st room.holds (records-small s c st sound room)
      (Forall-imp (λ r. record_in s r room.events) st.records sound.records)
