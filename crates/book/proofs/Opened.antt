-- Opens every definition of `book` and of what it leans on, for examples that compute. Assumes nothing.
use Rattle.table.proofs.Opened.{opened as opened-table}
use Rattle.position.proofs.Opened.{opened as opened-position}
use Rattle.book.specs.Calls.{fresh_do, open_lots_in, settled, fed, checked, feed_on, feed_do, feed_line_do, save_do, restore_do}
use Rattle.book.specs.Check.{hold_ok, record_ok, counts_ok, last_ok, used_ok, header_ok, rising, full_ok}
use Rattle.book.specs.Layout.{capacity, head_bytes, hold_bytes, record_bytes, holds_bytes, records_bytes, encode, fresh_book, head_of, hold_of, record_of, slots, hold_slots, record_slots, holds_of, records_of}

unfoldable pub opened : Unit {0}
unfolding opened-table opened-position fresh_do open_lots_in settled fed checked feed_on feed_do feed_line_do save_do restore_do hold_ok record_ok counts_ok last_ok used_ok header_ok rising full_ok capacity head_bytes hold_bytes record_bytes holds_bytes records_bytes encode fresh_book head_of hold_of record_of slots hold_slots record_slots holds_of records_of
opened = tt
