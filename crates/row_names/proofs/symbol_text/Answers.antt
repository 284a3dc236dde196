-- The symbol as it is lent. Assumes nothing.
use Prim.Native.Nat.{◌+◌, ◌≤◌}
use lib.ListN.{length}
use Rattle.table_match.proofs.Sound.{head-room}
use Rattle.row_names.proofs.Texts.{symbol-room, symbol-is}
use Rattle.row_names.proofs.symbol_text.Goals as goal

pub read_counts-c-requires : goal.read_counts-c-requires
read_counts-c-requires c = head-room _ c.requires

pub read_places-p-requires : goal.read_places-p-requires
read_places-p-requires c = head-room _ c.requires

pub returns : goal.returns
returns c =
    symbol-is _ c.requires c.read_counts-c.ensures c.read_places-p.ensures

pub slice_bounds-result-count : goal.slice_bounds-result-count
slice_bounds-result-count c =
    let room : (c.read_places-p.result.texts + c.read_counts-c.result.name ≤ c.read_places-p.result.names) × (c.read_places-p.result.names ≤ length c.args.t.now) = symbol-room _ c.requires c.read_counts-c.ensures c.read_places-p.ensures in
    room.0

pub slice_bounds-result-start : goal.slice_bounds-result-start
slice_bounds-result-start c =
    let room : (c.read_places-p.result.texts + c.read_counts-c.result.name ≤ c.read_places-p.result.names) × (c.read_places-p.result.names ≤ length c.args.t.now) = symbol-room _ c.requires c.read_counts-c.ensures c.read_places-p.ensures in
    room.0

pub slice_bounds-result-end : goal.slice_bounds-result-end
slice_bounds-result-end c =
    let room : (c.read_places-p.result.texts + c.read_counts-c.result.name ≤ c.read_places-p.result.names) × (c.read_places-p.result.names ≤ length c.args.t.now) = symbol-room _ c.requires c.read_counts-c.ensures c.read_places-p.ensures in
    room.1
