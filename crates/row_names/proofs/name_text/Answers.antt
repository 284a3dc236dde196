-- The name as it is lent. Assumes nothing.
use Rattle.table_match.proofs.Sound.{head-room}
use Rattle.row_names.proofs.Texts.{name-room, name-is}
use Rattle.row_names.proofs.name_text.Goals as goal

pub read_counts-c-requires : goal.read_counts-c-requires
read_counts-c-requires c = head-room _ c.requires

pub read_places-p-requires : goal.read_places-p-requires
read_places-p-requires c = head-room _ c.requires

pub slice_bounds-result-end : goal.slice_bounds-result-end
slice_bounds-result-end c = name-room _ c.requires c.read_counts-c.ensures c.read_places-p.ensures

pub returns : goal.returns
returns c = name-is _ c.requires c.read_counts-c.ensures c.read_places-p.ensures
