-- `table_write::put_names` meets its contract: `Naming`, the names that stand, is the invariant. Assumes nothing.
use Rattle.table_write.proofs.Names.{naming_first, naming_numbers, naming_within, naming_room, naming_more, naming_last}
use Rattle.table_write.proofs.put_names.Goals as goal

pub loop-i-init : goal.loop-i-init
loop-i-init c =
    naming_first c.requires.names_fit c.args.dst.now c.args.at c.requires.n_in_bounds

pub put_name-p-requires : goal.put_name-p-requires
put_name-p-requires c =
    let x = c.loop-i.invariant in
    let h = c.loop-i-test.true in
    record { event_numbers_in_bounds = naming_numbers x h; l_in_bounds = naming_within x h; l_in_bounds_2 = naming_room x h }

pub loop-i-preserved : goal.loop-i-preserved
loop-i-preserved c =
    naming_more c.loop-i.invariant c.loop-i-test.true c.put_name-p.ensures

pub returns : goal.returns
returns c = naming_last c.loop-i.invariant c.loop-i-test.false
