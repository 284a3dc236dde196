-- The writes one after another, each within the book. Assumes nothing.
use native.Mathlib.Omega.{arith}
use Rattle.position_machine.specs.Update.{going_of}
use Rattle.book_write.proofs.Written.{counts, new_numbers, wrote-few, written}
use Rattle.book_write.proofs.write_bar.Goals as goal

pub put_hold-requires : goal.put_hold-requires
put_hold-requires c = record { at_in_bounds = omega (arith, c.requires.book_passed.size.long, c.requires.b_bound, c.get_u32-hs.ensures, c.settle_last.auto.b); hold_numbers = new_numbers c.requires.bar_passed (going_of c.args.u) c.new_hold.ensures }

pub put_wrote-n-requires : goal.put_wrote-n-requires
put_wrote-n-requires c =
    let ok = c.requires.book_passed in
    record { at_in_bounds = omega (arith, ok.size.long, c.requires.b_bound, (counts ok).records, c.get_u32-rs.ensures, c.settle_last.auto.b, c.put_hold.auto.b); w_value = c.requires.priced.wrote }

pub overflow_add-rs : goal.overflow_add-rs
overflow_add-rs c =
    let ok = c.requires.book_passed in
    let few = wrote-few c.args.u.wrote in
    record { fits = omega (arith, ok.size.most, c.requires.b_bound, (counts ok).records, c.get_u32-rs.ensures, c.put_wrote-n.ensures.1) }

pub put_head-requires : goal.put_head-requires
put_head-requires c =
    let ok = c.requires.book_passed in
    record { in_bounds = omega (arith, ok.size.long, c.settle_last.auto.b, c.put_hold.auto.b, c.put_wrote-n.auto.b); c_le_bar_limit = ok.size.most; reference_value = c.requires.priced.reference }

pub returns : goal.returns
returns c =
    let a = c.args in
    written a.b.now a.c a.bar a.u c.get_u32-hs.ensures c.get_u32-rs.ensures c.settle_last.ensures c.new_hold.ensures
    c.put_hold.ensures c.put_wrote-n.ensures c.put_head.ensures
