-- Texts of other lengths, or with other bytes at an end, differ. Assumes nothing.
use mathlib.Core.Path.{sym, ◌∙◌}
use native.Mathlib.Omega.{arith}
use borrow.Author.Tests.{eqb-false}
use Rattle.event_find.proofs.Prints.{other_size, other_byte, other_last, other_word}
use Rattle.event_find.proofs.ends_alike.Goals as goal

pub returns-then-n-to : goal.returns-then-n-to
returns-then-n-to c _ = other_size c.args.key.now c.requires c.if-n-to.true

pub returns-then-get_u32 : goal.returns-then-get_u32
returns-then-get_u32 c e =
    other_last c.args.key.now c.requires c.if-n-to.false (omega (arith, c.if-n-to.false, c.if-n-ge4.true)) (eqb-false _ _ e)

pub returns-else-get_u32 : goal.returns-else-get_u32
returns-else-get_u32 c e =
    other_word c.args.key.now c.requires (omega (arith, c.if-n-to.false, c.if-n-ge4.true)) (λ q. c.if-get_u32.false (c.get_u32.ensures ∙ q ∙ sym c.get_u32-then-n-ge4.ensures))

pub returns-then-key-s : goal.returns-then-key-s
returns-then-key-s c e =
    other_last c.args.key.now c.requires c.if-n-to.false (omega (arith, c.if-n-to.false, c.if-n-eq0.false)) (eqb-false _ _ e)

pub returns-else-key-s : goal.returns-else-key-s
returns-else-key-s c e =
    other_byte c.args.key.now c.requires 0 c.args.from (omega arith) (omega (arith, c.if-n-to.false, c.if-n-eq0.false)) c.if-key-s.false
