-- A `-`, or the bits. Assumes nothing.
use native.Mathlib.Omega.{arith}
use mathlib.Core.Path.{sym, ap, subst}
use borrow.Author.Rules.{rules}
use Rattle.text.specs.Literal.{bytes, encoded}
use Rattle.position.specs.Run.{yield_text}
use Rattle.run_fields.specs.Fields.{YieldShown}
use Rattle.run_fields.proofs.Short.{short_as, short-put}
use Rattle.run_fields.proofs.put_yield.Goals as goal

pub put_real-requires : goal.put_real-requires
put_real-requires c = record { at_in_bounds = search rules; t = subst YieldShown c.in-Bp.is c.requires.yield_shown }

pub returns-in-Absent : goal.returns-in-Absent
unfolding bytes encoded
returns-in-Absent c = short_as (sym (ap yield_text c.in-Absent.is)) (short-put 16 c.put_byte.ensures (omega arith))

pub returns-in-Bp : goal.returns-in-Bp
returns-in-Bp c = short_as (sym (ap yield_text c.in-Bp.is)) c.put_real.ensures
