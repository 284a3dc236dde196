-- Each arm's bytes are the name at its code. Assumes nothing.
use mathlib.Core.Path.{refl}
use Rattle.text.specs.Literal.{bytes, encoded}
use Rattle.operate.specs.Operate.{chinese}
use Rattle.operate.proofs.Laws.{at}
use Rattle.operate.proofs.to_chinese.Goals as goal

pub returns-in-0 : goal.returns-in-0
unfolding chinese bytes encoded
returns-in-0 c = at chinese 6 0 c.args.code c.in-0.is refl refl

pub returns-in-1 : goal.returns-in-1
unfolding chinese bytes encoded
returns-in-1 c = at chinese 6 1 c.args.code c.in-1.is refl refl

pub returns-in-2 : goal.returns-in-2
unfolding chinese bytes encoded
returns-in-2 c = at chinese 6 2 c.args.code c.in-2.is refl refl

pub returns-in-3 : goal.returns-in-3
unfolding chinese bytes encoded
returns-in-3 c = at chinese 6 3 c.args.code c.in-3.is refl refl

pub returns-in-4 : goal.returns-in-4
unfolding chinese bytes encoded
returns-in-4 c = at chinese 6 4 c.args.code c.in-4.is refl refl

pub returns-in-5 : goal.returns-in-5
unfolding chinese bytes encoded
returns-in-5 c = at chinese 6 5 c.args.code c.in-5.is refl refl

pub returns-in-6 : goal.returns-in-6
unfolding chinese bytes encoded
returns-in-6 c = at chinese 6 6 c.args.code c.in-6.is refl refl
