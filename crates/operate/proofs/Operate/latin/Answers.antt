-- Each arm's bytes are the name at its code. Assumes nothing.
use mathlib.Core.Path.{refl}
use Rattle.text.specs.Literal.{bytes, encoded}
use Rattle.operate.specs.Operate.{latin}
use Rattle.operate.proofs.Operate.latin.Goals as goal

pub returns-in-HL : goal.returns-in-HL
unfolding latin bytes encoded
returns-in-HL c = rw c.in-HL.is (record { is = refl; size = refl })

pub returns-in-HS : goal.returns-in-HS
unfolding latin bytes encoded
returns-in-HS c = rw c.in-HS.is (record { is = refl; size = refl })

pub returns-in-HO : goal.returns-in-HO
unfolding latin bytes encoded
returns-in-HO c = rw c.in-HO.is (record { is = refl; size = refl })

pub returns-in-LO : goal.returns-in-LO
unfolding latin bytes encoded
returns-in-LO c = rw c.in-LO.is (record { is = refl; size = refl })

pub returns-in-LE : goal.returns-in-LE
unfolding latin bytes encoded
returns-in-LE c = rw c.in-LE.is (record { is = refl; size = refl })

pub returns-in-SO : goal.returns-in-SO
unfolding latin bytes encoded
returns-in-SO c = rw c.in-SO.is (record { is = refl; size = refl })

pub returns-in-SE : goal.returns-in-SE
unfolding latin bytes encoded
returns-in-SE c = rw c.in-SE.is (record { is = refl; size = refl })
