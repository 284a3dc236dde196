-- Worked examples of operates, computed from the definitions. Assumes nothing.
use mathlib.Core.Path.{◌≡◌, refl}
use Rattle.text.specs.Answer.{Refused, Got}
use Rattle.text.specs.Literal.{bytes}
use Rattle.operate.specs.Operate.{operate_alone, operate_name}
use Rattle.operate.proofs.Opened.{opened}

-- both spellings; case counts; `|` gives 2 before 4
spelled : (operate_alone (bytes "HL") ≡ Got 0) × (operate_alone (bytes "平空") ≡ Got 6) × (operate_alone (bytes "lo") ≡ Refused 4)
    × (operate_alone (bytes "") ≡ Refused 4) × (operate_alone (bytes "LO|") ≡ Refused 2)
unfolding opened
spelled = (refl, refl, refl, refl, refl)

-- a code becomes its Chinese name; any other number: 4
named : (operate_name 3 ≡ Got (bytes "开多")) × (operate_name 7 ≡ Refused 4)
unfolding opened
named = (refl, refl)
