-- The starred cases hold, and the further ones: each is computed from the definitions, a lemma for each row. Assumes nothing.
use mathlib.Core.Path.{refl}
use lib.Ieee.{neg}
use Rattle.double.specs.Double.{whole, ◌÷◌}
use Rattle.position.specs.Cases.{Runs, Rounds, RowRight, Right, lines, state_after, cases}
use Rattle.position.specs.Cases as Cases
use Rattle.position.specs.Further.{further}
use Rattle.position.specs.Further as Further
use Rattle.position.proofs.Opened.{opened}

-- ---- the starred cases

case_1 : RowRight (Runs Cases.case_1)
unfolding opened lines state_after
case_1 = (refl, refl)

case_2 : RowRight (Runs Cases.case_2)
unfolding opened lines state_after
case_2 = (refl, refl)

case_3 : RowRight (Runs Cases.case_3)
unfolding opened lines state_after
case_3 = (refl, refl)

case_4 : RowRight (Runs Cases.case_4)
unfolding opened lines state_after
case_4 = (refl, refl)

case_5 : RowRight (Runs Cases.case_5)
unfolding opened lines state_after
case_5 = (refl, refl)

case_6 : RowRight (Runs Cases.case_6)
unfolding opened lines state_after
case_6 = (refl, refl)

case_7 : RowRight (Runs Cases.case_7)
unfolding opened lines state_after
case_7 = (refl, refl)

case_8 : RowRight (Runs Cases.case_8)
unfolding opened lines state_after
case_8 = (refl, refl)

case_9 : RowRight (Runs Cases.case_9)
unfolding opened lines state_after
case_9 = (refl, refl)

case_10 : RowRight (Rounds (whole 5 ÷ whole 2) (whole 3))
unfolding opened
case_10 = refl

case_10_below : RowRight (Rounds (neg (whole 5 ÷ whole 2)) (neg (whole 3)))
unfolding opened
case_10_below = refl

case_10_gain : RowRight (Runs Cases.case_10_gain)
unfolding opened lines state_after
case_10_gain = (refl, refl)

case_10_loss : RowRight (Runs Cases.case_10_loss)
unfolding opened lines state_after
case_10_loss = (refl, refl)

case_11 : RowRight (Runs Cases.case_11)
unfolding opened lines state_after
case_11 = (refl, refl)

pub starred : Right cases
unfolding cases
starred = (case_1, (case_2, (case_3, (case_4, (case_5, (case_6, (case_7, (case_8, (case_9, (case_10, (case_10_below, (case_10_gain, (case_10_loss, (case_11, tt))))))))))))))

-- ---- the further cases

stop_edge : RowRight (Runs Further.stop_edge)
unfolding opened lines state_after
stop_edge = (refl, refl)

stop_edge_short : RowRight (Runs Further.stop_edge_short)
unfolding opened lines state_after
stop_edge_short = (refl, refl)

fine-stop : RowRight (Runs Further.fine-stop)
unfolding opened lines state_after
fine-stop = (refl, refl)

two_roundings : RowRight (Runs Further.two_roundings)
unfolding opened lines state_after
two_roundings = (refl, refl)

timeout-short : RowRight (Runs Further.timeout-short)
unfolding opened lines state_after
timeout-short = (refl, refl)

local_day_differs : RowRight (Runs Further.local_day_differs)
unfolding opened lines state_after
local_day_differs = (refl, refl)

local_day_same : RowRight (Runs Further.local_day_same)
unfolding opened lines state_after
local_day_same = (refl, refl)

before_1970 : RowRight (Runs Further.before_1970)
unfolding opened lines state_after
before_1970 = (refl, refl)

reversal : RowRight (Runs Further.reversal)
unfolding opened lines state_after
reversal = (refl, refl)

reversal_too_soon : RowRight (Runs Further.reversal_too_soon)
unfolding opened lines state_after
reversal_too_soon = (refl, refl)

reversal-same_day : RowRight (Runs Further.reversal-same_day)
unfolding opened lines state_after
reversal-same_day = (refl, refl)

refused-bars : RowRight (Runs Further.refused-bars)
unfolding opened lines state_after
refused-bars = (refl, refl)

keys_without : RowRight (Runs Further.keys_without)
unfolding opened lines state_after
keys_without = (refl, refl)

empty-texts : RowRight (Runs Further.empty-texts)
unfolding opened lines state_after
empty-texts = (refl, refl)

clauses : RowRight (Runs Further.clauses)
unfolding opened lines state_after
clauses = (refl, refl)

score_of_1000 : RowRight (Runs Further.score_of_1000)
unfolding opened lines state_after
score_of_1000 = (refl, refl)

score_of_1001 : RowRight (Runs Further.score_of_1001)
unfolding opened lines state_after
score_of_1001 = (refl, refl)

tagged-names : RowRight (Runs Further.tagged-names)
unfolding opened lines state_after
tagged-names = (refl, refl)

tagged-other : RowRight (Runs Further.tagged-other)
unfolding opened lines state_after
tagged-other = (refl, refl)

opened_at_zero : RowRight (Runs Further.opened_at_zero)
unfolding opened lines state_after
opened_at_zero = (refl, refl)

endless_yields : RowRight (Runs Further.endless_yields)
unfolding opened lines state_after
endless_yields = (refl, refl)

no_events : RowRight (Runs Further.no_events)
unfolding opened lines state_after
no_events = (refl, refl)

sheet-first : RowRight (Runs Further.sheet-first)
unfolding opened lines state_after
sheet-first = (refl, refl)

signal-first : RowRight (Runs Further.signal-first)
unfolding opened lines state_after
signal-first = (refl, refl)

malformed_bar : RowRight (Runs Further.malformed_bar)
unfolding opened lines state_after
malformed_bar = (refl, refl)

capital_digits : RowRight (Runs Further.capital_digits)
unfolding opened lines state_after
capital_digits = (refl, refl)

pub misread : Right further
unfolding further
misread = (stop_edge, (stop_edge_short, (fine-stop, (two_roundings, (timeout-short, (local_day_differs, (local_day_same, (before_1970, (reversal, (reversal_too_soon, (reversal-same_day, (refused-bars, (keys_without, (empty-texts, (clauses, (score_of_1000, (score_of_1001, (tagged-names, (tagged-other, (opened_at_zero, (endless_yields, (no_events, (sheet-first, (signal-first, (malformed_bar, (capital_digits, tt))))))))))))))))))))))))))
