-- The cases of the trading day hold: each is computed from the definitions, a lemma for each row. Assumes nothing.
use mathlib.Core.Path.{refl}
use Rattle.position.specs.Cases.{Runs, RowRight, Right, lines, state_after}
use Rattle.position.specs.TradingDay.{trading_day}
use Rattle.position.specs.TradingDay as TradingDay
use Rattle.position.proofs.Opened.{opened}

evening : RowRight (Runs TradingDay.evening)
unfolding opened lines state_after
evening = (refl, refl)

no_evening : RowRight (Runs TradingDay.no_evening)
unfolding opened lines state_after
no_evening = (refl, refl)

evening-short : RowRight (Runs TradingDay.evening-short)
unfolding opened lines state_after
evening-short = (refl, refl)

no_evening_short : RowRight (Runs TradingDay.no_evening_short)
unfolding opened lines state_after
no_evening_short = (refl, refl)

evening-reversal : RowRight (Runs TradingDay.evening-reversal)
unfolding opened lines state_after
evening-reversal = (refl, refl)

evening_reversal_stays : RowRight (Runs TradingDay.evening_reversal_stays)
unfolding opened lines state_after
evening_reversal_stays = (refl, refl)

no_evening_reversal : RowRight (Runs TradingDay.no_evening_reversal)
unfolding opened lines state_after
no_evening_reversal = (refl, refl)

evening_reversal_long : RowRight (Runs TradingDay.evening_reversal_long)
unfolding opened lines state_after
evening_reversal_long = (refl, refl)

evening_1969 : RowRight (Runs TradingDay.evening_1969)
unfolding opened lines state_after
evening_1969 = (refl, refl)

no_evening_1969 : RowRight (Runs TradingDay.no_evening_1969)
unfolding opened lines state_after
no_evening_1969 = (refl, refl)

longest_evening : RowRight (Runs TradingDay.longest_evening)
unfolding opened lines state_after
longest_evening = (refl, refl)

evening-interval : RowRight (Runs TradingDay.evening-interval)
unfolding opened lines state_after
evening-interval = (refl, refl)

pub trading_day-right : Right trading_day
unfolding trading_day
trading_day-right = (evening, (no_evening, (evening-short, (no_evening_short, (evening-reversal, (evening_reversal_stays, (no_evening_reversal, (evening_reversal_long, (evening_1969, (no_evening_1969, (longest_evening, (evening-interval, tt))))))))))))
