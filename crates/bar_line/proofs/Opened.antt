-- Opens every definition of a line, for examples that compute. Assumes nothing.
use Rattle.text.proofs.Opened.{opened as opened-text}
use Rattle.double.proofs.Opened.{opened as opened-double}
use Rattle.calendar.specs.Calendar.{leap_year, month_length, months_before, years_before, month_first, day_number, real_day}
use Rattle.bar_line.specs.Line.{date_of, minutes_of, clock_of, offset_of, instant_at, stamp_of, decimal_in, double_of, price_of, line_of}

unfoldable pub opened : Unit {0}
unfolding opened-text opened-double leap_year month_length months_before years_before month_first day_number real_day date_of minutes_of clock_of offset_of instant_at stamp_of decimal_in double_of price_of line_of
opened = tt
