-- Opens every definition of `bar` and of what it leans on, for examples that compute. Assumes nothing.
use Rattle.bar.specs.Bar.{bar_of}
use Rattle.bar.specs.Time.{local_time, day_of, seconds_between}

unfoldable pub opened : Unit {0}
unfolding bar_of local_time day_of seconds_between
opened = tt
