-- `grade::date::is_time` meets its contract: what it returns is put together from what its callees ensure. Assumes nothing.
use Rattle.grade.specs.Values.{is_time}
use Rattle.grade.proofs.date.is_time.Goals as goal

pub returns : goal.returns
unfolding is_time
returns c = rw (c.is_fraction.ensures, c.is_zone_or_none.ensures, c.is_year_and_pairs.ensures, c.front.ensures, c.after-rest.ensures, c.digit_run-digits.ensures)
