-- `grade::date::is_zone` meets its contract: what it returns is put together from what its callees ensure. Assumes nothing.
use Rattle.grade.specs.Values.{is_zone}
use Rattle.grade.proofs.date.is_zone.Goals as goal

pub returns : goal.returns
unfolding is_zone
returns c = rw (c.pair_at-2.ensures.0, c.pair_at.ensures.0, c.digit_run.ensures, c.after.ensures, c.is_sign.ensures, c.byte_at.ensures)
