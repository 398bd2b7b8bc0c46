-- `book::counts::add_up` meets its contract, by the invariant that stands beside this. Assumes nothing.
use mathlib.Core.Path.{refl}
use native.Mathlib.Omega.{arith}
use Rattle.book.proofs.Counting.{adding_start, adding_stands, adding_more, adding_few, adding_done}
use Rattle.book.proofs.counts.add_up.Goals as goal

pub site_at-site-requires : goal.site_at-site-requires
site_at-site-requires c = adding_stands _ _ c.requires.0 _ (omega arith)

pub overflow_add-rules : goal.overflow_add-rules
overflow_add-rules c = omega (arith, (adding_few _ _ c.requires.0 c.loop-start.invariant (omega arith) c.site_at-site.ensures refl c.requires.1).0)

pub overflow_add-sets : goal.overflow_add-sets
overflow_add-sets c = omega (arith, (adding_few _ _ c.requires.0 c.loop-start.invariant (omega arith) c.site_at-site.ensures refl c.requires.1).1)

pub loop-start-preserved : goal.loop-start-preserved
loop-start-preserved c = adding_more _ _ c.requires.0 c.loop-start.invariant (omega arith) c.site_at-site.ensures refl

pub loop-start-init : goal.loop-start-init
loop-start-init c = adding_start _ _

pub returns : goal.returns
returns c = adding_done _ _ c.loop-start.invariant (omega arith)
