-- `grade::lookup::set_after` meets its contract: a set ends where its codes do. Assumes nothing.
use mathlib.Core.Path.{sym, ap, ◌∙◌}
use native.Mathlib.Omega.{arith}
use Rattle.grade.specs.Reader.{is_found}
use Rattle.grade.specs.Standing.{end_of}
use Rattle.grade.proofs.Parts.{set_is}
use Rattle.grade.proofs.lookup.set_after.Goals as goal

pub overflow_add-at : goal.overflow_add-at
overflow_add-at c = omega (arith, (set_is c.args.book.now c.args.at c.requires).0)

pub pair_at-requires : goal.pair_at-requires
pair_at-requires c = (set_is c.args.book.now c.args.at c.requires).0

pub codes_after-requires : goal.codes_after-requires
codes_after-requires c = ap is_found (sym ((set_is c.args.book.now c.args.at c.requires).1 _ c.pair_at.ensures)) ∙ c.requires

pub returns : goal.returns
returns c = ap end_of ((set_is c.args.book.now c.args.at c.requires).1 _ c.pair_at.ensures) ∙ c.codes_after.ensures
