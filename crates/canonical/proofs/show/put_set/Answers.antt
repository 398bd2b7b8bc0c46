-- `canonical::show::put_set` meets its contract. Assumes nothing.
use mathlib.Core.Path.{refl, sym, ap, ◌∙◌}
use native.Mathlib.Omega.{arith}
use Rattle.hl7.specs.Text.{bytes}
use Rattle.grade.specs.Reader.{is_found}
use Rattle.grade.proofs.Parts.{set_is}
use Rattle.canonical.proofs.PutSets.{two_written, set-written}
use Rattle.canonical.proofs.show.put_set.Goals as goal

pub overflow_add-start : goal.overflow_add-start
overflow_add-start c = omega (arith, (set_is c.args.book.now c.args.start c.requires).0)

pub pair_at-requires : goal.pair_at-requires
pair_at-requires c = (set_is c.args.book.now c.args.start c.requires).0

pub put_codes-requires : goal.put_codes-requires
put_codes-requires c = sym (ap is_found ((set_is c.args.book.now c.args.start c.requires).1 _ c.pair_at.ensures)) ∙ c.requires

pub returns : goal.returns
returns c =
    set-written c.args.book.now c.args.start c.requires c.pair_at.ensures _
    (two_written (bytes "set") refl c.put.ensures c.put_set_name.ensures c.put_byte.ensures)
    c.put_codes.ensures
