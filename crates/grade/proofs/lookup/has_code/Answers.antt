-- `grade::lookup::has_code` meets its contract: the codes of a set are those after its count. Assumes nothing.
use mathlib.Core.Path.{sym, ap, ◌∙◌}
use mathlib.Core.List.{List}
use Prim.Native.Nat.{ℕ}
use native.Mathlib.Omega.{arith}
use Rattle.hl7.specs.Bytes.{among}
use Rattle.grade.specs.Reader.{Parsed, is_found, items_of}
use Rattle.grade.proofs.Parts.{set_is}
use Rattle.grade.proofs.lookup.has_code.Goals as goal

pub overflow_add-at : goal.overflow_add-at
overflow_add-at c = omega (arith, (set_is c.args.book.now c.args.at c.requires).0)

pub pair_at-requires : goal.pair_at-requires
pair_at-requires c = (set_is c.args.book.now c.args.at c.requires).0

pub among_codes-requires : goal.among_codes-requires
among_codes-requires c = ap is_found (sym ((set_is c.args.book.now c.args.at c.requires).1 _ c.pair_at.ensures)) ∙ c.requires

pub returns : goal.returns
returns c =
    c.among_codes.ensures
    ∙ ap (λ (r : Parsed (List (List ℕ))). among c.args.value.now (items_of r))
    (sym ((set_is c.args.book.now c.args.at c.requires).1 _ c.pair_at.ensures))
