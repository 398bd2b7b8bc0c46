-- `difference::side::Side::counterpart` meets its contract. Assumes nothing.
use mathlib.Core.Path.{ap, ap₂, ◌∙◌}
use mathlib.Core.List.{List}
use Prim.Native.Nat.{ℕ}
use native.Mathlib.Omega.{arith}
use lib.ListN.{length}
use Rattle.canonical.proofs.PutBook.{section-holds}
use Rattle.difference.specs.Difference.{counterpart}
use Rattle.difference.proofs.Sections.{spots_length}
use Rattle.difference.proofs.side.Side.counterpart.Goals as goal

pub counterpart_of-requires : goal.counterpart_of-requires
counterpart_of-requires c =
    let side = c.args.self.now in
    omega (arith, c.requires, ap length c.spots.ensures, spots_length side.book.now side.section (section-holds side.book.now side.start side.stands side.sited))

pub returns-clause-is : goal.returns-clause-is
returns-clause-is c =
    c.counterpart_of.ensures.is ∙ ap₂ (λ (own others : List ℕ). counterpart own others c.args.i) c.spots.ensures c.spots-2.ensures

pub returns-clause-inside : goal.returns-clause-inside
returns-clause-inside c =
    let side = c.args.other.now in
    let many = ap length c.spots-2.ensures ∙ spots_length side.book.now side.section (section-holds side.book.now side.start side.stands side.sited) in
    rw many at c.counterpart_of.ensures.inside
