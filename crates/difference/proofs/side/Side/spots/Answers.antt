-- `difference::side::Side::spots` meets its contract. Assumes nothing.
use native.Mathlib.Omega.{arith}
use Rattle.canonical.proofs.PutBook.{section-holds}
use Rattle.difference.proofs.side.Side.spots.Goals as goal

pub shared_ref_as_front-result : goal.shared_ref_as_front-result
shared_ref_as_front-result c =
    let side = c.args.self.now in
    omega (arith, (section-holds side.book.now side.start side.stands side.sited).few_rules)
