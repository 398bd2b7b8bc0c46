-- `difference::counterpart::counterpart_of` meets its contract. Assumes nothing.
use mathlib.Core.Path.{sym, ap, ◌∙◌}
use Prim.Native.Nat.{ℕ}
use native.Mathlib.Omega.{arith}
use lib.ListN.{get_or}
use lib.Seq.{length-take-le}
use Rattle.difference.specs.Difference.{numbered, counterpart}
use Rattle.difference.proofs.counterpart.counterpart_of.Goals as goal

pub slice_bounds-count_of-end : goal.slice_bounds-count_of-end
slice_bounds-count_of-end c = sym (length-take-le c.args.i c.args.own.now (omega (arith, c.requires)))

pub returns-clause-is : goal.returns-clause-is
unfolding counterpart
returns-clause-is c = c.number_of.ensures.is ∙ ap (λ (k : ℕ). numbered 1 (get_or c.args.own.now c.args.i 0) k c.args.others.now) c.count_of-before.ensures
