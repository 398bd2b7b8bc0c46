-- `legend::legend::number_after` meets its contract. Assumes nothing.
use mathlib.Core.Path.{ap, ◌∙◌}
use mathlib.Core.Bool.{Bool, cond}
use Prim.Native.Nat.{◌+◌}
use native.Mathlib.Omega.{arith}
use Rattle.hl7.proofs.Comparing.{picked_most}
use Rattle.legend.proofs.legend.number_after.Goals as goal

pub is_staying-requires : goal.is_staying-requires
is_staying-requires c = c.requires.1

pub returns : goal.returns
returns c = (
  λ t m. c.pick.ensures ∙ ap (λ (b : Bool). cond b (c.args.n + 1) c.args.n) (c.is_staying.ensures t m),
  omega (arith, picked_most _ (c.args.n + 1) c.args.n _ c.pick.ensures),
)
