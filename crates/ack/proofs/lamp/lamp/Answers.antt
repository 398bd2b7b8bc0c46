-- `ack::lamp::lamp` meets its contract: the first refusal that applies, or what the findings say. Assumes nothing.
use mir.Val.{bool_byte}
use mathlib.Core.Path.{◌≡◌, refl, ◌∙◌}
use mathlib.Core.Bool.{Bool, true, false, cond}
use Rattle.std.proofs.lemmas.Result.{err_from_is_err_and}
use Rattle.grade.proofs.Admitting.{admitted_by, admitted_short, admitted_holds, stamped_admitted}
use Rattle.ack.proofs.YesOrNo.{lamp_refused, lamp_admitted}
use Rattle.ack.proofs.lamp.lamp.Goals as goal

one : (yes : Bool) → bool_byte yes ≡ cond yes 1 0
one true = refl
one false = refl

pub returns-in_err-by : goal.returns-in_err-by
returns-in_err-by c =
    let p = err_from_is_err_and c.from_residual.result c.from_residual.ensures.1 in
    rw (p.1, p.2) (lamp_refused _ _ _ c.in_err-by.ensures)

pub gets_aa-requires : goal.gets_aa-requires
gets_aa-requires c =
    let is = stamped_admitted _ _ _ c.in_ok-by.ensures in
    (admitted_short _ _ is, admitted_holds _ _ is, (admitted_by _ _ is).own)

pub returns : goal.returns
returns c = lamp_admitted _ _ _ c.in_ok-by.ensures c.gets_aa.ensures (c.from.ensures ∙ one c.gets_aa.result)
