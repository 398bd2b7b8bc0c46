-- `grade::within::value_finding` meets its contract: field by field. Assumes nothing.
use Rattle.grade.proofs.within.value_finding.Goals as goal

pub returns : goal.returns
returns c =
    let a = c.args in
    λ i. record {
      name = a.here.name;
      ordinal = a.here.ordinal;
      field = a.rule.place.field;
      repetition = a.repetition;
      component = a.rule.place.component;
      rule = a.i;
      code = c.error_code.ensures i;
      severity = c.severity_letter.ensures i;
    }
