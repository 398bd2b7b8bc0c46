-- `grade::rule::name_of_letters` meets its contract: each arm has the number of its name (`number-name`), and the last arm is none of the ten. Assumes nothing.
use mathlib.Core.Path.{refl, sym, ◌∙◌}
use native.Mathlib.Omega.{arith}
use lib.Dec.{lit≤}
use Rattle.grade.specs.Rule.{segment_names, name_bytes, number_from, name_of_letters}
use Rattle.grade.proofs.Naming.{number-name, other_name}
use Rattle.grade.proofs.rule.name_of_letters.Goals as goal

pub returns-in-5067592 : goal.returns-in-5067592
unfolding name_bytes segment_names
returns-in-5067592 c =
    let a = c.args in (sym (number-name a.a a.b a.c 1 (omega arith) (omega arith) (omega arith) refl (sym c.letters.ensures ∙ c.in-5067592.is)), lit≤ tt)

pub returns-in-5261636 : goal.returns-in-5261636
unfolding name_bytes segment_names
returns-in-5261636 c =
    let a = c.args in (sym (number-name a.a a.b a.c 2 (omega arith) (omega arith) (omega arith) refl (sym c.letters.ensures ∙ c.in-5261636.is)), lit≤ tt)

pub returns-in-5260337 : goal.returns-in-5260337
unfolding name_bytes segment_names
returns-in-5260337 c =
    let a = c.args in (sym (number-name a.a a.b a.c 3 (omega arith) (omega arith) (omega arith) refl (sym c.letters.ensures ∙ c.in-5260337.is)), lit≤ tt)

pub returns-in-5131057 : goal.returns-in-5131057
unfolding name_bytes segment_names
returns-in-5131057 c =
    let a = c.args in (sym (number-name a.a a.b a.c 4 (omega arith) (omega arith) (omega arith) refl (sym c.letters.ensures ∙ c.in-5131057.is)), lit≤ tt)

pub returns-in-5264945 : goal.returns-in-5264945
unfolding name_bytes segment_names
returns-in-5264945 c =
    let a = c.args in (sym (number-name a.a a.b a.c 5 (omega arith) (omega arith) (omega arith) refl (sym c.letters.ensures ∙ c.in-5264945.is)), lit≤ tt)

pub returns-in-5198403 : goal.returns-in-5198403
unfolding name_bytes segment_names
returns-in-5198403 c =
    let a = c.args in (sym (number-name a.a a.b a.c 6 (omega arith) (omega arith) (omega arith) refl (sym c.letters.ensures ∙ c.in-5198403.is)), lit≤ tt)

pub returns-in-5396545 : goal.returns-in-5396545
unfolding name_bytes segment_names
returns-in-5396545 c =
    let a = c.args in (sym (number-name a.a a.b a.c 7 (omega arith) (omega arith) (omega arith) refl (sym c.letters.ensures ∙ c.in-5396545.is)), lit≤ tt)

pub returns-in-5396562 : goal.returns-in-5396562
unfolding name_bytes segment_names
returns-in-5396562 c =
    let a = c.args in (sym (number-name a.a a.b a.c 8 (omega arith) (omega arith) (omega arith) refl (sym c.letters.ensures ∙ c.in-5396562.is)), lit≤ tt)

pub returns-in-5194328 : goal.returns-in-5194328
unfolding name_bytes segment_names
returns-in-5194328 c =
    let a = c.args in (sym (number-name a.a a.b a.c 9 (omega arith) (omega arith) (omega arith) refl (sym c.letters.ensures ∙ c.in-5194328.is)), lit≤ tt)

pub returns-in-5133381 : goal.returns-in-5133381
unfolding name_bytes segment_names
returns-in-5133381 c =
    let a = c.args in (sym (number-name a.a a.b a.c 10 (omega arith) (omega arith) (omega arith) refl (sym c.letters.ensures ∙ c.in-5133381.is)), lit≤ tt)

pub returns-in_default : goal.returns-in_default
unfolding name_of_letters segment_names number_from
returns-in_default c =
    let x = c.args.a in
    let y = c.args.b in
    let z = c.args.c in
    let l = c.letters.ensures in (
      simp (
        other_name x y z 77 83 72 (λ e. c.in_default.in_default-own.rest.0.0.0.0.0.0.0.0.0.1 (l ∙ e)),
        other_name x y z 80 73 68 (λ e. c.in_default.in_default-own.rest.0.0.0.0.0.0.0.0.1 (l ∙ e)),
        other_name x y z 80 68 49 (λ e. c.in_default.in_default-own.rest.0.0.0.0.0.0.0.1 (l ∙ e)),
        other_name x y z 78 75 49 (λ e. c.in_default.in_default-own.rest.0.0.0.0.0.0.1 (l ∙ e)),
        other_name x y z 80 86 49 (λ e. c.in_default.in_default-own.rest.0.0.0.0.0.1 (l ∙ e)),
        other_name x y z 79 82 67 (λ e. c.in_default.in_default-own.rest.0.0.0.0.1 (l ∙ e)),
        other_name x y z 82 88 65 (λ e. c.in_default.in_default-own.rest.0.0.0.1 (l ∙ e)),
        other_name x y z 82 88 82 (λ e. c.in_default.in_default-own.rest.0.0.1 (l ∙ e)),
        other_name x y z 79 66 88 (λ e. c.in_default.in_default-own.rest.0.1 (l ∙ e)),
        other_name x y z 78 84 69 (λ e. c.in_default.in_default-own.rest.1 (l ∙ e)),
      ),
      lit≤ tt,
    )
