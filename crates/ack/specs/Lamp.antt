-- To be believed. The lamp (A8): refusals 1 to 10, or whether a message would get AA. Assumes nothing.
use Rattle.std.specs.Prelude.{ℕ, Bool, cond, not, List}
use Rattle.hl7.specs.Refusals.{Told, told, first_row, passes}
use Rattle.grade.specs.Admission.{ten_rows}
use Rattle.grade.specs.Grading.{findings_for}
use Rattle.grade.specs.declared.finding.Finding.{Finding}
use Rattle.grade.specs.Deciding.{has, is_fault}

-- AA: no finding is E or W
abbrev pub gets_aa : List Finding → Bool
gets_aa findings = not (has is_fault findings)

-- number 0, and detail 1 for yes or 0 for no
abbrev pub yes_or_no : Bool → Told
yes_or_no aa = told 0 (cond aa 1 0)

-- the first of rows 1 to 10 that holds, or else yes or no
unfoldable pub lamp_of : (m book stamp : List ℕ) → Told
lamp_of m b stamp = cond (passes (ten_rows m b stamp)) (yes_or_no (gets_aa (findings_for m b))) (first_row (ten_rows m b stamp))
