-- To be believed. Grading into a table of records that the caller lends (A2): number, detail and the table afterwards, for every input. Assumes nothing.
use Rattle.std.specs.Prelude.{ℕ, cond, List, [], ◌∷◌, ◌++◌, ltb, length, drop}
use Rattle.hl7.specs.Refusals.{Told, told, Row, first_row, passes}
use Rattle.grade.specs.Admission.{admit_rows}
use Rattle.grade.specs.Grading.{findings_for}
use Rattle.grade.specs.declared.finding.Finding.{Finding}

-- row 12: the findings exceed the table; its detail is the number needed
abbrev pub room_row : List Finding → ℕ → Row
room_row findings room = record { holds = ltb room (length findings); tells = told 12 (length findings) }

-- rows 1 to 9, then 12
abbrev pub table_rows : (m book : List ℕ) → ℕ → List Row
table_rows m b room = admit_rows m b ++ (room_row (findings_for m b) room ∷ [])

-- number and detail, and the table afterwards
pub record Filled : Type 0 where
  pub told : Told
  pub table : List Finding

-- with number 0 the detail is the number of findings, the first records hold them and all later ones keep their values; on a refusal the whole table keeps
-- its values
unfoldable pub grade_into : (m book : List ℕ) → List Finding → Filled
grade_into m b table =
    cond (passes (table_rows m b (length table)))
    (record { told = told 0 (length (findings_for m b)); table = findings_for m b ++ drop (length (findings_for m b)) table })
    (record { told = first_row (table_rows m b (length table)); table = table })
