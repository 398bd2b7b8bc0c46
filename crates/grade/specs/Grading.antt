-- To be believed. What grading a message gives: refusals 1 to 9, or the findings by the section of the book that it names. Assumes nothing.
use Rattle.std.specs.Prelude.{ℕ, cond, List, [], get_or}
use Rattle.hl7.specs.Place.{delims_of}
use Rattle.hl7.specs.Refusals.{Told, first_row, passes}
use Rattle.grade.specs.Book.{Contents, decoded, under}
use Rattle.grade.specs.Header.{msh_of, header_of, header_or}
use Rattle.grade.specs.Admission.{key_of, admit_rows}
use Rattle.grade.specs.Order.{may_follow}
use Rattle.grade.specs.Findings.{findings}
use Rattle.grade.specs.declared.finding.Finding.{Finding}

-- the section of the book with the key that the message names
unfoldable pub section_for : List ℕ → List ℕ → Contents
section_for m b = get_or (under (key_of (delims_of m) (msh_of m)) (decoded b)) 0 (record { key = []; rules = []; sets = [] })

-- header findings alone, if there are any; otherwise those of the order and of the section's rules
unfoldable pub findings_by : Contents → List ℕ → List Finding
findings_by section m = header_or (header_of (delims_of m) (msh_of m)) (findings may_follow section.rules section.sets m)

-- what the ACK of a message lists
abbrev pub findings_for : List ℕ → List ℕ → List Finding
findings_for m b = findings_by (section_for m b) m

-- number and detail, and the findings: a refused message has none
pub record Graded : Type 0 where
  pub told : Told
  pub findings : List Finding

unfoldable pub grade_of : (m book : List ℕ) → Graded
grade_of m b = record { told = first_row (admit_rows m b); findings = cond (passes (admit_rows m b)) (findings_for m b) [] }
