-- To be believed. What the calls give: number, detail and the output afterwards, for every input. Assumes nothing.
use Rattle.std.specs.Prelude.{ℕ, ◌≡◌, cond, List, [], ◌∷◌, ◌++◌, eqb, ltb, length, drop}
use Rattle.hl7.specs.Refusals.{Told, told, Row, first_row}
use Rattle.hl7.specs.Place.{delims_of}
use Rattle.grade.specs.Header.{msh_of}
use Rattle.grade.specs.Admission.{stamp_row, ten_rows, Answer, paper}
use Rattle.grade.specs.Grading.{findings_for, Graded}
use Rattle.grade.specs.declared.finding.Finding.{Finding}
use Rattle.ack.specs.Layout.{ack_bytes}

-- number and detail, and the output afterwards
pub record Outcome : Type 0 where
  pub told : Told
  pub output : List ℕ

abbrev pub outcome : Told → List ℕ → Outcome
outcome t out = record { told = t; output = out }

-- with number 0 the detail is the ACK's length, the first bytes of the output hold the ACK and all later ones keep their values; on a refusal the whole
-- output keeps its values
abbrev pub outcome_by : Told → (ack out : List ℕ) → Outcome
outcome_by t ack out = cond (eqb t.number 0) (outcome (told 0 (length ack)) (ack ++ drop (length ack) out)) (outcome t out)

-- the first row of a table that holds decides
abbrev pub by_rows : List Row → (ack out : List ℕ) → Outcome
by_rows rows ack out = outcome_by (first_row rows) ack out

-- row 11: the output is shorter than the ACK; its detail is the length needed
abbrev pub short_row : (ack out : List ℕ) → Row
short_row ack out = record { holds = ltb (length out) (length ack); tells = told 11 (length ack) }

-- rows 10 and 11, about the stamp and the output
abbrev pub write_rows : (stamp ack out : List ℕ) → List Row
write_rows stamp ack out = stamp_row stamp ∷ short_row ack out ∷ []

-- the ACK to a message that lists findings: its delimiters and its MSH are the message's own
abbrev pub ack_of : (m : List ℕ) → List Finding → (stamp : List ℕ) → ℕ → List ℕ
ack_of m findings stamp control = ack_bytes (delims_of m) (msh_of m) stamp control findings

-- writing the ACK to a message that was graded
unfoldable pub write_of : (m : List ℕ) → List Finding → (stamp : List ℕ) → ℕ → (out : List ℕ) → Outcome
write_of m findings stamp control out = by_rows (write_rows stamp (ack_of m findings stamp control) out) (ack_of m findings stamp control) out

-- what grading gave is written, where it gave no refusal
abbrev pub then_write : Graded → (m stamp : List ℕ) → ℕ → (out : List ℕ) → Outcome
then_write g m stamp control out = cond (eqb g.told.number 0) (write_of m g.findings stamp control out) (outcome g.told out)

-- the ACK to a message by a book: it lists what the section finds that the message names
abbrev pub ack_for : (m book stamp : List ℕ) → ℕ → List ℕ
ack_for m book stamp control = ack_of m (findings_for m book) stamp control

-- the eleven rows, in the order in which they are tried
abbrev pub answer_rows : (m book stamp : List ℕ) → ℕ → (out : List ℕ) → List Row
answer_rows m book stamp control out = ten_rows m book stamp ++ (short_row (ack_for m book stamp control) out ∷ [])

-- the answer to a message by a book
unfoldable pub answer_of : (m book stamp : List ℕ) → ℕ → (out : List ℕ) → Outcome
answer_of m book stamp control out = by_rows (answer_rows m book stamp control out) (ack_for m book stamp control) out

-- the call answered `answer` and left the output as `after`
abbrev pub Gives : Answer → (after : List ℕ) → Outcome → Type 0
Gives answer after o = outcome (paper answer) after ≡ o
