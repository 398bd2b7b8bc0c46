-- To be believed. What a program prints for its line, by what it answers to a stamp and a control number. Assumes nothing.
use Rattle.std.specs.Prelude.{ℕ, ◌≡◌, List, length}
use Rattle.ack.specs.Answers.{Outcome}
use Rattle.ack.specs.Splice.{splice}
use Rattle.show.specs.Shown.{bad_text, printed_in, printed_length, shown}
use Rattle.line.specs.Line.{Said, bad_line, good_line}

-- a bad line is told before anything else; any other line is answered, and the answer is printed
abbrev pub printed_for : Said → (answers : List ℕ → ℕ → Outcome) → List ℕ
printed_for bad_line answers = bad_text
printed_for (good_line stamp control) answers = shown (answers stamp control).told (answers stamp control).output

-- ---- in the output that was lent for the answer
abbrev pub reply_in : Said → (answers : List ℕ → ℕ → Outcome) → (out : List ℕ) → List ℕ
reply_in bad_line answers out = splice out 0 bad_text
reply_in (good_line stamp control) answers out = printed_in (answers stamp control).told (answers stamp control).output

abbrev pub reply_length : Said → (answers : List ℕ → ℕ → Outcome) → ℕ
reply_length bad_line answers = length bad_text
reply_length (good_line stamp control) answers = printed_length (answers stamp control).told (answers stamp control).output

-- the reply to what a line says made `out` into `after`, the text ending at r
pub record Replies (line : Said) (answers : List ℕ → ℕ → Outcome) (out after : List ℕ) (r : ℕ) : Type 0 where
  pub holds : after ≡ reply_in line answers out
  pub ends : r ≡ reply_length line answers
