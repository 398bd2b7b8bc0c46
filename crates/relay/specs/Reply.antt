-- To be believed. What the program answers. Assumes nothing.
use Rattle.std.specs.Prelude.{ℕ, List}
use Rattle.ack.specs.Answers.{Outcome}
use Rattle.ack.specs.Records.{lent_of, own_table}

-- to a stamp and a control number: the message is graded by the book into a table of 8,192 records and then written, with this output lent
abbrev pub answers : (message book out : List ℕ) → (stamp : List ℕ) → ℕ → Outcome
answers message book out stamp control = lent_of own_table message book stamp control out
