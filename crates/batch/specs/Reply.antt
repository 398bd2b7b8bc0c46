-- To be believed. What the program answers. Assumes nothing.
use Rattle.std.specs.Prelude.{ℕ, List}
use Rattle.ack.specs.Answers.{Outcome}
use Rattle.batchfile.specs.Batch.{batch_of}

-- to a stamp and a control number: the answer to the batch file by the book, with this output lent
abbrev pub answers : (file book out : List ℕ) → (stamp : List ℕ) → ℕ → Outcome
answers file book out stamp control = batch_of file book stamp control out
