-- To be believed. What answering a batch file gives: number, detail and the output afterwards, for every input. Assumes nothing.
use Rattle.std.specs.Prelude.{ℕ, suc, ◌+◌, Bool, cond, not, ◌||◌, List, [], ◌∷◌, ◌++◌, ltb, length}
use Rattle.hl7.specs.Refusals.{Row, row, row_at, passes}
use Rattle.grade.specs.Admission.{ten_rows}
use Rattle.ack.specs.Answers.{Outcome, by_rows, short_row, ack_for}
use Rattle.batchfile.specs.Frame.{messages_in, is_framed, is_counted}

-- ---- 14
-- 1 MiB
abbrev pub file_limit : ℕ
file_limit = 1048576

-- one past the largest control number
abbrev pub controls : ℕ
controls = 4294967296

-- over 1 MiB, a file not of this shape, a count that differs, or control numbers past 4,294,967,295
unfoldable pub is_wrong : (f : List ℕ) → ℕ → Bool
is_wrong f control = ltb file_limit (length f) || not (is_framed f) || not (is_counted f) || ltb controls (control + length (messages_in f))

-- ---- 15
-- a message, alone, meets one of 1 to 10
abbrev pub meets_one : (book stamp m : List ℕ) → Bool
meets_one book stamp m = not (passes (ten_rows m book stamp))

-- the ordinals of those that do, the first message having the ordinal n
unfoldable pub refused_from : (book stamp : List ℕ) → ℕ → List (List ℕ) → List ℕ
refused_from book stamp n [] = []
refused_from book stamp n (m ∷ ms) = cond (meets_one book stamp m) (n ∷ refused_from book stamp (suc n) ms) (refused_from book stamp (suc n) ms)

-- ---- the answer
-- the ACKs joined, each what its message alone is answered, with control numbers counting up
unfoldable pub acks_from : (book stamp : List ℕ) → ℕ → List (List ℕ) → List ℕ
acks_from book stamp control [] = []
acks_from book stamp control (m ∷ ms) = ack_for m book stamp control ++ acks_from book stamp (suc control) ms

-- a message that meets one of 1 to 10, the lowest ordinal; then the joined output
abbrev pub joined_rows : (messages : List (List ℕ)) (book stamp : List ℕ) → ℕ → (out : List ℕ) → List Row
joined_rows messages book stamp control out = row_at 15 (refused_from book stamp 1 messages) ∷ short_row (acks_from book stamp control messages) out ∷ []

-- 14 first of all
abbrev pub batch_rows : (f book stamp : List ℕ) → ℕ → (out : List ℕ) → List Row
batch_rows f book stamp control out = row 14 (is_wrong f control) ∷ joined_rows (messages_in f) book stamp control out

-- the answer to a batch file
unfoldable pub batch_of : (f book stamp : List ℕ) → ℕ → (out : List ℕ) → Outcome
batch_of f book stamp control out = by_rows (batch_rows f book stamp control out) (acks_from book stamp control (messages_in f)) out
