-- Inner: only contracts inside the crates use these names; nothing here has to be believed.
-- What is known of the messages of a file before an ACK is written. Assumes nothing.
use Rattle.std.specs.Prelude.{ℕ, ◌+◌, ◌-◌, ◌*◌, ◌^◌, ◌≤◌, ◌≡◌, Bool, true, false, cond, not, ◌||◌, List, [], ◌∷◌, ◌++◌, eqb, length, take, Option, None, Some, Result, Ok, Err}
use Rattle.hl7.specs.Refusals.{Told, row_at}
use Rattle.grade.specs.Admission.{Answer}
use Rattle.ack.specs.Answers.{Outcome, by_rows, short_row, ack_for}
use Rattle.ack.specs.Splice.{Wrote}
use Rattle.batchfile.specs.Batch.{file_limit, meets_one, refused_from, acks_from, joined_rows}
use Rattle.batchfile.specs.Walk.{gathered_at, messages_at}
use Rattle.batchfile.specs.declared.batch.Kept.{Kept}

-- so many messages begin at `at`, with nothing before the first, in a file that is not too long
pub record Starts (f : List ℕ) (at count : ℕ) : Type 0 where
  pub within : at ≤ length f
  pub limited : length f ≤ file_limit
  pub started : (gathered_at f at).before ≡ []
  pub messages : length (messages_at f at) ≡ count

-- one of refusals 1 to 10
abbrev pub is_refusal : Told → Bool
is_refusal t = not (eqb t.number 0 || eqb t.number 11)

-- what the answer to a message tells, where there was no room for its ACK
abbrev pub measured_told : Told → Option ℕ
measured_told t = cond (is_refusal t) None (Some t.detail)

-- r is how long a message's ACK is, if it meets none of refusals 1 to 10
abbrev pub Measures : (m book stamp : List ℕ) → ℕ → Option ℕ → Type 0
Measures m book stamp control None = meets_one book stamp m ≡ true
Measures m book stamp control (Some n) = (meets_one book stamp m ≡ false) × (n ≡ length (ack_for m book stamp control)) × (n ≤ length m * 2 ^ 32)

-- a message's ACK, of n bytes, was written into `before` from `at` on, which made it `after`
pub record AnsweredAt (m book stamp : List ℕ) (control : ℕ) (before : List ℕ) (at n : ℕ) (after : List ℕ) : Type 0 where
  pub fine : meets_one book stamp m ≡ false
  pub room : at + n ≤ length before
  pub wrote : Wrote before at (ack_for m book stamp control) after (at + n)

-- a message was answered into `before` from `at` on: its ACK, where it meets none and there is room, or nothing
abbrev pub AnswersAt : (m book stamp : List ℕ) → ℕ → (before : List ℕ) → ℕ → Answer → (after : List ℕ) → Type 0
AnswersAt m book stamp control before at (Ok n) after = AnsweredAt m book stamp control before at n after
AnswersAt m book stamp control before at (Err refusal) after = (after ≡ before) × (meets_one book stamp m ≡ false → at + length (ack_for m book stamp control) ≤ length before → ⊥)

-- no message meets one of 1 to 10, and so long are all ACKs
pub record Totals (messages : List (List ℕ)) (book stamp : List ℕ) (control total : ℕ) : Type 0 where
  pub none : refused_from book stamp 1 messages ≡ []
  pub long : total ≡ length (acks_from book stamp control messages)
  pub fits : total ≤ file_limit * 2 ^ 32

-- the lowest ordinal of a message that meets one
pub record Lowest (messages : List (List ℕ)) (book stamp : List ℕ) (ordinal : ℕ) : Type 0 where
  pub others : List ℕ
  pub first : refused_from book stamp 1 messages ≡ ordinal ∷ others
  pub within : ordinal ≤ length messages

-- r is how long all ACKs are, or the lowest ordinal of a message that meets one
abbrev pub MeasuresAll : (messages : List (List ℕ)) (book stamp : List ℕ) → ℕ → Result ℕ ℕ → Type 0
MeasuresAll messages book stamp control (Ok total) = Totals messages book stamp control total
MeasuresAll messages book stamp control (Err ordinal) = Lowest messages book stamp ordinal

-- ---- what is kept
-- what messages are answered: rows 15 and 11
abbrev pub joined_of : (messages : List (List ℕ)) (book stamp : List ℕ) → ℕ → (out : List ℕ) → Outcome
joined_of messages book stamp control out = by_rows (joined_rows messages book stamp control out) (acks_from book stamp control messages) out

-- the same, where k messages before these have the ACKs `kept`
abbrev pub left_of : (kept : List ℕ) (k : ℕ) (messages : List (List ℕ)) (book stamp : List ℕ) → ℕ → (out : List ℕ) → Outcome
left_of kept k messages book stamp control out =
    by_rows (row_at 15 (refused_from book stamp (k + 1) messages) ∷ short_row (kept ++ acks_from book stamp control messages) out ∷ []) (kept ++ acks_from book stamp control messages) out

-- the first messages have their ACKs in the room, up to where r says, and the others begin where it says
pub record Keeps (f : List ℕ) (at count : ℕ) (book stamp : List ℕ) (control : ℕ) (room : List ℕ) (r : Kept) : Type 0 where
  pub within : r.to ≤ length room
  pub few : r.count ≤ count
  pub starts : Starts f r.from (count - r.count)
  pub refused : refused_from book stamp 1 (messages_at f at) ≡ refused_from book stamp (r.count + 1) (messages_at f r.from)
  pub acks : acks_from book stamp control (messages_at f at) ≡ take r.to room ++ acks_from book stamp (control + r.count) (messages_at f r.from)
