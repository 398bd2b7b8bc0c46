-- To be believed. Writing the ACK from records that the caller lends (A2): number, detail and the output afterwards, for every input. Assumes nothing.
use Rattle.std.specs.Prelude.{ℕ, Bool, cond, not, ◌||◌, List, [], ◌∷◌, ◌++◌, eqb, ltb, length, take, replicate}
use Rattle.hl7.specs.Refusals.{Row, row}
use Rattle.grade.specs.Admission.{six_rows, stamp_row}
use Rattle.grade.specs.Range.{all_in_range}
use Rattle.grade.specs.Table.{grade_into}
use Rattle.grade.specs.declared.finding.Finding.{Finding}
use Rattle.ack.specs.Answers.{Outcome, outcome, by_rows, short_row, ack_of}

-- row 13: the stated count exceeds the table, or one of the counted records is out of range
abbrev pub range_row : (over : Bool) → List Finding → Row
range_row over records = row 13 (over || not (all_in_range records))

-- rows 1 to 6, then 13, 10 and 11
abbrev pub record_rows : (m : List ℕ) → (over : Bool) → List Finding → (stamp ack out : List ℕ) → List Row
record_rows m over records stamp ack out = six_rows m ++ (range_row over records ∷ stamp_row stamp ∷ short_row ack out ∷ [])

-- the ACK to a message that lists records, written where no row holds
abbrev pub write_records : (m : List ℕ) → (over : Bool) → List Finding → (stamp : List ℕ) → ℕ → (out : List ℕ) → Outcome
write_records m over records stamp control out = by_rows (record_rows m over records stamp (ack_of m records stamp control) out) (ack_of m records stamp control) out

-- the first so many records of a table, by the stated count; those behind them are not looked at
unfoldable pub write_from : (m : List ℕ) → (table : List Finding) → ℕ → (stamp : List ℕ) → ℕ → (out : List ℕ) → Outcome
write_from m table count stamp control out = write_records m (ltb (length table) count) (take count table) stamp control out

-- grading into a table, and then writing the number of records that it gave
unfoldable pub lent_of : (table : List Finding) → (m book stamp : List ℕ) → ℕ → (out : List ℕ) → Outcome
lent_of table m b stamp control out =
    cond (eqb (grade_into m b table).told.number 0)
    (write_from m (grade_into m b table).table (grade_into m b table).told.detail stamp control out)
    (outcome (grade_into m b table).told out)

-- ---- the table that the programs lend
abbrev pub record_count : ℕ
record_count = 8192

-- a record that says nothing
abbrev pub blank : Finding
blank = record { ordinal = 0; repetition = 0; rule = 0; code = 0; name = 0; field = 0; component = 0; severity = 0 }

abbrev pub own_table : List Finding
own_table = replicate record_count blank
