-- To be believed. Rows 1 to 9, which say whether a message can be graded by a book, and row 10, about the stamp. Assumes nothing.
use Rattle.std.specs.Prelude.{ℕ, Bool, not, List, [], ◌∷◌, ◌++◌, length, Result, Ok, Err}
use Rattle.hl7.specs.Bytes.{within}
use Rattle.hl7.specs.Place.{delims_of, field_of}
use Rattle.hl7.specs.Refusals.{Told, told, Row, row, message_rows, unreadable_told}
use Rattle.hl7.specs.declared.place.Delims.{Delims}
use Rattle.grade.specs.Book.{malformed, other_version, no_section}
use Rattle.grade.specs.Header.{msh_of, msh_at}
use Rattle.grade.specs.Values.{is_stamp}
use Rattle.grade.specs.declared.refusal.Refusal.{Refusal}
use Rattle.grade.specs.declared.book.Unusable.{Unusable}

-- the whole MSH-10 is not empty and not over 199 bytes
abbrev pub has_control_id : Delims → List ℕ → Bool
has_control_id d msh = within 1 199 (length (field_of d msh 10).bytes)

-- MSH-6.1 names the section
abbrev pub key_of : Delims → List ℕ → List ℕ
key_of d msh = msh_at d msh 6 1

-- rows 7 to 9: a book, opened with a key
unfoldable pub book_rows : List ℕ → List ℕ → List Row
book_rows b key = row 7 (malformed b) ∷ row 8 (other_version b) ∷ row 9 (no_section b key) ∷ []

-- row 6: MSH-10
abbrev pub control_row : Delims → List ℕ → Row
control_row d msh = row 6 (not (has_control_id d msh))

-- rows 1 to 6, which do not look at a book
abbrev pub six_rows : List ℕ → List Row
six_rows m = message_rows m ++ (control_row (delims_of m) (msh_of m) ∷ [])

-- rows 6 to 9
abbrev pub msh_rows : Delims → List ℕ → List ℕ → List Row
msh_rows d msh b = control_row d msh ∷ book_rows b (key_of d msh)

-- rows 1 to 9
unfoldable pub admit_rows : List ℕ → List ℕ → List Row
admit_rows m b = message_rows m ++ msh_rows (delims_of m) (msh_of m) b

-- row 10: the stamp is none
abbrev pub stamp_row : (stamp : List ℕ) → Row
stamp_row stamp = row 10 (not (is_stamp stamp))

-- rows 1 to 10, which do not look at the output
abbrev pub ten_rows : (m b stamp : List ℕ) → List Row
ten_rows m b stamp = admit_rows m b ++ (stamp_row stamp ∷ [])

-- ---- the code's answers on paper
-- the paper's number and detail of each refusal
abbrev pub refusal_told : Refusal → Told
refusal_told (Refusal.Unreadable why) = unreadable_told why
refusal_told Refusal.NoControlId = told 6 0
refusal_told Refusal.Malformed = told 7 0
refusal_told Refusal.OtherVersion = told 8 0
refusal_told Refusal.NoSection = told 9 0
refusal_told Refusal.WrongStamp = told 10 0
refusal_told (Refusal.ShortOutput need) = told 11 need
refusal_told (Refusal.ShortTable need) = told 12 need
refusal_told Refusal.WrongRecord = told 13 0
refusal_told Refusal.WrongFile = told 14 0
refusal_told (Refusal.WrongMessage ordinal) = told 15 ordinal

-- what a call answers
abbrev pub Answer : Type 0
Answer = Result ℕ Refusal

abbrev pub paper : Answer → Told
paper (Ok detail) = told 0 detail
paper (Err refusal) = refusal_told refusal

-- how many sections a book has, or why it cannot be used
abbrev pub Indexed : Type 0
Indexed = Result ℕ Unusable

abbrev pub indexed_told : Indexed → Told
indexed_told (Ok count) = told 0 0
indexed_told (Err Unusable.Malformed) = told 7 0
indexed_told (Err Unusable.OtherVersion) = told 8 0

-- an answer in which something else than a number was asked for
abbrev pub admitted_told : {A : Type 0} → Result A Refusal → Told
admitted_told (Ok a) = told 0 0
admitted_told (Err refusal) = refusal_told refusal
