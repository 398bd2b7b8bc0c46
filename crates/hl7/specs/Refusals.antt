-- To be believed. Refusals as a table: each row a condition, a number and a detail, tried in the paper's order. Rows 1 to 5 are about the message's bytes.
-- Assumes nothing.
use Rattle.std.specs.Prelude.{ℕ, suc, ◌+◌, ◌<◌, ◌≡◌, Bool, true, false, cond, not, ◌&&◌, ◌||◌, List, [], ◌∷◌, Option, Some, None, Result, Ok, Err, length, get_or, eqb, ltb}
use Rattle.hl7.specs.Text.{bytes}
use Rattle.hl7.specs.Bytes.{within, is_digit, is_upper, distinct}
use Rattle.hl7.specs.Cut.{cut, Piece}
use Rattle.hl7.specs.Place.{delims_of, carriage_return, place}
use Rattle.hl7.specs.Delimiters.{opens}
use Rattle.hl7.specs.declared.place.Delims.{Delims}
use Rattle.hl7.specs.declared.refusal.Unreadable.{Unreadable}
use Rattle.hl7.specs.declared.refusal.Unreadable.TheVariants.{Empty, TooLong, WrongByte, NoHeader, WrongSegment}

-- ---- tables of refusals
-- an answer on paper: a number and a detail
pub record Told : Type 0 where
  pub number : ℕ
  pub detail : ℕ

abbrev pub told : ℕ → ℕ → Told
told number detail = record { number = number; detail = detail }

pub record Row : Type 0 where
  pub holds : Bool
  pub tells : Told

-- a refusal without a position
abbrev pub row : ℕ → Bool → Row
row number holds = record { holds = holds; tells = told number 0 }

abbrev pub is_some : List ℕ → Bool
is_some [] = false
is_some (x ∷ l) = true

-- a refusal for what stands at some positions: its detail is the first
abbrev pub row_at : ℕ → List ℕ → Row
row_at number positions = record { holds = is_some positions; tells = told number (get_or positions 0 0) }

-- the first row that holds tells the answer; number 0 where none does
unfoldable pub first_row : List Row → Told
first_row [] = told 0 0
first_row (r ∷ rows) = cond r.holds r.tells (first_row rows)

-- no row holds
abbrev pub passes : List Row → Bool
passes rows = eqb (first_row rows).number 0

-- the numbers of a table's rows
unfoldable pub numbers_of : List Row → List ℕ
numbers_of [] = []
numbers_of (r ∷ rows) = r.tells.number ∷ numbers_of rows

-- none of the numbers is 0, and no two are the same: then an answer's number says which row told it
abbrev pub apart : List ℕ → Bool
apart numbers = distinct (0 ∷ numbers)

-- row k, from 0, is the first that holds
abbrev pub holds_at : List Row → ℕ → Bool
holds_at rows k = (get_or rows k (row 0 false)).holds

pub record First (rows : List Row) (k : ℕ) : Type 0 where
  pub within : k < length rows
  pub holds : holds_at rows k ≡ true
  pub none_before : (i : ℕ) → i < k → holds_at rows i ≡ false

-- ---- rows 1 to 5
-- the longest message, in bytes
abbrev pub message_limit : ℕ
message_limit = 32768

-- 0x20 to 0x7E, or CR
abbrev pub allowed : ℕ → Bool
allowed x = within 32 126 x || eqb x carriage_return

-- the positions of the bytes of s that are neither, s beginning at `at`
unfoldable pub wrong_bytes : ℕ → List ℕ → List ℕ
wrong_bytes at [] = []
wrong_bytes at (x ∷ s) = cond (allowed x) (wrong_bytes (suc at) s) (at ∷ wrong_bytes (suc at) s)

abbrev pub is_upper_or_digit : ℕ → Bool
is_upper_or_digit x = is_upper x || is_digit x

-- an upper-case letter and two upper-case letters or digits, then the message's bar or the CR
unfoldable pub has_form : Delims → List ℕ → Bool
has_form d seg =
    is_upper (get_or seg 0 0) && is_upper_or_digit (get_or seg 1 0) && is_upper_or_digit (get_or seg 2 0)
    && (eqb (length seg) 3 || eqb (get_or seg 3 0) d.bar)

-- where the segments of wrong form start, the parts that CRs cut beginning at `at`; what stands after the last CR is a segment without one
unfoldable pub wrong_segments : Delims → ℕ → List (List ℕ) → List ℕ
wrong_segments d at [] = []
wrong_segments d at (p ∷ []) = cond (eqb (length p) 0) [] (at ∷ [])
wrong_segments d at (p ∷ (q ∷ ps)) =
    cond (has_form d p) (wrong_segments d (at + length p + 1) (q ∷ ps)) (at ∷ wrong_segments d (at + length p + 1) (q ∷ ps))

unfoldable pub form_rows : List ℕ → List Row
form_rows m = row 4 (not (opens (bytes "MSH") m)) ∷ row_at 5 (wrong_segments (delims_of m) 0 (cut carriage_return m)) ∷ []

unfoldable pub message_rows : List ℕ → List Row
message_rows m = row 1 (eqb (length m) 0) ∷ row 2 (ltb message_limit (length m)) ∷ row_at 3 (wrong_bytes 0 m) ∷ form_rows m

-- ---- the code's answers on paper
abbrev pub first_of : List ℕ → Option ℕ
first_of [] = None
first_of (x ∷ l) = Some x

abbrev pub unreadable_told : Unreadable → Told
unreadable_told Empty = told 1 0
unreadable_told TooLong = told 2 0
unreadable_told (WrongByte at) = told 3 at
unreadable_told NoHeader = told 4 0
unreadable_told (WrongSegment start) = told 5 start

abbrev pub reading_told : Result Unit Unreadable → Told
reading_told (Ok read) = told 0 0
reading_told (Err reason) = unreadable_told reason

-- what a paper's answer about a message is in the code's words: the other way round
unfoldable pub reading_of : Told → Result Unit Unreadable
reading_of a =
    cond (eqb a.number 0) (Ok tt)
    (cond (eqb a.number 1) (Err Empty)
    (cond (eqb a.number 2) (Err TooLong)
    (cond (eqb a.number 3) (Err (WrongByte a.detail)) (cond (eqb a.number 4) (Err NoHeader) (Err (WrongSegment a.detail))))))

-- ---- locating
-- refusals 1 to 5 do not apply
unfoldable pub is_sound : List ℕ → Bool
is_sound m = passes (message_rows m)

-- a place that a reader asks for: empty, at the message's start, where refusals 1 to 5 apply
unfoldable pub located : List ℕ → ℕ → ℕ → ℕ → ℕ → Piece
located m n f r c = cond (is_sound m) (place (delims_of m) m n f r c) (record { start = 0; bytes = [] })
