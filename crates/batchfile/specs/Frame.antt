-- To be believed. The frame of a batch file: FHS, BHS, messages, BTS, FTS. Assumes nothing.
use Rattle.std.specs.Prelude.{ℕ, Bool, ◌&&◌, ◌||◌, List, [], ◌∷◌, eqb, length, drop}
use Rattle.hl7.specs.Text.{bytes}
use Rattle.hl7.specs.Bytes.{is_digit, all, begins}
use Rattle.hl7.specs.Cut.{cut, part_at}
use Rattle.hl7.specs.Place.{carriage_return, delims_of, segment_of, field_of}
use Rattle.hl7.specs.Delimiters.{opens}
use Rattle.hl7.specs.Number.{value_of}
use Rattle.hl7.specs.Refusals.{row_at, passes, wrong_bytes, wrong_segments}
use Rattle.hl7.specs.declared.place.Delims.{Delims}
use Rattle.batchfile.specs.Messages.{lines_of, Gathered, gathered, from_frame}

-- ---- the parts of a file
-- the first two segments
abbrev pub fhs_of : List ℕ → List ℕ
fhs_of f = part_at (lines_of f) 0

abbrev pub bhs_of : List ℕ → List ℕ
bhs_of f = part_at (lines_of f) 1

-- what stands between them and the next frame name
abbrev pub body_of : List ℕ → Gathered
body_of f = gathered (drop 2 (lines_of f))

abbrev pub messages_in : List ℕ → List (List ℕ)
messages_in f = (body_of f).messages

-- and what comes from there on
abbrev pub trailer_of : List ℕ → List (List ℕ)
trailer_of f = from_frame (drop 2 (lines_of f))

abbrev pub bts_of : List ℕ → List ℕ
bts_of f = part_at (trailer_of f) 0

abbrev pub fts_of : List ℕ → List ℕ
fts_of f = part_at (trailer_of f) 1

-- ---- the shape
-- a frame segment keeps rows 3 and 5 with the file's delimiters
unfoldable pub keeps_rows : Delims → List ℕ → Bool
keeps_rows d line = passes (row_at 3 (wrong_bytes 0 line) ∷ row_at 5 (wrong_segments d 0 (cut carriage_return line)) ∷ [])

-- and has its name
abbrev pub is_segment : Delims → (name line : List ℕ) → Bool
is_segment d name line = begins name line && keeps_rows d line

abbrev pub is_none : {A : Type 0} → List A → Bool
is_none l = eqb (length l) 0

-- FHS, which shows the file's delimiters; BHS; messages, and nothing before the first; BTS and FTS, and nothing after them. A frame name elsewhere
-- would end the messages, and not be BTS in its place
unfoldable pub is_framed : List ℕ → Bool
is_framed f =
    opens (bytes "FHS") f && keeps_rows (delims_of f) (fhs_of f) && is_segment (delims_of f) (bytes "BHS") (bhs_of f)
    && is_none (body_of f).before
    && is_segment (delims_of f) (bytes "BTS") (bts_of f) && is_segment (delims_of f) (bytes "FTS") (fts_of f) && is_none (drop 2 (trailer_of f))

-- ---- the counts
-- empty, or n in decimal digits, leading zeros allowed
unfoldable pub is_count : ℕ → List ℕ → Bool
is_count n field = is_none field || all is_digit field && eqb (value_of field) n

-- field 1 of a frame segment, whole
abbrev pub count_in : Delims → List ℕ → List ℕ
count_in d line = (field_of d (segment_of line 1).bytes 1).bytes

-- BTS-1, if not empty, is the number of messages, and FTS-1, if not empty, is 1
unfoldable pub is_counted : List ℕ → Bool
is_counted f = is_count (length (messages_in f)) (count_in (delims_of f) (bts_of f)) && is_count 1 (count_in (delims_of f) (fts_of f))
