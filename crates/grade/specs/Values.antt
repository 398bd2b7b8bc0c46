-- To be believed. What a value must be to have a LENGTH, to be a NUMBER, a DATE, a TIME or the stamp. Assumes nothing.
use Rattle.std.specs.Prelude.{ℕ, ◌+◌, ◌*◌, ◌%◌, Bool, cond, ◌&&◌, ◌||◌, List, leb, eqb, length, get_or, take, drop}
use Rattle.hl7.specs.Bytes.{within}
use Rattle.grade.specs.Digits.{is_sign, digits_in, points_in, digit_run, pair_at}
use Rattle.grade.specs.Calendar.{is_real_date}

-- ---- LENGTH: not fewer than low and not more than high bytes
abbrev pub has_length : ℕ → ℕ → List ℕ → Bool
has_length low high v = within low high (length v)

-- ---- NUMBER: an optional + or -, then digits with at most one point, at least one digit
-- what follows the sign: nothing but digits and points
unfoldable pub is_unsigned : List ℕ → Bool
is_unsigned v = eqb (digits_in v + points_in v) (length v) && leb (points_in v) 1 && leb 1 (digits_in v)

-- v itself, or v without the sign that it begins with
unfoldable pub is_number : List ℕ → Bool
is_number v = is_unsigned (drop (cond (is_sign (get_or v 0 0)) 1 0) v)

-- ---- DATE: eight digits, YYYYMMDD, of a real date
abbrev pub year_of : List ℕ → ℕ
year_of v = 100 * pair_at 0 v + pair_at 2 v

unfoldable pub is_date : List ℕ → Bool
is_date v = eqb (length v) 8 && eqb (digit_run v) 8 && is_real_date (year_of v) (pair_at 4 v) (pair_at 6 v)

-- ---- TIME: YYYY, MM, DD, HH, MM, SS in turn, each next pair optional; a point with one to four digits only after SS; optionally a zone
-- the pair at a place, or what stands for it where v ends before it
abbrev pub pair_or : ℕ → ℕ → List ℕ → ℕ
pair_or other at v = cond (leb (at + 2) (length v)) (pair_at at v) other

-- v, all digits, is YYYY and then MM, DD, HH, MM, SS as far as it goes: a real date, with 01 for an absent month or day, hour 00 to 23,
-- minute and second 00 to 59
unfoldable pub is_year_and_pairs : List ℕ → Bool
is_year_and_pairs v =
    within 4 14 (length v) && eqb (length v % 2) 0
    && is_real_date (year_of v) (pair_or 1 4 v) (pair_or 1 6 v)
    && leb (pair_or 0 8 v) 23 && leb (pair_or 0 10 v) 59 && leb (pair_or 0 12 v) 59

-- a zone: a sign and four digits, hour 00 to 23 and minute 00 to 59
unfoldable pub is_zone : List ℕ → Bool
is_zone v =
    eqb (length v) 5 && is_sign (get_or v 0 0) && eqb (digit_run (drop 1 v)) 4
    && leb (pair_at 1 v) 23 && leb (pair_at 3 v) 59

unfoldable pub is_zone_or_none : List ℕ → Bool
is_zone_or_none v = eqb (length v) 0 || is_zone v

-- a point with one to four digits, then optionally a zone
unfoldable pub is_fraction : List ℕ → Bool
is_fraction v =
    eqb (get_or v 0 0) 46 && within 1 4 (digit_run (drop 1 v))
    && is_zone_or_none (drop (digit_run (drop 1 v)) (drop 1 v))

-- the digits compared with low are those before the point or the sign
unfoldable pub is_time : ℕ → List ℕ → Bool
is_time low v =
    leb low (digit_run v) && is_year_and_pairs (take (digit_run v) v)
    && (is_zone_or_none (drop (digit_run v) v) || (eqb (digit_run v) 14 && is_fraction (drop (digit_run v) v)))

-- ---- the stamp: 19 bytes, 14 digits, sign and four digits, valid as a TIME
unfoldable pub is_stamp : List ℕ → Bool
is_stamp v =
    eqb (length v) 19 && eqb (digit_run v) 14 && is_sign (get_or v 14 0) && eqb (digit_run (drop 15 v)) 4
    && is_time 14 v
