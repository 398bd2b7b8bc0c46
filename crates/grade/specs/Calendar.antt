-- To be believed. The Gregorian calendar, years 1 to 9999. Assumes nothing.
use Rattle.std.specs.Prelude.{ℕ, ◌+◌, ◌/◌, ◌%◌, Bool, not, cond, ◌&&◌, ◌||◌, eqb}
use Rattle.hl7.specs.Bytes.{within}

abbrev pub divides : ℕ → ℕ → Bool
divides k n = eqb (n % k) 0

-- every fourth year, and of the full centuries every fourth
abbrev pub is_leap : ℕ → Bool
is_leap year = divides 4 year && (not (divides 100 year) || divides 400 year)

-- how many days a month has: none where there is no such month
-- month + month / 8 is odd in the odd months up to July and, since month / 8 is 1 from August on, in the even ones after: these have 31
unfoldable pub month_length : ℕ → ℕ → ℕ
month_length year month = cond (within 1 12 month) (cond (eqb month 2) (cond (is_leap year) 29 28) (30 + (month + month / 8) % 2)) 0

-- year 0001 to 9999, month 01 to 12, a day that the month has
unfoldable pub is_real_date : ℕ → ℕ → ℕ → Bool
is_real_date year month day = within 1 9999 year && within 1 12 month && within 1 (month_length year month) day
