-- To be believed. Which five bytes a message may be cut by. Assumes nothing.
use Rattle.std.specs.Prelude.{ℕ, Bool, not, ◌&&◌, ◌||◌, List, [], ◌∷◌, eqb, get_or}
use Rattle.hl7.specs.declared.place.Delims.{Delims}
use Rattle.hl7.specs.Bytes.{within, is_digit, is_letter, is_in, distinct, all, begins}
use Rattle.hl7.specs.Place.{delims_of}
use Rattle.hl7.specs.Text.{bytes}

-- a delimiter is printable, and neither a letter nor a digit nor a space, double quote, point, plus, minus or underscore
unfoldable pub may_delimit : ℕ → Bool
may_delimit x = within 32 126 x && not (is_letter x || is_digit x || is_in x (bytes " \".+-_"))

abbrev pub five_of : Delims → List ℕ
five_of d = d.bar ∷ d.caret ∷ d.tilde ∷ d.backslash ∷ d.ampersand ∷ []

-- the five may be delimiters, and differ pairwise
unfoldable pub may_cut : Delims → Bool
may_cut d = all may_delimit (five_of d) && distinct (five_of d)

-- m begins with this name, five bytes that it may be cut by, and the first of them again
unfoldable pub opens : (name m : List ℕ) → Bool
opens name m = begins name m && may_cut (delims_of m) && eqb (get_or m 8 0) (delims_of m).bar
