-- To be believed. The line that a program reads: stamp, space, control number. Assumes nothing.
use Rattle.std.specs.Prelude.{ℕ, Bool, false, cond, not, ◌&&◌, ◌||◌, List, [], ◌∷◌, eqb, leb, length}
use Rattle.hl7.specs.Bytes.{is_digit, all}
use Rattle.hl7.specs.Number.{value_of}
use Rattle.hl7.specs.Cut.{cut, part_at}

abbrev pub line_feed : ℕ
line_feed = 10

abbrev pub space : ℕ
space = 32

-- the line ends at the first line feed or the end of input
abbrev pub line_of : List ℕ → List ℕ
line_of input = part_at (cut line_feed input) 0

-- d is one of the bytes s
unfoldable pub occurs : ℕ → List ℕ → Bool
occurs d [] = false
occurs d (x ∷ s) = eqb x d || occurs d s

-- everything before the last d of s; nothing where there is none
unfoldable pub before_last : ℕ → List ℕ → List ℕ
before_last d [] = []
before_last d (x ∷ s) = cond (occurs d s) (x ∷ before_last d s) []

-- what stands after the last d of s; all of s where there is none
unfoldable pub after_last : ℕ → List ℕ → List ℕ
after_last d [] = []
after_last d (x ∷ s) = cond (occurs d s) (after_last d s) (cond (eqb x d) s (x ∷ s))

-- everything before the line's last space is the stamp
abbrev pub stamp_of : List ℕ → List ℕ
stamp_of line = before_last space line

-- and what stands after it is the last item
abbrev pub last_item : List ℕ → List ℕ
last_item line = after_last space line

abbrev pub largest_control : ℕ
largest_control = 4294967295

-- all digits, at least one, with a value up to 4,294,967,295
unfoldable pub is_control : List ℕ → Bool
is_control item = not (eqb (length item) 0) && all is_digit item && leb (value_of item) largest_control

-- what a line says: a stamp and a control number, or nothing that can be used
pub data Said : Type 0 where
  bad_line : Said
  good_line : (stamp : List ℕ) (control : ℕ) → Said

-- a line without a space, or whose last item is no control number, is a bad line
unfoldable pub said : List ℕ → Said
said line = cond (occurs space line && is_control (last_item line)) (good_line (stamp_of line) (value_of (last_item line))) bad_line
