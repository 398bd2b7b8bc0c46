-- Inner: only contracts inside the crates use these names; nothing here has to be believed.
-- What the reader of the line keeps of the input. Assumes nothing.
use Rattle.std.specs.Prelude.{ℕ, min, ◌≡◌, cond, not, List, Option, Some, None, eqb, ltb, length, take}
use Rattle.hl7.specs.Bytes.{is_digit, all}
use Rattle.hl7.specs.Number.{value_of}
use Rattle.hl7.specs.Counted.{too_large}
use Rattle.line.specs.Line.{line_of, space, occurs, stamp_of, last_item, Said, bad_line, good_line, said}
use Rattle.line.specs.declared.kept.Head.{Head}
use Rattle.line.specs.declared.kept.Item.{Item}
use Rattle.line.specs.declared.kept.State.{State}
use Rattle.line.specs.declared.kept.Line.{Line}

-- one byte more than a stamp has
abbrev pub head_length : ℕ
head_length = 20

-- h holds the first bytes of the line
pub record Heads (line : List ℕ) (h : Head) : Type 0 where
  pub room : length h.bytes ≡ head_length
  pub count : h.count ≡ min (length line) head_length
  pub holds : take h.count h.bytes ≡ take head_length line

-- how many bytes stand before the last space, as far as there is room for them
abbrev pub stamp_in : List ℕ → Option ℕ
stamp_in line = cond (occurs space line) (Some (min (length (stamp_of line)) head_length)) None

-- i tells what stands before and after the line's last space
pub record Items (line : List ℕ) (i : Item) : Type 0 where
  pub stamp : i.stamp ≡ stamp_in line
  pub filled : i.filled ≡ not (eqb (length (last_item line)) 0)
  pub digits : i.number.all ≡ all is_digit (last_item line)
  pub value : i.number.value ≡ min (value_of (last_item line)) too_large

-- s is what was kept of this input
pub record Fed (input : List ℕ) (s : State) : Type 0 where
  pub ended : s.ended ≡ ltb (length (line_of input)) (length input)
  pub head : Heads (line_of input) s.head
  pub item : Items (line_of input) s.item

-- a stamp that is too long is told by its first bytes, which are too many too
abbrev pub shortened : Said → Said
shortened bad_line = bad_line
shortened (good_line stamp control) = good_line (take head_length stamp) control

-- an answer of the code, with the kept bytes, on paper
abbrev pub heard : Head → Option Line → Said
heard h None = bad_line
heard h (Some line) = good_line (take line.stamp h.bytes) line.control

-- r is what the line says, of whatever input s was kept
abbrev pub Says : State → Option Line → Type 0
Says s r = (input : List ℕ) → Fed input s → heard s.head r ≡ shortened (said (line_of input))

-- s is what was kept of some input
abbrev pub Kept : State → Type 0
Kept s = (input : List ℕ) × Fed input s
