-- To be believed. The segments of a batch file, and the messages that they make up. Assumes nothing.
use Rattle.std.specs.Prelude.{ℕ, Bool, true, false, cond, ◌||◌, List, [], ◌∷◌, ◌++◌, eqb}
use Rattle.hl7.specs.Text.{bytes}
use Rattle.hl7.specs.Bytes.{begins}
use Rattle.hl7.specs.Place.{carriage_return, is_msh}

-- ---- segments, each with its CR
-- a byte in front of some segments: a CR is the end of one of its own, any other byte belongs to the first
unfoldable pub in_front : Bool → ℕ → List (List ℕ) → List (List ℕ)
in_front true x lines = (x ∷ []) ∷ lines
in_front false x [] = (x ∷ []) ∷ []
in_front false x (line ∷ lines) = (x ∷ line) ∷ lines

-- a segment runs to its CR; what stands after the last CR is one without
unfoldable pub lines_of : List ℕ → List (List ℕ)
lines_of [] = []
lines_of (x ∷ f) = in_front (eqb x carriage_return) x (lines_of f)

-- ---- names, told by the first three bytes
-- one of the four frame names
unfoldable pub is_frame : List ℕ → Bool
is_frame line = begins (bytes "FHS") line || begins (bytes "BHS") line || begins (bytes "BTS") line || begins (bytes "FTS") line

-- ---- messages
-- what segments hold up to the next frame name: the bytes before the first message, and the messages
pub record Gathered : Type 0 where
  pub before : List ℕ
  pub messages : List (List ℕ)

abbrev pub nothing : Gathered
nothing = record { before = []; messages = [] }

-- a segment more in front: MSH begins a message, which takes all that stands before the next one
unfoldable pub gather : Bool → List ℕ → Gathered → Gathered
gather true line g = record { before = []; messages = (line ++ g.before) ∷ g.messages }
gather false line g = record { before = line ++ g.before; messages = g.messages }

-- a message begins at each segment whose first three bytes are MSH and runs to the next such segment or to BTS
unfoldable pub gathered : List (List ℕ) → Gathered
gathered [] = nothing
gathered (line ∷ lines) = cond (is_frame line) nothing (gather (is_msh line) line (gathered lines))

-- the segments from the next frame name on
unfoldable pub from_frame : List (List ℕ) → List (List ℕ)
from_frame [] = []
from_frame (line ∷ lines) = cond (is_frame line) (line ∷ lines) (from_frame lines)
