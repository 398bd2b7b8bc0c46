-- To be believed. Readers tell what stands at a position of a list of bytes, and the position after it. With `do` a format is said line by line.
use Rattle.std.specs.Prelude.{ℕ, zero, suc, ◌+◌, ◌*◌, Bool, true, false, cond, List, [], ◌∷◌, leb, length, get_or}
use Rattle.std.proofs.Math.Seq.{slice}

-- a value and the position after it, or a fault
pub data Parsed (A : Type 0) : Type 0 where
  fault : Parsed A
  found : A → ℕ → Parsed A

abbrev pub is_found : {A : Type 0} → Parsed A → Bool
is_found fault = false
is_found (found a after) = true

-- what was read, nothing where it was a fault
abbrev pub items_of : {A : Type 0} → Parsed (List A) → List A
items_of fault = []
items_of (found items after) = items

abbrev pub Reader : Type 0 → Type 0
Reader A = List ℕ → ℕ → Parsed A

abbrev pub and_then : {A B : Type 0} → Parsed A → (A → ℕ → Parsed B) → Parsed B
and_then fault k = fault
and_then (found a after) k = k a after

-- one reader, and then the one that its value chooses, from the position after it
abbrev pub ◌>>=◌ : {A B : Type 0} → Reader A → (A → Reader B) → Reader B
◌>>=◌ p k b at = and_then (p b at) (λ a after. k a b after)

abbrev pub ◌>>◌ : {A B : Type 0} → Reader A → Reader B → Reader B
◌>>◌ p q b at = and_then (p b at) (λ _ after. q b after)

-- the value, with nothing read
abbrev pub give : {A : Type 0} → A → Reader A
give a b at = found a at

-- a fault where the test fails
abbrev pub check : Bool → Reader (Unit {0})
check true b at = found tt at
check false b at = fault

-- there are n bytes from the position
abbrev pub room : List ℕ → ℕ → ℕ → Bool
room b at n = leb (at + n) (length b)

abbrev pub byte : Reader ℕ
byte b at = cond (room b at 1) (found (get_or b at 0) (at + 1)) fault

-- two bytes, the high one first
abbrev pub pair : List ℕ → ℕ → ℕ
pair b at = get_or b at 0 * 256 + get_or b (at + 1) 0

abbrev pub two_bytes : Reader ℕ
two_bytes b at = cond (room b at 2) (found (pair b at) (at + 2)) fault

-- the next n bytes
abbrev pub run : ℕ → Reader (List ℕ)
run n b at = cond (room b at n) (found (slice at (at + n) b) (at + n)) fault

-- n in a row
unfoldable pub times : {A : Type 0} → ℕ → Reader A → Reader (List A)
times zero p = give []
times (suc n) p = do
  first ← p
  rest ← times n p
  give (first ∷ rest)
