-- To be believed. Comparing bytes. Bytes are a list of numbers. Assumes nothing.
use Rattle.std.specs.Prelude.{ℕ, Bool, true, false, not, ◌&&◌, ◌||◌, List, [], ◌∷◌, eqb, leb}

-- from low to high, both included
abbrev pub within : ℕ → ℕ → ℕ → Bool
within low high n = leb low n && leb n high

-- '0' to '9'
abbrev pub is_digit : ℕ → Bool
is_digit x = within 48 57 x

-- 'A' to 'Z'
abbrev pub is_upper : ℕ → Bool
is_upper x = within 65 90 x

-- 'A' to 'Z' or 'a' to 'z'
abbrev pub is_letter : ℕ → Bool
is_letter x = is_upper x || within 97 122 x

-- n is one of the list
unfoldable pub is_in : ℕ → List ℕ → Bool
is_in n [] = false
is_in n (x ∷ l) = eqb n x || is_in n l

-- no two of the list are the same
unfoldable pub distinct : List ℕ → Bool
distinct [] = true
distinct (n ∷ l) = not (is_in n l) && distinct l

-- every byte of s passes the test
unfoldable pub all : (ℕ → Bool) → List ℕ → Bool
all test [] = true
all test (x ∷ s) = test x && all test s

abbrev pub differs : ℕ → ℕ → Bool
differs d x = not (eqb x d)

-- v and w are the same bytes
unfoldable pub same : List ℕ → List ℕ → Bool
same [] [] = true
same [] (y ∷ w) = false
same (x ∷ v) [] = false
same (x ∷ v) (y ∷ w) = eqb x y && same v w

-- v is one of the texts
unfoldable pub among : List ℕ → List (List ℕ) → Bool
among v [] = false
among v (text ∷ texts) = same v text || among v texts

-- s begins with the bytes p
unfoldable pub begins : List ℕ → List ℕ → Bool
begins [] s = true
begins (x ∷ p) [] = false
begins (x ∷ p) (y ∷ s) = eqb y x && begins p s
