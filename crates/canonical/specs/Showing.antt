-- Inner: only contracts inside the crate use these names; nothing here has to be believed.
-- The canonical text by what the code knows of a book: counts and positions. Assumes nothing.
use Rattle.std.specs.Prelude.{ℕ, zero, suc, Bool, cond, List, [], ◌∷◌, eqb}
use Rattle.hl7.specs.Text.{bytes}
use Rattle.grade.specs.Rule.{severity_letter}
use Rattle.grade.specs.declared.rule.Rule.{Rule}
use Rattle.canonical.specs.Shown.{line_bytes, set_name, place_word, kind_word, bound_words}

-- names of so many sets, which count from n
unfoldable pub names_from : List ℕ → ℕ → ℕ → List (List ℕ)
names_from key n zero = []
names_from key n (suc count) = set_name key n ∷ names_from key (suc n) count

-- the line that fixes their order, if there are any
unfoldable pub pin_bytes : List ℕ → ℕ → List ℕ
pin_bytes key count = cond (eqb count 0) [] (line_bytes (bytes "sets" ∷ names_from key 1 count))

-- a rule's line, where one of its place and kind does or does not stand before it
unfoldable pub line_of_rule : List ℕ → Bool → Rule → List (List ℕ)
line_of_rule key again r =
    cond again (bytes "also") (bytes "rule")
    ∷ place_word r.place ∷ kind_word r.kind ∷ (severity_letter r.severity ∷ []) ∷ bound_words key r.kind
