-- Books and what opening them with a key answers, mostly AX: one table under one statement, which antt computes.
use Prim.Native.Nat.{ℕ}
use Prim.Native.Char.{Char, code}
use Prim.Native.String.{String}
use mathlib.Core.Path.{◌≡◌, refl}
use mathlib.Core.Bool.{Bool, true, ◌&&◌}
use mathlib.Core.List.{List, [], ◌∷◌, ◌++◌}
use lib.Dec.{eqb}
use lib.ListN.{length}
use Rattle.hl7.specs.Text.{bytes}
use Rattle.hl7.specs.Bytes.{all, same, among, begins}
use Rattle.hl7.specs.Refusals.{first_row}
use Rattle.grade.specs.declared.rule.Severity.{Severity}
use Rattle.grade.specs.declared.rule.Kind.{Kind}
use Rattle.grade.specs.Rule.{pid, segment_names, number_from, name_of_letters, place_fits, severity_of, kind_of, rule_said, rule_of}
use Rattle.grade.specs.Reader.{times}
use Rattle.grade.specs.Book.{text, code_set, rule_in, section, distinct, sections, head_right, decoded, malformed, other_version, no_section}
use Rattle.grade.specs.Admission.{book_rows}

-- ---- the parts of a book, as bytes

unfoldable pub head : ℕ → ℕ → List ℕ
head high low = bytes "VXB" ++ (high ∷ low ∷ [])

-- name, field, component, kind, severity, set, low, high
unfoldable pub rule : String → ℕ → ℕ → ℕ → Char → ℕ → ℕ → ℕ → List ℕ
rule name field component kind severity set low high = bytes name ++ (field ∷ component ∷ kind ∷ code severity ∷ set ∷ low ∷ high ∷ [])

-- a length byte and the text
unfoldable pub sized : String → List ℕ
sized t = length (bytes t) ∷ bytes t

-- key, number of rules, number of sets, and these
unfoldable pub part : String → ℕ → ℕ → List ℕ → List ℕ
part key rules sets body = sized key ++ (0 ∷ rules ∷ sets ∷ body)

-- a book of version 1 with so many sections
unfoldable pub book : ℕ → List ℕ → List ℕ
book count body = head 0 1 ++ (count ∷ body)

-- the section AX of the paper's example
example : List ℕ
example =
    book 1 (part "AX" 3 0 (rule "PID" 7 1 4 "E" 0 0 0 ++ (rule "PID" 3 1 1 "E" 0 0 0 ++ rule "PID" 8 0 1 "W" 0 0 0)))

-- a section AX with one rule
one : List ℕ → List ℕ
one r = book 1 (part "AX" 1 0 r)

-- ---- the table

-- the refusal's number, or 0, for a key and for AX
gives_for : String → List ℕ → ℕ → Bool
gives_for key b number = eqb (first_row (book_rows b (bytes key))).number number

gives : List ℕ → ℕ → Bool
gives = gives_for "AX"

samples :
    (gives example 0
    -- no section has the key
    && gives (book 1 (part "AXX" 0 0 [])) 9
    && gives (book 1 (part "ax" 0 0 [])) 9
    && gives (book 2 (part "AY" 0 0 [] ++ part "AX" 0 0 [])) 0
    -- two quotes are a key like any other
    && gives_for "\"\"" (book 2 (part "AX" 0 0 [] ++ part "\"\"" 0 0 [])) 0
    && gives_for "\"\"" example 9
    -- a wrong mark or too few bytes, then another version, then any other fault
    && gives [] 7
    && gives (bytes "VXB" ++ (0 ∷ [])) 7
    && gives (bytes "VXC" ++ (0 ∷ 2 ∷ [])) 7
    && gives (head 0 2) 8
    && gives (head 1 0) 8
    && gives (head 0 2 ++ (0 ∷ [])) 8
    && gives (head 0 1) 7
    && gives (book 0 []) 7
    && gives (example ++ (0 ∷ [])) 7
    -- keys: a bar in one, and one twice
    && gives (book 1 (part "A|" 0 0 [])) 7
    && gives (book 2 (part "AX" 0 0 [] ++ part "AX" 0 0 [])) 7
    -- rules: MSH-2, a byte that is not used, bounds, digits, a set that is not there, kind 7, a severity and a name that are none
    && gives (one (rule "MSH" 2 1 1 "I" 0 0 0)) 7
    && gives (one (rule "MSH" 3 1 1 "I" 0 0 0)) 0
    && gives (one (rule "MSH" 3 1 1 "I" 0 0 1)) 7
    && gives (one (rule "MSH" 3 1 2 "I" 0 5 4)) 7
    && gives (one (rule "MSH" 3 1 2 "I" 0 5 5)) 0
    && gives (one (rule "MSH" 3 1 5 "I" 0 5 0)) 7
    && gives (one (rule "MSH" 3 1 6 "I" 1 0 0)) 7
    && gives (one (rule "MSH" 3 1 7 "I" 0 0 0)) 7
    && gives (one (rule "MSH" 3 1 1 "X" 0 0 0)) 7
    && gives (one (rule "ZZZ" 3 1 1 "I" 0 0 0)) 7
    -- sets: one with the codes M and F, and one without codes
    && gives (book 1 (part "AX" 1 1 (rule "MSH" 3 1 6 "I" 1 0 0 ++ (0 ∷ 2 ∷ (sized "M" ++ sized "F"))))) 0
    && gives (book 1 (part "AX" 0 1 (0 ∷ 0 ∷ []))) 7)
    ≡ true
unfolding head rule sized part book example one gives_for gives all same among begins segment_names number_from name_of_letters place_fits severity_of kind_of rule_said rule_of times text code_set rule_in section distinct sections head_right decoded malformed other_version no_section book_rows first_row
samples = refl

-- what the example's section says: PID-7.1 DATE E, PID-3.1 REQUIRED E, PID-8 REQUIRED W
example_says :
    decoded example
    ≡ record {
      key = bytes "AX";
      rules =
          record { place = record { segment = pid; field = 7; component = 1 }; severity = Severity.Error; kind = Kind.Date }
          ∷ record { place = record { segment = pid; field = 3; component = 1 }; severity = Severity.Error; kind = Kind.Required }
          ∷ record { place = record { segment = pid; field = 8; component = 0 }; severity = Severity.Warning; kind = Kind.Required }
          ∷ [];
      sets = [];
    }
    ∷ []
unfolding head rule sized part book example all same among begins segment_names number_from name_of_letters place_fits severity_of kind_of rule_said rule_of times text code_set rule_in section distinct sections decoded
example_says = refl
