-- To be believed. The bytes of a book that says given things, the other way to say what a rule book is.
-- `proofs/Encoded.antt` and `proofs/Decoded.antt` show that it is the inverse of the readers, in both directions.
use Rattle.std.specs.Prelude.{ℕ, ◌/◌, ◌%◌, Bool, true, ◌&&◌, List, [], ◌∷◌, ◌++◌, leb, length}
use Rattle.hl7.specs.Text.{bytes}
use Rattle.hl7.specs.Bytes.{within, all}
use Rattle.grade.specs.declared.rule.Kind.{Kind}
use Rattle.grade.specs.declared.rule.Rule.{Rule}
use Rattle.grade.specs.Limits.{book_limit, book_version, section_limit, key_limit, rule_limit, set_limit, code_count_limit, code_limit}
use Rattle.grade.specs.Rule.{name_bytes, severity_letter, rule_fits}
use Rattle.grade.specs.Book.{plain, Contents, distinct, keys}

-- ---- bytes

-- the high byte first
abbrev pub two_bytes_of : ℕ → List ℕ
two_bytes_of n = n / 256 ∷ n % 256 ∷ []

abbrev pub spell_all : {A : Type 0} → (A → List ℕ) → List A → List ℕ
spell_all spell [] = []
spell_all spell (x ∷ xs) = spell x ++ spell_all spell xs

abbrev pub text_bytes : List ℕ → List ℕ
text_bytes letters = length letters ∷ letters

abbrev pub set_bytes : List (List ℕ) → List ℕ
set_bytes codes = two_bytes_of (length codes) ++ spell_all text_bytes codes

abbrev pub kind_byte : Kind → ℕ
kind_byte Kind.Required = 1
kind_byte (Kind.Length low high) = 2
kind_byte Kind.Number = 3
kind_byte Kind.Date = 4
kind_byte (Kind.Time digits) = 5
kind_byte (Kind.Code set) = 6

-- set number, low, high: 0 where the kind does not use them
abbrev pub last_bytes : Kind → List ℕ
last_bytes Kind.Required = 0 ∷ 0 ∷ 0 ∷ []
last_bytes (Kind.Length low high) = 0 ∷ low ∷ high ∷ []
last_bytes Kind.Number = 0 ∷ 0 ∷ 0 ∷ []
last_bytes Kind.Date = 0 ∷ 0 ∷ 0 ∷ []
last_bytes (Kind.Time digits) = 0 ∷ digits ∷ 0 ∷ []
last_bytes (Kind.Code set) = set ∷ 0 ∷ 0 ∷ []

abbrev pub rule_bytes : Rule → List ℕ
rule_bytes r =
    name_bytes r.place.segment
    ++ (r.place.field ∷ r.place.component ∷ kind_byte r.kind ∷ severity_letter r.severity ∷ last_bytes r.kind)

abbrev pub section_bytes : Contents → List ℕ
section_bytes c =
    text_bytes c.key ++ (two_bytes_of (length c.rules) ++ (length c.sets ∷ (spell_all rule_bytes c.rules ++ spell_all set_bytes c.sets)))

-- mark, version, section count, sections
unfoldable pub book_bytes : List Contents → List ℕ
book_bytes contents = bytes "VXB" ++ (two_bytes_of book_version ++ (length contents ∷ spell_all section_bytes contents))

-- ---- limits

-- every one passes the test
abbrev pub each : {A : Type 0} → (A → Bool) → List A → Bool
each test [] = true
each test (x ∷ xs) = test x && each test xs

abbrev pub text_fits : ℕ → List ℕ → Bool
text_fits limit letters = within 1 limit (length letters) && all plain letters

abbrev pub set_fits : List (List ℕ) → Bool
set_fits codes = within 1 code_count_limit (length codes) && each (text_fits code_limit) codes

abbrev pub section_fits : Contents → Bool
section_fits c =
    text_fits key_limit c.key
    && (leb (length c.rules) rule_limit && leb (length c.sets) set_limit)
    && each (rule_fits (length c.sets)) c.rules
    && each set_fits c.sets

-- sections that make a book: 1 to 64, each within its limits, with keys that differ pairwise, and at most 65,536 bytes in all
unfoldable pub well_formed : List Contents → Bool
well_formed contents =
    within 1 section_limit (length contents)
    && each section_fits contents
    && distinct (keys contents)
    && leb (length (book_bytes contents)) book_limit
