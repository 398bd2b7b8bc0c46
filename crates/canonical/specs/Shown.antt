-- To be believed. The canonical text of a book, by the words of its lines, and what showing a book answers. Assumes nothing.
use Rattle.std.specs.Prelude.{ℕ, suc, cond, List, [], ◌∷◌, ◌++◌, map, eqb, get_or}
use Prim.Native.Char.{code}
use Rattle.hl7.specs.Text.{bytes}
use Rattle.hl7.specs.Bytes.{is_in}
use Rattle.grade.specs.Book.{Contents, decoded, malformed, other_version}
use Rattle.grade.specs.Encoding.{spell_all, kind_byte}
use Rattle.grade.specs.Rule.{name_bytes, severity_letter}
use Rattle.grade.specs.declared.rule.Kind.{Kind}
use Rattle.grade.specs.declared.rule.Place.{Place}
use Rattle.grade.specs.declared.rule.Rule.{Rule}
use Rattle.ack.specs.Decimal.{decimal}
use Rattle.ack.specs.Layout.{joined}
use Rattle.booktext.specs.Lines.{line_feed}
use Rattle.booktext.specs.Words.{kind_names}
use Rattle.booktext.specs.Faults.{Told, tell, nothing}
use Rattle.booktext.specs.Changes.{spot_number}
use Rattle.booktext.specs.Refusals.{Outcome, unless_refused}

-- ---- lines

-- one blank between words, LF after each line
abbrev pub line_bytes : List (List ℕ) → List ℕ
line_bytes words = joined 32 words ++ (line_feed ∷ [])

unfoldable pub printed : List (List (List ℕ)) → List ℕ
printed lines = spell_all line_bytes lines

-- ---- sets

-- named by key, slash and number
abbrev pub set_name : List ℕ → ℕ → List ℕ
set_name key n = key ++ (code "/" ∷ decimal n)

abbrev pub code_line : List ℕ → List (List ℕ)
code_line c = bytes "code" ∷ c ∷ []

-- the sets of a section, which count from n: the name, then one code to a line
unfoldable pub set_lines : List ℕ → ℕ → List (List (List ℕ)) → List (List (List ℕ))
set_lines key n [] = []
set_lines key n (codes ∷ sets) = (bytes "set" ∷ set_name key n ∷ []) ∷ (map code_line codes ++ set_lines key (suc n) sets)

-- their names
unfoldable pub set_names : List ℕ → ℕ → List (List (List ℕ)) → List (List ℕ)
set_names key n [] = []
set_names key n (codes ∷ sets) = set_name key n ∷ set_names key (suc n) sets

-- the line that fixes their order, if there are any
abbrev pub pin_lines : List ℕ → List (List (List ℕ)) → List (List (List ℕ))
pin_lines key [] = []
pin_lines key (codes ∷ sets) = (bytes "sets" ∷ set_names key 1 (codes ∷ sets)) ∷ []

-- ---- rules

unfoldable pub place_word : Place → List ℕ
place_word p =
    name_bytes p.segment
    ++ (code "-" ∷ (decimal p.field ++ cond (eqb p.component 0) [] (code "." ∷ decimal p.component)))

abbrev pub kind_word : Kind → List ℕ
kind_word kind = get_or ([] ∷ kind_names) (kind_byte kind) []

abbrev pub bound_words : List ℕ → Kind → List (List ℕ)
bound_words key Kind.Required = []
bound_words key (Kind.Length low high) = decimal low ∷ decimal high ∷ []
bound_words key Kind.Number = []
bound_words key Kind.Date = []
bound_words key (Kind.Time digits) = decimal digits ∷ []
bound_words key (Kind.Code set) = set_name key set ∷ []

-- place and kind as one number
abbrev pub rule_spot : Rule → ℕ
rule_spot r = spot_number r.place (kind_byte r.kind)

-- `also` where an earlier rule of the section has its place and kind
abbrev pub rule_verb : List ℕ → Rule → List ℕ
rule_verb before r = cond (is_in (rule_spot r) before) (bytes "also") (bytes "rule")

abbrev pub rule_line : List ℕ → List ℕ → Rule → List (List ℕ)
rule_line key before r =
    rule_verb before r ∷ place_word r.place ∷ kind_word r.kind ∷ (severity_letter r.severity ∷ []) ∷ bound_words key r.kind

-- `before` has place and kind of the rules before
unfoldable pub rule_lines : List ℕ → List ℕ → List Rule → List (List (List ℕ))
rule_lines key before [] = []
rule_lines key before (r ∷ rules) = rule_line key before r ∷ rule_lines key (before ++ (rule_spot r ∷ [])) rules

-- ---- sections

-- its sets, then itself
unfoldable pub section_lines : Contents → List (List (List ℕ))
section_lines c =
    set_lines c.key 1 c.sets
    ++ ((bytes "section" ∷ c.key ∷ []) ∷ (pin_lines c.key c.sets ++ rule_lines c.key [] c.rules))

unfoldable pub book_lines : List Contents → List (List (List ℕ))
book_lines [] = []
book_lines (c ∷ cs) = section_lines c ++ book_lines cs

unfoldable pub shown : List Contents → List ℕ
shown cs = printed ((bytes "book" ∷ bytes "1" ∷ []) ∷ book_lines cs)

-- ---- showing

-- 01's rows 7 and 8
abbrev pub book_told : List ℕ → Told
book_told b = cond (malformed b) (tell 7 0 0) (cond (other_version b) (tell 8 0 0) nothing)

unfoldable pub show_of : (b out : List ℕ) → Outcome
show_of b out = unless_refused (book_told b) (shown (decoded b)) out
