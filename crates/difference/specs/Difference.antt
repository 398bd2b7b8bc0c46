-- To be believed. What differs between two books, rule by rule: the words of its lines, and what comparing two books answers. Assumes nothing.
use Rattle.std.specs.Prelude.{ℕ, suc, ◌-◌, Bool, cond, not, ◌&&◌, eqb, length, get_or, take}
use Prim.Native.Char.{code}
use mathlib.Core.List.{List, [], ◌∷◌, ◌++◌, map, flat_map}
use Rattle.hl7.specs.Text.{bytes}
use Rattle.hl7.specs.Bytes.{among}
use Rattle.hl7.specs.Spans.{occurrences}
use Rattle.grade.specs.Book.{Contents, keys, under, decoded, malformed, other_version}
use Rattle.grade.specs.Broken.{codes_of}
use Rattle.grade.specs.Encoding.{each, last_bytes}
use Rattle.grade.specs.Rule.{severity_letter, no_rule}
use Rattle.grade.specs.Strict.{keep, count_from}
use Rattle.grade.specs.declared.rule.Kind.{Kind}
use Rattle.grade.specs.declared.rule.Rule.{Rule}
use Rattle.ack.specs.Decimal.{decimal}
use Rattle.booktext.specs.Faults.{Told, tell, nothing, firstly}
use Rattle.booktext.specs.Refusals.{Outcome, unless_refused}
use Rattle.canonical.specs.Shown.{printed, place_word, kind_word, rule_spot}

-- a line is a list of words
abbrev pub Lines : Type 0
Lines = List (List (List ℕ))

-- ---- which rules belong together

-- place and kind of each rule
abbrev pub spots : List Rule → List ℕ
spots rules = map rule_spot rules

-- the number, from n, of the one that is this spot and has k such before it; 0 where there is none
unfoldable pub numbered : ℕ → ℕ → ℕ → List ℕ → ℕ
numbered n spot k [] = 0
numbered n spot k (x ∷ xs) = cond (eqb x spot && eqb k 0) n (numbered (suc n) spot (k - cond (eqb x spot) 1 0) xs)

-- the number from 1, among others, of the counterpart of i, which counts from 0: with as many of its place and kind before it
unfoldable pub counterpart : (own others : List ℕ) → ℕ → ℕ
counterpart own others i = numbered 1 (get_or own i 0) (occurrences (get_or own i 0) (take i own)) others

-- ---- words

abbrev pub severity_word : Rule → List ℕ
severity_word r = severity_letter r.severity ∷ []

-- the numbers of a bound
abbrev pub number_words : Kind → List (List ℕ)
number_words Kind.Required = []
number_words (Kind.Length low high) = decimal low ∷ decimal high ∷ []
number_words Kind.Number = []
number_words Kind.Date = []
number_words (Kind.Time digits) = decimal digits ∷ []
number_words (Kind.Code set) = []

-- low and high as the bytes of a rule have them, 0 where there is none: the digits of a TIME are its low
abbrev pub low_of : Kind → ℕ
low_of kind = get_or (last_bytes kind) 1 0

abbrev pub high_of : Kind → ℕ
high_of kind = get_or (last_bytes kind) 2 0

abbrev pub same_numbers : Kind → Kind → Bool
same_numbers k l = eqb (low_of k) (low_of l) && eqb (high_of k) (high_of l)

-- codes, each with a mark in front
abbrev pub code_words : ℕ → List (List ℕ) → List (List ℕ)
code_words mark codes = map (λ (c : List ℕ). mark ∷ c) codes

-- every code is among the others
unfoldable pub all_among : (codes others : List (List ℕ)) → Bool
all_among codes others = each (λ (c : List ℕ). among c others) codes

-- in any order, and any number of times
abbrev pub same_codes : (codes others : List (List ℕ)) → Bool
same_codes codes others = all_among codes others && all_among others codes

-- those that are not among the others
unfoldable pub gone : (codes others : List (List ℕ)) → List (List ℕ)
gone codes others = keep (λ (c : List ℕ). not (among c others)) codes

-- ---- lines of a rule, of a section with a key; a rule has a number and the codes of its set

-- key, mark and number, then place and kind, then what is said of it
unfoldable pub rule_line : List ℕ → ℕ → ℕ → Rule → List (List ℕ) → List (List ℕ)
rule_line key mark n r words = key ∷ (mark ∷ []) ∷ decimal n ∷ place_word r.place ∷ kind_word r.kind ∷ words

-- the whole rule
abbrev pub whole_line : List ℕ → ℕ → ℕ → Rule → List (List ℕ) → List (List ℕ)
whole_line key mark n r codes = rule_line key mark n r (severity_word r ∷ (number_words r.kind ++ code_words mark codes))

-- one line, unless the test holds
abbrev pub unless : Bool → List (List ℕ) → Lines
unless test line = cond test [] (line ∷ [])

abbrev pub severity_lines : List ℕ → ℕ → (r s : Rule) → Lines
severity_lines key n r s =
    unless (eqb (severity_letter r.severity) (severity_letter s.severity))
    (rule_line key (code "~") n r (severity_word r ∷ bytes "->" ∷ severity_word s ∷ []))

abbrev pub number_lines : List ℕ → ℕ → (r s : Rule) → Lines
number_lines key n r s =
    unless (same_numbers r.kind s.kind)
    (rule_line key (code "~") n r (number_words r.kind ++ (bytes "->" ∷ number_words s.kind)))

abbrev pub code_lines : List ℕ → ℕ → Rule → (codes others : List (List ℕ)) → Lines
code_lines key n r codes others =
    unless (same_codes codes others)
    (rule_line key (code "~") n r (code_words (code "-") (gone codes others) ++ code_words (code "+") (gone others codes)))

abbrev pub moved_lines : List ℕ → (n m : ℕ) → Rule → Lines
moved_lines key n m r =
    unless (eqb n m) (key ∷ bytes "#" ∷ decimal n ∷ bytes "->" ∷ decimal m ∷ place_word r.place ∷ kind_word r.kind ∷ [])

-- rule n became rule m
unfoldable pub changes : List ℕ → (n m : ℕ) → (r s : Rule) → (codes others : List (List ℕ)) → Lines
changes key n m r s codes others =
    severity_lines key n r s ++ (number_lines key n r s ++ (code_lines key n r codes others ++ moved_lines key n m r))

-- ---- a section that both books have; rules count from 0 here

abbrev pub rule_at : Contents → ℕ → Rule
rule_at c i = get_or c.rules i no_rule

-- those of its set
abbrev pub codes_for : Contents → ℕ → List (List ℕ)
codes_for c i = codes_of c.sets (rule_at c i).kind

-- rule i of c, whose counterpart in d has number m
abbrev pub old_by : (c d : Contents) → ℕ → ℕ → Lines
old_by c d i m =
    cond (eqb m 0) (whole_line c.key (code "-") (suc i) (rule_at c i) (codes_for c i) ∷ [])
    (changes c.key (suc i) m (rule_at c i) (rule_at d (m - 1)) (codes_for c i) (codes_for d (m - 1)))

unfoldable pub old_lines : (c d : Contents) → ℕ → Lines
old_lines c d i = old_by c d i (counterpart (spots c.rules) (spots d.rules) i)

-- rule i of d, unless it is a counterpart of one of the old spots
unfoldable pub new_lines : (key olds : List ℕ) → (d : Contents) → ℕ → Lines
new_lines key olds d i =
    unless (not (eqb (counterpart (spots d.rules) olds i) 0))
    (whole_line key (code "+") (suc i) (rule_at d i) (codes_for d i))

unfoldable pub section_lines : (c d : Contents) → Lines
section_lines c d =
    flat_map (old_lines c d) (count_from 0 (length c.rules)) ++ flat_map (new_lines c.key (spots c.rules) d) (count_from 0 (length d.rules))

-- ---- two books

abbrev pub lone_line : ℕ → Contents → List (List ℕ)
lone_line mark c = (mark ∷ []) ∷ bytes "section" ∷ c.key ∷ []

abbrev pub against_first : Contents → List Contents → Lines
against_first c [] = lone_line (code "-") c ∷ []
against_first c (d ∷ ds) = section_lines c d

-- a section of the old book
unfoldable pub old_section : List Contents → Contents → Lines
old_section news c = against_first c (under c.key news)

-- a section of the new book, unless the old one has its key
unfoldable pub new_section : List Contents → Contents → Lines
new_section olds d = unless (among d.key (keys olds)) (lone_line (code "+") d)

unfoldable pub differences : (olds news : List Contents) → Lines
differences olds news = flat_map (old_section news) olds ++ flat_map (new_section olds) news

-- ---- comparing two books

-- 01's rows 7 and 8, told of the first book or of the second
abbrev pub book_told : ℕ → List ℕ → Told
book_told which b = cond (malformed b) (tell 7 which 0) (cond (other_version b) (tell 8 which 0) nothing)

unfoldable pub diff_of : (old new out : List ℕ) → Outcome
diff_of old new out = unless_refused (firstly (book_told 1 old) (book_told 2 new)) (printed (differences (decoded old) (decoded new))) out
