-- To be believed. What a rule book is, read from its bytes (01, "The rule book"), and when it is refused (01, rows 7 to 9).
use Rattle.std.specs.Prelude.{ℕ, Bool, true, cond, not, ◌&&◌, ◌||◌, List, [], ◌∷◌, map, eqb, leb, length, Option, Some, None}
use Prim.Native.Char.{code}
use Rattle.hl7.specs.Text.{bytes}
use Rattle.hl7.specs.Bytes.{within, all, same, among, begins}
use Rattle.grade.specs.Limits.{book_limit, head_size, book_version, section_limit, key_limit, rule_limit, rule_size, set_limit, code_count_limit, code_limit}
use Rattle.grade.specs.Reader.{fault, found, is_found, items_of, Reader, ◌>>=◌, ◌>>◌, give, check, byte, pair, two_bytes, run, times}
use Rattle.grade.specs.Rule.{rule_of}
use Rattle.grade.specs.declared.rule.Rule.{Rule}

-- ---- keys, codes and sets

-- 0x21 to 0x7E without bar, caret, tilde, backslash and ampersand
abbrev pub plain : ℕ → Bool
plain x =
    within 0x21 0x7E x
    && not (eqb x (code "|")) && not (eqb x (code "^")) && not (eqb x (code "~")) && not (eqb x (code "\\")) && not (eqb x (code "&"))

-- a length byte from 1 to the limit, and as many plain bytes: a key or a code
unfoldable pub text : ℕ → Reader (List ℕ)
text limit = do
  size ← byte
  check (within 1 limit size)
  letters ← run size
  check (all plain letters)
  give letters

-- a set: two bytes of count 1 to 1,024, then codes
unfoldable pub code_set : Reader (List (List ℕ))
code_set = do
  count ← two_bytes
  check (within 1 code_count_limit count)
  times count (text code_limit)

-- ---- sections

abbrev pub rule_read : Option Rule → Reader Rule
rule_read (Some rule) b at = found rule at
rule_read None b at = fault

-- a rule has ten bytes; the section has so many sets
unfoldable pub rule_in : ℕ → Reader Rule
rule_in sets = do
  ten ← run rule_size
  rule_read (rule_of sets ten)

-- what a section says
pub record Contents : Type 0 where
  pub key : List ℕ
  pub rules : List Rule
  pub sets : List (List (List ℕ))

-- key, two bytes of rule count 0 to 256, one byte of set count 0 to 64, the rules, the sets
unfoldable pub section : Reader Contents
section = do
  key ← text key_limit
  rule_count ← two_bytes
  set_count ← byte
  check (leb rule_count rule_limit && leb set_count set_limit)
  rules ← times rule_count (rule_in set_count)
  sets ← times set_count code_set
  give (record { key = key; rules = rules; sets = sets })

-- ---- the book

-- no text stands twice
unfoldable pub distinct : List (List ℕ) → Bool
distinct [] = true
distinct (x ∷ xs) = not (among x xs) && distinct xs

abbrev pub keys : List Contents → List (List ℕ)
keys = map (λ (c : Contents). c.key)

-- nothing comes after
abbrev pub nothing_after : Reader (Unit {0})
nothing_after b at = check (eqb at (length b)) b at

-- what follows the head: one byte of section count, the sections, and nothing after them; keys differ pairwise
unfoldable pub sections : Reader (List Contents)
sections = do
  count ← byte
  check (within 1 section_limit count)
  all ← times count section
  nothing_after
  check (distinct (keys all))
  give all

-- at most 65,536 bytes, at least 5, and the mark VXB
unfoldable pub head_right : List ℕ → Bool
head_right b = within head_size book_limit (length b) && begins (bytes "VXB") b

-- the two bytes after the mark
abbrev pub version : List ℕ → ℕ
version b = pair b 3

-- the sections of a book, none where it is at fault
unfoldable pub decoded : List ℕ → List Contents
decoded b = items_of (sections b head_size)

-- those with a key
unfoldable pub under : List ℕ → List Contents → List Contents
under key [] = []
under key (c ∷ rest) = cond (same key c.key) (c ∷ under key rest) (under key rest)

-- ---- when a book is refused, given a key

-- refusal 7: over 65,536 bytes, under 5 bytes or a wrong mark; or, in version 1, any other fault
unfoldable pub malformed : List ℕ → Bool
malformed b = not (head_right b) || eqb (version b) book_version && not (is_found (sections b head_size))

-- refusal 8: the version is not 1
unfoldable pub other_version : List ℕ → Bool
other_version b = not (eqb (version b) book_version)

-- refusal 9: no section has the key
unfoldable pub no_section : List ℕ → List ℕ → Bool
no_section b key = not (among key (keys (decoded b)))
