-- Inner: only contracts inside the crate use these names; nothing here has to be believed.
-- What the code knows of a rule and of a key. Assumes nothing.
use Rattle.std.specs.Prelude.{ℕ, suc, ◌≡◌, true, false, cond, List, [], ◌∷◌, map, get_or}
use Rattle.hl7.specs.Bytes.{all, same}
use Rattle.grade.specs.Book.{Contents, text, decoded, malformed, other_version}
use Rattle.grade.specs.Broken.{codes_of}
use Rattle.grade.specs.Limits.{code_limit}
use Rattle.grade.specs.Reader.{items_of, times}
use Rattle.grade.specs.Rule.{no_rule}
use Rattle.grade.specs.Standing.{stands_at, contents_at, rules_in, sets_in}
use Rattle.grade.specs.declared.rule.Rule.{Rule}
use Rattle.grade.specs.declared.walk.Section.{Section}
use Rattle.difference.specs.declared.ruled.Ruled.{Ruled}

-- ---- a rule, and where the codes of its set stand

-- so many from a position on
abbrev pub codes_in : Ruled → List (List ℕ)
codes_in r = items_of (times r.count (text code_limit) r.book.now r.from)

-- it is rule i of the rules, and these are its codes in the sets
pub record Rules (rules : List Rule) (sets : List (List (List ℕ))) (i : ℕ) (r : Ruled) : Type 0 where
  pub is : r.rule ≡ get_or rules i no_rule
  pub codes : codes_in r ≡ codes_of sets (get_or rules i no_rule).kind

-- ---- a section

-- what it says, under a key
abbrev pub held_by : List ℕ → List ℕ → Section → Contents
held_by key b s = record { key = key; rules = rules_in b s; sets = sets_in b s }

-- ---- a key among keys

-- its place, from 0; their number where it is not among them
unfoldable pub key_place : List ℕ → List (List ℕ) → ℕ
key_place key [] = 0
key_place key (k ∷ ks) = cond (same key k) 0 (suc (key_place key ks))

-- ---- a book that is not refused, by where its sections start
pub record Opened (b starts : List ℕ) : Type 0 where
  pub stand : all (stands_at b) starts ≡ true
  pub say : decoded b ≡ map (contents_at b) starts
  pub formed : malformed b ≡ false
  pub version : other_version b ≡ false
