-- Inner: only contracts inside the crates use these names; nothing here has to be believed. What the code's positions stand for.
use Rattle.std.specs.Prelude.{ℕ, ◌+◌, ◌*◌, ◌<◌, ◌≤◌, ◌≡◌, Bool, true, false, cond, List, [], ◌∷◌, length, get_or, take, Option, Some, None, Result, Ok}
use Rattle.std.proofs.Math.Seq.{slice}
use Rattle.hl7.specs.Bytes.{same}
use Rattle.hl7.specs.Place.{delims_of}
use Rattle.hl7.specs.Refusals.{Row, row, first_row}
use Rattle.hl7.specs.declared.place.Delims.{Delims}
use Rattle.grade.specs.Rule.{name_bytes}
use Rattle.grade.specs.Limits.{head_size, rule_limit, rule_size, set_limit}
use Rattle.grade.specs.Reader.{Parsed, fault, found, is_found, items_of, Reader, and_then, pair, times}
use Rattle.grade.specs.Book.{rule_in, code_set, Contents, section, malformed, other_version}
use Rattle.grade.specs.Header.{msh_of, header_of}
use Rattle.grade.specs.Admission.{Indexed, key_of, admit_rows, ten_rows, indexed_told, admitted_told}
use Rattle.grade.specs.declared.rule.Rule.{Rule}
use Rattle.grade.specs.declared.walk.Section.{Section}
use Rattle.std.specs.declared.ops.ControlFlow.{ControlFlow}
use Rattle.std.specs.declared.ops.ControlFlow.TheVariants.{Break, Continue}
use Rattle.grade.specs.declared.refusal.Refusal.{Refusal}
use Rattle.grade.specs.declared.step.Terms.{Terms}

-- ---- names

-- three letters as one number: the code tells names apart by it
abbrev pub letters_number : ℕ → ℕ → ℕ → ℕ
letters_number a b c = a * 65536 + b * 256 + c

-- those of a name
abbrev pub letters_of : ℕ → ℕ
letters_of name = letters_number (get_or (name_bytes name) 0 0) (get_or (name_bytes name) 1 0) (get_or (name_bytes name) 2 0)

-- ---- reading

-- where a reading ends
abbrev pub end_of : {A : Type 0} → Parsed A → Option ℕ
end_of fault = None
end_of (found a after) = Some after

-- what was read up to there
abbrev pub up_to : {A : Type 0} → A → Option ℕ → Parsed A
up_to a None = fault
up_to a (Some end) = found a end

-- the same reading, with another value
abbrev pub mapped : {A B : Type 0} → (A → B) → Parsed A → Parsed B
mapped f r = and_then r (λ a after. found (f a) after)

-- something is read, and where it starts is kept of it
abbrev pub starting : {A : Type 0} → Reader A → Reader ℕ
starting p b at = mapped (λ _. at) (p b at)

-- ---- texts

-- where a text ends whose length byte stands at a position
abbrev pub text_end : List ℕ → ℕ → ℕ
text_end b at = at + 1 + get_or b at 0

-- that text
abbrev pub text_at : List ℕ → ℕ → List ℕ
text_at b at = slice (at + 1) (text_end b at) b

-- it ends within the book
pub record TextFits (b : List ℕ) (at : ℕ) : Type 0 where
  pub starts : at < length b
  pub ends : text_end b at ≤ length b

-- a look at it tells that it is the value, or else where it ends
abbrev pub Looks : List ℕ → ℕ → List ℕ → ControlFlow (Unit {0}) ℕ → Type 0
Looks b at value (Break _) = same value (text_at b at) ≡ true
Looks b at value (Continue next) = (same value (text_at b at) ≡ false) × (next ≡ text_end b at)

-- ---- sections

-- a section can be read at a position
abbrev pub stands_at : List ℕ → ℕ → Bool
stands_at b at = is_found (section b at)

abbrev pub contents_of : Parsed Contents → Contents
contents_of fault = record { key = []; rules = []; sets = [] }
contents_of (found contents after) = contents

-- what the section says that stands there
abbrev pub contents_at : List ℕ → ℕ → Contents
contents_at b at = contents_of (section b at)

-- where its rules and its sets stand: rules are all of one size
abbrev pub site_at : List ℕ → ℕ → Section
site_at b at =
    record {
      rules_at = text_end b at + 3;
      rule_count = pair b (text_end b at);
      sets_at = text_end b at + 3 + rule_size * pair b (text_end b at);
      set_count = get_or b (text_end b at + 2) 0;
    }

-- where the sections of a book start
abbrev pub starts_in : List ℕ → List ℕ
starts_in b = items_of (times (get_or b head_size 0) (starting section) b (head_size + 1))

-- where the section with the key stands, of those that start at the positions
unfoldable pub site_of : List ℕ → List ℕ → List ℕ → Section
site_of b key [] = record { rules_at = 0; rule_count = 0; sets_at = 0; set_count = 0 }
site_of b key (at ∷ rest) = cond (same key (text_at b at)) (site_at b at) (site_of b key rest)

-- where the section of a book with the key stands
abbrev pub site_in : List ℕ → List ℕ → Section
site_in b key = site_of b key (starts_in b)

-- ---- what indexing, opening and admitting answer

-- the first count of the positions are where the sections of the book start
pub record Listed (b starts : List ℕ) (count : ℕ) : Type 0 where
  pub fits : count ≤ length starts
  pub are : take count starts ≡ starts_in b

-- the first of the rows that holds, or else how many sections the book has, and where they start
pub record IndexesBy (rows : List Row) (b starts : List ℕ) (r : Indexed) : Type 0 where
  pub told_is : indexed_told r ≡ first_row rows
  pub listed : (count : ℕ) → r ≡ Ok count → Listed b starts count

-- a book without a key: rows 7 and 8
abbrev pub Indexes : (b starts : List ℕ) → Indexed → Type 0
Indexes b starts r = IndexesBy (row 7 (malformed b) ∷ row 8 (other_version b) ∷ []) b starts r

-- the first of the rows that holds, or else where the section stands
pub record OpensBook (rows : List Row) (site : Section) (r : Result Section Refusal) : Type 0 where
  pub told_is : admitted_told r ≡ first_row rows
  pub at : (first_row rows).number ≡ 0 → r ≡ Ok site

-- by what a message is graded: its delimiters, where the section stands that MSH names, and what its header says
abbrev pub terms_of : (d : Delims) (msh b : List ℕ) → Terms
terms_of d msh b = record { d = d; section = site_in b (key_of d msh); header = header_of d msh }

-- the first of the rows that holds, or else by what the message is graded
pub record AdmitsBy (rows : List Row) (d : Delims) (msh b : List ℕ) (r : Result Terms Refusal) : Type 0 where
  pub told_is : admitted_told r ≡ first_row rows
  pub by : (first_row rows).number ≡ 0 → r ≡ Ok (terms_of d msh b)

-- a message and a book: rows 1 to 9
abbrev pub Admits : (m b : List ℕ) → Result Terms Refusal → Type 0
Admits m b r = AdmitsBy (admit_rows m b) (delims_of m) (msh_of m) b r

-- and a stamp: rows 1 to 10
abbrev pub AdmitsStamped : (m b stamp : List ℕ) → Result Terms Refusal → Type 0
AdmitsStamped m b stamp r = AdmitsBy (ten_rows m b stamp) (delims_of m) (msh_of m) b r

-- ---- what a section holds

-- the rules of the section that stands there
unfoldable pub rules_in : List ℕ → Section → List Rule
rules_in b s = items_of (times s.rule_count (rule_in s.set_count) b s.rules_at)

-- its sets
unfoldable pub sets_in : List ℕ → Section → List (List (List ℕ))
sets_in b s = items_of (times s.set_count code_set b s.sets_at)

-- its rules and its sets can be read, and are as few as the limits say
pub record Holds (b : List ℕ) (s : Section) : Type 0 where
  pub few_rules : s.rule_count ≤ rule_limit
  pub few_sets : s.set_count ≤ set_limit
  pub rules_end : end_of (times s.rule_count (rule_in s.set_count) b s.rules_at) ≡ Some s.sets_at
  pub sets_after : ℕ
  pub sets_end : end_of (times s.set_count code_set b s.sets_at) ≡ Some sets_after

-- a set can be read at a position
abbrev pub SetStands : List ℕ → ℕ → Type 0
SetStands b at = is_found (code_set b at) ≡ true

-- the codes of the set that stands there
abbrev pub codes_at : List ℕ → ℕ → List (List ℕ)
codes_at b at = items_of (code_set b at)

-- set k of the sets stands at a position
pub record SetAt (b : List ℕ) (sets : List (List (List ℕ))) (k at : ℕ) : Type 0 where
  pub stands : SetStands b at
  pub codes : codes_at b at ≡ get_or sets k []

-- where each of count sets stands that stand in a row from a position on, and 0 behind these places
pub record NotedSets (b : List ℕ) (at count : ℕ) (places : List ℕ) : Type 0 where
  pub sized : length places ≡ set_limit
  pub starts : take count places ≡ items_of (times count (starting code_set) b at)
  pub past : (k : ℕ) → count ≤ k → get_or places k 0 ≡ 0

-- where each set of a section stands
abbrev pub Placed : List ℕ → Section → List ℕ → Type 0
Placed b s places = NotedSets b s.sets_at s.set_count places
