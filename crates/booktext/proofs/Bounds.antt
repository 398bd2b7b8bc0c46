-- What is told fits one number of 64 bits, and can be had back from it. Assumes nothing.
use mathlib.Core.Path.{◌≡◌, refl, sym, ◌∙◌}
use mathlib.Core.Bool.{Bool, true, false, cond, not, ◌&&◌, ◌||◌, true≢false}
use mathlib.Core.List.{List, [], ◌∷◌, ◌++◌}
use Prim.Native.Nat.{ℕ, suc, ◌+◌, ◌^◌, ◌≤◌}
use native.Mathlib.Omega.{arith}
use lib.Dec.{eqb, leb, ltb}
use lib.ListN.{length, take, drop, length-take}
use borrow.Author.Tests.{ltb-false, leb-true, eqb-true, eq-eqb, ne_eqb, not-true}
use Rattle.hl7.specs.Bytes.{within, among}
use Rattle.hl7.specs.Spans.{occurrences}
use Rattle.hl7.proofs.Comparing.{and_both}
use Rattle.grade.specs.Book.{Contents, distinct, keys}
use Rattle.grade.specs.Encoding.{each, section_fits, section_bytes, book_bytes, well_formed}
use Rattle.grade.specs.Limits.{section_limit, rule_limit, set_limit, code_count_limit, book_limit}
use Rattle.booktext.specs.Lines.{Statement, word, says, verb, line_feed, line_of, text_limit, statements, of_place, of_codes, a_set, a_section, a_use, a_rule}
use Rattle.booktext.specs.Meaning.{body, from, expand}
use Rattle.booktext.specs.Changes.{spot_of, settled}
use Rattle.booktext.specs.Contents.{names_of, held, section_of, meaning}
use Rattle.booktext.specs.Faults.{Told, tell, nothing, firstly, may_stand, inside, count_right, version_right, key_right, codes_right, place_right, kind_right, severity_right, before_bound, bound_right, fault_of, first_fault}
use Rattle.booktext.specs.Refusals.{wrong_at, bytes_told, at_of, is_first, lacks, name_fault, first_name_fault, used_twice, statement_limit, stands, code_asked, rule_fault, first_rule_fault, first_stray, first_bad_set, over, section_told, sections_told, named_told, refusal, beginning, outcome, written, unless_refused, compiled, compile_of}
use Rattle.booktext.proofs.Promises.{never_7}

-- nothing, or a refusal by a row of its own: 55 is none, its detail is a length
pub record RowNumber (n : ℕ) : Type 0 where
  pub holds : (leb n 56 && not (eqb n 55)) ≡ true

pub a_row : {n : ℕ} → (leb n 56 && not (eqb n 55)) ≡ true → RowNumber n
a_row e = record { holds = e }

-- lines go up to one more than a text has bytes
pub record SmallRow (told : Told) : Type 0 where
  pub number : RowNumber told.number
  pub detail : told.detail ≤ 1048577
  pub section : told.section ≤ 1048577

occurs-few : (d : ℕ) (s : List ℕ) → occurrences d s ≤ length s
unfolding occurrences
occurs-few d [] = omega arith
occurs-few d (x ∷ s) = by (eqb x d) (occurs-few d s)
  where
    by : (b : Bool) → occurrences d s ≤ length s → cond b 1 0 + occurrences d s ≤ suc (length s)
    by true h = omega (arith, h)
    by false h = omega (arith, h)

line_small : (t : List ℕ) (at : ℕ) → length t ≤ text_limit → line_of t at ≤ 1048577
unfolding line_of
line_small t at h = omega (arith, occurs-few line_feed (take at t), length-take at t)

pub small-nothing : SmallRow nothing
small-nothing = record { number = a_row refl; detail = omega arith; section = omega arith }

-- the first that refuses is one of the two
small-firstly : {a b : Told} → SmallRow a → SmallRow b → SmallRow (firstly a b)
small-firstly {a} {b} x y = by (eqb a.number 0)
  where
    by : (e : Bool) → SmallRow (cond e b a)
    by true = y
    by false = x

pub small-cond : (b : Bool) {x y : Told} → SmallRow x → SmallRow y → SmallRow (cond b x y)
small-cond true p q = p
small-cond false p q = q

row_small : (b : Bool) {x y : ℕ} → RowNumber x → RowNumber y → RowNumber (cond b x y)
row_small true p q = p
row_small false p q = q

fault-small : (here : ℕ) (s : Statement) → RowNumber (fault_of here s)
unfolding fault_of
fault-small here s =
    row_small (eqb (verb s) 0) (a_row refl)
    (row_small (not (may_stand here (verb s))) (a_row refl)
    (row_small (not (count_right (verb s) (length s.words))) (a_row refl)
    (row_small (not (version_right (verb s) (word s 1))) (a_row refl)
    (row_small (not (key_right (verb s) (word s 1))) (a_row refl)
    (row_small (not (codes_right (verb s) s.words)) (a_row refl)
    (row_small (not (place_right (verb s) (word s 1))) (a_row refl)
    (row_small (not (kind_right (verb s) (word s 2))) (a_row refl)
    (row_small (not (severity_right (verb s) (length s.words) (word s 2) (word s 3))) (a_row refl)
    (row_small (not (bound_right (verb s) (length s.words) (word s 2) (word s (before_bound (verb s))) (word s (suc (before_bound (verb s)))))) (a_row refl) (a_row refl))))))))))

name_fault-small : (all : List Statement) (count : ℕ) (s : Statement) → RowNumber (name_fault all count s)
unfolding name_fault
name_fault-small all count s =
    row_small (within a_set a_section (verb s) && not (is_first all s)) (a_row refl)
    (row_small (says a_section s && leb section_limit count) (a_row refl)
    (row_small (lacks all s) (a_row refl) (a_row refl)))

rule_fault-small : (all before : List Statement) (s : Statement) → RowNumber (rule_fault all before s)
unfolding rule_fault
rule_fault-small all before s =
    row_small (says a_rule s && stands (spot_of s) before) (a_row refl)
    (row_small (of_place (verb s) && not (says a_rule s) && not (stands (spot_of s) before)) (a_row refl)
    (row_small (of_codes (verb s) && not (each (code_asked all before s) (drop 2 s.words))) (a_row refl) (a_row refl)))

module _ (t : List ℕ) (short : length t ≤ text_limit) where
  told-small : (number at other : ℕ) → RowNumber number → other ≤ 1048577 → SmallRow (tell number (line_of t at) other)
  told-small number at other n o = record { number = n; detail = line_small t at short; section = o }

  faults_small : (here : ℕ) (ss : List Statement) → SmallRow (first_fault t here ss)
  unfolding first_fault
  faults_small here [] = small-nothing
  faults_small here (s ∷ ss) = small-cond (eqb (fault_of here s) 0) (faults_small (inside here (verb s)) ss) (told-small (fault_of here s) s.at 0 (fault-small here s) (omega arith))

  names-small : (all : List Statement) (count : ℕ) (ss : List Statement) → SmallRow (first_name_fault t all count ss)
  unfolding first_name_fault
  names-small all count [] = small-cond (eqb count 0) (record { number = a_row refl; detail = omega arith; section = omega arith }) small-nothing
  names-small all count (s ∷ ss) =
      small-cond (eqb (name_fault all count s) 0) (names-small all (cond (says a_section s) (suc count) count) ss) (told-small (name_fault all count s) s.at 0 (name_fault-small all count s) (omega arith))

  twice_small : (at : ℕ) (after ss : List Statement) → SmallRow (used_twice t (line_of t at) after ss)
  unfolding used_twice
  twice_small at after [] = small-nothing
  twice_small at after (s ∷ ss) = small-cond (says a_use s && not (is_first after s)) (told-small 46 s.at (line_of t at) (a_row refl) (line_small t at short)) (twice_small at after ss)

  rules-small : (at : ℕ) (all before ss : List Statement) → SmallRow (first_rule_fault t all (line_of t at) before ss)
  unfolding first_rule_fault
  rules-small at all before [] = small-nothing
  rules-small at all before (s ∷ ss) =
      small-cond (eqb (rule_fault all before s) 0) (rules-small at all (before ++ (s ∷ [])) ss)
      (told-small (rule_fault all before s) s.at (line_of t at) (rule_fault-small all before s) (line_small t at short))

  strays_small : (at : ℕ) (names : List (List ℕ)) (ss : List Statement) → SmallRow (first_stray t (line_of t at) names ss)
  unfolding first_stray
  strays_small at names [] = small-nothing
  strays_small at names (s ∷ ss) =
      small-cond (of_codes (verb s) && not (among (word s 1) names)) (told-small 52 s.at (line_of t at) (a_row refl) (line_small t at short)) (strays_small at names ss)

  sets-small : (at : ℕ) (all ss : List Statement) (names : List (List ℕ)) → SmallRow (first_bad_set t (line_of t at) all ss names)
  unfolding first_bad_set
  sets-small at all ss [] = small-nothing
  sets-small at all ss (name ∷ names) =
      small-cond (within 1 code_count_limit (length (held all ss name))) (sets-small at all ss names)
      (told-small 53 (at_of (from a_set name all)) (line_of t at) (a_row refl) (line_small t at short))

  over-small : (number at : ℕ) (holds : Bool) → RowNumber number → SmallRow (over number (line_of t at) holds)
  over-small number at holds n = small-cond holds (told-small number at (line_of t at) n (line_small t at short)) small-nothing

  section-small : (all : List Statement) (size : ℕ) (s : Statement) (after : List Statement) → SmallRow (section_told t all size s after)
  unfolding section_told
  section-small all size s after =
      let ss = expand all (body after) in
      let c = section_of all s after in
      small-firstly (twice_small s.at after (body after))
      (small-firstly (over-small 56 s.at (ltb statement_limit (length ss)) (a_row refl))
      (small-firstly (rules-small s.at all [] ss)
      (small-firstly (over-small 50 s.at (ltb rule_limit (length c.rules)) (a_row refl))
      (small-firstly (over-small 51 s.at (ltb set_limit (length c.sets)) (a_row refl))
      (small-firstly (strays_small s.at (names_of (settled ss)) ss)
      (small-firstly (sets-small s.at all ss (names_of (settled ss))) (over-small 54 s.at (ltb book_limit (size + length (section_bytes c))) (a_row refl))))))))

  sections-small : (all : List Statement) (size : ℕ) (ss : List Statement) → SmallRow (sections_told t all size ss)
  unfolding sections_told
  sections-small all size [] = small-nothing
  sections-small all size (s ∷ ss) =
      small-cond (says a_section s) (small-firstly (section-small all size s ss) (sections-small all (size + length (section_bytes (section_of all s ss))) ss)) (sections-small all size ss)

-- rows 31 and 32 first: a longer text has no line that is told
bytes_small : (t : List ℕ) → SmallRow (bytes_told t) × ((bytes_told t).number ≡ 0 → length t ≤ text_limit)
bytes_small t = by (ltb text_limit (length t)) refl
  where
    by : (b : Bool) → ltb text_limit (length t) ≡ b
        → SmallRow (cond b (tell 31 0 0) (cond (ltb (wrong_at t) (length t)) (tell 32 (line_of t (wrong_at t)) 0) nothing))
        × ((cond b (tell 31 0 0) (cond (ltb (wrong_at t) (length t)) (tell 32 (line_of t (wrong_at t)) 0) nothing)).number ≡ 0 → length t ≤ text_limit)
    by true e = (record { number = a_row refl; detail = omega arith; section = omega arith }, λ h. absurd (omega (arith, h)))
    by false e =
        let short = ltb-false text_limit (length t) e in
        (small-cond (ltb (wrong_at t) (length t)) (told-small t short 32 (wrong_at t) 0 (a_row refl) (omega arith)) small-nothing, λ h. short)

pub refusal-row : (t : List ℕ) → SmallRow (refusal t)
unfolding refusal
refusal-row t = by (eqb (bytes_told t).number 0) refl
  where
    by : (b : Bool) → eqb (bytes_told t).number 0 ≡ b → SmallRow (cond b (firstly (first_fault t 0 (statements t)) (named_told t)) (bytes_told t))
    by true e =
        let short = (bytes_small t).1 (eqb-true (bytes_told t).number 0 e) in
        small-firstly (faults_small t short 0 (statements t)) (small-firstly (names-small t short (statements t) 0 (statements t)) (sections-small t short (statements t) beginning (statements t)))
    by false e = (bytes_small t).0

short-book : (cs : List Contents) → well_formed cs ≡ true → length (book_bytes cs) ≤ 65536
unfolding well_formed
short-book cs h = leb-true (length (book_bytes cs)) book_limit (and_both (within 1 section_limit (length cs) && each section_fits cs && distinct (keys cs)) (leb (length (book_bytes cs)) book_limit) h).1

compiled-short : (t : List ℕ) → (refusal t).number ≡ 0 → length (compiled t) ≤ 65536
unfolding compiled
compiled-short t h = short-book (meaning t) (never_7 t h)

-- ---- whatever is written of a text or a book

-- with these numbers the detail is a length
abbrev pub is_length : ℕ → Bool
is_length n = eqb n 0 || eqb n 55

-- a length stands alone; a line is short, so that a section's line can stand above it
pub record Packs (told : Told) : Type 0 where
  pub number : told.number ≤ 56
  pub detail : told.detail ≤ 2 ^ 48
  pub section : told.section ≤ 1048577
  pub lengths : is_length told.number ≡ true → told.section ≡ 0
  pub lines : is_length told.number ≡ false → told.detail ≤ 1048577

packs_row : {told : Told} → SmallRow told → (told.number ≡ 0 → ⊥) → Packs told
packs_row {told} r n =
    let both = and_both (leb told.number 56) (not (eqb told.number 55)) r.number.holds in
    let other : is_length told.number ≡ false = rw (ne_eqb told.number 0 n) (not-true (eqb told.number 55) both.1) in
    record {
      number = leb-true told.number 56 both.0;
      detail = omega (arith, r.detail);
      section = r.section;
      lengths = λ e. absurd (true≢false (sym e ∙ other));
      lines = λ e. r.detail;
    }

packs_written : (result out : List ℕ) → length result ≤ 2 ^ 48 → Packs (written result out).told
unfolding written
packs_written result out h = by (ltb (length out) (length result))
  where
    by : (b : Bool) → Packs (cond b (outcome (tell 55 (length result) 0) out) (outcome (tell 0 (length result) 0) (result ++ drop (length result) out))).told
    by true = record { number = omega arith; detail = h; section = omega arith; lengths = λ e. refl; lines = λ e. absurd (true≢false e) }
    by false = record { number = omega arith; detail = h; section = omega arith; lengths = λ e. refl; lines = λ e. absurd (true≢false e) }

pub packs : {told : Told} (result out : List ℕ) → SmallRow told → (told.number ≡ 0 → length result ≤ 2 ^ 48) → Packs (unless_refused told result out).told
packs {told} result out r short = by (eqb told.number 0) refl
  where
    by : (b : Bool) → eqb told.number 0 ≡ b → Packs (cond b (written result out) (outcome told out)).told
    by true e = packs_written result out (short (eqb-true told.number 0 e))
    by false e = packs_row r (λ z. absurd (true≢false (sym (eq-eqb told.number 0 z) ∙ e)))

pub compile_packs : (t out : List ℕ) → Packs (compile_of t out).told
unfolding compile_of
compile_packs t out = packs (compiled t) out (refusal-row t) (λ z. omega (arith, compiled-short t z))
