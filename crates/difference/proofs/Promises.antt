-- What the difference of two books promises: where it is silent, both grade every message alike. Assumes nothing.
use mathlib.Core.Path.{◌≡◌, refl, sym, ap, ap₂, ◌∙◌}
use mathlib.Core.Bool.{Bool, true, false, cond, not}
use mathlib.Core.List.{List, [], ◌∷◌, ◌++◌, flat_map}
use Prim.Native.Nat.{ℕ}
use native.Mathlib.Omega.{arith}
use lib.Dec.{eqb, ltb}
use lib.ListN.{length, get_or, drop}
use borrow.Author.Tests.{eqb-true, eqb-false}
use Rattle.hl7.specs.Bytes.{among}
use Rattle.hl7.specs.Place.{delims_of}
use Rattle.hl7.specs.Refusals.{Row, row, first_row, passes, message_rows}
use Rattle.grade.specs.Admission.{key_of, has_control_id, book_rows, admit_rows}
use Rattle.grade.specs.Book.{Contents, keys, under, decoded, malformed, other_version, no_section}
use Rattle.grade.specs.Grading.{section_for, findings_by, grade_of}
use Rattle.grade.specs.Header.{msh_of}
use Rattle.grade.specs.declared.finding.Finding.{Finding}
use Rattle.grade.proofs.Encoded.{Bytes}
use Rattle.booktext.specs.Faults.{Told, tell, firstly}
use Rattle.booktext.specs.Refusals.{outcome, written}
use Rattle.canonical.specs.Shown.{printed}
use Rattle.canonical.proofs.Printing.{printed-line}
use Rattle.canonical.proofs.Showable.{Fits, AllFit}
use Rattle.difference.specs.Difference.{Lines, old_section, new_section, differences, book_told, diff_of}
use Rattle.difference.proofs.Alike.{Alike, same-findings}
use Rattle.difference.proofs.Bounds.{under-fits, book-formed, firstly-none, rows_none}
use Rattle.difference.proofs.Silent.{alike}
use Rattle.difference.proofs.Speaking.{silent_on, silent_both, silent_under, among-some, among_none, lone_speaks, section_silent}

-- a book that is not refused
abbrev pub Usable : List ℕ → Type 0
Usable b = (malformed b ≡ false) × (other_version b ≡ false)

-- the key that a message names
abbrev pub key_in : List ℕ → List ℕ
key_in m = key_of (delims_of m) (msh_of m)

-- sections whose rules are equal but for set numbers, with sets that are equal as sets of codes, give the same findings
pub same-section : (c d : Contents) → Alike c d → (m : List ℕ) → findings_by c m ≡ findings_by d m
same-section = same-findings

-- ---- two books, by the sections under a key
abbrev none : Contents
none = record { key = []; rules = []; sets = [] }

module _ (key : List ℕ) (olds news : List Contents) (fit : AllFit olds) (fits : AllFit news) (silent : silent_on key (differences olds news) ≡ true) where
  parts : (silent_on key (flat_map (old_section news) olds) ≡ true) × (silent_on key (flat_map (new_section olds) news) ≡ true)
  unfolding differences
  parts = silent_both key (flat_map (old_section news) olds) (flat_map (new_section olds) news) silent

  first_fits : {c : Contents} {rest : List Contents} (cs : List Contents) → AllFit cs → under key cs ≡ c ∷ rest → Fits c
  first_fits cs f u = (rw u at (under-fits key cs f)).0

  -- in both books or in none, and they grade alike
  abbrev Same : (us vs : List Contents) → Type 0
  Same us vs = (among key (keys olds) ≡ among key (keys news)) × ((m : List ℕ) → findings_by (get_or us 0 none) m ≡ findings_by (get_or vs 0 none) m)

  sections-same : (us vs : List Contents) → under key olds ≡ us → under key news ≡ vs → Same us vs
  unfolding old_section new_section
  sections-same [] [] u v = (among_none key olds u ∙ sym (among_none key news v), λ m. refl)
  sections-same [] (d ∷ ds) u v =
      let said = silent_under key (new_section olds) news parts.1 v in
      let new-one = ap (λ (k : List ℕ). among k (keys olds)) (sym said.1) ∙ among_none key olds u in
      absurd (lone_speaks _ d key said.1 (rw new-one at said.0))
  sections-same (c ∷ cs) [] u v =
      let said = silent_under key (old_section news) olds parts.0 u in
      let gone : under c.key news ≡ [] = ap (λ (k : List ℕ). under k news) (sym said.1) ∙ v in
      absurd (lone_speaks _ c key said.1 (rw gone at said.0))
  sections-same (c ∷ cs) (d ∷ ds) u v =
      let said = silent_under key (old_section news) olds parts.0 u in
      let there : under c.key news ≡ d ∷ ds = ap (λ (k : List ℕ). under k news) (sym said.1) ∙ v in
      let nothing_said = section_silent c d said.1 (rw there at said.0) in
      (among-some key olds u ∙ sym (among-some key news v), same-section c d (alike c d (first_fits olds fit u) (first_fits news fits v) nothing_said))

-- ---- two books
-- rows 1 to 9, by what is asked of a book
abbrev rows_by : List ℕ → (malformed other there : Bool) → List Row
rows_by m malformed other there = message_rows m ++ (row 6 (not (has_control_id (delims_of m) (msh_of m))) ∷ row 7 malformed ∷ row 8 other ∷ row 9 (not there) ∷ [])

module _ (old new : List ℕ) (is : Bytes old) (are : Bytes new) (f : Usable old) (g : Usable new) where
  -- where no line speaks of the key that a message names, both books grade it alike
  pub unspoken_section : (m : List ℕ) → silent_on (key_in m) (differences (decoded old) (decoded new)) ≡ true → grade_of m old ≡ grade_of m new
  unfolding grade_of admit_rows book_rows no_section section_for
  unspoken_section m silent =
      let same = sections-same (key_in m) (decoded old) (decoded new) (book-formed old is f).fit (book-formed new are g).fit silent (under (key_in m) (decoded old)) (under (key_in m) (decoded new)) refl refl in
      let there = among (key_in m) (keys (decoded old)) in
      let rows : rows_by m (malformed old) (other_version old) there ≡ rows_by m (malformed new) (other_version new) (among (key_in m) (keys (decoded new))) =
      ap₂ (λ (x y : Bool). rows_by m x y there) (f.0 ∙ sym g.0) (f.1 ∙ sym g.1) ∙ ap (rows_by m (malformed new) (other_version new)) same.0 in
      ap₂ (λ (rows : List Row) (listed : List Finding). record { told = first_row rows; findings = cond (passes rows) listed [] }) rows (same.1 m)

  -- books without a difference grade every message alike
  pub no_difference : differences (decoded old) (decoded new) ≡ [] → (m : List ℕ) → grade_of m old ≡ grade_of m new
  no_difference e m = unspoken_section m (ap (silent_on (key_in m)) e)

-- ---- by what comparing them answers
no_lines : (lines : Lines) → length (printed lines) ≡ 0 → lines ≡ []
no_lines [] e = refl
no_lines (line ∷ lines) e = absurd (omega (arith, e, printed-line line lines))

written_none : (text out : List ℕ) → (written text out).told.number ≡ 0 → (written text out).told.detail ≡ 0 → length text ≡ 0
unfolding written
written_none text out e f = by (ltb (length out) (length text)) e f
  where
    by : (b : Bool) → (cond b (outcome (tell 55 (length text) 0) out) (outcome (tell 0 (length text) 0) (text ++ drop (length text) out))).told.number ≡ 0
        → (cond b (outcome (tell 55 (length text) 0) out) (outcome (tell 0 (length text) 0) (text ++ drop (length text) out))).told.detail ≡ 0 → length text ≡ 0
    by true e f = absurd (omega (arith, e))
    by false e f = f

-- number 0 with length 0: both books can be used, and grade every message alike
pub nothing-told : (old new out : List ℕ) → Bytes old → Bytes new → (diff_of old new out).told ≡ tell 0 0 0 → Usable old × Usable new × ((m : List ℕ) → grade_of m old ≡ grade_of m new)
unfolding diff_of
nothing-told old new out is are e = by (eqb why.number 0) refl (ap (λ (t : Told). t.number) e) (ap (λ (t : Told). t.detail) e)
  where
    why : Told
    why = firstly (book_told 1 old) (book_told 2 new)

    text : List ℕ
    text = printed (differences (decoded old) (decoded new))

    by : (b : Bool) → eqb why.number 0 ≡ b → (cond b (written text out) (outcome why out)).told.number ≡ 0 → (cond b (written text out) (outcome why out)).told.detail ≡ 0
        → Usable old × Usable new × ((m : List ℕ) → grade_of m old ≡ grade_of m new)
    by true z n k =
        let both = firstly-none (book_told 1 old) (book_told 2 new) (eqb-true why.number 0 z) in
        let f = rows_none 1 (malformed old) (other_version old) both.0 in
        let g = rows_none 2 (malformed new) (other_version new) both.1 in
        (f, g, no_difference old new is are f g (no_lines (differences (decoded old) (decoded new)) (written_none text out n k)))
    by false z n k = absurd (eqb-false why.number 0 z n)
