-- Grading into a table, in the words of the code: the ways out, and what is planned. Assumes nothing.
use Prim.Native.Nat.{ℕ, ◌+◌, ◌≤◌, ◌<◌}
use mathlib.Core.Path.{◌≡◌, refl, sym, ap, subst, ◌∙◌}
use Rattle.std.specs.Prelude.{Ok, Err}
use mathlib.Core.Bool.{false, cond}
use mathlib.Core.List.{List, [], ◌∷◌, ◌++◌}
use native.Mathlib.Omega.{arith}
use lib.ListN.{length, take, drop}
use lib.Seq.{sets, sets-eq, take_all}
use borrow.Author.Tests.{eq-eqb, ne_eqb, lt-ltb, le-ltb}
use Rattle.hl7.specs.Refusals.{told, first_row, passes}
use Rattle.hl7.proofs.Refusing.{rows_append}
use Rattle.grade.specs.Admission.{admit_rows, refusal_told}
use Rattle.grade.specs.Standing.{Admits}
use Rattle.grade.specs.Grading.{findings_for}
use Rattle.grade.specs.Rest.{findings_in}
use Rattle.grade.specs.Table.{room_row, table_rows, Filled, grade_into}
use Rattle.grade.specs.Sheet.{finding_limit, Gets}
use Rattle.grade.specs.Filling.{all_from}
use Rattle.grade.specs.declared.finding.Finding.{Finding}
use Rattle.grade.specs.declared.refusal.Refusal.{Refusal}
use Rattle.grade.specs.declared.sheet.Sheet.{Sheet}
use Rattle.grade.specs.declared.step.Terms.{Terms}
use Rattle.grade.proofs.Admitting.{admit_apart, refused-some, admitted_none, admitted_by, admits_passed, admitted_short, admitted_holds}
use Rattle.grade.proofs.Grading.{listed}
use Rattle.grade.proofs.Stepping.{all-within}

-- no message has more findings than this
pub admitted_few : (m b : List ℕ) {t : Terms} → Admits m b (Ok t) → length (findings_in b t.section t.header m) ≤ finding_limit
admitted_few m b {t} is = omega (arith, all-within m b t.section t.header (admitted_short m b is) (admitted_holds m b is), admitted_short m b is)

pub found-few : (m b : List ℕ) → (first_row (admit_rows m b)).number ≡ 0 → length (findings_for m b) ≤ finding_limit
found-few m b none =
    let is = admits_passed m b none in
    let by = admitted_by m b is in
    subst (λ (l : List Finding). length l ≤ finding_limit) (listed m b _ by.opens by.reads) (admitted_few m b is)

-- ---- the rows
module _ (m b : List ℕ) (table : List Finding) where
  abbrev found : List Finding
  found = findings_for m b

  -- row 12 is tried after the nine
  rows_told : first_row (table_rows m b (length table)) ≡ cond (passes (admit_rows m b)) (first_row (room_row found (length table) ∷ [])) (first_row (admit_rows m b))
  rows_told = rows_append (admit_rows m b) (room_row found (length table) ∷ []) (admit_apart m b)

  -- the three ways out
  pub into_refused : ((first_row (admit_rows m b)).number ≡ 0 → ⊥) → grade_into m b table ≡ record { told = first_row (admit_rows m b); table = table }
  unfolding grade_into
  into_refused some =
      let rows : first_row (table_rows m b (length table)) ≡ first_row (admit_rows m b) = rows_told ∙ rw (ne_eqb _ 0 some) in
      rw (rows, ne_eqb _ 0 some)

  module _ (none : (first_row (admit_rows m b)).number ≡ 0) where
    pub into_short : length table < length found → grade_into m b table ≡ record { told = told 12 (length found); table = table }
    unfolding grade_into first_row
    into_short less =
        let rows : first_row (table_rows m b (length table)) ≡ told 12 (length found) = rows_told ∙ rw (eq-eqb _ 0 none, lt-ltb (length table) (length found) less) in
        rw rows

    pub into_room : length found ≤ length table → grade_into m b table ≡ record { told = told 0 (length found); table = found ++ drop (length found) table }
    unfolding grade_into first_row
    into_room room =
        let rows : first_row (table_rows m b (length table)) ≡ told 0 0 = rows_told ∙ rw (eq-eqb _ 0 none, le-ltb (length table) (length found) room) in
        rw rows

-- ---- what the code does
-- a refusal of admission alters nothing
pub graded_refused : (m b : List ℕ) (table : List Finding) {a : Refusal} → Admits m b (Err a) → (refusal_told a ≡ (grade_into m b table).told) × (table ≡ (grade_into m b table).table)
graded_refused m b table is =
    let out = into_refused m b table (refused-some is) in
    (is.told_is ∙ sym (ap (λ (f : Filled). f.told) out), sym (ap (λ (f : Filled). f.table) out))

module _ (m b : List ℕ) (table : List Finding) {t : Terms} {first : Sheet} {count : ℕ} (is : Admits m b (Ok t)) (w : Gets m b t false false (findings_in b t.section t.header m) first)
    (counted : count ≡ length (all_from m b first)) where
  all : all_from m b first ≡ findings_for m b
  all = sym (w.all refl) ∙ listed m b t.section (admitted_by m b is).opens (admitted_by m b is).reads

  many : count ≡ length (findings_for m b)
  many = counted ∙ ap length all

  -- too many for the table, which is left as it was
  pub graded_short : length table < count → (told 12 count ≡ (grade_into m b table).told) × (table ≡ (grade_into m b table).table)
  graded_short less =
      let out = into_short m b table (admitted_none m b is) (omega (arith, many, less)) in
      (ap (told 12) many ∙ sym (ap (λ (f : Filled). f.told) out), sym (ap (λ (f : Filled). f.table) out))

  -- the first records are set
  pub graded_room : {after : List Finding} → count ≤ length table → after ≡ sets table 0 (take count (all_from m b first))
      → (told 0 count ≡ (grade_into m b table).told) × (after ≡ (grade_into m b table).table)
  graded_room fit filled =
      let start : 0 + length (findings_for m b) ≡ length (findings_for m b) = omega arith in
      let out = into_room m b table (admitted_none m b is) (omega (arith, many, fit)) in (
        ap (told 0) many ∙ sym (ap (λ (f : Filled). f.told) out),
        filled
            ∙ ap (sets table 0) (take_all count (all_from m b first) (omega (arith, counted)) ∙ all)
            ∙ sets-eq (findings_for m b) table 0 (omega (arith, many, fit))
            ∙ ap (λ (n : ℕ). findings_for m b ++ drop n table) start
            ∙ sym (ap (λ (f : Filled). f.table) out),
      )
