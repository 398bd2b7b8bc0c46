-- Laws of `specs/Table.antt`: what grading into a table gives, exactly when, and that it is in range. Assumes nothing.
use Prim.Native.Nat.{ℕ, ◌^◌, ◌≤◌, ◌<◌}
use mathlib.Core.Path.{◌≡◌, refl, sym, ap, subst⁻¹, ◌∙◌}
use mathlib.Core.Bool.{Bool, true, false}
use mathlib.Core.Logic.{◌↔◌}
use mathlib.Core.List.{List, [], ◌∷◌, ◌++◌}
use native.Mathlib.Omega.{arith}
use lib.Dec.{leb}
use lib.ListN.{length, get_or, take, drop, length-append, length-drop}
use lib.Seq.{take-append_seam, drop-append_seam}
use borrow.Author.Tests.{eq-eqb, eqb-true, eqb-false, leb-true, leb-false}
use Rattle.hl7.specs.Bytes.{is_in, distinct}
use Rattle.hl7.specs.Refusals.{told, first_row, passes, numbers_of, apart, holds_at, First, message_rows, form_rows}
use Rattle.hl7.proofs.Refusing.{row-exactly, none-exactly}
use Rattle.grade.specs.Admission.{book_rows, admit_rows, Answer, paper}
use Rattle.grade.specs.Grading.{findings_for}
use Rattle.grade.specs.Range.{all_in_range}
use Rattle.grade.specs.Table.{table_rows, Filled, grade_into}
use Rattle.grade.specs.declared.finding.Finding.{Finding}
use Rattle.grade.proofs.Telling.{paper_once}
use Rattle.grade.proofs.Admitting.{admit_bounded}
use Rattle.grade.proofs.Planning.{found-few, into_refused, into_short, into_room}
use Rattle.grade.proofs.Ranging.{graded-in_range}

-- any two results that the contract of `grade` allows are the same
pub grade_once : {o : Filled} {a a' : Answer} {after after' : List Finding} → (paper a ≡ o.told) × (after ≡ o.table) → (paper a' ≡ o.told) × (after' ≡ o.table) → (a ≡ a') × (after ≡ after')
grade_once {a = a} {a'} p q = (paper_once a a' (p.0 ∙ sym q.0), p.1 ∙ sym q.1)

module _ (m b : List ℕ) (table : List Finding) where
  abbrev found : List Finding
  found = findings_for m b

  abbrev graded : Filled
  graded = grade_into m b table

  -- ---- the three ways out, of any property
  ways : (P : Filled → Type 0)
      → (((first_row (admit_rows m b)).number ≡ 0 → ⊥) → P (record { told = first_row (admit_rows m b); table = table }))
      → ((first_row (admit_rows m b)).number ≡ 0 → length table < length found → P (record { told = told 12 (length found); table = table }))
      → ((first_row (admit_rows m b)).number ≡ 0 → length found ≤ length table → P (record { told = told 0 (length found); table = found ++ drop (length found) table }))
      → P graded
  ways P refused short room = by (passes (admit_rows m b)) (leb (length found) (length table)) refl refl
    where
      by : (passed fits : Bool) → passes (admit_rows m b) ≡ passed → leb (length found) (length table) ≡ fits → P graded
      by false fits e f = let some = eqb-false _ 0 e in subst⁻¹ P (into_refused m b table some) (refused some)
      by true false e f =
          let none = eqb-true _ 0 e in
          let less = leb-false (length found) (length table) f in
          subst⁻¹ P (into_short m b table none less) (short none less)
      by true true e f =
          let none = eqb-true _ 0 e in
          let fit = leb-true (length found) (length table) f in
          subst⁻¹ P (into_room m b table none fit) (room none fit)

  -- ---- exactly when
  rows_apart : apart (numbers_of (table_rows m b (length table))) ≡ true
  unfolding admit_rows message_rows form_rows book_rows numbers_of distinct is_in
  rows_apart = refl

  graded-number : graded.told.number ≡ (first_row (table_rows m b (length table))).number
  unfolding grade_into
  graded-number = by (passes (table_rows m b (length table))) refl
    where
      by : (passed : Bool) → passes (table_rows m b (length table)) ≡ passed → graded.told.number ≡ (first_row (table_rows m b (length table))).number
      by true e = rw e (sym (eqb-true _ 0 e))
      by false e = rw e refl

  -- the number is that of row k, from 0, exactly when row k is the first of the ten to hold
  pub grade_exactly : (k : ℕ) → k < 10 → (graded.told.number ≡ get_or (1 ∷ 2 ∷ 3 ∷ 4 ∷ 5 ∷ 6 ∷ 7 ∷ 8 ∷ 9 ∷ 12 ∷ []) k 0) ↔ First (table_rows m b (length table)) k
  unfolding admit_rows message_rows form_rows book_rows numbers_of
  grade_exactly k h =
      let law = row-exactly (table_rows m b (length table)) rows_apart k h in
      (λ e. law.0 (sym graded-number ∙ e), λ f. graded-number ∙ law.1 f)

  -- and 0 exactly when none holds
  pub grade_answered : (graded.told.number ≡ 0) ↔ ((i : ℕ) → holds_at (table_rows m b (length table)) i ≡ false)
  grade_answered =
      let law = none-exactly (table_rows m b (length table)) rows_apart in
      (λ e. law.0 (sym graded-number ∙ e), λ none. graded-number ∙ law.1 none)

  -- ---- the table
  -- a refusal alters nothing
  pub grade_keeps : (graded.told.number ≡ 0 → ⊥) → graded.table ≡ table
  grade_keeps = ways (λ (f : Filled). (f.told.number ≡ 0 → ⊥) → f.table ≡ table) (λ _ _. refl) (λ _ _ _. refl) (λ _ _ some. absurd (some refl))

  -- the first records are the findings, as many as the detail says, and the others keep their values
  pub grade_fills : graded.told.number ≡ 0 → (graded.told.detail ≡ length found) × (take graded.told.detail graded.table ≡ found) × (drop graded.told.detail graded.table ≡ drop (length found) table)
  grade_fills =
      ways (λ (f : Filled). f.told.number ≡ 0 → (f.told.detail ≡ length found) × (take f.told.detail f.table ≡ found) × (drop f.told.detail f.table ≡ drop (length found) table))
      (λ some zero. absurd (some zero)) (λ _ _ zero. absurd (omega (arith, zero)))
      (λ _ _ _. (refl, take-append_seam found (drop (length found) table), drop-append_seam found (drop (length found) table)))

  -- what grading gives is in range
  pub grade_in_range : graded.told.number ≡ 0 → all_in_range (take graded.told.detail graded.table) ≡ true
  grade_in_range =
      ways (λ (f : Filled). f.told.number ≡ 0 → all_in_range (take f.told.detail f.table) ≡ true) (λ some zero. absurd (some zero)) (λ _ _ zero. absurd (omega (arith, zero)))
      (λ none _ _. ap all_in_range (take-append_seam found (drop (length found) table)) ∙ graded-in_range m b (eq-eqb _ 0 none))

  -- the table keeps its length, and no more records are told than it has
  pub into_length : length graded.table ≡ length table
  into_length =
      ways (λ (f : Filled). length f.table ≡ length table) (λ _. refl) (λ _ _. refl)
      (λ _ room. omega (arith, room, length-append found (drop (length found) table), length-drop (length found) table))

  pub into_fits : graded.told.number ≡ 0 → graded.told.detail ≤ length table
  into_fits = ways (λ (f : Filled). f.told.number ≡ 0 → f.told.detail ≤ length table) (λ some zero. absurd (some zero)) (λ _ _ zero. absurd (omega (arith, zero))) (λ _ room _. room)

  -- no answer is larger than this
  pub graded_bounded : (graded.told.number < 13) × (graded.told.detail ≤ 2 ^ 52)
  graded_bounded =
      ways (λ (f : Filled). (f.told.number < 13) × (f.told.detail ≤ 2 ^ 52)) (λ _. let told = admit_bounded m b in (omega arith, omega arith))
      (λ none _. (omega arith, omega (arith, found-few m b none))) (λ none _. (omega arith, omega (arith, found-few m b none)))
