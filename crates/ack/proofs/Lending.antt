-- Grading into a table and then writing what it gave is answering, where the table has room; where it has none it is 12. Assumes nothing.
use Prim.Native.Nat.{ℕ, ◌≤◌}
use mathlib.Core.Path.{◌≡◌, refl, sym, ap, ap₂, ◌∙◌}
use mathlib.Core.Bool.{Bool, true, false, cond, not, ◌&&◌, ◌||◌, true≢false}
use mathlib.Core.Logic.{◌↔◌}
use mathlib.Core.List.{List, ◌++◌}
use native.Mathlib.Omega.{arith}
use lib.Dec.{eqb, leb, ltb}
use lib.ListN.{length, drop, length-append}
use lib.Seq.{take-append_seam}
use Rattle.std.specs.Prelude.{Err}
use borrow.Author.Tests.{eq-eqb, ne_eqb, eqb-true, eqb-false, lt-ltb, le-ltb, leb-true, leb-false, not-false}
use Rattle.hl7.specs.Place.{delims_of}
use Rattle.hl7.specs.Refusals.{Told, told, first_row, passes, message_rows, form_rows}
use Rattle.hl7.proofs.Refusing.{none-exactly}
use Rattle.grade.specs.Values.{is_stamp}
use Rattle.grade.specs.Header.{msh_of}
use Rattle.grade.specs.Admission.{has_control_id, book_rows, admit_rows, six_rows, Answer, refusal_told}
use Rattle.grade.specs.Grading.{findings_for}
use Rattle.grade.specs.Range.{all_in_range}
use Rattle.grade.specs.Table.{Filled, grade_into}
use Rattle.grade.specs.declared.finding.Finding.{Finding}
use Rattle.grade.specs.declared.refusal.Refusal.{Refusal}
use Rattle.grade.proofs.Telling.{refusal_some}
use Rattle.grade.proofs.Tabling.{into_fits}
use Rattle.grade.proofs.Admitting.{admit_apart, admits_passed, admitted_by, six_sound}
use Rattle.grade.proofs.Planning.{into_refused, into_short, into_room}
use Rattle.grade.proofs.Ranging.{graded-in_range}
use Rattle.ack.specs.Answers.{Outcome, outcome, write_of, answer_of, Gives}
use Rattle.ack.specs.Records.{write_records, write_from, lent_of}
use Rattle.ack.proofs.Answering.{write_stamp, write_stamped, by_admission, answer_unstamped}
use Rattle.ack.proofs.Promises.{output-length, answer_bounded}
use Rattle.ack.proofs.Recorded.{records_unstamped, records_right}

-- a message that passes rows 1 to 9 passes rows 1 to 6
six_admitted : (m b : List ℕ) → (first_row (admit_rows m b)).number ≡ 0 → (first_row (six_rows m)).number ≡ 0
unfolding admit_rows message_rows form_rows book_rows first_row
six_admitted m b none =
    let sound = (admitted_by m b (admits_passed m b none)).sound in
    let named = not-false (has_control_id (delims_of m) (msh_of m)) ((none-exactly (admit_rows m b) (admit_apart m b)).0 none 5) in
    sym (ap (λ (t : Told). t.number) (six_sound m {t = told 0 0} sound refl refl (rw named refl)))

module _ (m b stamp : List ℕ) (control : ℕ) (out : List ℕ) where
  abbrev found : List Finding
  found = findings_for m b

  -- what grading gives is written as it is
  write_found : (rest : List Finding) → (first_row (admit_rows m b)).number ≡ 0 → write_from m (found ++ rest) (length found) stamp control out ≡ write_of m found stamp control out
  unfolding write_from
  write_found rest none =
      let room : ltb (length (found ++ rest)) (length found) ≡ false = le-ltb (length (found ++ rest)) (length found) (omega (arith, length-append found rest)) in
      rw (room, take-append_seam found rest) (by (is_stamp stamp) refl)
    where
      right : (false || not (all_in_range found)) ≡ false
      right = rw (graded-in_range m b (eq-eqb _ 0 none)) refl

      by : (stamped : Bool) → is_stamp stamp ≡ stamped → write_records m false found stamp control out ≡ write_of m found stamp control out
      by true e = records_right m false found stamp control out (six_admitted m b none) right e ∙ sym (write_stamped m found stamp control out e)
      by false e = records_unstamped m false found stamp control out (six_admitted m b none) right e ∙ sym (write_stamp m found stamp control out e)

  -- the findings exceed a table of so many records
  abbrev pub exceeds : ℕ → Bool
  exceeds room = passes (admit_rows m b) && ltb room (length found)

  pub lent-answers : (table : List Finding) → lent_of table m b stamp control out ≡ cond (exceeds (length table)) (outcome (told 12 (length found)) out) (answer_of m b stamp control out)
  unfolding lent_of
  lent-answers table = by (passes (admit_rows m b)) (leb (length found) (length table)) refl refl
    where
      writes : Filled → Outcome
      writes f = cond (eqb f.told.number 0) (write_from m f.table f.told.detail stamp control out) (outcome f.told out)

      by : (passed fits : Bool) → passes (admit_rows m b) ≡ passed → leb (length found) (length table) ≡ fits
          → writes (grade_into m b table) ≡ cond (exceeds (length table)) (outcome (told 12 (length found)) out) (answer_of m b stamp control out)
      by false fits e f =
          ap writes (into_refused m b table (eqb-false _ 0 e)) ∙ rw (e, by_admission m b stamp control out, e) refl
      by true false e f =
          let less = leb-false (length found) (length table) f in
          ap writes (into_short m b table (eqb-true _ 0 e) less) ∙ rw (e, lt-ltb (length table) (length found) less) refl
      by true true e f =
          let room = leb-true (length found) (length table) f in
          ap writes (into_room m b table (eqb-true _ 0 e) room) ∙ write_found (drop (length found) table) (eqb-true _ 0 e)
          ∙ rw (e, le-ltb (length table) (length found) room, by_admission m b stamp control out, e) refl

  -- so it is the old call where the table has room
  pub lent-room : (table : List Finding) → length found ≤ length table → lent_of table m b stamp control out ≡ answer_of m b stamp control out
  lent-room table room = lent-answers table ∙ by (passes (admit_rows m b))
    where
      by : (passed : Bool) → cond (passed && ltb (length table) (length found)) (outcome (told 12 (length found)) out) (answer_of m b stamp control out) ≡ answer_of m b stamp control out
      by true = rw (le-ltb (length table) (length found) room) refl
      by false = refl

  -- and 12 exactly where a message that passes rows 1 to 9 has more findings than the table has records
  pub lent_twelve : (table : List Finding) → ((lent_of table m b stamp control out).told.number ≡ 12) ↔ (exceeds (length table) ≡ true)
  lent_twelve table = rw (lent-answers table) (by (exceeds (length table)) refl)
    where
      by : (x : Bool) → exceeds (length table) ≡ x
          → ((cond x (outcome (told 12 (length found)) out) (answer_of m b stamp control out)).told.number ≡ 12) ↔ (x ≡ true)
      by true e = (λ _. refl, λ _. refl)
      by false e = (λ is. absurd (omega (arith, is, (answer_bounded m b stamp control out).0)), λ is. absurd (true≢false (sym is)))

  -- the output keeps its length
  pub lent_length : (table : List Finding) → length (lent_of table m b stamp control out).output ≡ length out
  lent_length table = ap (λ (o : Outcome). length o.output) (lent-answers table) ∙ by (exceeds (length table))
    where
      by : (x : Bool) → length (cond x (outcome (told 12 (length found)) out) (answer_of m b stamp control out)).output ≡ length out
      by true = refl
      by false = output-length m b stamp control out

-- without a right stamp nothing of it shows
pub lent-unstamped : (table : List Finding) (m b stamp : List ℕ) (control : ℕ) (out : List ℕ) → is_stamp stamp ≡ false
    → lent_of table m b stamp control out
    ≡ cond (passes (admit_rows m b) && ltb (length table) (length (findings_for m b))) (outcome (told 12 (length (findings_for m b))) out)
    (cond (passes (admit_rows m b)) (outcome (told 10 0) out) (outcome (first_row (admit_rows m b)) out))
lent-unstamped table m b stamp control out e = lent-answers m b stamp control out table ∙ rw (answer_unstamped m b stamp control out e) refl

-- ---- what the code does
module _ (m b stamp : List ℕ) (control : ℕ) (out : List ℕ) (table : List Finding) where
  -- a refusal of grading is told, and nothing is written
  pub lent_refused : (a : Refusal) → refusal_told a ≡ (grade_into m b table).told → Gives (Err a) out (lent_of table m b stamp control out)
  unfolding lent_of
  lent_refused a is = rw (ne_eqb _ 0 (λ zero. refusal_some a (ap (λ (t : Told). t.number) is ∙ zero))) (ap (λ (t : Told). outcome t out) is)

  -- what grading gave is written
  pub lent_written : {found : ℕ} {graded : List Finding} (a : Answer) {after : List ℕ} → told 0 found ≡ (grade_into m b table).told → graded ≡ (grade_into m b table).table
      → Gives a after (write_from m graded found stamp control out) → Gives a after (lent_of table m b stamp control out)
  unfolding lent_of
  lent_written a is left w =
      let zero : (grade_into m b table).told.number ≡ 0 = sym (ap (λ (t : Told). t.number) is) in
      rw (eq-eqb _ 0 zero) (w ∙ ap₂ (λ (t : List Finding) (n : ℕ). write_from m t n stamp control out) left (ap (λ (t : Told). t.detail) is))

  -- no more is found than the table has records
  pub lent_few : {found : ℕ} → told 0 found ≡ (grade_into m b table).told → found ≤ length table
  lent_few is = omega (arith, ap (λ (t : Told). t.detail) is, into_fits m b table (sym (ap (λ (t : Told). t.number) is)))
