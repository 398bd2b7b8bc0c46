-- What the calls give, by a table of refusals in any numbers: the law of a table, answering as writing after grading, and the code's ways out.
-- Assumes nothing.
use mathlib.Core.Path.{◌≡◌, refl, sym, ap, ap₂, ◌∙◌}
use mathlib.Core.Bool.{Bool, true, false, cond}
use Rattle.std.specs.Prelude.{Ok, Err}
use mathlib.Core.Logic.{◌↔◌}
use mathlib.Core.List.{List, [], ◌∷◌, ◌++◌, append_assoc}
use Prim.Native.Nat.{ℕ, ◌+◌, ◌^◌, ◌≤◌, ◌<◌}
use native.Mathlib.Omega.{arith}
use lib.Dec.{eqb}
use lib.ListN.{length, get_or, drop, length-append}
use borrow.Author.Tests.{eq-eqb, ne_eqb, lt-ltb, le-ltb, eqb-true}
use Rattle.hl7.specs.declared.place.Delims.{Delims}
use Rattle.hl7.specs.Refusals.{message_limit, Told, told, Row, first_row, passes, numbers_of, apart, holds_at, First}
use Rattle.hl7.proofs.Refusing.{rows_append, row-exactly, none-exactly}
use Rattle.grade.specs.Values.{is_stamp}
use Rattle.grade.specs.Admission.{admit_rows, stamp_row, ten_rows, Answer}
use Rattle.grade.specs.Grading.{findings_for, grade_of}
use Rattle.grade.specs.declared.finding.Finding.{Finding}
use Rattle.grade.proofs.Admitting.{admit_apart, ten_apart}
use Rattle.grade.specs.declared.refusal.Refusal.{Refusal}
use Rattle.grade.proofs.Telling.{paper_once}
use Rattle.ack.specs.Splice.{Wrote}
use Rattle.ack.specs.Layout.{verdict, ack_bytes}
use Rattle.ack.specs.Answers.{Outcome, outcome, outcome_by, by_rows, short_row, write_rows, write_of, then_write, ack_of, ack_for, answer_of, Gives}
use Rattle.grade.specs.Sheet.{finding_limit}
use Rattle.ack.specs.Pieces.{heading, errs, short_or}
use Rattle.ack.proofs.Writing.{◌then◌, wrote_as, wrote-at-start}
use Rattle.ack.proofs.Lines.{ack-is}
use Rattle.ack.proofs.Sizes.{ack-short}

-- any two results that a promise allows have the same number, detail and output
pub gives_once : {o : Outcome} {a a' : Answer} {after after' : List ℕ} → Gives a after o → Gives a' after' o → (a ≡ a') × (after ≡ after')
gives_once {a = a} {a'} p q =
    let same = p ∙ sym q in
    (paper_once a a' (ap (λ (o : Outcome). o.told) same), ap (λ (o : Outcome). o.output) same)

-- ---- what a table gives
module _ (t : Told) (ack out : List ℕ) where
  pub number_is : (outcome_by t ack out).told.number ≡ t.number
  number_is = by (eqb t.number 0) refl
    where
      by : (b : Bool) → eqb t.number 0 ≡ b → (cond b (outcome (told 0 (length ack)) (ack ++ drop (length ack) out)) (outcome t out)).told.number ≡ t.number
      by true e = sym (eqb-true t.number 0 e)
      by false e = refl

  pub refused-is : (t.number ≡ 0 → ⊥) → outcome_by t ack out ≡ outcome t out
  refused-is some = rw (ne_eqb t.number 0 some)

  pub written_is : t.number ≡ 0 → outcome_by t ack out ≡ outcome (told 0 (length ack)) (ack ++ drop (length ack) out)
  written_is e = rw (eq-eqb t.number 0 e)

module _ (rows : List Row) (e : apart (numbers_of rows) ≡ true) (ack out : List ℕ) where
  -- the number is that of row k, from 0, exactly when row k is the first to hold
  pub table-exactly : (k : ℕ) → k < length rows → ((by_rows rows ack out).told.number ≡ get_or (numbers_of rows) k 0) ↔ First rows k
  table-exactly k h =
      let law = row-exactly rows e k h in
      let same = number_is (first_row rows) ack out in
      (λ g. law.0 (sym same ∙ g), λ f. same ∙ law.1 f)

  -- and 0 exactly when none holds
  pub table_none : ((by_rows rows ack out).told.number ≡ 0) ↔ ((i : ℕ) → holds_at rows i ≡ false)
  table_none =
      let law = none-exactly rows e in
      let same = number_is (first_row rows) ack out in
      (λ g. law.0 (sym same ∙ g), λ none. same ∙ law.1 none)

  -- a table after another is tried where no row of the other holds
  pub table-append : (more : List Row) → by_rows (rows ++ more) ack out ≡ cond (passes rows) (by_rows more ack out) (outcome (first_row rows) out)
  table-append more = ap (λ (t : Told). outcome_by t ack out) (rows_append rows more e) ∙ by (passes rows) refl
    where
      by : (b : Bool) → passes rows ≡ b → outcome_by (cond b (first_row more) (first_row rows)) ack out ≡ cond b (by_rows more ack out) (outcome (first_row rows) out)
      by true g = refl
      by false g = rw g

-- ---- writing, in the words of the code
module _ (m : List ℕ) (findings : List Finding) (stamp : List ℕ) (control : ℕ) (out : List ℕ) where
  pub write_stamp : is_stamp stamp ≡ false → write_of m findings stamp control out ≡ outcome (told 10 0) out
  unfolding write_of first_row
  write_stamp e = rw e

  pub write_stamped : is_stamp stamp ≡ true → write_of m findings stamp control out ≡ short_or (ack_of m findings stamp control) out
  unfolding write_of first_row
  write_stamped e = rw e

-- ---- answering is writing after grading
module _ (m b stamp : List ℕ) (control : ℕ) (out : List ℕ) where
  pub by_admission : answer_of m b stamp control out ≡ cond (passes (admit_rows m b)) (write_of m (findings_for m b) stamp control out) (outcome (first_row (admit_rows m b)) out)
  unfolding answer_of write_of
  by_admission =
      let ack = ack_for m b stamp control in
      ap (λ (rows : List Row). by_rows rows ack out) (append_assoc (admit_rows m b) (stamp_row stamp ∷ []) (short_row ack out ∷ []))
      ∙ table-append (admit_rows m b) (admit_apart m b) ack out (write_rows stamp ack out)

  -- without a right stamp nothing of it shows
  pub answer_unstamped : is_stamp stamp ≡ false → answer_of m b stamp control out ≡ cond (passes (admit_rows m b)) (outcome (told 10 0) out) (outcome (first_row (admit_rows m b)) out)
  answer_unstamped e = by_admission ∙ rw (write_stamp m (findings_for m b) stamp control out e)

  pub grade_then_write : answer_of m b stamp control out ≡ then_write (grade_of m b) m stamp control out
  unfolding grade_of
  grade_then_write = by_admission ∙ by (passes (admit_rows m b))
    where
      by : (passed : Bool) → cond passed (write_of m (findings_for m b) stamp control out) (outcome (first_row (admit_rows m b)) out)
          ≡ cond passed (write_of m (cond passed (findings_for m b) []) stamp control out) (outcome (first_row (admit_rows m b)) out)
      by true = refl
      by false = refl

-- ---- rows 1 to 10, and then row 11
module _ (m b stamp : List ℕ) (control : ℕ) (out : List ℕ) where
  by_ten : answer_of m b stamp control out ≡ cond (passes (ten_rows m b stamp)) (short_or (ack_for m b stamp control) out) (outcome (first_row (ten_rows m b stamp)) out)
  unfolding answer_of
  by_ten = table-append (ten_rows m b stamp) (ten_apart m b stamp) (ack_for m b stamp control) out (short_row (ack_for m b stamp control) out ∷ [])

  pub answer_ten_stopped : passes (ten_rows m b stamp) ≡ false → answer_of m b stamp control out ≡ outcome (first_row (ten_rows m b stamp)) out
  answer_ten_stopped e = by_ten ∙ rw e

  pub answer_ten_passed : passes (ten_rows m b stamp) ≡ true → answer_of m b stamp control out ≡ short_or (ack_for m b stamp control) out
  answer_ten_passed e = by_ten ∙ rw e

-- ---- length first, then bytes: what was measured in two parts, and written in two
module _ (d : Delims) (msh stamp : List ℕ) (control : ℕ) (findings : List Finding) (out : List ℕ) (h : length msh ≤ message_limit) (s : length stamp ≤ 19) (few : length findings ≤ finding_limit) where
  module _ {a b : ℕ} (first : (second : ℕ) → a ≡ length (heading d msh stamp control second)) (others : b ≡ length (errs d findings)) where
    pub need_is : a + b ≡ length (ack_bytes d msh stamp control findings)
    need_is =
        let whole = ap length (ack-is d msh stamp control findings) ∙ length-append (heading d msh stamp control (verdict findings)) (errs d findings) in
        omega (arith, first (verdict findings), others, whole, ack-short d msh stamp control findings h s few)

    pub need_fits : a + b < 2 ^ 63
    need_fits = omega (arith, need_is, ack-short d msh stamp control findings h s few)

    pub too_short : length out < a + b → Gives (Err (Refusal.ShortOutput (a + b))) out (short_or (ack_bytes d msh stamp control findings) out)
    unfolding first_row
    too_short less = rw (lt-ltb (length out) (length (ack_bytes d msh stamp control findings)) (omega (arith, need_is))) (ap (λ (n : ℕ). outcome (told 11 n) out) need_is)

    pub fits : {p after : List ℕ} {at end second : ℕ} → a + b ≤ length out → second ≡ verdict findings → Wrote out 0 (heading d msh stamp control second) p at → Wrote p at (errs d findings) after end
        → Gives (Ok end) after (short_or (ack_bytes d msh stamp control findings) out)
    unfolding first_row
    fits {end = end} room e w v =
        let ack = ack_bytes d msh stamp control findings in
        let whole : Wrote out 0 ack _ _ = wrote_as (w then v) (rw e (sym (ack-is d msh stamp control findings))) in
        let ends = whole.ends in
        let long : end ≡ length ack = omega (arith, ends, ack-short d msh stamp control findings h s few) in
        rw (le-ltb (length out) (length ack) (omega (arith, need_is))) (ap₂ (λ (n : ℕ) (after : List ℕ). outcome (told 0 n) after) long (wrote-at-start whole (omega (arith, need_is))))
