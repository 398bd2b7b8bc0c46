-- Laws of `specs/Records.antt`: what writing from records gives, exactly when, and how large an answer is at most. Assumes nothing.
use Prim.Native.Nat.{ℕ, ◌^◌, ◌≤◌, ◌<◌}
use mathlib.Core.Path.{◌≡◌, refl, sym, ap, subst, subst⁻¹, ◌∙◌}
use mathlib.Core.Bool.{Bool, true, false, not, ◌||◌}
use mathlib.Core.Logic.{◌↔◌}
use mathlib.Core.List.{List, [], ◌∷◌, ◌++◌}
use native.Mathlib.Omega.{arith}
use native.Mathlib.Decide.{dec_le}
use lib.Dec.{ltb}
use lib.ListN.{length, get_or, take, drop, length-take}
use borrow.Author.Tests.{eqb-true, eqb-false}
use Rattle.hl7.specs.Bytes.{is_in, distinct}
use Rattle.hl7.specs.Place.{delims_of}
use Rattle.hl7.specs.Refusals.{Told, told, Row, first_row, passes, numbers_of, apart, holds_at, First, message_rows, form_rows, is_sound}
use Rattle.hl7.proofs.Placing.{segment-short}
use Rattle.hl7.proofs.Refusing.{reading_bounded, sound-short}
use Rattle.grade.specs.Values.{is_stamp}
use Rattle.grade.specs.Header.{msh_of}
use Rattle.grade.specs.Admission.{has_control_id, six_rows, Answer}
use Rattle.grade.specs.Range.{all_in_range}
use Rattle.grade.specs.declared.finding.Finding.{Finding}
use Rattle.grade.proofs.Admitting.{six_passes, six_sound, six_refused}
use Rattle.ack.specs.Answers.{Outcome, outcome, ack_of, Gives}
use Rattle.ack.specs.Records.{record_rows, write_records, write_from}
use Rattle.ack.specs.Pieces.{short_or}
use Rattle.ack.proofs.Admitting.{stamp-length}
use Rattle.ack.proofs.Sizes.{ack_size}
use Rattle.ack.proofs.Answering.{gives_once, refused-is, written_is, number_is, table-exactly, table_none}
use Rattle.ack.proofs.Recorded.{records_refused, records_wrong, records_unstamped, records_right, short-told, fits_told}

-- any two results that the contract of `write` allows are the same
pub write_once : (m : List ℕ) (table : List Finding) (count : ℕ) (stamp : List ℕ) (control : ℕ) (out : List ℕ) {a a' : Answer} {after after' : List ℕ}
    → Gives a after (write_from m table count stamp control out) → Gives a' after' (write_from m table count stamp control out) → (a ≡ a') × (after ≡ after')
write_once m table count stamp control out p q = gives_once p q

module _ (m : List ℕ) (table : List Finding) (count : ℕ) (stamp : List ℕ) (control : ℕ) (out : List ℕ) where
  abbrev counted : List Finding
  counted = take count table

  abbrev over : Bool
  over = ltb (length table) count

  abbrev ack : List ℕ
  ack = ack_of m counted stamp control

  abbrev rows : List Row
  rows = record_rows m over counted stamp ack out

  abbrev given : Outcome
  given = write_from m table count stamp control out

  rows_apart : apart (numbers_of rows) ≡ true
  unfolding message_rows form_rows numbers_of distinct is_in
  rows_apart = refl

  -- the number is that of row k, from 0, exactly when row k is the first of the nine to hold
  pub write_exactly : (k : ℕ) → k < 9 → (given.told.number ≡ get_or (1 ∷ 2 ∷ 3 ∷ 4 ∷ 5 ∷ 6 ∷ 13 ∷ 10 ∷ 11 ∷ []) k 0) ↔ First rows k
  unfolding write_from message_rows form_rows numbers_of
  write_exactly k h = table-exactly rows rows_apart ack out k h

  -- and 0 exactly when none holds
  pub write_answered : (given.told.number ≡ 0) ↔ ((i : ℕ) → holds_at rows i ≡ false)
  unfolding write_from
  write_answered = table_none rows rows_apart ack out

  -- a refusal alters nothing
  pub write_keeps : (given.told.number ≡ 0 → ⊥) → given.output ≡ out
  unfolding write_from
  write_keeps some = ap (λ (o : Outcome). o.output) (refused-is (first_row rows) ack out (λ none. some (number_is (first_row rows) ack out ∙ none)))

  -- otherwise the first bytes are the ACK, as many as the detail says, and the others keep their values
  pub write_writes : given.told.number ≡ 0 → (given.told.detail ≡ length ack) × (given.output ≡ ack ++ drop (length ack) out)
  unfolding write_from
  write_writes zero =
      let is = written_is (first_row rows) ack out (sym (number_is (first_row rows) ack out) ∙ zero) in
      (ap (λ (o : Outcome). o.told.detail) is, ap (λ (o : Outcome). o.output) is)

  -- ---- the ways out, of any property
  ways : (P : Outcome → Type 0) → (((first_row (six_rows m)).number ≡ 0 → ⊥) → P (outcome (first_row (six_rows m)) out)) → P (outcome (told 13 0) out) → P (outcome (told 10 0) out)
      → ((first_row (six_rows m)).number ≡ 0 → is_stamp stamp ≡ true → P (short_or ack out)) → P given
  unfolding write_from
  ways P refused wrong unstamped right = by (passes (six_rows m)) (over || not (all_in_range counted)) (is_stamp stamp) refl refl refl
    where
      by : (passed bad stamped : Bool) → passes (six_rows m) ≡ passed → (over || not (all_in_range counted)) ≡ bad → is_stamp stamp ≡ stamped → P (write_records m over counted stamp control out)
      by false bad stamped e f g = let some = eqb-false _ 0 e in subst⁻¹ P (records_refused m over counted stamp control out some) (refused some)
      by true true stamped e f g = subst⁻¹ P (records_wrong m over counted stamp control out (eqb-true _ 0 e) f) wrong
      by true false false e f g = subst⁻¹ P (records_unstamped m over counted stamp control out (eqb-true _ 0 e) f g) unstamped
      by true false true e f g = let none = eqb-true _ 0 e in subst⁻¹ P (records_right m over counted stamp control out none f g) (right none g)

  -- ---- bounds
  abbrev Small : Told → Type 0
  Small t = (t.number < 14) × (t.detail ≤ 2 ^ 48)

  six_small : Small (first_row (six_rows m))
  unfolding first_row
  six_small = by (is_sound m) (has_control_id (delims_of m) (msh_of m)) refl refl
    where
      by : (sound named : Bool) → is_sound m ≡ sound → has_control_id (delims_of m) (msh_of m) ≡ named → Small (first_row (six_rows m))
      by true true e f =
          subst Small (six_sound m {t = told 0 0} e refl refl (rw f refl)) (omega arith, omega arith)
      by true false e f =
          subst Small (six_sound m {t = told 6 0} e refl refl (rw f refl)) (omega arith, omega arith)
      by false named e f =
          let told = reading_bounded m in
          subst Small (six_refused m e refl) (omega arith, omega arith)

  pub record_bounded : count < 2 ^ 32 → Small given.told
  record_bounded few = ways (λ (o : Outcome). Small o.told) (λ _. six_small) (omega arith, omega arith) (omega arith, omega arith) (λ none stamped. fit none stamped (dec_le (length ack) (length out)))
    where
      short-ack : (first_row (six_rows m)).number ≡ 0 → is_stamp stamp ≡ true → length ack ≤ 2 ^ 48
      short-ack none stamped =
          omega (arith, ack_size (delims_of m) (msh_of m) stamp control counted, stamp-length stamp stamped, segment-short m 1, sound-short m (six_passes m none), length-take count table, few)

      fit : (first_row (six_rows m)).number ≡ 0 → is_stamp stamp ≡ true → Dec (length ack ≤ length out) → Small (short_or ack out).told
      fit none stamped (yes h) = subst⁻¹ Small (ap (λ (o : Outcome). o.told) (fits_told ack out h)) (omega arith, short-ack none stamped)
      fit none stamped (no h) = subst⁻¹ Small (short-told ack out (omega (arith, h))) (omega arith, short-ack none stamped)
