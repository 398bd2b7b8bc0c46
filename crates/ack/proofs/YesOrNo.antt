-- Laws of `specs/Lamp.antt`: the steps of `lamp`, that its number is the first of rows 1 to 10 that holds, and when it says yes; and the lamp beside
-- the answer: it refuses exactly as the answer does up to row 10, whatever the output, and says yes exactly when the ACK says AA. Assumes nothing.
use Prim.Native.Nat.{ℕ, ◌+◌, ◌≤◌, ◌<◌}
use Prim.Native.Char.{code}
use native.Mathlib.Omega.{arith}
use mathlib.Core.Path.{◌≡◌, refl, sym, ap, subst, ◌∙◌}
use mathlib.Core.Bool.{Bool, true, false, cond, not}
use Rattle.std.specs.Prelude.{Ok, Err}
use mathlib.Core.Logic.{◌↔◌}
use mathlib.Core.List.{List, [], ◌∷◌}
use lib.Dec.{eqb, ltb}
use lib.ListN.{length, get_or}
use borrow.Author.Tests.{eq-eqb, ne_eqb, eqb-true, le-ltb, not-false}
use Rattle.hl7.specs.Text.{bytes}
use Rattle.hl7.specs.Place.{delims_of, place}
use Rattle.hl7.specs.Refusals.{message_limit, Told, told, first_row, passes, numbers_of, holds_at, First, message_rows, form_rows}
use Rattle.hl7.proofs.Comparing.{or_neither}
use Rattle.hl7.proofs.Refusing.{row-exactly, none-exactly}
use Rattle.grade.specs.Values.{is_stamp}
use Rattle.grade.specs.Header.{msh_of, header_of, any_wrong, header_or}
use Rattle.grade.specs.Admission.{book_rows, admit_rows, ten_rows, Answer, paper, refusal_told}
use Rattle.grade.specs.Grading.{findings_by, findings_for, Graded, grade_of}
use Rattle.grade.specs.Standing.{AdmitsStamped}
use Rattle.grade.specs.Rest.{findings_in}
use Rattle.grade.specs.declared.refusal.Refusal.{Refusal}
use Rattle.grade.specs.declared.step.Terms.{Terms}
use Rattle.grade.proofs.Telling.{paper_once}
use Rattle.grade.specs.declared.finding.Finding.{Finding}
use Rattle.grade.specs.declared.header.Header.{Header}
use Rattle.grade.proofs.Admitting.{admitted_by, refused-some, ten_apart, ten_first, ten_bounded, ten_refuses, stamped_passes, stamped_admitted}
use Rattle.grade.proofs.Grading.{listed}
use Rattle.grade.specs.Deciding.{has, is_fault}
use Rattle.ack.specs.Answers.{Outcome, outcome_by, ack_for, answer_of}
use Rattle.ack.specs.Lamp.{gets_aa, yes_or_no, lamp_of}
use Rattle.ack.specs.Pieces.{short_or}
use Rattle.ack.proofs.Listing.{header_faults}
use Rattle.ack.proofs.Answering.{answer_ten_stopped, answer_ten_passed}
use Rattle.ack.proofs.Promises.{written_of, written_is, written_aa}

abbrev number_of : Told → ℕ
number_of t = t.number

-- ---- findings
-- a header finding is no
pub aa_header : (h : Header) (others : List Finding) → any_wrong h ≡ true → gets_aa (header_or h others) ≡ false
aa_header h others e = rw e (ap not (header_faults h ∙ e))

-- a finding of another severity than I
abbrev pub is_other : Finding → Bool
is_other f = not (eqb f.severity (code "I"))

-- where there is none, none is E or W
none-fault : (l : List Finding) → has is_other l ≡ false → has is_fault l ≡ false
unfolding has
none-fault [] e = refl
none-fault (f ∷ l) e =
    let both = or_neither (is_other f) (has is_other l) e in
    let is : f.severity ≡ code "I" = eqb-true _ _ (not-false _ both.0) in
    rw (is, none-fault l both.1)

-- ---- the ways out of the call
module _ (m b stamp : List ℕ) where
  pub lamp_stopped : passes (ten_rows m b stamp) ≡ false → lamp_of m b stamp ≡ first_row (ten_rows m b stamp)
  unfolding lamp_of
  lamp_stopped e = rw e

  pub lamp_passed : passes (ten_rows m b stamp) ≡ true → lamp_of m b stamp ≡ yes_or_no (gets_aa (findings_for m b))
  unfolding lamp_of
  lamp_passed e = rw e

  pub lamp_refused : {a : Refusal} → AdmitsStamped m b stamp (Err a) → refusal_told a ≡ lamp_of m b stamp
  lamp_refused w = w.told_is ∙ sym (lamp_stopped (ne_eqb _ 0 (refused-some w)))

  pub lamp_admitted : {t : Terms} {aa : Bool} {detail : ℕ} → AdmitsStamped m b stamp (Ok t) → aa ≡ gets_aa (findings_in b t.section t.header m) → detail ≡ cond aa 1 0 → told 0 detail ≡ lamp_of m b stamp
  lamp_admitted {t} w is one =
      let by = admitted_by m b (stamped_admitted m b stamp w) in
      rw (one, is, listed m b t.section by.opens by.reads, lamp_passed (stamped_passes m b stamp w))

-- any two answers that the contract of `lamp` allows are equal
pub lamp_once : {t : Told} {a a' : Answer} → paper a ≡ t → paper a' ≡ t → a ≡ a'
lamp_once {a = a} {a'} p q = paper_once a a' (p ∙ sym q)

-- ---- it is what the full grading says
-- what grading gave, a refusal or findings, and a stamp
abbrev pub lamp_from : Graded → (stamp : List ℕ) → Told
lamp_from g stamp = cond (eqb g.told.number 0) (cond (is_stamp stamp) (yes_or_no (gets_aa g.findings)) (told 10 0)) g.told

pub lamp_grades : (m b stamp : List ℕ) → lamp_of m b stamp ≡ lamp_from (grade_of m b) stamp
unfolding lamp_of grade_of first_row
lamp_grades m b stamp =
    ap (λ (t : Told). cond (eqb t.number 0) (yes_or_no (gets_aa (findings_for m b))) t) (ten_first m b stamp)
    ∙ by (passes (admit_rows m b)) (is_stamp stamp) refl
  where
    first : (passed right : Bool) → Told
    first passed right = cond passed (cond (not right) (told 10 0) (told 0 0)) (first_row (admit_rows m b))

    by : (passed right : Bool) → passes (admit_rows m b) ≡ passed
        → cond (eqb (first passed right).number 0) (yes_or_no (gets_aa (findings_for m b))) (first passed right)
        ≡ cond passed (cond right (yes_or_no (gets_aa (cond passed (findings_for m b) []))) (told 10 0)) (first_row (admit_rows m b))
    by true true e = refl
    by true false e = refl
    by false right e = rw e

-- ---- exactly when
module _ (m b stamp : List ℕ) where
  -- the number is that of the first row
  lamp_number : (lamp_of m b stamp).number ≡ (first_row (ten_rows m b stamp)).number
  unfolding lamp_of
  lamp_number = by (passes (ten_rows m b stamp)) refl
    where
      by : (passed : Bool) → passes (ten_rows m b stamp) ≡ passed → (cond passed (yes_or_no (gets_aa (findings_for m b))) (first_row (ten_rows m b stamp))).number ≡ (first_row (ten_rows m b stamp)).number
      by true e = sym (eqb-true _ 0 e)
      by false e = refl

  pub lamp_passes : (lamp_of m b stamp).number ≡ 0 → passes (ten_rows m b stamp) ≡ true
  lamp_passes e = eq-eqb _ 0 (sym lamp_number ∙ e)

  -- it is k + 1 exactly when row k, from 0, is the first of the ten to hold
  pub lamp_exactly : (k : ℕ) → k < 10 → ((lamp_of m b stamp).number ≡ get_or (1 ∷ 2 ∷ 3 ∷ 4 ∷ 5 ∷ 6 ∷ 7 ∷ 8 ∷ 9 ∷ 10 ∷ []) k 0) ↔ First (ten_rows m b stamp) k
  unfolding admit_rows message_rows form_rows book_rows numbers_of
  lamp_exactly k h =
      let law = row-exactly (ten_rows m b stamp) (ten_apart m b stamp) k h in
      (λ e. law.0 (sym lamp_number ∙ e), λ f. lamp_number ∙ law.1 f)

  -- and 0 exactly when none holds
  pub lamp_answered : ((lamp_of m b stamp).number ≡ 0) ↔ ((i : ℕ) → holds_at (ten_rows m b stamp) i ≡ false)
  lamp_answered =
      let law = none-exactly (ten_rows m b stamp) (ten_apart m b stamp) in
      (λ e. law.0 (sym lamp_number ∙ e), λ none. lamp_number ∙ law.1 none)

  lamp_says : (fault : Bool) → (lamp_of m b stamp ≡ yes_or_no (not fault)) ↔ ((passes (ten_rows m b stamp) ≡ true) × (has is_fault (findings_for m b) ≡ fault))
  lamp_says fault = (
    λ e. let p = lamp_passes (ap number_of e) in (p, same _ fault (ap (λ (t : Told). t.detail) (sym (lamp_passed m b stamp p) ∙ e))),
    λ is. lamp_passed m b stamp is.0 ∙ ap (λ (x : Bool). yes_or_no (not x)) is.1,
  )
    where
      same : (x y : Bool) → (yes_or_no (not x)).detail ≡ (yes_or_no (not y)).detail → x ≡ y
      same true true e = refl
      same true false e = absurd (omega (arith, e))
      same false true e = absurd (omega (arith, e))
      same false false e = refl

  -- yes exactly when no row holds and no finding is E or W
  pub lamp_yes : (lamp_of m b stamp ≡ told 0 1) ↔ ((passes (ten_rows m b stamp) ≡ true) × (has is_fault (findings_for m b) ≡ false))
  lamp_yes = lamp_says false

  -- no exactly when no row holds and one is
  pub lamp_no : (lamp_of m b stamp ≡ told 0 0) ↔ ((passes (ten_rows m b stamp) ≡ true) × (has is_fault (findings_for m b) ≡ true))
  lamp_no = lamp_says true

  module _ (passed : passes (ten_rows m b stamp) ≡ true) where
    -- a header finding is no
    pub lamp_header : any_wrong (header_of (delims_of m) (msh_of m)) ≡ true → lamp_of m b stamp ≡ told 0 0
    unfolding findings_by
    lamp_header e = lamp_passed m b stamp passed ∙ ap yes_or_no (aa_header (header_of (delims_of m) (msh_of m)) _ e)

    -- findings that are all I are yes
    pub lamp_informational : has is_other (findings_for m b) ≡ false → lamp_of m b stamp ≡ told 0 1
    lamp_informational e = lamp_yes.1 (passed, none-fault (findings_for m b) e)

  -- no answer is larger than this
  pub lamp_bounded : ((lamp_of m b stamp).number < 11) × ((lamp_of m b stamp).detail ≤ message_limit + 1)
  unfolding lamp_of
  lamp_bounded = by (passes (ten_rows m b stamp)) (gets_aa (findings_for m b))
    where
      Small : Told → Type 0
      Small t = (t.number < 11) × (t.detail ≤ message_limit + 1)

      by : (passed aa : Bool) → Small (cond passed (yes_or_no aa) (first_row (ten_rows m b stamp)))
      by true true = (omega arith, omega arith)
      by true false = (omega arith, omega arith)
      by false aa = ten_bounded m b stamp

-- ---- beside the answer
module _ (m b stamp : List ℕ) (control : ℕ) (out : List ℕ) where
  abbrev answered : Told
  answered = (answer_of m b stamp control out).told

  -- where rows 1 to 10 let a message pass, it is answered by 0 or by 11
  passed-number : passes (ten_rows m b stamp) ≡ true → (n : ℕ) → 0 < n → n < 11 → answered.number ≡ n → ⊥
  unfolding first_row
  passed-number e n some few is = by (ltb (length out) (length (ack_for m b stamp control))) (sym (ap (λ (o : Outcome). o.told.number) (answer_ten_passed m b stamp control out e)) ∙ is)
    where
      ack : List ℕ
      ack = ack_for m b stamp control

      by : (short : Bool) → (outcome_by (first_row (record { holds = short; tells = told 11 (length ack) } ∷ [])) ack out).told.number ≡ n → ⊥
      by true w = omega (arith, w)
      by false w = omega (arith, w)

  -- refusals 1 to 10: the same number and the same detail, for an output of any length
  pub lamp_refuses : (n d : ℕ) → 0 < n → n < 11 → (lamp_of m b stamp ≡ told n d) ↔ (answered ≡ told n d)
  lamp_refuses n d some few = by (passes (ten_rows m b stamp)) refl
    where
      by : (passed : Bool) → passes (ten_rows m b stamp) ≡ passed → (lamp_of m b stamp ≡ told n d) ↔ (answered ≡ told n d)
      by true e = (
        λ is. absurd (omega (arith, some, ap number_of (sym (lamp_passed m b stamp e) ∙ is))),
        λ is. absurd (passed-number e n some few (ap number_of is)),
      )
      by false e =
          let lamp = lamp_stopped m b stamp e in
          let full = ap (λ (o : Outcome). o.told) (answer_ten_stopped m b stamp control out e) in
          (λ is. full ∙ sym lamp ∙ is, λ is. lamp ∙ sym full ∙ is)

  -- where the lamp does not refuse, only the output can be too short
  pub lamp_answers : (lamp_of m b stamp).number ≡ 0 → answer_of m b stamp control out ≡ short_or (ack_for m b stamp control) out
  lamp_answers e = answer_ten_passed m b stamp control out (lamp_passes m b stamp e)

  answered-passes : answered.number ≡ 0 → passes (ten_rows m b stamp) ≡ true
  answered-passes none = by (passes (ten_rows m b stamp)) refl
    where
      by : (passed : Bool) → passes (ten_rows m b stamp) ≡ passed → passed ≡ true
      by true e = refl
      by false e = absurd ((ten_refuses m b stamp e).0 (sym (ap (λ (o : Outcome). o.told.number) (answer_ten_stopped m b stamp control out e)) ∙ none))

  -- yes exactly when the ACK that was written says AA
  pub lamp_aa : answered.number ≡ 0 → (lamp_of m b stamp ≡ told 0 1) ↔ ((place (delims_of m) (written_of (answer_of m b stamp control out)) 2 1 1 0).bytes ≡ bytes "AA")
  lamp_aa none =
      let law = lamp_yes m b stamp in
      let full = written_aa m b stamp control out none in
      (λ e. full.1 (law.0 e).1, λ e. law.1 (answered-passes none, full.0 e))

-- and when the ACK says so that an output of another length would hold
pub lamp_any : (m b stamp : List ℕ) (control : ℕ) → (lamp_of m b stamp).number ≡ 0 → (lamp_of m b stamp ≡ told 0 1) ↔ ((place (delims_of m) (ack_for m b stamp control) 2 1 1 0).bytes ≡ bytes "AA")
unfolding first_row
lamp_any m b stamp control e =
    let ack = ack_for m b stamp control in
    let fits : (short_or ack ack).told.number ≡ 0 = rw (le-ltb (length ack) (length ack) (omega arith)) in
    let none = ap (λ (o : Outcome). o.told.number) (lamp_answers m b stamp control ack e) ∙ fits in
    subst (λ (l : List ℕ). (lamp_of m b stamp ≡ told 0 1) ↔ ((place (delims_of m) l 2 1 1 0).bytes ≡ bytes "AA")) (written_is m b stamp control ack none).0 (lamp_aa m b stamp control ack none)
