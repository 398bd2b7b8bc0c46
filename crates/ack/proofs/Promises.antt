-- What `answer_of` says: each refusal exactly when its row is the first to hold; and of the bytes that are written, read by the definitions for any message,
-- that they are MSH, MSA and one ERR for each finding that the section has, in order, with AA in MSA-1 exactly when no finding is E or W. Assumes nothing.
use mathlib.Core.Path.{◌≡◌, refl, sym, ap, subst, subst⁻¹, ◌∙◌}
use mathlib.Core.Bool.{Bool, true, false, cond, true≢false}
use mathlib.Core.Logic.{◌↔◌}
use mathlib.Core.List.{List, [], ◌∷◌, ◌++◌, map}
use Prim.Native.Nat.{ℕ, ◌+◌, ◌*◌, ◌^◌, ◌≤◌, ◌<◌}
use Prim.Native.Char.{code}
use native.Mathlib.Omega.{arith}
use native.Mathlib.Decide.{ℕ_discrete}
use lib.Dec.{ltb}
use lib.ListN.{length, get_or, take, drop, length-append, length-drop}
use lib.Seq.{take_at, drop_at}
use borrow.Author.Tests.{ltb-false, not-false}
use Rattle.hl7.specs.Text.{bytes}
use Rattle.hl7.specs.Bytes.{is_in, distinct}
use Rattle.hl7.specs.Place.{carriage_return, delims_of, nth_of, cut_unless, segments_of, place}
use Rattle.hl7.specs.Delimiters.{opens}
use Rattle.hl7.specs.Refusals.{Told, told, first_row, passes, numbers_of, apart, holds_at, First, message_rows, form_rows}
use Rattle.hl7.proofs.Cutting.{part-short}
use Rattle.hl7.proofs.Delimiting.{Delimiting, opens_delimiting}
use Rattle.grade.specs.Values.{is_stamp}
use Rattle.grade.specs.Order.{may_follow}
use Rattle.grade.specs.Findings.{findings, Demand3}
use Rattle.grade.specs.Header.{msh_of, header_of, any_wrong, header_findings}
use Rattle.grade.specs.Admission.{book_rows, admit_rows, ten_rows}
use Rattle.grade.specs.Grading.{section_for, findings_by, findings_for}
use Rattle.grade.specs.declared.header.Header.{Header}
use Rattle.grade.specs.declared.finding.Finding.{Finding}
use Rattle.grade.proofs.Demand3.{findings_meet}
use Rattle.grade.proofs.Grading.{listed}
use Rattle.grade.proofs.Admitting.{admitted_by, admitted_short, admits_passed, ten_passes, ten_bounded}
use Rattle.grade.specs.Deciding.{has, is_header, is_fault}
use Rattle.ack.specs.Layout.{msh_line, msa_line, err_line, ack_lines}
use Rattle.ack.specs.Answers.{Outcome, outcome, outcome_by, ack_for, answer_rows, answer_of}
use Rattle.ack.specs.Pieces.{short_or}
use Rattle.ack.proofs.Sizes.{ack_size}
use Rattle.ack.proofs.Admitting.{stamp-length, admitted_long, admitted_within}
use Rattle.ack.proofs.Listing.{graded-plain, header-told, header_faults, header-verdict}
use Rattle.ack.proofs.Answering.{number_is, refused-is, written_is as ack-is, table-exactly, table_none, answer_ten_stopped, answer_ten_passed}
use Rattle.ack.proofs.Texts.{text-clean, stamp-text, listed-text}
use Rattle.ack.proofs.Reading.{Clean, part_without, ack_delims, ack-segments, ar_exactly, ae_exactly, aa_exactly}

-- ---- what is listed
-- a finding about the header is an E
header_errors : (h : Header) → has is_header (header_findings h) ≡ true → has is_fault (header_findings h) ≡ true
header_errors h e = header_faults h ∙ sym (header-told h) ∙ e

module _ (m b : List ℕ) where
  listed_errors : has is_header (findings_for m b) ≡ true → has is_fault (findings_for m b) ≡ true
  unfolding findings_by
  listed_errors = of (any_wrong (header_of (delims_of m) (msh_of m)))
    where
      listed : Bool → List Finding
      listed wrong = cond wrong (header_findings (header_of (delims_of m) (msh_of m))) (findings may_follow (section_for m b).rules (section_for m b).sets m)

      of : (wrong : Bool) → has is_header (listed wrong) ≡ true → has is_fault (listed wrong) ≡ true
      of true = header_errors (header_of (delims_of m) (msh_of m))
      of false = λ e. absurd (true≢false (sym e ∙ graded-plain may_follow (section_for m b).rules (section_for m b).sets m))

-- ---- which result
module _ (m b stamp : List ℕ) (control : ℕ) (out : List ℕ) where
  -- the eleven rows, by their numbers
  pub rows-numbers : numbers_of (answer_rows m b stamp control out) ≡ 1 ∷ 2 ∷ 3 ∷ 4 ∷ 5 ∷ 6 ∷ 7 ∷ 8 ∷ 9 ∷ 10 ∷ 11 ∷ []
  unfolding admit_rows message_rows form_rows book_rows numbers_of
  rows-numbers = refl

  rows_apart : apart (numbers_of (answer_rows m b stamp control out)) ≡ true
  unfolding distinct is_in
  rows_apart = rw rows-numbers

  -- the number is k + 1 exactly when row k, from 0, is the first of the eleven to hold
  pub refusal-exactly : (k : ℕ) → k < 11 → ((answer_of m b stamp control out).told.number ≡ get_or (1 ∷ 2 ∷ 3 ∷ 4 ∷ 5 ∷ 6 ∷ 7 ∷ 8 ∷ 9 ∷ 10 ∷ 11 ∷ []) k 0) ↔ First (answer_rows m b stamp control out) k
  unfolding answer_of admit_rows message_rows form_rows book_rows numbers_of
  refusal-exactly k h = table-exactly (answer_rows m b stamp control out) rows_apart (ack_for m b stamp control) out k h

  -- and 0 exactly when none holds
  pub answered-exactly : ((answer_of m b stamp control out).told.number ≡ 0) ↔ ((i : ℕ) → holds_at (answer_rows m b stamp control out) i ≡ false)
  unfolding answer_of
  answered-exactly = table_none (answer_rows m b stamp control out) rows_apart (ack_for m b stamp control) out

  first-number : (answer_of m b stamp control out).told.number ≡ (first_row (answer_rows m b stamp control out)).number
  unfolding answer_of
  first-number = number_is (first_row (answer_rows m b stamp control out)) (ack_for m b stamp control) out

  -- a refusal alters no byte
  pub refusal_alters_nothing : ((answer_of m b stamp control out).told.number ≡ 0 → ⊥) → (answer_of m b stamp control out).output ≡ out
  unfolding answer_of
  refusal_alters_nothing some = ap (λ (o : Outcome). o.output) (refused-is (first_row (answer_rows m b stamp control out)) (ack_for m b stamp control) out (λ e. some (first-number ∙ e)))

-- ---- what was written
msh-clean : (m : List ℕ) → Clean (msh_of m)
unfolding nth_of cut_unless
msh-clean m = part_without carriage_return m 0

-- the bytes that hold the ACK: the first of the output, as many as the detail says
abbrev pub written_of : Outcome → List ℕ
written_of o = take o.told.detail o.output

module _ (m b stamp : List ℕ) (control : ℕ) (out : List ℕ) (answered : (answer_of m b stamp control out).told.number ≡ 0) where
  stamp-right : is_stamp stamp ≡ true
  unfolding admit_rows message_rows form_rows book_rows
  stamp-right = not-false (is_stamp stamp) ((answered-exactly m b stamp control out).0 answered 9)

  -- row 4 does not hold
  own_delimiting : Delimiting (delims_of m)
  unfolding admit_rows message_rows form_rows book_rows
  own_delimiting = opens_delimiting (bytes "MSH") m (not-false (opens (bytes "MSH") m) ((answered-exactly m b stamp control out).0 answered 3))

  whole : answer_of m b stamp control out ≡ outcome (told 0 (length (ack_for m b stamp control))) (ack_for m b stamp control ++ drop (length (ack_for m b stamp control)) out)
  unfolding answer_of
  whole = ack-is (first_row (answer_rows m b stamp control out)) (ack_for m b stamp control) out (sym (first-number m b stamp control out) ∙ answered)

  -- the first bytes are the ACK, and all later ones are as they were
  pub written_is : (written_of (answer_of m b stamp control out) ≡ ack_for m b stamp control) × (drop (answer_of m b stamp control out).told.detail (answer_of m b stamp control out).output ≡ drop (length (ack_for m b stamp control)) out)
  written_is = (rw whole (take_at (ack_for m b stamp control) _ _ refl), rw whole (drop_at (ack_for m b stamp control) _ _ refl))

  written-length : length (answer_of m b stamp control out).output ≡ length out
  unfolding admit_rows message_rows form_rows book_rows
  written-length =
      let fits = ltb-false (length out) (length (ack_for m b stamp control)) ((answered-exactly m b stamp control out).0 answered 10) in
      rw whole (simp (length-append, length-drop) (omega arith))

  -- it has the message's own delimiters
  pub written_delims : delims_of (written_of (answer_of m b stamp control out)) ≡ delims_of m
  written_delims = ap delims_of written_is.0 ∙ ack_delims (delims_of m) (msh_of m) stamp control (findings_for m b)

  -- its segments are MSH, MSA and one ERR for each finding, in order
  pub written-segments : segments_of (written_of (answer_of m b stamp control out)) ≡ ack_lines (delims_of m) (msh_of m) stamp control (findings_for m b)
  written-segments =
      ap segments_of written_is.0
      ∙ ack-segments (delims_of m) own_delimiting (msh_of m) stamp control (findings_for m b) (msh-clean m) (text-clean stamp (stamp-text stamp stamp-right)) (listed-text m b)

  -- MSA-1, read as the first field of the second segment
  pub written_aa : ((place (delims_of m) (written_of (answer_of m b stamp control out)) 2 1 1 0).bytes ≡ bytes "AA") ↔ (has is_fault (findings_for m b) ≡ false)
  written_aa =
      rw written_is.0
      (aa_exactly (delims_of m) own_delimiting (msh_of m) stamp control (findings_for m b) (msh-clean m) (text-clean stamp (stamp-text stamp stamp-right)) (listed-text m b) (listed_errors m b))

  pub written_ar : ((place (delims_of m) (written_of (answer_of m b stamp control out)) 2 1 1 0).bytes ≡ bytes "AR") ↔ (has is_header (findings_for m b) ≡ true)
  written_ar =
      rw written_is.0
      (ar_exactly (delims_of m) own_delimiting (msh_of m) stamp control (findings_for m b) (msh-clean m) (text-clean stamp (stamp-text stamp stamp-right)) (listed-text m b))

  pub written_ae : ((place (delims_of m) (written_of (answer_of m b stamp control out)) 2 1 1 0).bytes ≡ bytes "AE") ↔ ((has is_header (findings_for m b) ≡ false) × (has is_fault (findings_for m b) ≡ true))
  written_ae =
      rw written_is.0
      (ae_exactly (delims_of m) own_delimiting (msh_of m) stamp control (findings_for m b) (msh-clean m) (text-clean stamp (stamp-text stamp stamp-right)) (listed-text m b))

  -- where a header check fails, the ACK is MSH, MSA with AR, and one ERR for each check that fails, in order
  pub refused-header : any_wrong (header_of (delims_of m) (msh_of m)) ≡ true
      → segments_of (written_of (answer_of m b stamp control out))
      ≡ msh_line (delims_of m) (msh_of m) stamp control ∷ msa_line (delims_of m) (msh_of m) (code "R") ∷ map (err_line (delims_of m)) (header_findings (header_of (delims_of m) (msh_of m)))
  unfolding findings_by
  refused-header wrong =
      let all : findings_for m b ≡ header_findings (header_of (delims_of m) (msh_of m)) = rw wrong in
      written-segments ∙ rw (all, header-verdict (header_of (delims_of m) (msh_of m)) wrong)

-- the output is as long as it was
pub output-length : (m b stamp : List ℕ) (control : ℕ) (out : List ℕ) → length (answer_of m b stamp control out).output ≡ length out
output-length m b stamp control out = by (ℕ_discrete (answer_of m b stamp control out).told.number 0)
  where
    by : Dec ((answer_of m b stamp control out).told.number ≡ 0) → length (answer_of m b stamp control out).output ≡ length out
    by (yes e) = written-length m b stamp control out e
    by (no some) = ap length (refusal_alters_nothing m b stamp control out some)

-- ---- how large an answer can be
msh-within : (m : List ℕ) → length (msh_of m) ≤ length m
unfolding nth_of cut_unless
msh-within m = part-short carriage_return m 0

-- a message that passes rows 1 to 9 is short, and its findings are few for each byte
module _ (m b stamp : List ℕ) (control : ℕ) (e : (first_row (admit_rows m b)).number ≡ 0) where
  listed-within : length (findings_for m b) ≤ (length m + 1) * (257 * 32769)
  listed-within =
      let is = admits_passed m b e in
      let by = admitted_by m b is in
      subst (λ (l : List Finding). length l ≤ (length m + 1) * (257 * 32769)) (listed m b _ by.opens by.reads) (admitted_within m b is)

  -- so its ACK is longer than the message by this factor at most
  pub ack-within : is_stamp stamp ≡ true → length (ack_for m b stamp control) ≤ length m * 2 ^ 32
  ack-within right =
      let is = admits_passed m b e in
      omega (arith, ack_size (delims_of m) (msh_of m) stamp control (findings_for m b), msh-within m, stamp-length stamp right, listed-within, admitted_long m b is)

module _ (m b stamp : List ℕ) (control : ℕ) (out : List ℕ) where
  -- no detail reaches 2 ^ 48, and no number 12
  pub answer_bounded : ((answer_of m b stamp control out).told.number < 12) × ((answer_of m b stamp control out).told.detail ≤ 2 ^ 48)
  unfolding first_row
  answer_bounded = by (passes (ten_rows m b stamp)) refl
    where
      Small : Told → Type 0
      Small t = (t.number < 12) × (t.detail ≤ 2 ^ 48)

      ack : List ℕ
      ack = ack_for m b stamp control

      -- row 11, or the ACK
      last : length ack ≤ 2 ^ 48 → Small (short_or ack out).told
      last h = by (ltb (length out) (length ack))
        where
          by : (short : Bool) → Small (outcome_by (cond short (told 11 (length ack)) (told 0 0)) ack out).told
          by true = (omega arith, h)
          by false = (omega arith, h)

      by : (passed : Bool) → passes (ten_rows m b stamp) ≡ passed → Small (answer_of m b stamp control out).told
      by true e =
          let right = ten_passes m b stamp e in
          rw (answer_ten_passed m b stamp control out e) (last (omega (arith, ack-within m b stamp control right.0 right.1, admitted_short m b (admits_passed m b right.0))))
      by false e = let told = ten_bounded m b stamp in rw (answer_ten_stopped m b stamp control out e) (omega arith, omega arith)

-- ---- demand 3
-- where the header is accepted, the ACK's segments after MSH and MSA are one ERR for each event that breaks the order or a rule of the section that the
-- message names: none left out, none twice, none besides, in order
pub record MeetsDemand3 (m b stamp : List ℕ) (control : ℕ) (ack : List ℕ) : Type 0 where
  pub found : List Finding
  pub segments : segments_of ack ≡ ack_lines (delims_of m) (msh_of m) stamp control found
  pub demand : Demand3 may_follow (section_for m b).rules (section_for m b).sets m found

pub demand_3 : (m b stamp : List ℕ) (control : ℕ) (out : List ℕ) → (answer_of m b stamp control out).told.number ≡ 0 → any_wrong (header_of (delims_of m) (msh_of m)) ≡ false
    → MeetsDemand3 m b stamp control (written_of (answer_of m b stamp control out))
unfolding findings_by
demand_3 m b stamp control out answered accepted =
    let graded : findings_for m b ≡ findings may_follow (section_for m b).rules (section_for m b).sets m = rw accepted in
    record {
      found = findings_for m b;
      segments = written-segments m b stamp control out answered;
      demand = subst⁻¹ (Demand3 may_follow (section_for m b).rules (section_for m b).sets m) graded (findings_meet may_follow (section_for m b).rules (section_for m b).sets m);
    }
