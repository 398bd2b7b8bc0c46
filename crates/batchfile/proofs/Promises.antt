-- What `batch_of` says: each refusal exactly when its row is the first to hold, the lowest ordinal, and of the bytes that are written that they are the joined
-- ACKs, each what its message alone is answered, whatever its neighbours are. Assumes nothing.
use mathlib.Core.Path.{◌≡◌, refl, sym, ap, ap₂, subst, ◌∙◌}
use mathlib.Core.Bool.{Bool, true, false, cond, true≢false}
use mathlib.Core.Logic.{◌↔◌}
use mathlib.Core.List.{List, [], ◌∷◌, ◌++◌, append_assoc}
use Prim.Native.Nat.{ℕ, zero, suc, ◌+◌, ◌≤◌, ◌<◌}
use native.Mathlib.Omega.{arith}
use lib.Dec.{ltb}
use lib.ListN.{length, get_or, take, drop, length-append}
use lib.Seq.{take_at, drop_at}
use borrow.Author.Tests.{le-ltb, not-false}
use Rattle.hl7.specs.Bytes.{is_in, distinct}
use Rattle.hl7.specs.Cut.{part_at}
use Rattle.hl7.specs.Place.{delims_of}
use Rattle.hl7.specs.Refusals.{Told, told, is_some, first_row, passes, numbers_of, apart, holds_at, First}
use Rattle.grade.specs.Header.{msh_of, header_of, any_wrong}
use Rattle.grade.specs.Admission.{ten_rows, Answer}
use Rattle.ack.specs.Answers.{Outcome, outcome, outcome_by, ack_for, answer_of, Gives}
use Rattle.ack.proofs.Answering.{gives_once, number_is, refused-is, written_is, table-exactly, table_none, answer_ten_passed}
use Rattle.ack.proofs.Promises.{written_of, MeetsDemand3, demand_3}
use Rattle.batchfile.specs.Frame.{messages_in}
use Rattle.batchfile.specs.Batch.{is_wrong, meets_one, refused_from, acks_from, batch_rows, batch_of}

-- ---- which result
module _ (f book stamp : List ℕ) (control : ℕ) (out : List ℕ) where
  -- any two results that the contract allows are equal
  pub batch_once : {a a' : Answer} {after after' : List ℕ} → Gives a after (batch_of f book stamp control out) → Gives a' after' (batch_of f book stamp control out) → (a ≡ a') × (after ≡ after')
  batch_once = gives_once

  rows_apart : apart (numbers_of (batch_rows f book stamp control out)) ≡ true
  unfolding numbers_of distinct is_in
  rows_apart = refl

  -- the number is 14, 15 or 11 exactly when that row is the first of the three to hold
  pub batch_exactly : (k : ℕ) → k < 3 → ((batch_of f book stamp control out).told.number ≡ get_or (14 ∷ 15 ∷ 11 ∷ []) k 0) ↔ First (batch_rows f book stamp control out) k
  unfolding batch_of numbers_of
  batch_exactly k h = table-exactly (batch_rows f book stamp control out) rows_apart (acks_from book stamp control (messages_in f)) out k h

  -- and 0 exactly when none holds
  pub batch_answered : ((batch_of f book stamp control out).told.number ≡ 0) ↔ ((i : ℕ) → holds_at (batch_rows f book stamp control out) i ≡ false)
  unfolding batch_of
  batch_answered = table_none (batch_rows f book stamp control out) rows_apart (acks_from book stamp control (messages_in f)) out

  first-number : (batch_of f book stamp control out).told.number ≡ (first_row (batch_rows f book stamp control out)).number
  unfolding batch_of
  first-number = number_is (first_row (batch_rows f book stamp control out)) (acks_from book stamp control (messages_in f)) out

  -- a refusal alters no byte
  pub batch_alters_nothing : ((batch_of f book stamp control out).told.number ≡ 0 → ⊥) → (batch_of f book stamp control out).output ≡ out
  unfolding batch_of
  batch_alters_nothing some = ap (λ (o : Outcome). o.output) (refused-is (first_row (batch_rows f book stamp control out)) (acks_from book stamp control (messages_in f)) out (λ e. some (first-number ∙ e)))

  -- a batch without messages: no bytes, and neither book nor stamp nor output is looked at
  pub empty_batch : is_wrong f control ≡ false → messages_in f ≡ [] → batch_of f book stamp control out ≡ outcome (told 0 0) out
  unfolding batch_of first_row refused_from acks_from
  empty_batch right none = rw (right, none, le-ltb (length out) 0 (omega arith))

-- ---- the lowest ordinal
-- the message with an ordinal, counted from n, is the first of some messages to meet one of 1 to 10
pub record Lowest (book stamp : List ℕ) (n : ℕ) (ms : List (List ℕ)) (ordinal : ℕ) : Type 0 where
  pub place : ℕ
  pub counted : ordinal ≡ n + place
  pub within : place < length ms
  pub meets : meets_one book stamp (part_at ms place) ≡ true
  pub none_before : (i : ℕ) → i < place → meets_one book stamp (part_at ms i) ≡ false

lowest_from : (book stamp : List ℕ) (n : ℕ) (ms : List (List ℕ)) → is_some (refused_from book stamp n ms) ≡ true → Lowest book stamp n ms (get_or (refused_from book stamp n ms) 0 0)
unfolding refused_from
lowest_from book stamp n [] some = absurd (true≢false (sym some))
lowest_from book stamp n (m ∷ ms) some = by (meets_one book stamp m) refl some (lowest_from book stamp (suc n) ms)
  where
    rest : List ℕ
    rest = refused_from book stamp (suc n) ms

    by : (b : Bool) → meets_one book stamp m ≡ b → is_some (cond b (n ∷ rest) rest) ≡ true → (is_some rest ≡ true → Lowest book stamp (suc n) ms (get_or rest 0 0))
        → Lowest book stamp n (m ∷ ms) (get_or (cond b (n ∷ rest) rest) 0 0)
    by true e some ih = record { place = 0; counted = omega arith; within = omega arith; meets = e; none_before = λ i h. absurd (omega arith) }
    by false e some ih =
        let later = ih some in
        record {
          place = suc later.place;
          counted = omega (arith, later.counted);
          within = omega (arith, later.within);
          meets = later.meets;
          none_before = before later.place later.none_before;
        }
      where
        before : (place : ℕ) → ((i : ℕ) → i < place → meets_one book stamp (part_at ms i) ≡ false) → (i : ℕ) → i < suc place → meets_one book stamp (part_at (m ∷ ms) i) ≡ false
        before place none zero h = e
        before place none (suc i) h = none i (omega arith)

-- where no message meets one, none among them does
none-among : (book stamp : List ℕ) (n : ℕ) (before : List (List ℕ)) (m : List ℕ) (after : List (List ℕ)) → refused_from book stamp n (before ++ (m ∷ after)) ≡ [] → meets_one book stamp m ≡ false
unfolding refused_from
none-among book stamp n [] m after none = by (meets_one book stamp m) none
  where
    by : (b : Bool) → cond b (n ∷ refused_from book stamp (suc n) after) (refused_from book stamp (suc n) after) ≡ [] → b ≡ false
    by true none = absurd (omega (arith, ap length none))
    by false none = refl
none-among book stamp n (x ∷ before) m after none = by (meets_one book stamp x) none (none-among book stamp (suc n) before m after)
  where
    rest : List ℕ
    rest = refused_from book stamp (suc n) (before ++ (m ∷ after))

    by : (b : Bool) → cond b (n ∷ rest) rest ≡ [] → (rest ≡ [] → meets_one book stamp m ≡ false) → meets_one book stamp m ≡ false
    by true none ih = absurd (omega (arith, ap length none))
    by false none ih = ih none

-- ---- what was written
-- the ACKs of some messages, then those of others
acks-append : (book stamp : List ℕ) (control : ℕ) (before after : List (List ℕ)) → acks_from book stamp control (before ++ after) ≡ acks_from book stamp control before ++ acks_from book stamp (control + length before) after
unfolding acks_from
acks-append book stamp control [] after = ap (λ (c : ℕ). acks_from book stamp c after) (omega arith)
acks-append book stamp control (m ∷ before) after =
    let next : suc control + length before ≡ control + suc (length before) = omega arith in
    ap (λ (l : List ℕ). ack_for m book stamp control ++ l) (acks-append book stamp (suc control) before after ∙ ap (λ (c : ℕ). acks_from book stamp (suc control) before ++ acks_from book stamp c after) next)
    ∙ sym (append_assoc (ack_for m book stamp control) (acks_from book stamp (suc control) before) (acks_from book stamp (control + suc (length before)) after))

-- each message answered alone, into an output of its own
unfoldable pub alone_from : (book stamp : List ℕ) → ℕ → List (List ℕ) → (alone : List ℕ) → List ℕ
alone_from book stamp control [] alone = []
alone_from book stamp control (m ∷ ms) alone = written_of (answer_of m book stamp control alone) ++ alone_from book stamp (suc control) ms alone

-- a message that meets none of 1 to 10 is answered alone wherever there is room
module _ (m book stamp : List ℕ) (control : ℕ) (alone : List ℕ) (none : meets_one book stamp m ≡ false) (room : length (ack_for m book stamp control) ≤ length alone) where
  alone_is : answer_of m book stamp control alone ≡ outcome (told 0 (length (ack_for m book stamp control))) (ack_for m book stamp control ++ drop (length (ack_for m book stamp control)) alone)
  unfolding first_row
  alone_is = answer_ten_passed m book stamp control alone (not-false (passes (ten_rows m book stamp)) none) ∙ rw (le-ltb (length alone) (length (ack_for m book stamp control)) room)

  alone_written : written_of (answer_of m book stamp control alone) ≡ ack_for m book stamp control
  alone_written = rw alone_is (take_at (ack_for m book stamp control) _ _ refl)

joined_alone : (book stamp : List ℕ) (n control : ℕ) (ms : List (List ℕ)) (alone : List ℕ) → refused_from book stamp n ms ≡ [] → length (acks_from book stamp control ms) ≤ length alone → acks_from book stamp control ms ≡ alone_from book stamp control ms alone
unfolding acks_from alone_from refused_from
joined_alone book stamp n control [] alone none room = refl
joined_alone book stamp n control (m ∷ ms) alone none room = by (meets_one book stamp m) refl none (joined_alone book stamp (suc n) (suc control) ms alone)
  where
    ack : List ℕ
    ack = ack_for m book stamp control

    rest : List ℕ
    rest = acks_from book stamp (suc control) ms

    by : (b : Bool) → meets_one book stamp m ≡ b → cond b (n ∷ refused_from book stamp (suc n) ms) (refused_from book stamp (suc n) ms) ≡ []
        → (refused_from book stamp (suc n) ms ≡ [] → length rest ≤ length alone → rest ≡ alone_from book stamp (suc control) ms alone) → ack ++ rest ≡ written_of (answer_of m book stamp control alone) ++ alone_from book stamp (suc control) ms alone
    by true e none ih = absurd (omega (arith, ap length none))
    by false e none ih =
        let long = length-append ack rest in
        ap₂ ◌++◌ (sym (alone_written m book stamp control alone e (omega (arith, room, long)))) (ih none (omega (arith, room, long)))

module _ (f book stamp : List ℕ) (control : ℕ) (out : List ℕ) where
  -- 15's detail is the lowest ordinal of a message that meets one of 1 to 10
  pub batch_lowest : (batch_of f book stamp control out).told.number ≡ 15 → Lowest book stamp 1 (messages_in f) (batch_of f book stamp control out).told.detail
  unfolding batch_of first_row
  batch_lowest e =
      let is = by (is_wrong f control) (refused_from book stamp 1 (messages_in f)) (ltb (length out) (length (acks_from book stamp control (messages_in f)))) e in
      subst (λ (n : ℕ). Lowest book stamp 1 (messages_in f) n) (sym is.1) (lowest_from book stamp 1 (messages_in f) is.0)
    where
      tells : Bool → List ℕ → Bool → Told
      tells wrong refused short =
          (outcome_by (cond wrong (told 14 0) (cond (is_some refused) (told 15 (get_or refused 0 0)) (cond short (told 11 (length (acks_from book stamp control (messages_in f)))) (told 0 0)))) (acks_from book stamp control (messages_in f)) out).told

      by : (wrong : Bool) (refused : List ℕ) (short : Bool) → (tells wrong refused short).number ≡ 15 → (is_some refused ≡ true) × ((tells wrong refused short).detail ≡ get_or refused 0 0)
      by true refused short e = absurd (omega (arith, e))
      by false [] true e = absurd (omega (arith, e))
      by false [] false e = absurd (omega (arith, e))
      by false (x ∷ refused) short e = (refl, refl)

module _ (f book stamp : List ℕ) (control : ℕ) (out : List ℕ) (answered : (batch_of f book stamp control out).told.number ≡ 0) where
  whole : batch_of f book stamp control out ≡ outcome (told 0 (length (acks_from book stamp control (messages_in f)))) (acks_from book stamp control (messages_in f) ++ drop (length (acks_from book stamp control (messages_in f))) out)
  unfolding batch_of
  whole = written_is (first_row (batch_rows f book stamp control out)) (acks_from book stamp control (messages_in f)) out (sym (first-number f book stamp control out) ∙ answered)

  none-refused : refused_from book stamp 1 (messages_in f) ≡ []
  none-refused = by (refused_from book stamp 1 (messages_in f)) refl ((batch_answered f book stamp control out).0 answered 1)
    where
      by : (l : List ℕ) → refused_from book stamp 1 (messages_in f) ≡ l → is_some l ≡ false → refused_from book stamp 1 (messages_in f) ≡ []
      by [] e none = e
      by (x ∷ l) e none = absurd (true≢false none)

  -- the first bytes are the joined ACKs, and all later ones are as they were
  pub batch_joined : (written_of (batch_of f book stamp control out) ≡ acks_from book stamp control (messages_in f)) × (drop (batch_of f book stamp control out).told.detail (batch_of f book stamp control out).output ≡ drop (length (acks_from book stamp control (messages_in f))) out)
  batch_joined = (rw whole (take_at (acks_from book stamp control (messages_in f)) _ _ refl), rw whole (drop_at (acks_from book stamp control (messages_in f)) _ _ refl))

  -- the output is the concatenation of what `answer_of` gives for each message alone with its own control number, in any output that is long enough
  pub batch_alone : (alone : List ℕ) → length (acks_from book stamp control (messages_in f)) ≤ length alone → written_of (batch_of f book stamp control out) ≡ alone_from book stamp control (messages_in f) alone
  batch_alone alone room = batch_joined.0 ∙ joined_alone book stamp 1 control (messages_in f) alone none-refused room

  -- ---- the ACK of one of the messages
  module _ (before : List (List ℕ)) (m : List ℕ) (after : List (List ℕ)) (are : messages_in f ≡ before ++ (m ∷ after)) where
    -- the bytes where it stands, behind those of the messages before
    abbrev pub part_of : List ℕ
    part_of = take (length (ack_for m book stamp (control + length before))) (drop (length (acks_from book stamp control before)) (written_of (batch_of f book stamp control out)))

    pub part-is : part_of ≡ ack_for m book stamp (control + length before)
    unfolding acks_from
    part-is =
        let ack = ack_for m book stamp (control + length before) in
        let others = acks_from book stamp (suc (control + length before)) after in
        let all : written_of (batch_of f book stamp control out) ≡ acks_from book stamp control before ++ (ack ++ others) = batch_joined.0 ∙ ap (acks_from book stamp control) are ∙ acks-append book stamp control before (m ∷ after) in
        rw (all, drop_at (acks_from book stamp control before) (ack ++ others) (length (acks_from book stamp control before)) refl) (take_at ack others (length ack) refl)

    met_none : meets_one book stamp m ≡ false
    met_none = none-among book stamp 1 before m after (ap (refused_from book stamp 1) (sym are) ∙ none-refused)

    -- it is what demand 3 says of the message alone
    pub batch_demand_3 : any_wrong (header_of (delims_of m) (msh_of m)) ≡ false → MeetsDemand3 m book stamp (control + length before) part_of
    batch_demand_3 accepted =
        let number = control + length before in
        let ack = ack_for m book stamp number in
        let room : length ack ≤ length ack = omega arith in
        let zero-told : (answer_of m book stamp number ack).told.number ≡ 0 = ap (λ (o : Outcome). o.told.number) (alone_is m book stamp number ack met_none room) in
        subst (MeetsDemand3 m book stamp number) (alone_written m book stamp number ack met_none room ∙ sym part-is) (demand_3 m book stamp number ack zero-told accepted)

-- a message's ACK does not change when its neighbours do: in any two files that are answered by the same book and stamp, where it has the same control number
pub batch_neighbours : (book stamp : List ℕ) (f f' : List ℕ) (control control' : ℕ) (out out' : List ℕ)
    (answered : (batch_of f book stamp control out).told.number ≡ 0) (answered' : (batch_of f' book stamp control' out').told.number ≡ 0)
    (before before' : List (List ℕ)) (m : List ℕ) (after after' : List (List ℕ)) (are : messages_in f ≡ before ++ (m ∷ after)) (are' : messages_in f' ≡ before' ++ (m ∷ after'))
    → control + length before ≡ control' + length before'
    → part_of f book stamp control out answered before m after are ≡ part_of f' book stamp control' out' answered' before' m after' are'
batch_neighbours book stamp f f' control control' out out' answered answered' before before' m after after' are are' same =
    part-is f book stamp control out answered before m after are
    ∙ ap (λ (n : ℕ). ack_for m book stamp n) same
    ∙ sym (part-is f' book stamp control' out' answered' before' m after' are')
