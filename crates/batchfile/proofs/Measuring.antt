-- Laws of `specs/Sized.antt`: what the answer to one message tells, and what is known of all when the messages before one are measured. Assumes nothing.
use mathlib.Core.Path.{◌≡◌, refl, sym, ap, subst, ◌∙◌}
use mathlib.Core.Bool.{Bool, true, false, cond}
use mathlib.Core.List.{List, [], ◌∷◌, ◌++◌}
use Rattle.std.specs.Prelude.{Some}
use Prim.Native.Nat.{ℕ, suc, ◌+◌, ◌-◌, ◌*◌, ◌^◌, ◌≤◌, ◌<◌}
use native.Mathlib.Omega.{arith}
use lib.Dec.{ltb}
use lib.ListN.{length, drop, length-take, length-drop, length-append}
use borrow.Author.Tests.{ne_eqb, le-ltb, ltb-false, not-false}
use Rattle.hl7.specs.Refusals.{Told, told, first_row, passes}
use Rattle.hl7.specs.Spans.{between}
use Rattle.grade.specs.Admission.{ten_rows, Answer, paper}
use Rattle.grade.proofs.Admitting.{ten_passes, ten_refuses}
use Rattle.ack.specs.Answers.{Outcome, outcome, outcome_by, ack_for, answer_of, Gives}
use Rattle.ack.specs.Pieces.{short_or}
use Rattle.ack.proofs.Answering.{answer_ten_passed, answer_ten_stopped}
use Rattle.ack.proofs.Promises.{ack-within}
use Rattle.batchfile.specs.Batch.{file_limit, meets_one, refused_from, acks_from}
use Rattle.batchfile.specs.Walk.{gathered_at, messages_at, MessageEnds}
use Rattle.batchfile.specs.Sized.{Starts, is_refusal, measured_told, Measures, Totals, Lowest}

-- ---- one message
-- row 11 and the ACK both tell the ACK's length
short-told : (ack out : List ℕ) → (is_refusal (short_or ack out).told ≡ false) × ((short_or ack out).told.detail ≡ length ack)
unfolding first_row
short-told ack out = by (ltb (length out) (length ack))
  where
    tells : Bool → Told
    tells short = (outcome_by (cond short (told 11 (length ack)) (told 0 0)) ack out).told

    by : (short : Bool) → (is_refusal (tells short) ≡ false) × ((tells short).detail ≡ length ack)
    by true = (refl, refl)
    by false = (refl, refl)

refusal_is : (t : Told) → (t.number ≡ 0 → ⊥) × (t.number ≡ 11 → ⊥) → is_refusal t ≡ true
refusal_is t some = rw (ne_eqb t.number 0 some.0, ne_eqb t.number 11 some.1)

module _ (m book stamp : List ℕ) (control : ℕ) (out : List ℕ) (a : Answer) {after : List ℕ} (g : Gives a after (answer_of m book stamp control out)) where
  tells : paper a ≡ (answer_of m book stamp control out).told
  tells = ap (λ (o : Outcome). o.told) g

  pub measures : Measures m book stamp control (measured_told (paper a))
  measures = by (passes (ten_rows m book stamp)) refl
    where
      by : (passed : Bool) → passes (ten_rows m book stamp) ≡ passed → Measures m book stamp control (measured_told (paper a))
      by true e =
          let is = tells ∙ ap (λ (o : Outcome). o.told) (answer_ten_passed m book stamp control out e) in
          let told_is_lem = short-told (ack_for m book stamp control) out in
          let fine : is_refusal (paper a) ≡ false = ap is_refusal is ∙ told_is_lem.0 in
          let long : (paper a).detail ≡ length (ack_for m book stamp control) = ap (λ (t : Told). t.detail) is ∙ told_is_lem.1 in
          let right = ten_passes m book stamp e in
          rw fine (rw e, long, omega (arith, long, ack-within m book stamp control right.0 right.1))
      by false e =
          let is = tells ∙ ap (λ (o : Outcome). o.told) (answer_ten_stopped m book stamp control out e) in
          let refused : is_refusal (paper a) ≡ true = ap is_refusal is ∙ refusal_is (first_row (ten_rows m book stamp)) (ten_refuses m book stamp e) in
          rw refused (rw e)

  -- where it meets none and there is room
  module _ (none : meets_one book stamp m ≡ false) (room : length (ack_for m book stamp control) ≤ length out) where
    fitting : outcome (paper a) after ≡ outcome (told 0 (length (ack_for m book stamp control))) (ack_for m book stamp control ++ drop (length (ack_for m book stamp control)) out)
    unfolding first_row
    fitting = g ∙ answer_ten_passed m book stamp control out (not-false (passes (ten_rows m book stamp)) none) ∙ rw (le-ltb (length out) (length (ack_for m book stamp control)) room)

    pub writes : ((paper a).detail ≡ length (ack_for m book stamp control)) × (after ≡ ack_for m book stamp control ++ drop (length (ack_for m book stamp control)) out)
    writes = (ap (λ (o : Outcome). o.told.detail) fitting, ap (λ (o : Outcome). o.output) fitting)

    pub writes_zero : (paper a).number ≡ 0
    writes_zero = ap (λ (o : Outcome). o.told.number) fitting

  -- number 0 says both
  pub answered : (paper a).number ≡ 0 → (meets_one book stamp m ≡ false) × (length (ack_for m book stamp control) ≤ length out)
  unfolding first_row
  answered e = by (passes (ten_rows m book stamp)) refl
    where
      ack : List ℕ
      ack = ack_for m book stamp control

      fits : (short : Bool) → ltb (length out) (length ack) ≡ short → (outcome_by (cond short (told 11 (length ack)) (told 0 0)) ack out).told.number ≡ 0 → length ack ≤ length out
      fits true f none = absurd (omega (arith, none))
      fits false f none = ltb-false (length out) (length ack) f

      by : (passed : Bool) → passes (ten_rows m book stamp) ≡ passed → (meets_one book stamp m ≡ false) × (length (ack_for m book stamp control) ≤ length out)
      by true p = (rw p, fits (ltb (length out) (length ack)) refl (sym (ap (λ (o : Outcome). o.told.number) (g ∙ answer_ten_passed m book stamp control out p)) ∙ e))
      by false p = absurd ((ten_refuses m book stamp p).0 (sym (ap (λ (o : Outcome). o.told.number) (g ∙ answer_ten_stopped m book stamp control out p)) ∙ e))

-- ---- one message more
module _ (book stamp : List ℕ) (n : ℕ) {ms : List (List ℕ)} (m : List ℕ) (rest : List (List ℕ)) (e : ms ≡ m ∷ rest) where
  pub refused-here : meets_one book stamp m ≡ true → refused_from book stamp n ms ≡ n ∷ refused_from book stamp (suc n) rest
  unfolding refused_from
  refused-here is = rw (e, is)

  pub refused-later : meets_one book stamp m ≡ false → refused_from book stamp n ms ≡ refused_from book stamp (suc n) rest
  unfolding refused_from
  refused-later passed = rw (e, passed)

  pub acks_more : acks_from book stamp n ms ≡ ack_for m book stamp n ++ acks_from book stamp (suc n) rest
  unfolding acks_from
  acks_more = ap (acks_from book stamp n) e

refused_none : (book stamp : List ℕ) (n : ℕ) {ms : List (List ℕ)} → ms ≡ [] → refused_from book stamp n ms ≡ []
unfolding refused_from
refused_none book stamp n e = rw e

pub acks-none : (book stamp : List ℕ) (control : ℕ) {ms : List (List ℕ)} → ms ≡ [] → acks_from book stamp control ms ≡ []
unfolding acks_from
acks-none book stamp control e = rw e

-- ---- a walk over the messages: k of them are behind `from`
pub record Walked (f : List ℕ) (count from k : ℕ) : Type 0 where
  pub within : from ≤ length f
  pub limited : length f ≤ file_limit
  pub started : (gathered_at f from).before ≡ []
  pub left : k + length (messages_at f from) ≡ count

pub walked_none : (f : List ℕ) (at count : ℕ) → Starts f at count → Walked f count at 0
walked_none f at count s = record { within = s.within; limited = s.limited; started = s.started; left = omega (arith, s.messages) }

no_messages : (ms : List (List ℕ)) → length ms ≡ 0 → ms ≡ []
no_messages [] e = refl
no_messages (m ∷ ms) e = absurd (omega arith)

pub walked_all : (f : List ℕ) (count from k : ℕ) → Walked f count from k → count ≤ k → messages_at f from ≡ []
walked_all f count from k w h = no_messages (messages_at f from) (omega (arith, w.left))

module _ (f : List ℕ) (count from k r : ℕ) (w : Walked f count from k) (more : k < count) (e : MessageEnds f from r) where
  pub message-here : messages_at f from ≡ between f from r ∷ messages_at f r
  message-here = e.others w.started (omega (arith, w.left))

  pub walked_more : Walked f count r (k + 1)
  walked_more = record { within = e.onward.within w.within; limited = w.limited; started = e.started; left = omega (arith, w.left, ap (λ (ms : List (List ℕ)). length ms) message-here) }

  part-long : length (between f from r) ≡ r - from
  part-long = omega (arith, length-take (r - from) (drop from f), length-drop from f, e.onward.forward, e.onward.within w.within)

-- ---- measuring
-- what is known of all messages by those that are left
module _ (f : List ℕ) (at count : ℕ) (book stamp : List ℕ) (control : ℕ) where
  pub record Measuring (from k total : ℕ) : Type 0 where
    pub walked : Walked f count from k
    pub refused : refused_from book stamp 1 (messages_at f at) ≡ refused_from book stamp (k + 1) (messages_at f from)
    pub lengths : length (acks_from book stamp control (messages_at f at)) ≡ total + length (acks_from book stamp (control + k) (messages_at f from))
    pub fits : total ≤ from * 2 ^ 32
    pub all : length (messages_at f at) ≡ count

  pub measuring_done : (from k total : ℕ) → Measuring from k total → count ≤ k → Totals (messages_at f at) book stamp control total
  measuring_done from k total p h =
      let over = walked_all f count from k p.walked h in
      record {
        none = p.refused ∙ refused_none book stamp (k + 1) over;
        long = omega (arith, p.lengths, ap length (acks-none book stamp (control + k) over));
        fits = omega (arith, p.fits, p.walked.within, p.walked.limited);
      }

  module _ (from k total r : ℕ) (p : Measuring from k total) (more : k < count) (e : MessageEnds f from r) where
    ms : messages_at f from ≡ between f from r ∷ messages_at f r
    ms = message-here f count from k r p.walked more e

    module _ {number n : ℕ} (counted : number ≡ control + k) (measured : Measures (between f from r) book stamp number (Some n)) where
      is : Measures (between f from r) book stamp (control + k) (Some n)
      is = subst (λ (c : ℕ). Measures (between f from r) book stamp c (Some n)) counted measured

      -- the sum stays far below what a number can be, for the file is not long
      pub total-fits : total + n ≤ r * 2 ^ 32
      total-fits = omega (arith, p.fits, is.2, part-long f count from k r p.walked more e, e.onward.forward)

      pub measuring_more : Measuring r (k + 1) (total + n)
      measuring_more =
          let next : suc (control + k) ≡ control + (k + 1) = omega arith in
          let rest = messages_at f r in
          let size = ap length (acks_more book stamp (control + k) (between f from r) rest ms) ∙ length-append (ack_for (between f from r) book stamp (control + k)) (acks_from book stamp (suc (control + k)) rest) in
          let moved : length (acks_from book stamp (suc (control + k)) rest) ≡ length (acks_from book stamp (control + (k + 1)) rest) = ap (λ (c : ℕ). length (acks_from book stamp c rest)) next in
          record {
            walked = walked_more f count from k r p.walked more e;
            refused = p.refused ∙ refused-later book stamp (k + 1) (between f from r) rest ms is.0 ∙ ap (λ (n : ℕ). refused_from book stamp n rest) (omega arith);
            lengths = omega (arith, p.lengths, size, moved, is.1);
            fits = total-fits;
            all = p.all;
          }

    pub measuring_stop : meets_one book stamp (between f from r) ≡ true → Lowest (messages_at f at) book stamp (k + 1)
    measuring_stop bad = record {
      others = refused_from book stamp (suc (k + 1)) (messages_at f r);
      first = p.refused ∙ refused-here book stamp (k + 1) (between f from r) (messages_at f r) ms bad;
      within = omega (arith, p.all, more);
    }
