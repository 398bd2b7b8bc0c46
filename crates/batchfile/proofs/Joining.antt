-- The ACKs written one after the other, into the output or into a room where they are kept: what is known of all by those that are left. Assumes nothing.
use mathlib.Core.Path.{◌≡◌, refl, sym, ap, ap₂, subst, ◌∙◌}
use mathlib.Core.Bool.{Bool, true, false}
use mathlib.Core.List.{List, [], ◌∷◌, ◌++◌, append_assoc, append-nil}
use Prim.Native.Nat.{ℕ, suc, ◌+◌, ◌-◌, ◌≤◌, ◌<◌, min}
use native.Mathlib.Omega.{arith}
use lib.ListN.{length, take, drop, length-take, length-drop, length-append, take-append-drop, drop_of_length-le}
use lib.Seq.{drop-drop, take_at}
use Rattle.hl7.specs.Spans.{between}
use Rattle.hl7.proofs.Comparing.{tail-whole}
use Rattle.std.specs.Prelude.{Ok, Err}
use Rattle.std.specs.Result.{IsOk}
use Rattle.grade.specs.Admission.{Answer, paper}
use Rattle.grade.specs.declared.refusal.Refusal.{Refusal}
use Rattle.grade.proofs.Telling.{refusal_some}
use Rattle.ack.specs.Answers.{Outcome, ack_for, answer_of, Gives}
use Rattle.ack.specs.Splice.{limit, Wrote}
use Rattle.ack.proofs.Promises.{refusal_alters_nothing}
use Rattle.ack.proofs.Writing.{splice-fits, wrote-length, wrote_none, wrote_as, ◌then◌}
use Rattle.batchfile.specs.Batch.{meets_one, refused_from, acks_from}
use Rattle.batchfile.specs.Walk.{messages_at, MessageEnds}
use Rattle.batchfile.specs.Sized.{Starts, AnsweredAt, AnswersAt, Keeps}
use Rattle.batchfile.proofs.Measuring.{answered, writes, writes_zero, refused-here, refused-later, acks_more, acks-none, Walked, walked_none, walked_all, message-here, walked_more}

-- ---- a part of the output, from `at` on
module _ (m book stamp : List ℕ) (control : ℕ) (out : List ℕ) (at : ℕ) (a : Answer) {part : List ℕ} (within : at ≤ length out) (small : length out < limit)
    (given : Gives a part (answer_of m book stamp control (take (length out - at) (drop at out)))) where
  ack : List ℕ
  ack = ack_for m book stamp control

  rest-long : length (take (length out - at) (drop at out)) ≡ length out - at
  rest-long = rw tail-whole (length-drop at out)

  after : List ℕ
  after = take at out ++ (part ++ drop (length out - at) (drop at out))

  -- an ACK at the start of the part is one written from `at` on
  wrote-part : (paper a).number ≡ 0 → (at + (paper a).detail ≤ length out) × Wrote out at ack after (at + (paper a).detail)
  unfolding ack after
  wrote-part zero-told =
      let fine = answered m book stamp control (take (length out - at) (drop at out)) a given zero-told in
      let done = writes m book stamp control (take (length out - at) (drop at out)) a given fine.0 fine.1 in
      let room : at + length (ack_for m book stamp control) ≤ length out = omega (arith, fine.1, rest-long) in
      let none : drop (length out - at) (drop at out) ≡ [] = drop-drop (length out - at) at out ∙ drop_of_length-le out {i = at + (length out - at)} (omega arith) in
      let rest : part ≡ ack_for m book stamp control ++ drop (at + length (ack_for m book stamp control)) out = done.1 ∙ rw (tail-whole out at, drop-drop (length (ack_for m book stamp control)) at out) in (
        omega (arith, done.0, room),
        record {
          room = small;
          holds = rw (none, append-nil part, rest) (sym (splice-fits out at (ack_for m book stamp control) room ∙ append_assoc (take at out) (ack_for m book stamp control) (drop (at + length (ack_for m book stamp control)) out)));
          ends = omega (arith, done.0, room);
        },
      )

  -- a refusal leaves the part as it was
  kept-part : ((paper a).number ≡ 0 → ⊥) → after ≡ out
  unfolding after
  kept-part some =
      let part-is = ap (λ (o : Outcome). o.output) given ∙ refusal_alters_nothing m book stamp control (take (length out - at) (drop at out)) (λ e. some (ap (λ (o : Outcome). o.told.number) given ∙ e)) in
      rw part-is (ap (λ (l : List ℕ). take at out ++ l) (take-append-drop (length out - at) (drop at out)) ∙ take-append-drop at out)

  passed-part : meets_one book stamp m ≡ false → at + length (ack_for m book stamp control) ≤ length out → (paper a).number ≡ 0
  passed-part none room = writes_zero m book stamp control (take (length out - at) (drop at out)) a given none (omega (arith, rest-long))

module _ (m book stamp : List ℕ) (control : ℕ) (out : List ℕ) (at : ℕ) {part : List ℕ} (within : at ≤ length out) (small : length out < limit) where
  pub answers_at : (a : Answer) → Gives a part (answer_of m book stamp control (take (length out - at) (drop at out)))
      → AnswersAt m book stamp control out at a (take at out ++ (part ++ drop (length out - at) (drop at out)))
  unfolding after ack
  answers_at (Ok n) given =
      let wrote = wrote-part m book stamp control out at (Ok n) within small given refl in
      record { fine = (answered m book stamp control (take (length out - at) (drop at out)) (Ok n) given refl).0; room = wrote.0; wrote = wrote.1 }
  answers_at (Err refusal) given = (
    kept-part m book stamp control out at (Err refusal) within small given (refusal_some refusal),
    λ none room. refusal_some refusal (passed-part m book stamp control out at (Err refusal) within small given none room),
  )

-- ---- all ACKs
module _ (f : List ℕ) (at count : ℕ) (book stamp : List ℕ) (control : ℕ) (before : List ℕ) (start : ℕ) where
  pub record Writing (from k to : ℕ) (out : List ℕ) : Type 0 where
    pub walked : Walked f count from k
    pub refused : refused_from book stamp (k + 1) (messages_at f from) ≡ []
    pub room : to + length (acks_from book stamp (control + k) (messages_at f from)) ≤ length out
    pub same : length out ≡ length before
    pub joins : {after : List ℕ} {r : ℕ} → Wrote out to (acks_from book stamp (control + k) (messages_at f from)) after r → Wrote before start (acks_from book stamp control (messages_at f at)) after r

  pub writing_none : Starts f at count → refused_from book stamp 1 (messages_at f at) ≡ [] → start + length (acks_from book stamp control (messages_at f at)) ≤ length before → Writing at 0 start before
  writing_none s none room =
      let same : control + 0 ≡ control = omega arith in
      let acks : acks_from book stamp (control + 0) (messages_at f at) ≡ acks_from book stamp control (messages_at f at) = ap (λ (c : ℕ). acks_from book stamp c (messages_at f at)) same in
      record { walked = walked_none f at count s; refused = none; room = omega (arith, ap length acks); same = refl; joins = λ w. wrote_as w acks }

  pub writing_done : (from k to : ℕ) (out : List ℕ) → length out < limit → Writing from k to out → count ≤ k → Wrote before start (acks_from book stamp control (messages_at f at)) out to
  writing_done from k to out fits p h =
      let none = acks-none book stamp (control + k) (walked_all f count from k p.walked h) in
      let here : min to limit ≡ to = omega (arith, p.room) in
      p.joins (wrote_as (subst (λ (n : ℕ). Wrote out to [] out n) here (wrote_none out to fits)) (sym none))

  module _ (from k to : ℕ) (out : List ℕ) (r : ℕ) (p : Writing from k to out) (more : k < count) (e : MessageEnds f from r) where
    left : messages_at f from ≡ between f from r ∷ messages_at f r
    left = message-here f count from k r p.walked more e

    acks : acks_from book stamp (control + k) (messages_at f from) ≡ ack_for (between f from r) book stamp (control + k) ++ acks_from book stamp (suc (control + k)) (messages_at f r)
    acks = acks_more book stamp (control + k) (between f from r) (messages_at f r) left

    none_met : meets_one book stamp (between f from r) ≡ false
    none_met = by (meets_one book stamp (between f from r)) refl
      where
        by : (b : Bool) → meets_one book stamp (between f from r) ≡ b → b ≡ false
        by true is = absurd (omega (arith, ap length (sym p.refused ∙ refused-here book stamp (k + 1) (between f from r) (messages_at f r) left is)))
        by false is = refl

    ack-room : {number : ℕ} → number ≡ control + k → to + length (ack_for (between f from r) book stamp number) ≤ length out
    ack-room counted = rw counted (omega (arith, p.room, ap length acks, length-append (ack_for (between f from r) book stamp (control + k)) (acks_from book stamp (suc (control + k)) (messages_at f r))))

    -- so the message is answered
    writes_some : {number : ℕ} (refusal : Refusal) (out' : List ℕ) → number ≡ control + k → AnswersAt (between f from r) book stamp number out to (Err refusal) out' → ⊥
    writes_some refusal out' counted is = is.1 none_met (ack-room counted)

    pub writes_ok : {number : ℕ} (a : Answer) (out' : List ℕ) → number ≡ control + k → AnswersAt (between f from r) book stamp number out to a out' → IsOk a
    writes_ok (Ok n) out' counted is = refl
    writes_ok (Err refusal) out' counted is = absurd (writes_some refusal out' counted is)

    module _ {number n : ℕ} {out' : List ℕ} (counted : number ≡ control + k) (is : AnsweredAt (between f from r) book stamp number out to n out') where
      w : Wrote out to (ack_for (between f from r) book stamp (control + k)) out' (to + n)
      w = subst (λ (c : ℕ). Wrote out to (ack_for (between f from r) book stamp c) out' (to + n)) counted is.wrote

      pub writing_more : Writing r (k + 1) (to + n) out'
      writing_more =
          let rest = messages_at f r in
          let following : control + (k + 1) ≡ suc (control + k) = omega arith in
          let others : acks_from book stamp (control + (k + 1)) rest ≡ acks_from book stamp (suc (control + k)) rest = ap (λ (c : ℕ). acks_from book stamp c rest) following in
          let size = ap length acks ∙ length-append (ack_for (between f from r) book stamp (control + k)) (acks_from book stamp (suc (control + k)) rest) in
          record {
            walked = walked_more f count from k r p.walked more e;
            refused = ap (λ (n : ℕ). refused_from book stamp n rest) (omega arith) ∙ sym (refused-later book stamp (k + 1) (between f from r) rest left none_met) ∙ p.refused;
            room = omega (arith, p.room, size, ap length others, wrote-length w, w.ends);
            same = wrote-length w ∙ p.same;
            joins = λ v. p.joins (wrote_as (w then (wrote_as v others)) (sym acks));
          }

    -- with the message that was answered, one more is written
    pub writing_told : {number n : ℕ} (a : Answer) {out' : List ℕ} → a ≡ Ok n → number ≡ control + k → AnswersAt (between f from r) book stamp number out to a out' → Writing r (k + 1) (to + n) out'
    writing_told {number} {n} a {out'} is counted answered = writing_more counted (subst (λ (x : Answer). AnswersAt (between f from r) book stamp number out to x out') is answered)

-- ---- the ACKs that are kept
module _ (f : List ℕ) (at count : ℕ) (book stamp : List ℕ) (control : ℕ) where
  pub record Keeping (from k to : ℕ) (room : List ℕ) : Type 0 where
    pub walked : Walked f count from k
    pub within : to ≤ length room
    pub refused : refused_from book stamp 1 (messages_at f at) ≡ refused_from book stamp (k + 1) (messages_at f from)
    pub acks : acks_from book stamp control (messages_at f at) ≡ take to room ++ acks_from book stamp (control + k) (messages_at f from)

  pub keeping_ends : (from k to : ℕ) (room : List ℕ) → Keeping from k to room → Keeps f at count book stamp control room (record { from = from; count = k; to = to })
  keeping_ends from k to room p =
      let w = p.walked in
      record {
        within = p.within;
        few = omega (arith, w.left);
        starts = record { within = w.within; limited = w.limited; started = w.started; messages = omega (arith, w.left) };
        refused = p.refused;
        acks = p.acks;
      }

  module _ (from k to : ℕ) (room : List ℕ) (r : ℕ) {number n : ℕ} {room' : List ℕ} (p : Keeping from k to room) (more : k < count) (e : MessageEnds f from r) (counted : number ≡ control + k)
      (is : AnsweredAt (between f from r) book stamp number room to n room') where
    pub keeping_more : Keeping r (k + 1) (to + n) room'
    keeping_more =
        let ack = ack_for (between f from r) book stamp number in
        let rest = messages_at f r in
        let left = message-here f count from k r p.walked more e in
        let size : n ≡ length ack = omega (arith, is.wrote.ends, is.wrote.room, is.room) in
        let front : take to room ++ ack ≡ take (to + n) room' =
        sym (ap (take (to + n)) (is.wrote.holds ∙ splice-fits room to ack (omega (arith, size, is.room))) ∙ take_at (take to room ++ ack) (drop (to + length ack) room) (to + n) (omega (arith, length-append (take to room) ack, length-take to room, p.within, size))) in
        let following : suc (control + k) ≡ control + (k + 1) = omega arith in
        record {
          walked = walked_more f count from k r p.walked more e;
          within = omega (arith, is.room, wrote-length is.wrote);
          refused = p.refused ∙ refused-later book stamp (k + 1) (between f from r) rest left is.fine ∙ ap (λ (n : ℕ). refused_from book stamp n rest) (omega arith);
          acks =
              p.acks
              ∙ ap (λ (l : List ℕ). take to room ++ l) (acks_more book stamp (control + k) (between f from r) rest left ∙ ap₂ (λ (n c : ℕ). ack_for (between f from r) book stamp n ++ acks_from book stamp c rest) (sym counted) following)
              ∙ sym (append_assoc (take to room) ack (acks_from book stamp (control + (k + 1)) rest))
              ∙ ap (λ (l : List ℕ). l ++ acks_from book stamp (control + (k + 1)) rest) front;
        }

    pub keeping_same : length room' ≡ length room
    keeping_same = wrote-length is.wrote
