-- Laws of `specs/Reply.antt`: what is printed for a bad line, and for any other; and that neither leaves a choice. Assumes nothing.
use mathlib.Core.Path.{◌≡◌, refl, sym, ap, ◌∙◌}
use mathlib.Core.List.{List}
use Prim.Native.Nat.{ℕ, ◌≤◌}
use native.Mathlib.Omega.{arith}
use lib.ListN.{length, take, drop}
use lib.Seq.{take_at}
use Rattle.std.proofs.Common.{Option}
use Rattle.grade.specs.Admission.{Answer, paper}
use Rattle.ack.specs.Answers.{Outcome, Gives}
use Rattle.ack.specs.Splice.{Wrote}
use Rattle.ack.proofs.Writing.{splice-at-start}
use Rattle.show.specs.Shown.{refusal_room, bad_text, printed_in, printed_length, Printed}
use Rattle.show.proofs.Showing.{printed-shown}
use Rattle.line.specs.Line.{Said, bad_line, good_line}
use Rattle.line.specs.Fed.{head_length, Fed, shortened, heard, Says}
use Rattle.line.specs.Reply.{printed_for, Replies}
use Rattle.line.specs.declared.kept.Line.{Line}
use Rattle.line.specs.declared.kept.State.{State}

-- the answer about the line is determined, whatever chunks the input came in
pub line_once : {input : List ℕ} {s s' : State} (r r' : Option Line) → Fed input s → Fed input s' → Says s r → Says s' r' → heard s.head r ≡ heard s'.head r'
line_once r r' f f' says says' = says _ f ∙ sym (says' _ f')

module _ (answers : List ℕ → ℕ → Outcome) {out after : List ℕ} {r : ℕ} where
  pub replies_bad : (line : Said) → bad_line ≡ shortened line → Wrote out 0 bad_text after r → Replies line answers out after r
  replies_bad bad_line e w = record { holds = w.holds; ends = omega (arith, w.ends) }
  replies_bad (good_line stamp control) e w = let z : ◌≡◌ {A = ℕ} 0 1 = cc in absurd (omega arith)

  -- the stamp that was handed over is the head's part of the line's, and is answered like the whole
  pub replies_good : ((stamp : List ℕ) (control : ℕ) → answers (take head_length stamp) control ≡ answers stamp control)
      → (line : Said) (answer : Answer) (given : List ℕ) {handed stamp : List ℕ} {control : ℕ} → good_line stamp control ≡ shortened line → handed ≡ stamp
      → Gives answer given (answers handed control) → Printed (paper answer) given after r → Replies line answers out after r
  replies_good alike bad_line answer given e h a p = let z : ◌≡◌ {A = ℕ} 0 1 = cc in absurd (omega arith)
  replies_good alike (good_line stamp' control') answer given {handed} {stamp} {control} e h a p =
      let same-stamp : handed ≡ take head_length stamp' = cc in
      let same-control : control ≡ control' = cc in
      let whole : Gives answer given (answers stamp' control') = (rw (same-stamp, same-control) at a) ∙ alike stamp' control' in
      record {
        holds = p.holds ∙ ap (λ (o : Outcome). printed_in o.told o.output) whole;
        ends = p.ends ∙ ap (λ (o : Outcome). printed_length o.told o.output) whole;
      }

-- ---- the reply is determined: the whole output, and where the text ends
pub reply_once : {line : Said} {answers : List ℕ → ℕ → Outcome} {out after after' : List ℕ} {r r' : ℕ} → Replies line answers out after r → Replies line answers out after' r' → (after ≡ after') × (r ≡ r')
reply_once p q = (p.holds ∙ sym q.holds, p.ends ∙ sym q.ends)

-- with room for a refusal, where no answer makes the output longer or shorter, the text is what is to be printed
pub reply_printed : {answers : List ℕ → ℕ → Outcome} {out after : List ℕ} {r : ℕ} → ((stamp : List ℕ) (control : ℕ) → length (answers stamp control).output ≡ length out)
    → (line : Said) → Replies line answers out after r → refusal_room ≤ length out → take r after ≡ printed_for line answers
reply_printed {answers} {out} kept bad_line w room = rw (w.holds, w.ends) (ap (take (length bad_text)) (splice-at-start out bad_text (omega arith)) ∙ take_at bad_text (drop (length bad_text) out) (length bad_text) refl)
reply_printed {answers} {out} kept (good_line stamp control) w room = printed-shown (record { holds = w.holds; ends = w.ends }) (omega (arith, kept stamp control))
