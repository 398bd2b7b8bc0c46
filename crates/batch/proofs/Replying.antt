-- Laws of `specs/Reply.antt`: the stamp's first bytes are answered like the stamp; and what is printed. Assumes nothing.
use mathlib.Core.Path.{◌≡◌}
use mathlib.Core.List.{List}
use Prim.Native.Nat.{ℕ, ◌≤◌}
use native.Mathlib.Omega.{arith}
use lib.ListN.{length, take}
use Rattle.batchfile.proofs.Bounds.{batch_stamp, batch_length}
use Rattle.show.specs.Shown.{refusal_room}
use Rattle.line.specs.Line.{Said}
use Rattle.line.specs.Fed.{head_length}
use Rattle.line.specs.Reply.{printed_for, Replies}
use Rattle.line.proofs.Replying.{reply_printed}
use Rattle.batch.specs.Reply.{answers}

module _ (file book out : List ℕ) where
  -- the answer to the bytes that were handed over is the answer to the stamp
  pub answers-stamp : (stamp : List ℕ) (control : ℕ) → answers file book out (take head_length stamp) control ≡ answers file book out stamp control
  answers-stamp stamp control = batch_stamp file book stamp control out head_length (omega arith)

  -- with room for a refusal, the text is what is to be printed
  pub printed : (line : Said) {after : List ℕ} {r : ℕ} → Replies line (answers file book out) out after r → refusal_room ≤ length out → take r after ≡ printed_for line (answers file book out)
  printed line = reply_printed (λ (stamp : List ℕ) (control : ℕ). batch_length file book stamp control out) line
