-- Laws of `specs/Reply.antt`: a stamp that is too long is refused like its first bytes, which are too many too; and what is printed. Assumes nothing.
use mathlib.Core.Path.{◌≡◌}
use mathlib.Core.List.{List}
use Prim.Native.Nat.{ℕ, ◌≤◌}
use native.Mathlib.Omega.{arith}
use lib.ListN.{length, take}
use Rattle.ack.proofs.Admitting.{stamp-front}
use Rattle.ack.specs.Records.{own_table}
use Rattle.ack.proofs.Lending.{lent-unstamped, lent_length}
use Rattle.show.specs.Shown.{refusal_room}
use Rattle.line.specs.Line.{Said}
use Rattle.line.specs.Fed.{head_length}
use Rattle.line.specs.Reply.{printed_for, Replies}
use Rattle.line.proofs.Replying.{reply_printed}
use Rattle.relay.specs.Reply.{answers}

module _ (message book out : List ℕ) where
  -- the answer to the bytes that were handed over is the answer to the stamp
  pub answers-stamp : (stamp : List ℕ) (control : ℕ) → answers message book out (take head_length stamp) control ≡ answers message book out stamp control
  answers-stamp stamp control = stamp-front (λ (s : List ℕ). answers message book out s control) _ (λ s e. lent-unstamped own_table message book s control out e) stamp head_length (omega arith)

  -- with room for a refusal, the text is what is to be printed
  pub printed : (line : Said) {after : List ℕ} {r : ℕ} → Replies line (answers message book out) out after r → refusal_room ≤ length out → take r after ≡ printed_for line (answers message book out)
  printed line = reply_printed (λ (stamp : List ℕ) (control : ℕ). lent_length message book stamp control out own_table) line
