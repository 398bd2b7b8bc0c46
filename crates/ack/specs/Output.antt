-- Inner: only contracts inside the crates use these names; nothing here has to be believed.
-- What an output holds after bytes were written where it stood. Assumes nothing.
use Rattle.std.specs.Prelude.{◌≡◌, List, ℕ, ◌<◌, ◌≤◌, length}
use Rattle.ack.specs.Splice.{limit, Wrote}
use Rattle.ack.specs.declared.output.Output.{Output}

-- `bytes` were written into `before` where it stood, which made it `after`; what is lent is the same
pub record Adds (before : Output) (bytes : List ℕ) (after : Output) : Type 0 where
  pub same : after.bytes.ghost_name ≡ before.bytes.ghost_name
  pub wrote : before.at ≤ limit → length before.bytes.now < limit → Wrote before.bytes.now before.at bytes after.bytes.now after.at
