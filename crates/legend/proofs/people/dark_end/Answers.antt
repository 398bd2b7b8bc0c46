-- `legend::people::dark_end` meets its contract. Assumes nothing.
use mathlib.Core.Path.{◌≡◌}
use mathlib.Core.Bool.{true, false}
use Prim.Native.Nat.{ℕ, ◌<◌}
use lib.ListN.{length, get_or}
use Rattle.std.proofs.Common.{rules}
use Rattle.booktext.specs.Lines.{blank}
use Rattle.legend.proofs.Trimming.{trail_ends, trail_none}
use Rattle.legend.proofs.people.dark_end.Goals as goal

pub returns-in-Some : goal.returns-in-Some
returns-in-Some c =
    let inside : c.in-Some.last < length c.args.s.now = search rules in
    let here : blank (get_or c.args.s.now c.in-Some.last 0) ≡ false = search rules in
    let behind : (k : ℕ) → c.in-Some.last < k → k < length c.args.s.now → blank (get_or c.args.s.now k 0) ≡ true = search rules in
    trail_ends c.args.s.now c.in-Some.last inside here behind

pub returns-in-None : goal.returns-in-None
returns-in-None c =
    let blanks : (k : ℕ) → k < length c.args.s.now → blank (get_or c.args.s.now k 0) ≡ true = search rules in
    trail_none c.args.s.now blanks
