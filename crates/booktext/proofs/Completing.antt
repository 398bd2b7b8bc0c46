-- Laws of loops that write, one turn after the other. Assumes nothing.
use mathlib.Core.Path.{◌≡◌, sym}
use mathlib.Core.List.{List, [], ◌++◌}
use Prim.Native.Nat.{ℕ}
use Rattle.ack.specs.Splice.{Wrote}
use Rattle.ack.proofs.Writing.{wrote_as, ◌then◌}

-- whoever writes the rest after what was written has written all
abbrev pub Completes : (all rest o : List ℕ) → ℕ → (out : List ℕ) → ℕ → Type 0
Completes all rest o at out to = (after : List ℕ) (r : ℕ) → Wrote out to rest after r → Wrote o at all after r

pub completes_more : {all rest xs more o out next : List ℕ} {at to end : ℕ} → Completes all rest o at out to → rest ≡ xs ++ more → Wrote out to xs next end → Completes all more o at next end
completes_more c e w after r v = c after r (wrote_as (w then v) (sym e))

-- the loop has run out
pub completes_over : {all rest o out after : List ℕ} {at to r : ℕ} → Completes all rest o at out to → rest ≡ [] → Wrote out to [] after r → Wrote o at all after r
completes_over c e w = c _ _ (wrote_as w (sym e))
