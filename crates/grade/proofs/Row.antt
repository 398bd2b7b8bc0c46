-- A finding's record in memory: its size. Assumes nothing.
use mathlib.Core.Path.{◌≡◌, refl}
use Prim.Native.Nat.{ℕ}
use prog.Memory.{size}
use Rattle.grade.proofs.finding.Finding.TheLaws as F'

-- `size_is` fails where the record's fields come to another size
abbrev pub bytes : ℕ
bytes = 16

pub size_is : size F'.mir ≡ bytes
size_is = refl
