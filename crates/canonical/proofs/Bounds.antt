-- What showing a book tells fits one number of 64 bits, and can be had back from it. Assumes nothing.
use mathlib.Core.Path.{◌≡◌, refl}
use mathlib.Core.Bool.{Bool, true, false, cond}
use mathlib.Core.List.{List}
use Prim.Native.Nat.{ℕ, ◌^◌, ◌≤◌}
use native.Mathlib.Omega.{arith}
use lib.ListN.{length}
use Rattle.grade.specs.Book.{decoded, malformed, other_version}
use Rattle.grade.proofs.Encoded.{Bytes}
use Rattle.booktext.specs.Faults.{Told, tell, nothing}
use Rattle.booktext.proofs.Bounds.{SmallRow, a_row, small-nothing, small-cond, Packs, packs}
use Rattle.canonical.specs.Shown.{shown, show_of}
use Rattle.canonical.proofs.ShownAgain.{again_short}

abbrev rows : Bool → Bool → Told
rows m v = cond m (tell 7 0 0) (cond v (tell 8 0 0) nothing)

pub show_packs : (b : List ℕ) → Bytes b → (out : List ℕ) → Packs (show_of b out).told
unfolding show_of
show_packs b is out = packs (shown (decoded b)) out (tells (malformed b) (other_version b)) (short (malformed b) refl (other_version b) refl)
  where
    tells : (m v : Bool) → SmallRow (rows m v)
    tells m v =
        small-cond m (record { number = a_row refl; detail = omega arith; section = omega arith })
        (small-cond v (record { number = a_row refl; detail = omega arith; section = omega arith }) small-nothing)

    short : (m : Bool) → malformed b ≡ m → (v : Bool) → other_version b ≡ v → (rows m v).number ≡ 0 → length (shown (decoded b)) ≤ 2 ^ 48
    short true e v f z = absurd (omega (arith, z))
    short false e true f z = absurd (omega (arith, z))
    short false e false f z = omega (arith, again_short b is e f)
