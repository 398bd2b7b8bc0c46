-- Laws of `written`: what is answered once the length of what is to be written is known. Assumes nothing.
use mathlib.Core.Path.{◌≡◌, refl, ap, ◌∙◌}
use mathlib.Core.Bool.{true, false}
use mathlib.Core.List.{List, [], ◌++◌}
use Prim.Native.Nat.{ℕ, ◌≤◌, ◌<◌}
use native.Mathlib.Omega.{arith}
use lib.Dec.{ltb}
use lib.ListN.{length}
use borrow.Author.Tests.{lt-ltb, le-ltb}
use Rattle.hl7.proofs.Comparing.{none_of}
use Rattle.ack.specs.Splice.{Wrote, limit}
use Rattle.ack.proofs.Writing.{wrote-length, wrote-at-start}
use Rattle.booktext.specs.Faults.{Told, tell}
use Rattle.booktext.specs.Refusals.{written}

module _ (result out : List ℕ) {size : ℕ} (e : size ≡ length result) where
  pub written-short : length out < size → {r : Told} → r ≡ tell 55 size 0 → (r ≡ (written result out).told) × (out ≡ (written result out).output)
  unfolding written
  written-short l f =
      let over : ltb (length out) (length result) ≡ true = lt-ltb (length out) (length result) (omega arith) in
      rw over (f ∙ ap (λ (n : ℕ). tell 55 n 0) e, refl)

  pub written_done : size ≤ length out → {r : Told} {after : List ℕ} {n : ℕ} → r ≡ tell 0 size 0 → Wrote out 0 result after n → (r ≡ (written result out).told) × (after ≡ (written result out).output)
  unfolding written
  written_done l f w =
      let fits : ltb (length out) (length result) ≡ false = le-ltb (length out) (length result) (omega arith) in
      rw fits (f ∙ ap (λ (n : ℕ). tell 0 n 0) e, wrote-at-start w (omega arith))

-- it is written onto no byte of an output first, which tells its length and leaves that output as it is
module _ (result : List ℕ) (short : length result < limit) (out : List ℕ) {p : List ℕ} {size : ℕ} (w : Wrote [] 0 result p size) where
  size_is : size ≡ length result
  size_is = omega (arith, w.ends)

  same_out : p ++ out ≡ out
  same_out = ap (λ (l : List ℕ). l ++ out) (none_of p (omega (arith, wrote-length w)))

  pub measured_short : length (p ++ out) < size → {r : Told} → r ≡ tell 55 size 0 → (r ≡ (written result out).told) × (p ++ out ≡ (written result out).output)
  measured_short h e =
      let told = written-short result out size_is (omega (arith, ap length same_out)) e in
      (told.0, same_out ∙ told.1)

  pub measured_done : size ≤ length (p ++ out) → {r : Told} {after : List ℕ} {next : ℕ} → r ≡ tell 0 size 0 → Wrote (p ++ out) 0 result after next → (r ≡ (written result out).told) × (after ≡ (written result out).output)
  measured_done h e v = written_done result out size_is (omega (arith, ap length same_out)) e (rw same_out at v)
