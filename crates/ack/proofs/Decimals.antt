-- The laws of decimal notation: its last digit, and how many digits it has. Assumes nothing.
use mathlib.Core.Path.{◌≡◌, sym, ap, ◌∙◌}
use mathlib.Core.Logic.{⊎_elim}
use mathlib.Core.List.{[], ◌∷◌, ◌++◌}
use Prim.Native.Nat.{ℕ, zero, suc, ◌+◌, ◌-◌, ◌*◌, ◌/◌, ◌%◌, ◌^◌, ◌≤◌, ◌<◌, zero-le}
use native.Mathlib.Nat.{pow-suc, one-le-pow}
use native.Mathlib.Omega.{arith}
use lib.Dec.{lit<, lit≤}
use lib.ListN.{length, length-append}
use borrow.Author.Tests.{lt-ltb, le-ltb}
use Rattle.ack.specs.Decimal.{digit, last_digits, decimal}
use Rattle.ack.proofs.Writing.{lt_or_ge}

-- the two ways to cut off the last digit
last_small : (k n : ℕ) → n < 10 → last_digits (suc k) n ≡ digit n ∷ []
unfolding last_digits
last_small k n h = rw (lt-ltb n 10 h)

last_large : (k n : ℕ) → 10 ≤ n → last_digits (suc k) n ≡ last_digits k (n / 10) ++ (digit (n % 10) ∷ [])
unfolding last_digits
last_large k n h = rw (le-ltb n 10 h)

-- one digit more changes nothing where there are enough
enough : (k n : ℕ) → n < 10 ^ suc k → last_digits (suc (suc k)) n ≡ last_digits (suc k) n
enough zero n h = last_small 1 n (omega arith) ∙ sym (last_small 0 n (omega arith))
enough (suc k) n h =
    ⊎_elim
    (λ small. last_small (suc (suc k)) n small ∙ sym (last_small (suc k) n small))
    (λ large. rw (last_large (suc (suc k)) n large, last_large (suc k) n large, enough k (n / 10) (omega (arith, rw (pow-suc 10 (suc k)) at h))))
    (lt_or_ge n 10)

pub decimal-small : (n : ℕ) → n < 10 → decimal n ≡ digit n ∷ []
unfolding decimal
decimal-small n h = last_small 19 n h

pub decimal_large : (n : ℕ) → 10 ≤ n → n < 2 ^ 64 → decimal n ≡ decimal (n / 10) ++ (digit (n % 10) ∷ [])
unfolding decimal
decimal_large n large fits = last_large 19 n large ∙ rw (enough 18 (n / 10) (omega arith))

-- twenty digits at most
at_most : (k n : ℕ) → length (last_digits k n) ≤ k
unfolding last_digits
at_most zero n = zero-le
at_most (suc k) n =
    ⊎_elim
    (λ small. rw (lt-ltb n 10 small) (omega arith))
    (λ large. rw (le-ltb n 10 large, length-append (last_digits k (n / 10)) (digit (n % 10) ∷ [])) (omega (arith, at_most k (n / 10))))
    (lt_or_ge n 10)

pub decimal-short : (n : ℕ) → length (decimal n) ≤ 20
unfolding decimal
decimal-short n = at_most 20 n

-- a number from 10 ^ k on and below 10 ^ (k + 1) has k + 1 digits, of which j more could be had
count : (k j n : ℕ) → 10 ^ k ≤ n → n < 10 ^ suc k → length (last_digits (suc (k + j)) n) ≡ suc k
count zero j n low high = ap length (last_small (0 + j) n (omega arith))
count (suc k) j n low high =
    let shorter = count k j (n / 10) (omega (arith, rw (pow-suc 10 k) at low)) (omega (arith, rw (pow-suc 10 (suc k)) at high)) in
    let more : suc k + j ≡ suc (k + j) = omega arith in
    let large : 10 ≤ n = omega (arith, rw (pow-suc 10 k) at low, one-le-pow k 10 (lit< tt)) in
    rw (last_large (suc k + j) n large, more, length-append (last_digits (suc (k + j)) (n / 10)) (digit (n % 10) ∷ [])) (omega arith)

-- what the code answers
pub one_digit : (n : ℕ) → n < 10 → (1 ≡ length (decimal n)) × (1 ≤ 20)
one_digit n h = (ap length (sym (decimal-small n h)), lit≤ tt)

pub digits : (k n : ℕ) → k < 20 → 10 ^ k ≤ n → n < 10 * 10 ^ k → (1 + k ≡ length (decimal n)) × (1 + k ≤ 20)
unfolding decimal
digits k n few low high =
    let all : suc (k + (19 - k)) ≡ 20 = omega arith in
    let whole : length (decimal n) ≡ suc k = rw all at (count k (19 - k) n low (omega (arith, pow-suc 10 k, high))) in
    (omega (arith, whole), omega arith)
