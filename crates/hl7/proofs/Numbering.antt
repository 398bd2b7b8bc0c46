-- Laws of `specs/Number.antt` and `specs/Counted.antt`: what one more digit does to a value. Assumes nothing.
use mathlib.Core.Path.{◌≡◌, refl, sym, ap, ◌∙◌}
use mathlib.Core.Bool.{Bool, true, ◌&&◌}
use mathlib.Core.List.{List, [], ◌∷◌, ◌++◌}
use Prim.Native.Nat.{ℕ, ◌+◌, ◌-◌, ◌*◌, ◌<◌, min}
use native.Mathlib.Omega.{arith}
use native.Mathlib.Numerals.{add-one}
use lib.ListN.{length, get_or, take}
use lib.Seq.{take-suc}
use Rattle.hl7.specs.Bytes.{is_digit, all}
use Rattle.hl7.specs.Number.{value_after, value_of}
use Rattle.hl7.specs.Counted.{too_large, with_digit}
use Rattle.hl7.proofs.Comparing.{all_last}

pub value_last : (n : ℕ) (digits : List ℕ) (x : ℕ) → value_after n (digits ++ (x ∷ [])) ≡ 10 * value_after n digits + (x - 48)
unfolding value_after
value_last n [] x = refl
value_last n (y ∷ digits) x = value_last (10 * n + (y - 48)) digits x

-- a counted value, with the digit counted too
pub value_more : (n : ℕ) (digits : List ℕ) (x : ℕ) {value : ℕ} → value ≡ min (value_after n digits) too_large → with_digit value x ≡ min (value_after n (digits ++ (x ∷ []))) too_large
value_more n digits x h = rw (value_last n digits x) (omega (arith, h))

-- ---- digits
-- of the first i bytes, whether all are digits, and their value, as far as values are told apart
pub record Read (text : List ℕ) (every : Bool) (value i : ℕ) : Type 0 where
  pub digits : every ≡ all is_digit (take i text)
  pub counted : value ≡ min (value_of (take i text)) too_large

pub read_none : (text : List ℕ) → Read text true 0 0
unfolding all value_after
read_none text = record { digits = refl; counted = refl }

module _ (text : List ℕ) {every : Bool} {value i : ℕ} (r : Read text every value i) where
  pub read_more : {digit : Bool} {next : ℕ} → i < length text → digit ≡ is_digit (get_or text i 0) → next ≡ with_digit value (get_or text i 0) → Read text (every && digit) next (i + 1)
  read_more h d n =
      let more : take (i + 1) text ≡ take i text ++ (get_or text i 0 ∷ []) = ap (λ (k : ℕ). take k text) (add-one i) ∙ take-suc text i 0 h in
      record {
        digits = rw (more, all_last is_digit (take i text) (get_or text i 0), ← r.digits, d);
        counted = n ∙ value_more 0 (take i text) (get_or text i 0) r.counted ∙ ap (λ (l : List ℕ). min (value_of l) too_large) (sym more);
      }
