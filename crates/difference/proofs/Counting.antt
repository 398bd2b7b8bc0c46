-- Laws of spots, which name place and kind of each rule: noted, counted, and found again by their number. Assumes nothing.
use mathlib.Core.Path.{◌≡◌, refl, sym, ap, ap₂, ◌∙◌}
use mathlib.Core.Bool.{Bool, true, false, cond, ◌&&◌}
use mathlib.Core.List.{List, [], ◌∷◌, ◌++◌}
use Prim.Native.Nat.{ℕ, suc, ◌+◌, ◌-◌, ◌≤◌, ◌<◌}
use native.Mathlib.Numerals.{add-one}
use native.Mathlib.Omega.{arith}
use lib.Dec.{eqb}
use mir.Val.{bool_byte}
use lib.ListN.{length, get_or, take, drop, set, drop_of_length-le, length-map, get_or-map}
use lib.Seq.{take-suc, take-suc-set, take_all}
use Rattle.std.proofs.Common.{count_by}
use Rattle.std.proofs.lemmas.List.Recursion.{is_count_by}
use Rattle.hl7.specs.Spans.{occurrences}
use Rattle.hl7.proofs.Comparing.{rest_at}
use Rattle.grade.specs.Rule.{no_rule}
use Rattle.grade.specs.declared.rule.Rule.{Rule}
use Rattle.canonical.specs.Shown.{rule_spot}
use Rattle.difference.specs.Difference.{spots, numbered}

-- ---- noted, one after the other
module _ (rules : List Rule) (i : ℕ) (noted : List ℕ) where
  pub noted_more : i < length rules → i < length noted → take i noted ≡ take i (spots rules) → {r : Rule} {spot : ℕ} → r ≡ get_or rules i no_rule → spot ≡ rule_spot r
      → take (i + 1) (set noted i spot) ≡ take (i + 1) (spots rules)
  noted_more h k e {r} {spot} is f =
      let here : spot ≡ get_or (spots rules) i (rule_spot no_rule) = f ∙ ap rule_spot is ∙ sym (get_or-map rule_spot rules i no_rule) in
      let inside : i < length (spots rules) = omega (arith, length-map rules rule_spot) in
      ap (λ (n : ℕ). take n (set noted i spot)) (add-one i)
      ∙ take-suc-set noted i spot k
      ∙ ap₂ (λ (l : List ℕ) (x : ℕ). l ++ (x ∷ [])) e here
      ∙ sym (take-suc (spots rules) i (rule_spot no_rule) inside)
      ∙ ap (λ (n : ℕ). take n (spots rules)) (sym (add-one i))

  pub noted-all : {count : ℕ} → length rules ≡ count → i ≡ count → take i noted ≡ take i (spots rules) → take count noted ≡ spots rules
  noted-all {count} many at e =
      ap (λ (n : ℕ). take n noted) (sym at) ∙ e ∙ take_all i (spots rules) (omega (arith, length-map rules rule_spot))

-- ---- found
module _ (noted : List ℕ) (spot i : ℕ) where
  -- what is left of the search at i
  abbrev pub numbered_from : ℕ → ℕ
  numbered_from left = numbered (i + 1) spot left (drop i noted)

  numbered-at : (left : ℕ) → i < length noted
      → numbered_from left ≡ cond (eqb (get_or noted i 0) spot && eqb left 0) (i + 1) (numbered (suc (i + 1)) spot (left - cond (eqb (get_or noted i 0) spot) 1 0) (drop (i + 1) noted))
  unfolding numbered
  numbered-at left h = ap (numbered (i + 1) spot left) (rest_at noted i h)

  pub number_stop : (left : ℕ) → i < length noted → (eqb (get_or noted i 0) spot && eqb left 0) ≡ true → numbered_from left ≡ i + 1
  number_stop left h e = rw (numbered-at left h, e)

  pub number_more : (left : ℕ) {later : ℕ} → i < length noted → (eqb (get_or noted i 0) spot && eqb left 0) ≡ false → later ≡ left - cond (eqb (get_or noted i 0) spot) 1 0
      → numbered_from left ≡ numbered (i + 1 + 1) spot later (drop (i + 1) noted)
  number_more left h e f = rw (numbered-at left h, e, f) (ap (λ (n : ℕ). numbered n spot (left - cond (eqb (get_or noted i 0) spot) 1 0) (drop (i + 1) noted)) (sym (add-one (i + 1))))

  pub number-over : (left : ℕ) → length noted ≤ i → numbered_from left ≡ 0
  unfolding numbered
  number-over left h = ap (numbered (i + 1) spot left) (drop_of_length-le noted h)
