-- What a legend promises: the line with number n of a section tells of rule n of that section in the book. Assumes nothing.
use mathlib.Core.Path.{◌≡◌, refl, ap, ◌∙◌}
use mathlib.Core.Bool.{Bool, true, false, cond, not, ◌&&◌}
use mathlib.Core.List.{List, [], ◌∷◌, ◌++◌, map}
use Prim.Native.Nat.{ℕ, suc}
use Rattle.grade.specs.declared.rule.Rule.{Rule}
use Rattle.booktext.specs.Lines.{Statement, makes_rule}
use Rattle.booktext.specs.Changes.{spot_of, amended, dropped, settled_as, settled}
use Rattle.booktext.specs.Contents.{made, rules_of}
use Rattle.booktext.proofs.Changing.{amended-rule}
use Rattle.legend.specs.Legend.{remark_of, later_remarks, rule_legend, stays, line_of_rule, rules_legend}

-- a rule that a section's statements make: the statement as those that follow leave it, and what is remarked
pub record Maker : Type 0 where
  pub rule : Statement
  pub remarks : List ℕ

unfoldable pub makers : List ℕ → List Statement → List Maker
makers t [] = []
makers t (s ∷ ss) = cond (stays s ss) (record { rule = amended (spot_of s) s ss; remarks = remark_of t s ++ later_remarks t (spot_of s) ss } ∷ makers t ss) (makers t ss)

-- the lines of such rules, which count from n
unfoldable pub counted : List ℕ → List ℕ → ℕ → List Maker → List ℕ
counted t key n [] = []
counted t key n (m ∷ ms) = rule_legend t key n m.rule m.remarks ++ counted t key (suc n) ms

abbrev pub rules_made : List (List ℕ) → List Maker → List Rule
rules_made names ms = map (λ (m : Maker). made names m.rule) ms

-- what is settled of one statement
pub rules-settled : (names : List (List ℕ)) (s : Statement) (ss : List Statement) → rules_of names (settled (s ∷ ss)) ≡ cond (stays s ss) (made names (amended (spot_of s) s ss) ∷ rules_of names (settled ss)) (rules_of names (settled ss))
unfolding settled settled_as rules_of
rules-settled names s ss = by (makes_rule s) (dropped (spot_of s) ss) refl
  where
    by : (a b : Bool) → makes_rule s ≡ a
        → rules_of names (cond a (cond b [] (amended (spot_of s) s ss ∷ [])) (s ∷ []) ++ settled ss) ≡ cond (a && not b) (made names (amended (spot_of s) s ss) ∷ rules_of names (settled ss)) (rules_of names (settled ss))
    by true true e = refl
    by true false e = rw (amended-rule (spot_of s) s ss ∙ e)
    by false b e = rw e

-- a section's rules and the lines of its legend come from the same statements, one for one and in the same order
pub legend-rules : (t key : List ℕ) (names : List (List ℕ)) (n : ℕ) (ss : List Statement)
    → (rules_of names (settled ss) ≡ rules_made names (makers t ss)) × (rules_legend t key n ss ≡ counted t key n (makers t ss))
unfolding rules_legend makers counted settled rules_of
legend-rules t key names n [] = (refl, refl)
legend-rules t key names n (s ∷ ss) =
    let pair = by (stays s ss) (legend-rules t key names n ss) (legend-rules t key names (suc n) ss).1 in
    (rules-settled names s ss ∙ pair.0, pair.1)
  where
    maker : Maker
    maker = record { rule = amended (spot_of s) s ss; remarks = remark_of t s ++ later_remarks t (spot_of s) ss }

    by : (b : Bool) → (rules_of names (settled ss) ≡ rules_made names (makers t ss)) × (rules_legend t key n ss ≡ counted t key n (makers t ss)) → rules_legend t key (suc n) ss ≡ counted t key (suc n) (makers t ss)
        → (cond b (made names maker.rule ∷ rules_of names (settled ss)) (rules_of names (settled ss)) ≡ rules_made names (cond b (maker ∷ makers t ss) (makers t ss)))
        × (cond b (line_of_rule t key n s ss ++ rules_legend t key (suc n) ss) (rules_legend t key n ss) ≡ counted t key n (cond b (maker ∷ makers t ss) (makers t ss)))
    by true here next = (ap (λ (rules : List Rule). made names maker.rule ∷ rules) here.0, ap (λ (l : List ℕ). line_of_rule t key n s ss ++ l) next)
    by false here next = here
