-- Inner: only contracts inside the crates use these names; nothing here has to be believed.
-- The rules of each name, linked: from a name to its first rule, from a rule to the next one about the same segment.
use Rattle.std.specs.Prelude.{ℕ, suc, ◌+◌, ◌<◌, ◌≤◌, ◌≡◌, cond, List, [], ◌∷◌, eqb, length, get_or, drop}
use Rattle.grade.specs.Limits.{name_places, link_limit}
use Rattle.grade.specs.Rule.{no_rule}
use Rattle.grade.specs.declared.rule.Rule.{Rule}

-- the first rule about a name among `rules`, whose first has number i, counted from 0; the number after them where there is none
unfoldable pub next_about : ℕ → ℕ → List Rule → ℕ
next_about name i [] = i
next_about name i (rule ∷ rules) = cond (eqb rule.place.segment name) i (next_about name (suc i) rules)

-- the links of the names come first, those of the rules behind them; what is left holds the rules' number
pub record Linked (rules : List Rule) (links : List ℕ) : Type 0 where
  pub first : (name : ℕ) → name < name_places → get_or links name 0 ≡ next_about name 0 rules
  pub after : (i : ℕ) → i < length rules → get_or links (name_places + i) 0 ≡ next_about (get_or rules i no_rule).place.segment (i + 1) (drop (i + 1) rules)
  pub past : (k : ℕ) → name_places + length rules ≤ k → k < link_limit → get_or links k 0 ≡ length rules
  pub sized : length links ≡ link_limit
