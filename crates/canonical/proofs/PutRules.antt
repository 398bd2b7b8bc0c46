-- Laws of writing a section's rules: their words, their lines, and the places and kinds that are noted on the way. Assumes nothing.
use mathlib.Core.Path.{◌≡◌, refl, sym, ap, ap₂, ◌∙◌}
use mathlib.Core.Bool.{Bool, true, false, cond, ◌||◌, or_assoc, or-false}
use mathlib.Core.List.{List, [], ◌∷◌, ◌++◌, append-nil, append_assoc}
use Prim.Native.Char.{code}
use Prim.Native.Nat.{ℕ, ◌+◌, ◌≤◌, ◌<◌}
use native.Mathlib.Numerals.{add-one}
use lib.Dec.{eqb}
use lib.ListN.{length, get_or, take, drop, set, drop_of_length-le}
use lib.Seq.{drop-cons, take-suc-set}
use Rattle.hl7.specs.Text.{bytes}
use Rattle.hl7.specs.Bytes.{is_in}
use Rattle.hl7.proofs.Comparing.{rest_at}
use Rattle.grade.specs.Rule.{no_rule, name_bytes, severity_letter}
use Rattle.grade.specs.declared.rule.Place.{Place}
use Rattle.grade.specs.declared.rule.Rule.{Rule}
use Rattle.ack.specs.Decimal.{decimal}
use Rattle.ack.specs.Layout.{joined, marked, component_parts}
use Rattle.ack.specs.Output.{Adds}
use Rattle.ack.specs.declared.output.Output.{Output}
use Rattle.ack.proofs.Adding.{◌next◌, adds_as, adds_none}
use Rattle.booktext.specs.Lines.{line_feed}
use Rattle.canonical.specs.Shown.{line_bytes, printed, place_word, kind_word, bound_words, rule_spot, rule_line, rule_lines}
use Rattle.canonical.specs.Showing.{line_of_rule}

-- ---- words
component-said : (n : ℕ) → marked (code ".") (component_parts n) ≡ cond (eqb n 0) [] (code "." ∷ decimal n)
unfolding marked component_parts
component-said n = by (eqb n 0)
  where
    by : (b : Bool) → marked (code ".") (cond b [] (decimal n ∷ [])) ≡ cond b [] (code "." ∷ decimal n)
    by true = refl
    by false = ap (λ (l : List ℕ). code "." ∷ l) (append-nil (decimal n))

pub place-written : (place : Place) {field : ℕ} {o p q r s : Output} → field ≡ place.field
    → Adds o (32 ∷ []) p → Adds p (name_bytes place.segment) q → Adds q (code "-" ∷ decimal field) r → Adds r (marked (code ".") (component_parts place.component)) s
    → Adds o (32 ∷ place_word place) s
unfolding place_word
place-written place e u v w x = adds_as (u next v next w next x) (rw (e, component-said place.component))

-- two numbers
pub range_written : (low high : ℕ) {o p q : Output} → Adds o (32 ∷ decimal low) p → Adds p (32 ∷ decimal high) q → Adds o (marked 32 (decimal low ∷ decimal high ∷ [])) q
unfolding marked
range_written low high u v = adds_as (u next v) (rw (append-nil (decimal high)))

-- one word
pub one_written : {word : List ℕ} {o p : Output} → Adds o (32 ∷ word) p → Adds o (marked 32 (word ∷ [])) p
unfolding marked
one_written {word} u = adds_as u (rw (append-nil word))

pub none_written : (o : Output) → Adds o (marked 32 []) o
unfolding marked
none_written o = adds_none o refl

-- ---- lines
pub rule-written : (key : List ℕ) (again : Bool) (rule : Rule) {o p q r s t u : Output}
    → Adds o (cond again (bytes "also") (bytes "rule")) p → Adds p (32 ∷ place_word rule.place) q → Adds q (32 ∷ kind_word rule.kind) r
    → Adds r (32 ∷ severity_letter rule.severity ∷ []) s → Adds s (marked 32 (bound_words key rule.kind)) t → Adds t (line_feed ∷ []) u
    → Adds o (line_bytes (line_of_rule key again rule)) u
unfolding line_of_rule joined marked
rule-written key again rule v w x y z l = adds_as (v next w next x next y next z next l) (simp append_assoc)

module _ (rules : List Rule) (i : ℕ) (spots : List ℕ) where
  abbrev rule : Rule
  rule = get_or rules i no_rule

  -- what is noted of the rule with a number
  pub spot-noted : {r : Rule} {spot : ℕ} → r ≡ rule → spot ≡ rule_spot r → set spots i spot ≡ set spots i (rule_spot rule)
  spot-noted e f = ap (set spots i) (f ∙ ap rule_spot e)

  module _ (key : List ℕ) where
    -- its line, by what was noted of those before it
    pub line-noted : {r : Rule} {spot : ℕ} {again : Bool} → r ≡ rule → spot ≡ rule_spot r → again ≡ is_in spot (take i spots) → line_bytes (line_of_rule key again r) ≡ line_bytes (rule_line key (take i spots) rule)
    unfolding line_of_rule
    line-noted e f g = rw (g, f, e)

    -- the lines of the rules from i on
    abbrev pub rules_from : List ℕ
    rules_from = printed (rule_lines key (take i spots) (drop i rules))

    pub rules_more : i < length rules → i < length spots → {later : List ℕ} → later ≡ set spots i (rule_spot rule)
        → rules_from ≡ line_bytes (rule_line key (take i spots) rule) ++ printed (rule_lines key (take (i + 1) later) (drop (i + 1) rules))
    unfolding rule_lines printed
    rules_more h k e =
        let noted = ap (λ (n : ℕ). take n (set spots i (rule_spot rule))) (add-one i) ∙ take-suc-set spots i (rule_spot rule) k in
        ap (λ (l : List Rule). printed (rule_lines key (take i spots) l)) (drop-cons rules i no_rule h)
        ∙ ap₂ (λ (before : List ℕ) (n : ℕ). line_bytes (rule_line key (take i spots) rule) ++ printed (rule_lines key before (drop n rules)))
        (sym (ap (take (i + 1)) e ∙ noted)) (sym (add-one i))

    pub rules-over : length rules ≤ i → rules_from ≡ []
    unfolding rule_lines printed
    rules-over h = ap (λ (l : List Rule). printed (rule_lines key (take i spots) l)) (drop_of_length-le rules h)

-- ---- a number among some
module _ (spots : List ℕ) (x i : ℕ) (any : Bool) where
  pub in_more : i < length spots → (any || is_in x (drop i spots)) ≡ (any || eqb x (get_or spots i 0) || is_in x (drop (i + 1) spots))
  unfolding is_in
  in_more h = ap (λ (l : List ℕ). any || is_in x l) (rest_at spots i h) ∙ sym (or_assoc any (eqb x (get_or spots i 0)) (is_in x (drop (i + 1) spots)))

  pub in_over : length spots ≤ i → (any || is_in x (drop i spots)) ≡ any
  unfolding is_in
  in_over h = ap (λ (l : List ℕ). any || is_in x l) (drop_of_length-le spots h) ∙ or-false any
