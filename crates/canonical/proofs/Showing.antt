-- What a section's own lines of the canonical text say: its rules, and the names of its sets. Assumes nothing.
use Rattle.std.specs.Prelude.{Some}
use mathlib.Core.Path.{◌≡◌, refl, sym, ap, ap₂, ◌∙◌}
use mathlib.Core.Bool.{Bool, true, false, cond, not, ◌&&◌, ◌||◌, true≢false}
use mathlib.Core.List.{List, [], ◌∷◌, ◌++◌, append-nil}
use Prim.Native.Nat.{ℕ, suc, ◌+◌, ◌≤◌, ◌<◌}
use native.Mathlib.Omega.{arith}
use native.Mathlib.Decide.{ℕ_discrete}
use lib.Dec.{eqb}
use lib.ListN.{length, get_or, drop}
use Rattle.hl7.specs.Text.{bytes}
use Rattle.hl7.specs.Bytes.{is_in, same, among}
use Rattle.hl7.proofs.Comparing.{and_both, same_self}
use Rattle.grade.specs.Book.{Contents, distinct}
use Rattle.grade.specs.Encoding.{each, kind_byte}
use Rattle.grade.specs.Limits.{set_limit}
use Rattle.grade.specs.Rule.{kind_of, kind_fits}
use Rattle.grade.specs.declared.rule.Kind.{Kind}
use Rattle.grade.specs.declared.rule.Rule.{Rule}
use Rattle.booktext.specs.Lines.{number_from, verbs, verb_of, of_rule, some_sets}
use Rattle.booktext.specs.Words.{number_in, kind_number, a_code_kind}
use Rattle.booktext.specs.Contents.{made, rules_of, pinned, named, names_of, with_names}
use Rattle.canonical.specs.Shown.{set_name, set_names, pin_lines, kind_word, bound_words, rule_spot, rule_verb, rule_line, rule_lines}
use Rattle.canonical.proofs.Printing.{placed}
use Rattle.canonical.proofs.ReadBack.{number_back_lem, place_back, kind_back, severity_back, other_number_lem}
use Rattle.canonical.proofs.Paging.{names_new, names-known, names-append, line_at, next_at}
use Rattle.canonical.proofs.Showable.{high_said, is_shown, Fits, shown-place, shown_kind, shown_high, within_bounds, length_bounds, time_bound, page_lines, rule_verb_lem}

-- ---- names of a section's sets
module _ (key : List ℕ) where
  name-number : (m n : ℕ) (sets : List (List (List ℕ))) → n ≤ m → m < n + length sets → n + length sets ≤ 256 → number_from n (set_name key m) (set_names key n sets) ≡ m
  unfolding number_from set_names
  name-number m n [] low high few = absurd (omega arith)
  name-number m n (set ∷ sets) low high few = by (ℕ_discrete m n) (name-number m (suc n) sets)
    where
      by : Dec (m ≡ n) → (suc n ≤ m → m < suc n + length sets → suc n + length sets ≤ 256 → number_from (suc n) (set_name key m) (set_names key (suc n) sets) ≡ m)
          → cond (same (set_name key m) (set_name key n)) n (number_from (suc n) (set_name key m) (set_names key (suc n) sets)) ≡ m
      by (yes e) ih = rw (e, same_self (set_name key n))
      by (no e) ih = rw (other_number_lem m n (omega arith) (omega arith) key e) (ih (omega arith) (omega arith) (omega arith))

  pub name-among : (m n : ℕ) (sets : List (List (List ℕ))) → n ≤ m → m < n + length sets → among (set_name key m) (set_names key n sets) ≡ true
  unfolding among set_names
  name-among m n [] low high = absurd (omega arith)
  name-among m n (set ∷ sets) low high = by (ℕ_discrete m n) (same (set_name key m) (set_name key n)) refl (name-among m (suc n) sets)
    where
      by : Dec (m ≡ n) → (b : Bool) → same (set_name key m) (set_name key n) ≡ b → (suc n ≤ m → m < suc n + length sets → among (set_name key m) (set_names key (suc n) sets) ≡ true)
          → (b || among (set_name key m) (set_names key (suc n) sets)) ≡ true
      by d true e ih = refl
      by (yes e) false f ih = absurd (true≢false (sym (same_self (set_name key m)) ∙ ap (λ (k : ℕ). same (set_name key m) (set_name key k)) e ∙ f))
      by (no e) false f ih = ih (omega arith) (omega arith)

  -- none of another key or of an earlier number is among them
  pub names_apart : (other : List ℕ) (m n : ℕ) (sets : List (List (List ℕ))) → m ≤ 255 → n + length sets ≤ 256 → ((k : ℕ) → n ≤ k → k ≤ 255 → same (set_name other m) (set_name key k) ≡ false)
      → among (set_name other m) (set_names key n sets) ≡ false
  unfolding among set_names
  names_apart other m n [] h few e = refl
  names_apart other m n (set ∷ sets) h few e = ap₂ ◌||◌ (e n (omega arith) (omega arith)) (names_apart other m (suc n) sets h (omega arith) (λ k low high. e k (omega arith) high))

  pub names-distinct : (n : ℕ) (sets : List (List (List ℕ))) → n + length sets ≤ 256 → distinct (set_names key n sets) ≡ true
  unfolding distinct set_names
  names-distinct n [] few = refl
  names-distinct n (set ∷ sets) few =
      ap₂ ◌&&◌
      (ap not (names_apart key n (suc n) sets (omega arith) (omega arith) (λ k low high. other_number_lem n k (omega arith) high key (λ e. absurd (omega arith)))))
      (names-distinct (suc n) sets (omega arith))

-- ---- rules
pub makes_rule_lem : (before : List ℕ) (r : Rule) → of_rule (verb_of (rule_verb before r)) ≡ true
makes_rule_lem before r = rule_verb_lem of_rule before r refl refl

module _ (key : List ℕ) (sets : List (List (List ℕ))) (few : length sets ≤ set_limit) where
  abbrev bound : Kind → ℕ → List ℕ
  bound k n = get_or (bound_words key k) n []

  kind_made : (k : Kind) → kind_fits (length sets) k ≡ true → high_said k ≡ true
      → kind_of (kind_number (kind_word k)) (number_from 1 (bound k 0) (set_names key 1 sets)) (number_in (bound k 0)) (number_in (bound k 1)) ≡ Some k
  unfolding kind_of
  kind_made Kind.Required e f = rw (kind_back Kind.Required)
  kind_made (Kind.Length low high) e f =
      let small = length_bounds low high e f in
      rw (kind_back (Kind.Length low high), number_back_lem low small.0, number_back_lem high small.1)
  kind_made Kind.Number e f = rw (kind_back Kind.Number)
  kind_made Kind.Date e f = rw (kind_back Kind.Date)
  kind_made (Kind.Time digits) e f = rw (kind_back (Kind.Time digits), number_back_lem digits (omega (arith, time_bound digits e)))
  kind_made (Kind.Code set) e f =
      let bounds = within_bounds 1 (length sets) set e in
      rw (kind_back (Kind.Code set), name-number key set 1 sets bounds.0 (omega arith) (omega arith))

  made_back : (at : ℕ) (before : List ℕ) (r : Rule) → is_shown (length sets) r ≡ true → made (set_names key 1 sets) (line_at at (rule_line key before r)) ≡ r
  unfolding made
  made_back at before r e =
      rw (place_back r.place (shown-place (length sets) r e), severity_back r.severity, kind_made r.kind (shown_kind (length sets) r e) (shown_high (length sets) r e))

  rules_back : (at : ℕ) (before : List ℕ) (rules : List Rule) → each (is_shown (length sets)) rules ≡ true → rules_of (set_names key 1 sets) (placed at (rule_lines key before rules)) ≡ rules
  unfolding rules_of placed rule_lines
  rules_back at before [] e = refl
  rules_back at before (r ∷ rules) e =
      let both = and_both (is_shown (length sets) r) (each (is_shown (length sets)) rules) e in
      let next = next_at at (rule_line key before r) in
      rw (makes_rule_lem before r) (ap₂ ◌∷◌ (made_back at before r both.0) (rules_back next (before ++ (rule_spot r ∷ [])) rules both.1))

  abbrev in_names : List ℕ → Bool
  in_names x = among x (set_names key 1 sets)

  pinned-none : (at : ℕ) (before : List ℕ) (rules : List Rule) → pinned (placed at (rule_lines key before rules)) ≡ []
  unfolding pinned placed rule_lines verb_of verbs number_from same
  pinned-none at before [] = refl
  pinned-none at before (r ∷ rules) = by (is_in (rule_spot r) before) (pinned-none (next_at at (rule_line key before r)) (before ++ (rule_spot r ∷ [])) rules)
    where
      by : (b : Bool) {later : List (List ℕ)} → later ≡ [] → cond (eqb (verb_of (cond b (bytes "also") (bytes "rule"))) some_sets) (drop 1 (rule_line key before r) ++ later) later ≡ []
      by true e = e
      by false e = e

  -- what a rule names
  one_named : (k : Kind) (more : List (List ℕ)) → kind_fits (length sets) k ≡ true → each in_names more ≡ true → each in_names (cond (eqb (kind_number (kind_word k)) a_code_kind) (bound k 0 ∷ more) more) ≡ true
  one_named k more e h = by k e (kind_back k)
    where
      by : (k : Kind) → kind_fits (length sets) k ≡ true → {n : ℕ} → n ≡ kind_byte k → each in_names (cond (eqb n a_code_kind) (bound k 0 ∷ more) more) ≡ true
      by Kind.Required e f = rw f h
      by (Kind.Length low high) e f = rw f h
      by Kind.Number e f = rw f h
      by Kind.Date e f = rw f h
      by (Kind.Time digits) e f = rw f h
      by (Kind.Code set) e f = let bounds = within_bounds 1 (length sets) set e in rw f (ap₂ ◌&&◌ (name-among key set 1 sets bounds.0 (omega arith)) h)

  named_in : (at : ℕ) (before : List ℕ) (rules : List Rule) → each (is_shown (length sets)) rules ≡ true → each in_names (named (placed at (rule_lines key before rules))) ≡ true
  unfolding named placed rule_lines
  named_in at before [] e = refl
  named_in at before (r ∷ rules) e =
      let both = and_both (is_shown (length sets) r) (each (is_shown (length sets)) rules) e in
      let next = next_at at (rule_line key before r) in
      rw (makes_rule_lem before r) (one_named r.kind (named (placed next (rule_lines key (before ++ (rule_spot r ∷ [])) rules))) (shown_kind (length sets) r both.0) (named_in next (before ++ (rule_spot r ∷ [])) rules both.1))

-- ---- with the line that pins the sets, if there are any
module _ (key : List ℕ) where
  pinned_page : (sets : List (List (List ℕ))) → length sets ≤ set_limit → (at : ℕ) (rules : List Rule) → pinned (placed at (pin_lines key sets ++ rule_lines key [] rules)) ≡ set_names key 1 sets
  unfolding pinned placed set_names verb_of verbs number_from same
  pinned_page [] few at rules = pinned-none key [] few at [] rules
  pinned_page (set ∷ sets) few at rules =
      let names = set_names key 1 (set ∷ sets) in
      ap (λ (l : List (List ℕ)). names ++ l) (pinned-none key (set ∷ sets) few (next_at at (bytes "sets" ∷ names)) [] rules) ∙ append-nil names

  named_page : (sets : List (List (List ℕ))) → length sets ≤ set_limit → (at : ℕ) (rules : List Rule) → each (is_shown (length sets)) rules ≡ true
      → each (λ (x : List ℕ). among x (set_names key 1 sets)) (named (placed at (pin_lines key sets ++ rule_lines key [] rules))) ≡ true
  unfolding named placed set_names verb_of verbs number_from same
  named_page [] few at rules e = named_in key [] few at [] rules e
  named_page (set ∷ sets) few at rules e = named_in key (set ∷ sets) few (next_at at (bytes "sets" ∷ set_names key 1 (set ∷ sets))) [] rules e

  rules_page : (sets : List (List (List ℕ))) → length sets ≤ set_limit → (at : ℕ) (rules : List Rule) → each (is_shown (length sets)) rules ≡ true
      → rules_of (set_names key 1 sets) (placed at (pin_lines key sets ++ rule_lines key [] rules)) ≡ rules
  unfolding rules_of placed set_names verb_of verbs number_from same
  rules_page [] few at rules e = rules_back key [] few at [] rules e
  rules_page (set ∷ sets) few at rules e = rules_back key (set ∷ sets) few (next_at at (bytes "sets" ∷ set_names key 1 (set ∷ sets))) [] rules e

module _ (c : Contents) (fits : Fits c) (at : ℕ) where
  pub page_names : names_of (placed at (page_lines c)) ≡ set_names c.key 1 c.sets
  unfolding names_of
  page_names =
      let few = fits.few_sets in
      let names = set_names c.key 1 c.sets in
      let ss = placed at (page_lines c) in
      ap (λ (l : List (List ℕ)). with_names [] (l ++ named ss)) (pinned_page c.key c.sets few at c.rules)
      ∙ names-append [] names (named ss)
      ∙ ap (λ (l : List (List ℕ)). with_names l (named ss)) (names_new [] names (names-distinct c.key 1 c.sets (omega arith)))
      ∙ names-known names (named ss) (named_page c.key c.sets few at c.rules fits.rules)

  pub page_rules : rules_of (names_of (placed at (page_lines c))) (placed at (page_lines c)) ≡ c.rules
  page_rules =
      ap (λ (l : List (List ℕ)). rules_of l (placed at (page_lines c))) page_names ∙ rules_page c.key c.sets fits.few_sets at c.rules fits.rules
