-- Laws of settled statements: what is right of a section's statements is right of them as they are settled, and what they change in sets is the same. Assumes
-- nothing.
use mathlib.Core.Path.{◌≡◌, refl, sym, ap, ap₂, ◌∙◌}
use mathlib.Core.Bool.{Bool, true, false, cond, not, ◌&&◌, ◌||◌}
use mathlib.Core.List.{List, [], ◌∷◌, ◌++◌, map}
use Prim.Native.Nat.{ℕ, suc, ◌+◌, ◌-◌, ◌≤◌}
use native.Mathlib.Omega.{arith}
use lib.Dec.{eqb, leb}
use lib.ListN.{length, get_or, drop, length-drop}
use lib.Seq.{get_or-drop}
use borrow.Author.Tests.{eqb-true, leb-true, le-leb}
use Rattle.hl7.specs.Bytes.{within, same, among}
use Rattle.hl7.proofs.Comparing.{and_both}
use Rattle.grade.specs.Encoding.{each}
use Rattle.grade.specs.Limits.{code_count_limit}
use Rattle.grade.specs.Rule.{severity_of}
use Rattle.booktext.specs.Lines.{Statement, word, verb, says, line_of, of_place, of_codes, makes_rule, a_set, a_severity, a_bound, a_more, a_less}
use Rattle.booktext.specs.Words.{place_in, is_place, is_severity, is_severity_word, kind_names, kind_number, bound_fits}
use Rattle.booktext.specs.Meaning.{from, give}
use Rattle.booktext.specs.Changes.{spot_number, spot_of, says_of, bind, amend, amended, dropped, settled_as, settled, names_code, lessened, kept, added_by, added}
use Rattle.booktext.specs.Contents.{codes_of, held}
use Rattle.booktext.specs.Faults.{count_right, key_right, codes_right, place_right, kind_right, severity_right, before_bound, bound_right, Told, tell}
use Rattle.booktext.specs.Refusals.{at_of, first_stray, first_bad_set}
use Rattle.booktext.specs.Standing.{sound, ready}
use Rattle.booktext.proofs.Each.{each_append}
use Rattle.booktext.proofs.Sounding.{Sounds, sounds}
use Rattle.booktext.proofs.Reading.{number-few}
use Rattle.booktext.proofs.Changing.{amend-rule, amend-spot, amended-rule}
use Rattle.booktext.proofs.Ruling.{rule_verb_lem, rule-place, rule_kind, rule-own}

-- a kind's number
pub kind_few : (w : List ℕ) → kind_number w ≤ 6
unfolding kind_number kind_names
kind_few w = number-few 0 w kind_names

-- ---- one rule

-- two that speak of one place and kind have the same kind
same_kind : (s x : Statement) → of_place (verb s) ≡ true → of_place (verb x) ≡ true → spot_of x ≡ spot_of s → kind_number (word x 2) ≡ kind_number (word s 2)
unfolding spot_of
same_kind s x p q e =
    let here : spot_of s ≡ spot_number (place_in (word s 1)) (kind_number (word s 2)) = rw p in
    let there : spot_of x ≡ spot_number (place_in (word x 1)) (kind_number (word x 2)) = rw q in
    omega (arith, sym there ∙ e ∙ here, kind_few (word s 2), kind_few (word x 2))

-- a rule is sound by its count, place, kind, severity and bound
rule-sound : (y : Statement) → makes_rule y ≡ true → within 4 6 (length y.words) ≡ true → is_place (word y 1) ≡ true → leb 1 (kind_number (word y 2)) ≡ true → is_severity_word (word y 3) ≡ true
    → bound_fits (kind_number (word y 2)) (length y.words - 4) (word y 4) (word y 5) ≡ true → sound y ≡ true
unfolding sound codes_right
rule-sound y rule many place kind severity bound =
    rule_verb_lem
    (λ (v : ℕ).
    (count_right v (length y.words)
    && key_right v (word y 1)
    && codes_right v y.words
    && place_right v (word y 1)
    && kind_right v (word y 2)
    && severity_right v (length y.words) (word y 2) (word y 3)
    && bound_right v (length y.words) (word y 2) (word y (before_bound v)) (word y (suc (before_bound v))))
    ≡ true)
    (rw (many, place, kind, severity, bound) refl)
    (rw (many, place, kind, severity, bound) refl)
    (verb y)
    rule

module _ (s x : Statement) (ok : ready s ≡ true) (rule : makes_rule s ≡ true) (fine : ready x ≡ true) where
  other : Sounds x
  unfolding ready
  other = sounds x (and_both (sound x) _ fine).0

  -- with another severity
  give-ready : says a_severity x ≡ true → ready (give (get_or (word x 3) 0 0) s) ≡ true
  unfolding ready sound is_severity_word
  give-ready e =
      let word-right : severity_right (verb x) (length x.words) (word x 2) (word x 3) ≡ true = other.severity in
      let letter = (and_both (eqb (length (word x 3)) 1) (is_severity (severity_of (get_or (word x 3) 0 0))) (rw (eqb-true (verb x) a_severity e) at word-right)).1 in
      rw (and_both (sound s) _ ok).0 (later (eqb (get_or (word x 3) 0 0) 0) letter)
    where
      later : (b : Bool) {c : Bool} → c ≡ true → (b || c) ≡ true
      later true h = refl
      later false h = h

  -- with another bound
  bind-ready : says a_bound x ≡ true → spot_of x ≡ spot_of s → ready (bind (drop 3 x.words) s) ≡ true
  unfolding ready
  bind-ready e f =
      let v = eqb-true (verb x) a_bound e in
      let counted : within 4 5 (length x.words) ≡ true = rw v at other.count in
      let least = leb-true 4 (length x.words) (and_both (leb 4 (length x.words)) _ counted).0 in
      let most = leb-true (length x.words) 5 (and_both (leb 4 (length x.words)) _ counted).1 in
      let size : length (bind (drop 3 x.words) s).words ≡ suc (length x.words) = omega (arith, length-drop 3 x.words, least) in
      let n = length (bind (drop 3 x.words) s).words in
      let many : within 4 6 n ≡ true = ap₂ ◌&&◌ (le-leb 4 n (omega (arith, size, least))) (le-leb n 6 (omega (arith, size, most))) in
      let kind = same_kind s x (rule_verb_lem (λ (n : ℕ). of_place n ≡ true) refl refl (verb s) rule) (ap of_place v) f in
      let bound : bound_fits (kind_number (word x 2)) (length x.words - 3) (word x 3) (word x 4) ≡ true = rw v at other.bound in
      let words : (k : ℕ) → get_or (drop 3 x.words) k [] ≡ word x (3 + k) = λ k. get_or-drop 3 x.words k [] in
      let left : length (bind (drop 3 x.words) s).words - 4 ≡ length x.words - 3 = omega (arith, size, least) in
      rw (rule-sound (bind (drop 3 x.words) s) rule many (rule-place s ok rule) (le-leb 1 (kind_number (word s 2)) (rule_kind s ok rule)) (rule-own s ok rule)
      (ap₂ (λ (low high : List ℕ). bound_fits (kind_number (word s 2)) (length (bind (drop 3 x.words) s).words - 4) low high) (words 0) (words 1)
      ∙ ap₂ (λ (k n : ℕ). bound_fits k n (word x 3) (word x 4)) (sym kind) left
      ∙ bound)) (and_both (sound s) _ ok).1

  pub amend-ready : ready (amend (spot_of s) s x) ≡ true
  amend-ready = by (says_of a_severity (spot_of s) x) (says_of a_bound (spot_of s) x) refl refl
    where
      by : (a b : Bool) → says_of a_severity (spot_of s) x ≡ a → says_of a_bound (spot_of s) x ≡ b → ready (cond a (give (get_or (word x 3) 0 0) s) (cond b (bind (drop 3 x.words) s) s)) ≡ true
      by true b e f = give-ready (and_both (says a_severity x) _ e).0
      by false true e f = let both = and_both (says a_bound x) (eqb (spot_of x) (spot_of s)) f in bind-ready both.0 (eqb-true (spot_of x) (spot_of s) both.1)
      by false false e f = ok

-- ---- all of them

amended-ready : (spot : ℕ) (s : Statement) (ss : List Statement) → spot ≡ spot_of s → makes_rule s ≡ true → ready s ≡ true → each ready ss ≡ true → ready (amended spot s ss) ≡ true
unfolding amended
amended-ready spot s [] e rule ok every = ok
amended-ready spot s (x ∷ ss) e rule ok every =
    let both = and_both (ready x) (each ready ss) every in
    amended-ready spot (amend spot s x) ss (e ∙ sym (amend-spot spot s x)) (amend-rule spot s x ∙ rule) (ap (λ (n : ℕ). ready (amend n s x)) e ∙ amend-ready s x ok rule both.0) both.1

pub settled-ready : (ss : List Statement) → each ready ss ≡ true → each ready (settled ss) ≡ true
unfolding settled settled_as
settled-ready [] e = refl
settled-ready (s ∷ ss) e =
    let both = and_both (ready s) (each ready ss) e in
    each_append ready (settled_as s ss) (settled ss) ∙ ap₂ ◌&&◌ (by (makes_rule s) (dropped (spot_of s) ss) refl both.0 both.1) (settled-ready ss both.1)
  where
    by : (a b : Bool) → makes_rule s ≡ a → ready s ≡ true → each ready ss ≡ true → each ready (cond a (cond b [] (amended (spot_of s) s ss ∷ [])) (s ∷ [])) ≡ true
    by true true rule ok every = refl
    by true false rule ok every = rw (amended-ready (spot_of s) s ss refl rule ok every) refl
    by false b rule ok every = rw ok refl

-- ---- what hangs on no rule

-- is the same of the statements as they are settled: their rules alone change
module _ {A : Type 0} (f : List Statement → A) (skips : (s : Statement) (ss : List Statement) → makes_rule s ≡ true → f (s ∷ ss) ≡ f ss) (keeps : (s : Statement) (ss : List Statement) → f (settled ss) ≡ f ss → f (s ∷ settled ss) ≡ f (s ∷ ss)) where
  settled_as_said : (ss : List Statement) → f (settled ss) ≡ f ss
  unfolding settled settled_as
  settled_as_said [] = refl
  settled_as_said (s ∷ ss) = by (makes_rule s) (dropped (spot_of s) ss) refl (settled_as_said ss)
    where
      by : (a b : Bool) → makes_rule s ≡ a → f (settled ss) ≡ f ss → f (cond a (cond b [] (amended (spot_of s) s ss ∷ [])) (s ∷ []) ++ settled ss) ≡ f (s ∷ ss)
      by true true e same = same ∙ sym (skips s ss e)
      by true false e same = skips (amended (spot_of s) s ss) (settled ss) (amended-rule (spot_of s) s ss ∙ e) ∙ same ∙ sym (skips s ss e)
      by false b e same = keeps s ss same

-- row 52
pub settled_stray : (t : List ℕ) (line : ℕ) (names : List (List ℕ)) (ss : List Statement) → first_stray t line names (settled ss) ≡ first_stray t line names ss
unfolding first_stray
settled_stray t line names =
    settled_as_said (first_stray t line names)
    (λ s ss rule. ap (λ (b : Bool). cond (b && not (among (word s 1) names)) (tell 52 (line_of t s.at) line) (first_stray t line names ss)) (rule_verb_lem (λ (v : ℕ). of_codes v ≡ false) refl refl (verb s) rule))
    (λ s ss same. ap (cond (of_codes (verb s) && not (among (word s 1) names)) (tell 52 (line_of t s.at) line)) same)

-- the codes of a set
module _ (name : List ℕ) where
  settled_lessened : (c : List ℕ) (ss : List Statement) → lessened name c (settled ss) ≡ lessened name c ss
  unfolding lessened
  settled_lessened c =
      settled_as_said (lessened name c)
      (λ s ss rule. ap (λ (b : Bool). (b && same (word s 1) name && among c (drop 2 s.words)) || lessened name c ss) (rule_verb_lem (λ (v : ℕ). eqb v a_less ≡ false) refl refl (verb s) rule))
      (λ s ss same. ap (λ (b : Bool). names_code a_less name c s || b) same)

  settled_kept : (ss : List Statement) (codes : List (List ℕ)) → kept name (settled ss) codes ≡ kept name ss codes
  unfolding kept
  settled_kept ss [] = refl
  settled_kept ss (c ∷ codes) = ap₂ (λ (b : Bool) (more : List (List ℕ)). cond b more (c ∷ more)) (settled_lessened c ss) (settled_kept ss codes)

  settled_added : (ss : List Statement) → added name (settled ss) ≡ added name ss
  unfolding added kept
  settled_added =
      settled_as_said (added name)
      (λ s ss rule. ap (λ (b : Bool). kept name ss (cond (b && same (word s 1) name) (drop 2 s.words) []) ++ added name ss) (rule_verb_lem (λ (v : ℕ). eqb v a_more ≡ false) refl refl (verb s) rule))
      (λ s ss same. ap₂ ◌++◌ (settled_kept ss (added_by name s)) same)

  settled_held : (all ss : List Statement) → held all (settled ss) name ≡ held all ss name
  unfolding held
  settled_held all ss = ap₂ ◌++◌ (settled_kept ss (codes_of all name)) (settled_added ss)

-- row 53, and the sets
module _ (all ss : List Statement) where
  pub settled_bad : (t : List ℕ) (line : ℕ) (names : List (List ℕ)) → first_bad_set t line all (settled ss) names ≡ first_bad_set t line all ss names
  unfolding first_bad_set
  settled_bad t line [] = refl
  settled_bad t line (name ∷ names) =
      ap₂ (λ (codes : List (List ℕ)) (told : Told). cond (within 1 code_count_limit (length codes)) told (tell 53 (line_of t (at_of (from a_set name all))) line)) (settled_held name all ss) (settled_bad t line names)

  pub settled_sets : (names : List (List ℕ)) → map (held all (settled ss)) names ≡ map (held all ss) names
  settled_sets [] = refl
  settled_sets (name ∷ names) = ap₂ ◌∷◌ (settled_held name all ss) (settled_sets names)
