-- Laws of the rules of a section: how many there are, and their bytes. Assumes nothing.
use Rattle.std.specs.Prelude.{Option, Some, None}
use mathlib.Core.Path.{◌≡◌, refl, sym, ap, ap₂, subst, ◌∙◌}
use mathlib.Core.Bool.{Bool, true, false, cond, not, ◌&&◌, ◌||◌, true≢false}
use mathlib.Core.List.{List, [], ◌∷◌, ◌++◌, map, append-nil, append_assoc}
use Prim.Native.Nat.{ℕ, zero, suc, ◌+◌, ◌-◌, ◌≤◌, ◌<◌}
use Prim.Native.Char.{code}
use native.Mathlib.Omega.{arith}
use native.Mathlib.Decide.{dec_lt}
use lib.Dec.{eqb, leb}
use lib.ListN.{length, get_or, take, drop, get_or-eq_default}
use borrow.Author.Tests.{eq-eqb, ne_eqb, eqb-true, leb-true}
use Rattle.std.specs.List.{count_by}
use Rattle.std.proofs.lemmas.List.Elements.{All-head, All-tail}
use Rattle.std.proofs.lemmas.List.Sums.{sum_by-cons}
use Rattle.hl7.specs.Bytes.{within}
use Rattle.hl7.proofs.Comparing.{and_both}
use Rattle.grade.specs.Rule.{name_bytes, counted, place_fits, severity_of, severity_letter, kind_of, kind_fits, rule_fits, rule_with}
use Rattle.grade.specs.Encoding.{each, spell_all, kind_byte, last_bytes, rule_bytes}
use Rattle.grade.specs.declared.rule.Place.{Place}
use Rattle.grade.specs.declared.rule.Rule.{Rule}
use Rattle.grade.specs.declared.rule.Severity.{Severity}
use Rattle.grade.specs.declared.rule.Kind.{Kind}
use Rattle.grade.proofs.Naming.{name_letters}
use Rattle.ack.specs.Splice.{Wrote}
use Rattle.ack.proofs.Writing.{wrote_as, ◌then◌}
use Rattle.booktext.specs.Lines.{Statement, word, verb, of_rule, makes_rule, number_from, a_rule, an_also}
use Rattle.booktext.specs.Words.{number_in, pointed, place_in, bound_fits, is_place, is_severity, is_severity_word, kind_number, a_length, a_time, a_code_kind}
use Rattle.booktext.specs.Contents.{letter_of, rule_or, made, rules_of}
use Rattle.booktext.specs.Faults.{place_right, kind_right, severity_right, before_bound, bound_right}
use Rattle.booktext.specs.Standing.{statement_at, noted, no_cell, Marked, Marks, sound, ready, CountsRules, place_bytes, bound_bytes}
use Rattle.booktext.specs.Cells.{Cell}
use Rattle.booktext.proofs.Marking.{line_says, noted_as, noted-verb, cells_step, cells_done}
use Rattle.booktext.proofs.Sounding.{Sounds, sounds}

-- ---- verbs of rules

-- what is so of both is so of a rule's
pub rule_verb_lem : (P : ℕ → Type 0) → P a_rule → P an_also → (v : ℕ) → of_rule v ≡ true → P v
rule_verb_lem P first further v e = by (eqb v a_rule) (eqb v an_also) refl refl e
  where
    by : (a b : Bool) → eqb v a_rule ≡ a → eqb v an_also ≡ b → (a || b) ≡ true → P v
    by true b f g h = subst P (sym (eqb-true v a_rule f)) first
    by false true f g h = subst P (sym (eqb-true v an_also g)) further
    by false false f g h = absurd (true≢false (sym h))

module _ (t : List ℕ) (cell : Cell) {v : ℕ} {b : Bool} (f : v ≡ verb (statement_at t cell.line 0)) (g : b ≡ of_rule v) where
  pub asked_rule : {c : Bool} → b ≡ c → makes_rule (noted t cell) ≡ c
  asked_rule e = ap of_rule (noted-verb t cell ∙ sym f) ∙ sym g ∙ e

-- ---- how many rules
pub rules_counted : (t : List ℕ) (cells : List Cell) → Marks t cells → CountsRules (map (noted t) cells) (count_by (λ (c : Cell). of_rule c.verb) cells)
unfolding rules_of
rules_counted t [] m names = refl
rules_counted t (c ∷ cells) m names =
    let same : of_rule c.verb ≡ makes_rule (noted t c) = ap of_rule (All-head (Marked t) c cells m).by_verb in
    sum_by-cons (λ (c : Cell). cond (of_rule c.verb) 1 0) c cells
    ∙ ap (λ (b : Bool). cond b 1 0 + count_by (λ (c : Cell). of_rule c.verb) cells) same
    ∙ by (makes_rule (noted t c)) (made names (noted t c)) (rules_of names (map (noted t) cells)) (rules_counted t cells (All-tail (Marked t) c cells m) names)
  where
    by : (b : Bool) (one : Rule) (later : List Rule) {n : ℕ} → n ≡ length later → cond b 1 0 + n ≡ length (cond b (one ∷ later) later)
    by true one later e = omega (arith, e)
    by false one later e = omega (arith, e)

-- ---- the severity's letter
module _ (t : List ℕ) (cell : Cell) where
  said-letter : letter_of (noted t cell) ≡ letter_of (line_says t cell)
  said-letter = noted_as t cell letter_of (λ bound. refl)

  pub letter-own : {letter : ℕ} {w : List ℕ} → cell.given ≡ 0 → w ≡ word (statement_at t cell.line 0) 3 → letter ≡ get_or w 0 0 → letter ≡ letter_of (noted t cell)
  letter-own none e f = f ∙ ap (λ (w : List ℕ). get_or w 0 0) e ∙ sym (said-letter ∙ rw (eq-eqb (cell.given) 0 none))

  pub letter-given : (cell.given ≡ 0 → ⊥) → cell.given ≡ letter_of (noted t cell)
  letter-given some = sym (said-letter ∙ rw (ne_eqb (cell.given) 0 some))

-- ---- parts of the ten bytes
pub bound-written : (kind set low high : ℕ) {o p q r : List ℕ} {at b c d x y z : ℕ} → Wrote o at (x ∷ []) p b → Wrote p b (y ∷ []) q c → Wrote q c (z ∷ []) r d
    → x ≡ cond (eqb kind a_code_kind) set 0 → y ≡ cond (eqb kind a_length || eqb kind a_time) low 0 → z ≡ cond (eqb kind a_length) high 0
    → Wrote o at (bound_bytes kind set low high) r d
bound-written kind set low high u v w ex ey ez = wrote_as (u then v then w) (rw (ex, ey, ez))

-- a place begins with the name of its segment
place-name : (w : List ℕ) → is_place w ≡ true → take 3 w ≡ name_bytes (place_in w).segment
unfolding is_place place_in place_fits
place-name w h =
    let parts = and_both _ (place_fits (place_in w)) h in
    let hyphen = (and_both (eqb (get_or w 3 0) (code "-")) _ parts.0).0 in
    let fits = (and_both (counted (place_in w).segment) _ (and_both _ (leb (place_in w).component 20) parts.1).0).0 in
    three w (long (dec_lt (length w) 4) (eqb-true (get_or w 3 0) (code "-") hyphen)) ∙ name_letters (get_or w 0 0) (get_or w 1 0) (get_or w 2 0) _ fits refl
  where
    long : Dec (length w < 4) → get_or w 3 0 ≡ 45 → 3 ≤ length w
    long (yes short) e = let none : get_or w 3 0 ≡ 0 = get_or-eq_default w 0 (omega arith) in absurd (omega arith)
    long (no far) e = omega arith

    three : (w : List ℕ) → 3 ≤ length w → take 3 w ≡ get_or w 0 0 ∷ get_or w 1 0 ∷ get_or w 2 0 ∷ []
    three [] k = absurd (omega arith)
    three (a ∷ []) k = absurd (omega arith)
    three (a ∷ b ∷ []) k = absurd (omega arith)
    three (a ∷ b ∷ c ∷ w) k = refl

pub place-written : (w : List ℕ) {o p q r f : List ℕ} {at b c d : ℕ} {place : Place} → is_place w ≡ true → place ≡ place_in w → f ≡ take 3 w
    → Wrote o at f p b → Wrote p b (place.field ∷ []) q c → Wrote q c (place.component ∷ []) r d → Wrote o at (place_bytes (place_in w)) r d
place-written w h e g x y z = wrote_as (x then y then z) (rw (e, g, place-name w h))

-- ---- a rule's severity and kind, and their bytes
record SeveritySaid (letter : ℕ) : Type 0 where
  severity : Severity
  reads : severity_of letter ≡ Some severity
  spelt : severity_letter severity ≡ letter

severity_said : (letter : ℕ) → is_severity (severity_of letter) ≡ true → SeveritySaid letter
unfolding severity_of
severity_said letter h = by (eqb letter 69) (eqb letter 87) (eqb letter 73) refl refl refl h
  where
    by : (e w i : Bool) → eqb letter 69 ≡ e → eqb letter 87 ≡ w → eqb letter 73 ≡ i
        → is_severity (cond e (Some Severity.Error) (cond w (Some Severity.Warning) (cond i (Some Severity.Informational) None))) ≡ true → SeveritySaid letter
    by true w i f g k h = record { severity = Severity.Error; reads = rw f; spelt = sym (eqb-true letter 69 f) }
    by false true i f g k h = record { severity = Severity.Warning; reads = rw (f, g); spelt = sym (eqb-true letter 87 g) }
    by false false true f g k h = record { severity = Severity.Informational; reads = rw (f, g, k); spelt = sym (eqb-true letter 73 k) }
    by false false false f g k h = absurd (true≢false (sym h))

record KindSaid (number set low high : ℕ) : Type 0 where
  kind : Kind
  reads : kind_of number set low high ≡ Some kind
  spelt : kind_byte kind ∷ last_bytes kind ≡ number ∷ bound_bytes number set low high
  fits : (n count : ℕ) (w x : List ℕ) → low ≡ number_in w → high ≡ number_in x → bound_fits number count w x ≡ true → (number ≡ a_code_kind → within 1 n set ≡ true) → kind_fits n kind ≡ true

kind_said : (number set low high : ℕ) → 1 ≤ number → number ≤ 6 → KindSaid number set low high
unfolding kind_of bound_fits
kind_said zero set low high least most = absurd (omega arith)
kind_said (suc zero) set low high least most = record { kind = Kind.Required; reads = refl; spelt = refl; fits = λ n count w x e f h g. refl }
kind_said (suc (suc zero)) set low high least most = record { kind = Kind.Length low high; reads = refl; spelt = refl; fits = λ n count w x e f h g. rw (e, f) (and_both (eqb count 2) _ h).1 }
kind_said (suc (suc (suc zero))) set low high least most = record { kind = Kind.Number; reads = refl; spelt = refl; fits = λ n count w x e f h g. refl }
kind_said (suc (suc (suc (suc zero)))) set low high least most = record { kind = Kind.Date; reads = refl; spelt = refl; fits = λ n count w x e f h g. refl }
kind_said (suc (suc (suc (suc (suc zero))))) set low high least most = record { kind = Kind.Time low; reads = refl; spelt = refl; fits = λ n count w x e f h g. rw e (and_both (eqb count 1) _ h).1 }
kind_said (suc (suc (suc (suc (suc (suc zero)))))) set low high least most = record { kind = Kind.Code set; reads = refl; spelt = refl; fits = λ n count w x e f h g. g refl }
kind_said (suc (suc (suc (suc (suc (suc (suc number))))))) set low high least most = absurd (omega arith)

place_fits_lem : (w : List ℕ) → is_place w ≡ true → place_fits (place_in w) ≡ true
unfolding is_place
place_fits_lem w h = (and_both (eqb (get_or w 3 0) (code "-") && (not (pointed w) || leb 1 (place_in w).component)) (place_fits (place_in w)) h).1

-- ---- the ten bytes
module _ (s : Statement) (ok : ready s ≡ true) (rule : makes_rule s ≡ true) where
  pub right : Sounds s
  unfolding ready
  right = sounds s (and_both (sound s) _ ok).0

  pub rule-place : is_place (word s 1) ≡ true
  rule-place = rule_verb_lem (λ (v : ℕ). place_right v (word s 1) ≡ true → is_place (word s 1) ≡ true) (λ h. h) (λ h. h) (verb s) rule right.place

  pub rule_kind : 1 ≤ kind_number (word s 2)
  rule_kind = leb-true 1 (kind_number (word s 2)) (rule_verb_lem (λ (v : ℕ). kind_right v (word s 2) ≡ true → leb 1 (kind_number (word s 2)) ≡ true) (λ h. h) (λ h. h) (verb s) rule right.kind)

  pub rule-own : is_severity_word (word s 3) ≡ true
  rule-own = rule_verb_lem (λ (v : ℕ). severity_right v (length s.words) (word s 2) (word s 3) ≡ true → is_severity_word (word s 3) ≡ true) (λ h. h) (λ h. h) (verb s) rule right.severity

  rule-letter : is_severity (severity_of (letter_of s)) ≡ true
  unfolding ready is_severity_word
  rule-letter = by (eqb s.given 0) (and_both (eqb (length (word s 3)) 1) _ rule-own).1 (and_both (sound s) _ ok).1
    where
      by : (b : Bool) → is_severity (severity_of (get_or (word s 3) 0 0)) ≡ true → (b || is_severity (severity_of s.given)) ≡ true → is_severity (severity_of (cond b (get_or (word s 3) 0 0) s.given)) ≡ true
      by true o g = o
      by false o g = g

  pub rule-bound : bound_fits (kind_number (word s 2)) (length s.words - 4) (word s 4) (word s 5) ≡ true
  rule-bound =
      rule_verb_lem
      (λ (v : ℕ). bound_right v (length s.words) (word s 2) (word s (before_bound v)) (word s (suc (before_bound v))) ≡ true → bound_fits (kind_number (word s 2)) (length s.words - 4) (word s 4) (word s 5) ≡ true)
      (λ h. h)
      (λ h. h)
      (verb s)
      rule
      right.bound

  module _ (names : List (List ℕ)) (most : kind_number (word s 2) ≤ 6) where
    -- it fits a section with so many sets, where the set that it names is one of them
    pub rule_fits_lem : (n : ℕ) → (kind_number (word s 2) ≡ a_code_kind → within 1 n (number_from 1 (word s 4) names) ≡ true) → rule_fits n (made names s) ≡ true
    unfolding made
    rule_fits_lem n held =
        let severity = severity_said (letter_of s) rule-letter in
        let kind = kind_said (kind_number (word s 2)) (number_from 1 (word s 4) names) (number_in (word s 4)) (number_in (word s 5)) rule_kind most in
        let place = place_in (word s 1) in
        let bound = rule-bound in
        ap₂ (λ (x : Option Severity) (y : Option Kind). rule_fits n (rule_or (rule_with place x y))) severity.reads kind.reads
        ∙ rw (place_fits_lem (word s 1) rule-place, kind.fits n (length s.words - 4) (word s 4) (word s 5) refl refl bound held) refl

    rule-spelt : rule_bytes (made names s)
        ≡ place_bytes (place_in (word s 1)) ++ (kind_number (word s 2) ∷ letter_of s ∷ bound_bytes (kind_number (word s 2)) (number_from 1 (word s 4) names) (number_in (word s 4)) (number_in (word s 5)))
    unfolding made
    rule-spelt =
        let severity = severity_said (letter_of s) rule-letter in
        let kind = kind_said (kind_number (word s 2)) (number_from 1 (word s 4) names) (number_in (word s 4)) (number_in (word s 5)) rule_kind most in
        let place = place_in (word s 1) in
        ap₂ (λ (x : Option Severity) (y : Option Kind). rule_bytes (rule_or (rule_with place x y))) severity.reads kind.reads
        ∙ sym (append_assoc (name_bytes place.segment) (place.field ∷ place.component ∷ []) (kind_byte kind.kind ∷ severity_letter severity.severity ∷ last_bytes kind.kind))
        ∙ ap₂ (λ (l : List ℕ) (x : ℕ). place_bytes place ++ (get_or l 0 0 ∷ x ∷ drop 1 l)) kind.spelt severity.spelt

  pub rule-written : (names : List (List ℕ)) {o p q r u first second low_word high_word_lem : List ℕ} {at b c d e kind set low high letter : ℕ}
      → first ≡ word s 1 → second ≡ word s 2 → (kind ≡ kind_number second) × (kind ≤ 6)
      → low_word ≡ word s 4 → set ≡ number_from 1 low_word names → low ≡ number_in low_word → high_word_lem ≡ word s 5 → high ≡ number_in high_word_lem → letter ≡ letter_of s
      → Wrote o at (place_bytes (place_in first)) p b → Wrote p b (kind ∷ []) q c → Wrote q c (letter ∷ []) r d → Wrote r d (bound_bytes kind set low high) u e
      → Wrote o at (rule_bytes (made names s)) u e
  rule-written names ef es ek elw eset el ehw eh ele w x y z =
      let most : kind_number (word s 2) ≤ 6 = omega (arith, ek.1, ek.0 ∙ ap kind_number es) in
      wrote_as (w then x then y then z) (rw (ek.0, ef, es, eset, el, elw, eh, ehw, ele) (sym (rule-spelt names most)))

-- ---- rules written one after the other
module _ (names : List (List ℕ)) where
  -- that of one statement, where it makes one
  module _ (t : List ℕ) (cell : Cell) {v : ℕ} {b : Bool} (f : v ≡ verb (statement_at t cell.line 0)) (g : b ≡ of_rule v) {o p : List ℕ} {at r : ℕ} where
    pub made-written : b ≡ true → Wrote o at (rule_bytes (made names (noted t cell))) p r → Wrote o at (spell_all rule_bytes (rules_of names (noted t cell ∷ []))) p r
    unfolding rules_of
    made-written e w = wrote_as w (sym (rw (asked_rule t cell f g e) (append-nil (rule_bytes (made names (noted t cell))))))

    pub none_written : b ≡ false → Wrote o at [] p r → Wrote o at (spell_all rule_bytes (rules_of names (noted t cell ∷ []))) p r
    unfolding rules_of
    none_written e w = wrote_as w (sym (rw (asked_rule t cell f g e)))

  module _ (t : List ℕ) (cells : List Cell) (i : ℕ) where
    -- the rules of the cells from i on
    abbrev pub spelt_from : List ℕ
    spelt_from = spell_all rule_bytes (rules_of names (map (noted t) (drop i cells)))

    pub spelt_more : i < length cells → spelt_from ≡ spell_all rule_bytes (rules_of names (noted t (get_or cells i no_cell) ∷ [])) ++ spell_all rule_bytes (rules_of names (map (noted t) (drop (i + 1) cells)))
    unfolding rules_of
    spelt_more h =
        ap (λ (l : List Statement). spell_all rule_bytes (rules_of names l)) (cells_step (noted t) cells i h)
        ∙ by (makes_rule (noted t (get_or cells i no_cell))) (made names (noted t (get_or cells i no_cell))) (rules_of names (map (noted t) (drop (i + 1) cells)))
      where
        by : (b : Bool) (one : Rule) (later : List Rule) → spell_all rule_bytes (cond b (one ∷ later) later) ≡ spell_all rule_bytes (cond b (one ∷ []) []) ++ spell_all rule_bytes later
        by true one later = rw (append-nil (rule_bytes one))
        by false one later = refl

    pub spelt-over : length cells ≤ i → spelt_from ≡ []
    unfolding rules_of
    spelt-over h = ap (λ (l : List Statement). spell_all rule_bytes (rules_of names l)) (cells_done (noted t) cells i h)

pub ready_more : (t : List ℕ) (cells : List Cell) (i : ℕ) → i < length cells → each ready (map (noted t) (drop i cells)) ≡ true → (ready (noted t (get_or cells i no_cell)) ≡ true) × (each ready (map (noted t) (drop (i + 1) cells)) ≡ true)
ready_more t cells i h e = and_both (ready (noted t (get_or cells i no_cell))) _ (sym (ap (each ready) (cells_step (noted t) cells i h)) ∙ e)
