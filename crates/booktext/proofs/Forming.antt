-- Laws for `never_7`: what rows 43 to 54 leave of a text, as far as a well-formed book asks it. Assumes nothing.
use mathlib.Core.Path.{◌≡◌, refl, sym, ap, subst, ◌∙◌}
use mathlib.Core.Bool.{Bool, true, false, cond, not, ◌&&◌, ◌||◌, true≢false}
use mathlib.Core.List.{List, [], ◌∷◌, ◌++◌, map}
use Prim.Native.Nat.{ℕ, suc, ◌+◌, ◌≤◌, ◌<◌}
use native.Mathlib.Omega.{arith}
use lib.Dec.{eqb, leb, ltb}
use lib.ListN.{length, length-append, length-map}
use borrow.Author.Tests.{eqb-true, eqb-false, eq-eqb, leb-false, le-leb, ltb-false}
use Rattle.hl7.specs.Bytes.{within, same, among}
use Rattle.hl7.proofs.Comparing.{and_both, same_equal, same_self, among-append}
use Rattle.grade.specs.Book.{distinct, keys}
use Rattle.grade.specs.Encoding.{each, spell_all, text_fits, set_fits, section_fits, section_bytes}
use Rattle.grade.specs.Limits.{book_limit, section_limit, rule_limit, set_limit, key_limit, code_count_limit}
use Rattle.grade.specs.Rule.{rule_fits}
use Rattle.booktext.specs.Lines.{Statement, word, verb, says, makes_rule, statements_from, unless_silent, words_in, said, line_of, number_from, a_set, a_section}
use Rattle.booktext.specs.Words.{kind_number, a_code_kind}
use Rattle.booktext.specs.Meaning.{body, from, expand}
use Rattle.booktext.specs.Changes.{settled}
use Rattle.booktext.specs.Contents.{made, rules_of, asks_code, pinned, named, with_name, with_names, names_of, held, contents_of, section_of, sections_in}
use Rattle.booktext.specs.Faults.{Told, firstly, nothing, tell, key_right}
use Rattle.booktext.specs.Refusals.{at_of, is_first, lacks, name_fault, first_name_fault, used_twice, statement_limit, first_rule_fault, first_stray, first_bad_set, over, section_told, sections_told}
use Rattle.booktext.specs.Standing.{sound, ready}
use Rattle.booktext.proofs.Sounding.{sounds}
use Rattle.booktext.proofs.Each.{each-body}
use Rattle.booktext.proofs.Fitting.{held_fit}
use Rattle.booktext.proofs.Ruling.{rule_fits_lem}
use Rattle.booktext.proofs.Settling.{kind_few, settled-ready}
use Rattle.booktext.proofs.Including.{plainly, expand-ready}

-- ---- the first that refuses

pub firstly_both : (a b : Told) → (firstly a b).number ≡ 0 → (a.number ≡ 0) × (b.number ≡ 0)
firstly_both a b h = by (eqb a.number 0) refl h
  where
    by : (e : Bool) → eqb a.number 0 ≡ e → (cond e b a).number ≡ 0 → (a.number ≡ 0) × (b.number ≡ 0)
    by true e h = (eqb-true a.number 0 e, h)
    by false e h = absurd (true≢false (sym (eq-eqb a.number 0 h) ∙ e))

-- a row that tells a number other than 0 does not hold
pub over_none : (number line : ℕ) (holds : Bool) → (over (suc number) line holds).number ≡ 0 → holds ≡ false
over_none number line true h = absurd (omega (arith, h))
over_none number line false h = refl

-- ---- rows 43 and 44

-- a chain of rows tells nothing: none of them holds
rows_none : (a b c : Bool) → ◌≡◌ {A = ℕ} (cond a 43 (cond b 44 (cond c 45 0))) 0 → (a ≡ false) × (b ≡ false)
rows_none true b c h = absurd (omega (arith, h))
rows_none false true c h = absurd (omega (arith, h))
rows_none false false c h = (refl, refl)

-- what they leave of a statement with so many sections before it
named-passes : (all : List Statement) (count : ℕ) (s : Statement) → name_fault all count s ≡ 0
    → ((within a_set a_section (verb s) && not (is_first all s)) ≡ false) × ((says a_section s && leb section_limit count) ≡ false)
unfolding name_fault
named-passes all count s h = rows_none (within a_set a_section (verb s) && not (is_first all s)) (says a_section s && leb section_limit count) (lacks all s) h

-- of each section: no earlier one has its key
abbrev pub key_first : List Statement → Statement → Bool
key_first all s = not (says a_section s) || is_first all s

then_first : (w f : Bool) → (w && not f) ≡ false → w ≡ true → f ≡ true
then_first true true h e = refl
then_first true false h e = absurd (true≢false h)
then_first false f h e = absurd (true≢false (sym e))

key_first_lem : (all : List Statement) (s : Statement) → (within a_set a_section (verb s) && not (is_first all s)) ≡ false → key_first all s ≡ true
key_first_lem all s h = by (says a_section s) refl
  where
    by : (b : Bool) → says a_section s ≡ b → (not b || is_first all s) ≡ true
    by false e = refl
    by true e = then_first (within a_set a_section (verb s)) (is_first all s) h (ap (within a_set a_section) (eqb-true (verb s) a_section e))

pub record Passed (all : List Statement) (count : ℕ) (ss : List Statement) : Type 0 where
  pub firsts : each (key_first all) ss ≡ true
  pub some : 1 ≤ count + length (sections_in all ss)
  pub few : count + length (sections_in all ss) ≤ section_limit

-- rows 43 and 44 of what follows so many sections
pub names-passed : (t : List ℕ) (all : List Statement) (count : ℕ) (ss : List Statement) → count ≤ section_limit → (first_name_fault t all count ss).number ≡ 0 → Passed all count ss
unfolding first_name_fault sections_in
names-passed t all count [] near h = record { firsts = refl; some = at_end_lem (eqb count 0) refl h; few = omega arith }
  where
    at_end_lem : (b : Bool) → eqb count 0 ≡ b → (cond b (tell 44 0 0) nothing).number ≡ 0 → 1 ≤ count + 0
    at_end_lem true e h = absurd (omega (arith, h))
    at_end_lem false e h = omega (arith, eqb-false count 0 e)
names-passed t all count (s ∷ ss) near h = by (eqb (name_fault all count s) 0) refl h (names-passed t all (suc count) ss) (names-passed t all count ss)
  where
    Later : ℕ → Type 0
    Later n = n ≤ section_limit → (first_name_fault t all n ss).number ≡ 0 → Passed all n ss

    of : (b : Bool) → says a_section s ≡ b → key_first all s ≡ true → (b && leb section_limit count) ≡ false → (first_name_fault t all (cond b (suc count) count) ss).number ≡ 0 → Later (suc count) → Later count
        → Passed all count (s ∷ ss)
    of true e first few h more same =
        let p = more (leb-false section_limit count few) h in
        record { firsts = rw (first, p.firsts) refl; some = rw e (omega (arith, p.some)); few = rw e (omega (arith, p.few)) }
    of false e first few h more same =
        let p = same near h in
        record { firsts = rw (first, p.firsts) refl; some = rw e p.some; few = rw e p.few }

    by : (b : Bool) → eqb (name_fault all count s) 0 ≡ b
        → (cond b (first_name_fault t all (cond (says a_section s) (suc count) count) ss) (tell (name_fault all count s) (line_of t s.at) 0)).number ≡ 0
        → Later (suc count) → Later count
        → Passed all count (s ∷ ss)
    by true e h more same =
        let p = named-passes all count s (eqb-true (name_fault all count s) 0 e) in
        of (says a_section s) refl (key_first_lem all s p.0) p.1 h more same
    by false e h more same = absurd (true≢false (sym (eq-eqb (name_fault all count s) 0 h) ∙ e))

-- ---- keys differ

-- positions rise, from one on
abbrev pub Rising : ℕ → List Statement → Type 0
Rising n [] = Unit
Rising n (s ∷ ss) = (n ≤ s.at) × Rising (suc s.at) ss

rising_from : {n m : ℕ} (ss : List Statement) → n ≤ m → Rising m ss → Rising n ss
rising_from [] h r = tt
rising_from (s ∷ ss) h r = (omega (arith, r.0), r.1)

-- the statements of lines that begin at a position
pub statements_rise : (at : ℕ) (lines : List (List ℕ)) → Rising at (statements_from at lines)
unfolding statements_from unless_silent
statements_rise at [] = tt
statements_rise at (line ∷ lines) = by (words_in (said line)) (statements_rise (at + length line + 1) lines)
  where
    by : (words : List (List ℕ)) → Rising (at + length line + 1) (statements_from (at + length line + 1) lines) → Rising at (unless_silent at words (statements_from (at + length line + 1) lines))
    by [] r = rising_from (statements_from (at + length line + 1) lines) (omega arith) r
    by (w ∷ words) r = (omega arith, rising_from (statements_from (at + length line + 1) lines) (omega arith) r)

-- where the first section with its key stands
first-here : (all : List Statement) (s : Statement) → says a_section s ≡ true → is_first all s ≡ true → at_of (from a_section (word s 1) all) ≡ s.at
first-here all s v f = ap (λ (k : ℕ). at_of (from k (word s 1) all)) (sym (eqb-true (verb s) a_section v)) ∙ eqb-true (at_of (from (verb s) (word s 1) all)) s.at f

-- a key whose first section stands before a position is none of a section's after it
key-gone : (all : List Statement) (key : List ℕ) (n : ℕ) (ss : List Statement) → at_of (from a_section key all) < n → Rising n ss → each (key_first all) ss ≡ true → among key (keys (sections_in all ss)) ≡ false
unfolding sections_in contents_of among
key-gone all key n [] h r e = refl
key-gone all key n (s ∷ ss) h r e =
    let both = and_both (key_first all s) (each (key_first all) ss) e in
    by (says a_section s) refl both.0 (key-gone all key (suc s.at) ss (omega (arith, r.0)) r.1 both.1)
  where
    differs : (b : Bool) → same key (word s 1) ≡ b → says a_section s ≡ true → is_first all s ≡ true → b ≡ false
    differs false e v f = refl
    differs true e v f =
        let here : at_of (from a_section key all) ≡ s.at = ap (λ (k : List ℕ). at_of (from a_section k all)) (same_equal key (word s 1) e) ∙ first-here all s v f in
        absurd (omega (arith, h, r.0, here))

    by : (b : Bool) → says a_section s ≡ b → (not b || is_first all s) ≡ true → among key (keys (sections_in all ss)) ≡ false
        → among key (keys (cond b (section_of all s ss ∷ sections_in all ss) (sections_in all ss))) ≡ false
    by false v f ih = ih
    by true v f ih = rw (differs (same key (word s 1)) refl v f, ih) refl

pub keys_differ : (all : List Statement) (n : ℕ) (ss : List Statement) → Rising n ss → each (key_first all) ss ≡ true → distinct (keys (sections_in all ss)) ≡ true
unfolding sections_in contents_of distinct
keys_differ all n [] r e = refl
keys_differ all n (s ∷ ss) r e =
    let both = and_both (key_first all s) (each (key_first all) ss) e in
    by (says a_section s) refl both.0 both.1 (keys_differ all (suc s.at) ss r.1 both.1)
  where
    by : (b : Bool) → says a_section s ≡ b → (not b || is_first all s) ≡ true → each (key_first all) ss ≡ true → distinct (keys (sections_in all ss)) ≡ true
        → distinct (keys (cond b (section_of all s ss ∷ sections_in all ss) (sections_in all ss))) ≡ true
    by false v f others ih = ih
    by true v f others ih =
        let here = first-here all s v f in
        rw (key-gone all (word s 1) (suc s.at) ss (omega (arith, here)) r.1 others, ih) refl

-- ---- rows 46 to 56 of a section

-- what they leave of a section that follows so many bytes
pub record SectionPassed (t : List ℕ) (all : List Statement) (size : ℕ) (s : Statement) (after : List Statement) : Type 0 where
  pub few : length (expand all (body after)) ≤ statement_limit
  pub rules : length (section_of all s after).rules ≤ rule_limit
  pub sets : length (section_of all s after).sets ≤ set_limit
  pub codes : (first_bad_set t (line_of t s.at) all (expand all (body after)) (names_of (settled (expand all (body after))))).number ≡ 0
  pub short : size + length (section_bytes (section_of all s after)) ≤ book_limit

pub section-passed : (t : List ℕ) (all : List Statement) (size : ℕ) (s : Statement) (after : List Statement) → (section_told t all size s after).number ≡ 0 → SectionPassed t all size s after
unfolding section_told
section-passed t all size s after h =
    let line = line_of t s.at in
    let c = section_of all s after in
    let ss = expand all (body after) in
    let bad = first_bad_set t line all ss (names_of (settled ss)) in
    let stray = first_stray t line (names_of (settled ss)) ss in
    let late = firstly stray (firstly bad (over 54 line (ltb book_limit (size + length (section_bytes c))))) in
    let a = firstly_both (used_twice t line after (body after)) _ h in
    let b = firstly_both (over 56 line (ltb statement_limit (length ss))) _ a.1 in
    let d = firstly_both (first_rule_fault t all line [] ss) _ b.1 in
    let e = firstly_both (over 50 line (ltb rule_limit (length c.rules))) (firstly (over 51 line (ltb set_limit (length c.sets))) late) d.1 in
    let f = firstly_both (over 51 line (ltb set_limit (length c.sets))) late e.1 in
    let k = firstly_both stray (firstly bad (over 54 line (ltb book_limit (size + length (section_bytes c))))) f.1 in
    let g = firstly_both bad (over 54 line (ltb book_limit (size + length (section_bytes c)))) k.1 in
    record {
      few = ltb-false statement_limit (length ss) (over_none 55 line (ltb statement_limit (length ss)) b.0);
      rules = ltb-false rule_limit (length c.rules) (over_none 49 line (ltb rule_limit (length c.rules)) e.0);
      sets = ltb-false set_limit (length c.sets) (over_none 50 line (ltb set_limit (length c.sets)) f.0);
      codes = g.0;
      short = ltb-false book_limit (size + length (section_bytes c)) (over_none 53 line (ltb book_limit (size + length (section_bytes c))) g.1);
    }

-- ---- row 54

pub sizes_fit : (t : List ℕ) (all : List Statement) (size : ℕ) (ss : List Statement) → size ≤ book_limit → (sections_told t all size ss).number ≡ 0 → size + length (spell_all section_bytes (sections_in all ss)) ≤ book_limit
unfolding sections_told sections_in
sizes_fit t all size [] h e = omega arith
sizes_fit t all size (s ∷ ss) h e = by (says a_section s) refl e (sizes_fit t all (size + length (section_bytes (section_of all s ss))) ss) (sizes_fit t all size ss)
  where
    Later : ℕ → Type 0
    Later n = n ≤ book_limit → (sections_told t all n ss).number ≡ 0 → n + length (spell_all section_bytes (sections_in all ss)) ≤ book_limit

    by : (b : Bool) → says a_section s ≡ b
        → (cond b (firstly (section_told t all size s ss) (sections_told t all (size + length (section_bytes (section_of all s ss))) ss)) (sections_told t all size ss)).number ≡ 0
        → Later (size + length (section_bytes (section_of all s ss))) → Later size
        → size + length (spell_all section_bytes (cond b (section_of all s ss ∷ sections_in all ss) (sections_in all ss))) ≤ book_limit
    by false v e more others = others h e
    by true v e more others =
        let both = firstly_both (section_told t all size s ss) (sections_told t all (size + length (section_bytes (section_of all s ss))) ss) e in
        let fits = (section-passed t all size s ss both.0).short in
        omega (arith, more fits both.1, length-append (section_bytes (section_of all s ss)) (spell_all section_bytes (sections_in all ss)))

-- ---- the names of a section's sets

among_later : (x : List ℕ) (xs ys : List (List ℕ)) → among x ys ≡ true → among x (xs ++ ys) ≡ true
among_later x xs ys h = among-append x xs ys ∙ by (among x xs)
  where
    by : (b : Bool) → (b || among x ys) ≡ true
    by true = refl
    by false = h

-- one that is among names stays among them
held-name : (x : List ℕ) (names : List (List ℕ)) (name : List ℕ) → among x names ≡ true → among x (with_name names name) ≡ true
unfolding among
held-name x names name h = by (among name names)
  where
    by : (b : Bool) → among x (cond b names (names ++ (name ∷ []))) ≡ true
    by true = h
    by false = rw (among-append x names (name ∷ []), h) refl

new_name_lem : (names : List (List ℕ)) (name : List ℕ) → among name (with_name names name) ≡ true
unfolding among
new_name_lem names name = by (among name names) refl
  where
    or_true : (b : Bool) → (b || true) ≡ true
    or_true true = refl
    or_true false = refl

    by : (b : Bool) → among name names ≡ b → among name (cond b names (names ++ (name ∷ []))) ≡ true
    by true e = e
    by false e = rw (among-append name names (name ∷ []), same_self name) (or_true (among name names))

held-names : (x : List ℕ) (names more : List (List ℕ)) → among x names ≡ true → among x (with_names names more) ≡ true
unfolding with_names
held-names x names [] h = h
held-names x names (name ∷ more) h = held-names x (with_name names name) more (held-name x names name h)

new_names : (x : List ℕ) (names more : List (List ℕ)) → among x more ≡ true → among x (with_names names more) ≡ true
unfolding with_names among
new_names x names [] h = absurd (true≢false (sym h))
new_names x names (name ∷ more) h = by (same x name) refl h (new_names x (with_name names name) more)
  where
    by : (b : Bool) → same x name ≡ b → (b || among x more) ≡ true → (among x more ≡ true → among x (with_names (with_name names name) more) ≡ true) → among x (with_names (with_name names name) more) ≡ true
    by true e h ih = held-names x (with_name names name) more (ap (λ (y : List ℕ). among y (with_name names name)) (same_equal x name e) ∙ new_name_lem names name)
    by false e h ih = ih h

-- the name that a rule of kind CODE gives is among them
abbrev pub name_held : List (List ℕ) → Statement → Bool
name_held names s = not (asks_code s) || among (word s 4) names

each-held : (names : List (List ℕ)) (ss : List Statement) → ((x : List ℕ) → among x (named ss) ≡ true → among x names ≡ true) → each (name_held names) ss ≡ true
unfolding named among
each-held names [] h = refl
each-held names (s ∷ ss) h = by (asks_code s) h (each-held names ss)
  where
    later : (x : List ℕ) (b : Bool) → b ≡ true → (same x (word s 4) || b) ≡ true
    later x b e = rest (same x (word s 4))
      where
        rest : (c : Bool) → (c || b) ≡ true
        rest true = refl
        rest false = e

    by : (b : Bool) → ((x : List ℕ) → among x (cond b (word s 4 ∷ named ss) (named ss)) ≡ true → among x names ≡ true)
        → (((x : List ℕ) → among x (named ss) ≡ true → among x names ≡ true) → each (name_held names) ss ≡ true)
        → ((not b || among (word s 4) names) && each (name_held names) ss) ≡ true
    by true h ih = rw (h (word s 4) (rw (same_self (word s 4)) refl), ih (λ x e. h x (later x (among x (named ss)) e))) refl
    by false h ih = ih h

pub names-held : (ss : List Statement) → each (name_held (names_of ss)) ss ≡ true
unfolding names_of
names-held ss = each-held (names_of ss) ss (λ x h. new_names x [] (pinned ss ++ named ss) (among_later x (pinned ss) (named ss) h))

-- and has a number from 1 to as many as they are
pub number-held : (k : ℕ) (w : List ℕ) (names : List (List ℕ)) → among w names ≡ true → (k ≤ number_from k w names) × (number_from k w names < k + length names)
unfolding number_from among
number-held k w [] h = absurd (true≢false (sym h))
number-held k w (name ∷ names) h = by (same w name) h (number-held (suc k) w names)
  where
    by : (b : Bool) → (b || among w names) ≡ true → (among w names ≡ true → (suc k ≤ number_from (suc k) w names) × (number_from (suc k) w names < suc k + length names))
        → (k ≤ cond b k (number_from (suc k) w names)) × (cond b k (number_from (suc k) w names) < k + suc (length names))
    by true h ih = (omega arith, omega arith)
    by false h ih = let i = ih h in (omega (arith, i.0), omega (arith, i.1))

-- ---- sets

pub sets_fit : (t : List ℕ) (line : ℕ) (all ss : List Statement) (names : List (List ℕ)) → each sound all ≡ true → each ready ss ≡ true → (first_bad_set t line all ss names).number ≡ 0 → each set_fits (map (held all ss) names) ≡ true
unfolding first_bad_set
sets_fit t line all ss [] e r h = refl
sets_fit t line all ss (name ∷ names) e r h = by (within 1 code_count_limit (length (held all ss name))) refl h (sets_fit t line all ss names e r)
  where
    by : (b : Bool) → within 1 code_count_limit (length (held all ss name)) ≡ b → (cond b (first_bad_set t line all ss names) (tell 53 (line_of t (at_of (from a_set name all))) line)).number ≡ 0
        → ((first_bad_set t line all ss names).number ≡ 0 → each set_fits (map (held all ss) names) ≡ true) → (set_fits (held all ss name) && each set_fits (map (held all ss) names)) ≡ true
    by true b h ih = rw (b, held_fit all ss name e r, ih h) refl
    by false b h ih = absurd (omega (arith, h))

-- ---- rules

rules_fit : (names : List (List ℕ)) (ss : List Statement) → each ready ss ≡ true → each (name_held names) ss ≡ true → each (rule_fits (length names)) (rules_of names ss) ≡ true
unfolding rules_of
rules_fit names [] e h = refl
rules_fit names (s ∷ ss) e h =
    let both = and_both (ready s) (each ready ss) e in
    let held = and_both (name_held names s) (each (name_held names) ss) h in
    by (makes_rule s) refl both.0 held.0 (rules_fit names ss both.1 held.1)
  where
    in_range_lem : kind_number (word s 2) ≡ a_code_kind → makes_rule s ≡ true → name_held names s ≡ true → within 1 (length names) (number_from 1 (word s 4) names) ≡ true
    in_range_lem k rule h =
        let asks : asks_code s ≡ true = rw (rule, eq-eqb (kind_number (word s 2)) a_code_kind k) refl in
        let n = number-held 1 (word s 4) names (rw asks at h) in
        rw (le-leb 1 (number_from 1 (word s 4) names) n.0, le-leb (number_from 1 (word s 4) names) (length names) (omega (arith, n.1))) refl

    by : (b : Bool) → makes_rule s ≡ b → ready s ≡ true → name_held names s ≡ true → each (rule_fits (length names)) (rules_of names ss) ≡ true
        → each (rule_fits (length names)) (cond b (made names s ∷ rules_of names ss) (rules_of names ss)) ≡ true
    by false rule e h ih = ih
    by true rule e h ih = rw (rule_fits_lem s e rule names (kind_few (word s 2)) (length names) (λ k. in_range_lem k rule h), ih) refl

-- ---- sections

section_fits_lem : (t : List ℕ) (all : List Statement) (size : ℕ) (s : Statement) (after : List Statement)
    → says a_section s ≡ true → sound s ≡ true → each sound all ≡ true → each ready (expand all (body after)) ≡ true → SectionPassed t all size s after
    → section_fits (section_of all s after) ≡ true
unfolding contents_of
section_fits_lem t all size s after v h every e p =
    let ss = expand all (body after) in
    let last = settled ss in
    let names = names_of last in
    let key : text_fits key_limit (word s 1) ≡ true = subst (λ (k : ℕ). key_right k (word s 1) ≡ true) (eqb-true (verb s) a_section v) (sounds s h).key in
    let same-many : length (map (held all ss) names) ≡ length names = length-map names (held all ss) in
    rw (key, le-leb (length (rules_of names last)) rule_limit p.rules, le-leb (length (map (held all ss) names)) set_limit p.sets, same-many, rules_fit names last (settled-ready ss e) (names-held last), sets_fit t (line_of t s.at) all ss names every e p.codes) refl

pub sections_fit : (t : List ℕ) (all : List Statement) (size : ℕ) (ss : List Statement)
    → each sound all ≡ true → each sound ss ≡ true → each plainly ss ≡ true → (sections_told t all size ss).number ≡ 0 → each section_fits (sections_in all ss) ≡ true
unfolding sections_told sections_in
sections_fit t all size [] every e p h = refl
sections_fit t all size (s ∷ ss) every e p h =
    let both = and_both (sound s) (each sound ss) e in
    let plain = and_both (plainly s) (each plainly ss) p in
    by (says a_section s) refl h both.0 both.1 plain.1
    (sections_fit t all (size + length (section_bytes (section_of all s ss))) ss every both.1 plain.1)
    (sections_fit t all size ss every both.1 plain.1)
  where
    Later : ℕ → Type 0
    Later n = (sections_told t all n ss).number ≡ 0 → each section_fits (sections_in all ss) ≡ true

    by : (b : Bool) → says a_section s ≡ b
        → (cond b (firstly (section_told t all size s ss) (sections_told t all (size + length (section_bytes (section_of all s ss))) ss)) (sections_told t all size ss)).number ≡ 0
        → sound s ≡ true → each sound ss ≡ true → each plainly ss ≡ true
        → Later (size + length (section_bytes (section_of all s ss))) → Later size
        → each section_fits (cond b (section_of all s ss ∷ sections_in all ss) (sections_in all ss)) ≡ true
    by false v h e es ps more others = others h
    by true v h e es ps more others =
        let both = firstly_both (section_told t all size s ss) (sections_told t all (size + length (section_bytes (section_of all s ss))) ss) h in
        let own = expand-ready all (body ss) every (each-body sound ss es) (each-body plainly ss ps) in
        rw (section_fits_lem t all size s ss v e every own (section-passed t all size s ss both.0), more both.1) refl
