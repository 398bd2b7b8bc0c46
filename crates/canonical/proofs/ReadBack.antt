-- Numbers, places, kinds, severities and names that were spelled are read back, and what was spelled is a word. Assumes nothing.
use Rattle.std.specs.Prelude.{Some}
use mathlib.Core.Path.{◌≡◌, refl, sym, ap, ap₂, ◌∙◌}
use mathlib.Core.Bool.{Bool, true, false, cond, not, ◌&&◌, ◌||◌, and-false, true≢false}
use mathlib.Core.List.{List, [], ◌∷◌, ◌++◌, head-eq_of_cons-eq, tail-eq_of_cons-eq}
use Prim.Native.Char.{code}
use Prim.Native.Nat.{ℕ, ◌≤◌}
use native.Mathlib.Omega.{arith}
use lib.Dec.{eqb, leb}
use lib.ListN.{length, get_or, length-append}
use borrow.Author.Tests.{leb-true, eqb-true, le-leb}
use Rattle.hl7.specs.Bytes.{within, all, differs, same}
use Rattle.hl7.specs.Cut.{ahead, cut}
use Rattle.hl7.specs.Number.{value_after}
use Rattle.hl7.proofs.Comparing.{and_both, all_append, all_as, upto, upto-at, same_self, same_equal}
use Rattle.grade.specs.Book.{plain}
use Rattle.grade.specs.Encoding.{text_fits, kind_byte}
use Rattle.grade.specs.Limits.{field_limit, component_limit}
use Rattle.grade.specs.Rule.{segment_names, name_bytes, counted, first_field, place_fits, severity_of, severity_letter}
use Rattle.grade.specs.declared.rule.Kind.{Kind}
use Rattle.grade.specs.declared.rule.Place.{Place}
use Rattle.grade.specs.declared.rule.Severity.{Severity}
use Rattle.grade.proofs.Naming.{at-counted, letters_name}
use Rattle.ack.specs.Decimal.{last_digits, decimal}
use Rattle.booktext.specs.Lines.{number_from}
use Rattle.booktext.specs.Words.{is_number, number_in, field_word, pointed, component_word, place_in, is_place, is_severity_word, kind_names, kind_number}
use Rattle.canonical.specs.Shown.{set_name, place_word, kind_word}
use Rattle.canonical.proofs.Printing.{Clean, is_word, word-clean}

-- ---- texts
plain-clean : (x : ℕ) → plain x ≡ true → Clean x ≡ true
plain-clean x e = by (plain x) (Clean x) (upto-at (λ (k : ℕ). not (plain k) || Clean k) 127 x refl (omega (arith, high))) e
  where
    by : (b c : Bool) → (not b || c) ≡ true → b ≡ true → c ≡ true
    by true c f g = f
    by false c f g = absurd (true≢false (sym g))

    high : x ≤ 126
    high =
        let t = and_both _ (not (eqb x (code "&"))) e in
        let u = and_both _ (not (eqb x (code "\\"))) t.0 in
        let v = and_both _ (not (eqb x (code "~"))) u.0 in
        let w = and_both _ (not (eqb x (code "^"))) v.0 in
        let y = and_both (within 33 126 x) (not (eqb x (code "|"))) w.0 in
        leb-true x 126 (and_both (leb 33 x) (leb x 126) y.0).1

-- a key or a code is a word
pub text-word : (limit : ℕ) (w : List ℕ) → text_fits limit w ≡ true → is_word w ≡ true
text-word limit w e =
    let both = and_both (within 1 limit (length w)) (all plain w) e in
    ap₂ ◌&&◌ (and_both (leb 1 (length w)) (leb (length w) limit) both.0).0 (all_as plain Clean plain-clean w both.1)

-- ---- numbers
abbrev number_back : ℕ → Bool
number_back n = eqb (number_in (decimal n)) n && is_word (decimal n) && all (differs (code "/")) (decimal n)

numbers_back : upto number_back 256 ≡ true
unfolding decimal last_digits value_after is_number number_in all
numbers_back = refl

module _ (n : ℕ) (h : n ≤ 255) where
  number_of : (eqb (number_in (decimal n)) n && is_word (decimal n) ≡ true) × (all (differs (code "/")) (decimal n) ≡ true)
  number_of = and_both (eqb (number_in (decimal n)) n && is_word (decimal n)) (all (differs (code "/")) (decimal n)) (upto-at number_back 256 n numbers_back (omega arith))

  pub number_back_lem : number_in (decimal n) ≡ n
  number_back_lem = eqb-true (number_in (decimal n)) n (and_both (eqb (number_in (decimal n)) n) (is_word (decimal n)) number_of.0).0

  pub number_word : is_word (decimal n) ≡ true
  number_word = (and_both (eqb (number_in (decimal n)) n) (is_word (decimal n)) number_of.0).1

  no_slash : all (differs (code "/")) (decimal n) ≡ true
  no_slash = number_of.1

-- ---- places
-- field and component, after four bytes
abbrev tail : ℕ → ℕ → List ℕ
tail field component = decimal field ++ cond (eqb component 0) [] (code "." ∷ decimal component)

abbrev after : List ℕ → List ℕ
after l = 0 ∷ 0 ∷ 0 ∷ code "-" ∷ l

abbrev component : List ℕ → ℕ
component w = cond (pointed w) (number_in (component_word w)) 0

abbrev tail_back : ℕ → ℕ → Bool
tail_back f c =
    eqb (number_in (field_word (after (tail f c)))) f
    && eqb (component (after (tail f c))) c
    && (not (pointed (after (tail f c))) || leb 1 (component (after (tail f c))))
    && all Clean (tail f c)

tails_back : upto (λ (f : ℕ). upto (tail_back f) 21) 100 ≡ true
unfolding decimal last_digits value_after is_number number_in all cut ahead
tails_back = refl

three : (l : List ℕ) → length l ≡ 3 → l ≡ get_or l 0 0 ∷ get_or l 1 0 ∷ get_or l 2 0 ∷ []
three [] e = absurd (omega arith)
three (a ∷ []) e = absurd (omega arith)
three (a ∷ (b ∷ [])) e = absurd (omega arith)
three (a ∷ (b ∷ (c ∷ []))) e = refl
three (a ∷ (b ∷ (c ∷ (d ∷ l)))) e = absurd (omega arith)

abbrev name_right : ℕ → Bool
name_right n = eqb (length (name_bytes n)) 3 && all Clean (name_bytes n)

name_right_lem : (n : ℕ) → counted n ≡ true → (length (name_bytes n) ≡ 3) × (all Clean (name_bytes n) ≡ true)
unfolding name_bytes segment_names all
name_right_lem n h =
    let both = and_both (eqb (length (name_bytes n)) 3) (all Clean (name_bytes n)) (at-counted name_right refl n h) in
    (eqb-true (length (name_bytes n)) 3 both.0, both.1)

module _ (p : Place) (fits : place_fits p ≡ true) where
  pub place_bounds : (counted p.segment ≡ true) × (within (first_field p.segment) field_limit p.field ≡ true) × (p.component ≤ component_limit)
  unfolding place_fits
  place_bounds =
      let outer = and_both (counted p.segment && within (first_field p.segment) field_limit p.field) (leb p.component component_limit) fits in
      let inner = and_both (counted p.segment) (within (first_field p.segment) field_limit p.field) outer.0 in
      (inner.0, inner.1, leb-true p.component component_limit outer.1)

  pub field_small : p.field ≤ 99
  field_small = leb-true p.field field_limit (and_both (leb (first_field p.segment) p.field) (leb p.field field_limit) place_bounds.1).1

  abbrev numbers : List ℕ
  numbers = tail p.field p.component

  pub place_spelled : place_word p ≡ get_or (name_bytes p.segment) 0 0 ∷ get_or (name_bytes p.segment) 1 0 ∷ get_or (name_bytes p.segment) 2 0 ∷ code "-" ∷ numbers
  unfolding place_word
  place_spelled = ap (λ (l : List ℕ). l ++ (code "-" ∷ numbers)) (three (name_bytes p.segment) (name_right_lem p.segment place_bounds.0).0)

  abbrev has_field : Bool
  has_field = eqb (number_in (field_word (after numbers))) p.field

  abbrev has_component : Bool
  has_component = eqb (component (after numbers)) p.component

  abbrev point_right : Bool
  point_right = not (pointed (after numbers)) || leb 1 (component (after numbers))

  numbers-right : (has_field ≡ true) × (has_component ≡ true) × (point_right ≡ true) × (all Clean numbers ≡ true)
  numbers-right =
      let row = upto-at (λ (f : ℕ). upto (tail_back f) 21) 100 p.field tails_back (omega (arith, field_small)) in
      let t = and_both (has_field && has_component && point_right) (all Clean numbers) (upto-at (tail_back p.field) 21 p.component row (omega (arith, place_bounds.2))) in
      let u = and_both (has_field && has_component) point_right t.0 in
      let v = and_both has_field has_component u.0 in
      (v.0, v.1, u.1, t.1)

  pub place_back : place_in (place_word p) ≡ p
  unfolding place_in
  place_back =
      ap place_in place_spelled
      ∙ (λ i. record {
        segment = letters_name p.segment place_bounds.0 i;
        field = eqb-true (number_in (field_word (after numbers))) p.field numbers-right.0 i;
        component = eqb-true (component (after numbers)) p.component numbers-right.1 i;
      })

  pub place_right_lem : is_place (place_word p) ≡ true
  unfolding is_place place_in
  place_right_lem =
      ap₂ ◌&&◌
      (ap (λ (w : List ℕ). eqb (get_or w 3 0) (code "-") && (not (pointed w) || leb 1 (component w))) place_spelled ∙ numbers-right.2)
      (ap place_fits place_back ∙ fits)

  pub place_word_lem : is_word (place_word p) ≡ true
  unfolding place_word all
  place_word_lem =
      ap₂ ◌&&◌
      (le-leb 1 (length (place_word p)) (omega (arith, ap length place_spelled)))
      (all_append Clean (name_bytes p.segment) (code "-" ∷ numbers) (name_right_lem p.segment place_bounds.0).1 numbers-right.3)

-- ---- kinds and severities
pub kind_back : (k : Kind) → kind_number (kind_word k) ≡ kind_byte k
unfolding kind_number kind_names number_from same
kind_back Kind.Required = refl
kind_back (Kind.Length low high) = refl
kind_back Kind.Number = refl
kind_back Kind.Date = refl
kind_back (Kind.Time digits) = refl
kind_back (Kind.Code set) = refl

pub kind_word_lem : (k : Kind) → is_word (kind_word k) ≡ true
unfolding kind_names all
kind_word_lem Kind.Required = refl
kind_word_lem (Kind.Length low high) = refl
kind_word_lem Kind.Number = refl
kind_word_lem Kind.Date = refl
kind_word_lem (Kind.Time digits) = refl
kind_word_lem (Kind.Code set) = refl

pub severity_back : (s : Severity) → severity_of (severity_letter s) ≡ Some s
unfolding severity_of
severity_back Severity.Error = refl
severity_back Severity.Warning = refl
severity_back Severity.Informational = refl

pub severity_right_lem : (s : Severity) → is_severity_word (severity_letter s ∷ []) ≡ true
unfolding is_severity_word severity_of
severity_right_lem Severity.Error = refl
severity_right_lem Severity.Warning = refl
severity_right_lem Severity.Informational = refl

pub severity_word_lem : (s : Severity) → is_word (severity_letter s ∷ []) ≡ true
unfolding all
severity_word_lem Severity.Error = refl
severity_word_lem Severity.Warning = refl
severity_word_lem Severity.Informational = refl

-- ---- names of sets: the last slash parts key and number
has_slash : (k d : List ℕ) → all (differs (code "/")) (k ++ (code "/" ∷ d)) ≡ false
unfolding all
has_slash [] d = refl
has_slash (x ∷ k) d = ap (λ (b : Bool). differs (code "/") x && b) (has_slash k d) ∙ and-false (differs (code "/") x)

module _ (m n : ℕ) (h : m ≤ 255) (g : n ≤ 255) where
  name_back : (k l : List ℕ) → set_name k m ≡ set_name l n → (k ≡ l) × (m ≡ n)
  name_back [] [] e = (refl, sym (number_back_lem m h) ∙ ap number_in (tail-eq_of_cons-eq e) ∙ number_back_lem n g)
  name_back [] (y ∷ l) e = absurd (true≢false (sym (no_slash m h) ∙ ap (all (differs (code "/"))) (tail-eq_of_cons-eq e) ∙ has_slash l (decimal n)))
  name_back (x ∷ k) [] e = absurd (true≢false (sym (no_slash n g) ∙ ap (all (differs (code "/"))) (sym (tail-eq_of_cons-eq e)) ∙ has_slash k (decimal m)))
  name_back (x ∷ k) (y ∷ l) e = let both = name_back k l (tail-eq_of_cons-eq e) in (ap₂ ◌∷◌ (head-eq_of_cons-eq e) both.0, both.1)

  apart : (k l : List ℕ) → (set_name k m ≡ set_name l n → ⊥) → same (set_name k m) (set_name l n) ≡ false
  apart k l differ = by (same (set_name k m) (set_name l n)) refl
    where
      by : (b : Bool) → same (set_name k m) (set_name l n) ≡ b → same (set_name k m) (set_name l n) ≡ false
      by true e = absurd (differ (same_equal (set_name k m) (set_name l n) e))
      by false e = e

  -- of different keys, or of different numbers
  pub other_key : (k l : List ℕ) → same k l ≡ false → same (set_name k m) (set_name l n) ≡ false
  other_key k l e = apart k l (λ f. true≢false (sym (same_self k) ∙ ap (same k) (name_back k l f).0 ∙ e))

  pub other_number_lem : (k : List ℕ) → (m ≡ n → ⊥) → same (set_name k m) (set_name k n) ≡ false
  other_number_lem k e = apart k k (λ f. e (name_back k k f).1)

pub name-word : (limit : ℕ) (key : List ℕ) (n : ℕ) → text_fits limit key ≡ true → n ≤ 255 → is_word (set_name key n) ≡ true
unfolding all
name-word limit key n e h =
    ap₂ ◌&&◌ (le-leb 1 (length (set_name key n)) (omega (arith, length-append key (code "/" ∷ decimal n))))
    (all_append Clean key (code "/" ∷ decimal n) (word-clean key (text-word limit key e)) (word-clean (decimal n) (number_word n h)))
