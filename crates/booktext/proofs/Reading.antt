-- Laws of `specs/Words.antt` and of the verbs of `specs/Lines.antt`, in the words of the code that reads a word. Assumes nothing.
use Rattle.std.specs.Prelude.{Some, None}
use mathlib.Core.Path.{◌≡◌, refl, sym, ap, ◌∙◌}
use mathlib.Core.Bool.{Bool, true, false, cond, not, ◌&&◌, ◌||◌}
use mathlib.Core.List.{List, [], ◌∷◌}
use Prim.Native.Nat.{ℕ, suc, ◌+◌, ◌≤◌, ◌<◌, min}
use Prim.Native.Char.{code}
use native.Mathlib.Omega.{arith}
use native.Mathlib.Numerals.{add-one}
use native.Mathlib.Decide.{dec_lt}
use lib.Dec.{eqb, leb, ltb}
use lib.ListN.{length, get_or, take, drop}
use borrow.Author.Tests.{leb-true, lt-ltb, le-ltb, lt-leb}
use Rattle.hl7.specs.Bytes.{is_digit, all, same}
use Rattle.hl7.specs.Counted.{too_large}
use Rattle.hl7.specs.Cut.{end_from}
use Rattle.hl7.specs.Number.{value_of}
use Rattle.hl7.specs.Text.{bytes}
use Rattle.hl7.proofs.Comparing.{and_both}
use Rattle.hl7.proofs.Cutting.{first-front}
use Rattle.grade.specs.Rule.{name_of_letters, place_fits, severity_of}
use Rattle.grade.specs.declared.rule.Place.{Place}
use Rattle.grade.specs.declared.rule.Severity.{Severity}
use Rattle.booktext.specs.Lines.{number_from, verbs, verb_of}
use Rattle.booktext.specs.Words.{is_number, number_in, field_word, place_in, is_place, is_severity, kind_names, kind_number}

-- ---- names of verbs and kinds
pub number-few : (n : ℕ) (w : List ℕ) (names : List (List ℕ)) → number_from (suc n) w names ≤ n + length names
unfolding number_from
number-few n w [] = omega arith
number-few n w (name ∷ names) = by (same w name) (number-few (suc n) w names)
  where
    by : (b : Bool) → number_from (suc (suc n)) w names ≤ suc n + length names → cond b (suc n) (number_from (suc (suc n)) w names) ≤ n + length (name ∷ names)
    by true later = omega arith
    by false later = omega (arith, later)

-- the verbs that change rules or sets
pub asked_change : (w : List ℕ) {severity bound dropped more less : Bool} {a b c d e : ℕ}
    → severity ≡ same w (bytes "severity") → bound ≡ same w (bytes "bound") → dropped ≡ same w (bytes "drop") → more ≡ same w (bytes "more") → less ≡ same w (bytes "less")
    → a ≡ cond severity 10 b → b ≡ cond bound 11 c → c ≡ cond dropped 12 d → d ≡ cond more 13 e → e ≡ cond less 14 0
    → a ≡ number_from 10 w (drop 9 verbs)
unfolding verbs number_from
asked_change w b1 b2 b3 b4 b5 e1 e2 e3 e4 e5 = rw (e1, e2, e3, e4, e5, b1, b2, b3, b4, b5)

pub asked_verb : (w : List ℕ) {book set common section code uses sets rule also : Bool} {a b c d e f g h i j : ℕ}
    → book ≡ same w (bytes "book") → set ≡ same w (bytes "set") → common ≡ same w (bytes "common") → section ≡ same w (bytes "section") → code ≡ same w (bytes "code")
    → uses ≡ same w (bytes "use") → sets ≡ same w (bytes "sets") → rule ≡ same w (bytes "rule") → also ≡ same w (bytes "also")
    → a ≡ cond book 1 b → b ≡ cond set 2 c → c ≡ cond common 3 d → d ≡ cond section 4 e → e ≡ cond code 5 f → f ≡ cond uses 6 g → g ≡ cond sets 7 h → h ≡ cond rule 8 i → i ≡ cond also 9 j → j ≡ number_from 10 w (drop 9 verbs)
    → (a ≡ verb_of w) × (a ≤ 14)
unfolding verb_of verbs number_from
asked_verb w {a = a} b1 b2 b3 b4 b5 b6 b7 b8 b9 e1 e2 e3 e4 e5 e6 e7 e8 e9 e10 =
    let is : a ≡ verb_of w = rw (e1, e2, e3, e4, e5, e6, e7, e8, e9, e10, b1, b2, b3, b4, b5, b6, b7, b8, b9) in
    (is, omega (arith, is, number-few 0 w verbs))

pub asked_kind : (w : List ℕ) {required length number date time code : Bool} {a b c d e f : ℕ}
    → required ≡ same w (bytes "REQUIRED") → length ≡ same w (bytes "LENGTH") → number ≡ same w (bytes "NUMBER") → date ≡ same w (bytes "DATE") → time ≡ same w (bytes "TIME") → code ≡ same w (bytes "CODE")
    → a ≡ cond required 1 b → b ≡ cond length 2 c → c ≡ cond number 3 d → d ≡ cond date 4 e → e ≡ cond time 5 f → f ≡ cond code 6 0
    → (a ≡ kind_number w) × (a ≤ 6)
unfolding kind_number kind_names number_from
asked_kind w {a = a} b1 b2 b3 b4 b5 b6 e1 e2 e3 e4 e5 e6 =
    let is : a ≡ kind_number w = rw (e1, e2, e3, e4, e5, e6, b1, b2, b3, b4, b5, b6) in
    (is, omega (arith, is, number-few 0 w kind_names))

-- ---- numbers
capped_small : (v : ℕ) → leb (min v too_large) 255 ≡ leb v 255
capped_small v = by (dec_lt v too_large)
  where
    by : Dec (v < too_large) → leb (min v too_large) 255 ≡ leb v 255
    by (yes near) = let e : min v too_large ≡ v = omega arith in rw e
    by (no far) = let e : min v too_large ≡ too_large = omega arith in rw (e, lt-leb v 255 (omega arith))

-- what the code asks of a word whose digits were read
abbrev pub asks_number : List ℕ → Bool → ℕ → ℕ → Bool
asks_number w every first value = leb 1 (length w) && leb (length w) 3 && every && not (eqb first (code "0")) && leb value 255

module _ (w : List ℕ) {every : Bool} {value first : ℕ} (read : (every ≡ all is_digit w) × (value ≡ min (value_of w) too_large)) (begin : first ≡ get_or w 0 0) where
  asked_number : asks_number w every first value ≡ is_number w
  unfolding is_number
  asked_number = rw (read.0, read.1, begin, capped_small (value_of w))

  pub number_small : asks_number w every first value ≡ true → value ≤ 255
  number_small e = leb-true value 255 (and_both (leb 1 (length w) && leb (length w) 3 && every && not (eqb first (code "0"))) (leb value 255) e).1

  pub number_read : asks_number w every first value ≡ true → value ≡ number_in w
  unfolding number_in
  number_read e =
      let whole : value ≡ value_of w = omega (arith, number_small e, read.1) in
      rw (sym asked_number ∙ e) whole

  pub number-none : asks_number w every first value ≡ false → 0 ≡ number_in w
  unfolding number_in
  number-none e = rw (sym asked_number ∙ e)

-- ---- places
module _ (w : List ℕ) {numbers : List ℕ} {point : ℕ} (is : numbers ≡ drop 4 w) (found : point ≡ end_from (code ".") numbers 0) where
  point_at : point ≡ length (field_word w)
  point_at = let e = found ∙ ap (λ (l : List ℕ). end_from (code ".") l 0) is in omega (arith, e)

  module _ {segment field a b c : ℕ} {front : List ℕ} (f : front ≡ take point numbers) (k : field ≡ number_in front) (x : a ≡ get_or w 0 0) (y : b ≡ get_or w 1 0) (z : c ≡ get_or w 2 0) (s : segment ≡ name_of_letters a b c) where
    field_is : field ≡ number_in (field_word w)
    field_is = k ∙ ap number_in (f ∙ rw (point_at, is) (sym (first-front (code ".") (drop 4 w))))

    name-is : segment ≡ name_of_letters (get_or w 0 0) (get_or w 1 0) (get_or w 2 0)
    name-is = rw (s, x, y, z)

    pub place-pointed : {component : ℕ} {rest : List ℕ} → point < length numbers → rest ≡ drop (point + 1) numbers → component ≡ number_in rest → record { segment = segment; field = field; component = component } ≡ place_in w
    unfolding place_in
    place-pointed {component} h r e =
        let test = lt-ltb (length (field_word w)) (length (drop 4 w)) (omega (arith, point_at, ap length is, h)) in
        let own : component ≡ number_in (drop (suc (length (field_word w))) (drop 4 w)) = e ∙ ap number_in (r ∙ rw (add-one, point_at, is)) in
        rw (name-is, field_is, own, test)

    pub place-whole : length numbers ≤ point → record { segment = segment; field = field; component = 0 } ≡ place_in w
    unfolding place_in
    place-whole h = rw (name-is, field_is, le-ltb (length (field_word w)) (length (drop 4 w)) (omega (arith, point_at, ap length is, h)))

  pub asked_place : {place : Place} {dash : ℕ} {fits : Bool} → place ≡ place_in w → dash ≡ get_or w 3 0 → fits ≡ place_fits place → (eqb dash (code "-") && (not (ltb point (length numbers)) || leb 1 place.component) && fits) ≡ is_place w
  unfolding is_place
  asked_place p d f = rw (point_at, is, d, f, p)

-- ---- severities
pub asked_severity : (letter : ℕ) → (eqb letter (code "E") || eqb letter (code "W") || eqb letter (code "I")) ≡ is_severity (severity_of letter)
unfolding severity_of
asked_severity letter = by (eqb letter (code "E")) (eqb letter (code "W")) (eqb letter (code "I"))
  where
    by : (e w i : Bool) → (e || w || i) ≡ is_severity (cond e (Some Severity.Error) (cond w (Some Severity.Warning) (cond i (Some Severity.Informational) None)))
    by true w i = refl
    by false true i = refl
    by false false true = refl
    by false false false = refl
