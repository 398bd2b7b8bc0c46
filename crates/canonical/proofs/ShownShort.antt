-- The canonical text has at most fifteen times the book's bytes, so it is never too long to be read. Assumes nothing.
use mathlib.Core.Path.{◌≡◌, refl, ap}
use mathlib.Core.Bool.{Bool, true, false, cond}
use mathlib.Core.List.{List, [], ◌∷◌, ◌++◌, map}
use Prim.Native.Char.{code}
use Prim.Native.Nat.{ℕ, suc, ◌+◌, ◌*◌, ◌≤◌}
use native.Mathlib.Omega.{arith}
use lib.Dec.{eqb, leb}
use lib.ListN.{length, length-append}
use borrow.Author.Tests.{leb-true}
use Rattle.hl7.specs.Text.{bytes}
use Rattle.hl7.specs.Bytes.{within, is_in, all}
use Rattle.hl7.proofs.Comparing.{and_both, upto-at}
use Rattle.grade.specs.Book.{Contents, plain}
use Rattle.grade.specs.Encoding.{each, text_fits, set_fits, text_bytes, set_bytes, kind_byte, last_bytes, rule_bytes, two_bytes_of, spell_all, section_bytes, book_bytes, well_formed}
use Rattle.grade.specs.Limits.{key_limit, code_limit, code_count_limit, set_limit}
use Rattle.grade.specs.Rule.{name_bytes, severity_letter, place_fits, kind_fits}
use Rattle.grade.specs.declared.rule.Kind.{Kind}
use Rattle.grade.specs.declared.rule.Place.{Place}
use Rattle.grade.specs.declared.rule.Rule.{Rule}
use Rattle.ack.specs.Decimal.{last_digits, decimal}
use Rattle.ack.specs.Layout.{joined, marked}
use Rattle.booktext.specs.Lines.{text_limit}
use Rattle.booktext.specs.Words.{kind_names}
use Rattle.booktext.specs.Faults.{nothing}
use Rattle.booktext.specs.Refusals.{refusal}
use Rattle.canonical.specs.Shown.{printed, set_name, code_line, set_lines, set_names, pin_lines, place_word, kind_word, bound_words, rule_spot, rule_verb, rule_line, rule_lines, section_lines, book_lines, shown}
use Rattle.canonical.proofs.Printing.{printed-line, printed-append}
use Rattle.canonical.proofs.ReadBack.{place_bounds, field_small, place_spelled}
use Rattle.canonical.proofs.Showable.{high_said, high_fits, is_shown, Fits, AllFit, Formed, formed, shown-place, shown_kind, shown_high, within_bounds, length_bounds, time_bound, set_line, section_line, book_line}
use Rattle.canonical.proofs.ShownPasses.{shown-passes}

-- ---- numbers
two_digits : (n : ℕ) → n ≤ 99 → length (decimal n) ≤ 2
unfolding decimal last_digits
two_digits n h = leb-true (length (decimal n)) 2 (upto-at (λ (k : ℕ). leb (length (decimal k)) 2) 100 n refl (omega arith))

three_digits : (n : ℕ) → n ≤ 255 → length (decimal n) ≤ 3
unfolding decimal last_digits
three_digits n h = leb-true (length (decimal n)) 3 (upto-at (λ (k : ℕ). leb (length (decimal k)) 3) 256 n refl (omega arith))

-- ---- words
place_short : (p : Place) → place_fits p ≡ true → length (place_word p) ≤ 9
place_short p e = omega (arith, ap length (place_spelled p e), length-append (decimal p.field) (last p.component), two_digits p.field (field_small p e), last_short (eqb p.component 0))
  where
    last : ℕ → List ℕ
    last c = cond (eqb c 0) [] (code "." ∷ decimal c)

    last_short : (b : Bool) → length (cond b [] (code "." ∷ decimal p.component)) ≤ 3
    last_short true = omega arith
    last_short false = omega (arith, two_digits p.component (omega (arith, (place_bounds p e).2)))

pub kind_short : (k : Kind) → length (kind_word k) ≤ 8
unfolding kind_names
kind_short Kind.Required = omega arith
kind_short (Kind.Length low high) = omega arith
kind_short Kind.Number = omega arith
kind_short Kind.Date = omega arith
kind_short (Kind.Time digits) = omega arith
kind_short (Kind.Code set) = omega arith

verb_four : (b : Bool) → length (cond b (bytes "also") (bytes "rule")) ≤ 4
verb_four true = omega arith
verb_four false = omega arith

last_three : (k : Kind) → length (last_bytes k) ≡ 3
last_three Kind.Required = refl
last_three (Kind.Length low high) = refl
last_three Kind.Number = refl
last_three Kind.Date = refl
last_three (Kind.Time digits) = refl
last_three (Kind.Code set) = refl

-- ---- words of a line
pub marked-line : (w : List ℕ) (ws : List (List ℕ)) → length (marked 32 (w ∷ ws)) ≡ 1 + length w + length (marked 32 ws)
unfolding marked
marked-line w ws = omega (arith, length-append w (marked 32 ws))

pub joined_line : (w : List ℕ) (ws : List (List ℕ)) → length (joined 32 (w ∷ ws)) ≡ length w + length (marked 32 ws)
unfolding joined
joined_line w ws = length-append w (marked 32 ws)

pub marked-none : length (marked 32 []) ≡ 0
unfolding marked
marked-none = refl

two_words : (v w : List ℕ) → length (joined 32 (v ∷ w ∷ [])) ≡ length v + 1 + length w
two_words v w = omega (arith, joined_line v (w ∷ []), marked-line w [], marked-none)

-- ---- codes: 22 bytes are left of each
codes-short : (codes : List (List ℕ)) → each (text_fits code_limit) codes ≡ true → length (printed (map code_line codes)) + 22 * length codes ≤ 15 * length (spell_all text_bytes codes)
unfolding printed
codes-short [] e = omega arith
codes-short (c ∷ codes) e =
    let both = and_both (text_fits code_limit c) (each (text_fits code_limit) codes) e in
    let some = within_bounds 1 code_limit (length c) (and_both (within 1 code_limit (length c)) (all plain c) both.0).0 in
    omega (arith, codes-short codes both.1, printed-line (code_line c) (map code_line codes), two_words (bytes "code") c, some, length-append (text_bytes c) (spell_all text_bytes codes))

-- ---- sets: what is left of one code is enough for two names
module _ (key : List ℕ) (short : length key ≤ key_limit) where
  name-short : (n : ℕ) → n ≤ 99 → length (set_name key n) ≤ 23
  name-short n h = omega (arith, length-append key (code "/" ∷ decimal n), two_digits n h)

  sets-short : (n : ℕ) (sets : List (List (List ℕ))) → n + length sets ≤ 100 → each set_fits sets ≡ true → length (printed (set_lines key n sets)) + 24 * length sets ≤ 15 * length (spell_all set_bytes sets)
  unfolding set_lines printed
  sets-short n [] few e = omega arith
  sets-short n (codes ∷ sets) few e =
      let both = and_both (set_fits codes) (each set_fits sets) e in
      let right = and_both (within 1 code_count_limit (length codes)) (each (text_fits code_limit) codes) both.0 in
      omega (
        arith,
        sets-short (suc n) sets (omega arith) both.1,
        codes-short codes right.1,
        within_bounds 1 code_count_limit (length codes) right.0,
        name-short n (omega arith),
        printed-line (set_line key n) (map code_line codes ++ set_lines key (suc n) sets),
        two_words (bytes "set") (set_name key n),
        printed-append (map code_line codes) (set_lines key (suc n) sets),
        length-append (set_bytes codes) (spell_all set_bytes sets),
        length-append (two_bytes_of (length codes)) (spell_all text_bytes codes),
      )

  names-short : (n : ℕ) (sets : List (List (List ℕ))) → n + length sets ≤ 100 → length (marked 32 (set_names key n sets)) ≤ 24 * length sets
  unfolding set_names
  names-short n [] few = omega (arith, marked-none)
  names-short n (codes ∷ sets) few = omega (arith, marked-line (set_name key n) (set_names key (suc n) sets), name-short n (omega arith), names-short (suc n) sets (omega arith))

  pins_short : (sets : List (List (List ℕ))) → length sets ≤ set_limit → length (printed (pin_lines key sets)) ≤ 24 * length sets + 5
  unfolding printed
  pins_short [] few = omega arith
  pins_short (codes ∷ sets) few =
      let names = set_names key 1 (codes ∷ sets) in
      omega (arith, printed-line (bytes "sets" ∷ names) [], joined_line (bytes "sets") names, names-short 1 (codes ∷ sets) (omega arith))

  -- ---- rules: a line of at most 50 bytes, for ten
  bound-short : (sets : ℕ) → sets ≤ set_limit → (k : Kind) → kind_fits sets k ≡ true → high_said k ≡ true → length (marked 32 (bound_words key k)) ≤ 24
  bound-short sets few Kind.Required e f = omega (arith, marked-none)
  bound-short sets few (Kind.Length low high) e f =
      let small = length_bounds low high e f in
      omega (arith, marked-line (decimal low) (decimal high ∷ []), marked-line (decimal high) [], marked-none, three_digits low small.0, three_digits high small.1)
  bound-short sets few Kind.Number e f = omega (arith, marked-none)
  bound-short sets few Kind.Date e f = omega (arith, marked-none)
  bound-short sets few (Kind.Time digits) e f = omega (arith, marked-line (decimal digits) [], marked-none, two_digits digits (omega (arith, time_bound digits e)))
  bound-short sets few (Kind.Code set) e f = omega (arith, marked-line (set_name key set) [], marked-none, name-short set (omega (arith, within_bounds 1 sets set e)))

  module _ (sets : ℕ) (few : sets ≤ set_limit) where
    rule-short : (before : List ℕ) (r : Rule) → is_shown sets r ≡ true → length (joined 32 (rule_line key before r)) ≤ 49
    rule-short before r e =
        let letter = severity_letter r.severity ∷ [] in
        let bound = bound_words key r.kind in
        omega (
          arith,
          joined_line (rule_verb before r) (place_word r.place ∷ kind_word r.kind ∷ letter ∷ bound),
          marked-line (place_word r.place) (kind_word r.kind ∷ letter ∷ bound),
          marked-line (kind_word r.kind) (letter ∷ bound),
          marked-line letter bound,
          verb_four (is_in (rule_spot r) before),
          place_short r.place (shown-place sets r e),
          kind_short r.kind,
          bound-short sets few r.kind (shown_kind sets r e) (shown_high sets r e),
        )

    rules-short : (before : List ℕ) (rules : List Rule) → each (is_shown sets) rules ≡ true → length (printed (rule_lines key before rules)) ≤ 15 * length (spell_all rule_bytes rules)
    unfolding rule_lines printed
    rules-short before [] e = omega arith
    rules-short before (r ∷ rules) e =
        let both = and_both (is_shown sets r) (each (is_shown sets) rules) e in
        let later = before ++ (rule_spot r ∷ []) in
        omega (
          arith,
          rules-short later rules both.1,
          rule-short before r both.0,
          printed-line (rule_line key before r) (rule_lines key later rules),
          length-append (rule_bytes r) (spell_all rule_bytes rules),
          length-append (name_bytes r.place.segment) (r.place.field ∷ r.place.component ∷ kind_byte r.kind ∷ severity_letter r.severity ∷ last_bytes r.kind),
          last_three r.kind,
        )

-- ---- sections and the book
section-short : (c : Contents) → Fits c → length (printed (section_lines c)) ≤ 15 * length (section_bytes c)
unfolding section_lines
section-short c f =
    let key = c.key in
    let few = f.few_sets in
    let short = (within_bounds 1 key_limit (length key) (and_both (within 1 key_limit (length key)) (all plain key) f.key).0).1 in
    let sets = set_lines key 1 c.sets in
    let pins = pin_lines key c.sets in
    let rules = rule_lines key [] c.rules in
    let ruled = spell_all rule_bytes c.rules in
    let held = spell_all set_bytes c.sets in
    let rest = length c.sets ∷ (ruled ++ held) in
    omega (
      arith,
      printed-append sets (section_line key ∷ (pins ++ rules)),
      printed-line (section_line key) (pins ++ rules),
      two_words (bytes "section") key,
      printed-append pins rules,
      sets-short key short 1 c.sets (omega arith) f.sets,
      pins_short key short c.sets few,
      rules-short key short (length c.sets) few [] c.rules f.rules,
      length-append (text_bytes key) (two_bytes_of (length c.rules) ++ rest),
      length-append (two_bytes_of (length c.rules)) rest,
      length-append ruled held,
    )

sections-short : (cs : List Contents) → AllFit cs → length (printed (book_lines cs)) ≤ 15 * length (spell_all section_bytes cs)
unfolding book_lines printed
sections-short [] f = omega arith
sections-short (c ∷ cs) f =
    omega (arith, printed-append (section_lines c) (book_lines cs), section-short c f.0, sections-short cs f.1, length-append (section_bytes c) (spell_all section_bytes cs))

formed-short : (cs : List Contents) → Formed cs → length (shown cs) ≤ 15 * length (book_bytes cs)
unfolding shown book_bytes
formed-short cs f = omega (arith, printed-line book_line (book_lines cs), two_words (bytes "book") (bytes "1"), sections-short cs f.fit)

pub shown-short : (cs : List Contents) → well_formed cs ≡ true → each high_fits cs ≡ true → length (shown cs) ≤ 15 * length (book_bytes cs)
shown-short cs e h = formed-short cs (formed cs e h)

pub shown-fits : (cs : List Contents) → well_formed cs ≡ true → each high_fits cs ≡ true → length (shown cs) ≤ text_limit
shown-fits cs e h = omega (arith, shown-short cs e h, (formed cs e h).short)

-- no row refuses it, then
pub shown_accepted : (cs : List Contents) → well_formed cs ≡ true → each high_fits cs ≡ true → refusal (shown cs) ≡ nothing
shown_accepted cs e h = shown-passes cs e h (shown-fits cs e h)
