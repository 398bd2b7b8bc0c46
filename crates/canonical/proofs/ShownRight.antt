-- No row refuses a line of the canonical text by itself: its bytes are allowed, each statement stands where it may, and its words are right (rows 32 to 42).
-- Assumes nothing.
use mathlib.Core.Path.{◌≡◌, refl, ap, ap₂, ◌∙◌}
use mathlib.Core.Bool.{Bool, true, false, cond, ◌&&◌}
use mathlib.Core.List.{List, [], ◌∷◌, ◌++◌, map, append_assoc}
use Prim.Native.Nat.{ℕ, suc, ◌-◌, ◌≤◌}
use native.Mathlib.Omega.{arith}
use lib.Dec.{eqb, leb}
use lib.ListN.{length, get_or}
use borrow.Author.Tests.{le-leb, le-ltb}
use Rattle.hl7.specs.Text.{bytes}
use Rattle.hl7.specs.Bytes.{within, is_in, all, same}
use Rattle.hl7.specs.Cut.{ahead, part_at}
use Rattle.hl7.proofs.Comparing.{and_both, all_append}
use Rattle.grade.specs.Book.{Contents}
use Rattle.grade.specs.Encoding.{each, text_fits, set_fits}
use Rattle.grade.specs.Limits.{key_limit, code_limit, code_count_limit}
use Rattle.grade.specs.Rule.{severity_letter, kind_fits}
use Rattle.grade.specs.declared.rule.Kind.{Kind}
use Rattle.grade.specs.declared.rule.Rule.{Rule}
use Rattle.ack.specs.Layout.{joined}
use Rattle.booktext.specs.Lines.{text_limit, line_feed, cut_at, number_from, verbs, verb_of, a_book, a_set, a_section}
use Rattle.booktext.specs.Words.{is_place, is_severity_word, kind_number, bound_fits}
use Rattle.booktext.specs.Faults.{nothing, inside, codes_right, fault_of, first_fault}
use Rattle.booktext.specs.Refusals.{allowed, forbidden, bytes_told}
use Rattle.booktext.specs.Standing.{dark}
use Rattle.canonical.specs.Shown.{line_bytes, printed, code_line, set_lines, set_names, pin_lines, place_word, kind_word, bound_words, rule_spot, rule_lines, book_lines, shown}
use Rattle.canonical.proofs.Printing.{is_word, are_words, placed, all-joined}
use Rattle.canonical.proofs.ReadBack.{number_back_lem, place_right_lem, kind_back, severity_right_lem}
use Rattle.canonical.proofs.Paging.{line_verb, line_at, next_at}
use Rattle.canonical.proofs.Showable.{high_said, is_shown, AllFit, shown-place, shown_kind, shown_high, length_bounds, time_bound, Lines, section_line, all_lines, page_lines}
use Rattle.canonical.proofs.ShownWords.{book-words}
use Rattle.canonical.proofs.ShownMeans.{book-parted}

-- ---- row 32
printed-allowed : (lines : Lines) → each are_words lines ≡ true → all allowed (printed lines) ≡ true
unfolding printed all
printed-allowed [] e = refl
printed-allowed (ws ∷ lines) e =
    let both = and_both (are_words ws) (each are_words lines) e in
    let words = (and_both (leb 1 (length ws)) (each is_word ws) both.0).1 in
    let line = all-joined allowed (λ x c. (and_both (dark x) (allowed x) c).1) refl ws words in
    all_append allowed (line_bytes ws) (printed lines) (all_append allowed (joined 32 ws) (line_feed ∷ []) line refl) (printed-allowed lines both.1)

wrong_none : (t : List ℕ) → all allowed t ≡ true → part_at (cut_at forbidden t) 0 ≡ t
unfolding cut_at ahead all
wrong_none [] e = refl
wrong_none (x ∷ t) e = let both = and_both (allowed x) (all allowed t) e in rw both.0 (ap (λ (l : List ℕ). x ∷ l) (wrong_none t both.1))

pub bytes-right : (cs : List Contents) → AllFit cs → length (shown cs) ≤ text_limit → bytes_told (shown cs) ≡ nothing
unfolding shown
bytes-right cs f h =
    let t = printed (all_lines cs) in
    let whole = wrong_none t (printed-allowed (all_lines cs) (book-words cs f)) in
    rw (le-ltb text_limit (length t) h, whole, le-ltb (length t) (length t) (omega arith))

-- ---- lines that stand right, where a head with a verb stands before them
unfoldable right : ℕ → Lines → Bool
right here [] = true
right here (ws ∷ lines) = eqb (fault_of here (line_at 0 ws)) 0 && right (inside here (line_verb ws)) lines

right-none : (t : List ℕ) (here at : ℕ) (lines : Lines) → right here lines ≡ true → first_fault t here (placed at lines) ≡ nothing
unfolding right first_fault placed fault_of
right-none t here at [] e = refl
right-none t here at (ws ∷ lines) e =
    let both = and_both (eqb (fault_of here (line_at 0 ws)) 0) (right (inside here (line_verb ws)) lines) e in
    rw both.0 (right-none t (inside here (line_verb ws)) (next_at at ws) lines both.1)

-- ---- sets
codes_right_lem : (codes : List (List ℕ)) (tail : Lines) → each (text_fits code_limit) codes ≡ true → right a_set tail ≡ true → right a_set (map code_line codes ++ tail) ≡ true
unfolding right fault_of codes_right verb_of verbs number_from same
codes_right_lem [] tail e r = r
codes_right_lem (c ∷ codes) tail e r =
    let both = and_both (text_fits code_limit c) (each (text_fits code_limit) codes) e in
    rw both.0 (codes_right_lem codes tail both.1 r)

-- under any head
abbrev RightAnywhere : Lines → Type 0
RightAnywhere lines = (here : ℕ) → leb a_book here ≡ true → right here lines ≡ true

sets-right : (key : List ℕ) (n : ℕ) (sets : List (List (List ℕ))) (tail : Lines) → each set_fits sets ≡ true → RightAnywhere tail → RightAnywhere (set_lines key n sets ++ tail)
unfolding set_lines right fault_of codes_right verb_of verbs number_from same
sets-right key n [] tail e r here h = r here h
sets-right key n (codes ∷ sets) tail e r here h =
    let both = and_both (set_fits codes) (each set_fits sets) e in
    let fits = and_both (within 1 code_count_limit (length codes)) (each (text_fits code_limit) codes) both.0 in
    let later = set_lines key (suc n) sets ++ tail in
    rw h
    (ap (right a_set) (append_assoc (map code_line codes) (set_lines key (suc n) sets) tail)
    ∙ codes_right_lem codes later fits.1 (sets-right key (suc n) sets tail both.1 r a_set refl))

-- ---- rules
-- by the rows that a rule can break
rule-right : (b : Bool) (place kind severity : List ℕ) (bound : List (List ℕ)) → length bound ≤ 2 → is_place place ≡ true → leb 1 (kind_number kind) ≡ true
    → is_severity_word severity ≡ true → bound_fits (kind_number kind) (length bound) (get_or bound 0 []) (get_or bound 1 []) ≡ true
    → eqb (fault_of a_section (line_at 0 (cond b (bytes "also") (bytes "rule") ∷ place ∷ kind ∷ severity ∷ bound))) 0 ≡ true
unfolding fault_of codes_right verb_of verbs number_from same
rule-right b place kind severity bound c p k s f = by b
  where
    count : ℕ
    count = suc (suc (suc (suc (length bound))))

    few : within 4 6 count ≡ true
    few = ap₂ ◌&&◌ (le-leb 4 count (omega arith)) (le-leb count 6 (omega arith))

    fits : bound_fits (kind_number kind) (count - 4) (get_or bound 0 []) (get_or bound 1 []) ≡ true
    fits = let so-many : count - 4 ≡ length bound = omega arith in ap (λ (n : ℕ). bound_fits (kind_number kind) n (get_or bound 0 []) (get_or bound 1 [])) so-many ∙ f

    by : (b : Bool) → eqb (fault_of a_section (line_at 0 (cond b (bytes "also") (bytes "rule") ∷ place ∷ kind ∷ severity ∷ bound))) 0 ≡ true
    by true = rw (few, p, k, s, fits)
    by false = rw (few, p, k, s, fits)

module _ (key : List ℕ) (sets : ℕ) where
  -- its bound fits its kind
  bound_right_lem : (k : Kind) → kind_fits sets k ≡ true → high_said k ≡ true
      → (length (bound_words key k) ≤ 2) × (leb 1 (kind_number (kind_word k)) ≡ true) × (bound_fits (kind_number (kind_word k)) (length (bound_words key k)) (get_or (bound_words key k) 0 []) (get_or (bound_words key k) 1 []) ≡ true)
  unfolding bound_fits
  bound_right_lem Kind.Required e f = (omega arith, rw (kind_back Kind.Required), rw (kind_back Kind.Required))
  bound_right_lem (Kind.Length low high) e f =
      let small = length_bounds low high e f in
      (omega arith, rw (kind_back (Kind.Length low high)), rw (kind_back (Kind.Length low high), number_back_lem low small.0, number_back_lem high small.1) e)
  bound_right_lem Kind.Number e f = (omega arith, rw (kind_back Kind.Number), rw (kind_back Kind.Number))
  bound_right_lem Kind.Date e f = (omega arith, rw (kind_back Kind.Date), rw (kind_back Kind.Date))
  bound_right_lem (Kind.Time digits) e f = (omega arith, rw (kind_back (Kind.Time digits)), rw (kind_back (Kind.Time digits), number_back_lem digits (omega (arith, time_bound digits e))) e)
  bound_right_lem (Kind.Code set) e f = (omega arith, rw (kind_back (Kind.Code set)), rw (kind_back (Kind.Code set)))

  rule-inside : (b : Bool) → inside a_section (verb_of (cond b (bytes "also") (bytes "rule"))) ≡ a_section
  unfolding verb_of verbs number_from same
  rule-inside true = refl
  rule-inside false = refl

  rules-right : (before : List ℕ) (rules : List Rule) (tail : Lines) → each (is_shown sets) rules ≡ true → right a_section tail ≡ true → right a_section (rule_lines key before rules ++ tail) ≡ true
  unfolding rule_lines right
  rules-right before [] tail e r = r
  rules-right before (x ∷ rules) tail e r =
      let both = and_both (is_shown sets x) (each (is_shown sets) rules) e in
      let again = is_in (rule_spot x) before in
      let bound = bound_right_lem x.kind (shown_kind sets x both.0) (shown_high sets x both.0) in
      ap₂ ◌&&◌
      (rule-right again (place_word x.place) (kind_word x.kind) (severity_letter x.severity ∷ []) (bound_words key x.kind) bound.0 (place_right_lem x.place (shown-place sets x both.0)) bound.1 (severity_right_lem x.severity) bound.2)
      (ap (λ (here : ℕ). right here (rule_lines key (before ++ (rule_spot x ∷ [])) rules ++ tail)) (rule-inside again) ∙ rules-right (before ++ (rule_spot x ∷ [])) rules tail both.1 r)

-- ---- sections
pins_right : (key : List ℕ) (sets : List (List (List ℕ))) (tail : Lines) → right a_section tail ≡ true → right a_section (pin_lines key sets ++ tail) ≡ true
unfolding right set_names fault_of codes_right verb_of verbs number_from same
pins_right key [] tail r = r
pins_right key (set ∷ sets) tail r = rw (le-leb 2 (suc (suc (length (set_names key 2 sets)))) (omega arith)) r

section-right : (key : List ℕ) (tail : Lines) → text_fits key_limit key ≡ true → right a_section tail ≡ true → RightAnywhere (section_line key ∷ tail)
unfolding right fault_of codes_right verb_of verbs number_from same
section-right key tail e r here h = rw (h, e) r

book-right : (cs : List Contents) → AllFit cs → RightAnywhere (book_lines cs)
unfolding book_lines right
book-right [] f here h = refl
book-right (c ∷ cs) f here h =
    let key = c.key in
    let pins = pin_lines key c.sets in
    let rules = rule_lines key [] c.rules in
    let page = ap (right a_section) (append_assoc pins rules (book_lines cs)) ∙ pins_right key c.sets (rules ++ book_lines cs) (rules-right key (length c.sets) [] c.rules (book_lines cs) f.0.rules (book-right cs f.1 a_section refl)) in
    ap (right here) (book-parted c cs) ∙ sets-right key 1 c.sets (section_line key ∷ (page_lines c ++ book_lines cs)) f.0.sets (section-right key (page_lines c ++ book_lines cs) f.0.key page) here h

pub lines-right : (t : List ℕ) (cs : List Contents) → AllFit cs → first_fault t 0 (placed 0 (all_lines cs)) ≡ nothing
unfolding right fault_of codes_right verb_of verbs number_from same
lines-right t cs f = right-none t 0 0 (all_lines cs) (book-right cs f a_book refl)
