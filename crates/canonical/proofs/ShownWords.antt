-- Every line of the canonical text is made of words: none is empty, and none holds a blank, a bar or LF. Assumes nothing.
use mathlib.Core.Path.{◌≡◌, refl, ap₂}
use mathlib.Core.Bool.{Bool, true, false, cond, ◌&&◌}
use mathlib.Core.List.{List, [], ◌∷◌, ◌++◌, map}
use Prim.Native.Nat.{ℕ, suc, ◌+◌, ◌≤◌}
use native.Mathlib.Omega.{arith}
use lib.ListN.{length}
use borrow.Author.Tests.{le-leb}
use Rattle.hl7.specs.Text.{bytes}
use Rattle.hl7.specs.Bytes.{within, is_in, all}
use Rattle.hl7.proofs.Comparing.{and_both}
use Rattle.grade.specs.Book.{Contents}
use Rattle.grade.specs.Encoding.{each, text_fits, set_fits}
use Rattle.grade.specs.Limits.{key_limit, code_limit, code_count_limit, set_limit}
use Rattle.grade.specs.Rule.{severity_letter, kind_fits}
use Rattle.grade.specs.declared.rule.Kind.{Kind}
use Rattle.grade.specs.declared.rule.Rule.{Rule}
use Rattle.booktext.proofs.Each.{each_join}
use Rattle.canonical.specs.Shown.{set_name, code_line, set_lines, set_names, pin_lines, place_word, kind_word, bound_words, rule_spot, rule_verb, rule_lines, section_lines, book_lines}
use Rattle.canonical.proofs.Printing.{is_word, are_words}
use Rattle.canonical.proofs.ReadBack.{text-word, number_word, place_word_lem, kind_word_lem, severity_word_lem, name-word}
use Rattle.canonical.proofs.Showable.{high_said, is_shown, Fits, AllFit, shown-place, shown_kind, shown_high, within_bounds, length_bounds, time_bound, section_line, all_lines, page_lines}

line-words : (w : List ℕ) (ws : List (List ℕ)) → is_word w ≡ true → each is_word ws ≡ true → are_words (w ∷ ws) ≡ true
line-words w ws e f = ap₂ ◌&&◌ (le-leb 1 (length (w ∷ ws)) (omega arith)) (ap₂ ◌&&◌ e f)

code_words_lem : (codes : List (List ℕ)) → each (text_fits code_limit) codes ≡ true → each are_words (map code_line codes) ≡ true
unfolding all
code_words_lem [] e = refl
code_words_lem (c ∷ codes) e =
    let both = and_both (text_fits code_limit c) (each (text_fits code_limit) codes) e in
    ap₂ ◌&&◌ (line-words (bytes "code") (c ∷ []) refl (ap₂ ◌&&◌ (text-word code_limit c both.0) refl)) (code_words_lem codes both.1)

module _ (key : List ℕ) (fits : text_fits key_limit key ≡ true) where
  set_words : (n : ℕ) (sets : List (List (List ℕ))) → n + length sets ≤ 256 → each set_fits sets ≡ true → each are_words (set_lines key n sets) ≡ true
  unfolding set_lines all
  set_words n [] few e = refl
  set_words n (codes ∷ sets) few e =
      let both = and_both (set_fits codes) (each set_fits sets) e in
      let right = and_both (within 1 code_count_limit (length codes)) (each (text_fits code_limit) codes) both.0 in
      ap₂ ◌&&◌
      (line-words (bytes "set") (set_name key n ∷ []) refl (ap₂ ◌&&◌ (name-word key_limit key n fits (omega arith)) refl))
      (each_join are_words (map code_line codes) (set_lines key (suc n) sets) (code_words_lem codes right.1) (set_words (suc n) sets (omega arith) both.1))

  name-words : (n : ℕ) (sets : List (List (List ℕ))) → n + length sets ≤ 256 → each is_word (set_names key n sets) ≡ true
  unfolding set_names
  name-words n [] few = refl
  name-words n (codes ∷ sets) few = ap₂ ◌&&◌ (name-word key_limit key n fits (omega arith)) (name-words (suc n) sets (omega arith))

  pin_words : (sets : List (List (List ℕ))) → length sets ≤ set_limit → each are_words (pin_lines key sets) ≡ true
  unfolding all
  pin_words [] few = refl
  pin_words (codes ∷ sets) few = ap₂ ◌&&◌ (line-words (bytes "sets") (set_names key 1 (codes ∷ sets)) refl (name-words 1 (codes ∷ sets) (omega arith))) refl

  module _ (sets : ℕ) (few : sets ≤ set_limit) where
    bound_words_lem : (k : Kind) → kind_fits sets k ≡ true → high_said k ≡ true → each is_word (bound_words key k) ≡ true
    bound_words_lem Kind.Required e f = refl
    bound_words_lem (Kind.Length low high) e f =
        let small = length_bounds low high e f in
        ap₂ ◌&&◌ (number_word low small.0) (ap₂ ◌&&◌ (number_word high small.1) refl)
    bound_words_lem Kind.Number e f = refl
    bound_words_lem Kind.Date e f = refl
    bound_words_lem (Kind.Time digits) e f = ap₂ ◌&&◌ (number_word digits (omega (arith, time_bound digits e))) refl
    bound_words_lem (Kind.Code set) e f = ap₂ ◌&&◌ (name-word key_limit key set fits (omega (arith, within_bounds 1 sets set e))) refl

    rule_words_lem : (before : List ℕ) (rules : List Rule) → each (is_shown sets) rules ≡ true → each are_words (rule_lines key before rules) ≡ true
    unfolding rule_lines all
    rule_words_lem before [] e = refl
    rule_words_lem before (r ∷ rules) e =
        let both = and_both (is_shown sets r) (each (is_shown sets) rules) e in
        ap₂ ◌&&◌
        (line-words (rule_verb before r) (place_word r.place ∷ kind_word r.kind ∷ (severity_letter r.severity ∷ []) ∷ bound_words key r.kind) (verb (is_in (rule_spot r) before))
        (ap₂ ◌&&◌ (place_word_lem r.place (shown-place sets r both.0)) (ap₂ ◌&&◌ (kind_word_lem r.kind) (ap₂ ◌&&◌ (severity_word_lem r.severity) (bound_words_lem r.kind (shown_kind sets r both.0) (shown_high sets r both.0))))))
        (rule_words_lem (before ++ (rule_spot r ∷ [])) rules both.1)
      where
        verb : (b : Bool) → is_word (cond b (bytes "also") (bytes "rule")) ≡ true
        verb true = refl
        verb false = refl

section-words : (c : Contents) → Fits c → each are_words (section_lines c) ≡ true
unfolding section_lines all
section-words c f =
    let few = f.few_sets in
    each_join are_words (set_lines c.key 1 c.sets) (section_line c.key ∷ page_lines c) (set_words c.key f.key 1 c.sets (omega arith) f.sets)
    (ap₂ ◌&&◌ (line-words (bytes "section") (c.key ∷ []) refl (ap₂ ◌&&◌ (text-word key_limit c.key f.key) refl))
    (each_join are_words (pin_lines c.key c.sets) (rule_lines c.key [] c.rules) (pin_words c.key f.key c.sets few) (rule_words_lem c.key f.key (length c.sets) few [] c.rules f.rules)))

pub book-words : (cs : List Contents) → AllFit cs → each are_words (all_lines cs) ≡ true
unfolding book_lines all
book-words [] f = refl
book-words (c ∷ cs) f = each_join are_words (section_lines c) (book_lines cs) (section-words c f.0) (book-words cs f.1)
