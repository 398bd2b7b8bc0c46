-- No row refuses a name of the canonical text: the names of sets differ, so do those of sections, and every set that is named is there (rows 43 to 45).
-- Assumes nothing.
use mathlib.Core.Path.{◌≡◌, refl, sym, ap, ap₂, ◌∙◌}
use mathlib.Core.Bool.{Bool, true, false, cond, not, ◌&&◌, ◌||◌, or-true}
use mathlib.Core.List.{List, [], ◌∷◌, ◌++◌, map, append_assoc}
use Prim.Native.Nat.{ℕ, suc, ◌+◌, ◌≤◌, ◌<◌}
use native.Mathlib.Omega.{arith}
use native.Mathlib.Decide.{ℕ_discrete}
use lib.Dec.{eqb}
use lib.ListN.{length, get_or, length-map}
use borrow.Author.Tests.{eq-eqb, ne_eqb, not-true, lt-leb}
use Rattle.hl7.specs.Text.{bytes}
use Rattle.hl7.specs.Bytes.{within, is_in, same, among}
use Rattle.hl7.proofs.Comparing.{and_both, among-append}
use Rattle.grade.specs.Book.{Contents, distinct, keys}
use Rattle.grade.specs.Encoding.{each}
use Rattle.grade.specs.Limits.{section_limit}
use Rattle.grade.specs.Rule.{severity_letter, kind_fits}
use Rattle.grade.specs.declared.rule.Kind.{Kind}
use Rattle.grade.specs.declared.rule.Rule.{Rule}
use Rattle.booktext.specs.Lines.{Statement, number_from, verbs, verb_of, a_set, a_common, a_section, a_code, some_sets, a_rule, an_also}
use Rattle.booktext.specs.Words.{kind_number, a_code_kind}
use Rattle.booktext.specs.Meaning.{from}
use Rattle.booktext.specs.Faults.{nothing}
use Rattle.booktext.specs.Refusals.{at_of, is_there, is_set, lacks, name_fault, first_name_fault}
use Rattle.booktext.proofs.Each.{each_join}
use Rattle.canonical.specs.Shown.{printed, set_name, code_line, set_lines, set_names, pin_lines, place_word, kind_word, bound_words, rule_spot, rule_lines, section_lines, book_lines}
use Rattle.canonical.proofs.Printing.{placed, printed-line, printed-append}
use Rattle.canonical.proofs.ReadBack.{kind_back}
use Rattle.canonical.proofs.Paging.{same_turned, line_verb, verbs_pass, is_not, line_at, next_at, names_at, names_at-append, names_at-none, from-there}
use Rattle.canonical.proofs.Showable.{is_shown, AllFit, Formed, shown_kind, within_bounds, Lines, section_line, all_lines, page_lines, page_verbs, set-verbs}
use Rattle.canonical.proofs.Showing.{name-among}
use Rattle.canonical.proofs.ShownMeans.{sets, after, book-parted, sets_differ, all_names, book-named}

-- ---- what each line asks
-- a line that names no common and no set that there is not
abbrev names : List Statement → List (List ℕ) → Bool
names all ws = not (lacks all (line_at 0 ws))

names_anywhere : (all : List Statement) (at : ℕ) (ws : List (List ℕ)) → names all ws ≡ true → lacks all (line_at at ws) ≡ false
unfolding lacks
names_anywhere all at ws e = not-true (lacks all (line_at 0 ws)) e

-- lines whose heads are found where they stand, at most 64 sections of them
module _ (t : List ℕ) (all : Lines) (differ : (v : ℕ) → within a_set a_section v ≡ true → distinct (names_at v all) ≡ true) where
  first-there : (pre : Lines) (x : List (List ℕ)) (post : Lines) (at : ℕ) → all ≡ pre ++ (x ∷ post) → at ≡ 0 + length (printed pre)
      → (within a_set a_section (line_verb x) && not (eqb (at_of (from (line_verb x) (get_or x 1 []) (placed 0 all))) at)) ≡ false
  unfolding placed
  first-there pre x post at e there = by (within a_set a_section (line_verb x)) refl
    where
      found : distinct (names_at (line_verb x) all) ≡ true → from (line_verb x) (get_or x 1 []) (placed 0 all) ≡ placed at (x ∷ post)
      found d =
          ap (λ (l : Lines). from (line_verb x) (get_or x 1 []) (placed 0 l)) e
          ∙ from-there (line_verb x) pre x post (ap (λ (l : Lines). distinct (names_at (line_verb x) l)) (sym e) ∙ d) (eq-eqb (line_verb x) (line_verb x) refl)
          ∙ ap (λ (n : ℕ). placed n (x ∷ post)) (sym there)

      here : (ss : List Statement) → ss ≡ placed at (x ∷ post) → eqb (at_of ss) at ≡ true
      here ss f = eq-eqb (at_of ss) at (ap at_of f)

      by : (b : Bool) → within a_set a_section (line_verb x) ≡ b → (b && not (eqb (at_of (from (line_verb x) (get_or x 1 []) (placed 0 all))) at)) ≡ false
      by true f = ap not (here (from (line_verb x) (get_or x 1 []) (placed 0 all)) (found (differ (line_verb x) f)))
      by false f = refl

  names_pass : (pre lines : Lines) (count at : ℕ) → all ≡ pre ++ lines → at ≡ 0 + length (printed pre)
      → 1 ≤ count + length (names_at a_section lines) → count + length (names_at a_section lines) ≤ section_limit → each (names (placed 0 all)) lines ≡ true
      → first_name_fault t (placed 0 all) count (placed at lines) ≡ nothing
  unfolding first_name_fault name_fault placed names_at printed
  names_pass pre [] count at e there some few known = rw (ne_eqb count 0 (λ z. absurd (omega arith)))
  names_pass pre (x ∷ lines) count at e there some few known =
      let both = and_both (names (placed 0 all) x) (each (names (placed 0 all)) lines) known in
      let next : next_at at x ≡ 0 + length (printed (pre ++ (x ∷ []))) = omega (arith, printed-append pre (x ∷ []), printed-line x []) in
      by (eqb (line_verb x) a_section) refl some few (names_anywhere (placed 0 all) at x both.0)
      (λ n more less. names_pass (pre ++ (x ∷ [])) lines n (next_at at x) (e ∙ sym (append_assoc pre (x ∷ []) lines)) next more less both.1)
    where
      by : (b : Bool) → eqb (line_verb x) a_section ≡ b
          → 1 ≤ count + length (cond b (get_or x 1 [] ∷ names_at a_section lines) (names_at a_section lines))
          → count + length (cond b (get_or x 1 [] ∷ names_at a_section lines) (names_at a_section lines)) ≤ section_limit
          → lacks (placed 0 all) (line_at at x) ≡ false
          → ((n : ℕ) → 1 ≤ n + length (names_at a_section lines) → n + length (names_at a_section lines) ≤ section_limit → first_name_fault t (placed 0 all) n (placed (next_at at x) lines) ≡ nothing)
          → first_name_fault t (placed 0 all) count (placed at (x ∷ lines)) ≡ nothing
      by true f some few l ih = rw (first-there pre x lines at e there, f, lt-leb section_limit count (omega arith), l) (ih (suc count) (omega arith) (omega arith))
      by false f some few l ih = rw (first-there pre x lines at e there, f, l) (ih count some few)

-- ---- a set that stands among the lines is there
set_there : (name : List ℕ) (at : ℕ) (xs : Lines) → among name (names_at a_set xs) ≡ true → is_set (placed at xs) name ≡ true
unfolding from placed names_at among
set_there name at [] e = e
set_there name at (x ∷ xs) e = by (eqb (line_verb x) a_set) (same (get_or x 1 []) name) refl e (set_there name (next_at at x) xs)
  where
    by : (b c : Bool) → same (get_or x 1 []) name ≡ c → among name (cond b (get_or x 1 [] ∷ names_at a_set xs) (names_at a_set xs)) ≡ true
        → (among name (names_at a_set xs) ≡ true → is_set (placed (next_at at x) xs) name ≡ true)
        → is_there (cond (b && c) (line_at at x ∷ placed (next_at at x) xs) (from a_set name (placed (next_at at x) xs))) ≡ true
    by true true f g ih = refl
    by true false f g ih = ih (rw (same_turned (get_or x 1 []) name f) at g)
    by false c f g ih = ih g

-- ---- the lines of a book name what is there
module _ (all : List Statement) where
  set_known : (key : List ℕ) (n : ℕ) (sets : List (List (List ℕ))) → each (names all) (set_lines key n sets) ≡ true
  unfolding set_lines lacks verb_of verbs number_from same
  set_known key n [] = refl
  set_known key n (codes ∷ sets) = each_join (names all) (map code_line codes) (set_lines key (suc n) sets) (code_known codes) (set_known key (suc n) sets)
    where
      code_known : (codes : List (List ℕ)) → each (names all) (map code_line codes) ≡ true
      code_known [] = refl
      code_known (c ∷ codes) = code_known codes

  -- a rule asks for a set where its kind is CODE
  rule-asks : (b : Bool) (place kind severity : List ℕ) (bound : List (List ℕ))
      → lacks all (line_at 0 (cond b (bytes "also") (bytes "rule") ∷ place ∷ kind ∷ severity ∷ bound)) ≡ cond (eqb (kind_number kind) a_code_kind) (not (is_set all (get_or bound 0 []))) false
  unfolding lacks verb_of verbs number_from same
  rule-asks true place kind severity bound = refl
  rule-asks false place kind severity bound = refl

  module _ (key : List ℕ) (sets : List (List (List ℕ))) (there : (m : ℕ) → 1 ≤ m → m ≤ length sets → is_set all (set_name key m) ≡ true) where
    bound-known : (k : Kind) → kind_fits (length sets) k ≡ true → cond (eqb (kind_number (kind_word k)) a_code_kind) (not (is_set all (get_or (bound_words key k) 0 []))) false ≡ false
    bound-known Kind.Required e = rw (kind_back Kind.Required)
    bound-known (Kind.Length low high) e = rw (kind_back (Kind.Length low high))
    bound-known Kind.Number e = rw (kind_back Kind.Number)
    bound-known Kind.Date e = rw (kind_back Kind.Date)
    bound-known (Kind.Time digits) e = rw (kind_back (Kind.Time digits))
    bound-known (Kind.Code set) e = let bounds = within_bounds 1 (length sets) set e in rw (kind_back (Kind.Code set), there set bounds.0 bounds.1)

    rule-known : (before : List ℕ) (rules : List Rule) → each (is_shown (length sets)) rules ≡ true → each (names all) (rule_lines key before rules) ≡ true
    unfolding rule_lines
    rule-known before [] e = refl
    rule-known before (r ∷ rules) e =
        let both = and_both (is_shown (length sets) r) (each (is_shown (length sets)) rules) e in
        ap₂ ◌&&◌
        (ap not (rule-asks (is_in (rule_spot r) before) (place_word r.place) (kind_word r.kind) (severity_letter r.severity ∷ []) (bound_words key r.kind) ∙ bound-known r.kind (shown_kind (length sets) r both.0)))
        (rule-known (before ++ (rule_spot r ∷ [])) rules both.1)

  names-there : (key : List ℕ) (n : ℕ) (sets : List (List (List ℕ))) → ((m : ℕ) → n ≤ m → m < n + length sets → is_set all (set_name key m) ≡ true) → each (is_set all) (set_names key n sets) ≡ true
  unfolding set_names
  names-there key n [] there = refl
  names-there key n (set ∷ sets) there = ap₂ ◌&&◌ (there n (omega arith) (omega arith)) (names-there key (suc n) sets (λ m low high. there m (omega arith) (omega arith)))

  pin_known : (key : List ℕ) (sets : List (List (List ℕ))) → ((m : ℕ) → 1 ≤ m → m ≤ length sets → is_set all (set_name key m) ≡ true) → each (names all) (pin_lines key sets) ≡ true
  unfolding lacks verb_of verbs number_from same
  pin_known key [] there = refl
  pin_known key (set ∷ sets) there = rw (names-there key 1 (set ∷ sets) (λ m low high. there m low (omega arith)))

  section-known : (key : List ℕ) (tail : Lines) → each (names all) tail ≡ true → each (names all) (section_line key ∷ tail) ≡ true
  unfolding lacks verb_of verbs number_from same
  section-known key tail e = e

  book-known : (cs : List Contents) → AllFit cs → ((x : List ℕ) → among x (all_names cs) ≡ true → is_set all x ≡ true) → each (names all) (book_lines cs) ≡ true
  unfolding book_lines all_names
  book-known [] f there = refl
  book-known (c ∷ cs) f there =
      let own = set_names c.key 1 c.sets in
      let mine : (m : ℕ) → 1 ≤ m → m ≤ length c.sets → is_set all (set_name c.key m) ≡ true =
      λ m low high. there (set_name c.key m) (among-append (set_name c.key m) own (all_names cs) ∙ ap (λ (b : Bool). b || among (set_name c.key m) (all_names cs)) (name-among c.key m 1 c.sets low (omega arith))) in
      let others : (x : List ℕ) → among x (all_names cs) ≡ true → is_set all x ≡ true =
      λ x e. there x (among-append x own (all_names cs) ∙ ap (λ (b : Bool). among x own || b) e ∙ or-true (among x own)) in
      ap (each (names all)) (book-parted c cs)
      ∙ each_join (names all) (sets c cs) (section_line c.key ∷ after c cs) (set_known c.key 1 c.sets)
      (section-known c.key (after c cs)
      (each_join (names all) (page_lines c) (book_lines cs)
      (each_join (names all) (pin_lines c.key c.sets) (rule_lines c.key [] c.rules) (pin_known c.key c.sets mine) (rule-known c.key c.sets mine [] c.rules f.0.rules))
      (book-known cs f.1 others)))

-- ---- the names of a book's heads differ
book-verbs : (test : ℕ → Bool) (cs : List Contents) → test a_set ≡ true → test a_code ≡ true → test a_section ≡ true → test some_sets ≡ true → test a_rule ≡ true → test an_also ≡ true → verbs_pass test (book_lines cs) ≡ true
unfolding book_lines section_lines verb_of verbs number_from same
book-verbs test [] s k h p r a = refl
book-verbs test (c ∷ cs) s k h p r a =
    let passes : List (List ℕ) → Bool = λ ws. test (line_verb ws) in
    each_join passes (section_lines c) (book_lines cs)
    (each_join passes (sets c cs) (section_line c.key ∷ page_lines c) (set-verbs test c.key 1 c.sets s k) (ap₂ ◌&&◌ h (page_verbs test c p r a)))
    (book-verbs test cs s k h p r a)

section-keys : (cs : List Contents) → names_at a_section (book_lines cs) ≡ keys cs
unfolding book_lines names_at verb_of verbs number_from same
section-keys [] = refl
section-keys (c ∷ cs) =
    ap (names_at a_section) (book-parted c cs)
    ∙ names_at-append a_section (sets c cs) (section_line c.key ∷ after c cs)
    ∙ ap₂ ◌++◌ (names_at-none a_section (sets c cs) (set-verbs (is_not a_section) c.key 1 c.sets refl refl))
    (ap (λ (l : List (List ℕ)). c.key ∷ l)
    (names_at-append a_section (page_lines c) (book_lines cs) ∙ ap₂ ◌++◌ (names_at-none a_section (page_lines c) (page_verbs (is_not a_section) c refl refl refl)) (section-keys cs)))

module _ (cs : List Contents) (f : Formed cs) where
  lines-keys : names_at a_section (all_lines cs) ≡ keys cs
  unfolding names_at verb_of verbs number_from same
  lines-keys = section-keys cs

  no_common : names_at a_common (all_lines cs) ≡ []
  unfolding names_at verb_of verbs number_from same
  no_common = names_at-none a_common (book_lines cs) (book-verbs (is_not a_common) cs refl refl refl refl refl refl)

  heads_differ : (v : ℕ) → within a_set a_section v ≡ true → distinct (names_at v (all_lines cs)) ≡ true
  unfolding distinct
  heads_differ v e = by (ℕ_discrete v a_set) (ℕ_discrete v a_section)
    where
      differs : ℕ → Bool
      differs n = distinct (names_at n (all_lines cs))

      by : Dec (v ≡ a_set) → Dec (v ≡ a_section) → distinct (names_at v (all_lines cs)) ≡ true
      by (yes p) d = ap differs p ∙ sets_differ cs f
      by (no p) (yes q) = ap differs q ∙ ap distinct lines-keys ∙ f.differ
      by (no p) (no q) =
          let bounds = within_bounds a_set a_section v e in
          let common : v ≡ a_common = omega (arith, bounds, p, q) in
          ap differs common ∙ ap distinct no_common

  pub book_names_pass : (t : List ℕ) → first_name_fault t (placed 0 (all_lines cs)) 0 (placed 0 (all_lines cs)) ≡ nothing
  unfolding printed lacks verb_of verbs number_from same
  book_names_pass t =
      let all = placed 0 (all_lines cs) in
      let bounds = within_bounds 1 section_limit (length cs) f.few in
      let count : length (names_at a_section (all_lines cs)) ≡ length cs = ap length lines-keys ∙ length-map cs (λ (c : Contents). c.key) in
      names_pass t (all_lines cs) heads_differ [] (all_lines cs) 0 0 refl refl (omega (arith, bounds, count)) (omega (arith, bounds, count))
      (book-known all cs f.fit (λ x e. set_there x 0 (all_lines cs) (ap (among x) (book-named cs) ∙ e)))
