-- No row refuses the canonical text of a book: a section uses nothing, its rules say `also` where they must, and its sizes are a book's (rows 46 to 56).
-- Assumes nothing.
use mathlib.Core.Path.{◌≡◌, refl, ap, ap₂, ◌∙◌}
use mathlib.Core.Bool.{Bool, true, false, cond, ◌&&◌}
use mathlib.Core.List.{List, [], ◌∷◌, ◌++◌, map, head-eq_of_cons-eq, tail-eq_of_cons-eq}
use Prim.Native.Nat.{ℕ, suc, ◌+◌, ◌≤◌}
use native.Mathlib.Omega.{arith}
use lib.Dec.{eqb, ltb}
use lib.ListN.{length, drop, length-append}
use borrow.Author.Tests.{not-true, le-ltb}
use Rattle.hl7.specs.Text.{bytes}
use Rattle.hl7.specs.Bytes.{within, is_in, same}
use Rattle.hl7.proofs.Comparing.{and_both}
use Rattle.grade.specs.Book.{Contents, distinct}
use Rattle.grade.specs.Encoding.{each, text_fits, set_fits, spell_all, section_bytes, book_bytes, well_formed}
use Rattle.grade.specs.Limits.{book_limit, code_limit, code_count_limit, rule_limit, set_limit}
use Rattle.grade.specs.declared.rule.Rule.{Rule}
use Rattle.booktext.specs.Lines.{Statement, text_limit, number_from, verbs, verb_of, line_of, makes_rule, of_place, a_set, a_section, a_use}
use Rattle.booktext.specs.Changes.{spot_of, settled}
use Rattle.booktext.specs.Contents.{names_of, held}
use Rattle.booktext.specs.Faults.{Told, nothing, firstly, first_fault}
use Rattle.booktext.specs.Refusals.{first_name_fault, used_twice, statement_limit, spots_of, stands, rule_fault, first_rule_fault, first_bad_set, over, sizes_told, section_told, sections_told, beginning, refusal}
use Rattle.canonical.specs.Shown.{printed, set_names, pin_lines, rule_spot, rule_line, rule_lines, section_lines, book_lines, shown}
use Rattle.booktext.proofs.Each.{each_join}
use Rattle.canonical.proofs.Printing.{placed, placed-append}
use Rattle.canonical.proofs.ReadBack.{place_back, kind_back}
use Rattle.canonical.proofs.Paging.{line_verb, verbs_pass, is_not, line_at, next_at, names_at}
use Rattle.canonical.proofs.Showable.{high_fits, is_shown, Fits, AllFit, Formed, formed, shown-place, Lines, section_line, book_line, all_lines, page_lines, rule_verb_lem, page_verbs, set-verbs}
use Rattle.canonical.proofs.Showing.{makes_rule_lem, page_names}
use Rattle.canonical.proofs.ShownPlain.{plain_verb, is_plain, settled_plain, stands_plain, stray_plain, sets-plain, page_plain}
use Rattle.canonical.proofs.ShownMeans.{sets, after, book-parted, page_body, page_whole, section_back, section-sets, next-section, sets_differ, shown-statements}
use Rattle.canonical.proofs.ShownRight.{bytes-right, lines-right}
use Rattle.canonical.proofs.ShownNamed.{book_names_pass}

-- ---- rows 46 and 56
used_none : (t : List ℕ) (line : ℕ) (rest : List Statement) (at : ℕ) (xs : Lines) → verbs_pass (is_not a_use) xs ≡ true → used_twice t line rest (placed at xs) ≡ nothing
unfolding used_twice placed
used_none t line rest at [] e = refl
used_none t line rest at (x ∷ xs) e =
    let both = and_both (is_not a_use (line_verb x)) (verbs_pass (is_not a_use) xs) e in
    rw (not-true (eqb (line_verb x) a_use) both.0) (used_none t line rest (next_at at x) xs both.1)

placed-length : (at : ℕ) (xs : Lines) → length (placed at xs) ≡ length xs
unfolding placed
placed-length at [] = refl
placed-length at (x ∷ xs) = ap suc (placed-length (next_at at x) xs)

rules-length : (key before : List ℕ) (rules : List Rule) → length (rule_lines key before rules) ≡ length rules
unfolding rule_lines
rules-length key before [] = refl
rules-length key before (r ∷ rules) = ap suc (rules-length key (before ++ (rule_spot r ∷ [])) rules)

page_short : (c : Contents) → length (page_lines c) ≤ 1 + length c.rules
page_short c = omega (arith, length-append (pin_lines c.key c.sets) (rule_lines c.key [] c.rules), pins c.sets, rules-length c.key [] c.rules)
  where
    pins : (sets : List (List (List ℕ))) → length (pin_lines c.key sets) ≤ 1
    pins [] = omega arith
    pins (set ∷ sets) = omega arith

-- ---- rows 47 to 49
spots-append : (xs ys : List Statement) → spots_of (xs ++ ys) ≡ spots_of xs ++ spots_of ys
unfolding spots_of
spots-append [] ys = refl
spots-append (x ∷ xs) ys = by (makes_rule x) (spots-append xs ys)
  where
    by : (b : Bool) → spots_of (xs ++ ys) ≡ spots_of xs ++ spots_of ys → cond b (spot_of x ∷ spots_of (xs ++ ys)) (spots_of (xs ++ ys)) ≡ cond b (spot_of x ∷ spots_of xs) (spots_of xs) ++ spots_of ys
    by true e = ap (λ (l : List ℕ). spot_of x ∷ l) e
    by false e = e

-- a rule that says `also` where one stands before it, and only there
verb-right : (all before : List Statement) (at : ℕ) (b : Bool) (ws : List (List ℕ)) → stands (spot_of (line_at at (cond b (bytes "also") (bytes "rule") ∷ ws))) before ≡ b
    → rule_fault all before (line_at at (cond b (bytes "also") (bytes "rule") ∷ ws)) ≡ 0
unfolding rule_fault verb_of verbs number_from same
verb-right all before at true ws e = rw e
verb-right all before at false ws e = rw e

module _ (key : List ℕ) (sets : ℕ) (t : List ℕ) (all : List Statement) (line : ℕ) where
  spot_back : (at : ℕ) (spots : List ℕ) (r : Rule) → is_shown sets r ≡ true → spot_of (line_at at (rule_line key spots r)) ≡ rule_spot r
  unfolding spot_of
  spot_back at spots r e = rw (rule_verb_lem of_place spots r refl refl, place_back r.place (shown-place sets r e), kind_back r.kind)

  spots_back : (at : ℕ) (spots : List ℕ) (r : Rule) → is_shown sets r ≡ true → spots_of (line_at at (rule_line key spots r) ∷ []) ≡ rule_spot r ∷ []
  unfolding spots_of
  spots_back at spots r e = rw (makes_rule_lem spots r) (ap (λ (n : ℕ). n ∷ []) (spot_back at spots r e))

  -- after statements that make rules of these places and kinds
  rules-stand : (before : List Statement) (spots : List ℕ) (at : ℕ) (rules : List Rule) → each is_plain before ≡ true → spots_of before ≡ spots → each (is_shown sets) rules ≡ true
      → first_rule_fault t all line before (placed at (rule_lines key spots rules)) ≡ nothing
  unfolding first_rule_fault placed rule_lines
  rules-stand before spots at [] plain noted e = refl
  rules-stand before spots at (r ∷ rules) plain noted e =
      let both = and_both (is_shown sets r) (each (is_shown sets) rules) e in
      let s = line_at at (rule_line key spots r) in
      let stood : stands (spot_of s) before ≡ is_in (rule_spot r) spots = stands_plain (spot_of s) before plain ∙ ap₂ is_in (spot_back at spots r both.0) noted in
      let right = verb-right all before at (is_in (rule_spot r) spots) (drop 1 (rule_line key spots r)) stood in
      rw right
      (rules-stand (before ++ (s ∷ [])) (spots ++ (rule_spot r ∷ [])) (next_at at (rule_line key spots r)) rules
      (each_join is_plain before (s ∷ []) plain (ap₂ ◌&&◌ (rule_verb_lem plain_verb spots r refl refl) refl))
      (spots-append before (s ∷ []) ∙ ap₂ ◌++◌ noted (spots_back at spots r both.0))
      both.1)

page_stands : (key : List ℕ) (t : List ℕ) (all : List Statement) (line : ℕ) (sets : List (List (List ℕ))) (at : ℕ) (rules : List Rule) → each (is_shown (length sets)) rules ≡ true
    → first_rule_fault t all line [] (placed at (pin_lines key sets ++ rule_lines key [] rules)) ≡ nothing
unfolding first_rule_fault rule_fault placed spots_of verb_of verbs number_from same
page_stands key t all line [] at rules e = rules-stand key 0 t all line [] [] at rules refl refl e
page_stands key t all line (set ∷ sets) at rules e =
    let names = bytes "sets" ∷ set_names key 1 (set ∷ sets) in
    rules-stand key (length (set ∷ sets)) t all line (line_at at names ∷ []) [] (next_at at names) rules refl refl e

-- ---- rows 50 to 54
bad_none : (t : List ℕ) (line : ℕ) (all ss : List Statement) (names : List (List ℕ)) (sets : List (List (List ℕ))) → map (held all ss) names ≡ sets → each set_fits sets ≡ true → first_bad_set t line all ss names ≡ nothing
unfolding first_bad_set
bad_none t line all ss [] sets e f = refl
bad_none t line all ss (name ∷ names) [] e f = absurd (omega (arith, ap length e))
bad_none t line all ss (name ∷ names) (set ∷ sets) e f =
    let both = and_both (set_fits set) (each set_fits sets) f in
    let count = (and_both (within 1 code_count_limit (length set)) (each (text_fits code_limit) set) both.0).0 in
    rw (ap (λ (l : List (List ℕ)). within 1 code_count_limit (length l)) (head-eq_of_cons-eq e) ∙ count) (bad_none t line all ss names sets (tail-eq_of_cons-eq e) both.1)

firstly-none : (a b : Told) → a ≡ nothing → b ≡ nothing → firstly a b ≡ nothing
firstly-none a b e f = rw (e, f)

over_none : (number line a b : ℕ) → b ≤ a → over number line (ltb a b) ≡ nothing
over_none number line a b h = rw (le-ltb a b h)

-- ---- a section
module _ (t : List ℕ) (c : Contents) (cs : List Contents) (fits : Fits c) (all pre : Lines) (d : distinct (names_at a_set all) ≡ true) (e : all ≡ pre ++ book_lines (c ∷ cs)) where
  abbrev whole : List Statement
  whole = placed 0 all

  sizes_none : (size line at : ℕ) → size + length (section_bytes c) ≤ book_limit → sizes_told t whole size line c (placed at (page_lines c)) ≡ nothing
  sizes_none size line at h =
      let ss = placed at (page_lines c) in
      let plain = page_plain c at in
      let names = set_names c.key 1 c.sets in
      let named = ap names_of (settled_plain ss plain) ∙ page_names c fits at in
      firstly-none _ _ (over_none 50 line rule_limit (length c.rules) fits.few_rules)
      (firstly-none _ _ (over_none 51 line set_limit (length c.sets) fits.few_sets)
      (firstly-none _ _ (stray_plain t line (names_of (settled ss)) ss plain)
      (firstly-none _ _ (ap (first_bad_set t line whole ss) named ∙ bad_none t line whole ss names c.sets (sets-plain whole ss plain names ∙ section-sets c cs all pre d e) fits.sets)
      (over_none 54 line book_limit (size + length (section_bytes c)) h))))

  section-passes : (size here at : ℕ) → size + length (section_bytes c) ≤ book_limit → section_told t whole size (line_at here (section_line c.key)) (placed at (after c cs)) ≡ nothing
  unfolding section_told
  section-passes size here at h =
      let line = line_of t here in
      let page = page_whole c cs whole at in
      let short : length (placed at (page_lines c)) ≤ statement_limit = omega (arith, placed-length at (page_lines c), page_short c, fits.few_rules) in
      firstly-none _ _ (ap (used_twice t line (placed at (after c cs))) (page_body c cs at) ∙ used_none t line (placed at (after c cs)) at (page_lines c) (page_verbs (is_not a_use) c refl refl refl))
      (firstly-none _ _ (ap (λ (l : List Statement). over 56 line (ltb statement_limit (length l))) page ∙ over_none 56 line statement_limit (length (placed at (page_lines c))) short)
      (firstly-none _ _ (ap (first_rule_fault t whole line []) page ∙ page_stands c.key t whole line c.sets at c.rules fits.rules)
      (ap₂ (λ (x : Contents) (l : List Statement). sizes_told t whole size line x l) (section_back c cs all pre d e at fits) page ∙ sizes_none size line at h)))

-- ---- all of them
skip_told : (t : List ℕ) (all : List Statement) (size at : ℕ) (xs : Lines) (ss : List Statement) → verbs_pass (is_not a_section) xs ≡ true → sections_told t all size (placed at xs ++ ss) ≡ sections_told t all size ss
unfolding sections_told placed
skip_told t all size at [] ss e = refl
skip_told t all size at (x ∷ xs) ss e =
    let both = and_both (is_not a_section (line_verb x)) (verbs_pass (is_not a_section) xs) e in
    rw (not-true (eqb (line_verb x) a_section) both.0) (skip_told t all size (next_at at x) xs ss both.1)

sections_pass : (t : List ℕ) (all pre : Lines) (size at : ℕ) (cs : List Contents) → AllFit cs → distinct (names_at a_set all) ≡ true → all ≡ pre ++ book_lines cs → size + length (spell_all section_bytes cs) ≤ book_limit
    → sections_told t (placed 0 all) size (placed at (book_lines cs)) ≡ nothing
unfolding sections_told placed book_lines verb_of verbs number_from same
sections_pass t all pre size at [] fits d e h = refl
sections_pass t all pre size at (c ∷ cs) fits d e h =
    let whole = placed 0 all in
    let here = at + length (printed (sets c cs)) in
    let page = next_at here (section_line c.key) in
    let next = page + length (printed (page_lines c)) in
    let size-here : size + length (section_bytes c) + length (spell_all section_bytes cs) ≤ book_limit = omega (arith, length-append (section_bytes c) (spell_all section_bytes cs)) in
    ap (λ (l : Lines). sections_told t whole size (placed at l)) (book-parted c cs)
    ∙ ap (sections_told t whole size) (placed-append at (sets c cs) (section_line c.key ∷ after c cs))
    ∙ skip_told t whole size at (sets c cs) (placed here (section_line c.key ∷ after c cs)) (set-verbs (is_not a_section) c.key 1 c.sets refl refl)
    ∙ firstly-none _ _ (section-passes t c cs fits.0 all pre d e size here page (omega arith))
    (ap (λ (x : Contents). sections_told t whole (size + length (section_bytes x)) (placed page (after c cs))) (section_back c cs all pre d e page fits.0)
    ∙ ap (sections_told t whole (size + length (section_bytes c))) (placed-append page (page_lines c) (book_lines cs))
    ∙ skip_told t whole (size + length (section_bytes c)) page (page_lines c) (placed next (book_lines cs)) (page_verbs (is_not a_section) c refl refl refl)
    ∙ sections_pass t all (pre ++ section_lines c) (size + length (section_bytes c)) next cs fits.1 d (next-section all pre c cs e) size-here)

-- ---- the book
book_size : (cs : List Contents) → length (book_bytes cs) ≡ beginning + length (spell_all section_bytes cs)
unfolding book_bytes
book_size cs = omega arith

book-passes : (t : List ℕ) (cs : List Contents) → Formed cs → sections_told t (placed 0 (all_lines cs)) beginning (placed 0 (all_lines cs)) ≡ nothing
unfolding sections_told placed verb_of verbs number_from same
book-passes t cs f = sections_pass t (all_lines cs) (book_line ∷ []) beginning (next_at 0 book_line) cs f.fit (sets_differ cs f) refl (omega (arith, f.short, book_size cs))

formed-passes : (cs : List Contents) → Formed cs → length (shown cs) ≤ text_limit → refusal (shown cs) ≡ nothing
unfolding refusal
formed-passes cs f h =
    let t = shown cs in
    firstly-none _ _ (bytes-right cs f.fit h)
    (ap (λ (l : List Statement). firstly (first_fault t 0 l) (firstly (first_name_fault t l 0 l) (sections_told t l beginning l))) (shown-statements cs f)
    ∙ firstly-none _ _ (lines-right t cs f.fit) (firstly-none _ _ (book_names_pass cs f t) (book-passes t cs f)))

-- no row refuses it
pub shown-passes : (cs : List Contents) → well_formed cs ≡ true → each high_fits cs ≡ true → length (shown cs) ≤ text_limit → refusal (shown cs) ≡ nothing
shown-passes cs e h k = formed-passes cs (formed cs e h) k
