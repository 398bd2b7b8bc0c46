-- The canonical text of a book means the book: its sets are found by their names, which differ, and each section says its own. Assumes nothing.
use mathlib.Core.Path.{◌≡◌, refl, sym, ap, ap₂, ◌∙◌}
use mathlib.Core.Bool.{true, false, not, ◌&&◌, ◌||◌}
use mathlib.Core.List.{List, [], ◌∷◌, ◌++◌, map, append-nil, append_assoc}
use Prim.Native.Nat.{ℕ, suc, ◌+◌, ◌≤◌}
use native.Mathlib.Omega.{arith}
use lib.ListN.{length}
use borrow.Author.Tests.{not-true}
use Rattle.hl7.specs.Bytes.{all, same, among}
use Rattle.hl7.proofs.Comparing.{and_both, or_neither, among-append}
use Rattle.grade.specs.Book.{Contents, distinct, keys}
use Rattle.grade.specs.Encoding.{each, well_formed}
use Rattle.booktext.specs.Lines.{Statement, number_from, verbs, verb_of, a_set, a_section, a_use, statements}
use Rattle.booktext.specs.Meaning.{body, from, expand}
use Rattle.booktext.specs.Contents.{listed, codes_at, codes_of, contents_of, sections_in, meaning}
use Rattle.canonical.specs.Shown.{printed, set_name, code_line, set_lines, set_names, section_lines, book_lines, shown}
use Rattle.canonical.proofs.Printing.{placed, statements-printed, placed-append}
use Rattle.canonical.proofs.ReadBack.{other_key}
use Rattle.canonical.proofs.ShownWords.{book-words}
use Rattle.canonical.proofs.Paging.{distinct_append, is_not, no_head, next_at, body-block, skip_sections, expand-none, names_at, names_at-append, names_at-none, from-there}
use Rattle.canonical.proofs.Showable.{high_fits, Fits, AllFit, Formed, formed, Lines, set_line, section_line, book_line, all_lines, page_lines, page_verbs, code_verbs, set-verbs}
use Rattle.canonical.proofs.Showing.{names_apart, names-distinct, page_names, page_rules}
use Rattle.canonical.proofs.ShownPlain.{contents_plain, page_plain}

-- ---- the lines of a book
-- what follows is a head, or nothing
abbrev Ends : Lines → Type 0
Ends lines = (at : ℕ) → body (placed at lines) ≡ []

sets_end_lem : (key : List ℕ) (n : ℕ) (sets : List (List (List ℕ))) (tail : Lines) → Ends tail → Ends (set_lines key n sets ++ tail)
unfolding set_lines body placed verb_of verbs number_from same
sets_end_lem key n [] tail e at = e at
sets_end_lem key n (codes ∷ sets) tail e at = refl

section-ends : (key : List ℕ) (tail : Lines) → Ends (section_line key ∷ tail)
unfolding body placed verb_of verbs number_from same
section-ends key tail at = refl

book-ends : (cs : List Contents) → Ends (book_lines cs)
unfolding book_lines section_lines body placed
book-ends [] at = refl
book-ends (c ∷ cs) at =
    ap (λ (l : Lines). body (placed at l)) (append_assoc (set_lines c.key 1 c.sets) (section_line c.key ∷ page_lines c) (book_lines cs))
    ∙ sets_end_lem c.key 1 c.sets (section_line c.key ∷ (page_lines c ++ book_lines cs)) (section-ends c.key (page_lines c ++ book_lines cs)) at

-- ---- a set's codes
codes-listed : (at : ℕ) (codes : List (List ℕ)) → listed (placed at (map code_line codes)) ≡ codes
unfolding listed placed verb_of verbs number_from same
codes-listed at [] = refl
codes-listed at (c ∷ codes) = ap (λ (l : List (List ℕ)). c ∷ l) (codes-listed (next_at at (code_line c)) codes)

codes-block : (at : ℕ) (key : List ℕ) (n : ℕ) (codes : List (List ℕ)) (tail : Lines) → Ends tail → codes_at (placed at (set_line key n ∷ (map code_line codes ++ tail))) ≡ codes
unfolding placed
codes-block at key n codes tail e =
    let next = next_at at (set_line key n) in
    let after = next + length (printed (map code_line codes)) in
    ap (λ (l : List Statement). listed (body l)) (placed-append next (map code_line codes) tail)
    ∙ ap listed (body-block next (map code_line codes) (placed after tail) (code_verbs no_head codes refl) (e after))
    ∙ codes-listed next codes

-- of all lines, in which the names of sets differ, a set and what follows it
set_back : (all pre : Lines) (key : List ℕ) (n : ℕ) (codes : List (List ℕ)) (tail : Lines) → distinct (names_at a_set all) ≡ true → all ≡ pre ++ (set_line key n ∷ (map code_line codes ++ tail)) → Ends tail
    → codes_of (placed 0 all) (set_name key n) ≡ codes
unfolding codes_of verb_of verbs number_from same
set_back all pre key n codes tail d e ends =
    ap (λ (l : Lines). codes_at (from a_set (set_name key n) (placed 0 l))) e
    ∙ ap codes_at (from-there a_set pre (set_line key n) (map code_line codes ++ tail) (ap (λ (l : Lines). distinct (names_at a_set l)) (sym e) ∙ d) refl)
    ∙ codes-block (0 + length (printed pre)) key n codes tail ends

-- the sets of a section
sets_back : (all pre : Lines) (key : List ℕ) (n : ℕ) (sets : List (List (List ℕ))) (tail : Lines) → distinct (names_at a_set all) ≡ true → all ≡ pre ++ (set_lines key n sets ++ tail) → Ends tail
    → map (codes_of (placed 0 all)) (set_names key n sets) ≡ sets
unfolding set_lines set_names
sets_back all pre key n [] tail d e ends = refl
sets_back all pre key n (codes ∷ sets) tail d e ends =
    let lines = map code_line codes in
    let later = set_lines key (suc n) sets ++ tail in
    let here = e ∙ ap (λ (l : Lines). pre ++ (set_line key n ∷ l)) (append_assoc lines (set_lines key (suc n) sets) tail) in
    let there = here ∙ sym (append_assoc pre (set_line key n ∷ lines) later) in
    ap₂ ◌∷◌
    (set_back all pre key n codes later d here (sets_end_lem key (suc n) sets tail ends))
    (sets_back all (pre ++ (set_line key n ∷ lines)) key (suc n) sets tail d there ends)

-- ---- sections
module _ (c : Contents) (cs : List Contents) where
  abbrev pub sets : Lines
  sets = set_lines c.key 1 c.sets

  -- what follows the section's own line
  abbrev pub after : Lines
  after = page_lines c ++ book_lines cs

  pub book-parted : book_lines (c ∷ cs) ≡ sets ++ (section_line c.key ∷ after)
  unfolding book_lines section_lines
  book-parted = append_assoc sets (section_line c.key ∷ page_lines c) (book_lines cs)

  pub page_body : (at : ℕ) → body (placed at after) ≡ placed at (page_lines c)
  page_body at =
      let next = at + length (printed (page_lines c)) in
      ap body (placed-append at (page_lines c) (book_lines cs)) ∙ body-block at (page_lines c) (placed next (book_lines cs)) (page_verbs no_head c refl refl refl) (book-ends cs next)

  pub page_whole : (all : List Statement) (at : ℕ) → expand all (body (placed at after)) ≡ placed at (page_lines c)
  page_whole all at = ap (expand all) (page_body at) ∙ expand-none all at (page_lines c) (page_verbs (is_not a_use) c refl refl refl)

  module _ (all pre : Lines) (d : distinct (names_at a_set all) ≡ true) (e : all ≡ pre ++ book_lines (c ∷ cs)) where
    pub section-sets : map (codes_of (placed 0 all)) (set_names c.key 1 c.sets) ≡ c.sets
    section-sets = sets_back all pre c.key 1 c.sets (section_line c.key ∷ after) d (e ∙ ap (λ (l : Lines). pre ++ l) book-parted) (section-ends c.key after)

    pub section_back : (at : ℕ) → Fits c → contents_of (placed 0 all) c.key (expand (placed 0 all) (body (placed at after))) ≡ c
    section_back at fits =
        let held = ap (map (codes_of (placed 0 all))) (page_names c fits at) ∙ section-sets in
        ap (contents_of (placed 0 all) c.key) (page_whole (placed 0 all) at)
        ∙ contents_plain (placed 0 all) (placed at (page_lines c)) (page_plain c at) c.key
        ∙ (λ i. record { key = c.key; rules = page_rules c fits at i; sets = held i })

-- one section further
pub next-section : (all pre : Lines) (c : Contents) (cs : List Contents) → all ≡ pre ++ book_lines (c ∷ cs) → all ≡ (pre ++ section_lines c) ++ book_lines cs
unfolding book_lines
next-section all pre c cs e = e ∙ sym (append_assoc pre (section_lines c) (book_lines cs))

sections_back : (all pre : Lines) (at : ℕ) (cs : List Contents) → AllFit cs → distinct (names_at a_set all) ≡ true → all ≡ pre ++ book_lines cs → sections_in (placed 0 all) (placed at (book_lines cs)) ≡ cs
unfolding sections_in placed book_lines verb_of verbs number_from same
sections_back all pre at [] fits d e = refl
sections_back all pre at (c ∷ cs) fits d e =
    let here = at + length (printed (sets c cs)) in
    let page = next_at here (section_line c.key) in
    let next = page + length (printed (page_lines c)) in
    ap (λ (l : Lines). sections_in (placed 0 all) (placed at l)) (book-parted c cs)
    ∙ ap (sections_in (placed 0 all)) (placed-append at (sets c cs) (section_line c.key ∷ after c cs))
    ∙ skip_sections (placed 0 all) at (sets c cs) (placed here (section_line c.key ∷ after c cs)) (set-verbs (is_not a_section) c.key 1 c.sets refl refl)
    ∙ ap₂ ◌∷◌
    (section_back c cs all pre d e page fits.0)
    (ap (sections_in (placed 0 all)) (placed-append page (page_lines c) (book_lines cs))
    ∙ skip_sections (placed 0 all) page (page_lines c) (placed next (book_lines cs)) (page_verbs (is_not a_section) c refl refl refl)
    ∙ sections_back all (pre ++ section_lines c) next cs fits.1 d (next-section all pre c cs e))

-- ---- the names of a book's sets differ
unfoldable pub all_names : List Contents → List (List ℕ)
all_names [] = []
all_names (c ∷ cs) = set_names c.key 1 c.sets ++ all_names cs

sets-named : (key : List ℕ) (n : ℕ) (sets : List (List (List ℕ))) → names_at a_set (set_lines key n sets) ≡ set_names key n sets
unfolding names_at set_lines set_names verb_of verbs number_from same
sets-named key n [] = refl
sets-named key n (codes ∷ sets) =
    ap (λ (l : List (List ℕ)). set_name key n ∷ l)
    (names_at-append a_set (map code_line codes) (set_lines key (suc n) sets)
    ∙ ap₂ ◌++◌ (names_at-none a_set (map code_line codes) (code_verbs (is_not a_set) codes refl)) (sets-named key (suc n) sets))

pub book-named : (cs : List Contents) → names_at a_set (all_lines cs) ≡ all_names cs
unfolding names_at book_lines section_lines all_names verb_of verbs number_from same
book-named [] = refl
book-named (c ∷ cs) =
    names_at-append a_set (section_lines c) (book_lines cs)
    ∙ ap₂ ◌++◌
    (names_at-append a_set (sets c cs) (section_line c.key ∷ page_lines c)
    ∙ ap₂ ◌++◌ (sets-named c.key 1 c.sets) (names_at-none a_set (page_lines c) (page_verbs (is_not a_set) c refl refl refl))
    ∙ append-nil (set_names c.key 1 c.sets))
    (book-named cs)

-- a name of a key that is none of theirs
foreign : (key : List ℕ) (n : ℕ) (cs : List Contents) → n ≤ 255 → AllFit cs → among key (keys cs) ≡ false → among (set_name key n) (all_names cs) ≡ false
unfolding among all_names
foreign key n [] h fits e = refl
foreign key n (c ∷ cs) h fits e =
    let neither = or_neither (same key c.key) (among key (keys cs)) e in
    let few = fits.0.few_sets in
    among-append (set_name key n) (set_names c.key 1 c.sets) (all_names cs)
    ∙ ap₂ ◌||◌
    (names_apart c.key key n 1 c.sets h (omega arith) (λ k low high. other_key n k h high key c.key neither.0))
    (foreign key n cs h fits.1 neither.1)

own_foreign : (key : List ℕ) (n : ℕ) (sets : List (List (List ℕ))) (cs : List Contents) → n + length sets ≤ 256 → AllFit cs → among key (keys cs) ≡ false → each (λ (x : List ℕ). not (among x (all_names cs))) (set_names key n sets) ≡ true
unfolding set_names
own_foreign key n [] cs few fits e = refl
own_foreign key n (codes ∷ sets) cs few fits e = ap₂ ◌&&◌ (ap not (foreign key n cs (omega arith) fits e)) (own_foreign key (suc n) sets cs (omega arith) fits e)

names_differ : (cs : List Contents) → AllFit cs → distinct (keys cs) ≡ true → distinct (all_names cs) ≡ true
unfolding distinct all_names
names_differ [] fits e = refl
names_differ (c ∷ cs) fits e =
    let both = and_both (not (among c.key (keys cs))) (distinct (keys cs)) e in
    let few = fits.0.few_sets in
    distinct_append (set_names c.key 1 c.sets) (all_names cs)
    (names-distinct c.key 1 c.sets (omega arith))
    (names_differ cs fits.1 both.1)
    (own_foreign c.key 1 c.sets cs (omega arith) fits.1 (not-true _ both.0))

-- ---- the book
module _ (cs : List Contents) (f : Formed cs) where
  pub sets_differ : distinct (names_at a_set (all_lines cs)) ≡ true
  sets_differ = ap distinct (book-named cs) ∙ names_differ cs f.fit f.differ

  pub shown-statements : statements (shown cs) ≡ placed 0 (all_lines cs)
  unfolding shown
  shown-statements = statements-printed (all_lines cs) (book-words cs f.fit)

  formed_means : meaning (shown cs) ≡ cs
  unfolding meaning sections_in placed verb_of verbs number_from same
  formed_means = ap (λ (l : List Statement). sections_in l l) shown-statements ∙ sections_back (all_lines cs) (book_line ∷ []) (next_at 0 book_line) cs f.fit sets_differ refl

-- reading back what was shown
pub shown_means : (cs : List Contents) → well_formed cs ≡ true → each high_fits cs ≡ true → meaning (shown cs) ≡ cs
shown_means cs e h = formed_means cs (formed cs e h)
