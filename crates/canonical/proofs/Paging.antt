-- Blocks of printed lines: which verbs they have, where a block ends, and where a head is found by its name. Assumes nothing.
use mathlib.Core.Path.{◌≡◌, refl, sym, ap, ap₂, ◌∙◌}
use mathlib.Core.Bool.{Bool, true, false, cond, not, ◌&&◌, ◌||◌, true≢false}
use mathlib.Core.List.{List, [], ◌∷◌, ◌++◌, append-nil, append_assoc}
use Prim.Native.Nat.{ℕ, ◌+◌}
use lib.Dec.{eqb}
use lib.ListN.{length, get_or}
use borrow.Author.Tests.{not-true}
use Rattle.hl7.specs.Bytes.{within, same, among}
use Rattle.hl7.proofs.Comparing.{and_both, or_neither, same_self, same_equal, among-append}
use Rattle.grade.specs.Book.{distinct}
use Rattle.grade.specs.Encoding.{each}
use Rattle.ack.specs.Layout.{joined}
use Rattle.booktext.specs.Lines.{Statement, verb_of, a_book, a_section, a_use}
use Rattle.booktext.specs.Meaning.{body, from, taken, expand}
use Rattle.booktext.specs.Contents.{sections_in, with_names}
use Rattle.canonical.specs.Shown.{printed}
use Rattle.canonical.proofs.Printing.{placed, placed-append}

-- ---- texts that differ pairwise
pub same_turned : (v w : List ℕ) → same v w ≡ false → same w v ≡ false
same_turned v w e = by (same w v) refl
  where
    by : (b : Bool) → same w v ≡ b → same w v ≡ false
    by true f = absurd (true≢false (sym (same_self v) ∙ ap (same v) (sym (same_equal w v f)) ∙ e))
    by false f = f

-- none is among those before it
distinct_apart : (xs : List (List ℕ)) (x : List ℕ) (ys : List (List ℕ)) → distinct (xs ++ (x ∷ ys)) ≡ true → among x xs ≡ false
unfolding distinct among
distinct_apart [] x ys e = refl
distinct_apart (y ∷ xs) x ys e =
    let both = and_both (not (among y (xs ++ (x ∷ ys)))) (distinct (xs ++ (x ∷ ys))) e in
    let later = or_neither (among y xs) (same y x || among y ys) (sym (among-append y xs (x ∷ ys)) ∙ not-true _ both.0) in
    ap₂ ◌||◌ (same_turned y x (or_neither (same y x) (among y ys) later.1).0) (distinct_apart xs x ys both.1)

pub distinct_append : (xs ys : List (List ℕ)) → distinct xs ≡ true → distinct ys ≡ true → each (λ (x : List ℕ). not (among x ys)) xs ≡ true → distinct (xs ++ ys) ≡ true
unfolding distinct
distinct_append [] ys e f g = f
distinct_append (x ∷ xs) ys e f g =
    let one = and_both (not (among x xs)) (distinct xs) e in
    let two = and_both (not (among x ys)) (each (λ (y : List ℕ). not (among y ys)) xs) g in
    ap₂ ◌&&◌ (ap not (among-append x xs ys ∙ ap₂ ◌||◌ (not-true (among x xs) one.0) (not-true (among x ys) two.0))) (distinct_append xs ys one.1 f two.1)

-- so each is noted, and those that are noted change nothing
pub names_new : (xs ys : List (List ℕ)) → distinct (xs ++ ys) ≡ true → with_names xs ys ≡ xs ++ ys
unfolding with_names
names_new xs [] e = sym (append-nil xs)
names_new xs (y ∷ ys) e =
    let there = append_assoc xs (y ∷ []) ys in
    ap (λ (b : Bool). with_names (cond b xs (xs ++ (y ∷ []))) ys) (distinct_apart xs y ys e)
    ∙ names_new (xs ++ (y ∷ [])) ys (ap distinct there ∙ e)
    ∙ there

pub names-known : (xs ys : List (List ℕ)) → each (λ (y : List ℕ). among y xs) ys ≡ true → with_names xs ys ≡ xs
unfolding with_names
names-known xs [] e = refl
names-known xs (y ∷ ys) e =
    let both = and_both (among y xs) (each (λ (z : List ℕ). among z xs) ys) e in
    ap (λ (b : Bool). with_names (cond b xs (xs ++ (y ∷ []))) ys) both.0 ∙ names-known xs ys both.1

pub names-append : (xs ys zs : List (List ℕ)) → with_names xs (ys ++ zs) ≡ with_names (with_names xs ys) zs
unfolding with_names
names-append xs [] zs = refl
names-append xs (y ∷ ys) zs = names-append (cond (among y xs) xs (xs ++ (y ∷ []))) ys zs

-- ---- verbs
abbrev pub line_verb : List (List ℕ) → ℕ
line_verb ws = verb_of (get_or ws 0 [])

-- a test that the verbs of all lines pass
abbrev pub verbs_pass : (ℕ → Bool) → List (List (List ℕ)) → Bool
verbs_pass test lines = each (λ (ws : List (List ℕ)). test (line_verb ws)) lines

abbrev pub is_not : ℕ → ℕ → Bool
is_not v w = not (eqb w v)

abbrev pub no_head : ℕ → Bool
no_head v = not (within a_book a_section v)

abbrev pub line_at : ℕ → List (List ℕ) → Statement
line_at at ws = record { at = at; words = ws; given = 0 }

-- where the line after it begins
abbrev pub next_at : ℕ → List (List ℕ) → ℕ
next_at at ws = at + length (joined 32 ws) + 1

-- ---- blocks
-- a block without a head ends where the next head stands, or at the end
pub body-block : (at : ℕ) (xs : List (List (List ℕ))) (ss : List Statement) → verbs_pass no_head xs ≡ true → body ss ≡ [] → body (placed at xs ++ ss) ≡ placed at xs
unfolding body placed
body-block at [] ss e f = f
body-block at (x ∷ xs) ss e f =
    let both = and_both (no_head (line_verb x)) (verbs_pass no_head xs) e in
    rw (not-true (within a_book a_section (line_verb x)) both.0) (ap (λ (l : List Statement). line_at at x ∷ l) (body-block (next_at at x) xs ss both.1 f))

pub skip_sections : (all : List Statement) (at : ℕ) (xs : List (List (List ℕ))) (ss : List Statement) → verbs_pass (is_not a_section) xs ≡ true → sections_in all (placed at xs ++ ss) ≡ sections_in all ss
unfolding sections_in placed
skip_sections all at [] ss e = refl
skip_sections all at (x ∷ xs) ss e =
    let both = and_both (is_not a_section (line_verb x)) (verbs_pass (is_not a_section) xs) e in
    rw (not-true (eqb (line_verb x) a_section) both.0) (skip_sections all (next_at at x) xs ss both.1)

pub expand-none : (all : List Statement) (at : ℕ) (xs : List (List (List ℕ))) → verbs_pass (is_not a_use) xs ≡ true → expand all (placed at xs) ≡ placed at xs
unfolding expand taken placed
expand-none all at [] e = refl
expand-none all at (x ∷ xs) e =
    let both = and_both (is_not a_use (line_verb x)) (verbs_pass (is_not a_use) xs) e in
    rw (not-true (eqb (line_verb x) a_use) both.0) (ap (λ (l : List Statement). line_at at x ∷ l) (expand-none all (next_at at x) xs both.1))

-- ---- heads by their names
-- the names of the lines with a verb
unfoldable pub names_at : ℕ → List (List (List ℕ)) → List (List ℕ)
names_at v [] = []
names_at v (ws ∷ lines) = cond (eqb (line_verb ws) v) (get_or ws 1 [] ∷ names_at v lines) (names_at v lines)

module _ (v : ℕ) where
  pub names_at-append : (xs ys : List (List (List ℕ))) → names_at v (xs ++ ys) ≡ names_at v xs ++ names_at v ys
  unfolding names_at
  names_at-append [] ys = refl
  names_at-append (x ∷ xs) ys = by (eqb (line_verb x) v) (names_at-append xs ys)
    where
      by : (b : Bool) → names_at v (xs ++ ys) ≡ names_at v xs ++ names_at v ys
          → cond b (get_or x 1 [] ∷ names_at v (xs ++ ys)) (names_at v (xs ++ ys)) ≡ cond b (get_or x 1 [] ∷ names_at v xs) (names_at v xs) ++ names_at v ys
      by true e = ap (λ (l : List (List ℕ)). get_or x 1 [] ∷ l) e
      by false e = e

  pub names_at-none : (xs : List (List (List ℕ))) → verbs_pass (is_not v) xs ≡ true → names_at v xs ≡ []
  unfolding names_at
  names_at-none [] e = refl
  names_at-none (x ∷ xs) e =
      let both = and_both (is_not v (line_verb x)) (verbs_pass (is_not v) xs) e in
      rw (not-true (eqb (line_verb x) v) both.0) (names_at-none xs both.1)

  from-later : (name : List ℕ) (at : ℕ) (xs : List (List (List ℕ))) (ss : List Statement) → among name (names_at v xs) ≡ false → from v name (placed at xs ++ ss) ≡ from v name ss
  unfolding from placed names_at among
  from-later name at [] ss e = refl
  from-later name at (x ∷ xs) ss e = by (eqb (line_verb x) v) e (placed (next_at at x) xs ++ ss) (from-later name (next_at at x) xs ss)
    where
      by : (b : Bool) → among name (cond b (get_or x 1 [] ∷ names_at v xs) (names_at v xs)) ≡ false → (rest : List Statement) → (among name (names_at v xs) ≡ false → from v name rest ≡ from v name ss)
          → cond (b && same (get_or x 1 []) name) (line_at at x ∷ rest) (from v name rest) ≡ from v name ss
      by true f rest ih =
          let neither = or_neither (same name (get_or x 1 [])) (among name (names_at v xs)) f in
          rw (same_turned name (get_or x 1 []) neither.0) (ih neither.1)
      by false f rest ih = ih f

  -- a head whose verb's names differ is found where it stands
  pub from-there : (pre : List (List (List ℕ))) (x : List (List ℕ)) (post : List (List (List ℕ))) → distinct (names_at v (pre ++ (x ∷ post))) ≡ true → eqb (line_verb x) v ≡ true
      → from v (get_or x 1 []) (placed 0 (pre ++ (x ∷ post))) ≡ placed (0 + length (printed pre)) (x ∷ post)
  unfolding from placed names_at
  from-there pre x post e f =
      let name = get_or x 1 [] in
      let names = names_at-append pre (x ∷ post) ∙ ap (λ (b : Bool). names_at v pre ++ cond b (name ∷ names_at v post) (names_at v post)) f in
      ap (from v name) (placed-append 0 pre (x ∷ post))
      ∙ from-later name 0 pre _ (distinct_apart (names_at v pre) name (names_at v post) (ap distinct (sym names) ∙ e))
      ∙ rw (f, same_self name)
