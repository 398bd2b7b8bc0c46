-- Laws of the names of a section's sets: a name's number, one name more, and loops that note names. Assumes nothing.
use mathlib.Core.Path.{◌≡◌, refl, sym, ap, ap₂, subst, ◌∙◌}
use mathlib.Core.Bool.{Bool, true, false, cond, not, ◌||◌, true≢false}
use mathlib.Core.List.{List, [], ◌∷◌, ◌++◌, map, map-append, append-nil}
use Prim.Native.Nat.{ℕ, suc, ◌+◌, ◌≤◌, ◌<◌}
use native.Mathlib.Omega.{arith}
use native.Mathlib.Numerals.{add-one}
use lib.Dec.{eqb}
use lib.ListN.{length, get_or, take, drop, set, length-take, length-append, length-map, drop_of_length-le}
use lib.Seq.{drop-cons, get_or-take, get_or-drop, take-suc-set}
use borrow.Author.Tests.{eq-eqb, ne_eqb, eqb-true}
use Rattle.hl7.specs.Bytes.{same, among}
use Rattle.hl7.specs.declared.cut.Span.{Span}
use Rattle.hl7.proofs.Comparing.{and_both}
use Rattle.booktext.specs.Lines.{Statement, word, verb, says, of_rule, makes_rule, number_from, some_sets}
use Rattle.booktext.specs.Words.{kind_number, a_code_kind}
use Rattle.booktext.specs.Contents.{with_name, with_names, pinned, asks_code, named, names_of}
use Rattle.booktext.specs.Standing.{no_span, span_bytes, words_from, statement_at, noted, no_cell, names_in, NextWord, NamesMore}
use Rattle.booktext.specs.declared.names.Names.{Names}
use Rattle.booktext.specs.Cells.{Cell}
use Rattle.booktext.proofs.Marking.{noted-verb, noted_other, cells_step, cells_done}

-- ---- a name's number, in the words of a loop along the spans
-- the names from number i on, of so many
abbrev pub names_left : List ℕ → List Span → ℕ → ℕ → List (List ℕ)
names_left t spans count i = map (span_bytes t) (drop i (take count spans))

module _ (t : List ℕ) (spans : List Span) (count i : ℕ) where
  pub names-past : count ≤ i → names_left t spans count i ≡ []
  names-past h =
      let past : length (take count spans) ≤ i = omega (arith, length-take count spans) in
      ap (map (span_bytes t)) (drop_of_length-le (take count spans) past)

  pub names_step : i < count → count ≤ length spans → names_left t spans count i ≡ span_bytes t (get_or spans i no_span) ∷ names_left t spans count (i + 1)
  names_step h k =
      let inside : i < length (take count spans) = omega (arith, length-take count spans) in
      ap (map (span_bytes t)) (drop-cons (take count spans) i no_span inside)
      ∙ ap₂ (λ (s : Span) (n : ℕ). span_bytes t s ∷ names_left t spans count n) (get_or-take count spans i no_span h) (sym (add-one i))

module _ (t x : List ℕ) (spans : List Span) (count i : ℕ) where
  pub number-over : count ≤ i → number_from (i + 1) x (names_left t spans count i) ≡ 0
  unfolding number_from
  number-over h = ap (number_from (i + 1) x) (names-past t spans count i h)

  module _ (h : i < count) (k : count ≤ length spans) where
    module _ {b : Bool} {y : List ℕ} (f : b ≡ same x y) (g : y ≡ span_bytes t (get_or spans i no_span)) where
      number_is : number_from (i + 1) x (names_left t spans count i) ≡ cond b (i + 1) (number_from (i + 1 + 1) x (names_left t spans count (i + 1)))
      unfolding number_from
      number_is =
          ap (number_from (i + 1) x) (names_step t spans count i h k)
          ∙ ap₂ (λ (b : Bool) (n : ℕ). cond b (i + 1) (number_from n x (names_left t spans count (i + 1)))) (sym (f ∙ ap (same x) g)) (sym (add-one (i + 1)))

      pub number-here : b ≡ true → number_from (i + 1) x (names_left t spans count i) ≡ i + 1
      number-here e = number_is ∙ rw e

      pub number-later : b ≡ false → number_from (i + 1) x (names_left t spans count i) ≡ number_from (i + 1 + 1) x (names_left t spans count (i + 1))
      number-later e = number_is ∙ rw e

pub number-start : (t x : List ℕ) (names : Names) → number_from 1 x (names_in t names) ≡ number_from (0 + 1) x (names_left t names.spans names.count 0)
unfolding names_in
number-start t x names = refl

-- ---- names with more
-- a name has a number just where it is among them
pub number-among : (n : ℕ) (x : List ℕ) (l : List (List ℕ)) → among x l ≡ not (eqb (number_from (suc n) x l) 0)
unfolding among number_from
number-among n x [] = refl
number-among n x (y ∷ l) = by (same x y) (number-among (suc n) x l)
  where
    by : (b : Bool) → among x l ≡ not (eqb (number_from (suc (suc n)) x l) 0) → (b || among x l) ≡ not (eqb (cond b (suc n) (number_from (suc (suc n)) x l)) 0)
    by true ih = sym (ap not (ne_eqb (suc n) 0 (λ e. absurd (omega arith))))
    by false ih = ih

with_longer : (all more : List (List ℕ)) → length all ≤ length (with_names all more)
unfolding with_names
with_longer all [] = omega arith
with_longer all (x ∷ more) = by (among x all) (with_longer (with_name all x) more)
  where
    by : (b : Bool) → length (cond b all (all ++ (x ∷ []))) ≤ length (with_names (with_name all x) more) → length all ≤ length (with_names (with_name all x) more)
    by true ih = ih
    by false ih = omega (arith, ih, length-append all (x ∷ []))

with_append : (all xs ys : List (List ℕ)) → with_names all (xs ++ ys) ≡ with_names (with_names all xs) ys
unfolding with_names
with_append all [] ys = refl
with_append all (x ∷ xs) ys = with_append (with_name all x) xs ys

-- ---- one name more
module _ (t : List ℕ) (names : Names) (name : Span) {n : ℕ} {w : List ℕ} (p : w ≡ span_bytes t name) (f : n ≡ number_from 1 w (names_in t names)) where
  abbrev all : List (List ℕ)
  all = names_in t names

  with_is : with_names all (span_bytes t name ∷ []) ≡ cond (not (eqb n 0)) all (all ++ (span_bytes t name ∷ []))
  unfolding with_names
  with_is =
      ap (λ (b : Bool). cond b all (all ++ (span_bytes t name ∷ [])))
      (ap (λ (x : List ℕ). among x all) (sym p) ∙ number-among 0 w all ∙ ap (λ (k : ℕ). not (eqb k 0)) (sym f))

  pub note_old : (n ≡ 0 → ⊥) → NamesMore t names true names (span_bytes t name ∷ [])
  note_old k = record { noted = λ r. sym (with_is ∙ rw (ne_eqb n 0 k)); over = λ r. absurd (true≢false r) }

  module _ (none : n ≡ 0) (room : length names.spans ≡ 64) where
    with_new : with_names all (span_bytes t name ∷ []) ≡ all ++ (span_bytes t name ∷ [])
    with_new = with_is ∙ rw (eq-eqb n 0 none)

    pub note_full : 64 ≤ names.count → NamesMore t names false names (span_bytes t name ∷ [])
    unfolding names_in
    note_full h =
        record {
          noted = λ r. absurd (true≢false (sym r));
          over = λ r.
              omega (
                arith,
                ap length with_new,
                length-append all (span_bytes t name ∷ []),
                length-map (take names.count names.spans) (span_bytes t),
                length-take names.count names.spans,
                room,
              );
        }

    pub note_new : names.count < 64 → (after : Names) → after.spans ≡ set names.spans names.count name → after.count ≡ names.count + 1 → NamesMore t names true after (span_bytes t name ∷ [])
    unfolding names_in
    note_new h after e k =
        let one : take (names.count + 1) (set names.spans names.count name) ≡ take names.count names.spans ++ (name ∷ []) =
        ap (λ (m : ℕ). take m (set names.spans names.count name)) (add-one names.count) ∙ take-suc-set names.spans names.count name (omega arith) in
        record {
          noted = λ r.
              ap₂ (λ (m : ℕ) (spans : List Span). map (span_bytes t) (take m spans)) k e
              ∙ ap (map (span_bytes t)) one
              ∙ map-append (span_bytes t) (take names.count names.spans) (name ∷ [])
              ∙ sym with_new;
          over = λ r. absurd (true≢false r);
        }

-- ---- names noted one after the other
more_as : (t : List ℕ) (names : Names) (r : Bool) (after : Names) {xs ys : List (List ℕ)} → xs ≡ ys → NamesMore t names r after xs → NamesMore t names r after ys
more_as t names r after e n = subst (λ (l : List (List ℕ)). NamesMore t names r after l) e n

more_none : (t : List ℕ) (names : Names) {more : List (List ℕ)} → more ≡ [] → NamesMore t names true names more
unfolding with_names
more_none t names e = record { noted = λ r. sym (ap (with_names (names_in t names)) e); over = λ r. absurd (true≢false r) }

-- some of those that are left were noted, or there was no room for them
module _ (t : List ℕ) {all more : List (List ℕ)} {names after : Names} {r : Bool} (passed : all ≡ with_names (names_in t names) more) (xs rest : List (List ℕ)) (e : more ≡ xs ++ rest) (n : NamesMore t names r after xs) where
  names_are : all ≡ with_names (with_names (names_in t names) xs) rest
  names_are = passed ∙ ap (with_names (names_in t names)) e ∙ with_append (names_in t names) xs rest

  pub names_on : r ≡ true → all ≡ with_names (names_in t after) rest
  names_on h = names_are ∙ ap (λ (l : List (List ℕ)). with_names l rest) (sym (n.noted h))

  pub names_past : r ≡ false → 64 < length all
  names_past h = omega (arith, ap length names_are, n.over h, with_longer (with_names (names_in t names) xs) rest)

pub names_done : (t : List ℕ) (names : Names) {all more : List (List ℕ)} → all ≡ with_names (names_in t names) more → more ≡ [] → names_in t names ≡ all
unfolding with_names
names_done t names passed e = sym (passed ∙ ap (with_names (names_in t names)) e)

-- all were noted, or there was no room for them
module _ (t : List ℕ) (before names : Names) {some more : List (List ℕ)} (passed : with_names (names_in t before) some ≡ with_names (names_in t names) more) where
  pub words_noted : more ≡ [] → NamesMore t before true names some
  words_noted e = record { noted = λ r. names_done t names passed e; over = λ r. absurd (true≢false r) }

  pub words_past : (xs rest : List (List ℕ)) → more ≡ xs ++ rest → {r : Bool} {after : Names} → NamesMore t names r after xs → r ≡ false → NamesMore t before false after some
  words_past xs rest e n h = record { noted = λ r. absurd (true≢false (sym r)); over = λ r. names_past t passed xs rest e n h }

-- ---- the words of a statement
module _ (t : List ℕ) (cell : Cell) (names : Names) where
  -- what a `sets` names, its line says
  said-pinned : pinned (noted t cell ∷ []) ≡ pinned (statement_at t cell.line 0 ∷ [])
  unfolding pinned
  said-pinned = by (makes_rule (noted t cell)) refl
    where
      no_rule_lem : (v : ℕ) → of_rule v ≡ true → eqb v some_sets ≡ false
      no_rule_lem v e = of (eqb v some_sets) refl
        where
          of : (b : Bool) → eqb v some_sets ≡ b → b ≡ false
          of true f = absurd (true≢false (sym e ∙ ap of_rule (eqb-true v some_sets f)))
          of false f = refl

      by : (b : Bool) → makes_rule (noted t cell) ≡ b → pinned (noted t cell ∷ []) ≡ pinned (statement_at t cell.line 0 ∷ [])
      by true e =
          let none = no_rule_lem (verb (noted t cell)) e in
          rw none (sym (rw (sym (ap (λ (v : ℕ). eqb v some_sets) (noted-verb t cell)) ∙ none)))
      by false e = ap (λ (s : Statement). pinned (s ∷ [])) (noted_other t cell e)

  module _ {v : ℕ} (f : v ≡ verb (statement_at t cell.line 0)) where
    pub sets-noted : (next : ℕ) {r : Bool} {after : Names} → v ≡ some_sets → words_from t next ≡ drop 1 (words_from t cell.line) → NamesMore t names r after (words_from t next) → NamesMore t names r after (pinned (noted t cell ∷ []))
    unfolding pinned
    sets-noted next {r} {after} e s n =
        more_as t names r after (s ∙ sym (rw (eq-eqb (verb (statement_at t cell.line 0)) some_sets (sym f ∙ e)) (append-nil (drop 1 (words_from t cell.line)))) ∙ sym said-pinned) n

    pub no_sets : (v ≡ some_sets → ⊥) → NamesMore t names true names (pinned (noted t cell ∷ []))
    unfolding pinned
    no_sets k = more_none t names (said-pinned ∙ rw (ne_eqb (verb (statement_at t cell.line 0)) some_sets (λ e. k (f ∙ e))))

  module _ {b : Bool} (f : b ≡ asks_code (noted t cell)) where
    pub code_noted : (next : ℕ) {w : Span} {r : Bool} {after : Names} → b ≡ true → (makes_rule (noted t cell) ≡ true → words_from t next ≡ drop 4 (noted t cell).words) → NextWord t next w → NamesMore t names r after (span_bytes t w ∷ []) → NamesMore t names r after (named (noted t cell ∷ []))
    unfolding named
    code_noted next {w} {r} {after} e s x n =
        let rule = (and_both (makes_rule (noted t cell)) (eqb (kind_number (word (noted t cell) 2)) a_code_kind) (sym f ∙ e)).0 in
        let fourth : span_bytes t w ≡ word (noted t cell) 4 = x.here ∙ ap (λ (l : List (List ℕ)). get_or l 0 []) (s rule) ∙ get_or-drop 4 (noted t cell).words 0 [] in
        more_as t names r after (ap (λ (y : List ℕ). y ∷ []) fourth ∙ sym (rw (sym f ∙ e))) n

    pub no_code : b ≡ false → NamesMore t names true names (named (noted t cell ∷ []))
    unfolding named
    no_code e = more_none t names (rw (sym f ∙ e))

-- ---- loops along the cells
module _ (t : List ℕ) (cells : List Cell) (i : ℕ) where
  -- one statement, and those of the cells after it
  module _ (h : i < length cells) where
    pub pinned_step : pinned (map (noted t) (drop i cells)) ≡ pinned (noted t (get_or cells i no_cell) ∷ []) ++ pinned (map (noted t) (drop (i + 1) cells))
    unfolding pinned
    pinned_step = ap pinned (cells_step (noted t) cells i h) ∙ by (says some_sets (noted t (get_or cells i no_cell))) (drop 1 (noted t (get_or cells i no_cell)).words) (pinned (map (noted t) (drop (i + 1) cells)))
      where
        by : (b : Bool) (own later : List (List ℕ)) → cond b (own ++ later) later ≡ cond b (own ++ []) [] ++ later
        by true own later = rw (append-nil own)
        by false own later = refl

    pub named_step : named (map (noted t) (drop i cells)) ≡ named (noted t (get_or cells i no_cell) ∷ []) ++ named (map (noted t) (drop (i + 1) cells))
    unfolding named
    named_step = ap named (cells_step (noted t) cells i h) ∙ by (asks_code (noted t (get_or cells i no_cell))) (word (noted t (get_or cells i no_cell)) 4) (named (map (noted t) (drop (i + 1) cells)))
      where
        by : (b : Bool) (own : List ℕ) (later : List (List ℕ)) → cond b (own ∷ later) later ≡ cond b (own ∷ []) [] ++ later
        by true own later = refl
        by false own later = refl

  pub pinned-over : length cells ≤ i → pinned (map (noted t) (drop i cells)) ≡ []
  unfolding pinned
  pinned-over h = ap pinned (cells_done (noted t) cells i h)

  pub named-over : length cells ≤ i → named (map (noted t) (drop i cells)) ≡ []
  unfolding named
  named-over h = ap named (cells_done (noted t) cells i h)

pub pinned-start : (t : List ℕ) (names : Names) (ss : List Statement) → names.count ≡ 0 → with_names [] (pinned ss) ≡ with_names (names_in t names) (pinned ss)
unfolding names_in
pinned-start t names ss none = rw none

-- the rules of kind CODE go on with what the `sets` lines gave
module _ (ss : List Statement) where
  names_split : names_of ss ≡ with_names (with_names [] (pinned ss)) (named ss)
  unfolding names_of
  names_split = with_append [] (pinned ss) (named ss)

  pub named_start : (t : List ℕ) (names : Names) → names_in t names ≡ with_names [] (pinned ss) → names_of ss ≡ with_names (names_in t names) (named ss)
  named_start t names e = names_split ∙ ap (λ (l : List (List ℕ)). with_names l (named ss)) (sym e)

  pub named-past : 64 < length (with_names [] (pinned ss)) → 64 < length (names_of ss)
  named-past h = omega (arith, ap length names_split, with_longer (with_names [] (pinned ss)) (named ss))
