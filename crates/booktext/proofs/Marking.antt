-- Laws of cells: what the statement says that a cell stands for, and what the cell has of it. Assumes nothing.
use mathlib.Core.Path.{◌≡◌, refl, sym, ap, ap₂, ◌∙◌}
use mathlib.Core.Bool.{Bool, true, false, cond, not, ◌&&◌}
use mathlib.Core.List.{List, [], ◌∷◌, map}
use Prim.Native.Nat.{ℕ, ◌+◌, ◌*◌, ◌-◌, ◌≤◌, ◌<◌}
use native.Mathlib.Omega.{arith}
use native.Mathlib.Numerals.{add-one}
use lib.Dec.{eqb}
use lib.ListN.{length, get_or, take, drop}
use lib.Seq.{drop-cons, get_or-drop}
use borrow.Author.Tests.{not-true, not-false}
use Rattle.std.proofs.Common.{Option, Some, None}
use Rattle.std.proofs.lemmas.List.{take_all, drop_all, length-drop}
use Rattle.std.proofs.lemmas.List.Elements.{All-take, All-drop}
use Rattle.grade.specs.declared.rule.Place.{Place}
use Rattle.booktext.specs.Lines.{Statement, word, verb, of_place, makes_rule}
use Rattle.booktext.specs.Words.{place_in, kind_number}
use Rattle.booktext.specs.Meaning.{give}
use Rattle.booktext.specs.Changes.{spot_of, says_of, bind}
use Rattle.booktext.specs.Standing.{words_from, statement_at, bound_by, noted, Marked, Marks, no_cell}
use Rattle.booktext.specs.Cells.{Cell}

-- ---- cells

module _ (t : List ℕ) (cell : Cell) where
  -- as its line says it
  abbrev pub line_says : Statement
  line_says = statement_at t cell.line cell.given

  -- what does not hang on its bound
  pub noted_as : {A : Type 0} (f : Statement → A) → ((bound : List (List ℕ)) → f (bind bound line_says) ≡ f line_says) → f (noted t cell) ≡ f line_says
  unfolding noted
  noted_as {A} f same = by cell.bound
    where
      by : (bound : Option ℕ) → f (bound_by t bound line_says) ≡ f line_says
      by None = refl
      by (Some line) = at (makes_rule line_says)
        where
          at : (b : Bool) → f (cond b (bind (drop 3 (words_from t line)) line_says) line_says) ≡ f line_says
          at true = same (drop 3 (words_from t line))
          at false = refl

  pub noted-verb : verb (noted t cell) ≡ verb (statement_at t cell.line 0)
  noted-verb = noted_as verb (λ bound. refl)

  pub noted-at : (noted t cell).at ≡ cell.line
  noted-at = noted_as (λ (s : Statement). s.at) (λ bound. refl)

  pub noted-first : word (noted t cell) 1 ≡ word (statement_at t cell.line 0) 1
  noted-first = noted_as (λ (s : Statement). word s 1) (λ bound. refl)

  pub noted_second : word (noted t cell) 2 ≡ word (statement_at t cell.line 0) 2
  noted_second = noted_as (λ (s : Statement). word s 2) (λ bound. refl)

  pub noted_third : word (noted t cell) 3 ≡ word (statement_at t cell.line 0) 3
  noted_third = noted_as (λ (s : Statement). word s 3) (λ bound. refl)

  pub noted-spot : spot_of (noted t cell) ≡ spot_of (statement_at t cell.line 0)
  unfolding spot_of
  noted-spot = noted_as spot_of (λ bound. refl)

  -- what is no rule is as its line says it
  said_other : makes_rule line_says ≡ false → noted t cell ≡ line_says
  unfolding noted
  said_other e = by cell.bound
    where
      by : (bound : Option ℕ) → bound_by t bound line_says ≡ line_says
      by None = refl
      by (Some line) = ap (λ (b : Bool). cond b (bind (drop 3 (words_from t line)) line_says) line_says) e

  pub noted_other : makes_rule (noted t cell) ≡ false → noted t cell ≡ line_says
  noted_other h = said_other (sym (noted_as makes_rule (λ bound. refl)) ∙ h)

  -- a rule with the bound of another line
  module _ (rule : makes_rule (noted t cell) ≡ true) where
    said-rule : makes_rule line_says ≡ true
    said-rule = sym (noted_as makes_rule (λ bound. refl)) ∙ rule

    pub noted-bound : (line : ℕ) → cell.bound ≡ Some line → noted t cell ≡ bind (drop 3 (words_from t line)) line_says
    unfolding noted
    noted-bound line e = rw e (ap (λ (b : Bool). cond b (bind (drop 3 (words_from t line)) line_says) line_says) said-rule)

  -- and whatever it is, where no other line has its bound
  pub noted-plain : cell.bound ≡ None → noted t cell ≡ line_says
  unfolding noted
  noted-plain e = ap (λ (bound : Option ℕ). bound_by t bound line_says) e

  -- with another severity
  pub noted-give : (letter : ℕ) → noted t (record { line = cell.line; given = letter; bound = cell.bound; verb = cell.verb; spot = cell.spot }) ≡ give letter (noted t cell)
  unfolding noted
  noted-give letter = by cell.bound
    where
      by : (bound : Option ℕ) → bound_by t bound (give letter line_says) ≡ give letter (bound_by t bound line_says)
      by None = refl
      by (Some line) = at (makes_rule line_says)
        where
          at : (b : Bool) → cond b (bind (drop 3 (words_from t line)) (give letter line_says)) (give letter line_says) ≡ give letter (cond b (bind (drop 3 (words_from t line)) line_says) line_says)
          at true = refl
          at false = refl

  -- with the bound of another line
  pub noted-bind : (line : ℕ) → makes_rule (noted t cell) ≡ true → noted t (record { line = cell.line; given = cell.given; bound = Some line; verb = cell.verb; spot = cell.spot }) ≡ bind (drop 3 (words_from t line)) (noted t cell)
  unfolding noted
  noted-bind line rule = ap (λ (b : Bool). cond b (bind (drop 3 (words_from t line)) line_says) line_says) (said-rule rule) ∙ sym (noted_as (bind (drop 3 (words_from t line))) (λ bound. refl))

-- where the words of a rule's bound begin
module _ (t : List ℕ) (cell : Cell) where
  pub bound-own : (r : ℕ) → cell.bound ≡ None → words_from t r ≡ drop 4 (words_from t cell.line) → makes_rule (noted t cell) ≡ true → words_from t r ≡ drop 4 (noted t cell).words
  bound-own r e f rule = f ∙ sym (ap (λ (s : Statement). drop 4 s.words) (noted-plain t cell e))

  pub bound_other : (r line : ℕ) → cell.bound ≡ Some line → words_from t r ≡ drop 3 (words_from t line) → makes_rule (noted t cell) ≡ true → words_from t r ≡ drop 4 (noted t cell).words
  bound_other r line e f rule = f ∙ sym (ap (λ (s : Statement). drop 4 s.words) (noted-bound t cell rule line e))

  pub bound-word : {words : List (List ℕ)} (k : ℕ) → words ≡ drop 4 (noted t cell).words → get_or words k [] ≡ word (noted t cell) (4 + k)
  bound-word k e = ap (λ (l : List (List ℕ)). get_or l k []) e ∙ get_or-drop 4 (noted t cell).words k []

-- those from one on
module _ {A : Type 0} (f : Cell → A) (cells : List Cell) (i : ℕ) where
  pub cells_step : i < length cells → map f (drop i cells) ≡ f (get_or cells i no_cell) ∷ map f (drop (i + 1) cells)
  cells_step h = ap (map f) (drop-cons cells i no_cell h ∙ ap (λ (n : ℕ). get_or cells i no_cell ∷ drop n cells) (sym (add-one i)))

  pub cells_done : length cells ≤ i → map f (drop i cells) ≡ []
  cells_done h = ap (map f) (drop_all i cells h)

-- ---- marks

module _ (t : List ℕ) (cell : Cell) (m : Marked t cell) where
  pub mark_says : (v spot : ℕ) {b : Bool} → b ≡ (eqb cell.verb v && eqb cell.spot spot) → b ≡ says_of v spot (noted t cell)
  mark_says v spot f = f ∙ ap₂ (λ (x y : ℕ). eqb x v && eqb y spot) m.by_verb m.by_spot

-- of the cells, along a loop
pub mark_at : (t : List ℕ) (cells : List Cell) (i : ℕ) → Marks t cells → i < length cells → Marked t (get_or cells i no_cell)
mark_at t cells i m h = m i no_cell h

-- of those after one of them, as a part of the cells
module _ (t : List ℕ) (cells : List Cell) (i : ℕ) where
  abbrev pub part_cells : List Cell
  part_cells = take (length cells - (i + 1)) (drop (i + 1) cells)

  pub part_marks : Marks t cells → Marks t part_cells
  part_marks m = All-take (Marked t) (length cells - (i + 1)) (drop (i + 1) cells) (All-drop (Marked t) (i + 1) cells m)

  pub part_noted : map (noted t) part_cells ≡ map (noted t) (drop (i + 1) cells)
  part_noted = ap (map (noted t)) (take_all (length cells - (i + 1)) (drop (i + 1) cells) (omega (arith, length-drop (i + 1) cells)))

-- ---- place and kind as one number
module _ (t : List ℕ) (at : ℕ) {v : ℕ} {b : Bool} (f : v ≡ verb (statement_at t at 0)) (g : b ≡ of_place v) where
  asked_place : {c : Bool} → b ≡ c → of_place (verb (statement_at t at 0)) ≡ c
  asked_place e = sym (g ∙ ap of_place f) ∙ e

  pub spot-none : not b ≡ true → 0 ≡ spot_of (statement_at t at 0)
  unfolding spot_of
  spot-none e = sym (rw (asked_place (not-true b e)))

  pub spot_is : {p : Place} {k : ℕ} {x y : List ℕ} → not b ≡ false → x ≡ word (statement_at t at 0) 1 → p ≡ place_in x → y ≡ word (statement_at t at 0) 2 → k ≡ kind_number y
      → {r : ℕ} → r ≡ ((p.segment * 100 + p.field) * 21 + p.component) * 7 + k → r ≡ spot_of (statement_at t at 0)
  unfolding spot_of
  spot_is e ex ep ey ek er = er ∙ rw (ep, ek, ex, ey, asked_place (not-false b e))
