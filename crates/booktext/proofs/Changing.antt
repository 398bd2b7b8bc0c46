-- Laws of what later statements change: a rule that is dropped or amended, and a section's statements settled. Assumes nothing.
use mathlib.Core.Path.{◌≡◌, refl, sym, ap, ap₂, ◌∙◌}
use mathlib.Core.Bool.{Bool, true, false, cond, not, ◌&&◌, ◌||◌, or_assoc, or-false}
use mathlib.Core.List.{List, [], ◌∷◌, ◌++◌, map, append-nil, append_assoc, map-append}
use Prim.Native.Nat.{ℕ, ◌+◌, ◌≤◌, ◌<◌}
use native.Mathlib.Omega.{arith}
use lib.Dec.{eqb}
use lib.ListN.{length, get_or, take, drop, set, length-append}
use borrow.Author.Tests.{eqb-true, not-true, not-false}
use Rattle.std.proofs.Common.{Some}
use Rattle.std.proofs.lemmas.List.{take_more_set, drop-set-lt}
use Rattle.std.proofs.lemmas.List.Elements.{All-set}
use Rattle.hl7.proofs.Comparing.{and_both}
use Rattle.booktext.specs.Lines.{Statement, word, verb, says, of_rule, makes_rule, a_severity, a_bound, a_drop}
use Rattle.booktext.specs.Meaning.{give}
use Rattle.booktext.specs.Changes.{spot_of, says_of, bind, amend, amended, dropped, settled_as, settled}
use Rattle.booktext.specs.Standing.{words_from, noted, no_cell, Marked, Marks}
use Rattle.booktext.specs.Cells.{Cell}
use Rattle.booktext.specs.declared.cell.CellOf.{CellOf}
use Rattle.booktext.proofs.Marking.{noted_third, noted_other, noted-give, noted-bind, cells_step, cells_done, mark_says, mark_at, part_cells, part_noted}

-- ---- a rule that is dropped
module _ (spot : ℕ) (cells : List Cell) where
  -- it was by one that is passed, or it is by one that is left
  abbrev pub Drops : Bool → ℕ → Type 0
  Drops any i = (t : List ℕ) → Marks t cells → dropped spot (map (noted t) cells) ≡ (any || dropped spot (map (noted t) (drop i cells)))

  module _ (any : Bool) (i : ℕ) (inv : Drops any i) where
    pub drops_more : i < length cells → (b : Bool) → b ≡ (eqb (get_or cells i no_cell).verb a_drop && eqb (get_or cells i no_cell).spot spot) → Drops (any || b) (i + 1)
    unfolding dropped
    drops_more h b e t m =
        inv t m
        ∙ ap (λ (l : List Statement). any || dropped spot l) (cells_step (noted t) cells i h)
        ∙ ap (λ (x : Bool). any || (x || dropped spot (map (noted t) (drop (i + 1) cells)))) (sym (mark_says t (get_or cells i no_cell) (mark_at t cells i m h) a_drop spot e))
        ∙ sym (or_assoc any b (dropped spot (map (noted t) (drop (i + 1) cells))))

    pub drops_over : length cells ≤ i → (t : List ℕ) → Marks t cells → any ≡ dropped spot (map (noted t) cells)
    unfolding dropped
    drops_over h t m = sym (inv t m ∙ ap (λ (l : List Statement). any || dropped spot l) (cells_done (noted t) cells i h) ∙ or-false any)

-- ---- a rule that is amended
module _ (spot : ℕ) (s x : Statement) where
  amend-by : (a b : Bool) → says_of a_severity spot x ≡ a → says_of a_bound spot x ≡ b → amend spot s x ≡ cond a (give (get_or (word x 3) 0 0) s) (cond b (bind (drop 3 x.words) s) s)
  amend-by a b e f = ap₂ (λ (y z : Bool). cond y (give (get_or (word x 3) 0 0) s) (cond z (bind (drop 3 x.words) s) s)) e f

  -- it stays one
  pub amend-rule : makes_rule (amend spot s x) ≡ makes_rule s
  amend-rule = by (says_of a_severity spot x) (says_of a_bound spot x)
    where
      by : (a b : Bool) → makes_rule (cond a (give (get_or (word x 3) 0 0) s) (cond b (bind (drop 3 x.words) s) s)) ≡ makes_rule s
      by true b = refl
      by false true = refl
      by false false = refl

-- what it speaks of stays
pub amend-spot : (spot : ℕ) (s x : Statement) → spot_of (amend spot s x) ≡ spot_of s
unfolding spot_of
amend-spot spot s x = by (says_of a_severity spot x) (says_of a_bound spot x)
  where
    by : (a b : Bool) → spot_of (cond a (give (get_or (word x 3) 0 0) s) (cond b (bind (drop 3 x.words) s) s)) ≡ spot_of s
    by true b = refl
    by false true = refl
    by false false = refl

-- what one statement keeps, all keep
pub amended_as : {A : Type 0} (f : Statement → A) → ((spot : ℕ) (s x : Statement) → f (amend spot s x) ≡ f s) → (spot : ℕ) (s : Statement) (ss : List Statement) → f (amended spot s ss) ≡ f s
unfolding amended
amended_as f keeps spot s [] = refl
amended_as f keeps spot s (x ∷ ss) = amended_as f keeps spot (amend spot s x) ss ∙ keeps spot s x

pub amended-rule : (spot : ℕ) (s : Statement) (ss : List Statement) → makes_rule (amended spot s ss) ≡ makes_rule s
amended-rule = amended_as makes_rule amend-rule

pub amended-spot : (spot : ℕ) (s : Statement) (ss : List Statement) → spot_of (amended spot s ss) ≡ spot_of s
amended-spot = amended_as spot_of amend-spot

pub amended-verb : (spot : ℕ) (s : Statement) (ss : List Statement) → verb (amended spot s ss) ≡ verb s
amended-verb = amended_as verb amend-verb
  where
    amend-verb : (spot : ℕ) (s x : Statement) → verb (amend spot s x) ≡ verb s
    amend-verb spot s x = by (says_of a_severity spot x) (says_of a_bound spot x)
      where
        by : (a b : Bool) → verb (cond a (give (get_or (word x 3) 0 0) s) (cond b (bind (drop 3 x.words) s) s)) ≡ verb s
        by true b = refl
        by false true = refl
        by false false = refl

-- a cell amended
abbrev pub given_to : {N : Type 0} → CellOf N → ℕ → CellOf N
given_to rule letter = record { line = rule.line; given = letter; bound = rule.bound; verb = rule.verb; spot = rule.spot }

abbrev pub bound_to : {N : Type 0} → CellOf N → N → CellOf N
bound_to rule line = record { line = rule.line; given = rule.given; bound = Some line; verb = rule.verb; spot = rule.spot }

module _ (t : List ℕ) (rule : Cell) (spot : ℕ) (cell : Cell) (m : Marked t cell) {a : Bool} (e : a ≡ (eqb cell.verb a_severity && eqb cell.spot spot)) where
  severe : says_of a_severity spot (noted t cell) ≡ a
  severe = sym (mark_says t cell m a_severity spot e)

  pub amend_severity : a ≡ true → {letter : ℕ} {w : List ℕ} → w ≡ get_or (words_from t cell.line) 3 [] → letter ≡ get_or w 0 0 → noted t (given_to rule letter) ≡ amend spot (noted t rule) (noted t cell)
  amend_severity h {letter} f g =
      noted-give t rule letter
      ∙ ap (λ (y : ℕ). give y (noted t rule)) (g ∙ ap (λ (y : List ℕ). get_or y 0 0) (f ∙ sym (noted_third t cell)))
      ∙ sym (amend-by spot (noted t rule) (noted t cell) true _ (severe ∙ h) refl)

  module _ (other : a ≡ false) {b : Bool} (f : b ≡ (eqb cell.verb a_bound && eqb cell.spot spot)) where
    bounds : says_of a_bound spot (noted t cell) ≡ b
    bounds = sym (mark_says t cell m a_bound spot f)

    pub amend-bound : makes_rule (noted t rule) ≡ true → b ≡ true → noted t (bound_to rule cell.line) ≡ amend spot (noted t rule) (noted t cell)
    amend-bound ruled h =
        let said = (and_both (says a_bound (noted t cell)) _ (bounds ∙ h)).0 in
        let plain : makes_rule (noted t cell) ≡ false = ap of_rule (eqb-true (verb (noted t cell)) a_bound said) in
        noted-bind t rule cell.line ruled
        ∙ ap (λ (y : List (List ℕ)). bind (drop 3 y) (noted t rule)) (sym (ap (λ (y : Statement). y.words) (noted_other t cell plain)))
        ∙ sym (amend-by spot (noted t rule) (noted t cell) false true (severe ∙ other) (bounds ∙ h))

    pub amend-none : b ≡ false → noted t rule ≡ amend spot (noted t rule) (noted t cell)
    amend-none h = sym (amend-by spot (noted t rule) (noted t cell) false false (severe ∙ other) (bounds ∙ h))

-- by those that are left; what the cell has of the statement stays
module _ (t : List ℕ) (rule : Cell) (spot : ℕ) (cells : List Cell) where
  pub record Amends (last : Cell) (i : ℕ) : Type 0 where
    pub rules : makes_rule (noted t last) ≡ true
    pub rest : amended spot (noted t rule) (map (noted t) cells) ≡ amended spot (noted t last) (map (noted t) (drop i cells))
    pub stays : (last.verb ≡ rule.verb) × (last.spot ≡ rule.spot)

  pub amends_start : makes_rule (noted t rule) ≡ true → Amends rule 0
  amends_start e = record { rules = e; rest = refl; stays = (refl, refl) }

  module _ (last : Cell) (i : ℕ) (inv : Amends last i) where
    pub amends_more : i < length cells → (r : Cell) → (noted t r ≡ amend spot (noted t last) (noted t (get_or cells i no_cell))) × (r.verb ≡ last.verb) × (r.spot ≡ last.spot) → Amends r (i + 1)
    unfolding amended
    amends_more h r (e, v, p) =
        record {
          rules = ap makes_rule e ∙ amend-rule spot (noted t last) (noted t (get_or cells i no_cell)) ∙ inv.rules;
          rest = inv.rest ∙ ap (amended spot (noted t last)) (cells_step (noted t) cells i h) ∙ ap (λ (s : Statement). amended spot s (map (noted t) (drop (i + 1) cells))) (sym e);
          stays = (v ∙ inv.stays.0, p ∙ inv.stays.1);
        }

    pub amends_over : length cells ≤ i → (noted t last ≡ amended spot (noted t rule) (map (noted t) cells)) × (last.verb ≡ rule.verb) × (last.spot ≡ rule.spot)
    unfolding amended
    amends_over h = (sym (inv.rest ∙ ap (amended spot (noted t last)) (cells_done (noted t) cells i h)), inv.stays.0, inv.stays.1)

-- ---- statements settled
module _ (t : List ℕ) (cells : List Cell) (i : ℕ) (m : Marks t cells) (h : i < length cells) (count : ℕ) (k : count ≤ i) where
  abbrev it : Cell
  it = get_or cells i no_cell

  -- those that follow it
  abbrev after_it : List Statement
  after_it = map (noted t) (drop (i + 1) cells)

  abbrev part_after : List Statement
  part_after = map (noted t) (part_cells t cells i)

  -- in place: what is left of it comes behind the cells that are kept, and those that follow stay as they are
  abbrev Settles : List Cell → ℕ → Type 0
  Settles after r =
      Marks t after
      × (r ≤ i + 1)
      × (drop (i + 1) after ≡ drop (i + 1) cells)
      × (map (noted t) (take r after) ≡ map (noted t) (take count cells) ++ settled_as (noted t it) after_it)

  settle_in : (cell : Cell) → Marked t cell → noted t cell ∷ [] ≡ settled_as (noted t it) after_it → Settles (set cells count cell) (count + 1)
  settle_in cell mark e = (
    All-set (Marked t) cells count cell mark m,
    omega (arith, k),
    drop-set-lt (i + 1) cells count cell (omega (arith, k)),
    ap (map (noted t)) (take_more_set cells count cell (omega (arith, h, k)))
        ∙ map-append (noted t) (take count cells) (cell ∷ [])
        ∙ ap (λ (ss : List Statement). map (noted t) (take count cells) ++ ss) e,
  )

  module _ {b : Bool} (g : b ≡ of_rule it.verb) where
    ruled : {c : Bool} → b ≡ c → makes_rule (noted t it) ≡ c
    ruled e = ap of_rule (sym (mark_at t cells i m h).by_verb) ∙ sym g ∙ e

    pub settle_other : not b ≡ true → Settles (set cells count it) (count + 1)
    unfolding settled_as
    settle_other e = settle_in it (mark_at t cells i m h) (sym (rw (ruled (not-true b e))))

    module _ (e : not b ≡ false) where
      settle_rule : makes_rule (noted t it) ≡ true
      settle_rule = ruled (not-false b e)

      module _ {gone : Bool} (d : gone ≡ dropped it.spot part_after) where
        gone-is : dropped (spot_of (noted t it)) after_it ≡ gone
        gone-is = ap₂ dropped (sym (mark_at t cells i m h).by_spot) (sym (part_noted t cells i)) ∙ sym d

        pub settle_gone : gone ≡ true → Settles cells count
        unfolding settled_as
        settle_gone q =
            let none : settled_as (noted t it) after_it ≡ [] = rw (settle_rule, gone-is, q) in
            (m, omega (arith, k), refl, sym (append-nil (map (noted t) (take count cells))) ∙ ap (λ (ss : List Statement). map (noted t) (take count cells) ++ ss) (sym none))

        module _ (q : gone ≡ false) (rule : Cell) (a : (noted t rule ≡ amended it.spot (noted t it) part_after) × (rule.verb ≡ it.verb) × (rule.spot ≡ it.spot)) where
          settle_marked : Marked t rule
          settle_marked =
              record {
                by_verb = a.1 ∙ (mark_at t cells i m h).by_verb ∙ sym (ap verb a.0 ∙ amended-verb it.spot (noted t it) part_after);
                by_spot = a.2 ∙ (mark_at t cells i m h).by_spot ∙ sym (ap spot_of a.0 ∙ amended-spot it.spot (noted t it) part_after);
              }

          pub settle_stays : Settles (set cells count rule) (count + 1)
          unfolding settled_as
          settle_stays =
              settle_in rule settle_marked
              (ap (λ (s : Statement). s ∷ []) (a.0 ∙ ap₂ (λ (n : ℕ) (l : List Statement). amended n (noted t it) l) (mark_at t cells i m h).by_spot (part_noted t cells i))
              ∙ sym (rw (settle_rule, gone-is, q)))

-- so many of some cells were passed: what is left of these, and those to come settled, are all settled
pub record Settling (t : List ℕ) (old cells : List Cell) (count i : ℕ) : Type 0 where
  pub marks : Marks t cells
  pub few : count ≤ i
  pub whole : map (noted t) (take count cells) ++ settled (map (noted t) (drop i cells)) ≡ settled (map (noted t) old)

pub settling_start : (t : List ℕ) (old : List Cell) → Marks t old → Settling t old old 0 0
settling_start t old m = record { marks = m; few = omega arith; whole = refl }

module _ (t : List ℕ) (old cells : List Cell) (count i : ℕ) (w : Settling t old cells count i) where
  pub settling_on : (h : i < length cells) (after : List Cell) (r : ℕ) → Settles t cells i w.marks h count w.few after r → Settling t old after r (i + 1)
  unfolding settled
  settling_on h after r f =
      let now = settled_as (noted t (get_or cells i no_cell)) (map (noted t) (drop (i + 1) cells)) in
      record {
        marks = f.0;
        few = f.1;
        whole =
            ap₂ (λ (ss : List Statement) (later : List Cell). ss ++ settled (map (noted t) later)) f.3 f.2
            ∙ append_assoc (map (noted t) (take count cells)) now (settled (map (noted t) (drop (i + 1) cells)))
            ∙ ap (λ (ss : List Statement). map (noted t) (take count cells) ++ settled ss) (sym (cells_step (noted t) cells i h))
            ∙ w.whole;
      }

  pub settling_done : length cells ≤ i → map (noted t) (take count cells) ≡ settled (map (noted t) old)
  unfolding settled
  settling_done h =
      sym (append-nil (map (noted t) (take count cells)))
      ∙ ap (λ (ss : List Statement). map (noted t) (take count cells) ++ settled ss) (sym (cells_done (noted t) cells i h))
      ∙ w.whole

-- there are no more of them than before
settled_as-few : (s : Statement) (ss : List Statement) → length (settled_as s ss) ≤ 1
unfolding settled_as
settled_as-few s ss = by (makes_rule s) (dropped (spot_of s) ss)
  where
    by : (a b : Bool) → length (cond a (cond b [] (amended (spot_of s) s ss ∷ [])) (s ∷ [])) ≤ 1
    by true true = omega arith
    by true false = omega arith
    by false b = omega arith

pub settled-few : (ss : List Statement) → length (settled ss) ≤ length ss
unfolding settled
settled-few [] = omega arith
settled-few (s ∷ ss) = omega (arith, length-append (settled_as s ss) (settled ss), settled_as-few s ss, settled-few ss)
