-- Laws of cells, however many bits their numbers have: what is so of the numbers is so of them. Assumes nothing.
use mathlib.Core.Path.{◌≡◌, refl, sym, ap, ap₂, ◌∙◌}
use mathlib.Core.Bool.{Bool, true, false, ◌&&◌}
use mathlib.Core.List.{List, map}
use Prim.Native.Nat.{ℕ, ◌≤◌, ◌<◌}
use native.Mathlib.Omega.{arith}
use lib.Dec.{eqb}
use lib.ListN.{length, get_or, set, drop, length-map}
use Rattle.std.proofs.Common.{Option, Some, None}
use Rattle.std.proofs.lemmas.List.{map-set, get_or-map}
use Rattle.booktext.specs.Lines.{word, verb, of_rule, makes_rule, a_severity, a_bound}
use Rattle.booktext.specs.Words.{kind_number, a_code_kind}
use Rattle.booktext.specs.Changes.{spot_of, amend}
use Rattle.booktext.specs.Contents.{letter_of, asks_code}
use Rattle.booktext.specs.Cells.{Cell, held_number, numbered}
use Rattle.booktext.specs.Standing.{words_from, statement_at, noted, Marked, no_cell}
use Rattle.booktext.specs.declared.cell.CellOf.{CellOf}
use Rattle.booktext.proofs.Marking.{noted_as, bound-own, bound_other}
use Rattle.booktext.proofs.Referring.{asks-is}
use Rattle.booktext.proofs.Ruling.{letter-own, letter-given}
use Rattle.booktext.proofs.Changing.{given_to, bound_to, amend_severity, amend-bound}

-- ---- one
pub says_here : {N : Type 0} (number : N → ℕ) (cell : CellOf N → Cell) → ((c : CellOf N) → cell c ≡ numbered number c) → (c : CellOf N) {n : ℕ} → n ≡ number c.spot → (v spot : ℕ) → (eqb c.verb v && eqb n spot) ≡ (eqb (cell c).verb v && eqb (cell c).spot spot)
says_here number cell is c e v spot = ap₂ (λ (x y : ℕ). eqb x v && eqb y spot) (sym (ap (λ (x : Cell). x.verb) (is c))) (e ∙ sym (ap (λ (x : Cell). x.spot) (is c)))

-- a rule's cell as a statement leaves it; what it has of the rule's own stays
abbrev AmendedBy : List ℕ → Cell → ℕ → (rule after : Cell) → Type 0
AmendedBy t by spot rule after = (noted t after ≡ amend spot (noted t rule) (noted t by)) × (after.verb ≡ rule.verb) × (after.spot ≡ rule.spot)

module _ {N : Type 0} (number : N → ℕ) (cell : CellOf N → Cell) (is : (c : CellOf N) → cell c ≡ numbered number c) (t : List ℕ) where
  -- that of a line
  pub cell_made : (line given : ℕ) {at spot : N} {v p : ℕ} → number at ≡ line → v ≡ verb (statement_at t line 0) → number spot ≡ p → p ≡ spot_of (statement_at t line 0)
      → (noted t (cell (record { line = at; given = given; bound = None; verb = v; spot = spot })) ≡ statement_at t line given) × Marked t (cell (record { line = at; given = given; bound = None; verb = v; spot = spot }))
  unfolding noted spot_of
  cell_made line given e f g h =
      rw (is _) (
        ap (λ (n : ℕ). statement_at t n given) e,
        record {
          by_verb = f ∙ ap (λ (n : ℕ). verb (statement_at t n 0)) (sym e);
          by_spot = g ∙ h ∙ ap (λ (n : ℕ). spot_of (statement_at t n 0)) (sym e);
        },
      )

  module _ (c : CellOf N) where
    bound_is : {bound : Option N} → c.bound ≡ bound → (cell c).bound ≡ held_number number bound
    bound_is e = ap (λ (x : Cell). x.bound) (is c) ∙ ap (held_number number) e

    given_is : (cell c).given ≡ c.given
    given_is = ap (λ (x : Cell). x.given) (is c)

    -- a number that was read is its line's
    line_is : {n : ℕ} → n ≡ number c.line → n ≡ (cell c).line
    line_is e = e ∙ sym (ap (λ (x : Cell). x.line) (is c))

    module _ (r : ℕ) {n : ℕ} where
      pub bound_here : c.bound ≡ None → n ≡ number c.line → words_from t r ≡ drop 4 (words_from t n) → makes_rule (noted t (cell c)) ≡ true → words_from t r ≡ drop 4 (noted t (cell c)).words
      bound_here e f g = bound-own t (cell c) r (bound_is e) (g ∙ ap (λ (k : ℕ). drop 4 (words_from t k)) (line_is f))

      pub bound_there : {line : N} → c.bound ≡ Some line → n ≡ number line → words_from t r ≡ drop 3 (words_from t n) → makes_rule (noted t (cell c)) ≡ true → words_from t r ≡ drop 4 (noted t (cell c)).words
      bound_there e f g = bound_other t (cell c) r n (bound_is e ∙ ap Some (sym f)) g

    module _ {n : ℕ} (e : n ≡ number c.line) where
      pub asks_here : {v k : ℕ} {x : List ℕ} {b : Bool} → v ≡ verb (statement_at t n 0) → b ≡ of_rule v → x ≡ word (statement_at t n 0) 2 → k ≡ kind_number x → (b && eqb k a_code_kind) ≡ asks_code (noted t (cell c))
      asks_here f g h k = asks-is t n f g h k ∙ ap (λ (m : ℕ). asks_code (statement_at t m 0)) (line_is e) ∙ sym (noted_as t (cell c) asks_code (λ bound. refl))

      module _ {letter : ℕ} {w : List ℕ} (f : w ≡ word (statement_at t n 0) 3) (g : letter ≡ get_or w 0 0) where
        word_here : w ≡ word (statement_at t (cell c).line 0) 3
        word_here = f ∙ ap (λ (m : ℕ). word (statement_at t m 0) 3) (line_is e)

        pub letter_here : c.given ≡ 0 → letter ≡ letter_of (noted t (cell c))
        letter_here h = letter-own t (cell c) (given_is ∙ h) word_here g

        -- a rule with the severity that it gives
        pub severity_here : (rule : CellOf N) (spot : ℕ) → Marked t (cell c) → {a : Bool} → a ≡ (eqb (cell c).verb a_severity && eqb (cell c).spot spot) → a ≡ true → AmendedBy t (cell c) spot (cell rule) (cell (given_to rule letter))
        severity_here rule spot m h k =
            let now : cell (given_to rule letter) ≡ given_to (cell rule) letter = is _ ∙ ap (λ (x : Cell). given_to x letter) (sym (is rule)) in
            (ap (noted t) now ∙ amend_severity t (cell rule) spot (cell c) m h k word_here g, ap (λ (x : Cell). x.verb) now, ap (λ (x : Cell). x.spot) now)

    pub letter_there : (c.given ≡ 0 → ⊥) → c.given ≡ letter_of (noted t (cell c))
    letter_there h = sym given_is ∙ letter-given t (cell c) (λ e. h (sym given_is ∙ e))

    -- a rule with its bound
    pub bound_by_it : (rule : CellOf N) (spot : ℕ) → Marked t (cell c) → {a b : Bool} → a ≡ (eqb (cell c).verb a_severity && eqb (cell c).spot spot) → a ≡ false → b ≡ (eqb (cell c).verb a_bound && eqb (cell c).spot spot) → makes_rule (noted t (cell rule)) ≡ true → b ≡ true
        → AmendedBy t (cell c) spot (cell rule) (cell (bound_to rule c.line))
    bound_by_it rule spot m h k f ruled q =
        let now : cell (bound_to rule c.line) ≡ bound_to (cell rule) (cell c).line = is _ ∙ ap₂ (λ (x y : Cell). bound_to x y.line) (sym (is rule)) (sym (is c)) in
        (ap (noted t) now ∙ amend-bound t (cell rule) spot (cell c) m h k f ruled q, ap (λ (x : Cell). x.verb) now, ap (λ (x : Cell). x.spot) now)

-- ---- all
module _ {A : Type 0} (one : A → Cell) (all : List A → List Cell) (are : (l : List A) → all l ≡ map one l) where
  pub all_length : (l : List A) → length (all l) ≡ length l
  all_length l = ap length (are l) ∙ length-map l one

  pub all_long : (k l : List A) → length k ≡ length l → length (all k) ≡ length (all l)
  all_long k l e = all_length k ∙ e ∙ sym (all_length l)

  pub all-set : (l : List A) (i : ℕ) (a : A) → set (all l) i (one a) ≡ all (set l i a)
  all-set l i a = sym (are (set l i a) ∙ map-set one l i a ∙ ap (λ (k : List Cell). set k i (one a)) (sym (are l)))

  -- along a loop
  pub all-inside : (l : List A) {i : ℕ} → i < length l → i < length (all l)
  all-inside l h = omega (arith, h, all_length l)

  pub all_over : (l : List A) {i : ℕ} → length l ≤ i → length (all l) ≤ i
  all_over l h = omega (arith, h, all_length l)

  pub all-at : (l : List A) {i : ℕ} {a : A} → i < length l → a ≡ get_or l i a → one a ≡ get_or (all l) i no_cell
  all-at l {i} {a} h e = sym (ap (λ (k : List Cell). get_or k i no_cell) (are l) ∙ get_or-map one l i a no_cell h ∙ ap one (sym e))

  pub so_at : {X : Type 0} (f : Cell → X) (l : List A) {i : ℕ} {a : A} → i < length l → a ≡ get_or l i a → {x : X} → x ≡ f (one a) → x ≡ f (get_or (all l) i no_cell)
  so_at f l h e g = g ∙ ap f (all-at l h e)
