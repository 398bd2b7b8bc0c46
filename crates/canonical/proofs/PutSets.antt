-- Laws of writing a section's sets: a line of two words, the codes, the sets, and the line that fixes their order. Assumes nothing.
use mathlib.Core.Path.{◌≡◌, refl, sym, ap, ap₂, ◌∙◌}
use mathlib.Core.Bool.{Bool, true, cond}
use mathlib.Core.List.{List, [], ◌∷◌, ◌++◌, map, append-nil, append_assoc}
use Prim.Native.Nat.{ℕ, suc, ◌+◌, ◌-◌, ◌≤◌, ◌<◌}
use native.Mathlib.Omega.{arith}
use native.Mathlib.Numerals.{add-one}
use lib.ListN.{length, get_or, take, drop, drop_of_length-le}
use lib.Seq.{drop-cons, length-take-le}
use borrow.Author.Tests.{eq-eqb, ne_eqb}
use Rattle.std.proofs.Common.{get_or-take}
use Rattle.hl7.specs.Text.{bytes}
use Rattle.grade.specs.declared.walk.Section.{Section}
use Rattle.grade.specs.Book.{text, code_set}
use Rattle.grade.specs.Limits.{code_limit}
use Rattle.grade.specs.Reader.{Parsed, is_found, items_of, pair, times}
use Rattle.grade.specs.Standing.{text_end, text_at, SetStands, codes_at, sets_in, Holds, Placed}
use Rattle.grade.proofs.Holding.{sets_read_lem, placed_at}
use Rattle.grade.proofs.Parts.{set_is, codes-next}
use Rattle.grade.proofs.Readings.{times_empty, row-length}
use Rattle.ack.specs.Layout.{joined, marked}
use Rattle.ack.specs.Output.{Adds}
use Rattle.ack.specs.declared.output.Output.{Output}
use Rattle.ack.proofs.Adding.{◌next◌, adds_as}
use Rattle.booktext.specs.Lines.{line_feed}
use Rattle.canonical.specs.Shown.{line_bytes, printed, set_name, code_line, set_lines, set_names, pin_lines}
use Rattle.canonical.specs.Showing.{names_from, pin_bytes}
use Rattle.canonical.proofs.Printing.{printed_both}

-- ---- a line of two words
module _ (verb : List ℕ) where
  line_two : (word : List ℕ) → (verb ++ (32 ∷ [])) ++ (word ++ (line_feed ∷ [])) ≡ line_bytes (verb ∷ word ∷ [])
  unfolding joined marked
  line_two word = simp (append_assoc, append-nil)

  pub two_written : {o p q r : Output} {word want : List ℕ} → word ≡ want → Adds o (verb ++ (32 ∷ [])) p → Adds p word q → Adds q (line_feed ∷ []) r
      → Adds o (line_bytes (verb ∷ want ∷ [])) r
  two_written {want = want} e u v w = adds_as (u next adds_as v e next w) (line_two want)

-- ---- codes
module _ (b : List ℕ) where
  -- the lines of so many that stand at a position
  abbrev pub codes_from : ℕ → ℕ → List ℕ
  codes_from left from = printed (map code_line (items_of (times left (text code_limit) b from)))

  module _ (left from : ℕ) where
    pub codes_more : 0 < left → is_found (times left (text code_limit) b from) ≡ true → {later : ℕ} → later ≡ text_end b from
        → (is_found (times (left - 1) (text code_limit) b later) ≡ true) × (codes_from left from ≡ line_bytes (code_line (text_at b from)) ++ codes_from (left - 1) later)
    unfolding printed
    codes_more h f {later} e = let w = codes-next b left from h f later e in (w.0, ap (λ (cs : List (List ℕ)). printed (map code_line cs)) w.2)

    pub codes-over : left ≤ 0 → codes_from left from ≡ []
    unfolding printed
    codes-over h = ap (λ (cs : List (List ℕ)). printed (map code_line cs)) (times_empty (text code_limit) b left from h)

  -- a set is its line and those of its codes
  pub set-written : (start : ℕ) {count : ℕ} → SetStands b start → count ≡ pair b start → (line : List (List ℕ)) {o p q : Output}
      → Adds o (line_bytes line) p → Adds p (codes_from count (start + 2)) q → Adds o (printed (line ∷ map code_line (codes_at b start))) q
  unfolding printed
  set-written start {count} stands e line u v =
      adds_as (u next v) (ap (λ (r : Parsed (List (List ℕ))). line_bytes line ++ printed (map code_line (items_of r))) (sym ((set_is b start stands).1 count e)))

-- ---- sets
pub sets-length : (b : List ℕ) (s : Section) → Holds b s → length (sets_in b s) ≡ s.set_count
sets-length b s h = row-length code_set b s.set_count s.sets_at (sets_in b s) h.sets_after (sets_read_lem b s h)

-- they stand at the places
abbrev pub SetsAt : (b places : List ℕ) → List (List (List ℕ)) → Type 0
SetsAt b places sets = (length sets ≡ length places) × ((k : ℕ) → k < length places → codes_at b (get_or places k 0) ≡ get_or sets k [])

pub sets-at : (b : List ℕ) (s : Section) {places : List ℕ} → Placed b s places → Holds b s → SetsAt b (take s.set_count places) (sets_in b s)
sets-at b s {places} w h =
    let many : length (take s.set_count places) ≡ s.set_count = length-take-le s.set_count places (omega (arith, w.sized, h.few_sets)) in (
      sets-length b s h ∙ sym many,
      λ k l. let inside : k < s.set_count = omega (arith, many) in ap (codes_at b) (get_or-take s.set_count places k 0 inside) ∙ (placed_at b s w h k inside).codes,
    )

module _ (key : List ℕ) (sets : List (List (List ℕ))) (i : ℕ) where
  -- the lines of the sets from i on
  abbrev pub sets_from : List ℕ
  sets_from = printed (set_lines key (i + 1) (drop i sets))

  pub sets_more : i < length sets → {codes : List (List ℕ)} → codes ≡ get_or sets i []
      → sets_from ≡ printed ((bytes "set" ∷ set_name key (i + 1) ∷ []) ∷ map code_line codes) ++ printed (set_lines key (i + 1 + 1) (drop (i + 1) sets))
  unfolding set_lines
  sets_more h {codes} e =
      let line = bytes "set" ∷ set_name key (i + 1) ∷ [] in
      ap (λ (l : List (List (List ℕ))). printed (set_lines key (i + 1) l)) (drop-cons sets i [] h)
      ∙ printed_both (line ∷ map code_line (get_or sets i [])) (set_lines key (suc (i + 1)) (drop (suc i) sets))
      ∙ ap₂ (λ (m n : ℕ). printed (line ∷ map code_line (get_or sets i [])) ++ printed (set_lines key m (drop n sets))) (sym (add-one (i + 1))) (sym (add-one i))
      ∙ ap (λ (cs : List (List ℕ)). printed (line ∷ map code_line cs) ++ printed (set_lines key (i + 1 + 1) (drop (i + 1) sets))) (sym e)

  pub sets_over : length sets ≤ i → sets_from ≡ []
  unfolding set_lines printed
  sets_over h = ap (λ (l : List (List (List ℕ))). printed (set_lines key (i + 1) l)) (drop_of_length-le sets h)

-- ---- the line that fixes their order
module _ (key : List ℕ) (count : ℕ) where
  -- the names from the one after i on, each with a blank in front
  abbrev pub names_left : ℕ → List ℕ
  names_left i = marked 32 (names_from key (i + 1) (count - i))

  pub names-all : names_left 0 ≡ marked 32 (names_from key 1 count)
  names-all = let all : count - 0 ≡ count = omega arith in ap (λ (n : ℕ). marked 32 (names_from key 1 n)) all

  pub names_more : (i : ℕ) → i < count → names_left i ≡ (32 ∷ set_name key (i + 1)) ++ names_left (i + 1)
  unfolding marked names_from
  names_more i h =
      let some : count - i ≡ suc (count - (i + 1)) = omega arith in
      ap (λ (n : ℕ). marked 32 (names_from key (i + 1) n)) some
      ∙ ap (λ (n : ℕ). 32 ∷ (set_name key (i + 1) ++ marked 32 (names_from key n (count - (i + 1))))) (sym (add-one (i + 1)))

  pub names-over : (i : ℕ) → count ≤ i → names_left i ≡ []
  unfolding marked names_from
  names-over i h = let none : count - i ≡ 0 = omega arith in ap (λ (n : ℕ). marked 32 (names_from key (i + 1) n)) none

  pub pin_none : count ≡ 0 → [] ≡ pin_bytes key count
  unfolding pin_bytes
  pin_none e = rw (eq-eqb count 0 e)

  pub pin_written : (count ≡ 0 → ⊥) → {o p q r : Output} → Adds o (bytes "sets") p → Adds p (marked 32 (names_from key 1 count)) q → Adds q (line_feed ∷ []) r
      → Adds o (pin_bytes key count) r
  unfolding pin_bytes joined
  pin_written some u v w =
      adds_as (u next v next w) (rw (ne_eqb count 0 some) (sym (append_assoc (bytes "sets") (marked 32 (names_from key 1 count)) (line_feed ∷ []))))

-- it is that of the sets
module _ (key : List ℕ) where
  names-are : (n : ℕ) (sets : List (List (List ℕ))) → names_from key n (length sets) ≡ set_names key n sets
  unfolding names_from set_names
  names-are n [] = refl
  names-are n (codes ∷ sets) = ap (λ (l : List (List ℕ)). set_name key n ∷ l) (names-are (suc n) sets)

  pub pin_printed : (sets : List (List (List ℕ))) {count : ℕ} → length sets ≡ count → pin_bytes key count ≡ printed (pin_lines key sets)
  unfolding pin_bytes printed
  pin_printed [] e = rw (← e)
  pin_printed (codes ∷ sets) e =
      rw (← e)
      (ap (λ (none : Bool). cond none [] (line_bytes (bytes "sets" ∷ names_from key 1 (length (codes ∷ sets))))) (ne_eqb (length (codes ∷ sets)) 0 (λ z. omega (arith, z)))
      ∙ ap (λ (names : List (List ℕ)). line_bytes (bytes "sets" ∷ names)) (names-are 1 (codes ∷ sets))
      ∙ sym (append-nil (line_bytes (bytes "sets" ∷ set_names key 1 (codes ∷ sets)))))
