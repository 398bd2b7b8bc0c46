-- Laws of the codes of a rule's set: where they stand, whether all are among others, and how they are written. Assumes nothing.
use mathlib.Core.Path.{◌≡◌, refl, sym, ap, ◌∙◌}
use mathlib.Core.Bool.{Bool, true, false, cond, not, ◌&&◌, and-true, and_assoc}
use mathlib.Core.List.{List, [], ◌∷◌, ◌++◌}
use Prim.Native.Nat.{ℕ, ◌+◌, ◌-◌, ◌≤◌, ◌<◌}
use native.Mathlib.Omega.{arith}
use lib.ListN.{length, get_or}
use Rattle.hl7.specs.Bytes.{among}
use Rattle.grade.specs.Book.{text}
use Rattle.grade.specs.Broken.{codes_of}
use Rattle.grade.specs.Encoding.{each}
use Rattle.grade.specs.Limits.{code_limit}
use Rattle.grade.specs.Reader.{is_found, items_of, pair, times}
use Rattle.grade.specs.Rule.{kind_fits, no_rule}
use Rattle.grade.specs.Standing.{text_end, text_at, rules_in, sets_in, Holds, Placed, SetAt}
use Rattle.grade.specs.Strict.{keep}
use Rattle.grade.specs.declared.rule.Kind.{Kind}
use Rattle.grade.specs.declared.rule.Rule.{Rule}
use Rattle.grade.specs.declared.walk.Section.{Section}
use Rattle.grade.proofs.Holding.{placed_at, rule_fits_lem, kind_limits, code_limits}
use Rattle.grade.proofs.Parts.{set_is, codes-next}
use Rattle.grade.proofs.Readings.{times_empty}
use Rattle.ack.specs.Layout.{marked}
use Rattle.difference.specs.Difference.{code_words, all_among, gone}

-- ---- where a rule's codes stand
module _ (b : List ℕ) (s : Section) (h : Holds b s) (i : ℕ) (k : i < s.rule_count) {rule : Rule} (is : rule ≡ get_or (rules_in b s) i no_rule) where
  fitting : kind_fits s.set_count rule.kind ≡ true
  fitting = rw is (kind_limits s.set_count (get_or (rules_in b s) i no_rule) (rule_fits_lem b s h i k))

  kind_is : codes_of (sets_in b s) rule.kind ≡ codes_of (sets_in b s) (get_or (rules_in b s) i no_rule).kind
  kind_is = ap (λ (r : Rule). codes_of (sets_in b s) r.kind) is

  pub codes_none : ((set : ℕ) → rule.kind ≡ Kind.Code set → ⊥) → items_of (times 0 (text code_limit) b 0) ≡ codes_of (sets_in b s) (get_or (rules_in b s) i no_rule).kind
  unfolding times
  codes_none n = times_empty (text code_limit) b 0 0 (omega arith) ∙ sym (by rule.kind n) ∙ kind_is
    where
      by : (kind : Kind) → ((set : ℕ) → kind ≡ Kind.Code set → ⊥) → codes_of (sets_in b s) kind ≡ []
      by Kind.Required n = refl
      by (Kind.Length low high) n = refl
      by Kind.Number n = refl
      by Kind.Date n = refl
      by (Kind.Time digits) n = refl
      by (Kind.Code set) n = absurd (n set refl)

  module _ {set : ℕ} (of : rule.kind ≡ Kind.Code set) where
    pub set_there : (1 ≤ set) × (set ≤ s.set_count)
    set_there = code_limits s.set_count set (rw of at fitting)

    module _ {places : List ℕ} (placed : Placed b s places) {start : ℕ} (at : start ≡ get_or places (set - 1) 0) where
      at_set : SetAt b (sets_in b s) (set - 1) start
      at_set = rw at (placed_at b s placed h (set - 1) (omega (arith, set_there)))

      pub set_inside : start + 2 ≤ length b
      set_inside = (set_is b start at_set.stands).0

      module _ {count : ℕ} (e : count ≡ pair b start) where
        pub codes_stand : is_found (times count (text code_limit) b (start + 2)) ≡ true
        codes_stand = sym (ap is_found ((set_is b start at_set.stands).1 count e)) ∙ at_set.stands

        pub codes_some : items_of (times count (text code_limit) b (start + 2)) ≡ codes_of (sets_in b s) (get_or (rules_in b s) i no_rule).kind
        codes_some = sym (ap items_of ((set_is b start at_set.stands).1 count e)) ∙ at_set.codes ∙ ap (codes_of (sets_in b s)) (sym of) ∙ kind_is

-- ---- one after the other
module _ (b : List ℕ) where
  -- so many that stand from a position on
  abbrev pub codes_from : ℕ → ℕ → List (List ℕ)
  codes_from left from = items_of (times left (text code_limit) b from)

  abbrev pub CodesFound : ℕ → ℕ → Type 0
  CodesFound left from = is_found (times left (text code_limit) b from) ≡ true

  module _ (left from : ℕ) where
    codes-none : left ≤ 0 → codes_from left from ≡ []
    codes-none h = times_empty (text code_limit) b left from h

    pub every-over : (others : List (List ℕ)) (so : Bool) → left ≤ 0 → (so && all_among (codes_from left from) others) ≡ so
    unfolding all_among
    every-over others so h = ap (λ (l : List (List ℕ)). so && each (λ (c : List ℕ). among c others) l) (codes-none h) ∙ and-true so

    pub codes-over : (mark : ℕ) → left ≤ 0 → marked 32 (code_words mark (codes_from left from)) ≡ []
    unfolding marked
    codes-over mark h = ap (λ (l : List (List ℕ)). marked 32 (code_words mark l)) (codes-none h)

    pub gone-over : (mark : ℕ) (others : List (List ℕ)) → left ≤ 0 → marked 32 (code_words mark (gone (codes_from left from) others)) ≡ []
    unfolding marked gone keep
    gone-over mark others h = ap (λ (l : List (List ℕ)). marked 32 (code_words mark (gone l others))) (codes-none h)

    module _ (h : 0 < left) (f : CodesFound left from) {next : ℕ} (e : next ≡ text_end b from) where
      pub codes-found : CodesFound (left - 1) next
      codes-found = (codes-next b left from h f next e).0

      codes_split : codes_from left from ≡ text_at b from ∷ codes_from (left - 1) next
      codes_split = (codes-next b left from h f next e).2

      pub every_more : (others : List (List ℕ)) (so : Bool) → (so && all_among (codes_from left from) others) ≡ ((so && among (text_at b from) others) && all_among (codes_from (left - 1) next) others)
      unfolding all_among
      every_more others so =
          ap (λ (l : List (List ℕ)). so && each (λ (c : List ℕ). among c others) l) codes_split
          ∙ sym (and_assoc so (among (text_at b from) others) (each (λ (c : List ℕ). among c others) (codes_from (left - 1) next)))

      pub codes_more : (mark : ℕ) → marked 32 (code_words mark (codes_from left from)) ≡ (32 ∷ mark ∷ text_at b from) ++ marked 32 (code_words mark (codes_from (left - 1) next))
      unfolding marked
      codes_more mark = ap (λ (l : List (List ℕ)). marked 32 (code_words mark l)) codes_split

      pub gone_more : (mark : ℕ) (others : List (List ℕ))
          → marked 32 (code_words mark (gone (codes_from left from) others)) ≡ cond (among (text_at b from) others) [] (32 ∷ mark ∷ text_at b from) ++ marked 32 (code_words mark (gone (codes_from (left - 1) next) others))
      unfolding marked gone keep
      gone_more mark others = ap (λ (l : List (List ℕ)). marked 32 (code_words mark (gone l others))) codes_split ∙ by (among (text_at b from) others)
        where
          rest : List (List ℕ)
          rest = gone (codes_from (left - 1) next) others

          by : (t : Bool) → marked 32 (code_words mark (cond (not t) (text_at b from ∷ rest) rest)) ≡ cond t [] (32 ∷ mark ∷ text_at b from) ++ marked 32 (code_words mark rest)
          by true = refl
          by false = refl
