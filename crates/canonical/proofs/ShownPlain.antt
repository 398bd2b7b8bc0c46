-- Statements none of which changes a rule or a set, as the canonical text has them: they mean what they say by themselves. Assumes nothing.
use mathlib.Core.Path.{◌≡◌, refl, ap, ap₂, ◌∙◌}
use mathlib.Core.Bool.{Bool, true, false, cond, ◌&&◌}
use mathlib.Core.List.{List, [], ◌∷◌, ◌++◌, map, append-nil}
use Prim.Native.Nat.{ℕ, ◌<◌}
use native.Mathlib.Omega.{arith}
use lib.Dec.{leb}
use borrow.Author.Tests.{leb-true, ne_eqb}
use Rattle.hl7.specs.Bytes.{is_in}
use Rattle.hl7.proofs.Comparing.{and_both}
use Rattle.grade.specs.Book.{Contents}
use Rattle.grade.specs.Encoding.{each}
use Rattle.booktext.specs.Lines.{Statement, verb, says, makes_rule, an_also, a_severity, a_bound, a_drop, a_more, a_less}
use Rattle.booktext.specs.Changes.{spot_of, amend, amended, dropped, settled_as, settled, lessened, kept, added}
use Rattle.booktext.specs.Contents.{rules_of, names_of, codes_of, held, contents_of}
use Rattle.booktext.specs.Faults.{nothing}
use Rattle.booktext.specs.Refusals.{spots_of, stands, first_stray}
use Rattle.canonical.proofs.Printing.{placed}
use Rattle.canonical.proofs.Paging.{line_verb, verbs_pass, next_at}
use Rattle.canonical.proofs.Showable.{Lines, page_lines, page_verbs}

-- a verb before those that change what stands
abbrev pub plain_verb : ℕ → Bool
plain_verb v = leb v an_also

abbrev pub is_plain : Statement → Bool
is_plain s = plain_verb (verb s)

plain-says : (v : ℕ) (s : Statement) → an_also < v → is_plain s ≡ true → says v s ≡ false
plain-says v s h e = ne_eqb (verb s) v (λ q. absurd (omega (arith, q, leb-true (verb s) an_also e)))

-- ---- rules
amend-plain : (spot : ℕ) (s x : Statement) → is_plain x ≡ true → amend spot s x ≡ s
amend-plain spot s x e = rw (plain-says a_severity x (omega arith) e, plain-says a_bound x (omega arith) e)

amended-plain : (spot : ℕ) (s : Statement) (ss : List Statement) → each is_plain ss ≡ true → amended spot s ss ≡ s
unfolding amended
amended-plain spot s [] e = refl
amended-plain spot s (x ∷ ss) e =
    let both = and_both (is_plain x) (each is_plain ss) e in
    ap (λ (y : Statement). amended spot y ss) (amend-plain spot s x both.0) ∙ amended-plain spot s ss both.1

dropped-plain : (spot : ℕ) (ss : List Statement) → each is_plain ss ≡ true → dropped spot ss ≡ false
unfolding dropped
dropped-plain spot [] e = refl
dropped-plain spot (x ∷ ss) e =
    let both = and_both (is_plain x) (each is_plain ss) e in
    rw (plain-says a_drop x (omega arith) both.0) (dropped-plain spot ss both.1)

pub settled_plain : (ss : List Statement) → each is_plain ss ≡ true → settled ss ≡ ss
unfolding settled settled_as
settled_plain [] e = refl
settled_plain (s ∷ ss) e =
    let later = (and_both (is_plain s) (each is_plain ss) e).1 in
    ap₂ ◌++◌
    (ap₂ (λ (gone : Bool) (x : Statement). cond (makes_rule s) (cond gone [] (x ∷ [])) (s ∷ [])) (dropped-plain (spot_of s) ss later) (amended-plain (spot_of s) s ss later) ∙ either (makes_rule s))
    (settled_plain ss later)
  where
    either : (b : Bool) → cond b (s ∷ []) (s ∷ []) ≡ s ∷ []
    either true = refl
    either false = refl

-- a rule of a place and kind stands where one of them makes it
pub stands_plain : (spot : ℕ) (ss : List Statement) → each is_plain ss ≡ true → stands spot ss ≡ is_in spot (spots_of ss)
unfolding stands
stands_plain spot ss e = ap (λ (l : List Statement). is_in spot (spots_of l)) (settled_plain ss e)

-- ---- codes
lessened-plain : (name c : List ℕ) (ss : List Statement) → each is_plain ss ≡ true → lessened name c ss ≡ false
unfolding lessened
lessened-plain name c [] e = refl
lessened-plain name c (x ∷ ss) e =
    let both = and_both (is_plain x) (each is_plain ss) e in
    rw (plain-says a_less x (omega arith) both.0) (lessened-plain name c ss both.1)

kept-plain : (name : List ℕ) (ss : List Statement) (codes : List (List ℕ)) → each is_plain ss ≡ true → kept name ss codes ≡ codes
unfolding kept
kept-plain name ss [] e = refl
kept-plain name ss (c ∷ codes) e = rw (lessened-plain name c ss e) (ap (λ (l : List (List ℕ)). c ∷ l) (kept-plain name ss codes e))

added-plain : (name : List ℕ) (ss : List Statement) → each is_plain ss ≡ true → added name ss ≡ []
unfolding added kept
added-plain name [] e = refl
added-plain name (x ∷ ss) e =
    let both = and_both (is_plain x) (each is_plain ss) e in
    rw (plain-says a_more x (omega arith) both.0) (added-plain name ss both.1)

-- none changes a set that the section does not hold
pub stray_plain : (t : List ℕ) (line : ℕ) (names : List (List ℕ)) (ss : List Statement) → each is_plain ss ≡ true → first_stray t line names ss ≡ nothing
unfolding first_stray
stray_plain t line names [] e = refl
stray_plain t line names (s ∷ ss) e =
    let both = and_both (is_plain s) (each is_plain ss) e in
    rw (plain-says a_more s (omega arith) both.0, plain-says a_less s (omega arith) both.0) (stray_plain t line names ss both.1)

-- ---- a section
module _ (all ss : List Statement) (e : each is_plain ss ≡ true) where
  held_plain : (name : List ℕ) → held all ss name ≡ codes_of all name
  unfolding held
  held_plain name = ap₂ ◌++◌ (kept-plain name ss (codes_of all name) e) (added-plain name ss e) ∙ append-nil (codes_of all name)

  pub sets-plain : (names : List (List ℕ)) → map (held all ss) names ≡ map (codes_of all) names
  sets-plain names = λ i. map (λ (name : List ℕ). held_plain name i) names

  pub contents_plain : (key : List ℕ) → contents_of all key ss ≡ record { key = key; rules = rules_of (names_of ss) ss; sets = map (codes_of all) (names_of ss) }
  unfolding contents_of
  contents_plain key =
      let last = settled_plain ss e in
      let sets = ap (λ (l : List Statement). map (held all ss) (names_of l)) last ∙ sets-plain (names_of ss) in
      λ i. record { key = key; rules = rules_of (names_of (last i)) (last i); sets = sets i }

-- ---- lines
placed-plain : (at : ℕ) (xs : Lines) → verbs_pass plain_verb xs ≡ true → each is_plain (placed at xs) ≡ true
unfolding placed
placed-plain at [] e = refl
placed-plain at (x ∷ xs) e =
    let both = and_both (plain_verb (line_verb x)) (verbs_pass plain_verb xs) e in
    ap₂ ◌&&◌ both.0 (placed-plain (next_at at x) xs both.1)

-- those of a section of the canonical text
pub page_plain : (c : Contents) (at : ℕ) → each is_plain (placed at (page_lines c)) ≡ true
page_plain c at = placed-plain at (page_lines c) (page_verbs plain_verb c refl refl refl)
