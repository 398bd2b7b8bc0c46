-- Laws of inclusion: what is right of all statements is right of a section's with what it takes over. Assumes nothing.
use mathlib.Core.Path.{◌≡◌, refl, subst}
use mathlib.Core.Bool.{Bool, true, false, cond, ◌||◌}
use mathlib.Core.List.{List, [], ◌∷◌, map}
use Prim.Native.Nat.{ℕ, ◌+◌, ◌≤◌}
use native.Mathlib.Omega.{arith}
use lib.Dec.{eqb, leb}
use lib.ListN.{length, get_or, drop}
use borrow.Author.Tests.{eqb-true, leb-true}
use Rattle.hl7.proofs.Comparing.{and_both}
use Rattle.grade.specs.Encoding.{each}
use Rattle.grade.specs.Rule.{severity_of}
use Rattle.booktext.specs.Lines.{Statement, word, verb, says, statements_from, unless_silent, words_in, said, a_common, a_use}
use Rattle.booktext.specs.Words.{is_severity, is_severity_word}
use Rattle.booktext.specs.Meaning.{body, from, under, give, taken, expand}
use Rattle.booktext.specs.Faults.{severity_right}
use Rattle.booktext.specs.Standing.{sound, ready}
use Rattle.booktext.proofs.Sounding.{sounds}
use Rattle.booktext.proofs.Each.{each_append, each-drop, each-body, each_from}

-- ---- statements as they stand in the text

-- no section has given it a severity
abbrev pub plainly : Statement → Bool
plainly s = eqb s.given 0

pub statements-plain : (at : ℕ) (lines : List (List ℕ)) → each plainly (statements_from at lines) ≡ true
unfolding statements_from unless_silent
statements-plain at [] = refl
statements-plain at (line ∷ lines) = by (words_in (said line)) (statements_from (at + length line + 1) lines) (statements-plain (at + length line + 1) lines)
  where
    by : (words : List (List ℕ)) (rest : List Statement) → each plainly rest ≡ true → each plainly (unless_silent at words rest) ≡ true
    by [] rest e = e
    by (w ∷ words) rest e = e

-- ---- what a `use` gives

-- the letter after a common's name, where there is one
given-right : (s : Statement) → says a_use s ≡ true → sound s ≡ true → (eqb (get_or (word s 2) 0 0) 0 || is_severity (severity_of (get_or (word s 2) 0 0))) ≡ true
unfolding is_severity_word
given-right s u h = by (leb (length s.words) 2) refl right
  where
    right : (leb (length s.words) 2 || is_severity_word (word s 2)) ≡ true
    right = subst (λ (v : ℕ). severity_right v (length s.words) (word s 2) (word s 3) ≡ true) (eqb-true (verb s) a_use u) (sounds s h).severity

    none : (words : List (List ℕ)) → length words ≤ 2 → get_or words 2 [] ≡ []
    none [] e = refl
    none (a ∷ []) e = refl
    none (a ∷ (b ∷ [])) e = refl
    none (a ∷ (b ∷ (c ∷ words))) e = absurd (omega (arith, e))

    later : (x y : Bool) → y ≡ true → (x || y) ≡ true
    later true y e = refl
    later false y e = e

    by : (b : Bool) → leb (length s.words) 2 ≡ b → (b || is_severity_word (word s 2)) ≡ true → (eqb (get_or (word s 2) 0 0) 0 || is_severity (severity_of (get_or (word s 2) 0 0))) ≡ true
    by true e r = rw (none s.words (leb-true (length s.words) 2 e)) refl
    by false e r = later (eqb (get_or (word s 2) 0 0) 0) _ (and_both (eqb (length (word s 2)) 1) _ r).1

given-ready : (letter : ℕ) (ss : List Statement) → (eqb letter 0 || is_severity (severity_of letter)) ≡ true → each sound ss ≡ true → each ready (map (give letter) ss) ≡ true
unfolding ready sound
given-ready letter [] l e = refl
given-ready letter (s ∷ ss) l e =
    let both = and_both (sound s) (each sound ss) e in
    rw (both.0, l, given-ready letter ss l both.1) refl

-- ---- a section with what it takes over

taken-ready : (all : List Statement) (s : Statement) → each sound all ≡ true → sound s ≡ true → each ready (taken all s) ≡ true
unfolding taken
taken-ready all s every h = by (says a_use s) refl
  where
    by : (b : Bool) → says a_use s ≡ b → each ready (cond b (map (give (get_or (word s 2) 0 0)) (under a_common (word s 1) all)) []) ≡ true
    by false e = refl
    by true e =
        let found = from a_common (word s 1) all in
        given-ready (get_or (word s 2) 0 0) (body (drop 1 found)) (given-right s e h) (each-body sound (drop 1 found) (each-drop sound 1 found (each_from sound a_common (word s 1) all every)))

pub expand-ready : (all ss : List Statement) → each sound all ≡ true → each sound ss ≡ true → each plainly ss ≡ true → each ready (expand all ss) ≡ true
unfolding expand ready
expand-ready all [] every e p = refl
expand-ready all (s ∷ ss) every e p =
    let both = and_both (sound s) (each sound ss) e in
    let plain = and_both (plainly s) (each plainly ss) p in
    rw (both.0, plain.0, each_append ready (taken all s) (expand all ss), taken-ready all s every both.0, expand-ready all ss every both.1 plain.1) refl
