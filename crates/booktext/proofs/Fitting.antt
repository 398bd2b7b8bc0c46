-- The codes of sound statements fit: they are plain, and their lengths fit a byte. Assumes nothing.
use mathlib.Core.Path.{◌≡◌, refl, ap₂, subst, ◌∙◌}
use mathlib.Core.Bool.{Bool, true, false, cond, ◌&&◌}
use mathlib.Core.List.{List, [], ◌∷◌, ◌++◌, map}
use Prim.Native.Nat.{ℕ, zero, suc, ◌≤◌, ◌<◌}
use native.Mathlib.Omega.{arith}
use lib.Dec.{leb}
use lib.ListN.{length, get_or, drop}
use borrow.Author.Tests.{leb-true, le-leb, eqb-true}
use Rattle.hl7.specs.Bytes.{within, same, all}
use Rattle.hl7.proofs.Comparing.{and_both}
use Rattle.grade.specs.Limits.{code_limit}
use Rattle.grade.specs.Book.{plain}
use Rattle.grade.specs.Encoding.{each, text_fits}
use Rattle.booktext.specs.Lines.{Statement, word, verb, says, a_set, a_code, a_more}
use Rattle.booktext.specs.Meaning.{body, from, is_of}
use Rattle.booktext.specs.Changes.{lessened, kept, added_by, added}
use Rattle.booktext.specs.Contents.{listed, codes_at, codes_of, held}
use Rattle.booktext.specs.Faults.{codes_right}
use Rattle.booktext.specs.Standing.{is_short, sound, ready, noted, no_cell}
use Rattle.booktext.specs.Cells.{Cell}
use Rattle.booktext.proofs.Each.{each_append, each_as, each-body}
use Rattle.booktext.proofs.Sounding.{sounds}

-- the words of a line with a verb that have to be codes
sound-codes : (s : Statement) (v : ℕ) → sound s ≡ true → says v s ≡ true → codes_right v s.words ≡ true
sound-codes s v e f = subst (λ (k : ℕ). codes_right k s.words ≡ true) (eqb-true (verb s) v f) (sounds s e).codes

listed_fit : (ss : List Statement) → each sound ss ≡ true → each (text_fits code_limit) (listed ss) ≡ true
unfolding listed codes_right
listed_fit [] e = refl
listed_fit (s ∷ ss) e = by_case (says a_code s) refl (listed_fit ss (and_both (sound s) (each sound ss) e).1)
  where
    by_case : (b : Bool) → says a_code s ≡ b → each (text_fits code_limit) (listed ss) ≡ true → each (text_fits code_limit) (cond b (drop 1 s.words ++ listed ss) (listed ss)) ≡ true
    by_case true f ih = each_append (text_fits code_limit) (drop 1 s.words) (listed ss) ∙ ap₂ ◌&&◌ (sound-codes s a_code (and_both (sound s) (each sound ss) e).0 f) ih
    by_case false f ih = ih

codes_from_fit : (name : List ℕ) (ss : List Statement) → each sound ss ≡ true → each (text_fits code_limit) (codes_at (from a_set name ss)) ≡ true
unfolding from codes_right
codes_from_fit name [] e = refl
codes_from_fit name (s ∷ ss) e = by_case (is_of a_set name s) refl (codes_from_fit name ss (and_both (sound s) (each sound ss) e).1)
  where
    by_case : (b : Bool) → is_of a_set name s ≡ b → each (text_fits code_limit) (codes_at (from a_set name ss)) ≡ true → each (text_fits code_limit) (codes_at (cond b (s ∷ ss) (from a_set name ss))) ≡ true
    by_case true f ih =
        each_append (text_fits code_limit) (drop 2 s.words) (listed (body ss))
        ∙ ap₂ ◌&&◌ (sound-codes s a_set (and_both (sound s) (each sound ss) e).0 (and_both (says a_set s) (same (word s 1) name) f).0)
        (listed_fit (body ss) (each-body sound ss (and_both (sound s) (each sound ss) e).1))
    by_case false f ih = ih

pub codes_fit : (all : List Statement) (name : List ℕ) → each sound all ≡ true → each (text_fits code_limit) (codes_of all name) ≡ true
unfolding codes_of
codes_fit all name e = codes_from_fit name all e

kept_fit : (test : List ℕ → Bool) (name : List ℕ) (ss : List Statement) (codes : List (List ℕ)) → each test codes ≡ true → each test (kept name ss codes) ≡ true
unfolding kept
kept_fit test name ss [] e = refl
kept_fit test name ss (c ∷ codes) e = by_case (lessened name c ss) (and_both (test c) (each test codes) e).0 (kept_fit test name ss codes (and_both (test c) (each test codes) e).1)
  where
    by_case : (b : Bool) → test c ≡ true → each test (kept name ss codes) ≡ true → each test (cond b (kept name ss codes) (c ∷ kept name ss codes)) ≡ true
    by_case true f ih = ih
    by_case false f ih = ap₂ ◌&&◌ f ih

ready-sound : (s : Statement) → ready s ≡ true → sound s ≡ true
unfolding ready
ready-sound s e = (and_both (sound s) _ e).0

added_by_fit : (name : List ℕ) (s : Statement) → ready s ≡ true → each (text_fits code_limit) (added_by name s) ≡ true
unfolding codes_right
added_by_fit name s e = by_case (says a_more s && same (word s 1) name) refl
  where
    by_case : (b : Bool) → (says a_more s && same (word s 1) name) ≡ b → each (text_fits code_limit) (cond b (drop 2 s.words) []) ≡ true
    by_case true f = sound-codes s a_more (ready-sound s e) (and_both (says a_more s) (same (word s 1) name) f).0
    by_case false f = refl

added_fit : (name : List ℕ) (ss : List Statement) → each ready ss ≡ true → each (text_fits code_limit) (added name ss) ≡ true
unfolding added
added_fit name [] e = refl
added_fit name (s ∷ ss) e =
    let both = and_both (ready s) (each ready ss) e in
    each_append (text_fits code_limit) (kept name ss (added_by name s)) (added name ss)
    ∙ ap₂ ◌&&◌ (kept_fit (text_fits code_limit) name ss (added_by name s) (added_by_fit name s both.0)) (added_fit name ss both.1)

pub held_fit : (all ss : List Statement) (name : List ℕ) → each sound all ≡ true → each ready ss ≡ true → each (text_fits code_limit) (held all ss name) ≡ true
unfolding held
held_fit all ss name e f =
    each_append (text_fits code_limit) (kept name ss (codes_of all name)) (added name ss)
    ∙ ap₂ ◌&&◌ (kept_fit (text_fits code_limit) name ss (codes_of all name) (codes_fit all name e)) (added_fit name ss f)

-- a key or a code has a length that fits a byte
pub fits-short : (w : List ℕ) → text_fits 20 w ≡ true → length w ≤ 255
fits-short w e =
    let size = (and_both (within 1 20 (length w)) (all plain w) e).0 in
    omega (arith, leb-true (length w) 20 (and_both (leb 1 (length w)) (leb (length w) 20) size).1)

pub fit_short : (codes : List (List ℕ)) → each (text_fits code_limit) codes ≡ true → each is_short codes ≡ true
fit_short codes e = each_as (text_fits code_limit) is_short (λ w k. le-leb (length w) 255 (fits-short w k)) codes e

-- what a statement in cells adds
ready_at : (t : List ℕ) (cells : List Cell) (i : ℕ) → each ready (map (noted t) cells) ≡ true → i < length cells → ready (noted t (get_or cells i no_cell)) ≡ true
ready_at t [] i e h = absurd (omega arith)
ready_at t (c ∷ cells) zero e h = (and_both (ready (noted t c)) _ e).0
ready_at t (c ∷ cells) (suc i) e h = ready_at t cells i (and_both (ready (noted t c)) _ e).1 (omega arith)

pub added-short : (t name : List ℕ) (cells : List Cell) (i : ℕ) → each ready (map (noted t) cells) ≡ true → i < length cells → each is_short (added_by name (noted t (get_or cells i no_cell))) ≡ true
added-short t name cells i e h = fit_short (added_by name (noted t (get_or cells i no_cell))) (added_by_fit name (noted t (get_or cells i no_cell)) (ready_at t cells i e h))
