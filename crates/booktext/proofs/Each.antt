-- Laws of `each`: of lists put together, and of the statements that are found among others. Assumes nothing.
use mathlib.Core.Path.{◌≡◌, refl, sym, ap, ap₂, ◌∙◌}
use mathlib.Core.Bool.{Bool, true, false, cond, ◌&&◌, and_assoc}
use mathlib.Core.List.{List, [], ◌∷◌, ◌++◌}
use Prim.Native.Nat.{ℕ, zero, suc}
use lib.ListN.{drop}
use Rattle.hl7.proofs.Comparing.{and_both}
use Rattle.grade.specs.Encoding.{each}
use Rattle.booktext.specs.Lines.{Statement}
use Rattle.booktext.specs.Meaning.{is_head, body, is_of, from}

module _ {A : Type 0} (test : A → Bool) where
  pub each_append : (xs ys : List A) → each test (xs ++ ys) ≡ (each test xs && each test ys)
  each_append [] ys = refl
  each_append (x ∷ xs) ys = ap (λ (b : Bool). test x && b) (each_append xs ys) ∙ sym (and_assoc (test x) (each test xs) (each test ys))

  pub each_join : (xs ys : List A) → each test xs ≡ true → each test ys ≡ true → each test (xs ++ ys) ≡ true
  each_join xs ys e f = each_append xs ys ∙ ap₂ ◌&&◌ e f

  -- of two parts
  pub each_both : (xs ys : List A) → each test (xs ++ ys) ≡ true → (each test xs ≡ true) × (each test ys ≡ true)
  each_both xs ys e = and_both (each test xs) (each test ys) (sym (each_append xs ys) ∙ e)

  pub each-drop : (n : ℕ) (xs : List A) → each test xs ≡ true → each test (drop n xs) ≡ true
  each-drop zero xs e = e
  each-drop (suc n) [] e = e
  each-drop (suc n) (x ∷ xs) e = each-drop n xs (and_both (test x) (each test xs) e).1

pub each_as : {A : Type 0} (test other : A → Bool) → ((x : A) → test x ≡ true → other x ≡ true) → (xs : List A) → each test xs ≡ true → each other xs ≡ true
each_as test other f [] e = e
each_as test other f (x ∷ xs) e =
    let both = and_both (test x) (each test xs) e in
    ap₂ ◌&&◌ (f x both.0) (each_as test other f xs both.1)

module _ (test : Statement → Bool) where
  pub each-body : (ss : List Statement) → each test ss ≡ true → each test (body ss) ≡ true
  unfolding body
  each-body [] e = e
  each-body (s ∷ ss) e = by_case (is_head s) (each-body ss (and_both (test s) (each test ss) e).1)
    where
      by_case : (b : Bool) → each test (body ss) ≡ true → each test (cond b [] (s ∷ body ss)) ≡ true
      by_case true ih = refl
      by_case false ih = rw (and_both (test s) (each test ss) e).0 ih

  pub each_from : (v : ℕ) (name : List ℕ) (ss : List Statement) → each test ss ≡ true → each test (from v name ss) ≡ true
  unfolding from
  each_from v name [] e = e
  each_from v name (s ∷ ss) e = by_case (is_of v name s) (each_from v name ss (and_both (test s) (each test ss) e).1)
    where
      by_case : (b : Bool) → each test (from v name ss) ≡ true → each test (cond b (s ∷ ss) (from v name ss)) ≡ true
      by_case true ih = e
      by_case false ih = ih
