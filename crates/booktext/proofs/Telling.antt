-- Laws of what a step tells: the number of a refusal is not 0, and a `?` hands on what it met. Assumes nothing.
use mathlib.Core.Path.{◌≡◌, refl}
use native.Mathlib.Omega.{arith}
use Rattle.std.specs.Prelude.{Result, Err, IsErrAnd}
use Rattle.std.proofs.lemmas.Result.{err_from_is_err_and}
use Rattle.booktext.specs.Faults.{number_of, told_by}
use Rattle.booktext.specs.Standing.{told_in}
use Rattle.booktext.specs.declared.told.Row.{Row}
use Rattle.booktext.specs.declared.told.Fault.{Fault}

pub row-some : (row : Row) → number_of row ≡ 0 → ⊥
row-some Row.Malformed e = absurd (omega (arith, e))
row-some Row.OtherVersion e = absurd (omega (arith, e))
row-some Row.LongText e = absurd (omega (arith, e))
row-some Row.WrongByte e = absurd (omega (arith, e))
row-some Row.UnknownStatement e = absurd (omega (arith, e))
row-some Row.Misplaced e = absurd (omega (arith, e))
row-some Row.WordCount e = absurd (omega (arith, e))
row-some Row.WrongVersion e = absurd (omega (arith, e))
row-some Row.WrongKey e = absurd (omega (arith, e))
row-some Row.WrongCode e = absurd (omega (arith, e))
row-some Row.WrongPlace e = absurd (omega (arith, e))
row-some Row.WrongKind e = absurd (omega (arith, e))
row-some Row.WrongSeverity e = absurd (omega (arith, e))
row-some Row.WrongBound e = absurd (omega (arith, e))
row-some Row.NameTaken e = absurd (omega (arith, e))
row-some Row.SectionCount e = absurd (omega (arith, e))
row-some Row.UnknownName e = absurd (omega (arith, e))
row-some Row.UsedTwice e = absurd (omega (arith, e))
row-some Row.RuleStands e = absurd (omega (arith, e))
row-some Row.NoRule e = absurd (omega (arith, e))
row-some Row.WrongChange e = absurd (omega (arith, e))
row-some Row.RuleCount e = absurd (omega (arith, e))
row-some Row.SetCount e = absurd (omega (arith, e))
row-some Row.StraySet e = absurd (omega (arith, e))
row-some Row.CodeCount e = absurd (omega (arith, e))
row-some Row.LongBook e = absurd (omega (arith, e))
row-some Row.ShortOutput e = absurd (omega (arith, e))
row-some Row.StatementCount e = absurd (omega (arith, e))

-- what a `?` hands on is what it met
module _ {A : Type 0} (f : Fault) (s : Result A Fault) (h : IsErrAnd s (λ (x : Fault). x ≡ f)) where
  pub handed-as : s ≡ Err f
  handed-as =
      let p = err_from_is_err_and s h in rw (p.1, p.2) refl

  pub handed : told_in s ≡ told_by f
  handed = rw handed-as refl
