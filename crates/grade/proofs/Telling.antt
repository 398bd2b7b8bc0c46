-- Laws of `paper`: what a refusal tells is never number 0, and what is told says which answer told it. Assumes nothing.
use native.Mathlib.Omega.{arith}
use mathlib.Core.Path.{◌≡◌, refl, sym, ap, ◌∙◌}
use mathlib.Core.Bool.{cond}
use lib.Dec.{eqb, leb}
use Rattle.std.specs.Prelude.{Ok, Err}
use Rattle.hl7.specs.Refusals.{Told}
use Rattle.grade.specs.Admission.{Answer, paper, refusal_told}
use Rattle.hl7.specs.declared.refusal.Unreadable.{Unreadable}
use Rattle.grade.specs.declared.refusal.Refusal.{Refusal}

pub refusal_some : (a : Refusal) → (refusal_told a).number ≡ 0 → ⊥
refusal_some (Refusal.Unreadable Unreadable.Empty) e = absurd (omega (arith, e))
refusal_some (Refusal.Unreadable Unreadable.TooLong) e = absurd (omega (arith, e))
refusal_some (Refusal.Unreadable (Unreadable.WrongByte at)) e = absurd (omega (arith, e))
refusal_some (Refusal.Unreadable Unreadable.NoHeader) e = absurd (omega (arith, e))
refusal_some (Refusal.Unreadable (Unreadable.WrongSegment start)) e = absurd (omega (arith, e))
refusal_some Refusal.NoControlId e = absurd (omega (arith, e))
refusal_some Refusal.Malformed e = absurd (omega (arith, e))
refusal_some Refusal.OtherVersion e = absurd (omega (arith, e))
refusal_some Refusal.NoSection e = absurd (omega (arith, e))
refusal_some Refusal.WrongStamp e = absurd (omega (arith, e))
refusal_some (Refusal.ShortOutput need) e = absurd (omega (arith, e))
refusal_some (Refusal.ShortTable need) e = absurd (omega (arith, e))
refusal_some Refusal.WrongRecord e = absurd (omega (arith, e))
refusal_some Refusal.WrongFile e = absurd (omega (arith, e))
refusal_some (Refusal.WrongMessage ordinal) e = absurd (omega (arith, e))

-- ---- the other way round
abbrev unreadable_of : Told → Unreadable
unreadable_of t =
    cond (eqb t.number 1) Unreadable.Empty
    (cond (eqb t.number 2) Unreadable.TooLong (cond (eqb t.number 3) (Unreadable.WrongByte t.detail) (cond (eqb t.number 4) Unreadable.NoHeader (Unreadable.WrongSegment t.detail))))

abbrev later_of : Told → Refusal
later_of t =
    cond (eqb t.number 10) Refusal.WrongStamp
    (cond (eqb t.number 11) (Refusal.ShortOutput t.detail)
    (cond (eqb t.number 12) (Refusal.ShortTable t.detail)
    (cond (eqb t.number 13) Refusal.WrongRecord (cond (eqb t.number 14) Refusal.WrongFile (Refusal.WrongMessage t.detail)))))

abbrev refusal_of : Told → Refusal
refusal_of t =
    cond (eqb t.number 6) Refusal.NoControlId
    (cond (eqb t.number 7) Refusal.Malformed
    (cond (eqb t.number 8) Refusal.OtherVersion (cond (eqb t.number 9) Refusal.NoSection (cond (leb 10 t.number) (later_of t) (Refusal.Unreadable (unreadable_of t))))))

refusal_back : (a : Refusal) → refusal_of (refusal_told a) ≡ a
refusal_back (Refusal.Unreadable Unreadable.Empty) = refl
refusal_back (Refusal.Unreadable Unreadable.TooLong) = refl
refusal_back (Refusal.Unreadable (Unreadable.WrongByte at)) = refl
refusal_back (Refusal.Unreadable Unreadable.NoHeader) = refl
refusal_back (Refusal.Unreadable (Unreadable.WrongSegment start)) = refl
refusal_back Refusal.NoControlId = refl
refusal_back Refusal.Malformed = refl
refusal_back Refusal.OtherVersion = refl
refusal_back Refusal.NoSection = refl
refusal_back Refusal.WrongStamp = refl
refusal_back (Refusal.ShortOutput need) = refl
refusal_back (Refusal.ShortTable need) = refl
refusal_back Refusal.WrongRecord = refl
refusal_back Refusal.WrongFile = refl
refusal_back (Refusal.WrongMessage ordinal) = refl

-- no two refusals tell the same
pub refusal_once : (a a' : Refusal) → refusal_told a ≡ refusal_told a' → a ≡ a'
refusal_once a a' e = sym (refusal_back a) ∙ ap refusal_of e ∙ refusal_back a'

-- no two answers tell the same
pub paper_once : (a a' : Answer) → paper a ≡ paper a' → a ≡ a'
paper_once (Ok n) (Ok k) e = ap Ok (ap (λ (t : Told). t.detail) e)
paper_once (Ok n) (Err r) e = absurd (refusal_some r (sym (ap (λ (t : Told). t.number) e)))
paper_once (Err r) (Ok k) e = absurd (refusal_some r (ap (λ (t : Told). t.number) e))
paper_once (Err r) (Err q) e = ap Err (refusal_once r q e)
