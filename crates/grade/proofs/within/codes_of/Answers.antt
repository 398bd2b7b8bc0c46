-- `grade::within::codes_of` meets its contract: a CODE rule has a set within the section, any other kind has none. Assumes nothing.
use Prim.Native.Nat.{ℕ}
use mathlib.Core.Path.{◌≡◌, refl}
use mathlib.Core.List.{List}
use native.Mathlib.Omega.{arith}
use Rattle.grade.specs.Rest.{CodesAre}
use Rattle.grade.specs.declared.rule.Kind.{Kind}
use Rattle.grade.specs.declared.rule.Kind.TheVariants.{Required, Length, Number, Date, Time, Code}
use Rattle.grade.proofs.Holding.{placed_at}
use Rattle.grade.proofs.Judging.{set-in_range, codes_placed}
use Rattle.grade.proofs.within.codes_of.Goals as goal

pub overflow_sub-from : goal.overflow_sub-from
overflow_sub-from c =
    let range = set-in_range c.in-Code.is c.requires.2 in omega arith

pub place_at-requires : goal.place_at-requires
place_at-requires c =
    let range = set-in_range c.in-Code.is c.requires.2 in
    omega (arith, c.requires.0.few_sets)

-- a kind that is not CODE has no codes
codes-none : (b : List ℕ) (sets : List (List (List ℕ))) (kind : Kind) (at : ℕ) → ((set : ℕ) → kind ≡ Code set → ⊥) → CodesAre b sets kind at
codes-none b sets Required at other = tt
codes-none b sets (Length low high) at other = tt
codes-none b sets Number at other = tt
codes-none b sets Date at other = tt
codes-none b sets (Time digits) at other = tt
codes-none b sets (Code set) at other = absurd (other set refl)

pub returns-in_default : goal.returns-in_default
returns-in_default c = codes-none _ _ c.args.kind 0 c.in_default.not-Code

pub returns-in-Code : goal.returns-in-Code
returns-in-Code c =
    let range = set-in_range c.in-Code.is c.requires.2 in
    codes_placed _ _ c.place_at.result c.in-Code.is c.from.ensures c.place_at.ensures (placed_at _ _ c.requires.1 c.requires.0 _ (omega arith))
