-- `grade::book::keys_distinct` meets its contract, by the invariant that stands beside this. Assumes nothing.
use Prim.Native.Nat.{ℕ, suc, ◌<◌}
use native.Mathlib.Omega.{arith}
use mathlib.Core.Path.{◌≡◌, refl, sym, ap, subst, ◌∙◌}
use mathlib.Core.Bool.{true, false}
use mathlib.Core.List.{List, [], ◌∷◌, map}
use lib.ListN.{length, get_or}
use Rattle.hl7.specs.Bytes.{among}
use Rattle.grade.specs.Book.{distinct}
use Rattle.grade.specs.Standing.{text_at, TextFits}
use Rattle.grade.proofs.book.keys_distinct.Goals as goal

-- the texts at the positions that are left, over plain variables
module _ (b : List ℕ) (x : ℕ) (later rest : List ℕ) (is : rest ≡ x ∷ later) where
  still-fit : ((k : ℕ) → k < length rest → TextFits b (get_or rest k 0)) → (k : ℕ) → k < length later → TextFits b (get_or later k 0)
  still-fit h k l =
      let long : suc k < length rest = omega (arith, ap length is) in
      subst (λ (v : List ℕ). TextFits b (get_or v (suc k) 0)) is (h (suc k) long)

  repeated : among (text_at b x) (map (text_at b) later) ≡ true → distinct (map (text_at b) rest) ≡ false
  unfolding distinct
  repeated e = rw (is, e)

  passed : among (text_at b x) (map (text_at b) later) ≡ false → distinct (map (text_at b) later) ≡ distinct (map (text_at b) rest)
  unfolding distinct
  passed e = rw (is, e)

none : (b rest : List ℕ) → length rest ≡ 0 → distinct (map (text_at b) rest) ≡ true
unfolding distinct
none b [] h = refl
none b (x ∷ rest) h = absurd (omega (arith, h))

pub is_among-requires : goal.is_among-requires
is_among-requires c = still-fit c.args.book.now c.in-Some.at.now _ _ c.in-Some.ensures.cases.0 c.loop-at.invariant.0

pub returns-then-is_among : goal.returns-then-is_among
returns-then-is_among c =
    sym (repeated c.args.book.now c.in-Some.at.now _ _ c.in-Some.ensures.cases.0 (rw c.text_part.ensures at (sym c.is_among.ensures ∙ c.if-is_among.true)))
    ∙ c.loop-at.invariant.1

pub loop-at-preserved : goal.loop-at-preserved
loop-at-preserved c = (
  still-fit c.args.book.now c.in-Some.at.now _ _ c.in-Some.ensures.cases.0 c.loop-at.invariant.0,
  passed c.args.book.now c.in-Some.at.now _ _ c.in-Some.ensures.cases.0 (rw c.text_part.ensures at (sym c.is_among.ensures ∙ c.if-is_among.false))
      ∙ c.loop-at.invariant.1,
)

pub returns : goal.returns
returns c = sym (none c.args.book.now c.loop-at.rest.now c.in_default.ensures.cases) ∙ c.loop-at.invariant.1
