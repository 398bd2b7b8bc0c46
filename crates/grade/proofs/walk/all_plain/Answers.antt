-- `grade::walk::all_plain` meets its contract, by the invariant that stands beside this. Assumes nothing.
use Prim.Native.Nat.{ℕ, ◌+◌, ◌<◌}
use mathlib.Core.Path.{◌≡◌, refl, sym, ap, ◌∙◌}
use mathlib.Core.Bool.{Bool, false, ◌&&◌}
use mathlib.Core.List.{List, map}
use native.Mathlib.Omega.{arith}
use lib.ListN.{length, get_or, drop}
use Rattle.hl7.specs.Bytes.{all}
use Rattle.hl7.proofs.Comparing.{all-gathered, all-over}
use Rattle.grade.specs.Book.{plain}
use Rattle.grade.specs.Strict.{count_from}
use Rattle.grade.proofs.Following.{tells-plain}
use Rattle.grade.proofs.walk.all_plain.Goals as goal

-- over plain variables: one byte more, looked up in the table
one_more : (v : List ℕ) (i x : ℕ) (every : Bool) (table : List Bool) → i < length v → x ≡ get_or v i 0 → x < 256 → all plain v ≡ every && all plain (drop i v) →
    table ≡ map plain (count_from 0 256) → all plain v ≡ (every && get_or table x false) && all plain (drop (i + 1) v)
one_more v i x every table h e k was right =
    was ∙ all-gathered plain v i every h
    ∙ ap (λ (t : Bool). (every && t) && all plain (drop (i + 1) v)) (ap plain (sym e) ∙ sym (tells-plain table right x k))

-- the table has an entry for each byte: `refl` is the test of all of them
pub loop-x-preserved : goal.loop-x-preserved
unfolding count_from
loop-x-preserved c =
    let l = c.loop-x in
    one_more c.args.letters.now l.x-index c.from.result l.every _ c.loop-x-test.true c.from.ensures (omega (arith, c.from.ensures, c.type_inv.letters l.x-index)) l.invariant refl

pub returns : goal.returns
returns c =
    let v = c.args.letters.now in
    sym (c.loop-x.invariant ∙ all-over plain v c.loop-x.x-index c.loop-x.every c.loop-x-test.false)
