-- `booktext::line::part` meets its contract. Assumes nothing.
use mathlib.Core.Path.{ap, ◌∙◌}
use mathlib.Core.List.{List}
use Prim.Native.Nat.{ℕ, ◌-◌}
use lib.ListN.{take}
use Rattle.booktext.proofs.Words.{part_none}
use Rattle.booktext.proofs.line.part.Goals as goal

pub returns-then-span : goal.returns-then-span
returns-then-span c =
    let args = c.args in
    c.front.ensures ∙ part_none args.t.now args.span c.if-span.true

pub returns : goal.returns
returns c =
    let span = c.args.span in
    c.front-2.ensures ∙ ap (λ (l : List ℕ). take (span.end - span.start) l) c.after.ensures
