-- `show::text::turn_lines` meets its contract, by the invariant that stands beside this. Assumes nothing.
use mathlib.Core.Path.{ap₂, ◌∙◌, ap}
use mathlib.Core.List.{◌++◌}
use lib.ListN.{take, drop}
use Prim.Native.Nat.{ℕ}
use Rattle.std.proofs.lemmas.List.{take_min, drop_min}
use Rattle.show.specs.Shown.{line_feeds}
use Rattle.show.proofs.Showing.{turned_more, turned_all}
use Rattle.show.proofs.text.turn_lines.Goals as goal

pub loop-b-preserved : goal.loop-b-preserved
loop-b-preserved c = turned_more _ _ c.loop-b.invariant c.loop-b-test.true c.line_feed_for.ensures

pub returns : goal.returns
returns c =
    let text = c.args.text.now in
    let count = c.args.count in
    let end = c.min-end.ensures in (
      ap₂ ◌++◌
          (turned_all _ _ c.loop-b.invariant c.loop-b-test.false ∙ ap (λ (n : ℕ). line_feeds (take n text)) end ∙ ap line_feeds (take_min count text))
          (ap (λ (n : ℕ). drop n text) end ∙ drop_min count text),
      end,
    )
