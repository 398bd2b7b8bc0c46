-- `show::text::turn_lines` meets its contract: what is passed is turned, the rest is as it was. Assumes nothing.
use mathlib.Core.Path.{◌≡◌}
use mathlib.Core.List.{◌++◌, map}
use lib.ListN.{take, drop}
use Rattle.show.specs.Shown.{line_feed}
use Rattle.show.proofs.text.turn_lines.Given as goal

abbrev pub invariant-loop-b : goal.invariant-loop-b
invariant-loop-b l = l.b-items ≡ map line_feed (take l.b-index l.initial.b-items) ++ drop l.b-index l.initial.b-items
