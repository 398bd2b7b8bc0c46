-- `booktext::before::codes_asked` meets its contract. The invariant of its loop: all codes are as asked if all from i on are. Assumes nothing.
use mathlib.Core.Path.{◌≡◌}
use mathlib.Core.List.{map}
use lib.ListN.{length, drop}
use Rattle.grade.specs.Encoding.{each}
use Rattle.booktext.specs.Lines.{statements}
use Rattle.booktext.specs.Refusals.{code_asked}
use Rattle.booktext.specs.Standing.{words_from, statement_at, noted}
use Rattle.booktext.proofs.before.codes_asked.Given as goal

abbrev pub invariant-loop-name : goal.invariant-loop-name
invariant-loop-name l = each (code_asked (statements l.t) (map (noted l.t) l.cells) (statement_at l.t l.at 0)) (drop 2 (words_from l.t l.at))
    ≡ each (code_asked (statements l.t) (map (noted l.t) l.cells) (statement_at l.t l.at 0)) (words_from l.t l.i)

abbrev pub decreases-loop-name : goal.decreases-loop-name
decreases-loop-name l = length (words_from l.t l.i)
