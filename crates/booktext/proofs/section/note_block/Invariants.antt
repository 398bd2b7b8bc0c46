-- `booktext::section::note_block` meets its contract. The invariant of its loop: with the statements that are left noted too, all are. Assumes nothing.
use mathlib.Core.List.{map}
use lib.ListN.{length}
use Rattle.booktext.specs.Meaning.{give}
use Rattle.booktext.specs.Standing.{body_from}
use Rattle.booktext.proofs.Stating.{onward}
use Rattle.booktext.proofs.Noting.{Noting}
use Rattle.booktext.proofs.section.note_block.Given as goal

abbrev pub invariant-loop-at : goal.invariant-loop-at
invariant-loop-at g l = Noting l.t (g.N.CellNumber.cells l.initial.cells) l.count (map (give l.letter) (body_from l.t l.start)) (g.N.CellNumber.cells l.cells) l.n (map (give l.letter) (onward l.t (body_from l.t) l.at))

abbrev pub decreases-loop-at : goal.decreases-loop-at
decreases-loop-at g l = length (onward l.t (body_from l.t) l.at)
