-- `booktext::section::note_section` meets its contract. The invariant of its loop: with the statements that are left noted too, all are. Assumes nothing.
use lib.ListN.{length}
use Rattle.booktext.specs.Lines.{statements}
use Rattle.booktext.specs.Meaning.{expand}
use Rattle.booktext.specs.Standing.{body_from}
use Rattle.booktext.proofs.Stating.{onward}
use Rattle.booktext.proofs.Noting.{Noting}
use Rattle.booktext.proofs.section.note_section.Given as goal

abbrev pub invariant-loop-at : goal.invariant-loop-at
invariant-loop-at g l = Noting l.t (g.N.CellNumber.cells l.initial.cells) 0 (expand (statements l.t) (body_from l.t l.start)) (g.N.CellNumber.cells l.cells) l.n (expand (statements l.t) (onward l.t (body_from l.t) l.at))

abbrev pub decreases-loop-at : goal.decreases-loop-at
decreases-loop-at g l = length (onward l.t (body_from l.t) l.at)
