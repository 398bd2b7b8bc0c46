-- `booktext::word::all_plain` meets its contract. The invariant of its loop: all bytes are plain if all passed were and all left are. Assumes nothing.
use mathlib.Core.Path.{◌≡◌}
use mathlib.Core.Bool.{◌&&◌}
use lib.ListN.{drop}
use Rattle.hl7.specs.Bytes.{all}
use Rattle.grade.specs.Book.{plain}
use Rattle.booktext.proofs.word.all_plain.Given as goal

abbrev pub invariant-loop-x : goal.invariant-loop-x
invariant-loop-x l = all plain l.w ≡ l.plain && all plain (drop l.x-index l.w)
