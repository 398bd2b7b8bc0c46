-- `booktext::names::Names::note_words` meets its contract. The invariant of its loop: whoever notes the words left has noted all. Assumes nothing.
use mathlib.Core.Path.{◌≡◌}
use lib.ListN.{length}
use Rattle.booktext.specs.Contents.{with_names}
use Rattle.booktext.specs.Standing.{words_from, names_in}
use Rattle.booktext.proofs.names.Names.note_words.Given as goal

abbrev pub invariant-loop-w : goal.invariant-loop-w
invariant-loop-w l = with_names (names_in l.t l.initial.self) (words_from l.t l.at) ≡ with_names (names_in l.t l.self) (words_from l.t l.i)

abbrev pub decreases-loop-w : goal.decreases-loop-w
decreases-loop-w l = length (words_from l.t l.i)
