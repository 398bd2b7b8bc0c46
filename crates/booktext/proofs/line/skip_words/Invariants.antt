-- `booktext::line::skip_words` meets its contract. The invariant of its loop: the words after so many from `at` on are from i on those after as many as there are turns left. Assumes nothing.
use mathlib.Core.Path.{◌≡◌}
use Prim.Native.Nat.{◌-◌}
use lib.ListN.{drop}
use Rattle.booktext.specs.Standing.{words_from}
use Rattle.booktext.proofs.line.skip_words.Given as goal

abbrev pub invariant-loop : goal.invariant-loop
invariant-loop l = drop l.count (words_from l.t l.at) ≡ drop (l.count - l.counter) (words_from l.t l.i)
