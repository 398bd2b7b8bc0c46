-- `canonical::show::put_codes` meets its contract. The loop's invariant: whoever writes the lines of the codes left has written all. Assumes nothing.
use mathlib.Core.Path.{◌≡◌}
use mathlib.Core.Bool.{true}
use Prim.Native.Nat.{◌-◌}
use Rattle.grade.specs.Book.{text}
use Rattle.grade.specs.Limits.{code_limit}
use Rattle.grade.specs.Reader.{is_found, times}
use Rattle.ack.proofs.Adding.{Adding}
use Rattle.canonical.proofs.PutSets.{codes_from}
use Rattle.canonical.proofs.show.put_codes.Given as goal

abbrev pub invariant-loop-i : goal.invariant-loop-i
invariant-loop-i l = (is_found (times (l.count - l._i) (text code_limit) l.book l.from) ≡ true) × Adding (codes_from l.book l.count l.start) (codes_from l.book (l.count - l._i) l.from) l.initial.out l.out
