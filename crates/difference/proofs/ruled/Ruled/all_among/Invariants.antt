-- `difference::ruled::Ruled::all_among` meets its contract. The loop's invariant: so far each code was one, and all are if those left are. Assumes nothing.
use mathlib.Core.Path.{◌≡◌}
use mathlib.Core.Bool.{◌&&◌}
use Prim.Native.Nat.{◌-◌}
use Rattle.difference.specs.Difference.{all_among}
use Rattle.difference.specs.Ruled.{codes_in}
use Rattle.difference.proofs.Coding.{codes_from, CodesFound}
use Rattle.difference.proofs.ruled.Ruled.all_among.Given as goal

abbrev pub invariant-loop-i : goal.invariant-loop-i
invariant-loop-i l = CodesFound l.self.book.now (l.self.count - l._i) l.from × (all_among (codes_from l.self.book.now l.self.count l.self.from) (codes_in l.other) ≡ (l.every && all_among (codes_from l.self.book.now (l.self.count - l._i) l.from) (codes_in l.other)))
