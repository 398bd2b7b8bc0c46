-- `difference::line::put_codes` meets its contract. The loop's invariant: whoever writes the codes left has written all. Assumes nothing.
use Prim.Native.Nat.{◌-◌}
use Rattle.ack.specs.Layout.{marked}
use Rattle.ack.proofs.Adding.{Adding}
use Rattle.difference.specs.Difference.{code_words}
use Rattle.difference.proofs.Coding.{codes_from, CodesFound}
use Rattle.difference.proofs.line.put_codes.Given as goal

abbrev pub invariant-loop-i : goal.invariant-loop-i
invariant-loop-i l = CodesFound l.ruled.book.now (l.ruled.count - l._i) l.from × Adding (marked 32 (code_words l.mark (codes_from l.ruled.book.now l.ruled.count l.ruled.from))) (marked 32 (code_words l.mark (codes_from l.ruled.book.now (l.ruled.count - l._i) l.from))) l.initial.out l.out
