-- `ack::measure::code_length` meets its contract. Assumes nothing.
use mathlib.Core.Path.{◌≡◌, sym, ap}
use mathlib.Core.List.{[]}
use lib.Dec.{lit≤}
use lib.ListN.{length}
use Rattle.ack.specs.Layout.{code_text}
use Rattle.ack.proofs.Lines.{code_other}
use Rattle.ack.proofs.measure.code_length.Goals as goal

pub returns-in-100 : goal.returns-in-100
unfolding code_text
returns-in-100 c = (rw c.in-100.is, lit≤ tt)

pub returns-in-101 : goal.returns-in-101
unfolding code_text
returns-in-101 c = (rw c.in-101.is, lit≤ tt)

pub returns-in-102 : goal.returns-in-102
unfolding code_text
returns-in-102 c = (rw c.in-102.is, lit≤ tt)

pub returns-in-103 : goal.returns-in-103
unfolding code_text
returns-in-103 c = (rw c.in-103.is, lit≤ tt)

pub returns-in-200 : goal.returns-in-200
unfolding code_text
returns-in-200 c = (rw c.in-200.is, lit≤ tt)

pub returns-in-201 : goal.returns-in-201
unfolding code_text
returns-in-201 c = (rw c.in-201.is, lit≤ tt)

pub returns-in-202 : goal.returns-in-202
unfolding code_text
returns-in-202 c = (rw c.in-202.is, lit≤ tt)

pub returns-in-203 : goal.returns-in-203
unfolding code_text
returns-in-203 c = (rw c.in-203.is, lit≤ tt)

pub returns-in_default : goal.returns-in_default
unfolding code_text
returns-in_default c =
    let none : code_text c.args.code ≡ [] = search code_other in
    (ap length (sym none), lit≤ tt)
