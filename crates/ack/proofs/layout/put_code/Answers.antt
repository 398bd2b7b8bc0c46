-- `ack::layout::put_code` meets its contract: each arm writes its own text. Assumes nothing.
use mathlib.Core.Path.{◌≡◌, sym, ap}
use mathlib.Core.List.{[]}
use Rattle.ack.specs.Layout.{own_byte, own, code_text}
use Rattle.ack.proofs.Lines.{code_other}
use Rattle.ack.proofs.Adding.{adds_none}
use Rattle.ack.proofs.layout.put_code.Goals as goal

pub returns-in-100 : goal.returns-in-100
unfolding code_text own_byte
returns-in-100 c = rw c.in-100.is c.put_own.ensures

pub returns-in-101 : goal.returns-in-101
unfolding code_text own_byte
returns-in-101 c = rw c.in-101.is c.put_own-in-101.ensures

pub returns-in-102 : goal.returns-in-102
unfolding code_text own_byte
returns-in-102 c = rw c.in-102.is c.put_own-in-102.ensures

pub returns-in-103 : goal.returns-in-103
unfolding code_text own_byte
returns-in-103 c = rw c.in-103.is c.put_own-in-103.ensures

pub returns-in-200 : goal.returns-in-200
unfolding code_text own_byte
returns-in-200 c = rw c.in-200.is c.put_own-in-200.ensures

pub returns-in-201 : goal.returns-in-201
unfolding code_text own_byte
returns-in-201 c = rw c.in-201.is c.put_own-in-201.ensures

pub returns-in-202 : goal.returns-in-202
unfolding code_text own_byte
returns-in-202 c = rw c.in-202.is c.put_own-in-202.ensures

pub returns-in-203 : goal.returns-in-203
unfolding code_text own_byte
returns-in-203 c = rw c.in-203.is c.put_own-in-203.ensures

pub returns-in_default : goal.returns-in_default
returns-in_default c =
    let none : code_text c.args.code ≡ [] = search code_other in
    adds_none _ (ap (own c.args.d) (sym none))
