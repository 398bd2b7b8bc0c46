-- `ack::layout::put_msh` meets its contract. Assumes nothing.
use native.Mathlib.Omega.{arith}
use Rattle.ack.proofs.Lines.{msh_pieces}
use Rattle.ack.proofs.Adding.{◌next◌, adds_as}
use Rattle.ack.proofs.layout.put_msh.Goals as goal

pub put_copy-requires-5 : goal.put_copy-requires-5
put_copy-requires-5 c = (c.requires, omega arith)

pub returns : goal.returns
returns c =
    adds_as
    (c.put_own.ensures
    next c.put_copy.ensures
    next c.put_copy-2.ensures
    next c.put_copy-3.ensures
    next c.put_copy-4.ensures
    next c.put_field.ensures
    next c.put_own-2.ensures
    next c.put_number.ensures
    next c.put_copy-5.ensures
    next c.put_own-3.ensures)
    (msh_pieces _ _ _ _)
