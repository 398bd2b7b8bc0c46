-- `ack::layout::put_err` meets its contract. Assumes nothing.
use mathlib.Core.List.{append_assoc, append-nil}
use Rattle.ack.specs.Layout.{err_line, joined, marked, own_byte}
use Rattle.ack.proofs.Adding.{◌next◌, adds_as}
use Rattle.ack.proofs.layout.put_err.Goals as goal

pub returns : goal.returns
unfolding err_line joined marked own_byte
returns c =
    adds_as
    (c.put_own.ensures
    next c.put_place.ensures
    next c.put_byte.ensures
    next c.put_code.ensures
    next c.put_byte-2.ensures
    next c.put_byte-3.ensures
    next c.put_number.ensures
    next c.put_own-2.ensures)
    (simp (append_assoc, append-nil))
