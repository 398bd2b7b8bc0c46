-- `ack::layout::put_msa` meets its contract. Assumes nothing.
use mathlib.Core.List.{append_assoc}
use Rattle.ack.specs.Layout.{msa_line, joined, marked, own_byte}
use Rattle.ack.proofs.Adding.{◌next◌, adds_as}
use Rattle.ack.proofs.layout.put_msa.Goals as goal

pub returns : goal.returns
unfolding msa_line joined marked own_byte
returns c =
    adds_as (c.put_own.ensures next c.put_byte.ensures next c.put_copy.ensures next c.put_byte-2.ensures) (simp append_assoc)
