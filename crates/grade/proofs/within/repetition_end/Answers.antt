-- `grade::within::repetition_end` meets its contract: without a tilde the repetition runs to the field's end. Assumes nothing.
use mathlib.Core.Path.{sym}
use Rattle.hl7.proofs.Cutting.{end_none}
use Rattle.grade.proofs.within.repetition_end.Goals as goal

pub returns-then-single : goal.returns-then-single
returns-then-single c = sym (end_none c.args.tilde c.args.fld.now c.args.at (c.requires.1 c.if-single.true) c.requires.0)
