-- `booktext::compile::make_noted` meets its contract. Assumes nothing.
use mathlib.Core.Path.{sym}
use lib.Seq.{length-take-le}
use Rattle.booktext.proofs.compile.make_noted.Goals as goal

pub slice_bounds-make_named-end : goal.slice_bounds-make_named-end
slice_bounds-make_named-end c = sym (length-take-le _ _ c.note_heads-noted.ensures.0)

pub make_named-requires : goal.make_named-requires
make_named-requires c = (c.note_heads-noted.ensures.1, c.requires.0, c.requires.1, c.requires.2)

pub returns : goal.returns
returns c = c.make_named.ensures
