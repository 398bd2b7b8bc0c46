-- Inner: only contracts inside the crate use these names; nothing here has to be believed.
-- What a section of one of the two books says. Assumes nothing.
use Rattle.std.specs.Prelude.{ℕ, List}
use Rattle.grade.specs.Book.{Contents}
use Rattle.difference.specs.Ruled.{held_by}
use Rattle.difference.specs.declared.side.Side.{Side}

-- under a key
abbrev pub held : List ℕ → Side → Contents
held key side = held_by key side.book.now side.section
