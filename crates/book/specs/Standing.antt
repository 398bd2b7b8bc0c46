-- Inner: only contracts inside the crate use these names; nothing here has to be believed.
use Rattle.std.specs.Prelude.{ℕ, List, ◌++◌, length}
use Rattle.hl7.specs.Text.{bytes}
use Rattle.grade.specs.Book.{Contents}
use Rattle.book.specs.Counts.{rule_total, set_total}
use Rattle.book.specs.declared.counts.Counts.{Counts}

-- what the code counts of sections
abbrev pub counts_of : List Contents → Counts
counts_of contents = record { sections = length contents; rules = rule_total contents; sets = set_total contents }

-- a new file's name before it is made
abbrev pub new_name : (path : List ℕ) → List ℕ
new_name path = path ++ bytes ".XXXXXX"
