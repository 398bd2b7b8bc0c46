-- Inner: only contracts inside the crates use these names; nothing here has to be believed.
-- How a table is filled. Assumes nothing.
use Rattle.std.specs.Prelude.{ℕ, ◌≡◌, false, List, ◌++◌, length}
use Rattle.grade.specs.Sheet.{held, to_come, Sheeted}
use Rattle.grade.specs.declared.finding.Finding.{Finding}
use Rattle.grade.specs.declared.sheet.Sheet.{Sheet}

-- the findings from a sheet on
abbrev pub all_from : (m b : List ℕ) → Sheet → List Finding
all_from m b s = held s ++ to_come m b s

-- they are so many, and none is left out for brevity
pub record Fills (m b : List ℕ) (first : Sheet) (count : ℕ) : Type 0 where
  pub sheeted : Sheeted m b first
  pub whole : first.brief ≡ false
  pub exact : count ≡ length (all_from m b first)
