-- Inner: only contracts inside the crates use these names; nothing here has to be believed.
-- The pieces in which an ACK is written. Assumes nothing.
use Rattle.std.specs.Prelude.{ℕ, ◌≡◌, Bool, ◌||◌}
use mathlib.Core.List.{List, [], ◌∷◌, ◌++◌, flat_map}
use Rattle.hl7.specs.declared.place.Delims.{Delims}
use Rattle.grade.specs.Deciding.{has, is_fault}
use Rattle.grade.specs.Sheet.{to_come}
use Rattle.grade.specs.Filling.{all_from}
use Rattle.grade.specs.declared.finding.Finding.{Finding}
use Rattle.grade.specs.declared.sheet.Sheet.{Sheet}
use Rattle.ack.specs.Output.{Adds}
use Rattle.ack.specs.Layout.{msh_line, msa_line, err_line, ended}
use Rattle.ack.specs.Answers.{Outcome, by_rows, short_row}
use Rattle.ack.specs.declared.output.Output.{Output}

-- the first two segments
unfoldable pub heading : Delims → (msh stamp : List ℕ) → ℕ → ℕ → List ℕ
heading d msh stamp control second = ended (msh_line d msh stamp control) ++ ended (msa_line d msh second)

-- row 11 alone, or the ACK
abbrev pub short_or : (ack out : List ℕ) → Outcome
short_or ack out = by_rows (short_row ack out ∷ []) ack out

-- one ERR for each finding
unfoldable pub errs : Delims → List Finding → List ℕ
errs d findings = flat_map (λ f. ended (err_line d f)) findings

-- ---- the ERRs of all findings from a sheet on
-- they were written into `before`, which made it `after`; fault says whether an E or W is among the findings, or among those of the sheets before
pub record Puts (m b : List ℕ) (first : Sheet) (before after : Output) (fault : Bool) : Type 0 where
  pub wrote : Adds before (errs first.by.d (all_from m b first)) after
  pub told : fault ≡ (first.fault || has is_fault (to_come m b first))
