-- `hl7::refusal::all_allowed` meets its contract. The invariant of its loop: all bytes pass if those passed did and those left do.
-- Assumes nothing.
use mathlib.Core.Path.{◌≡◌}
use mathlib.Core.Bool.{◌&&◌}
use lib.ListN.{drop}
use Rattle.hl7.specs.Bytes.{all}
use Rattle.hl7.specs.Refusals.{allowed}
use Rattle.hl7.proofs.refusal.all_allowed.Given as goal

abbrev pub invariant-loop-x : goal.invariant-loop-x
invariant-loop-x l = all allowed l.m ≡ l.every && all allowed (drop l.x-index l.m)
