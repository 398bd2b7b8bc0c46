-- To be believed. Which findings decide MSA-1. Assumes nothing.
use Prim.Native.Char.{code}
use Rattle.std.specs.Prelude.{Bool, false, ◌||◌, List, [], ◌∷◌, eqb}
use Rattle.hl7.specs.Bytes.{within}
use Rattle.grade.specs.declared.finding.Finding.{Finding}

-- the findings have one that passes the test
unfoldable pub has : (Finding → Bool) → List Finding → Bool
has test [] = false
has test (f ∷ findings) = test f || has test findings

-- a finding about the header: a code from 200 to 203
abbrev pub is_header : Finding → Bool
is_header f = within 200 203 f.code

-- a finding of severity E or W
abbrev pub is_fault : Finding → Bool
is_fault f = eqb f.severity (code "E") || eqb f.severity (code "W")
