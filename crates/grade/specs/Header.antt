-- To be believed. The header's findings: MSH-9.1 is not VXU (200), MSH-9.2 is not V04 (201), MSH-11.1 is not P, T or D (202), MSH-12.1 is not 2.5.1 (203).
-- Assumes nothing.
use Rattle.std.specs.Prelude.{ℕ, Bool, cond, not, ◌||◌, List, [], ◌∷◌, ◌++◌}
use Prim.Native.Char.{code}
use Rattle.hl7.specs.Text.{bytes}
use Rattle.hl7.specs.Bytes.{same}
use Rattle.hl7.specs.Place.{segment_of, in_segment}
use Rattle.hl7.specs.declared.place.Delims.{Delims}
use Rattle.grade.specs.Rule as Rule
use Rattle.grade.specs.declared.finding.Finding.{Finding}
use Rattle.grade.specs.declared.header.Header.{Header}

-- MSH is the first segment
abbrev pub msh_of : List ℕ → List ℕ
msh_of m = (segment_of m 1).bytes

-- MSH-9.1 and the like mean the first repetition
unfoldable pub msh_at : Delims → List ℕ → ℕ → ℕ → List ℕ
msh_at d msh field component = (in_segment d msh field 1 component).bytes

-- P, T or D
unfoldable pub is_processing_id : List ℕ → Bool
is_processing_id v = same v (bytes "P") || same v (bytes "T") || same v (bytes "D")

unfoldable pub header_of : Delims → List ℕ → Header
header_of d msh =
    record {
      type_wrong = not (same (msh_at d msh 9 1) (bytes "VXU"));
      event_wrong = not (same (msh_at d msh 9 2) (bytes "V04"));
      processing_wrong = not (is_processing_id (msh_at d msh 11 1));
      version_wrong = not (same (msh_at d msh 12 1) (bytes "2.5.1"));
    }

-- a header finding is an E at the first MSH
abbrev pub header_finding : ℕ → ℕ → ℕ → Finding
header_finding error field component =
    record { name = Rule.msh; ordinal = 1; field = field; repetition = 1; component = component; rule = 0; code = error; severity = code "E" }

abbrev pub only_if : Bool → Finding → List Finding
only_if test finding = cond test (finding ∷ []) []

-- all that fail, in this order
unfoldable pub header_findings : Header → List Finding
header_findings h =
    only_if h.type_wrong (header_finding 200 9 1)
    ++ (only_if h.event_wrong (header_finding 201 9 2)
    ++ (only_if h.processing_wrong (header_finding 202 11 1)
    ++ only_if h.version_wrong (header_finding 203 12 1)))

abbrev pub any_wrong : Header → Bool
any_wrong h = h.type_wrong || h.event_wrong || h.processing_wrong || h.version_wrong

-- header findings alone, if there are any; otherwise the others
abbrev pub header_or : Header → List Finding → List Finding
header_or h others = cond (any_wrong h) (header_findings h) others
