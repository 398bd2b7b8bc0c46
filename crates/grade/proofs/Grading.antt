-- Laws of `specs/Grading.antt`: what is listed depends on the book through the named section alone. Assumes nothing.
use Prim.Native.Nat.{ℕ}
use mathlib.Core.Path.{◌≡◌, ap}
use mathlib.Core.List.{List, []}
use lib.ListN.{get_or}
use Rattle.hl7.specs.Place.{delims_of}
use Rattle.grade.specs.Book.{Contents, decoded, under}
use Rattle.grade.specs.Header.{msh_of, header_of}
use Rattle.grade.specs.Admission.{key_of}
use Rattle.grade.specs.Grading.{section_for, findings_by, findings_for}
use Rattle.grade.specs.Standing.{rules_in, sets_in}
use Rattle.grade.specs.Rest.{findings_in}
use Rattle.grade.specs.declared.header.Header.{Header}
use Rattle.grade.specs.declared.walk.Section.{Section}
use Rattle.grade.proofs.Opening.{Under}

-- two books whose sections with the message's key hold the same list the same
pub section_decides : (m b b' : List ℕ) → under (key_of (delims_of m) (msh_of m)) (decoded b) ≡ under (key_of (delims_of m) (msh_of m)) (decoded b') → findings_for m b ≡ findings_for m b'
unfolding section_for
section_decides m b b' e = ap (λ (cs : List Contents). findings_by (get_or cs 0 (record { key = []; rules = []; sets = [] })) m) e

-- ---- the section that was opened is the one that the message names
pub section_opened : (m b : List ℕ) (s : Section) → Under b (key_of (delims_of m) (msh_of m)) s → section_for m b ≡ record { key = key_of (delims_of m) (msh_of m); rules = rules_in b s; sets = sets_in b s }
unfolding section_for
section_opened m b s e = ap (λ (cs : List Contents). get_or cs 0 (record { key = []; rules = []; sets = [] })) e.only

-- ---- and what is found by it, with what was read of the header, is what is listed
pub listed : (m b : List ℕ) (s : Section) {h : Header} → Under b (key_of (delims_of m) (msh_of m)) s → h ≡ header_of (delims_of m) (msh_of m) → findings_in b s h m ≡ findings_for m b
unfolding findings_by
listed m b s found read = rw (read, section_opened m b s found)
