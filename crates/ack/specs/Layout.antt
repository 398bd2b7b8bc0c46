-- To be believed. The bytes of an ACK, in the layout's own order. Assumes nothing.
use Rattle.std.specs.Prelude.{ℕ, Bool, cond, eqb}
use Prim.Native.Char.{code}
use mathlib.Core.List.{List, [], ◌∷◌, ◌++◌, map, flat_map}
use Rattle.hl7.specs.Text.{bytes}
use Rattle.hl7.specs.Place.{carriage_return, field_of}
use Rattle.hl7.specs.declared.place.Delims.{Delims}
use Rattle.grade.specs.Rule.{the_end, name_bytes}
use Rattle.grade.specs.Deciding.{has, is_header, is_fault}
use Rattle.grade.specs.declared.finding.Finding.{Finding}
use Rattle.ack.specs.Decimal.{decimal}

-- ---- delimiters
-- the message's own delimiter for each of the standard five
unfoldable pub own_byte : Delims → ℕ → ℕ
own_byte d x =
    cond (eqb x (code "|")) d.bar
    (cond (eqb x (code "^")) d.caret
    (cond (eqb x (code "~")) d.tilde
    (cond (eqb x (code "\\")) d.backslash
    (cond (eqb x (code "&")) d.ampersand x))))

-- a text that stands here with the standard delimiters, as the message's own write it
abbrev pub own : Delims → List ℕ → List ℕ
own d text = map (own_byte d) text

-- each part with the mark in front
unfoldable pub marked : ℕ → List (List ℕ) → List ℕ
marked mark [] = []
marked mark (part ∷ parts) = mark ∷ (part ++ marked mark parts)

-- the parts in their order, with the mark between each two
unfoldable pub joined : ℕ → List (List ℕ) → List ℕ
joined mark [] = []
joined mark (part ∷ parts) = part ++ marked mark parts

-- ---- MSH
-- field k of the message's own MSH, whole
unfoldable pub copied : Delims → List ℕ → ℕ → List ℕ
copied d msh k = (field_of d msh k).bytes

-- MSH-3 to 6 are the message's 5, 6, 3, 4; 7 is the stamp, 10 the control number in decimal, 11 copied
unfoldable pub msh_line : Delims → (msh stamp : List ℕ) → ℕ → List ℕ
msh_line d msh stamp control =
    joined d.bar (
    bytes "MSH" ∷ own d (bytes "^~\\&") ∷ copied d msh 5 ∷ copied d msh 6 ∷ copied d msh 3 ∷ copied d msh 4 ∷ stamp ∷ [] ∷ own d (bytes "ACK^V04^ACK")
    ∷ decimal control ∷ copied d msh 11 ∷ bytes "2.5.1" ∷ [] ∷ [] ∷ bytes "NE" ∷ bytes "NE" ∷ [] ∷ [] ∷ [] ∷ [] ∷ own d (bytes "Z23^CDCPHINVS") ∷ [])

-- ---- MSA
-- the second letter of MSA-1: AR if a header code is among the findings, else AE if an E or W is, else AA
abbrev pub letter : (header fault : Bool) → ℕ
letter header fault = cond header (code "R") (cond fault (code "E") (code "A"))

abbrev pub verdict : List Finding → ℕ
verdict findings = letter (has is_header findings) (has is_fault findings)

-- MSA-1, and the whole MSH-10 of the message
unfoldable pub msa_line : Delims → (msh : List ℕ) → ℕ → List ℕ
msa_line d msh second = joined d.bar (bytes "MSA" ∷ (code "A" ∷ second ∷ []) ∷ copied d msh 10 ∷ [])

-- ---- ERR
-- ERR-2: name, number among the segments of that name, field, repetition, and component if not 0; an order finding has the first two, the end's none
unfoldable pub component_parts : ℕ → List (List ℕ)
component_parts component = cond (eqb component 0) [] (decimal component ∷ [])

unfoldable pub value_parts : Finding → List (List ℕ)
value_parts f = cond (eqb f.field 0) [] (decimal f.field ∷ decimal f.repetition ∷ component_parts f.component)

unfoldable pub place_parts : Finding → List (List ℕ)
place_parts f = cond (eqb f.name the_end) [] (name_bytes f.name ∷ decimal f.ordinal ∷ value_parts f)

-- ERR-3: the error code, its text and the table's number
unfoldable pub code_text : ℕ → List ℕ
code_text n =
    cond (eqb n 100) (bytes "100^Segment sequence error^HL70357")
    (cond (eqb n 101) (bytes "101^Required field missing^HL70357")
    (cond (eqb n 102) (bytes "102^Data type error^HL70357")
    (cond (eqb n 103) (bytes "103^Table value not found^HL70357")
    (cond (eqb n 200) (bytes "200^Unsupported message type^HL70357")
    (cond (eqb n 201) (bytes "201^Unsupported event code^HL70357")
    (cond (eqb n 202) (bytes "202^Unsupported processing id^HL70357")
    (cond (eqb n 203) (bytes "203^Unsupported version id^HL70357") [])))))))

-- ERR-1 is empty, ERR-4 the severity, ERR-5 the rule's number
unfoldable pub err_line : Delims → Finding → List ℕ
err_line d f =
    joined d.bar (
    bytes "ERR" ∷ [] ∷ joined d.caret (place_parts f) ∷ own d (code_text f.code) ∷ (f.severity ∷ []) ∷ (decimal f.rule ++ own d (bytes "^^L")) ∷ [])

-- ---- the ACK
-- a segment runs to its CR
abbrev pub ended : List ℕ → List ℕ
ended line = line ++ (carriage_return ∷ [])

-- MSH, MSA, and one ERR for each finding; `msh` is the MSH of the message that is answered
abbrev pub ack_lines : Delims → (msh stamp : List ℕ) → ℕ → List Finding → List (List ℕ)
ack_lines d msh stamp control findings = msh_line d msh stamp control ∷ msa_line d msh (verdict findings) ∷ map (err_line d) findings

unfoldable pub ack_bytes : Delims → (msh stamp : List ℕ) → ℕ → List Finding → List ℕ
ack_bytes d msh stamp control findings = flat_map ended (ack_lines d msh stamp control findings)
