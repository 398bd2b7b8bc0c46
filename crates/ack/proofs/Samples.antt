-- The worked example of 01, a refused header and the two short forms of ERR-2, as the definitions give them; the same by other delimiters. Assumes nothing.
use Prim.Native.Nat.{ℕ}
use Prim.Native.Char.{code}
use mathlib.Core.Path.{◌≡◌, refl}
use mathlib.Core.List.{List, [], ◌∷◌, map, flat_map}
use Rattle.hl7.specs.Text.{bytes}
use Rattle.hl7.specs.Bytes.{same, begins}
use Rattle.hl7.specs.Cut.{cut, ahead, start_at}
use Rattle.hl7.specs.Place.{delims_of, nth_of, cut_unless, part_of_field, never_cut, component_of, in_field, in_segment}
use Rattle.grade.specs.Rule.{the_end, pid, orc, segment_names, name_bytes}
use Rattle.grade.specs.Header.{msh_at, is_processing_id, header_of, header_findings}
use Rattle.grade.specs.declared.finding.Finding.{Finding}
use Rattle.ack.specs.Decimal.{decimal, last_digits}
use Rattle.grade.specs.Deciding.{has}
use Rattle.ack.specs.Layout.{own_byte, marked, joined, copied, msh_line, msa_line, component_parts, value_parts, place_parts, code_text, err_line, ack_bytes}

birth : Finding
birth = record { name = pid; ordinal = 1; field = 7; repetition = 1; component = 1; rule = 1; code = 102; severity = code "E" }

sex : Finding
sex = record { name = pid; ordinal = 1; field = 8; repetition = 1; component = 0; rule = 3; code = 101; severity = code "W" }

order : Finding
order = record { name = orc; ordinal = 2; field = 0; repetition = 0; component = 0; rule = 0; code = 100; severity = code "E" }

end : Finding
end = record { name = the_end; ordinal = 0; field = 0; repetition = 0; component = 0; rule = 0; code = 100; severity = code "E" }

msh : List ℕ
msh = bytes "MSH|^~\\&|CAB|C1|REG|AX|20250113115900+0000||VXU^V04^VXU_V04|M1|P|2.5.1"

-- its header is refused in all four points
other : List ℕ
other = bytes "MSH|^~\\&|CAB|C1|REG|AX|20250113115900+0000||ADT^A01|M1|X|2.3"

refused : ack_bytes (delims_of other) other (bytes "20250113120000+0000") 7 (header_findings (header_of (delims_of other) other))
    ≡ bytes "MSH|^~\\&|REG|AX|CAB|C1|20250113120000+0000||ACK^V04^ACK|7|X|2.5.1|||NE|NE|||||Z23^CDCPHINVS\rMSA|AR|M1\rERR||MSH^1^9^1^1|200^Unsupported message type^HL70357|E|0^^L\rERR||MSH^1^9^1^2|201^Unsupported event code^HL70357|E|0^^L\rERR||MSH^1^11^1^1|202^Unsupported processing id^HL70357|E|0^^L\rERR||MSH^1^12^1^1|203^Unsupported version id^HL70357|E|0^^L\r"
unfolding ack_bytes copied msh_line msa_line err_line place_parts value_parts component_parts code_text has joined marked own_byte decimal last_digits name_bytes segment_names flat_map other part_of_field begins cut ahead start_at delims_of header_findings header_of msh_at is_processing_id in_segment in_field component_of never_cut nth_of cut_unless same
refused = refl

-- a caret is a plain byte here, and is copied as it stands
exchanged : List ℕ
exchanged = bytes "MSH!#$%'!CAB!C^1!REG!AX!20250113115900+0000!!VXU#V04#VXU_V04!M1!P!2.5.1"

by-others : ack_bytes (delims_of exchanged) exchanged (bytes "20250113120000+0000") 7 (birth ∷ sex ∷ order ∷ end ∷ [])
    ≡ bytes "MSH!#$%'!REG!AX!CAB!C^1!20250113120000+0000!!ACK#V04#ACK!7!P!2.5.1!!!NE!NE!!!!!Z23#CDCPHINVS\rMSA!AE!M1\rERR!!PID#1#7#1#1!102#Data type error#HL70357!E!1##L\rERR!!PID#1#8#1!101#Required field missing#HL70357!W!3##L\rERR!!ORC#2!100#Segment sequence error#HL70357!E!0##L\rERR!!!100#Segment sequence error#HL70357!E!0##L\r"
unfolding ack_bytes copied msh_line msa_line err_line place_parts value_parts component_parts code_text has joined marked own_byte decimal last_digits name_bytes segment_names flat_map birth sex order end exchanged part_of_field begins cut ahead start_at delims_of
by-others = refl

samples :
    ack_bytes (delims_of msh) msh (bytes "20250113120000+0000") 7 (birth ∷ sex ∷ []) ∷ err_line (delims_of msh) order ∷ err_line (delims_of msh) end ∷ decimal 0 ∷ decimal 4294967295 ∷ decimal 18446744073709551615 ∷ []
    ≡ map bytes (
    "MSH|^~\\&|REG|AX|CAB|C1|20250113120000+0000||ACK^V04^ACK|7|P|2.5.1|||NE|NE|||||Z23^CDCPHINVS\rMSA|AE|M1\rERR||PID^1^7^1^1|102^Data type error^HL70357|E|1^^L\rERR||PID^1^8^1|101^Required field missing^HL70357|W|3^^L\r"
    ∷ "ERR||ORC^2|100^Segment sequence error^HL70357|E|0^^L"
    ∷ "ERR|||100^Segment sequence error^HL70357|E|0^^L"
    ∷ "0"
    ∷ "4294967295"
    ∷ "18446744073709551615"
    ∷ [])
unfolding ack_bytes copied msh_line msa_line err_line place_parts value_parts component_parts code_text has joined marked own_byte decimal last_digits name_bytes segment_names flat_map birth sex order end msh part_of_field begins cut ahead start_at delims_of
samples = refl
