-- To be believed. What a call from another language answers: one number that holds a number and one or two details, or a start and a length. Assumes nothing.
use Rattle.std.specs.Prelude.{ℕ, ◌+◌, ◌-◌, ◌*◌, length}
use Rattle.hl7.specs.Cut.{Piece}
use Rattle.hl7.specs.Refusals.{Told}
use Rattle.hl7.specs.declared.cut.Span.{Span}
use Rattle.booktext.specs.Faults.{Told as BookTold}

-- the number in the low byte, the detail above
abbrev pub packed : Told → ℕ
packed t = t.detail * 256 + t.number

-- the length in the low two bytes, the start above
abbrev pub packed_place : Piece → ℕ
packed_place p = p.start * 65536 + length p.bytes

-- the same of a span of the code
abbrev pub packed_span : Span → ℕ
packed_span s = s.start * 65536 + (s.end - s.start)

-- of a text or a book: the number in the low byte, the detail above, and above four bytes of it the section's line
abbrev pub packed_told : BookTold → ℕ
packed_told t = t.section * 1099511627776 + t.detail * 256 + t.number
