-- To be believed. Segments, fields, repetitions and components of a message (HL7 2.5.1 chapter 2): what each holds, and where it stands. Assumes nothing.
use Rattle.std.specs.Prelude.{ℕ, zero, suc, ◌+◌, ◌≡◌, Bool, true, false, ◌&&◌, List, [], ◌∷◌, get_or, take, drop, leb}
use Rattle.std.specs.Borrow.{Bor}
use Rattle.hl7.specs.declared.place.Delims.{Delims}
use Rattle.hl7.specs.Bytes.{begins}
use Rattle.hl7.specs.Cut.{cut, Piece, piece_at, missing, but_last}
use Rattle.hl7.specs.Text.{bytes}

-- ---- the delimiters
-- the five bytes that a message is cut by are its own: bytes 3 to 7, counted from 0. Each is named after the byte that usually stands there
unfoldable pub delims_of : List ℕ → Delims
delims_of m = record { bar = get_or m 3 0; caret = get_or m 4 0; tilde = get_or m 5 0; backslash = get_or m 6 0; ampersand = get_or m 7 0 }

abbrev pub carriage_return : ℕ
carriage_return = 13

-- ---- segments
-- a segment runs to its CR
abbrev pub segments_of : List ℕ → List (List ℕ)
segments_of m = but_last (cut carriage_return m)

-- its name is MSH
abbrev pub is_msh : List ℕ → Bool
is_msh seg = begins (bytes "MSH") seg

-- ---- counting from 1
-- part k, from 1, of the parts of s; 0 is missing
unfoldable pub nth_of : List ℕ → List (List ℕ) → ℕ → Piece
nth_of s ps zero = missing s
nth_of s ps (suc k) = piece_at ps k

-- s cut at d, or in one part where it is never cut
unfoldable pub cut_unless : Bool → ℕ → List ℕ → List (List ℕ)
cut_unless true d s = s ∷ []
cut_unless false d s = cut d s

-- segment n of a message, without its CR
abbrev pub segment_of : List ℕ → ℕ → Piece
segment_of m n = nth_of m (cut_unless false carriage_return m) n

-- ---- fields
-- bars cut a segment into parts, and part 0 is its name. Field k is part k; of MSH it is part k - 1, since the bar itself is MSH-1
unfoldable pub part_of_field : Bool → ℕ → List ℕ → ℕ → Piece
part_of_field msh bar seg zero = missing seg
part_of_field true bar seg (suc zero) = record { start = 3; bytes = take 1 (drop 3 seg) }
part_of_field true bar seg (suc (suc k)) = piece_at (cut bar seg) (suc k)
part_of_field false bar seg (suc k) = piece_at (cut bar seg) (suc k)

abbrev pub field_of : Delims → List ℕ → ℕ → Piece
field_of d seg f = part_of_field (is_msh seg) d.bar seg f

-- MSH-1 and MSH-2 are never cut further
unfoldable pub never_cut : List ℕ → ℕ → Bool
never_cut seg f = leb f 2 && is_msh seg

-- ---- repetitions and components
-- tildes cut a field into repetitions
abbrev pub repetitions_in : Delims → Bool → List ℕ → List (List ℕ)
repetitions_in d whole fld = cut_unless whole d.tilde fld

abbrev pub repetition_of : Delims → Bool → List ℕ → ℕ → Piece
repetition_of d whole fld r = nth_of fld (repetitions_in d whole fld) r

-- carets cut a repetition into components; component 0 is the repetition
unfoldable pub component_of : Delims → Bool → List ℕ → ℕ → Piece
component_of d whole rep zero = record { start = 0; bytes = rep }
component_of d whole rep (suc c) = nth_of rep (cut_unless whole d.caret rep) (suc c)

-- ---- places
-- a piece of a piece
abbrev pub inside : Piece → (List ℕ → Piece) → Piece
inside p f = record { start = p.start + (f p.bytes).start; bytes = (f p.bytes).bytes }

-- repetition r, component c of a field
unfoldable pub in_field : Delims → Bool → List ℕ → ℕ → ℕ → Piece
in_field d whole fld r c = inside (repetition_of d whole fld r) (λ rep. component_of d whole rep c)

-- field f, repetition r, component c of a segment
unfoldable pub in_segment : Delims → List ℕ → ℕ → ℕ → ℕ → Piece
in_segment d seg f r c = inside (field_of d seg f) (λ fld. in_field d (never_cut seg f) fld r c)

-- segment n, field f, repetition r, component c of a message
unfoldable pub place : Delims → List ℕ → ℕ → ℕ → ℕ → ℕ → Piece
place d m n f r c = inside (segment_of m n) (λ seg. in_segment d seg f r c)

-- all repetitions of a field of a segment
unfoldable pub repetitions_of : Delims → List ℕ → ℕ → List (List ℕ)
repetitions_of d seg f = repetitions_in d (never_cut seg f) (field_of d seg f).bytes

-- ---- handing a part back
-- r is the piece p of the lent bytes s themselves: the same memory, and not a copy
pub record Lies (s r : Bor (List ℕ)) (p : Piece) : Type 0 where
  pub bytes : r.now ≡ p.bytes
  pub block : r.ref_ptr.0 ≡ s.ref_ptr.0
  pub offset : r.ref_ptr.1 ≡ s.ref_ptr.1 + p.start
