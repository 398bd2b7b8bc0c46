-- Inner: only contracts inside the crates use these names; nothing here has to be believed.
-- Where the parts of a segment begin, noted once so that its fields are looked up without cutting again. Assumes nothing.
use Rattle.std.specs.Prelude.{ℕ, ◌+◌, ◌-◌, ◌≤◌, ◌<◌, min, ◌≡◌, Bool, true, List, length, get_or}
use Rattle.hl7.specs.declared.place.Delims.{Delims}
use Rattle.hl7.specs.declared.place.FieldAt.{FieldAt}
use Rattle.hl7.specs.declared.place.FieldAt.TheVariants.{Missing, Bar, Part}
use Rattle.hl7.specs.Cut.{cut, piece_at, missing}
use Rattle.hl7.specs.Place.{is_msh, part_of_field}
use Rattle.hl7.specs.Spans.{Spans}

-- starts says where the first `count` parts of s cut at d begin, and after them where one more would; room for more is left only where there are none
pub record Noted (d : ℕ) (s starts : List ℕ) (count : ℕ) : Type 0 where
  pub ahead : (k : ℕ) → k < count → 1 ≤ get_or starts (k + 1) 0
  pub here : (k : ℕ) → k < count → Spans s (piece_at (cut d s) k) (record { start = get_or starts k 0; end = get_or starts (k + 1) 0 - 1 })
  pub rest : (k : ℕ) → count ≤ k → k + 1 < length starts → piece_at (cut d s) k ≡ missing s

-- `after` is what noting the parts of s makes of `before`: as many parts as there are, or as there is room for beside an end; what stands past that is as
-- it was
pub record Notes (d : ℕ) (s before after : List ℕ) (count : ℕ) : Type 0 where
  pub noted : Noted d s after count
  pub exact : count ≡ min (length (cut d s)) (length before - 1)
  pub first : get_or after 0 0 ≡ 0
  pub kept : (k : ℕ) → count < k → get_or after k 0 ≡ get_or before k 0
  pub same : length after ≡ length before

-- the parts of MSH are noted, with room for field 12
pub record MshNoted (d : Delims) (msh starts : List ℕ) (count : ℕ) : Type 0 where
  pub named : is_msh msh ≡ true
  pub noted : Noted d.bar msh starts count
  pub room : 13 < length starts

-- r says which part field f is, of MSH or of another segment
abbrev pub FieldIs : Bool → ℕ → FieldAt → Type 0
FieldIs msh f Missing = f ≡ 0
FieldIs msh f Bar = (msh ≡ true) × (f ≡ 1)
FieldIs msh f (Part k) = ((bar : ℕ) (seg : List ℕ) → part_of_field msh bar seg f ≡ piece_at (cut bar seg) k) × (k ≤ f)
