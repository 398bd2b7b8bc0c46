-- Inner: only contracts inside the crates use these names; nothing here has to be believed.
-- What a walk over a file answers: where a segment, a message and the messages end, and what is left from there on. Assumes nothing.
use Rattle.std.specs.Prelude.{ℕ, ◌-◌, ◌≤◌, ◌<◌, ◌≡◌, List, [], ◌∷◌, length, drop}
use Rattle.hl7.specs.Cut.{part_at}
use Rattle.hl7.specs.Spans.{between}
use Rattle.batchfile.specs.Messages.{lines_of, Gathered, gathered, from_frame}
use Rattle.batchfile.specs.Frame.{fhs_of, bhs_of, messages_in, trailer_of, bts_of, fts_of}
use Rattle.batchfile.specs.declared.frame.Body.{Body}
use Rattle.batchfile.specs.declared.frame.Frame.{Frame}

-- the segments from a position on
abbrev pub lines_at : List ℕ → ℕ → List (List ℕ)
lines_at f at = lines_of (drop at f)

-- what they hold
abbrev pub gathered_at : List ℕ → ℕ → Gathered
gathered_at f at = gathered (lines_at f at)

abbrev pub messages_at : List ℕ → ℕ → List (List ℕ)
messages_at f at = (gathered_at f at).messages

-- r is a position behind `at`, or `at` where the file has ended
pub record Onward (f : List ℕ) (at r : ℕ) : Type 0 where
  pub forward : at ≤ r
  pub further : at < length f → at < r
  pub within : at ≤ length f → r ≤ length f

-- the segment that begins at `at`, if any, ends at r
pub record LineEnds (f : List ℕ) (at r : ℕ) : Type 0 where
  pub onward : Onward f at r
  pub line : between f at r ≡ part_at (lines_at f at) 0
  pub others : lines_at f r ≡ drop 1 (lines_at f at)

-- the message that begins at `at`, if any, ends at r
pub record MessageEnds (f : List ℕ) (at r : ℕ) : Type 0 where
  pub onward : Onward f at r
  pub started : (gathered_at f r).before ≡ []
  pub others : (gathered_at f at).before ≡ [] → 0 < length (gathered_at f at).messages → (gathered_at f at).messages ≡ between f at r ∷ (gathered_at f r).messages

-- the messages that begin at `at` end at the next frame name
pub record BodyEnds (f : List ℕ) (at : ℕ) (r : Body) : Type 0 where
  pub forward : at ≤ r.end
  pub within : at ≤ length f → r.end ≤ length f
  pub others : lines_at f r.end ≡ from_frame (lines_at f at)
  pub count : r.count ≡ length (gathered_at f at).messages
  pub few : r.count ≤ r.end - at

-- ---- the frame
-- r says where the parts of a file stand, and how many messages it has
pub record Framing (f : List ℕ) (r : Frame) : Type 0 where
  pub forward : (r.bhs ≤ r.start) × (r.start ≤ r.end) × (r.end ≤ r.fts) × (r.fts ≤ r.over) × (r.over ≤ length f)
  pub fhs : between f 0 r.bhs ≡ fhs_of f
  pub bhs : between f r.bhs r.start ≡ bhs_of f
  pub body : lines_at f r.start ≡ drop 2 (lines_of f)
  pub count : r.count ≡ length (messages_in f)
  pub few : r.count ≤ length f
  pub bts : between f r.end r.fts ≡ bts_of f
  pub fts : between f r.fts r.over ≡ fts_of f
  pub after : lines_at f r.over ≡ drop 2 (trailer_of f)
