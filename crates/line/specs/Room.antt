-- Inner: only contracts inside the crates use these names; nothing here has to be believed.
-- How much of a room is filled. Assumes nothing.
use Rattle.std.specs.Prelude.{ℕ, ◌≡◌, ◌≤◌, List, length, take}

-- the first n bytes of the room are all there
abbrev pub IsPrefixLen : ℕ → List ℕ → Type 0
IsPrefixLen n room = (n ≤ length room) × (n ≡ length (take n room))
