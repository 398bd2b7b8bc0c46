-- To be believed. The text that a program prints: for an answer, or for a bad line. Assumes nothing.
use Rattle.std.specs.Prelude.{ℕ, min, ◌≡◌, cond, List, ◌++◌, map, eqb, length, take, drop}
use Rattle.hl7.specs.Text.{bytes}
use Rattle.hl7.specs.Refusals.{Told}
use Rattle.ack.specs.Decimal.{decimal}
use Rattle.ack.specs.Splice.{splice}

-- a line feed for each CR
abbrev pub line_feed : ℕ → ℕ
line_feed x = cond (eqb x 13) 10 x

unfoldable pub line_feeds : List ℕ → List ℕ
line_feeds ack = map line_feed ack

-- `refused`, number and detail with a space between them and a line feed after
unfoldable pub refusal : ℕ → ℕ → List ℕ
refusal number detail = bytes "refused " ++ (decimal number ++ (bytes " " ++ (decimal detail ++ bytes "\n")))

-- a bad line prints `bad line` and a line feed
abbrev pub bad_text : List ℕ
bad_text = bytes "bad line\n"

-- the longest of them has two numbers of twenty digits
abbrev pub refusal_room : ℕ
refusal_room = 50

-- ---- in the output that was lent
-- with number 0 its first bytes are turned in place, and the rest is as it was; a refusal is written over its first bytes, as far as there is room
unfoldable pub printed_in : Told → List ℕ → List ℕ
printed_in t out = cond (eqb t.number 0) (line_feeds (take t.detail out) ++ drop t.detail out) (splice out 0 (refusal t.number t.detail))

-- how long the text is
unfoldable pub printed_length : Told → List ℕ → ℕ
printed_length t out = cond (eqb t.number 0) (min t.detail (length out)) (length (refusal t.number t.detail))

-- printing made `before` into `after`, the text ending at r
pub record Printed (t : Told) (before after : List ℕ) (r : ℕ) : Type 0 where
  pub holds : after ≡ printed_in t before
  pub ends : r ≡ printed_length t before

-- ---- what is printed
-- number 0 prints the ACK, the first bytes of the output, with a line feed for each CR; any other number is a refusal
unfoldable pub shown : Told → List ℕ → List ℕ
shown t out = cond (eqb t.number 0) (line_feeds (take t.detail out)) (refusal t.number t.detail)
