-- Batch files, as the definitions cut and judge them: one table under one statement. Assumes nothing.
use Prim.Native.Nat.{ℕ}
use Prim.Native.String.{String}
use mathlib.Core.Path.{◌≡◌, refl}
use mathlib.Core.Bool.{Bool, true, false, not, ◌&&◌}
use mathlib.Core.List.{List, [], ◌∷◌, ◌++◌}
use Rattle.hl7.specs.Text.{bytes}
use Rattle.hl7.specs.Bytes.{is_in, distinct, all, same, begins}
use Rattle.hl7.specs.Cut.{ahead, cut}
use Rattle.hl7.specs.Delimiters.{may_delimit, may_cut, opens}
use Rattle.hl7.specs.Number.{value_after}
use Rattle.hl7.specs.Place.{delims_of, nth_of, cut_unless, part_of_field}
use Rattle.hl7.specs.Refusals.{first_row, wrong_bytes, has_form, wrong_segments}
use Rattle.batchfile.specs.Messages.{in_front, lines_of, is_frame, gather, gathered, from_frame}
use Rattle.batchfile.specs.Frame.{messages_in, keeps_rows, is_framed, is_count, is_counted}
use Rattle.batchfile.specs.Batch.{is_wrong}

-- a file holds these messages and its control numbers, counted from one, fit; or it is refused by 14
data Sample : Type 0 where
  holds : List ℕ → ℕ → List String → Sample
  wrong : List ℕ → ℕ → Sample

are_texts : List (List ℕ) → List String → Bool
are_texts [] [] = true
are_texts [] (text ∷ texts) = false
are_texts (m ∷ ms) [] = false
are_texts (m ∷ ms) (text ∷ texts) = same m (bytes text) && are_texts ms texts

right : Sample → Bool
right (holds f control texts) = not (is_wrong f control) && are_texts (messages_in f) texts
right (wrong f control) = is_wrong f control

all_right : List Sample → Bool
all_right [] = true
all_right (s ∷ samples) = right s && all_right samples

-- the segments between FHS and BHS on one side and BTS and FTS on the other
framed : String → List ℕ
framed body = bytes "FHS|^~\\&|\rBHS|^~\\&|\r" ++ (bytes body ++ bytes "BTS\rFTS\r")

-- two messages between two heads and this end
ended : String → List ℕ
ended end = bytes "FHS|^~\\&|\rBHS\rMSH|A\rPID\rMSH|B\r" ++ bytes end

-- these heads, and no message
headed : String → List ℕ
headed heads = bytes heads ++ bytes "BTS\rFTS\r"

samples : List Sample
samples =
    -- a message begins at each MSH and runs to the next or to BTS
    holds (framed "") 0 []
    ∷ holds (framed "MSH|A\rPID|1\r") 0 ("MSH|A\rPID|1\r" ∷ [])
    ∷ holds (framed "MSH|A\rPID|1\rMSH|B\rMSH#\rZZZ\r") 0 ("MSH|A\rPID|1\r" ∷ "MSH|B\r" ∷ "MSH#\rZZZ\r" ∷ [])
    -- whatever stands behind an MSH is its message's, of any form; so is what only begins with MSH
    ∷ holds (framed "MSHX\r\r pid\r") 0 ("MSHX\r\r pid\r" ∷ [])
    -- before the first nothing may stand, not even an empty segment
    ∷ wrong (framed "PID\rMSH|A\r") 0
    ∷ wrong (framed "\rMSH|A\r") 0
    ∷ wrong (framed "PID\r") 0
    -- frame names elsewhere, told by three bytes
    ∷ wrong (framed "MSH|A\rBTSX\rPID\r") 0
    ∷ wrong (framed "MSH|A\rFHS\r") 0
    ∷ wrong (framed "BHS\rMSH|A\r") 0
    ∷ wrong (framed "MSH|A\rFTS|\r") 0
    -- the end: both, in this order, once, each with its CR, and nothing behind them
    ∷ wrong (ended "FTS\r") 0
    ∷ wrong (ended "BTS\r") 0
    ∷ wrong (ended "FTS\rBTS\r") 0
    ∷ wrong (ended "BTS\rBTS\rFTS\r") 0
    ∷ wrong (ended "BTS\rFTS") 0
    ∷ wrong (ended "BTS\rFTS\r\r") 0
    ∷ wrong (ended "BTS\rFTS\rFTS\r") 0
    ∷ wrong (ended "BTSX\rFTS\r") 0
    ∷ wrong (ended "BTS\rZZZ\rFTS\r") 0
    -- the heads; BHS has only to keep row 5 with the file's bar
    ∷ wrong [] 0
    ∷ wrong (bytes "\r") 0
    ∷ wrong (headed "BHS|^~\\&|\rFHS|^~\\&|\r") 0
    ∷ wrong (headed "FHS|^~\\&|\r") 0
    ∷ wrong (headed "FHS|^~\\&\rBHS\r") 0
    ∷ wrong (headed "FHS|^^\\&|\rBHS\r") 0
    ∷ wrong (headed "FHS|^~\\&|\rBHS#\r") 0
    ∷ wrong (headed "FHS|^~\\&|\t\rBHS\r") 0
    ∷ holds (headed "FHS|^~\\&|\rBHS|a\r") 0 []
    ∷ holds (headed "FHS#$%!*#\rBHS#|\r") 0 []
    -- the counts: whole fields, by their value
    ∷ holds (ended "BTS|2\rFTS|1\r") 0 ("MSH|A\rPID\r" ∷ "MSH|B\r" ∷ [])
    ∷ holds (ended "BTS|002|x\rFTS|01\r") 0 ("MSH|A\rPID\r" ∷ "MSH|B\r" ∷ [])
    ∷ holds (ended "BTS||2\rFTS|\r") 0 ("MSH|A\rPID\r" ∷ "MSH|B\r" ∷ [])
    ∷ wrong (ended "BTS|3\rFTS|1\r") 0
    ∷ wrong (ended "BTS|2\rFTS|2\r") 0
    ∷ wrong (ended "BTS|2^\rFTS\r") 0
    ∷ wrong (ended "BTS|2~\rFTS\r") 0
    ∷ wrong (ended "BTS| 2\rFTS\r") 0
    ∷ wrong (ended "BTS|+2\rFTS\r") 0
    ∷ wrong (ended "BTS|4294967298\rFTS\r") 0
    -- control numbers up to 4,294,967,295
    ∷ holds (ended "BTS\rFTS\r") 4294967294 ("MSH|A\rPID\r" ∷ "MSH|B\r" ∷ [])
    ∷ wrong (ended "BTS\rFTS\r") 4294967295
    ∷ holds (framed "MSH|A\r") 4294967295 ("MSH|A\r" ∷ [])
    ∷ holds (framed "") 4294967295 []
    ∷ []

samples_hold : all_right samples ≡ true
unfolding samples all_right right are_texts framed ended headed is_in distinct all same begins ahead cut may_delimit may_cut opens value_after delims_of nth_of cut_unless part_of_field first_row wrong_bytes has_form wrong_segments in_front lines_of is_frame gather gathered from_frame keeps_rows is_framed is_count is_counted is_wrong
samples_hold = refl
