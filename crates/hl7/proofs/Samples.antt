-- Places of messages and answers of refusals 1 to 5, as the definitions give them: one table under one statement; and which bytes may be delimiters. Assumes nothing.
use Prim.Native.Nat.{ℕ, zero, suc}
use Prim.Native.String.{String}
use mathlib.Core.Path.{◌≡◌, refl}
use mathlib.Core.Bool.{Bool, true, cond, ◌&&◌}
use mathlib.Core.List.{List, [], ◌∷◌, ◌++◌}
use lib.Dec.{eqb}
use Rattle.hl7.specs.Text.{bytes}
use Rattle.hl7.specs.Bytes.{is_in, distinct, all, same, begins}
use Rattle.hl7.specs.Cut.{ahead, cut, start_at, Piece}
use Rattle.hl7.specs.Place.{delims_of, nth_of, cut_unless, never_cut, part_of_field, component_of, in_field, in_segment, place}
use Rattle.hl7.specs.Delimiters.{may_delimit, may_cut, opens}
use Rattle.hl7.specs.Refusals.{Told, first_row, wrong_bytes, has_form, wrong_segments, form_rows, message_rows, is_sound, located}

-- a place (segment, field, repetition, component) of a message begins at a position and holds a text; a message gets a number and a detail
data Sample : Type 0 where
  at : List ℕ → ℕ → ℕ → ℕ → ℕ → ℕ → String → Sample
  answers : List ℕ → ℕ → ℕ → Sample

usual : List ℕ
usual = bytes "MSH|^~\\&|CAB|C1|REG|AX|20250113115900+0000||VXU^V04^VXU_V04|M1|P|2.5.1\rPID|1||77~78^X||ROE^ANN||20240230\rMSH|x~y^z|q\rMSH\r"

-- all five are others, and the usual ones are plain bytes
others : List ℕ
others = bytes "MSH!#$%'!CAB!C^1!REG!A|X#B!20250113115900+0000!!VXU#V04#VXU_V04!M1!P!2.5.1\rPID!1!!77$78#X~Y!!ROE#ANN^\rMSH!x$y#z!q\r"

is_piece : Piece → ℕ → String → Bool
is_piece p start text = eqb p.start start && same p.bytes (bytes text)

is_told : Told → ℕ → ℕ → Bool
is_told a number detail = eqb a.number number && eqb a.detail detail

right : Sample → Bool
right (at m n f r c start text) = is_piece (located m n f r c) start text
right (answers m number detail) = is_told (first_row (message_rows m)) number detail

all_right : List Sample → Bool
all_right [] = true
all_right (s ∷ samples) = right s && all_right samples

samples : List Sample
samples =
    -- MSH-1 is the bar itself, MSH-2 is never cut
    at usual 1 1 1 1 3 "|"
    ∷ at usual 1 2 1 0 4 "^~\\&"
    ∷ at usual 1 2 1 1 4 "^~\\&"
    ∷ at usual 1 2 2 1 8 ""
    ∷ at usual 1 3 1 1 9 "CAB"
    ∷ at usual 1 6 1 1 20 "AX"
    ∷ at usual 1 9 1 2 48 "V04"
    ∷ at usual 1 12 1 1 65 "2.5.1"
    -- repetitions, components; any 0 but a component's is missing, at the end of what it would be in
    ∷ at usual 2 0 1 1 104 ""
    ∷ at usual 2 3 1 0 78 "77"
    ∷ at usual 2 3 2 0 81 "78^X"
    ∷ at usual 2 3 2 2 84 "X"
    ∷ at usual 2 3 0 1 85 ""
    ∷ at usual 2 5 1 3 94 ""
    ∷ at usual 2 7 1 1 96 "20240230"
    ∷ at usual 2 8 1 1 104 ""
    -- a later MSH, and one that its CR follows
    ∷ at usual 3 1 1 1 108 "|"
    ∷ at usual 3 2 1 1 109 "x~y^z"
    ∷ at usual 3 3 1 1 115 "q"
    ∷ at usual 4 1 1 1 120 ""
    ∷ at usual 4 2 1 1 120 ""
    ∷ at usual 5 1 1 1 121 ""
    ∷ at usual 0 1 1 1 121 ""
    -- a place is read by the message's own delimiters
    ∷ at others 1 1 1 1 3 "!"
    ∷ at others 1 2 1 1 4 "#$%'"
    ∷ at others 1 4 1 1 13 "C^1"
    ∷ at others 1 6 1 1 21 "A|X"
    ∷ at others 1 6 1 2 25 "B"
    ∷ at others 1 9 1 2 52 "V04"
    ∷ at others 2 3 2 0 85 "78#X~Y"
    ∷ at others 2 3 2 2 88 "X~Y"
    ∷ at others 2 5 1 2 97 "ANN^"
    ∷ at others 3 2 1 1 106 "x$y#z"
    -- refusals
    ∷ answers usual 0 0
    ∷ answers [] 1 0
    ∷ answers (bytes "MSH|^~\\&|" ++ (9 ∷ [])) 3 9
    ∷ answers (127 ∷ []) 3 0
    ∷ answers (bytes "\r") 4 0
    ∷ answers (bytes "MSH||NDIIS") 4 0
    ∷ answers (bytes "MSH|^~\\&") 4 0
    -- five others, and each condition of row 4 broken alone
    ∷ answers others 0 0
    ∷ answers (bytes "MSH|#~\\&|\r") 0 0
    ∷ answers (bytes "MSH^|~\\&^\r") 0 0
    ∷ answers (bytes "MSI|^~\\&|\r") 4 0
    ∷ answers (bytes "MSH|^~\\&^\r") 4 0
    ∷ answers (bytes "MSH||~\\&|\r") 4 0
    ∷ answers (bytes "MSH|^|\\&|\r") 4 0
    ∷ answers (bytes "MSH|^~|&|\r") 4 0
    ∷ answers (bytes "MSH|^~\\||\r") 4 0
    ∷ answers (bytes "MSH|^^\\&|\r") 4 0
    ∷ answers (bytes "MSH|^~^&|\r") 4 0
    ∷ answers (bytes "MSH|^~\\^|\r") 4 0
    ∷ answers (bytes "MSH|^~~&|\r") 4 0
    ∷ answers (bytes "MSH|^~\\~|\r") 4 0
    ∷ answers (bytes "MSH|^~\\\\|\r") 4 0
    ∷ answers (bytes "MSH ^~\\& \r") 4 0
    ∷ answers (bytes "MSH|Z~\\&|\r") 4 0
    ∷ answers (bytes "MSH|^a\\&|\r") 4 0
    ∷ answers (bytes "MSH|^~0&|\r") 4 0
    ∷ answers (bytes "MSH|^~\\_|\r") 4 0
    ∷ answers (bytes "MSH|^~\r&|") 4 0
    -- row 5 asks for the message's own bar
    ∷ answers (bytes "MSH!#$%'!\rMSH|^~\\&|\r") 5 10
    ∷ answers (bytes "MSH!#$%'!\rMSH!^~\\&!\r") 0 0
    ∷ answers (bytes "MSH|^~\\&|") 5 0
    ∷ answers (bytes "MSH|^~\\&|\r\r") 5 10
    ∷ answers (bytes "MSH|^~\\&|\rPID|1\rpid|1\rPV1") 5 16
    ∷ answers (bytes "MSH|^~\\&|\rPID|1\rPV1") 5 16
    ∷ answers (bytes "MSH|^~\\&|\rPIDX\r") 5 10
    ∷ answers (bytes "MSH|^~\\&|\rZ9\r") 5 10
    ∷ answers (bytes "MSH|^~\\&|\rZ99\r") 0 0
    ∷ []

-- the bytes below n that may be delimiters
delimiters_below : ℕ → List ℕ
delimiters_below zero = []
delimiters_below (suc n) = cond (may_delimit n) (delimiters_below n ++ (n ∷ [])) (delimiters_below n)

delimiters_are : delimiters_below 256 ≡ bytes "!#$%&'()*,/:;<=>?@[\\]^`{|}~"
unfolding delimiters_below may_delimit is_in
delimiters_are = refl

samples_hold : all_right samples ≡ true
unfolding samples all_right right is_piece is_told usual others is_in distinct all same begins may_delimit may_cut opens ahead cut start_at delims_of nth_of cut_unless never_cut part_of_field component_of in_field in_segment place first_row wrong_bytes has_form wrong_segments form_rows message_rows is_sound located
samples_hold = refl
