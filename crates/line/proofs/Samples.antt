-- Lines of input and what they say: computed from the definitions. Assumes nothing.
use Prim.Native.String.{String}
use mathlib.Core.Path.{◌≡◌, refl}
use mathlib.Core.List.{List, [], ◌∷◌, map}
use Rattle.hl7.specs.Bytes.{all}
use Rattle.hl7.specs.Number.{value_after}
use Rattle.hl7.specs.Cut.{ahead, cut}
use Rattle.hl7.specs.Text.{bytes}
use Rattle.line.specs.Line.{line_of, occurs, before_last, after_last, is_control, Said, bad_line, good_line, said}

-- an input and what its line says
record Sample : Type 0 where
  input : String
  says : Said

row : String → Said → Sample
row input says = record { input = input; says = says }

samples : List Sample
samples =
    row "20250113120000+0000 7\n" (good_line (bytes "20250113120000+0000") 7)
    ∷ row "S 7" (good_line (bytes "S") 7)
    ∷ row "S  7\n7 8 9" (good_line (bytes "S ") 7)
    ∷ row "A B C 10\n" (good_line (bytes "A B C") 10)
    ∷ row " 0\n" (good_line [] 0)
    ∷ row "S 00004294967295\n" (good_line (bytes "S") 4294967295)
    ∷ row "S 4294967296\n" bad_line
    ∷ row "S 18446744073709551623\n" bad_line
    ∷ row "S \n" bad_line
    ∷ row "S 7\r\n" bad_line
    ∷ row "S 7\t\n" bad_line
    ∷ row "S +7\n" bad_line
    ∷ row "S -7\n" bad_line
    ∷ row "S 7.\n" bad_line
    ∷ row "S7\n" bad_line
    ∷ row "\nS 7" bad_line
    ∷ row "" bad_line
    ∷ []

samples_hold : map (λ (s : Sample). said (line_of (bytes s.input))) samples ≡ map (λ (s : Sample). s.says) samples
unfolding samples row said is_control occurs before_last after_last value_after all cut ahead
samples_hold = refl
