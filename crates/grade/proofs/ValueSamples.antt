-- Samples of values on both sides, as one table under one statement, which antt computes. Assumes nothing.
use mathlib.Core.Path.{◌≡◌, refl}
use mathlib.Core.Bool.{Bool, true, not, ◌&&◌}
use mathlib.Core.List.{List, [], ◌∷◌}
use Prim.Native.Nat.{ℕ}
use Prim.Native.String.{String}
use Rattle.hl7.specs.Text.{bytes}
use Rattle.grade.specs.Digits.{count_within, digit_run}
use Rattle.grade.specs.Calendar.{month_length, is_real_date}
use Rattle.grade.specs.Values.{has_length, is_unsigned, is_number, is_date, is_year_and_pairs, is_zone, is_zone_or_none, is_fraction, is_time, is_stamp}

-- what a value is asked to be
pub data Asked : Type 0 where
  LENGTH : ℕ → ℕ → Asked
  NUMBER DATE STAMP : Asked
  TIME : ℕ → Asked

unfoldable pub meets : Asked → List ℕ → Bool
meets (LENGTH low high) v = has_length low high v
meets NUMBER v = is_number v
meets DATE v = is_date v
meets STAMP v = is_stamp v
meets (TIME low) v = is_time low v

pub data Sample : Type 0 where
  takes breaks : Asked → String → Sample

unfoldable pub holds : Sample → Bool
holds (takes asked text) = meets asked (bytes text)
holds (breaks asked text) = not (meets asked (bytes text))

unfoldable pub all_hold : List Sample → Bool
all_hold [] = true
all_hold (sample ∷ samples) = holds sample && all_hold samples

unfoldable pub samples : List Sample
samples =
    takes DATE "20240229"
    ∷ takes DATE "20000229"
    ∷ breaks DATE "20230229"
    ∷ breaks DATE "19000229"
    ∷ breaks DATE "00000101"
    ∷ takes DATE "00010101"
    ∷ takes DATE "99991231"
    ∷ takes DATE "20240131"
    ∷ takes DATE "20240430"
    ∷ breaks DATE "20240431"
    ∷ breaks DATE "20240132"
    ∷ breaks DATE "20240001"
    ∷ breaks DATE "20241301"
    ∷ breaks DATE "20240100"
    ∷ breaks DATE "2024022"
    ∷ breaks DATE "202402291200"
    ∷ breaks DATE "2024022 "
    ∷ breaks DATE "2024O229"
    ∷ breaks DATE ""
    ∷ takes NUMBER ".5"
    ∷ takes NUMBER "5."
    ∷ breaks NUMBER "+"
    ∷ breaks NUMBER "1.2.3"
    ∷ takes NUMBER "+.5"
    ∷ takes NUMBER "-5."
    ∷ takes NUMBER "007"
    ∷ breaks NUMBER "."
    ∷ breaks NUMBER "+."
    ∷ breaks NUMBER " 5"
    ∷ breaks NUMBER "5 "
    ∷ breaks NUMBER "1e5"
    ∷ breaks NUMBER "1,5"
    ∷ breaks NUMBER "--5"
    ∷ breaks NUMBER "5-"
    ∷ breaks NUMBER ""
    ∷ takes (TIME 8) "20240229120000.1234-0500"
    ∷ breaks (TIME 8) "2024022"
    ∷ breaks (TIME 8) "202402291260"
    ∷ breaks (TIME 8) "20240229.1"
    ∷ breaks (TIME 8) "20240229+2400"
    ∷ takes (TIME 8) "20240229+2359"
    ∷ breaks (TIME 8) "20240229+2360"
    ∷ breaks (TIME 8) "20240229+000"
    ∷ breaks (TIME 8) "20240229+00000"
    ∷ breaks (TIME 8) "202402"
    ∷ breaks (TIME 8) "202402+0000"
    ∷ takes (TIME 4) "2024"
    ∷ takes (TIME 4) "2024+0000"
    ∷ takes (TIME 4) "202402"
    ∷ breaks (TIME 4) "202413"
    ∷ breaks (TIME 4) "202400"
    ∷ breaks (TIME 4) "20230229"
    ∷ breaks (TIME 4) "0000"
    ∷ breaks (TIME 4) "202"
    ∷ breaks (TIME 4) "20240"
    ∷ breaks (TIME 4) "+0000"
    ∷ breaks (TIME 4) ""
    ∷ takes (TIME 4) "2024022923"
    ∷ breaks (TIME 4) "2024022924"
    ∷ takes (TIME 4) "20240229235959"
    ∷ breaks (TIME 4) "20240229235960"
    ∷ takes (TIME 14) "20240229120000.1"
    ∷ breaks (TIME 14) "20240229120000."
    ∷ breaks (TIME 14) "20240229120000.12345"
    ∷ breaks (TIME 14) "202402291200.1"
    ∷ breaks (TIME 4) "2024022912000000"
    ∷ breaks (TIME 4) "20240229Z"
    ∷ breaks (TIME 4) "20240229120000-0500.1"
    ∷ takes (LENGTH 1 36) "123456789012345678901234567890123456"
    ∷ breaks (LENGTH 1 36) "1234567890123456789012345678901234567"
    ∷ takes (LENGTH 2 2) "^&"
    ∷ breaks (LENGTH 2 2) "^"
    ∷ takes STAMP "20250113120000+0000"
    ∷ takes STAMP "20250113120000-0000"
    ∷ takes STAMP "20250113235959-2359"
    ∷ breaks STAMP "20250113120000+2400"
    ∷ breaks STAMP "20250113120000+0060"
    ∷ breaks STAMP "20250113120060+0000"
    ∷ breaks STAMP "00000113120000+0000"
    ∷ breaks STAMP "20250113120000"
    ∷ breaks STAMP "20250113120000.0000"
    ∷ breaks STAMP "2025011312000000000"
    ∷ breaks STAMP "202501131200+000000"
    ∷ breaks STAMP "20250113120000+0000 "
    ∷ breaks STAMP ""
    ∷ []

pub samples_hold : all_hold samples ≡ true
unfolding count_within digit_run month_length is_real_date is_unsigned is_number is_date is_year_and_pairs is_zone is_zone_or_none is_fraction is_time is_stamp meets holds all_hold samples
samples_hold = refl
