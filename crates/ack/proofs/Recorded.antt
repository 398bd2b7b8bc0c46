-- Writing from records, in the words of the code: what they weigh, and the ways out. Assumes nothing.
use Prim.Native.Nat.{ℕ, ◌+◌, ◌^◌, ◌≤◌, ◌<◌, min}
use mathlib.Core.Path.{◌≡◌, refl, sym, ap, ◌∙◌}
use mathlib.Core.Bool.{Bool, true, false, cond, not, ◌&&◌, ◌||◌, or-false, or_assoc}
use mathlib.Core.List.{List, [], ◌∷◌, ◌++◌, flat_map}
use native.Mathlib.Omega.{arith}
use lib.Dec.{ltb}
use lib.ListN.{length, take, drop, length-append, length-take}
use borrow.Author.Tests.{eq-eqb, ne_eqb, lt-ltb, le-ltb}
use Rattle.hl7.specs.Place.{delims_of}
use Rattle.hl7.specs.Refusals.{Told, told, first_row, passes}
use Rattle.hl7.specs.declared.place.Delims.{Delims}
use Rattle.grade.specs.Values.{is_stamp}
use Rattle.grade.specs.Header.{msh_of}
use Rattle.grade.specs.Admission.{six_rows, stamp_row, Answer, refusal_told}
use Rattle.grade.specs.Deciding.{has, is_header, is_fault}
use Rattle.grade.specs.Range.{in_range, all_in_range}
use Rattle.grade.specs.Sheet.{finding_limit}
use Rattle.std.specs.Prelude.{Err}
use Rattle.grade.specs.declared.finding.Finding.{Finding}
use Rattle.grade.specs.declared.refusal.Refusal.{Refusal}
use Rattle.grade.proofs.Telling.{refusal_some}
use Rattle.grade.proofs.Admitting.{six_apart}
use Rattle.ack.specs.Splice.{limit}
use Rattle.ack.specs.Layout.{letter, verdict, err_line, ended, ack_bytes}
use Rattle.ack.specs.Answers.{Outcome, outcome, by_rows, short_row, ack_of, Gives}
use Rattle.ack.specs.Records.{range_row, write_records, write_from}
use Rattle.ack.specs.Pieces.{errs, short_or}
use Rattle.ack.specs.Weights.{weightless, weighed_by, weigh_all}
use Rattle.ack.specs.declared.write.Weight.{Weight}
use Rattle.ack.proofs.Sizes.{err_alike, errs-short}
use Rattle.ack.proofs.Answering.{table-append}

-- ---- what records weigh
and_true : (b : Bool) → b ≡ (b && true)
and_true true = refl
and_true false = refl

and_assoc : (a b c : Bool) → ((a && b) && c) ≡ (a && (b && c))
and_assoc true b c = refl
and_assoc false b c = refl

weigh_sound : (w : Weight) (l : List Finding) → (weigh_all w l).sound ≡ (w.sound && all_in_range l)
unfolding weigh_all all_in_range
weigh_sound w [] = and_true w.sound
weigh_sound w (f ∷ l) = weigh_sound (weighed_by w f) l ∙ and_assoc w.sound (in_range f) (all_in_range l)

-- a flag that each record may raise
module _ (flag : Weight → Bool) (test : Finding → Bool) (raises : (w : Weight) (f : Finding) → flag (weighed_by w f) ≡ (flag w || test f)) where
  weigh_has : (w : Weight) (l : List Finding) → flag (weigh_all w l) ≡ (flag w || has test l)
  unfolding weigh_all has
  weigh_has w [] = sym (or-false (flag w))
  weigh_has w (f ∷ l) = weigh_has (weighed_by w f) l ∙ ap (λ (b : Bool). b || has test l) (raises w f) ∙ or_assoc (flag w) (test f) (has test l)

weigh_length : (d : Delims) (w : Weight) (l : List Finding) → w.length ≤ limit → (weigh_all w l).length ≡ min (w.length + length (errs d l)) limit
unfolding weigh_all errs flat_map
weigh_length d w [] h = omega arith
weigh_length d w (f ∷ l) h =
    omega (arith, weigh_length d (weighed_by w f) l (omega arith), err_alike (delims_of []) d f, length-append (ended (err_line d f)) (errs d l))

module _ (records : List Finding) where
  abbrev weight : Weight
  weight = weigh_all weightless records

  pub weighs_sound : weight.sound ≡ all_in_range records
  weighs_sound = weigh_sound weightless records

  pub weighs_letter : letter weight.header weight.fault ≡ verdict records
  weighs_letter =
      rw (weigh_has (λ (w : Weight). w.header) is_header (λ w f. refl) weightless records, weigh_has (λ (w : Weight). w.fault) is_fault (λ w f. refl) weightless records) refl

  pub weighs_length : (d : Delims) → length records ≤ finding_limit → weight.length ≡ length (errs d records)
  weighs_length d few = omega (arith, weigh_length d weightless records (omega arith), errs-short d records)

-- ---- the ways out, rows 1 to 6 first
module _ (m : List ℕ) (over : Bool) (records : List Finding) (stamp : List ℕ) (control : ℕ) (out : List ℕ) where
  abbrev ack : List ℕ
  ack = ack_of m records stamp control

  abbrev written-by : Outcome
  written-by = write_records m over records stamp control out

  by_six : written-by ≡ cond (passes (six_rows m)) (by_rows (range_row over records ∷ stamp_row stamp ∷ short_row ack out ∷ []) ack out) (outcome (first_row (six_rows m)) out)
  by_six = table-append (six_rows m) (six_apart m) ack out (range_row over records ∷ stamp_row stamp ∷ short_row ack out ∷ [])

  pub records_refused : ((first_row (six_rows m)).number ≡ 0 → ⊥) → written-by ≡ outcome (first_row (six_rows m)) out
  records_refused some = by_six ∙ rw (ne_eqb _ 0 some)

  module _ (none : (first_row (six_rows m)).number ≡ 0) where
    pub records_wrong : (over || not (all_in_range records)) ≡ true → written-by ≡ outcome (told 13 0) out
    unfolding first_row
    records_wrong e = by_six ∙ rw (eq-eqb _ 0 none, e) refl

    module _ (right : (over || not (all_in_range records)) ≡ false) where
      pub records_unstamped : is_stamp stamp ≡ false → written-by ≡ outcome (told 10 0) out
      unfolding first_row
      records_unstamped e = by_six ∙ rw (eq-eqb _ 0 none, right, e) refl

      pub records_right : is_stamp stamp ≡ true → written-by ≡ short_or ack out
      unfolding first_row
      records_right e = by_six ∙ rw (eq-eqb _ 0 none, right, e) refl

-- ---- row 11 by lengths
module _ (ack out : List ℕ) where
  pub short-told : length out < length ack → (short_or ack out).told ≡ told 11 (length ack)
  unfolding first_row
  short-told less = rw (lt-ltb (length out) (length ack) less) refl

  pub fits_told : length ack ≤ length out → short_or ack out ≡ outcome (told 0 (length ack)) (ack ++ drop (length ack) out)
  unfolding first_row
  fits_told room = rw (le-ltb (length out) (length ack) room) refl

-- the records that a count names are as many as it says, or the table has fewer
pub counted-few : (count : ℕ) (table : List Finding) → count < 2 ^ 32 → length (take count table) ≤ finding_limit
counted-few count table few = omega (arith, length-take count table)

-- ---- what the code does
module _ (m : List ℕ) (records : List Finding) (stamp : List ℕ) (control : ℕ) (out : List ℕ) {d : Delims} {msh : List ℕ} (own : d ≡ delims_of m) (first : msh ≡ msh_of m) where
  -- what was written by the message's own delimiters and MSH is the ACK to it
  pub own_ack : {o : Outcome} → o ≡ short_or (ack_bytes d msh stamp control records) out → o ≡ short_or (ack_of m records stamp control) out
  own_ack w = rw (own, first) at w

module _ (m : List ℕ) (table : List Finding) (count : ℕ) (stamp : List ℕ) (control : ℕ) (out : List ℕ) where
  abbrev counted : List Finding
  counted = take count table

  abbrev overs : Bool
  overs = ltb (length table) count

  abbrev given : Outcome
  given = write_from m table count stamp control out

  pub write_refused : (a : Refusal) → refusal_told a ≡ first_row (six_rows m) → Gives (Err a) out given
  unfolding write_from
  write_refused a is =
      ap (λ (t : Told). outcome t out) is ∙ sym (records_refused m overs counted stamp control out (λ none. refusal_some a (ap (λ (t : Told). t.number) is ∙ none)))

  module _ (six : told 0 0 ≡ first_row (six_rows m)) where
    none : (first_row (six_rows m)).number ≡ 0
    none = sym (ap (λ (t : Told). t.number) six)

    pub write_over : length table < count → Gives (Err Refusal.WrongRecord) out given
    unfolding write_from
    write_over less =
        let wrong : (overs || not (all_in_range counted)) ≡ true = rw (lt-ltb (length table) count less) refl in
        sym (records_wrong m overs counted stamp control out none wrong)

    module _ (room : count ≤ length table) {w : Weight} (weighs : w ≡ weigh_all weightless counted) where
      bad_is : (overs || not (all_in_range counted)) ≡ not w.sound
      bad_is = rw (le-ltb (length table) count room) (ap not (sym (ap (λ (x : Weight). x.sound) weighs ∙ weighs_sound counted)))

      pub write_unsound : w.sound ≡ false → Gives (Err Refusal.WrongRecord) out given
      unfolding write_from
      write_unsound e = sym (records_wrong m overs counted stamp control out none (bad_is ∙ ap not e))

      module _ (sound : w.sound ≡ true) where
        right : (overs || not (all_in_range counted)) ≡ false
        right = bad_is ∙ ap not sound

        pub write_unstamped : is_stamp stamp ≡ false → Gives (Err Refusal.WrongStamp) out given
        unfolding write_from
        write_unstamped e = sym (records_unstamped m overs counted stamp control out none right e)

        pub write_sound : (a : Answer) {after : List ℕ} → is_stamp stamp ≡ true → Gives a after (short_or (ack_of m counted stamp control) out) → Gives a after given
        unfolding write_from
        write_sound a e w = w ∙ sym (records_right m overs counted stamp control out none right e)
