-- Laws of `specs/Refusals.antt`: tables of rows, the loops that look for a wrong byte and a wrong segment, and what a sound message is.
-- Assumes nothing.
use mathlib.Core.Path.{◌≡◌, refl, sym, ap, subst, ◌∙◌}
use mathlib.Core.Bool.{Bool, true, false, cond, not, ◌&&◌, ◌||◌, and-false, true≢false}
use mathlib.Core.Logic.{◌↔◌, ◌⊎◌, inl, inr}
use mathlib.Core.List.{List, [], ◌∷◌, ◌++◌}
use Prim.Native.Nat.{ℕ, zero, suc, ◌+◌, ◌≤◌, ◌<◌}
use native.Mathlib.Numerals.{add-one}
use native.Mathlib.Omega.{arith}
use native.Mathlib.Decide.{dec_le}
use lib.Dec.{eqb}
use lib.ListN.{length, get_or, drop, length-drop, drop_of_length-le}
use borrow.Author.Tests.{eq-eqb, ne_eqb, lt-ltb, le-ltb, eqb-true, ltb-false, not-false}
use Rattle.std.specs.List.{position_from}
use Rattle.std.specs.Prelude.{Some, None, Result, Ok, Err, is_ok}
use Rattle.hl7.specs.declared.place.Delims.{Delims}
use Rattle.hl7.specs.declared.refusal.Unreadable.{Unreadable}
use Rattle.hl7.specs.declared.refusal.Unreadable.TheVariants.{Empty, TooLong, WrongByte, NoHeader, WrongSegment}
use Rattle.hl7.specs.Text.{bytes}
use Rattle.hl7.specs.Bytes.{is_in, distinct, all}
use Rattle.hl7.specs.Cut.{ahead, cut, part_at, end_from, but_last}
use Rattle.hl7.specs.Place.{delims_of, carriage_return, segments_of, segment_of, is_msh, nth_of, cut_unless, place}
use Rattle.hl7.specs.Delimiters.{opens}
use Rattle.hl7.specs.Spans.{between}
use Rattle.hl7.specs.Refusals.{Told, told, Row, row, row_at, first_row, passes, numbers_of, apart, holds_at, First, message_limit, allowed, wrong_bytes, has_form, wrong_segments, form_rows, message_rows, first_of, is_some, reading_told, reading_of, is_sound, located}
use Rattle.hl7.proofs.Comparing.{none_of, and_both, distinct_one}
use Rattle.hl7.proofs.Cutting.{first, first-at, first-begins, cut-some, parts_more, parts_last}
use Rattle.hl7.proofs.Delimiting.{Delimiting, opens-begins, opens_delimiting}
use Rattle.hl7.proofs.Walking.{ended_same}

-- ---- tables of rows
pub row-passed : (r : Row) (rows : List Row) → r.holds ≡ false → first_row (r ∷ rows) ≡ first_row rows
unfolding first_row
row-passed r rows e = rw e

pub row-taken : (r : Row) (rows : List Row) → r.holds ≡ true → first_row (r ∷ rows) ≡ r.tells
unfolding first_row
row-taken r rows e = rw e

-- the first row that holds answers
pub first-answers : (rows : List Row) (k : ℕ) → First rows k → first_row rows ≡ (get_or rows k (row 0 false)).tells
first-answers [] k f = absurd (omega (arith, f.within))
first-answers (r ∷ rows) zero f = row-taken r rows f.holds
first-answers (r ∷ rows) (suc k) f =
    row-passed r rows (f.none_before 0 (omega arith))
    ∙ first-answers rows k (record { within = omega (arith, f.within); holds = f.holds; none_before = λ i h. f.none_before (suc i) (omega arith) })

pub none_answers : (rows : List Row) → ((i : ℕ) → holds_at rows i ≡ false) → first_row rows ≡ told 0 0
unfolding first_row
none_answers [] none = refl
none_answers (r ∷ rows) none = row-passed r rows (none 0) ∙ none_answers rows (λ i. none (suc i))

-- one row is the first that holds, or none holds
pub first_or_none : (rows : List Row) → ((k : ℕ) × First rows k) ⊎ ((i : ℕ) → holds_at rows i ≡ false)
first_or_none [] = inr (λ i. refl)
first_or_none (r ∷ rows) = by r.holds refl (first_or_none rows)
  where
    later : r.holds ≡ false → (k : ℕ) → First rows k → First (r ∷ rows) (suc k)
    later t k f = record { within = omega (arith, f.within); holds = f.holds; none_before = before }
      where
        before : (i : ℕ) → i < suc k → holds_at (r ∷ rows) i ≡ false
        before zero h = t
        before (suc i) h = f.none_before i (omega arith)

    never : r.holds ≡ false → ((i : ℕ) → holds_at rows i ≡ false) → (i : ℕ) → holds_at (r ∷ rows) i ≡ false
    never t none zero = t
    never t none (suc i) = none i

    by : (b : Bool) → r.holds ≡ b → ((k : ℕ) × First rows k) ⊎ ((i : ℕ) → holds_at rows i ≡ false) → ((k : ℕ) × First (r ∷ rows) k) ⊎ ((i : ℕ) → holds_at (r ∷ rows) i ≡ false)
    by true t rest = inl (0, record { within = omega arith; holds = t; none_before = λ i h. absurd (omega arith) })
    by false t (inl found) = inl (suc found.0, later t found.0 found.1)
    by false t (inr none) = inr (never t none)

-- ---- numbers that are apart
apart_some : (l : List ℕ) (k : ℕ) → apart l ≡ true → k < length l → get_or l k 0 ≡ 0 → ⊥
apart_some l k e h z = omega (arith, distinct_one (0 ∷ l) 0 (suc k) e (omega arith) (omega arith) (sym z))

apart_one : (l : List ℕ) (j k : ℕ) → apart l ≡ true → j < length l → k < length l → get_or l j 0 ≡ get_or l k 0 → j ≡ k
apart_one l j k e h g same = omega (arith, distinct_one (0 ∷ l) (suc j) (suc k) e (omega arith) (omega arith) same)

apart-less : (n : ℕ) (l : List ℕ) → apart (n ∷ l) ≡ true → apart l ≡ true
unfolding distinct is_in
apart-less n l e = by (eqb 0 n) (is_in 0 l) (is_in n l) e
  where
    by : (a b c : Bool) → (not (a || b) && (not c && distinct l)) ≡ true → (not b && distinct l) ≡ true
    by false b false e = e
    by false b true e = absurd (true≢false (sym e ∙ and-false (not b)))
    by true b c e = absurd (true≢false (sym e))

numbers-length : (rows : List Row) → length (numbers_of rows) ≡ length rows
unfolding numbers_of
numbers-length [] = refl
numbers-length (r ∷ rows) = ap suc (numbers-length rows)

number_at : (rows : List Row) (k : ℕ) → (get_or rows k (row 0 false)).tells.number ≡ get_or (numbers_of rows) k 0
unfolding numbers_of
number_at [] k = refl
number_at (r ∷ rows) zero = refl
number_at (r ∷ rows) (suc k) = number_at rows k

-- ---- the general law, for every table whose numbers are apart: the number is that of row k exactly when row k holds and no earlier one does
module _ (rows : List Row) (e : apart (numbers_of rows) ≡ true) where
  number-first : (k : ℕ) → First rows k → (first_row rows).number ≡ get_or (numbers_of rows) k 0
  number-first k f = ap (λ (a : Told). a.number) (first-answers rows k f) ∙ number_at rows k

  pub row-exactly : (k : ℕ) → k < length rows → ((first_row rows).number ≡ get_or (numbers_of rows) k 0) ↔ First rows k
  row-exactly k h = (by (first_or_none rows), number-first k)
    where
      by : ((j : ℕ) × First rows j) ⊎ ((i : ℕ) → holds_at rows i ≡ false) → (first_row rows).number ≡ get_or (numbers_of rows) k 0 → First rows k
      by (inl found) g =
          let same : found.0 ≡ k = apart_one (numbers_of rows) found.0 k e (omega (arith, found.1.within, numbers-length rows)) (omega (arith, numbers-length rows)) (sym (number-first found.0 found.1) ∙ g) in
          subst (First rows) same found.1
      by (inr none) g = absurd (apart_some (numbers_of rows) k e (omega (arith, numbers-length rows)) (sym g ∙ ap (λ (a : Told). a.number) (none_answers rows none)))

  -- and number 0 exactly when none holds
  pub none-exactly : ((first_row rows).number ≡ 0) ↔ ((i : ℕ) → holds_at rows i ≡ false)
  none-exactly = (by (first_or_none rows), λ none. ap (λ (a : Told). a.number) (none_answers rows none))
    where
      by : ((j : ℕ) × First rows j) ⊎ ((i : ℕ) → holds_at rows i ≡ false) → (first_row rows).number ≡ 0 → (i : ℕ) → holds_at rows i ≡ false
      by (inl found) g = absurd (apart_some (numbers_of rows) found.0 e (omega (arith, found.1.within, numbers-length rows)) (sym (number-first found.0 found.1) ∙ g))
      by (inr none) g = none

-- two tables one after the other: the second is tried where no row of the first holds
pub rows_append : (rows more : List Row) → apart (numbers_of rows) ≡ true → first_row (rows ++ more) ≡ cond (passes rows) (first_row more) (first_row rows)
unfolding first_row numbers_of
rows_append [] more e = refl
rows_append (r ∷ rows) more e = by r.holds (rows_append rows more (apart-less r.tells.number (numbers_of rows) e))
  where
    by : (b : Bool) → first_row (rows ++ more) ≡ cond (passes rows) (first_row more) (first_row rows) → cond b r.tells (first_row (rows ++ more)) ≡ cond (eqb (cond b r.tells (first_row rows)).number 0) (first_row more) (cond b r.tells (first_row rows))
    by true ih = rw (ne_eqb r.tells.number 0 (apart_some (numbers_of (r ∷ rows)) 0 e (omega arith)))
    by false ih = ih

-- ---- a row for what stands at some positions
pub position_some : (n at : ℕ) (positions : List ℕ) (rows : List Row) → Some at ≡ first_of positions → first_row (row_at n positions ∷ rows) ≡ told n at
unfolding first_row
position_some n at [] rows e = let z : ◌≡◌ {A = ℕ} 0 1 = cc in absurd (omega arith)
position_some n at (x ∷ l) rows e = let same : at ≡ x = cc in ap (told n) (sym same)

pub position_none : (n : ℕ) (positions : List ℕ) (rows : List Row) → None ≡ first_of positions → first_row (row_at n positions ∷ rows) ≡ first_row rows
unfolding first_row
position_none n [] rows e = refl
position_none n (x ∷ l) rows e = let z : ◌≡◌ {A = ℕ} 0 1 = cc in absurd (omega arith)

-- ---- wrong bytes
-- the position of the first byte that is not allowed
pub first_position : (at : ℕ) (m : List ℕ) → position_from (λ x. not (allowed x)) at m ≡ first_of (wrong_bytes at m)
unfolding wrong_bytes
first_position at [] = refl
first_position at (x ∷ m) = by (allowed x) (ap (λ (k : ℕ). position_from (λ y. not (allowed y)) k m) (add-one at) ∙ first_position (suc at) m)
  where
    by : (b : Bool) → position_from (λ y. not (allowed y)) (at + 1) m ≡ first_of (wrong_bytes (suc at) m)
        → cond (not b) (Some at) (position_from (λ y. not (allowed y)) (at + 1) m) ≡ first_of (cond b (wrong_bytes (suc at) m) (at ∷ wrong_bytes (suc at) m))
    by true ih = ih
    by false ih = refl

pub all_right : (m : List ℕ) (at : ℕ) → all allowed m ≡ true → wrong_bytes at m ≡ []
unfolding all wrong_bytes
all_right [] at e = refl
all_right (x ∷ m) at e = let both = and_both (allowed x) (all allowed m) e in rw both.0 (all_right m (suc at) both.1)

-- ---- wrong segments: `end` is what `find` answered from `at`
module _ (d : Delims) (m : List ℕ) (at : ℕ) {end : ℕ} (found : end ≡ end_from carriage_return m at) where
  one_more : (p t : List ℕ) → wrong_segments d at (p ∷ cut carriage_return t) ≡ cond (has_form d p) (wrong_segments d (at + length p + 1) (cut carriage_return t)) (at ∷ wrong_segments d (at + length p + 1) (cut carriage_return t))
  unfolding wrong_segments
  one_more p t = rw (cut-some carriage_return t)

  segment_step : end < length m → (b : Bool) → has_form d (between m at end) ≡ b → wrong_segments d at (cut carriage_return (drop at m)) ≡ cond b (wrong_segments d (end + 1) (cut carriage_return (drop (end + 1) m))) (at ∷ wrong_segments d (end + 1) (cut carriage_return (drop (end + 1) m)))
  segment_step h b t =
      let form : has_form d (first carriage_return (drop at m)) ≡ b = ap (has_form d) (first-at carriage_return m at ∙ ap (between m at) (sym found)) ∙ t in
      ap (wrong_segments d at) (parts_more carriage_return m at (omega arith))
      ∙ one_more (first carriage_return (drop at m)) (drop (end_from carriage_return m at + 1) m)
      ∙ rw (form, found)

  pub segment-right : end < length m → has_form d (between m at end) ≡ true → wrong_segments d at (cut carriage_return (drop at m)) ≡ wrong_segments d (end + 1) (cut carriage_return (drop (end + 1) m))
  segment-right h t = segment_step h true t

  pub segment_wrong : end < length m → has_form d (between m at end) ≡ false → first_of (wrong_segments d at (cut carriage_return (drop at m))) ≡ Some at
  segment_wrong h t = ap first_of (segment_step h false t)

  pub segment_open : at < length m → length m ≤ end → first_of (wrong_segments d at (cut carriage_return (drop at m))) ≡ Some at
  unfolding wrong_segments
  segment_open h last = rw (parts_last carriage_return m at (omega arith), ne_eqb (length (drop at m)) 0 (λ e. omega (arith, e, length-drop at m)))

pub segments-over : (d : Delims) (m : List ℕ) (at : ℕ) → length m ≤ at → wrong_segments d at (cut carriage_return (drop at m)) ≡ []
unfolding wrong_segments cut
segments-over d m at h = rw (drop_of_length-le m h)

-- ---- one answer
reading_paper : (r : Result Unit Unreadable) → reading_of (reading_told r) ≡ r
unfolding reading_of
reading_paper (Ok tt) = refl
reading_paper (Err Empty) = refl
reading_paper (Err TooLong) = refl
reading_paper (Err (WrongByte at)) = refl
reading_paper (Err NoHeader) = refl
reading_paper (Err (WrongSegment start)) = refl

-- the contract of `check` fixes its answer
pub reading_is : (m : List ℕ) {r : Result Unit Unreadable} → reading_told r ≡ first_row (message_rows m) → r ≡ reading_of (first_row (message_rows m))
reading_is m {r} e = sym (reading_paper r) ∙ ap reading_of e

-- any two answers that the contract of `check` allows are equal
pub check_once : (m : List ℕ) {r q : Result Unit Unreadable} → reading_told r ≡ first_row (message_rows m) → reading_told q ≡ first_row (message_rows m) → r ≡ q
check_once m e f = reading_is m e ∙ sym (reading_is m f)

-- ---- rows 1 to 5
pub message-apart : (m : List ℕ) → apart (numbers_of (message_rows m)) ≡ true
unfolding message_rows form_rows numbers_of distinct is_in
message-apart m = refl

-- the number is that of row k exactly when row k is the first to hold
pub reading_exactly : (m : List ℕ) (k : ℕ) → k < 5 → ((first_row (message_rows m)).number ≡ get_or (1 ∷ 2 ∷ 3 ∷ 4 ∷ 5 ∷ []) k 0) ↔ First (message_rows m) k
unfolding message_rows form_rows numbers_of
reading_exactly m k h = row-exactly (message_rows m) (message-apart m) k h

-- the same in the code's words: the tests that it made on the way
module _ (m : List ℕ) where
  pub form_none : opens (bytes "MSH") m ≡ false → told 4 0 ≡ first_row (form_rows m)
  unfolding first_row form_rows
  form_none e = rw e

  module _ (e : opens (bytes "MSH") m ≡ true) where
    form_passed : first_row (form_rows m) ≡ first_row (row_at 5 (wrong_segments (delims_of m) 0 (cut carriage_return m)) ∷ [])
    unfolding first_row form_rows
    form_passed = rw e

    pub form_wrong : {d : Delims} {start : ℕ} → d ≡ delims_of m → Some start ≡ first_of (wrong_segments d 0 (cut carriage_return m)) → told 5 start ≡ first_row (form_rows m)
    form_wrong {d} {start} own f = sym (form_passed ∙ position_some 5 start (wrong_segments (delims_of m) 0 (cut carriage_return m)) [] (rw (← own) f))

    pub form_sound : {d : Delims} → d ≡ delims_of m → None ≡ first_of (wrong_segments d 0 (cut carriage_return m)) → told 0 0 ≡ first_row (form_rows m)
    unfolding first_row
    form_sound {d} own f = sym (form_passed ∙ position_none 5 (wrong_segments (delims_of m) 0 (cut carriage_return m)) [] (rw (← own) f))

  pub message_empty : length m ≡ 0 → told 1 0 ≡ first_row (message_rows m)
  unfolding first_row message_rows
  message_empty e = rw (eq-eqb (length m) 0 e)

  module _ (some : length m ≡ 0 → ⊥) where
    pub message-long : message_limit < length m → told 2 0 ≡ first_row (message_rows m)
    unfolding first_row message_rows
    message-long h = rw (ne_eqb (length m) 0 some, lt-ltb message_limit (length m) h)

    module _ (short : length m ≤ message_limit) where
      lengths_passed : first_row (message_rows m) ≡ first_row (row_at 3 (wrong_bytes 0 m) ∷ form_rows m)
      unfolding first_row message_rows
      lengths_passed = rw (ne_eqb (length m) 0 some, le-ltb message_limit (length m) short)

      pub message-byte : {at : ℕ} → Some at ≡ first_of (wrong_bytes 0 m) → told 3 at ≡ first_row (message_rows m)
      message-byte {at} f = sym (lengths_passed ∙ position_some 3 at (wrong_bytes 0 m) (form_rows m) f)

      pub message_form : None ≡ first_of (wrong_bytes 0 m) → first_row (form_rows m) ≡ first_row (message_rows m)
      message_form f = sym (lengths_passed ∙ position_none 3 (wrong_bytes 0 m) (form_rows m) f)

-- ---- sound messages
read-ok : (r : Result Unit Unreadable) → is_ok r ≡ eqb (reading_told r).number 0
read-ok (Ok tt) = refl
read-ok (Err Empty) = refl
read-ok (Err TooLong) = refl
read-ok (Err (WrongByte at)) = refl
read-ok (Err NoHeader) = refl
read-ok (Err (WrongSegment start)) = refl

pub sound-is : (m : List ℕ) (r : Result Unit Unreadable) → reading_told r ≡ first_row (message_rows m) → is_ok r ≡ is_sound m
unfolding is_sound
sound-is m r e = read-ok r ∙ ap (λ (a : Told). eqb a.number 0) e

-- none of rows 1 to 5 holds of a sound message
pub sound_none : (m : List ℕ) → is_sound m ≡ true → (i : ℕ) → holds_at (message_rows m) i ≡ false
unfolding is_sound
sound_none m e = (none-exactly (message_rows m) (message-apart m)).0 (eqb-true _ 0 e)

pub sound-short : (m : List ℕ) → is_sound m ≡ true → length m ≤ message_limit
unfolding message_rows
sound-short m e = ltb-false message_limit (length m) (sound_none m e 1)

pub sound-opens : (m : List ℕ) → is_sound m ≡ true → opens (bytes "MSH") m ≡ true
unfolding message_rows form_rows
sound-opens m e = not-false _ (sound_none m e 3)

-- so its delimiters are five that differ from each other and from whatever may be none
pub sound_delimiting : (m : List ℕ) → is_sound m ≡ true → Delimiting (delims_of m)
sound_delimiting m e = opens_delimiting (bytes "MSH") m (sound-opens m e)

-- and its first segment is MSH
pub sound-msh : (m : List ℕ) → is_sound m ≡ true → is_msh (segment_of m 1).bytes ≡ true
unfolding nth_of cut_unless all
sound-msh m e = first-begins carriage_return (bytes "MSH") m refl (opens-begins (bytes "MSH") m (sound-opens m e))

-- every byte is allowed, and every segment has its form and its CR
none-at : (positions : List ℕ) → is_some positions ≡ false → positions ≡ []
none-at [] e = refl
none-at (x ∷ l) e = absurd (true≢false e)

pub sound-segments : (m : List ℕ) → is_sound m ≡ true → wrong_segments (delims_of m) 0 (cut carriage_return m) ≡ []
unfolding message_rows form_rows
sound-segments m e = none-at (wrong_segments (delims_of m) 0 (cut carriage_return m)) (sound_none m e 4)

-- what stands after the last CR of a sound message is nothing, so that looking a segment up may count it as a part
ended_empty : (d : Delims) (at : ℕ) (ps : List (List ℕ)) → wrong_segments d at ps ≡ [] → part_at ps (length (but_last ps)) ≡ []
unfolding wrong_segments but_last
ended_empty d at [] e = refl
ended_empty d at (p ∷ []) e = by (eqb (length p) 0) refl e
  where
    by : (b : Bool) → eqb (length p) 0 ≡ b → cond b [] (at ∷ []) ≡ [] → p ≡ []
    by true t e = none_of p (omega (arith, eqb-true (length p) 0 t))
    by false t e = let z : ◌≡◌ {A = ℕ} 0 1 = cc in absurd (omega arith)
ended_empty d at (p ∷ (q ∷ ps)) e = by (has_form d p) e (ended_empty d (at + length p + 1) (q ∷ ps))
  where
    by : (b : Bool) → cond b (wrong_segments d (at + length p + 1) (q ∷ ps)) (at ∷ wrong_segments d (at + length p + 1) (q ∷ ps)) ≡ [] → (wrong_segments d (at + length p + 1) (q ∷ ps) ≡ [] → part_at (q ∷ ps) (length (but_last (q ∷ ps))) ≡ []) → part_at (q ∷ ps) (length (but_last (q ∷ ps))) ≡ []
    by true e ih = ih e
    by false e ih = let z : ◌≡◌ {A = ℕ} 0 1 = cc in absurd (omega arith)

pub sound-segment : (m : List ℕ) (n : ℕ) → is_sound m ≡ true → (segment_of m (suc n)).bytes ≡ part_at (segments_of m) n
unfolding nth_of cut_unless
sound-segment m n e = sym (ended_same (cut carriage_return m) n (ended_empty (delims_of m) 0 (cut carriage_return m) (sound-segments m e)))

-- ---- locating
pub located-sound : (m : List ℕ) (n f r c : ℕ) {d : Delims} → is_sound m ≡ true → d ≡ delims_of m → located m n f r c ≡ place d m n f r c
unfolding located
located-sound m n f r c e own = rw (e, own)

pub located-refused : (m : List ℕ) (n f r c : ℕ) → is_sound m ≡ false → located m n f r c ≡ record { start = 0; bytes = [] }
unfolding located
located-refused m n f r c e = rw e

-- ---- how large an answer can be
-- every row tells a number below n and a detail up to k
abbrev pub Bounded : ℕ → ℕ → List Row → Type 0
Bounded n k [] = Unit {0}
Bounded n k (r ∷ rows) = (r.tells.number < n) × (r.tells.detail ≤ k) × Bounded n k rows

pub bounded_first : (n k : ℕ) (rows : List Row) → 0 < n → Bounded n k rows → ((first_row rows).number < n) × ((first_row rows).detail ≤ k)
unfolding first_row
bounded_first n k [] some all = (some, omega arith)
bounded_first n k (r ∷ rows) some all = by r.holds (bounded_first n k rows some all.2)
  where
    by : (b : Bool) → ((first_row rows).number < n) × ((first_row rows).detail ≤ k) → ((cond b r.tells (first_row rows)).number < n) × ((cond b r.tells (first_row rows)).detail ≤ k)
    by true rest = (all.0, all.1)
    by false rest = rest

-- a wrong byte stands in the message
first_wrong : (at : ℕ) (s : List ℕ) → get_or (wrong_bytes at s) 0 0 ≤ at + length s
unfolding wrong_bytes
first_wrong at [] = omega arith
first_wrong at (x ∷ s) = by (allowed x) (first_wrong (suc at) s)
  where
    by : (b : Bool) → get_or (wrong_bytes (suc at) s) 0 0 ≤ suc at + length s → get_or (cond b (wrong_bytes (suc at) s) (at ∷ wrong_bytes (suc at) s)) 0 0 ≤ at + suc (length s)
    by true ih = omega arith
    by false ih = omega arith

-- a wrong segment starts in the message: what CRs cut is as long as the parts and their CRs
unfoldable sized : List (List ℕ) → ℕ
sized [] = 0
sized (p ∷ ps) = length p + 1 + sized ps

cut-sized : (d : ℕ) (s : List ℕ) → sized (cut d s) ≡ length s + 1
unfolding cut ahead sized
cut-sized d [] = refl
cut-sized d (x ∷ s) = by (eqb x d) (cut d s) (cut-some d s) (cut-sized d s)
  where
    by : (b : Bool) (ps : List (List ℕ)) → ps ≡ get_or ps 0 [] ∷ drop 1 ps → sized ps ≡ length s + 1 → sized (ahead b x ps) ≡ suc (length s) + 1
    by true ps some ih = omega arith
    by false ps some ih = let whole = ap sized some in omega arith

first-broken : (d : Delims) (at : ℕ) (ps : List (List ℕ)) → get_or (wrong_segments d at ps) 0 0 ≤ at + sized ps
unfolding wrong_segments sized
first-broken d at [] = omega arith
first-broken d at (p ∷ []) = by (eqb (length p) 0)
  where
    by : (b : Bool) → get_or (cond b [] (at ∷ [])) 0 0 ≤ at + (length p + 1 + 0)
    by true = omega arith
    by false = omega arith
first-broken d at (p ∷ (q ∷ ps)) = by (has_form d p) (first-broken d (at + length p + 1) (q ∷ ps))
  where
    rest : List ℕ
    rest = wrong_segments d (at + length p + 1) (q ∷ ps)

    by : (b : Bool) → get_or rest 0 0 ≤ at + length p + 1 + sized (q ∷ ps) → get_or (cond b rest (at ∷ rest)) 0 0 ≤ at + (length p + 1 + sized (q ∷ ps))
    by true ih = omega arith
    by false ih = omega arith

-- so no answer about a message is larger than this
pub reading_bounded : (m : List ℕ) → ((first_row (message_rows m)).number < 6) × ((first_row (message_rows m)).detail ≤ message_limit + 1)
unfolding message_rows form_rows
reading_bounded m = by (dec_le (length m) message_limit)
  where
    by : Dec (length m ≤ message_limit) → ((first_row (message_rows m)).number < 6) × ((first_row (message_rows m)).detail ≤ message_limit + 1)
    by (yes short) =
        bounded_first 6 (message_limit + 1) (message_rows m) (omega arith)
        (omega arith, omega arith, (omega arith, omega arith, (omega arith, omega (arith, first_wrong 0 m), (omega arith, omega arith, (omega arith, omega (arith, first-broken (delims_of m) 0 (cut carriage_return m), cut-sized carriage_return m), tt)))))
    by (no long) = rw (← message-long m (λ e. omega (arith, e)) (omega arith)) (omega arith, omega arith)
