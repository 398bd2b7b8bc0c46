-- The ways out of the call that answers a batch file, in the words of the code. Assumes nothing.
use mathlib.Core.Path.{◌≡◌, refl, sym, ap, ap₂, ◌∙◌}
use mathlib.Core.Bool.{Bool, true, false, cond, not, ◌&&◌, ◌||◌}
use mathlib.Core.List.{List, [], ◌∷◌, ◌++◌, map}
use Prim.Native.Nat.{ℕ, suc, ◌+◌, ◌≤◌, ◌<◌}
use native.Mathlib.Omega.{arith}
use native.Mathlib.Decide.{dec_le}
use lib.Dec.{leb, ltb}
use lib.ListN.{length, take, drop, length-append}
use borrow.Author.Tests.{lt-ltb, le-ltb, le-leb, lt-leb, eqb-true, ltb-false, not-true, not-false}
use Rattle.hl7.specs.Text.{bytes}
use Rattle.hl7.specs.Delimiters.{opens}
use Rattle.hl7.specs.Place.{delims_of}
use Rattle.hl7.specs.Refusals.{row_at, first_row}
use Rattle.hl7.proofs.Comparing.{and_both, or_neither, none_of}
use Rattle.std.specs.Prelude.{Ok, Err}
use Rattle.grade.specs.Admission.{Answer}
use Rattle.grade.specs.declared.refusal.Refusal.{Refusal}
use Rattle.ack.specs.Answers.{by_rows, short_row, Gives}
use Rattle.ack.specs.Splice.{Wrote}
use Rattle.ack.proofs.Writing.{splice-at-start, wrote-length, ◌then◌}
use Rattle.batchfile.specs.Messages.{gathered}
use Rattle.batchfile.specs.Frame.{fhs_of, bhs_of, body_of, messages_in, trailer_of, bts_of, fts_of, keeps_rows, is_segment, is_none, is_framed, is_counted}
use Rattle.batchfile.specs.Batch.{file_limit, controls, is_wrong, meets_one, refused_from, acks_from, batch_of}
use Rattle.batchfile.specs.Walk.{messages_at, Framing}
use Rattle.batchfile.specs.Sized.{Starts, Totals, Lowest, joined_of, left_of, Keeps}
use Rattle.batchfile.specs.declared.batch.Kept.{Kept}
use Rattle.batchfile.specs.declared.frame.Frame.{Frame}

-- ---- the messages
-- counted from another number, the ordinals are as many, and each further by as much
refused_shift : (book stamp : List ℕ) (k n : ℕ) (ms : List (List ℕ)) → refused_from book stamp (k + n) ms ≡ map (λ (i : ℕ). k + i) (refused_from book stamp n ms)
unfolding refused_from
refused_shift book stamp k n [] = refl
refused_shift book stamp k n (m ∷ ms) =
    let next : suc (k + n) ≡ k + suc n = omega arith in
    by (meets_one book stamp m) (ap (λ (j : ℕ). refused_from book stamp j ms) next ∙ refused_shift book stamp k (suc n) ms)
  where
    by : (b : Bool) → refused_from book stamp (suc (k + n)) ms ≡ map (λ (i : ℕ). k + i) (refused_from book stamp (suc n) ms)
        → cond b ((k + n) ∷ refused_from book stamp (suc (k + n)) ms) (refused_from book stamp (suc (k + n)) ms) ≡ map (λ (i : ℕ). k + i) (cond b (n ∷ refused_from book stamp (suc n) ms) (refused_from book stamp (suc n) ms))
    by true ih = ap (λ (l : List ℕ). (k + n) ∷ l) ih
    by false ih = ih

-- there are none
pub joined_empty : (ms : List (List ℕ)) (book stamp : List ℕ) (control : ℕ) (out : List ℕ) → ms ≡ [] → Gives (Ok 0) out (joined_of ms book stamp control out)
unfolding first_row refused_from acks_from
joined_empty ms book stamp control out none = rw (none, le-ltb (length out) 0 (omega arith))

module _ (kept : List ℕ) (k : ℕ) (ms : List (List ℕ)) (book stamp : List ℕ) (control : ℕ) (out : List ℕ) where
  -- one of them is refused
  pub left-refused : {ordinal : ℕ} → Lowest ms book stamp ordinal → Gives (Err (Refusal.WrongMessage (k + ordinal))) out (left_of kept k ms book stamp control out)
  unfolding first_row
  left-refused {ordinal} lowest =
      let first : refused_from book stamp (k + 1) ms ≡ (k + ordinal) ∷ map (λ (i : ℕ). k + i) lowest.others = refused_shift book stamp k 1 ms ∙ ap (map (λ (i : ℕ). k + i)) lowest.first in
      rw first

  module _ {total : ℕ} (known : Totals ms book stamp control total) where
    none-later : refused_from book stamp (k + 1) ms ≡ []
    none-later = refused_shift book stamp k 1 ms ∙ ap (λ (l : List ℕ). map (λ (i : ℕ). k + i) l) known.none

    module _ {n : ℕ} (size : n ≡ length kept) where
      need_is : n + total ≡ length (kept ++ acks_from book stamp control ms)
      need_is = omega (arith, known.long, length-append kept (acks_from book stamp control ms))

      -- there is no room for all ACKs
      pub left-short : length out < n + total → Gives (Err (Refusal.ShortOutput (n + total))) out (left_of kept k ms book stamp control out)
      unfolding first_row
      left-short h = rw (none-later, need_is, lt-ltb (length out) (length (kept ++ acks_from book stamp control ms)) (omega (arith, need_is)))

      -- there is
      pub left-room : {before : List ℕ} {to : ℕ} → n + total ≤ length out → Wrote out 0 kept before to → to + length (acks_from book stamp control ms) ≤ length before
      left-room h first = omega (arith, need_is, length-append kept (acks_from book stamp control ms), first.ends, wrote-length first)

      pub left-written : {before after : List ℕ} {to end : ℕ} → n + total ≤ length out → Wrote out 0 kept before to → Wrote before to (acks_from book stamp control ms) after end → Gives (Ok end) after (left_of kept k ms book stamp control out)
      unfolding first_row
      left-written {before} {after} {to} {end} h first others =
          let all = kept ++ acks_from book stamp control ms in
          let w = first then others in
          let room : length all ≤ length out = omega (arith, need_is) in
          let ends : end ≡ length all = omega (arith, w.ends, w.room, room) in
          let holds : after ≡ all ++ drop (length all) out = w.holds ∙ splice-at-start out all room in
          rw (none-later, le-ltb (length out) (length all) room, ends, holds)

-- those that are left and those that are kept are all
pub joined-left : (f : List ℕ) (at count : ℕ) (book stamp : List ℕ) (control : ℕ) (room out : List ℕ) {kept : Kept} {next : ℕ} (a : Answer) {after : List ℕ} → Keeps f at count book stamp control room kept → next ≡ control + kept.count
    → Gives a after (left_of (take kept.to room) kept.count (messages_at f kept.from) book stamp next out) → Gives a after (joined_of (messages_at f at) book stamp control out)
joined-left f at count book stamp control room out {kept} a w same g =
    g
    ∙ ap (λ (c : ℕ). left_of (take kept.to room) kept.count (messages_at f kept.from) book stamp c out) same
    ∙ sym (ap₂ (λ (refused acks : List ℕ). by_rows (row_at 15 refused ∷ short_row acks out ∷ []) acks out) w.refused w.acks)

-- ---- the file
-- where the length is right, the three other questions decide
right_by : (framed counted : Bool) (n limit : ℕ) → (framed && counted && leb n limit) ≡ not (false || not framed || not counted || ltb limit n)
right_by false counted n limit = refl
right_by true false n limit = refl
right_by true true n limit = by (dec_le n limit)
  where
    by : Dec (n ≤ limit) → leb n limit ≡ not (ltb limit n)
    by (yes h) = rw (le-leb n limit h, le-ltb limit n h)
    by (no h) = rw (lt-leb n limit (omega arith), lt-ltb limit n (omega arith))

-- nothing stands before the first message
framed_started : (f : List ℕ) → is_framed f ≡ true → is_none (body_of f).before ≡ true
unfolding is_framed
framed_started f =
    fourth (opens (bytes "FHS") f) (keeps_rows (delims_of f) (fhs_of f)) (is_segment (delims_of f) (bytes "BHS") (bhs_of f)) (is_none (body_of f).before)
    (is_segment (delims_of f) (bytes "BTS") (bts_of f)) (is_segment (delims_of f) (bytes "FTS") (fts_of f)) (is_none (drop 2 (trailer_of f)))
  where
    fourth : (a b c d e g h : Bool) → (a && b && c && d && e && g && h) ≡ true → d ≡ true
    fourth a b c d e g h is = (and_both (a && b && c) d (and_both (a && b && c && d) e (and_both (a && b && c && d && e) g (and_both (a && b && c && d && e && g) h is).0).0).0).1

module _ (f : List ℕ) (control : ℕ) where
  pub right_is : {framed counted : Bool} {count : ℕ} → length f ≤ file_limit → framed ≡ is_framed f → counted ≡ is_counted f → count ≡ length (messages_in f) → (framed && counted && leb (control + count) controls) ≡ not (is_wrong f control)
  unfolding is_wrong
  right_is {framed} {counted} {count} short a b c =
      right_by framed counted (control + count) controls ∙ rw (le-ltb file_limit (length f) short, a, b, c)

  pub too_long : file_limit < length f → is_wrong f control ≡ true
  unfolding is_wrong
  too_long h = rw (lt-ltb file_limit (length f) h)

  pub right-starts : (frame : Frame) → Framing f frame → length f ≤ file_limit → is_wrong f control ≡ false → Starts f frame.start frame.count × (control + frame.count ≤ controls)
  unfolding is_wrong
  right-starts frame w short right =
      let fits = or_neither (ltb file_limit (length f) || not (is_framed f) || not (is_counted f)) (ltb controls (control + length (messages_in f))) right in
      let shaped = not-false (is_framed f) (or_neither (ltb file_limit (length f)) (not (is_framed f)) (or_neither (ltb file_limit (length f) || not (is_framed f)) (not (is_counted f)) fits.0).0).1 in
      let none = none_of (body_of f).before (omega (arith, eqb-true (length (body_of f).before) 0 (framed_started f shaped))) in
      let count : length (messages_at f frame.start) ≡ frame.count = ap (λ (ls : List (List ℕ)). length (gathered ls).messages) w.body ∙ sym w.count in
      let stands = w.forward in (
        record {
          within = omega (arith, stands.1, stands.2, stands.3, stands.4);
          limited = short;
          started = ap (λ (ls : List (List ℕ)). (gathered ls).before) w.body ∙ none;
          messages = count;
        },
        omega (arith, ltb-false controls (control + length (messages_in f)) fits.1, w.count),
      )

  -- what the code asks first
  module _ {right : Bool} (asked : right ≡ not (is_wrong f control)) where
    pub asked_wrong : not right ≡ true → is_wrong f control ≡ true
    asked_wrong e = not-false (is_wrong f control) (sym asked ∙ not-true right e)

    pub asked_right : not right ≡ false → is_wrong f control ≡ false
    asked_right e = not-true (is_wrong f control) (sym asked ∙ not-false right e)

module _ (f book stamp : List ℕ) (control : ℕ) (out : List ℕ) where
  pub batch_wrong : is_wrong f control ≡ true → Gives (Err Refusal.WrongFile) out (batch_of f book stamp control out)
  unfolding batch_of first_row
  batch_wrong wrong = rw wrong

  -- the messages begin where BHS ends
  pub batch_right : (a : Answer) {after : List ℕ} {frame : Frame} → is_wrong f control ≡ false → Framing f frame
      → Gives a after (joined_of (messages_at f frame.start) book stamp control out) → Gives a after (batch_of f book stamp control out)
  unfolding batch_of first_row
  batch_right a right w g =
      g ∙ ap (λ (ls : List (List ℕ)). joined_of (gathered ls).messages book stamp control out) w.body ∙ rw right
