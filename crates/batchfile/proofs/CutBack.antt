-- What a file of the shape of a batch is: the frame names stand once each, in their places; and a file put together from a frame and messages is cut back
-- into exactly these. Assumes nothing.
use mathlib.Core.Path.{◌≡◌, refl, sym, ap, ap₂, ◌∙◌}
use mathlib.Core.Bool.{Bool, true, false, cond, ◌&&◌, ◌||◌, and-true, true≢false}
use mathlib.Core.List.{List, [], ◌∷◌, ◌++◌, flatten, append_assoc, append-nil}
use Prim.Native.Nat.{ℕ, zero, suc, ◌+◌, ◌<◌}
use Prim.Native.Char.{code}
use native.Mathlib.Omega.{arith}
use lib.Dec.{eqb}
use lib.ListN.{length, drop, length-append}
use borrow.Author.Tests.{ne_eqb, eqb-true, not-true}
use Rattle.hl7.specs.Text.{bytes}
use Rattle.hl7.specs.Bytes.{all, differs, begins}
use Rattle.hl7.specs.Cut.{ahead, cut, part_at}
use Rattle.hl7.specs.Place.{carriage_return, delims_of, is_msh}
use Rattle.hl7.specs.Delimiters.{opens}
use Rattle.hl7.specs.Refusals.{has_form, wrong_segments, is_sound}
use Rattle.hl7.specs.declared.place.Delims.{Delims}
use Rattle.hl7.proofs.Comparing.{none_of, and_both, or_neither, begins-long}
use Rattle.hl7.proofs.Cutting.{first, cut-some}
use Rattle.hl7.proofs.Delimiting.{opens-begins}
use Rattle.hl7.proofs.Refusing.{sound-opens, sound-segments}
use Rattle.batchfile.specs.Messages.{in_front, lines_of, is_frame, Gathered, nothing, gather, gathered, from_frame}
use Rattle.batchfile.specs.Frame.{fhs_of, bhs_of, body_of, messages_in, trailer_of, bts_of, fts_of, keeps_rows, is_segment, is_none, is_framed}
use Rattle.batchfile.proofs.Gathering.{lines-some}

-- ---- segments
pub flatten_append : (a b : List (List ℕ)) → flatten (a ++ b) ≡ flatten a ++ flatten b
unfolding flatten
flatten_append [] b = refl
flatten_append (s ∷ a) b = ap (λ (l : List ℕ). s ++ l) (flatten_append a b) ∙ sym (append_assoc s (flatten a) (flatten b))

-- empty, or the last byte is a CR
unfoldable pub is_closed : List ℕ → Bool
is_closed [] = true
is_closed (x ∷ []) = eqb x carriage_return
is_closed (x ∷ (y ∷ s)) = is_closed (y ∷ s)

-- what was cut at its CRs is whole again
pub lines-joined : (s : List ℕ) → flatten (lines_of s) ≡ s
unfolding lines_of in_front flatten
lines-joined [] = refl
lines-joined (x ∷ s) = by (eqb x carriage_return) (lines_of s) ∙ ap (λ (l : List ℕ). x ∷ l) (lines-joined s)
  where
    by : (b : Bool) (lines : List (List ℕ)) → flatten (in_front b x lines) ≡ x ∷ flatten lines
    by true lines = refl
    by false [] = refl
    by false (line ∷ lines) = refl

-- behind a CR begins a segment of its own
pub lines-append : (s t : List ℕ) → is_closed s ≡ true → lines_of (s ++ t) ≡ lines_of s ++ lines_of t
unfolding lines_of in_front is_closed
lines-append [] t e = refl
lines-append (x ∷ []) t e = rw e
lines-append (x ∷ (y ∷ s)) t e = ap (in_front (eqb x carriage_return) x) (lines-append (y ∷ s) t e) ∙ by (eqb x carriage_return) (lines_of (y ∷ s)) (lines-some (y ∷ s) (omega arith))
  where
    by : (b : Bool) (lines : List (List ℕ)) → lines ≡ part_at lines 0 ∷ drop 1 lines → in_front b x (lines ++ lines_of t) ≡ in_front b x lines ++ lines_of t
    by true lines some = refl
    by false [] some = absurd (omega (arith, ap (λ (ls : List (List ℕ)). length ls) some))
    by false (line ∷ lines) some = refl

-- what some bytes begin with, their first segment begins with too, where no CR is in that
line-begins : (p s : List ℕ) → all (differs carriage_return) p ≡ true → begins p s ≡ true → begins p (part_at (lines_of s) 0) ≡ true
unfolding all begins lines_of in_front
line-begins [] s e b = refl
line-begins (x ∷ p) [] e b = absurd (true≢false (sym b))
line-begins (x ∷ p) (y ∷ s) e b =
    let kinds = and_both (differs carriage_return x) (all (differs carriage_return) p) e in
    let both = and_both (eqb y x) (begins p s) b in
    let other : eqb y carriage_return ≡ false = ap (λ (n : ℕ). eqb n carriage_return) (eqb-true y x both.0) ∙ not-true _ kinds.0 in
    rw other (by (lines_of s) both.0 (line-begins p s kinds.1 both.1))
  where
    by : (lines : List (List ℕ)) → eqb y x ≡ true → begins p (part_at lines 0) ≡ true → begins (x ∷ p) (part_at (in_front false y lines) 0) ≡ true
    by [] same ih = rw same ih
    by (line ∷ lines) same ih = rw same ih

-- one segment, with its CR
pub record Segment (line : List ℕ) : Type 0 where
  pub alone : lines_of line ≡ line ∷ []
  pub closed : is_closed line ≡ true

-- each segment is one
pub lines_alone : (s : List ℕ) (i : ℕ) → i < length (lines_of s) → lines_of (part_at (lines_of s) i) ≡ part_at (lines_of s) i ∷ []
unfolding lines_of in_front
lines_alone [] i h = absurd (omega arith)
lines_alone (x ∷ s) i h = by (eqb x carriage_return) refl (lines_of s) (lines_alone s) i h
  where
    by : (b : Bool) → eqb x carriage_return ≡ b → (lines : List (List ℕ)) → ((i : ℕ) → i < length lines → lines_of (part_at lines i) ≡ part_at lines i ∷ [])
        → (i : ℕ) → i < length (in_front b x lines) → lines_of (part_at (in_front b x lines) i) ≡ part_at (in_front b x lines) i ∷ []
    by true e lines ih zero h = rw e
    by true e lines ih (suc i) h = ih i (omega arith)
    by false e [] ih zero h = rw e
    by false e [] ih (suc i) h = absurd (omega arith)
    by false e (line ∷ lines) ih zero h = rw (e, ih 0 (omega arith))
    by false e (line ∷ lines) ih (suc i) h = ih (suc i) h

-- and all but the last have their CR
closed_in_front : (x : ℕ) (line : List ℕ) → lines_of line ≡ line ∷ [] → is_closed line ≡ true → is_closed (x ∷ line) ≡ true
unfolding is_closed lines_of
closed_in_front x [] alone e = absurd (omega (arith, ap (λ (ls : List (List ℕ)). length ls) alone))
closed_in_front x (y ∷ line) alone e = e

lines_closed : (s : List ℕ) (i : ℕ) → suc i < length (lines_of s) → is_closed (part_at (lines_of s) i) ≡ true
unfolding lines_of in_front is_closed
lines_closed [] i h = absurd (omega arith)
lines_closed (x ∷ s) i h = by (eqb x carriage_return) refl (lines_of s) (lines_alone s) (lines_closed s) i h
  where
    by : (b : Bool) → eqb x carriage_return ≡ b → (lines : List (List ℕ)) → ((i : ℕ) → i < length lines → lines_of (part_at lines i) ≡ part_at lines i ∷ []) → ((i : ℕ) → suc i < length lines → is_closed (part_at lines i) ≡ true)
        → (i : ℕ) → suc i < length (in_front b x lines) → is_closed (part_at (in_front b x lines) i) ≡ true
    by true e lines alone ih zero h = e
    by true e lines alone ih (suc i) h = ih i (omega arith)
    by false e [] alone ih i h = absurd (omega arith)
    by false e (line ∷ lines) alone ih zero h = closed_in_front x line (alone 0 (omega arith)) (ih 0 h)
    by false e (line ∷ lines) alone ih (suc i) h = ih (suc i) h

pub lines-segments : (s : List ℕ) (i : ℕ) → suc i < length (lines_of s) → Segment (part_at (lines_of s) i)
lines-segments s i h = record { alone = lines_alone s i (omega arith); closed = lines_closed s i h }

-- what keeps row 5 has its last CR: p is what stands before s in its first segment
later-right : (d : Delims) (at : ℕ) (p : List ℕ) (ps : List (List ℕ)) → 0 < length ps → wrong_segments d at (p ∷ ps) ≡ [] → wrong_segments d (at + length p + 1) ps ≡ []
unfolding wrong_segments
later-right d at p [] some e = absurd (omega arith)
later-right d at p (q ∷ ps) some e = by (has_form d p) e
  where
    by : (b : Bool) → cond b (wrong_segments d (at + length p + 1) (q ∷ ps)) (at ∷ wrong_segments d (at + length p + 1) (q ∷ ps)) ≡ [] → wrong_segments d (at + length p + 1) (q ∷ ps) ≡ []
    by true e = e
    by false e = absurd (omega (arith, ap length e))

right_closed : (d : Delims) (at : ℕ) (p s : List ℕ) → wrong_segments d at ((p ++ first carriage_return s) ∷ drop 1 (cut carriage_return s)) ≡ [] → is_closed s ≡ true
unfolding wrong_segments cut ahead is_closed
right_closed d at p [] e = refl
right_closed d at p (x ∷ []) e = by (eqb x carriage_return) e
  where
    by : (b : Bool) → wrong_segments d at ((p ++ part_at (ahead b x ([] ∷ [])) 0) ∷ drop 1 (ahead b x ([] ∷ []))) ≡ [] → b ≡ true
    by true e = refl
    by false e = absurd (omega (arith, ap length (rw (ne_eqb (length (p ++ (x ∷ []))) 0 (λ none. omega (arith, none, length-append p (x ∷ [])))) at e)))
right_closed d at p (x ∷ (y ∷ s)) e = by (eqb x carriage_return) (cut carriage_return (y ∷ s)) (cut-some carriage_return (y ∷ s)) (λ at p. right_closed d at p (y ∷ s)) e
  where
    by : (b : Bool) (ps : List (List ℕ)) → ps ≡ part_at ps 0 ∷ drop 1 ps → ((at : ℕ) (p : List ℕ) → wrong_segments d at ((p ++ part_at ps 0) ∷ drop 1 ps) ≡ [] → is_closed (y ∷ s) ≡ true)
        → wrong_segments d at ((p ++ part_at (ahead b x ps) 0) ∷ drop 1 (ahead b x ps)) ≡ [] → is_closed (y ∷ s) ≡ true
    by true ps some ih e =
        let rest = later-right d at (p ++ []) ps (omega (arith, ap (λ (l : List (List ℕ)). length l) some)) e in
        ih (at + length (p ++ []) + 1) [] (ap (wrong_segments d (at + length (p ++ []) + 1)) (sym some) ∙ rest)
    by false ps some ih e = ih at (p ++ (x ∷ [])) (ap (λ (l : List ℕ). wrong_segments d at (l ∷ drop 1 ps)) (append_assoc p (x ∷ []) (part_at ps 0)) ∙ e)

pub rows_closed : (d : Delims) (s : List ℕ) → wrong_segments d 0 (cut carriage_return s) ≡ [] → is_closed s ≡ true
rows_closed d s e = right_closed d 0 [] s (ap (wrong_segments d 0) (sym (cut-some carriage_return s)) ∙ e)

-- ---- the frame
-- the segments up to the next frame name
unfoldable pub to_frame : List (List ℕ) → List (List ℕ)
to_frame [] = []
to_frame (line ∷ lines) = cond (is_frame line) [] (line ∷ to_frame lines)

frame_split : (lines : List (List ℕ)) → lines ≡ to_frame lines ++ from_frame lines
unfolding to_frame from_frame
frame_split [] = refl
frame_split (line ∷ lines) = by (is_frame line) (frame_split lines)
  where
    by : (b : Bool) → lines ≡ to_frame lines ++ from_frame lines → line ∷ lines ≡ cond b [] (line ∷ to_frame lines) ++ cond b (line ∷ lines) (from_frame lines)
    by true ih = refl
    by false ih = ap (λ (ls : List (List ℕ)). line ∷ ls) ih

frame_none : (lines : List (List ℕ)) (i : ℕ) → is_frame (part_at (to_frame lines) i) ≡ false
unfolding to_frame is_frame begins
frame_none [] i = refl
frame_none (line ∷ lines) i = by (is_frame line) refl (frame_none lines) i
  where
    by : (b : Bool) → is_frame line ≡ b → ((i : ℕ) → is_frame (part_at (to_frame lines) i) ≡ false) → (i : ℕ) → is_frame (part_at (cond b [] (line ∷ to_frame lines)) i) ≡ false
    by true e ih i = refl
    by false e ih zero = e
    by false e ih (suc i) = ih i

from-append : (lines rest : List (List ℕ)) → ((i : ℕ) → is_frame (part_at lines i) ≡ false) → from_frame (lines ++ rest) ≡ from_frame rest
unfolding from_frame
from-append [] rest frameless = refl
from-append (line ∷ lines) rest frameless = rw (frameless 0) (from-append lines rest (λ i. frameless (suc i)))

-- all bytes up to there belong to a message, or stand before the first
gathered-joined : (lines : List (List ℕ)) → (gathered lines).before ++ flatten (gathered lines).messages ≡ flatten (to_frame lines)
unfolding to_frame gathered gather flatten
gathered-joined [] = refl
gathered-joined (line ∷ lines) = by (is_frame line) (is_msh line) (gathered-joined lines)
  where
    by : (frame msh : Bool) → (gathered lines).before ++ flatten (gathered lines).messages ≡ flatten (to_frame lines)
        → (cond frame nothing (gather msh line (gathered lines))).before ++ flatten (cond frame nothing (gather msh line (gathered lines))).messages ≡ flatten (cond frame [] (line ∷ to_frame lines))
    by true msh ih = refl
    by false true ih = append_assoc line (gathered lines).before (flatten (gathered lines).messages) ∙ ap (λ (l : List ℕ). line ++ l) ih
    by false false ih = append_assoc line (gathered lines).before (flatten (gathered lines).messages) ∙ ap (λ (l : List ℕ). line ++ l) ih

two_first : (lines : List (List ℕ)) → 0 < length (part_at lines 1) → lines ≡ part_at lines 0 ∷ part_at lines 1 ∷ drop 2 lines
two_first [] h = absurd (omega arith)
two_first (line ∷ []) h = absurd (omega arith)
two_first (line ∷ (next ∷ lines)) h = refl

no_more : (lines : List (List ℕ)) → is_none lines ≡ true → lines ≡ []
no_more [] e = refl
no_more (line ∷ lines) e = absurd (omega (arith, eqb-true (suc (length lines)) 0 e))

-- the segments between BHS and BTS
abbrev pub inner_of : List ℕ → List (List ℕ)
inner_of f = to_frame (drop 2 (lines_of f))

-- a file is FHS, BHS, segments without a frame name, BTS and FTS; and the messages are the segments between, with nothing before the first
pub record InPlaces (f : List ℕ) (inner : List (List ℕ)) : Type 0 where
  pub lines : lines_of f ≡ fhs_of f ∷ bhs_of f ∷ (inner ++ (bts_of f ∷ fts_of f ∷ []))
  pub fhs : begins (bytes "FHS") (fhs_of f) ≡ true
  pub bhs : begins (bytes "BHS") (bhs_of f) ≡ true
  pub bts : begins (bytes "BTS") (bts_of f) ≡ true
  pub fts : begins (bytes "FTS") (fts_of f) ≡ true
  pub others : (i : ℕ) → is_frame (part_at inner i) ≡ false
  pub started : (body_of f).before ≡ []
  pub messages : flatten (messages_in f) ≡ flatten inner

named : (d : Delims) (name line : List ℕ) → is_segment d name line ≡ true → begins name line ≡ true
named d name line e = (and_both (begins name line) (keeps_rows d line) e).0

-- what the definition asks, one by one
pub record Asked (f : List ℕ) : Type 0 where
  pub opened : opens (bytes "FHS") f ≡ true
  pub kept : keeps_rows (delims_of f) (fhs_of f) ≡ true
  pub second : is_segment (delims_of f) (bytes "BHS") (bhs_of f) ≡ true
  pub started : is_none (body_of f).before ≡ true
  pub third : is_segment (delims_of f) (bytes "BTS") (bts_of f) ≡ true
  pub fourth : is_segment (delims_of f) (bytes "FTS") (fts_of f) ≡ true
  pub over : is_none (drop 2 (trailer_of f)) ≡ true

module _ (f : List ℕ) (framed : is_framed f ≡ true) where
  pub asked : Asked f
  unfolding is_framed
  asked =
      let six = and_both _ _ framed in
      let five = and_both _ _ six.0 in
      let four = and_both _ _ five.0 in
      let three = and_both _ _ four.0 in
      let two = and_both _ _ three.0 in
      let one = and_both _ _ two.0 in
      record { opened = one.0; kept = one.1; second = two.1; started = three.1; third = four.1; fourth = five.1; over = six.1 }

  -- so the frame names stand once each, in their places
  pub in_places : InPlaces f (inner_of f)
  unfolding all
  in_places =
      let bhs = named (delims_of f) (bytes "BHS") (bhs_of f) asked.second in
      let fts = named (delims_of f) (bytes "FTS") (fts_of f) asked.fourth in
      let none = none_of (body_of f).before (omega (arith, eqb-true (length (body_of f).before) 0 asked.started)) in
      let heads = two_first (lines_of f) (omega (arith, begins-long (bytes "BHS") (bhs_of f) bhs)) in
      let tails : trailer_of f ≡ bts_of f ∷ fts_of f ∷ [] = two_first (trailer_of f) (omega (arith, begins-long (bytes "FTS") (fts_of f) fts)) ∙ ap (λ (ls : List (List ℕ)). bts_of f ∷ fts_of f ∷ ls) (no_more (drop 2 (trailer_of f)) asked.over) in
      record {
        lines = heads ∙ ap (λ (ls : List (List ℕ)). fhs_of f ∷ bhs_of f ∷ ls) (frame_split (drop 2 (lines_of f)) ∙ ap (λ (ls : List (List ℕ)). inner_of f ++ ls) tails);
        fhs = line-begins (bytes "FHS") f refl (opens-begins (bytes "FHS") f asked.opened);
        bhs = bhs;
        bts = named (delims_of f) (bytes "BTS") (bts_of f) asked.third;
        fts = fts;
        others = frame_none (drop 2 (lines_of f));
        started = none;
        messages = ap (λ (l : List ℕ). l ++ flatten (messages_in f)) (sym none) ∙ gathered-joined (drop 2 (lines_of f));
      }

-- ---- messages
-- a message that a batch can hold: it ends with a CR, its first segment is MSH, no other is, and none has a frame name
pub record Sendable (m : List ℕ) : Type 0 where
  pub closed : is_closed m ≡ true
  pub first : is_msh (part_at (lines_of m) 0) ≡ true
  pub others : (i : ℕ) → is_msh (part_at (lines_of m) (suc i)) ≡ false
  pub frameless : (i : ℕ) → is_frame (part_at (lines_of m) i) ≡ false

-- a message that passes rows 1 to 5 ends with a CR, and its first segment is MSH
pub sound_closed : (m : List ℕ) → is_sound m ≡ true → is_closed m ≡ true
sound_closed m e = rows_closed (delims_of m) m (sound-segments m e)

msh_frameless : (line : List ℕ) → is_msh line ≡ true → is_frame line ≡ false
unfolding is_frame begins
msh_frameless [] e = absurd (true≢false (sym e))
msh_frameless (x ∷ line) e = rw (eqb-true x (code "M") (and_both (eqb x (code "M")) (begins (bytes "SH") line) e).0)

pub sound_sendable : (m : List ℕ) → is_sound m ≡ true → ((i : ℕ) → (is_frame (part_at (lines_of m) (suc i)) || is_msh (part_at (lines_of m) (suc i))) ≡ false) → Sendable m
unfolding all
sound_sendable m e later =
    let msh = line-begins (bytes "MSH") m refl (opens-begins (bytes "MSH") m (sound-opens m e)) in
    record { closed = sound_closed m e; first = msh; others = λ i. (neither i).1; frameless = by msh }
  where
    neither : (i : ℕ) → (is_frame (part_at (lines_of m) (suc i)) ≡ false) × (is_msh (part_at (lines_of m) (suc i)) ≡ false)
    neither i = or_neither (is_frame (part_at (lines_of m) (suc i))) (is_msh (part_at (lines_of m) (suc i))) (later i)

    by : is_msh (part_at (lines_of m) 0) ≡ true → (i : ℕ) → is_frame (part_at (lines_of m) i) ≡ false
    by msh zero = msh_frameless (part_at (lines_of m) 0) msh
    by msh (suc i) = (neither i).0

-- segments that go on with a message
gathered_on : (lines rest : List (List ℕ)) → ((i : ℕ) → is_msh (part_at lines i) ≡ false) → ((i : ℕ) → is_frame (part_at lines i) ≡ false)
    → gathered (lines ++ rest) ≡ record { before = flatten lines ++ (gathered rest).before; messages = (gathered rest).messages }
unfolding gathered gather flatten
gathered_on [] rest on frameless = refl
gathered_on (line ∷ lines) rest on frameless =
    rw (on 0, frameless 0)
    (ap (gather false line) (gathered_on lines rest (λ i. on (suc i)) (λ i. frameless (suc i)))
    ∙ ap (λ (s : List ℕ). record { before = s; messages = (gathered rest).messages }) (sym (append_assoc line (flatten lines) (gathered rest).before)))

-- a message, and what stands behind it
gathered-message : (lines rest : List (List ℕ)) → is_msh (part_at lines 0) ≡ true → ((i : ℕ) → is_msh (part_at lines (suc i)) ≡ false) → ((i : ℕ) → is_frame (part_at lines i) ≡ false)
    → (gathered rest).before ≡ [] → gathered (lines ++ rest) ≡ record { before = []; messages = flatten lines ∷ (gathered rest).messages }
unfolding gathered gather flatten begins
gathered-message [] rest first others frameless none = absurd (true≢false (sym first))
gathered-message (line ∷ lines) rest first others frameless none =
    rw (first, frameless 0)
    (ap (gather true line) (gathered_on lines rest others (λ i. frameless (suc i)))
    ∙ ap (λ (s : List ℕ). record { before = []; messages = (line ++ s) ∷ (gathered rest).messages }) (ap (λ (s : List ℕ). flatten lines ++ s) none ∙ append-nil (flatten lines)))

-- the messages in front of a frame name are cut where they were put together
messages_back : (ms : List (List ℕ)) (rest : List ℕ) → ((i : ℕ) → i < length ms → Sendable (part_at ms i)) → gathered (lines_of rest) ≡ nothing
    → (gathered (lines_of (flatten ms ++ rest)) ≡ record { before = []; messages = ms }) × (from_frame (lines_of (flatten ms ++ rest)) ≡ from_frame (lines_of rest))
unfolding flatten
messages_back [] rest each none = (none, refl)
messages_back (m ∷ ms) rest each none =
    let is = each 0 (omega arith) in
    let later = messages_back ms rest (λ i h. each (suc i) (omega arith)) none in
    let lines : lines_of ((m ++ flatten ms) ++ rest) ≡ lines_of m ++ lines_of (flatten ms ++ rest) = ap lines_of (append_assoc m (flatten ms) rest) ∙ lines-append m (flatten ms ++ rest) is.closed in (
      ap gathered lines
          ∙ gathered-message (lines_of m) (lines_of (flatten ms ++ rest)) is.first is.others is.frameless (ap (λ (g : Gathered). g.before) later.0)
          ∙ ap₂ (λ (one : List ℕ) (others : List (List ℕ)). record { before = []; messages = one ∷ others }) (lines-joined m) (ap (λ (g : Gathered). g.messages) later.0),
      ap from_frame lines ∙ from-append (lines_of m) (lines_of (flatten ms ++ rest)) is.frameless ∙ later.1,
    )

-- ---- a file put together
module _ (fhs bhs : List ℕ) (ms : List (List ℕ)) (bts fts : List ℕ) where
  abbrev pub file_of : List ℕ
  file_of = fhs ++ (bhs ++ (flatten ms ++ (bts ++ fts)))

  -- from four segments, the third of them with a frame name, and messages that a batch can hold
  pub record Parts : Type 0 where
    pub first : Segment fhs
    pub second : Segment bhs
    pub messages : (i : ℕ) → i < length ms → Sendable (part_at ms i)
    pub third : Segment bts
    pub framing : is_frame bts ≡ true
    pub fourth : Segment fts

  module _ (parts : Parts) where
    trailer : lines_of (bts ++ fts) ≡ bts ∷ fts ∷ []
    trailer = lines-append bts fts parts.third.closed ∙ ap₂ (λ (a b : List (List ℕ)). a ++ b) parts.third.alone parts.fourth.alone

    heads : lines_of file_of ≡ fhs ∷ bhs ∷ lines_of (flatten ms ++ (bts ++ fts))
    heads =
        lines-append fhs (bhs ++ (flatten ms ++ (bts ++ fts))) parts.first.closed
        ∙ ap₂ (λ (a b : List (List ℕ)). a ++ b) parts.first.alone (lines-append bhs (flatten ms ++ (bts ++ fts)) parts.second.closed ∙ ap (λ (a : List (List ℕ)). a ++ lines_of (flatten ms ++ (bts ++ fts))) parts.second.alone)

    back : (gathered (lines_of (flatten ms ++ (bts ++ fts))) ≡ record { before = []; messages = ms }) × (from_frame (lines_of (flatten ms ++ (bts ++ fts))) ≡ bts ∷ fts ∷ [])
    unfolding gathered from_frame
    back =
        let is = messages_back ms (bts ++ fts) parts.messages (ap gathered trailer ∙ rw parts.framing) in
        (is.0, is.1 ∙ ap from_frame trailer ∙ rw parts.framing)

    body : body_of file_of ≡ record { before = []; messages = ms }
    body = ap (λ (ls : List (List ℕ)). gathered (drop 2 ls)) heads ∙ back.0

    tail : trailer_of file_of ≡ bts ∷ fts ∷ []
    tail = ap (λ (ls : List (List ℕ)). from_frame (drop 2 ls)) heads ∙ back.1

    -- it is cut back into what it was put together from
    pub cut_back : messages_in file_of ≡ ms
    cut_back = ap (λ (g : Gathered). g.messages) body

    pub cut_started : (body_of file_of).before ≡ []
    cut_started = ap (λ (g : Gathered). g.before) body

    pub cut_frame : (fhs_of file_of ≡ fhs) × (bhs_of file_of ≡ bhs) × (bts_of file_of ≡ bts) × (fts_of file_of ≡ fts)
    cut_frame =
        (ap (λ (ls : List (List ℕ)). part_at ls 0) heads, ap (λ (ls : List (List ℕ)). part_at ls 1) heads, ap (λ (ls : List (List ℕ)). part_at ls 0) tail, ap (λ (ls : List (List ℕ)). part_at ls 1) tail)

    pub cut-over : drop 2 (trailer_of file_of) ≡ []
    cut-over = ap (λ (ls : List (List ℕ)). drop 2 ls) tail

    -- and is of the shape of a batch exactly when the four have their names and keep their rows
    pub cut_framed : is_framed file_of
        ≡ (opens (bytes "FHS") file_of && keeps_rows (delims_of file_of) fhs && is_segment (delims_of file_of) (bytes "BHS") bhs && is_segment (delims_of file_of) (bytes "BTS") bts
        && is_segment (delims_of file_of) (bytes "FTS") fts)
    unfolding is_framed
    cut_framed = rw (cut_frame.0, cut_frame.1, cut_frame.2, cut_frame.3, cut_started, cut-over) (simp and-true)
