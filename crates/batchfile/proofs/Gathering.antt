-- Laws of `specs/Messages.antt`, in the words of the code: where a segment, a message and the messages end, and what is left from there on. Assumes nothing.
use mir.Val.{bool_byte}
use mathlib.Core.Path.{◌≡◌, refl, sym, ap, ap₂, ◌∙◌}
use mathlib.Core.Bool.{Bool, true, false, ◌||◌, true≢false}
use mathlib.Core.List.{List, [], ◌∷◌, ◌++◌, append_assoc, append-nil}
use Prim.Native.Nat.{ℕ, suc, ◌+◌, ◌-◌, ◌≤◌, ◌<◌}
use native.Mathlib.Omega.{arith}
use native.Mathlib.Decide.{dec_lt}
use lib.Dec.{eqb}
use lib.ListN.{length, take, drop, length-take, length-drop, length-append, drop_of_length-le}
use lib.Seq.{drop-drop, take-add}
use Rattle.hl7.specs.Text.{bytes}
use Rattle.hl7.specs.Bytes.{begins}
use Rattle.hl7.specs.Cut.{ahead, cut, part_at, end_from}
use Rattle.hl7.specs.Place.{carriage_return, is_msh}
use Rattle.hl7.specs.Spans.{between}
use borrow.Author.Tests.{eq-eqb, ne_eqb}
use Rattle.hl7.proofs.Cutting.{first, first-within}
use Rattle.hl7.proofs.Comparing.{or_neither}
use Rattle.batchfile.specs.Messages.{in_front, lines_of, is_frame, Gathered, nothing, gather, gathered, from_frame}
use Rattle.batchfile.specs.Frame.{is_none}
use Rattle.batchfile.specs.Walk.{lines_at, gathered_at, messages_at, Onward, LineEnds, MessageEnds, BodyEnds}

pub or_true : (a b : Bool) → (a || true || b) ≡ true
or_true true b = refl
or_true false b = refl

or_last : (a : Bool) → (a || false || true) ≡ true
or_last true = refl
or_last false = refl

-- ---- parts
between_none : (f : List ℕ) (n : ℕ) → between f n n ≡ []
between_none f n = let none : n - n ≡ 0 = omega arith in ap (λ (k : ℕ). take k (drop n f)) none

between_join : (f : List ℕ) (n e r : ℕ) → n ≤ e → e ≤ r → between f n e ++ between f e r ≡ between f n r
between_join f n e r h k =
    let size : r - n ≡ (e - n) + (r - e) = omega arith in
    let from : n + (e - n) ≡ e = omega arith in
    sym (ap (λ (k : ℕ). take k (drop n f)) size ∙ take-add (e - n) (r - e) (drop n f) ∙ rw (drop-drop (e - n) n f, from))

-- ---- segments
-- where the first segment of some bytes ends
abbrev first_end : List ℕ → ℕ
first_end s = length (part_at (lines_of s) 0)

-- a segment is a front, and the others are those of what follows it
line-front : (s : List ℕ) → (part_at (lines_of s) 0 ≡ take (first_end s) s) × (lines_of (drop (first_end s) s) ≡ drop 1 (lines_of s))
unfolding lines_of in_front
line-front [] = (refl, refl)
line-front (x ∷ s) = by (eqb x carriage_return) (lines_of s) refl (line-front s)
  where
    by : (b : Bool) (lines : List (List ℕ)) → lines_of s ≡ lines → (part_at (lines_of s) 0 ≡ take (first_end s) s) × (lines_of (drop (first_end s) s) ≡ drop 1 (lines_of s))
        → (part_at (in_front b x lines) 0 ≡ take (length (part_at (in_front b x lines) 0)) (x ∷ s)) × (lines_of (drop (length (part_at (in_front b x lines) 0)) (x ∷ s)) ≡ drop 1 (in_front b x lines))
    by true lines e ih = (refl, e)
    by false [] e ih = (refl, e)
    by false (line ∷ lines) e ih =
        let is : (line ≡ take (length line) s) × (lines_of (drop (length line) s) ≡ lines) = rw e at ih in
        (ap (λ (l : List ℕ). x ∷ l) is.0, is.1)

-- it ends after the first CR, or where the bytes do
line-ends : (s : List ℕ) → (length (first carriage_return s) < length s → first_end s ≡ suc (length (first carriage_return s))) × (length s ≤ length (first carriage_return s) → first_end s ≡ length s)
unfolding lines_of in_front cut ahead
line-ends [] = (λ h. absurd (omega arith), λ h. refl)
line-ends (x ∷ s) = by (eqb x carriage_return) (lines_of s) refl (line-ends s)
  where
    by : (b : Bool) (lines : List (List ℕ)) → lines_of s ≡ lines
        → (length (first carriage_return s) < length s → first_end s ≡ suc (length (first carriage_return s))) × (length s ≤ length (first carriage_return s) → first_end s ≡ length s)
        → (length (part_at (ahead b x (cut carriage_return s)) 0) < length (x ∷ s) → length (part_at (in_front b x lines) 0) ≡ suc (length (part_at (ahead b x (cut carriage_return s)) 0)))
        × (length (x ∷ s) ≤ length (part_at (ahead b x (cut carriage_return s)) 0) → length (part_at (in_front b x lines) 0) ≡ length (x ∷ s))
    by true lines e ih = (λ h. refl, λ h. absurd (omega arith))
    by false [] e ih = let none : first_end s ≡ 0 = rw e in (λ h. let is = ih.0 (omega arith) in omega arith, λ h. let is = ih.1 (omega arith) in omega arith)
    by false (line ∷ lines) e ih = let one : first_end s ≡ length line = rw e in (λ h. let is = ih.0 (omega arith) in omega arith, λ h. let is = ih.1 (omega arith) in omega arith)

pub lines-some : (s : List ℕ) → 0 < length s → lines_of s ≡ part_at (lines_of s) 0 ∷ drop 1 (lines_of s)
unfolding lines_of in_front
lines-some [] h = absurd (omega arith)
lines-some (x ∷ s) h = by (eqb x carriage_return) (lines_of s)
  where
    by : (b : Bool) (lines : List (List ℕ)) → in_front b x lines ≡ part_at (in_front b x lines) 0 ∷ drop 1 (in_front b x lines)
    by true lines = refl
    by false [] = refl
    by false (line ∷ lines) = refl

-- nothing is left
lines-over : (f : List ℕ) (at : ℕ) → length f ≤ at → lines_at f at ≡ []
unfolding lines_of
lines-over f at h = rw (drop_of_length-le f h)

pub lines_none : (f : List ℕ) (at : ℕ) → at ≤ length f → eqb at (length f) ≡ is_none (lines_at f at)
lines_none f at h = by (dec_lt at (length f))
  where
    by : Dec (at < length f) → eqb at (length f) ≡ is_none (lines_at f at)
    by (yes more) =
        let some : 0 < length (lines_at f at) = omega (arith, ap (λ (ls : List (List ℕ)). length ls) (lines-some (drop at f) (omega (arith, length-drop at f)))) in
        rw (ne_eqb at (length f) (λ e. omega (arith, e)), ne_eqb (length (lines_at f at)) 0 (λ e. omega (arith, e)))
    by (no past) = rw (eq-eqb at (length f) (omega arith), lines-over f at (omega arith))

module _ (f : List ℕ) (at : ℕ) {end : ℕ} (found : end ≡ end_from carriage_return f at) where
  ends_at : (r : ℕ) → Onward f at r → r ≡ at + first_end (drop at f) → LineEnds f at r
  ends_at r on is =
      let size : r - at ≡ first_end (drop at f) = omega arith in
      let from : at + first_end (drop at f) ≡ r = omega arith in
      record {
        onward = on;
        line = ap (λ (n : ℕ). take n (drop at f)) size ∙ sym (line-front (drop at f)).0;
        others = ap (λ (n : ℕ). lines_of (drop n f)) (sym from) ∙ ap lines_of (sym (drop-drop (first_end (drop at f)) at f)) ∙ (line-front (drop at f)).1;
      }

  pub line-ended : end < length f → LineEnds f at (end + 1)
  line-ended h =
      let is = (line-ends (drop at f)).0 (omega (arith, length-drop at f)) in
      ends_at (end + 1) (record { forward = omega arith; further = λ _. omega arith; within = λ _. omega arith }) (omega arith)

  pub line_open : length f ≤ end → LineEnds f at end
  line_open h =
      let short = first-within carriage_return (drop at f) in
      let is = (line-ends (drop at f)).1 (omega (arith, length-drop at f)) in
      ends_at end (record { forward = omega arith; further = λ more. omega arith; within = λ w. omega (arith, length-drop at f) }) (omega (arith, length-drop at f))

-- each of the four names is asked for
pub asked_frame : (line : List ℕ) {a b c e : Bool} → a ≡ begins (bytes "FHS") line → b ≡ begins (bytes "BHS") line → c ≡ begins (bytes "BTS") line → e ≡ begins (bytes "FTS") line → (a || b || c || e) ≡ is_frame line
unfolding is_frame
asked_frame line fhs bhs bts fts = rw (fhs, bhs, bts, fts)

-- ---- what segments hold, the first of them being between at and r
module _ (f : List ℕ) (at r : ℕ) (l : LineEnds f at r) where
  module _ (more : at < length f) where
    lines-here : lines_at f at ≡ between f at r ∷ lines_at f r
    lines-here = lines-some (drop at f) (omega (arith, length-drop at f)) ∙ ap₂ (λ (line : List ℕ) (lines : List (List ℕ)). line ∷ lines) (sym l.line) (sym l.others)

    line-long : 0 < length (between f at r)
    line-long = omega (arith, length-take (r - at) (drop at f), length-drop at f, l.onward.further more, l.onward.within (omega arith))

    gathered_frame : is_frame (between f at r) ≡ true → gathered_at f at ≡ nothing
    unfolding gathered
    gathered_frame e = rw (lines-here, e)

    gathered-line : {msh : Bool} → is_frame (between f at r) ≡ false → is_msh (between f at r) ≡ msh → gathered_at f at ≡ gather msh (between f at r) (gathered_at f r)
    unfolding gathered
    gathered-line e is = ap gathered lines-here ∙ rw (e, is)

gathered-over : (f : List ℕ) (at : ℕ) → length f ≤ at → gathered_at f at ≡ nothing
unfolding gathered
gathered-over f at h = ap gathered (lines-over f at h)

abbrev before_of : Gathered → List ℕ
before_of g = g.before

abbrev messages_of : Gathered → List (List ℕ)
messages_of g = g.messages

-- ---- where a message ends
-- the segments from n to e join the message before them
pub record Passing (f : List ℕ) (n e : ℕ) : Type 0 where
  pub forward : n ≤ e
  pub within : n ≤ length f → e ≤ length f
  pub before : (gathered_at f n).before ≡ between f n e ++ (gathered_at f e).before
  pub messages : messages_at f n ≡ messages_at f e

pub passing_none : (f : List ℕ) (n : ℕ) → Passing f n n
passing_none f n =
    record { forward = omega arith; within = λ h. h; before = ap (λ (l : List ℕ). l ++ (gathered_at f n).before) (sym (between_none f n)); messages = refl }

module _ (f : List ℕ) (n e r : ℕ) (p : Passing f n e) (more : e < length f) (l : LineEnds f e r) where
  pub passing_more : (is_frame (between f e r) || is_msh (between f e r)) ≡ false → Passing f n r
  unfolding gather
  passing_more other =
      let neither = or_neither (is_frame (between f e r)) (is_msh (between f e r)) other in
      let here : gathered_at f e ≡ gather false (between f e r) (gathered_at f r) = gathered-line f e r l more neither.0 neither.1 in
      record {
        forward = omega (arith, p.forward, l.onward.forward);
        within = λ h. l.onward.within (p.within h);
        before =
            p.before
            ∙ ap (λ (g : Gathered). between f n e ++ g.before) here
            ∙ sym (append_assoc (between f n e) (between f e r) (gathered_at f r).before)
            ∙ ap (λ (s : List ℕ). s ++ (gathered_at f r).before) (between_join f n e r p.forward l.onward.forward);
        messages = p.messages ∙ ap messages_of here;
      }

  -- a message or the frame begins here
  started-here : (frame msh : Bool) → is_frame (between f e r) ≡ frame → is_msh (between f e r) ≡ msh → (frame || msh) ≡ true → (gathered_at f e).before ≡ []
  unfolding gather
  started-here true msh a b h = ap before_of (gathered_frame f e r l more a)
  started-here false true a b h = ap before_of (gathered-line f e r l more a b)
  started-here false false a b h = absurd (true≢false (sym h))

module _ (f : List ℕ) (at n e : ℕ) (l : LineEnds f at n) (p : Passing f n e) where
  ends : (gathered_at f e).before ≡ [] → MessageEnds f at e
  unfolding gather
  ends none =
      record {
        onward = record {
          forward = omega (arith, l.onward.forward, p.forward);
          further = λ h. omega (arith, l.onward.further h, p.forward);
          within = λ h. p.within (l.onward.within h);
        };
        started = none;
        others = λ start some. by (dec_lt at (length f)) start some;
      }
    where
      -- the message is its first segment and all that joins it
      whole : between f at n ++ (gathered_at f n).before ≡ between f at e
      whole =
          ap (λ (s : List ℕ). between f at n ++ s) (p.before ∙ ap (λ (s : List ℕ). between f n e ++ s) none ∙ append-nil (between f n e))
          ∙ between_join f at n e l.onward.forward p.forward

      of : (frame msh : Bool) → at < length f → is_frame (between f at n) ≡ frame → is_msh (between f at n) ≡ msh → (gathered_at f at).before ≡ [] → 0 < length (messages_at f at) → messages_at f at ≡ between f at e ∷ messages_at f e
      of true msh more a b start some = absurd (omega (arith, ap (λ (g : Gathered). length g.messages) (gathered_frame f at n l more a), some))
      of false true more a b start some = ap messages_of (gathered-line f at n l more a b) ∙ ap₂ (λ (m : List ℕ) (ms : List (List ℕ)). m ∷ ms) whole p.messages
      of false false more a b start some =
          let joins : between f at n ++ (gathered_at f n).before ≡ [] = sym (ap before_of (gathered-line f at n l more a b)) ∙ start in
          absurd (omega (arith, ap length joins, length-append (between f at n) (gathered_at f n).before, line-long f at n l more))

      by : Dec (at < length f) → (gathered_at f at).before ≡ [] → 0 < length (messages_at f at) → messages_at f at ≡ between f at e ∷ messages_at f e
      by (yes more) start some = of (is_frame (between f at n)) (is_msh (between f at n)) more refl refl start some
      by (no past) start some = absurd (omega (arith, ap (λ (g : Gathered). length g.messages) (gathered-over f at (omega arith)), some))

  pub ends_next : (r : ℕ) → e < length f → LineEnds f e r → (is_frame (between f e r) || is_msh (between f e r)) ≡ true → MessageEnds f at e
  ends_next r more next is = ends (started-here f n e r p more next (is_frame (between f e r)) (is_msh (between f e r)) refl refl is)

  pub ends-over : length f ≤ e → MessageEnds f at e
  ends-over h = ends (ap before_of (gathered-over f e h))

-- ---- where the messages end, and how many there are
-- from `at` to `end` there are so many, and no frame name
pub record Counting (f : List ℕ) (at end count : ℕ) : Type 0 where
  pub forward : at ≤ end
  pub within : at ≤ length f → end ≤ length f
  pub others : from_frame (lines_at f at) ≡ from_frame (lines_at f end)
  pub messages : length (messages_at f at) ≡ count + length (messages_at f end)
  pub few : count ≤ end - at

pub counting_none : (f : List ℕ) (at : ℕ) → Counting f at at 0
counting_none f at = record { forward = omega arith; within = λ h. h; others = refl; messages = omega arith; few = omega arith }

module _ (f : List ℕ) (at end count : ℕ) (p : Counting f at end count) where
  pub counting_over : length f ≤ end → BodyEnds f at (record { end = end; count = count })
  unfolding from_frame
  counting_over h =
      let none : lines_at f end ≡ [] = lines-over f end h in
      record {
        forward = p.forward;
        within = p.within;
        others = none ∙ sym (p.others ∙ ap from_frame none);
        count = omega (arith, p.messages, ap (λ (g : Gathered). length g.messages) (gathered-over f end h));
        few = p.few;
      }

  module _ (r : ℕ) (more : end < length f) (l : LineEnds f end r) where
    pub counting_stop : is_frame (between f end r) ≡ true → BodyEnds f at (record { end = end; count = count })
    unfolding from_frame
    counting_stop e =
        let here = lines-here f end r l more in
        let stays : from_frame (lines_at f end) ≡ lines_at f end = rw (here, e) in
        record {
          forward = p.forward;
          within = p.within;
          others = sym (p.others ∙ stays);
          count = omega (arith, p.messages, ap (λ (g : Gathered). length g.messages) (gathered_frame f end r l more e));
          few = p.few;
        }

    pub counting_more : {msh : Bool} {one : ℕ} → is_frame (between f end r) ≡ false → msh ≡ is_msh (between f end r) → one ≡ bool_byte msh → Counting f at r (count + one)
    unfolding from_frame gather
    counting_more {msh} {one} e is n =
        let both = by msh (gathered-line f end r l more e (sym is)) n in
        record {
          forward = omega (arith, p.forward, l.onward.forward);
          within = λ h. l.onward.within (p.within h);
          others = p.others ∙ rw (lines-here f end r l more, e);
          messages = omega (arith, p.messages, both.0);
          few = omega (arith, p.few, p.forward, l.onward.further more, both.1);
        }
      where
        by : (b : Bool) → gathered_at f end ≡ gather b (between f end r) (gathered_at f r) → one ≡ bool_byte b → (count + length (messages_at f end) ≡ count + one + length (messages_at f r)) × (one ≤ 1)
        by true here n = (omega (arith, ap (λ (g : Gathered). length g.messages) here), omega arith)
        by false here n = (omega (arith, ap (λ (g : Gathered). length g.messages) here), omega arith)

-- a test counts for one at most
pub one-at-most : (b : Bool) → bool_byte b ≤ 1
one-at-most true = omega arith
one-at-most false = omega arith

-- ---- whether something stands before the first message
pub started-is : (f : List ℕ) (at r : ℕ) {frame msh : Bool} → at ≤ length f → LineEnds f at r → frame ≡ is_frame (between f at r) → msh ≡ is_msh (between f at r)
    → (eqb (length (between f at r)) 0 || frame || msh) ≡ is_none (gathered_at f at).before
unfolding gather
started-is f at r {frame} {msh} h l a b = by (dec_lt at (length f))
  where
    of : at < length f → (x y : Bool) → is_frame (between f at r) ≡ x → is_msh (between f at r) ≡ y → (eqb (length (between f at r)) 0 || x || y) ≡ is_none (gathered_at f at).before
    of more true y p q = rw (gathered_frame f at r l more p) (or_true (eqb (length (between f at r)) 0) y)
    of more false true p q = rw (gathered-line f at r l more p q) (or_last (eqb (length (between f at r)) 0))
    of more false false p q =
        let long = line-long f at r l more in
        let none : eqb (length (between f at r)) 0 ≡ false = ne_eqb (length (between f at r)) 0 (λ e. omega (arith, e)) in
        let some : eqb (length (between f at r ++ (gathered_at f r).before)) 0 ≡ false = ne_eqb (length (between f at r ++ (gathered_at f r).before)) 0 (λ e. omega (arith, e, length-append (between f at r) (gathered_at f r).before)) in
        rw (gathered-line f at r l more p q, none, some)

    by : Dec (at < length f) → (eqb (length (between f at r)) 0 || frame || msh) ≡ is_none (gathered_at f at).before
    by (yes more) = rw (a, b) (of more (is_frame (between f at r)) (is_msh (between f at r)) refl refl)
    by (no past) =
        let empty : eqb (length (between f at r)) 0 ≡ true = eq-eqb (length (between f at r)) 0 (omega (arith, length-take (r - at) (drop at f), length-drop at f)) in
        rw (gathered-over f at (omega arith), empty)
