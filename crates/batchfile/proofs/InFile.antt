-- Every file of the shape of a batch is put together from its own segments and messages, which are such as a batch can hold. Assumes nothing.
use mathlib.Core.Path.{◌≡◌, refl, sym, ap, subst, ◌∙◌}
use mathlib.Core.Bool.{Bool, true, false, cond, ◌||◌, true≢false}
use mathlib.Core.List.{List, [], ◌∷◌, ◌++◌, flatten, append-nil}
use Prim.Native.Nat.{ℕ, zero, suc, ◌+◌, ◌<◌}
use native.Mathlib.Omega.{arith}
use lib.ListN.{length, drop, length-append, get_or-append}
use lib.Seq.{get_or-append_seam, get_or-append-add}
use Rattle.hl7.specs.Text.{bytes}
use Rattle.hl7.specs.Bytes.{begins}
use Rattle.hl7.specs.Cut.{cut, part_at}
use Rattle.hl7.specs.Place.{carriage_return, delims_of, is_msh}
use Rattle.hl7.specs.Refusals.{row_at, first_row, passes, wrong_bytes, wrong_segments}
use Rattle.hl7.specs.declared.place.Delims.{Delims}
use Rattle.hl7.proofs.Comparing.{and_both}
use Rattle.hl7.proofs.Cutting.{first}
use Rattle.batchfile.specs.Messages.{lines_of, is_frame, nothing, gather, gathered}
use Rattle.batchfile.specs.Frame.{fhs_of, bhs_of, messages_in, bts_of, fts_of, keeps_rows, is_framed}
use Rattle.batchfile.proofs.Gathering.{or_true}
use Rattle.batchfile.proofs.CutBack.{flatten_append, is_closed, lines-joined, lines-append, Segment, lines_alone, lines-segments, rows_closed, to_frame, inner_of, asked, in_places, Sendable, file_of, Parts}

-- segments that have their CRs make up messages that a batch can hold, and what goes on with one
record GoesOn (s : List ℕ) : Type 0 where
  closed : is_closed s ≡ true
  others : (i : ℕ) → is_msh (part_at (lines_of s) i) ≡ false
  frameless : (i : ℕ) → is_frame (part_at (lines_of s) i) ≡ false

closed_append : (s t : List ℕ) → is_closed s ≡ true → is_closed t ≡ true → is_closed (s ++ t) ≡ true
unfolding is_closed
closed_append [] t e g = g
closed_append (x ∷ []) [] e g = e
closed_append (x ∷ []) (y ∷ t) e g = g
closed_append (x ∷ (y ∷ s)) t e g = closed_append (y ∷ s) t e g

goes_none : GoesOn []
unfolding is_closed lines_of is_frame begins
goes_none = record { closed = refl; others = λ i. refl; frameless = λ i. refl }

module _ (line s : List ℕ) (is : Segment line) (frameless : is_frame line ≡ false) (goes : GoesOn s) where
  lines_more : lines_of (line ++ s) ≡ line ∷ lines_of s
  lines_more = lines-append line s is.closed ∙ ap (λ (ls : List (List ℕ)). ls ++ lines_of s) is.alone

  none_named : (i : ℕ) → is_frame (part_at (lines_of (line ++ s)) i) ≡ false
  none_named i = rw lines_more (by i)
    where
      by : (i : ℕ) → is_frame (part_at (line ∷ lines_of s) i) ≡ false
      by zero = frameless
      by (suc i) = goes.frameless i

  goes_more : is_msh line ≡ false → GoesOn (line ++ s)
  goes_more e = record { closed = closed_append line s is.closed goes.closed; others = λ i. rw lines_more (by i); frameless = none_named }
    where
      by : (i : ℕ) → is_msh (part_at (line ∷ lines_of s) i) ≡ false
      by zero = e
      by (suc i) = goes.others i

  sendable_more : is_msh line ≡ true → Sendable (line ++ s)
  sendable_more e = record { closed = closed_append line s is.closed goes.closed; first = rw lines_more e; others = λ i. rw lines_more (goes.others i); frameless = none_named }

gathered_sendable : (lines : List (List ℕ)) → ((i : ℕ) → i < length (to_frame lines) → Segment (part_at (to_frame lines) i))
    → GoesOn (gathered lines).before × ((i : ℕ) → i < length (gathered lines).messages → Sendable (part_at (gathered lines).messages i))
unfolding to_frame gathered gather
gathered_sendable [] each = (goes_none, λ i h. absurd (omega arith))
gathered_sendable (line ∷ lines) each = by (is_frame line) (is_msh line) refl refl each (gathered_sendable lines)
  where
    by : (frame msh : Bool) → is_frame line ≡ frame → is_msh line ≡ msh → ((i : ℕ) → i < length (cond frame [] (line ∷ to_frame lines)) → Segment (part_at (cond frame [] (line ∷ to_frame lines)) i))
        → (((i : ℕ) → i < length (to_frame lines) → Segment (part_at (to_frame lines) i)) → GoesOn (gathered lines).before × ((i : ℕ) → i < length (gathered lines).messages → Sendable (part_at (gathered lines).messages i)))
        → GoesOn (cond frame nothing (gather msh line (gathered lines))).before
        × ((i : ℕ) → i < length (cond frame nothing (gather msh line (gathered lines))).messages → Sendable (part_at (cond frame nothing (gather msh line (gathered lines))).messages i))
    by true msh e g each ih = (goes_none, λ i h. absurd (omega arith))
    by false true e g each ih =
        let rest = ih (λ i h. each (suc i) (omega arith)) in
        (goes_none, one (sendable_more line (gathered lines).before (each 0 (omega arith)) e rest.0 g) rest.1)
      where
        one : Sendable (line ++ (gathered lines).before) → ((i : ℕ) → i < length (gathered lines).messages → Sendable (part_at (gathered lines).messages i))
            → (i : ℕ) → i < length ((line ++ (gathered lines).before) ∷ (gathered lines).messages) → Sendable (part_at ((line ++ (gathered lines).before) ∷ (gathered lines).messages) i)
        one first others zero h = first
        one first others (suc i) h = others i (omega arith)
    by false false e g each ih = let rest = ih (λ i h. each (suc i) (omega arith)) in (goes_more line (gathered lines).before (each 0 (omega arith)) e rest.0 g, rest.1)

bts_frame : (line : List ℕ) → begins (bytes "BTS") line ≡ true → is_frame line ≡ true
unfolding is_frame
bts_frame line e = rw e (or_true (begins (bytes "FHS") line || begins (bytes "BHS") line) (begins (bytes "FTS") line))

kept-segments : (d : Delims) (line : List ℕ) → keeps_rows d line ≡ true → wrong_segments d 0 (cut carriage_return line) ≡ []
unfolding keeps_rows first_row
kept-segments d line e = by (wrong_bytes 0 line) (wrong_segments d 0 (cut carriage_return line)) e
  where
    by : (bytes segs : List ℕ) → passes (row_at 3 bytes ∷ row_at 5 segs ∷ []) ≡ true → segs ≡ []
    by [] [] e = refl
    by [] (y ∷ segs) e = absurd (true≢false (sym e))
    by (x ∷ bytes) segs e = absurd (true≢false (sym e))

module _ (f : List ℕ) (framed : is_framed f ≡ true) where
  size : length (lines_of f) ≡ 4 + length (inner_of f)
  size = omega (arith, ap (λ (ls : List (List ℕ)). length ls) (in_places f framed).lines, length-append (inner_of f) (bts_of f ∷ fts_of f ∷ []))

  -- where the segments behind the first two stand
  inner-at : (i : ℕ) → part_at (lines_of f) (suc (suc i)) ≡ part_at (inner_of f ++ (bts_of f ∷ fts_of f ∷ [])) i
  inner-at i = ap (λ (ls : List (List ℕ)). part_at ls (suc (suc i))) (in_places f framed).lines

  inner-segments : (i : ℕ) → i < length (inner_of f) → Segment (part_at (inner_of f) i)
  inner-segments i h = subst Segment (inner-at i ∙ get_or-append (inner_of f) (bts_of f ∷ fts_of f ∷ []) [] i h) (lines-segments f (suc (suc i)) (omega (arith, size)))

  -- its own segments and messages are such as a file is put together from
  pub in_parts : Parts (fhs_of f) (bhs_of f) (messages_in f) (bts_of f) (fts_of f)
  in_parts =
      let n = length (inner_of f) in
      let third : part_at (lines_of f) (suc (suc n)) ≡ bts_of f = inner-at n ∙ get_or-append_seam (inner_of f) (bts_of f) (fts_of f ∷ []) [] in
      let fourth : part_at (lines_of f) (suc (suc (n + 1))) ≡ fts_of f = inner-at (n + 1) ∙ get_or-append-add (inner_of f) (bts_of f ∷ fts_of f ∷ []) 1 [] in
      let kept = kept-segments (delims_of f) (fts_of f) (and_both (begins (bytes "FTS") (fts_of f)) (keeps_rows (delims_of f) (fts_of f)) (asked f framed).fourth).1 in
      record {
        first = lines-segments f 0 (omega (arith, size));
        second = lines-segments f 1 (omega (arith, size));
        messages = (gathered_sendable (drop 2 (lines_of f)) inner-segments).1;
        third = subst Segment third (lines-segments f (suc (suc n)) (omega (arith, size)));
        framing = bts_frame (bts_of f) (in_places f framed).bts;
        fourth = record {
          alone = subst (λ (line : List ℕ). lines_of line ≡ line ∷ []) fourth (lines_alone f (suc (suc (n + 1))) (omega (arith, size)));
          closed = rows_closed (delims_of f) (fts_of f) kept;
        };
      }

  -- and it is the file put together from them
  pub in_file : f ≡ file_of (fhs_of f) (bhs_of f) (messages_in f) (bts_of f) (fts_of f)
  unfolding flatten
  in_file =
      sym (lines-joined f)
      ∙ ap flatten (in_places f framed).lines
      ∙ rw (flatten_append (inner_of f) (bts_of f ∷ fts_of f ∷ []), append-nil (fts_of f), (in_places f framed).messages)
