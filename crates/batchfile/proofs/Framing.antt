-- Laws of `specs/Frame.antt`, in the words of the code: the counts, the frame segments, where they stand. Assumes nothing.
use mathlib.Core.Path.{◌≡◌, refl, ap, ap₂, sym, ◌∙◌}
use mathlib.Core.Bool.{Bool, true, false, not, ◌&&◌, ◌||◌, true≢false}
use mathlib.Core.List.{List, [], ◌∷◌}
use Prim.Native.Nat.{ℕ, ◌<◌, min}
use native.Mathlib.Omega.{arith}
use native.Mathlib.Decide.{dec_lt}
use lib.Dec.{eqb}
use lib.ListN.{length, drop}
use borrow.Author.Tests.{ne_eqb}
use Rattle.std.specs.Prelude.{Option, is_some as is_there}
use Rattle.hl7.specs.Text.{bytes}
use Rattle.hl7.specs.Bytes.{is_digit, all}
use Rattle.hl7.specs.Counted.{too_large}
use Rattle.hl7.specs.Cut.{cut, part_at}
use Rattle.hl7.specs.Delimiters.{opens}
use Rattle.hl7.specs.Number.{value_of}
use Rattle.hl7.specs.Place.{carriage_return, delims_of, segment_of, field_of}
use Rattle.hl7.specs.Refusals.{is_some, row_at, first_row, passes, first_of, wrong_bytes, wrong_segments}
use Rattle.hl7.specs.Spans.{between, Spans}
use Rattle.hl7.specs.declared.cut.Span.{Span}
use Rattle.hl7.specs.declared.place.Delims.{Delims}
use Rattle.batchfile.specs.Messages.{lines_of, gathered, from_frame}
use Rattle.batchfile.specs.Frame.{trailer_of, keeps_rows, is_segment, is_none, is_framed, is_count, count_in, is_counted}
use Rattle.batchfile.specs.Walk.{lines_at, gathered_at, LineEnds, BodyEnds, Framing}
use Rattle.batchfile.specs.declared.frame.Body.{Body}
use Rattle.batchfile.specs.declared.frame.Frame.{Frame}
use Rattle.batchfile.proofs.Gathering.{lines_none}

-- ---- counts
count-told : (v n : ℕ) → n < too_large → eqb (min v too_large) n ≡ eqb v n
count-told v n h = by (dec_lt v too_large)
  where
    by : Dec (v < too_large) → eqb (min v too_large) n ≡ eqb v n
    by (yes near) = let e : min v too_large ≡ v = omega arith in rw e
    by (no far) = let e : min v too_large ≡ too_large = omega arith in rw (e, ne_eqb too_large n (λ q. omega (arith, q)), ne_eqb v n (λ q. omega (arith, q)))

pub asked_count : (field : List ℕ) (n : ℕ) {every : Bool} {value : ℕ} → n < too_large → (every ≡ all is_digit field) × (value ≡ min (value_of field) too_large) → (eqb (length field) 0 || (every && eqb value n)) ≡ is_count n field
unfolding is_count
asked_count field n h is = rw (is.0, is.1, count-told (value_of field) n h)

-- field 1 of a segment, by where it stands there
pub counted_in : (d : Delims) (line : List ℕ) (n : ℕ) {seg : List ℕ} {span : Span} {r : Bool} → seg ≡ (segment_of line 1).bytes → Spans seg (field_of d seg 1) span → r ≡ is_count n (between seg span.start span.end) → r ≡ is_count n (count_in d line)
counted_in d line n is first r = r ∙ ap (is_count n) first.bytes ∙ ap (λ (s : List ℕ). is_count n (field_of d s 1).bytes) is

-- ---- frame segments
none_asked : (positions : List ℕ) (r : Bool) {found : Option ℕ} → found ≡ first_of positions → is_there found ≡ not r → r ≡ not (is_some positions)
none_asked [] true e f = refl
none_asked [] false e f = absurd (true≢false (sym f ∙ ap is_there e))
none_asked (x ∷ l) true e f = absurd (true≢false (sym (ap is_there e) ∙ f))
none_asked (x ∷ l) false e f = refl

pub asked_rows : (d : Delims) (line : List ℕ) (a b : Bool) {byte seg : Option ℕ} → byte ≡ first_of (wrong_bytes 0 line) → is_there byte ≡ not a → seg ≡ first_of (wrong_segments d 0 (cut carriage_return line)) → is_there seg ≡ not b → (a && b) ≡ keeps_rows d line
unfolding keeps_rows first_row
asked_rows d line a b p r q t =
    ap₂ ◌&&◌ (none_asked (wrong_bytes 0 line) a p r) (none_asked (wrong_segments d 0 (cut carriage_return line)) b q t) ∙ both (wrong_bytes 0 line) (wrong_segments d 0 (cut carriage_return line))
  where
    both : (bytes segs : List ℕ) → (not (is_some bytes) && not (is_some segs)) ≡ passes (row_at 3 bytes ∷ row_at 5 segs ∷ [])
    both [] [] = refl
    both [] (y ∷ segs) = refl
    both (x ∷ bytes) segs = refl

-- ---- where they stand
next-part : (ls : List (List ℕ)) → part_at (drop 1 ls) 0 ≡ part_at ls 1
next-part [] = refl
next-part (x ∷ ls) = refl

next-others : (ls : List (List ℕ)) → drop 1 (drop 1 ls) ≡ drop 2 ls
next-others [] = refl
next-others (x ∷ ls) = refl

pub frame_stands : (f : List ℕ) {bhs start fts over : ℕ} {body : Body} → LineEnds f 0 bhs → LineEnds f bhs start → BodyEnds f start body → LineEnds f body.end fts → LineEnds f fts over
    → Framing f (record { bhs = bhs; start = start; end = body.end; fts = fts; over = over; count = body.count })
frame_stands f {start = start} {body = body} first second messages third fourth =
    let heads : lines_at f start ≡ drop 2 (lines_of f) = second.others ∙ ap (λ (ls : List (List ℕ)). drop 1 ls) first.others ∙ next-others (lines_of f) in
    let trailer : lines_at f body.end ≡ trailer_of f = messages.others ∙ ap from_frame heads in
    let bhs-in = first.onward.within (omega arith) in
    let start-in = second.onward.within bhs-in in
    let end-in = messages.within start-in in
    let fts-in = third.onward.within end-in in
    record {
      forward = (second.onward.forward, messages.forward, third.onward.forward, fourth.onward.forward, fourth.onward.within fts-in);
      fhs = first.line;
      bhs = second.line ∙ ap (λ (ls : List (List ℕ)). part_at ls 0) first.others ∙ next-part (lines_of f);
      body = heads;
      count = messages.count ∙ ap (λ (ls : List (List ℕ)). length (gathered ls).messages) heads;
      few = omega (arith, messages.few, end-in);
      bts = third.line ∙ ap (λ (ls : List (List ℕ)). part_at ls 0) trailer;
      fts = fourth.line ∙ ap (λ (ls : List (List ℕ)). part_at ls 0) third.others ∙ next-part (lines_at f body.end) ∙ ap (λ (ls : List (List ℕ)). part_at ls 1) trailer;
      after = fourth.others ∙ ap (λ (ls : List (List ℕ)). drop 1 ls) third.others ∙ next-others (lines_at f body.end) ∙ ap (λ (ls : List (List ℕ)). drop 2 ls) trailer;
    }

module _ (f : List ℕ) (r : Frame) (w : Framing f r) where
  -- each question of the definition, of the bytes where the part stands
  pub asked_framed : {d : Delims} {opened kept second started third fourth : Bool} → d ≡ delims_of f → opened ≡ opens (bytes "FHS") f → kept ≡ keeps_rows d (between f 0 r.bhs)
      → second ≡ is_segment d (bytes "BHS") (between f r.bhs r.start) → started ≡ is_none (gathered_at f r.start).before
      → third ≡ is_segment d (bytes "BTS") (between f r.end r.fts) → fourth ≡ is_segment d (bytes "FTS") (between f r.fts r.over)
      → (opened && kept && second && started && third && fourth && eqb r.over (length f)) ≡ is_framed f
  unfolding is_framed
  asked_framed {d} own a b c e g h =
      let over : eqb r.over (length f) ≡ is_none (drop 2 (trailer_of f)) = lines_none f r.over w.forward.4 ∙ ap (λ (ls : List (List ℕ)). is_none ls) w.after in
      rw (a, b, c, e, g, h, over, own, w.fhs, w.bhs, w.body, w.bts, w.fts)

  pub asked_counted : {d : Delims} {third fourth : Bool} → d ≡ delims_of f → third ≡ is_count r.count (count_in d (between f r.end r.fts)) → fourth ≡ is_count 1 (count_in d (between f r.fts r.over))
      → (third && fourth) ≡ is_counted f
  unfolding is_counted
  asked_counted own a b = rw (a, b, own, w.bts, w.fts, w.count)
