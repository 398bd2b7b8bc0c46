-- Packing loses nothing: of every answer, number and detail can be had back from the code, and of every place start and length. Assumes nothing.
use mathlib.Core.Path.{◌≡◌, refl, sym, ap, subst, ◌∙◌}
use mathlib.Core.Bool.{Bool, true, false}
use mathlib.Core.List.{List}
use Prim.Native.Nat.{ℕ, ◌+◌, ◌-◌, ◌/◌, ◌%◌, ◌^◌, ◌≤◌, ◌<◌}
use native.Mathlib.Omega.{arith}
use lib.ListN.{length, drop, length-take, length-drop}
use Rattle.hl7.specs.Cut.{Piece}
use Rattle.hl7.specs.Spans.{Spans}
use Rattle.hl7.specs.Refusals.{message_limit, Told, first_row, message_rows, is_sound, located}
use Rattle.hl7.specs.declared.cut.Span.{Span}
use Rattle.hl7.proofs.Refusing.{reading_bounded, sound-short, located-refused}
use Rattle.grade.specs.Table.{grade_into}
use Rattle.grade.specs.declared.finding.Finding.{Finding}
use Rattle.grade.proofs.Tabling.{graded_bounded}
use Rattle.ack.specs.Answers.{Outcome, outcome}
use Rattle.ack.specs.Records.{write_from}
use Rattle.ack.specs.Lamp.{lamp_of}
use Rattle.ack.proofs.RecordLaws.{record_bounded}
use Rattle.ack.proofs.YesOrNo.{lamp_bounded}
use Rattle.batchfile.specs.Batch.{batch_of}
use Rattle.batchfile.proofs.Bounds.{batch_bounded}
use Rattle.booktext.specs.Refusals.{Outcome as BookOutcome, compile_of}
use Rattle.booktext.specs.Faults.{Told as BookTold}
use Rattle.booktext.proofs.Bounds.{Packs, is_length, compile_packs}
use Rattle.canonical.specs.Shown.{show_of}
use Rattle.canonical.proofs.Bounds.{show_packs}
use Rattle.difference.specs.Difference.{diff_of}
use Rattle.difference.proofs.Bounds.{diff_packs}
use Rattle.legend.specs.Legend.{legend_of}
use Rattle.legend.proofs.Answering.{legend_packs}
use Rattle.grade.proofs.Encoded.{Bytes}
use Rattle.jasminedo.specs.Packed.{packed, packed_place, packed_span, packed_told}

-- ---- answers
packed_back : (t : Told) → t.number < 256 → (packed t % 256 ≡ t.number) × (packed t / 256 ≡ t.detail)
packed_back t h = (omega arith, omega arith)

-- the number of every answer is its code modulo 256, and the detail its code over 256
pub grade_unpacked : (m b : List ℕ) (table : List Finding)
    → (packed (grade_into m b table).told % 256 ≡ (grade_into m b table).told.number) × (packed (grade_into m b table).told / 256 ≡ (grade_into m b table).told.detail)
grade_unpacked m b table =
    let bounded = graded_bounded m b table in
    packed_back (grade_into m b table).told (omega arith)

pub write_unpacked : (m : List ℕ) (table : List Finding) (count : ℕ) → count < 2 ^ 32 → (stamp : List ℕ) (control : ℕ) (out : List ℕ)
    → (packed (write_from m table count stamp control out).told % 256 ≡ (write_from m table count stamp control out).told.number)
    × (packed (write_from m table count stamp control out).told / 256 ≡ (write_from m table count stamp control out).told.detail)
write_unpacked m table count few stamp control out =
    let bounded = record_bounded m table count stamp control out few in
    packed_back (write_from m table count stamp control out).told (omega arith)

pub batch_unpacked : (f b stamp : List ℕ) (control : ℕ) (out : List ℕ)
    → (packed (batch_of f b stamp control out).told % 256 ≡ (batch_of f b stamp control out).told.number) × (packed (batch_of f b stamp control out).told / 256 ≡ (batch_of f b stamp control out).told.detail)
batch_unpacked f b stamp control out =
    let bounded = batch_bounded f b stamp control out in
    packed_back (batch_of f b stamp control out).told (omega arith)

pub reading_unpacked : (m : List ℕ) → (packed (first_row (message_rows m)) % 256 ≡ (first_row (message_rows m)).number) × (packed (first_row (message_rows m)) / 256 ≡ (first_row (message_rows m)).detail)
reading_unpacked m = let bounded = reading_bounded m in packed_back (first_row (message_rows m)) (omega arith)

pub lamp_unpacked : (m b stamp : List ℕ) → (packed (lamp_of m b stamp) % 256 ≡ (lamp_of m b stamp).number) × (packed (lamp_of m b stamp) / 256 ≡ (lamp_of m b stamp).detail)
lamp_unpacked m b stamp = let bounded = lamp_bounded m b stamp in packed_back (lamp_of m b stamp) (omega arith)

-- ---- answers, in the words of the code
module _ {o : Outcome} {t : Told} {after : List ℕ} (w : outcome t after ≡ o) where
  given-small : o.told.detail ≤ 2 ^ 52 → t.detail ≤ 2 ^ 52
  given-small = subst (λ (n : ℕ). n ≤ 2 ^ 52) (sym (ap (λ (o : Outcome). o.told.detail) w))

  pub given-packed : {code : ℕ} → code ≡ packed t → (code ≡ packed o.told) × (after ≡ o.output)
  given-packed e = (e ∙ ap (λ (o : Outcome). packed o.told) w, ap (λ (o : Outcome). o.output) w)

pub batch_small : (f b stamp : List ℕ) (control : ℕ) (out : List ℕ) {t : Told} {after : List ℕ} → outcome t after ≡ batch_of f b stamp control out → t.detail ≤ 2 ^ 52
batch_small f b stamp control out w = given-small w (batch_bounded f b stamp control out).1

pub table-small : (m b : List ℕ) (table : List Finding) {told : Told} → told ≡ (grade_into m b table).told → told.detail ≤ 2 ^ 52
table-small m b table w = subst (λ (n : ℕ). n ≤ 2 ^ 52) (sym (ap (λ (t : Told). t.detail) w)) (graded_bounded m b table).1

pub record_small : (m : List ℕ) (table : List Finding) (count : ℕ) → count < 2 ^ 32 → (stamp : List ℕ) (control : ℕ) (out : List ℕ) {t : Told} {after : List ℕ}
    → outcome t after ≡ write_from m table count stamp control out → t.detail ≤ 2 ^ 52
record_small m table count few stamp control out w = let bounded = record_bounded m table count stamp control out few in given-small w (omega arith)

module _ {t told : Told} (w : told ≡ t) where
  told-within : t.detail ≤ message_limit + 1 → told.detail ≤ 2 ^ 52
  told-within h = let same = ap (λ (t : Told). t.detail) w in omega arith

  pub paper-packed : {code : ℕ} → code ≡ packed told → code ≡ packed t
  paper-packed e = e ∙ ap packed w

pub reading_small : (m : List ℕ) {told : Told} → told ≡ first_row (message_rows m) → told.detail ≤ 2 ^ 52
reading_small m w = told-within w (reading_bounded m).1

pub lamp_small : (m b stamp : List ℕ) {told : Told} → told ≡ lamp_of m b stamp → told.detail ≤ 2 ^ 52
lamp_small m b stamp w = told-within w (lamp_bounded m b stamp).1

-- ---- places
module _ {m : List ℕ} {p : Piece} {x : Span} (w : Spans m p x) where
  spans_length : length p.bytes ≡ x.end - x.start
  spans_length = sym (ap length w.bytes) ∙ length-take (x.end - x.start) (drop x.start m) ∙ omega (arith, length-drop x.start m, w.forward, w.inside)

  pub place-packed : {code : ℕ} → code ≡ packed_span x → code ≡ packed_place p
  place-packed e = omega (arith, e, w.start, spans_length)

pub place-small : (m : List ℕ) (n f r c : ℕ) {x : Span} → Spans m (located m n f r c) x → x.end ≤ message_limit
place-small m n f r c {x} w = by (is_sound m) refl
  where
    by : (sound : Bool) → is_sound m ≡ sound → x.end ≤ message_limit
    by true e = omega (arith, w.inside, sound-short m e)
    by false e =
        let nothing = located-refused m n f r c e in
        omega (arith, w.start ∙ ap (λ (p : Piece). p.start) nothing, sym (spans_length w) ∙ ap (λ (p : Piece). length p.bytes) nothing)

-- the length of every place is its code modulo 65,536, and the start its code over 65,536
pub place_unpacked : (m : List ℕ) (n f r c : ℕ) {x : Span} → Spans m (located m n f r c) x
    → (packed_place (located m n f r c) % 65536 ≡ length (located m n f r c).bytes) × (packed_place (located m n f r c) / 65536 ≡ (located m n f r c).start)
place_unpacked m n f r c w =
    let long = spans_length w in
    let small = place-small m n f r c w in
    (omega arith, omega arith)

-- ---- texts and books
-- the number is the code modulo 256; a length is the code over 256; with any other number a line is the four bytes of that, and the section's line what stands above them
abbrev pub Unpacks : BookTold → Type 0
Unpacks told =
    (packed_told told % 256 ≡ told.number)
    × (is_length told.number ≡ true → packed_told told / 256 ≡ told.detail)
    × (is_length told.number ≡ false → (packed_told told / 256 % 4294967296 ≡ told.detail) × (packed_told told / 1099511627776 ≡ told.section))

unpacks : {told : BookTold} → Packs told → Unpacks told
unpacks p =
    let n = p.number in (
      omega arith,
      λ e. let alone = p.lengths e in omega arith,
      λ e. let short = p.lines e in (omega arith, omega arith),
    )

pub compile_unpacked : (t out : List ℕ) → Unpacks (compile_of t out).told
compile_unpacked t out = unpacks (compile_packs t out)

pub legend_unpacked : (t out : List ℕ) → Unpacks (legend_of t out).told
legend_unpacked t out = unpacks (legend_packs t out)

-- of a book neither line nor section is told
pub show_unpacked : (b : List ℕ) → Bytes b → (out : List ℕ) → Unpacks (show_of b out).told
show_unpacked b is out = unpacks (show_packs b is out)

-- the line of a refused book is which of the two it is
pub diff_unpacked : (old new : List ℕ) → Bytes old → Bytes new → (out : List ℕ) → Unpacks (diff_of old new out).told
diff_unpacked old new is are out = unpacks (diff_packs old new is are out)

-- in the words of the code
module _ (o : BookOutcome) (p : Packs o.told) {r : BookTold} {after : List ℕ} (w : (r ≡ o.told) × (after ≡ o.output)) where
  pub told-small : (r.number ≤ 56) × (r.detail ≤ 2 ^ 48) × (r.section ≤ 1048577)
  told-small = subst (λ (x : BookTold). (x.number ≤ 56) × (x.detail ≤ 2 ^ 48) × (x.section ≤ 1048577)) (sym w.0) (p.number, p.detail, p.section)

  pub told-packed : {code : ℕ} → code ≡ packed_told r → (code ≡ packed_told o.told) × (after ≡ o.output)
  told-packed e = (e ∙ ap packed_told w.0, w.1)
