-- Laws of what comparing two books answers: a refusal of either, or the lines in the output. Assumes nothing.
use mathlib.Core.Path.{◌≡◌, sym, ap, ap₂, ◌∙◌}
use mathlib.Core.Bool.{Bool, true, false, cond}
use mathlib.Core.List.{List, [], ◌++◌, map}
use Prim.Native.Nat.{ℕ, ◌≤◌, ◌<◌}
use native.Mathlib.Omega.{arith}
use lib.ListN.{length, take}
use borrow.Author.Tests.{ne_eqb}
use Rattle.hl7.specs.Refusals.{Told as RowTold, told as row_told, first_row}
use Rattle.grade.specs.Admission.{Indexed, indexed_told}
use Rattle.grade.specs.Book.{Contents, decoded, malformed, other_version}
use Rattle.grade.specs.Standing.{contents_at, Indexes}
use Rattle.grade.proofs.Encoded.{Bytes}
use Rattle.ack.specs.Splice.{Wrote, limit}
use Rattle.ack.proofs.Writing.{wrote_as}
use Rattle.booktext.specs.Faults.{Told, tell, nothing, firstly}
use Rattle.booktext.specs.Refusals.{Outcome, outcome, unless_refused, written}
use Rattle.booktext.proofs.Answering.{measured_short, measured_done}
use Rattle.canonical.specs.Shown.{printed}
use Rattle.canonical.proofs.PutBook.{book-listed}
use Rattle.difference.specs.Difference.{differences, book_told, diff_of}
use Rattle.difference.specs.Ruled.{Opened}
use Rattle.difference.proofs.Bounds.{diff_short}
use Rattle.std.specs.Prelude.{Ok}

-- ---- a book, by what `index_book` answers
pub opened : (b starts : List ℕ) {r : Indexed} → Indexes b starts r → {count : ℕ} → r ≡ Ok count → Opened b (take count starts)
opened b starts is of = let w = book-listed b starts is of in record { stand = w.0; say = w.1; formed = w.2; version = w.3 }

-- why it is refused
module _ (which : ℕ) (b starts : List ℕ) {r q : Indexed} (is : Indexes b starts r) (at : r ≡ q) (some : (indexed_told q).number ≡ 0 → ⊥) {told : Told} (e : told ≡ tell (indexed_told q).number which 0) where
  refused : (told ≡ book_told which b) × ((book_told which b).number ≡ 0 → ⊥)
  unfolding first_row
  refused = by (malformed b) (other_version b) (sym (ap (λ (x : Indexed). (indexed_told x).number) at) ∙ ap (λ (t : RowTold). t.number) is.told_is)
    where
      by : (m v : Bool) → (indexed_told q).number ≡ (cond m (row_told 7 0) (cond v (row_told 8 0) (row_told 0 0))).number
          → (told ≡ cond m (tell 7 which 0) (cond v (tell 8 which 0) nothing)) × ((cond m (tell 7 which 0) (cond v (tell 8 which 0) nothing)).number ≡ 0 → ⊥)
      by true v n = (e ∙ ap (λ (k : ℕ). tell k which 0) n, λ z. absurd (omega (arith, z)))
      by false true n = (e ∙ ap (λ (k : ℕ). tell k which 0) n, λ z. absurd (omega (arith, z)))
      by false false n = absurd (some n)

-- what is told of two books, and the output
abbrev pub Answers : (old new out : List ℕ) → Told → List ℕ → Type 0
Answers old new out told after = (told ≡ (diff_of old new out).told) × (after ≡ (diff_of old new out).output)

unless-is : (told : Told) (text out : List ℕ) → (told.number ≡ 0 → ⊥) → unless_refused told text out ≡ outcome told out
unless-is told text out some = rw (ne_eqb told.number 0 some)

pub old_refused : (old starts new out : List ℕ) {r q : Indexed} → Indexes old starts r → r ≡ q → ((indexed_told q).number ≡ 0 → ⊥) → {told : Told} → told ≡ tell (indexed_told q).number 1 0 → Answers old new out told out
unfolding diff_of
old_refused old starts new out is at some e =
    let w = refused 1 old starts is at some e in
    let text = printed (differences (decoded old) (decoded new)) in
    let all : unless_refused (firstly (book_told 1 old) (book_told 2 new)) text out ≡ outcome (book_told 1 old) out =
    ap (λ (b : Bool). unless_refused (cond b (book_told 2 new) (book_told 1 old)) text out) (ne_eqb (book_told 1 old).number 0 w.1) ∙ unless-is (book_told 1 old) text out w.1 in
    (w.0 ∙ sym (ap (λ (x : Outcome). x.told) all), sym (ap (λ (x : Outcome). x.output) all))

module _ (old olds : List ℕ) (first : Opened old olds) where
  old_passes : book_told 1 old ≡ nothing
  old_passes = rw (first.formed, first.version)

  first_passes : (new : List ℕ) → firstly (book_told 1 old) (book_told 2 new) ≡ book_told 2 new
  first_passes new = ap (λ (t : Told). firstly t (book_told 2 new)) old_passes

  pub new_refused : (new starts out : List ℕ) {r q : Indexed} → Indexes new starts r → r ≡ q → ((indexed_told q).number ≡ 0 → ⊥) → {told : Told} → told ≡ tell (indexed_told q).number 2 0 → Answers old new out told out
  unfolding diff_of
  new_refused new starts out is at some e =
      let w = refused 2 new starts is at some e in
      let text = printed (differences (decoded old) (decoded new)) in
      let all : unless_refused (firstly (book_told 1 old) (book_told 2 new)) text out ≡ outcome (book_told 2 new) out =
      ap (λ (t : Told). unless_refused t text out) (first_passes new) ∙ unless-is (book_told 2 new) text out w.1 in
      (w.0 ∙ sym (ap (λ (x : Outcome). x.told) all), sym (ap (λ (x : Outcome). x.output) all))

  -- ---- both can be used
  module _ (new news : List ℕ) (second : Opened new news) where
    abbrev text : List ℕ
    text = printed (differences (decoded old) (decoded new))

    diff_is : (out : List ℕ) → diff_of old new out ≡ written text out
    unfolding diff_of
    diff_is out = ap (λ (t : Told). unless_refused t text out) (first_passes new) ∙ rw (second.formed, second.version)

    -- what was written of the sections at the positions
    abbrev listed : List ℕ
    listed = printed (differences (map (contents_at old) olds) (map (contents_at new) news))

    as_decoded : {o p : List ℕ} {at next : ℕ} → Wrote o at listed p next → Wrote o at text p next
    as_decoded w = wrote_as w (ap₂ (λ (x y : List Contents). printed (differences x y)) (sym first.say) (sym second.say))

    module _ (is : Bytes old) (are : Bytes new) (out : List ℕ) {p : List ℕ} {size : ℕ} (w : Wrote [] 0 listed p size) where
      text-short : length text < limit
      text-short = omega (arith, diff_short old new is are (first.formed, first.version) (second.formed, second.version))

      as_told : {told : Told} {after : List ℕ} → (told ≡ (written text out).told) × (after ≡ (written text out).output) → Answers old new out told after
      as_told v = rw (diff_is out) v

      pub diff_long : {told : Told} → length (p ++ out) < size → told ≡ tell 55 size 0 → Answers old new out told (p ++ out)
      diff_long h e = as_told (measured_short text text-short out (as_decoded w) h e)

      pub diff_put : {told : Told} → size ≤ length (p ++ out) → {after : List ℕ} {next : ℕ} → Wrote (p ++ out) 0 listed after next → told ≡ tell 0 size 0 → Answers old new out told after
      diff_put h v e = as_told (measured_done text text-short out (as_decoded w) h e (as_decoded v))
