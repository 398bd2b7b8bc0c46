-- Laws of `specs/Place.antt`, each in the words of the code that cites it: the tests that it made. Assumes nothing.
use mathlib.Core.Path.{◌≡◌, refl, sym, ap, subst, ◌∙◌}
use mathlib.Core.Bool.{Bool, true, false}
use mathlib.Core.List.{List, [], ◌∷◌}
use Prim.Native.Nat.{ℕ, zero, suc, ◌+◌, ◌-◌, ◌≤◌, ◌<◌}
use native.Mathlib.Omega.{arith}
use lib.ListN.{length, get_or, take, drop, drop_of_length-le}
use denote.Ref.{Bor}
use denote.Slice.{slice_val, shr_slice_vals}
use borrow.Author.Tests.{le-leb, lt-leb}
use Rattle.hl7.specs.declared.place.Delims.{Delims}
use Rattle.hl7.specs.declared.place.FieldAt.{FieldAt}
use Rattle.hl7.specs.declared.place.FieldAt.TheVariants.{Missing, Bar, Part}
use Rattle.hl7.specs.declared.cut.Span.{Span}
use Rattle.hl7.specs.Cut.{cut, start_at, Piece, piece_at, missing}
use Rattle.hl7.specs.Place.{delims_of, carriage_return, nth_of, cut_unless, segment_of, is_msh, never_cut, part_of_field, field_of, repetition_of, component_of, in_field, in_segment, Lies}
use Rattle.hl7.specs.Spans.{between, Spans}
use Rattle.hl7.specs.Noted.{FieldIs}
use Rattle.hl7.specs.Text.{bytes}
use Rattle.hl7.proofs.Comparing.{begins-long}
use Rattle.hl7.proofs.Cutting.{Stands, piece_stands, stands-short, part-short, cut-few, spans_as}

-- ---- the delimiters
pub delims_are : (m : List ℕ) {a b c e f : ℕ} → a ≡ get_or m 3 0 → b ≡ get_or m 4 0 → c ≡ get_or m 5 0 → e ≡ get_or m 6 0 → f ≡ get_or m 7 0 → record { bar = a; caret = b; tilde = c; backslash = e; ampersand = f } ≡ delims_of m
unfolding delims_of
delims_are m p q r s t i = record { bar = p i; caret = q i; tilde = r i; backslash = s i; ampersand = t i }

-- ---- part k of a list of parts, from 1
pub nth_zero : (s : List ℕ) (ps : List (List ℕ)) {k : ℕ} → k ≡ 0 → nth_of s ps k ≡ missing s
unfolding nth_of
nth_zero s ps e = rw e

pub nth_cut : (d : ℕ) (s : List ℕ) {b : Bool} {k : ℕ} → b ≡ false → (k ≡ 0 → ⊥) → nth_of s (cut_unless b d s) k ≡ piece_at (cut d s) (k - 1)
unfolding nth_of cut_unless
nth_cut d s {b} {k} e h =
    let positive : k ≡ suc (k - 1) = omega arith in
    rw e (ap (nth_of s (cut d s)) positive)

pub nth_whole : (d : ℕ) (s : List ℕ) {b : Bool} {k : ℕ} → b ≡ true → k ≡ 1 → nth_of s (cut_unless b d s) k ≡ record { start = 0; bytes = s }
unfolding nth_of cut_unless start_at
nth_whole d s e f = rw (e, f)

pub nth_past_whole : (d : ℕ) (s : List ℕ) {b : Bool} {k : ℕ} → b ≡ true → (k ≡ 0 → ⊥) → (k ≡ 1 → ⊥) → nth_of s (cut_unless b d s) k ≡ missing s
unfolding nth_of cut_unless start_at
nth_past_whole d s {b} {k} e h g =
    let large : k ≡ suc (suc (k - 2)) = omega arith in
    rw e (ap (nth_of s (s ∷ [])) large)

-- ---- the numbers of a segment's fields
pub msh-long : (s : List ℕ) → is_msh s ≡ true → 3 ≤ length s
msh-long s e = begins-long (bytes "MSH") s e

pub field_zero : (msh : Bool) (bar : ℕ) (seg : List ℕ) {f : ℕ} → f ≡ 0 → part_of_field msh bar seg f ≡ missing seg
unfolding part_of_field
field_zero msh bar seg e = rw e

pub field_bar : (bar : ℕ) (seg : List ℕ) {msh : Bool} → msh ≡ true → part_of_field msh bar seg 1 ≡ record { start = 3; bytes = between seg 3 4 }
unfolding part_of_field
field_bar bar seg e = rw e

pub field_no_bar : (bar : ℕ) (seg : List ℕ) {msh : Bool} → msh ≡ true → length seg ≡ 3 → part_of_field msh bar seg 1 ≡ record { start = 3; bytes = between seg 3 3 }
unfolding part_of_field
field_no_bar bar seg e l = rw (e, drop_of_length-le seg {i = 3} (omega arith))

pub field_msh : (bar : ℕ) (seg : List ℕ) {msh : Bool} {f : ℕ} → msh ≡ true → (f ≡ 0 → ⊥) → (f ≡ 1 → ⊥) → part_of_field msh bar seg f ≡ piece_at (cut bar seg) (f - 1)
unfolding part_of_field
field_msh bar seg {msh} {f} e h g =
    let large : f ≡ suc (suc (f - 2)) = omega arith in
    let one_less : suc (f - 2) ≡ f - 1 = omega arith in
    rw e (ap (part_of_field true bar seg) large ∙ ap (piece_at (cut bar seg)) one_less)

pub field_other : (bar : ℕ) (seg : List ℕ) {msh : Bool} {f : ℕ} → msh ≡ false → (f ≡ 0 → ⊥) → part_of_field msh bar seg f ≡ piece_at (cut bar seg) f
unfolding part_of_field
field_other bar seg {msh} {f} e h =
    let positive : f ≡ suc (f - 1) = omega arith in
    rw e (ap (part_of_field false bar seg) positive ∙ ap (piece_at (cut bar seg)) (sym positive))

-- what `field_at` answered, put to use: where the code found the field that it is
module _ (bar : ℕ) (seg : List ℕ) (f : ℕ) {msh : Bool} (a : FieldAt) (named : msh ≡ is_msh seg) (is : FieldIs msh f a) where
  pub at-missing : {r : Span} → a ≡ Missing → Spans seg (missing seg) r → Spans seg (part_of_field (is_msh seg) bar seg f) r
  at-missing e found = spans_as (field_zero (is_msh seg) bar seg (subst (FieldIs msh f) e is)) found

  pub at-bar-named : a ≡ Bar → is_msh seg ≡ true
  at-bar-named e = sym named ∙ (subst (FieldIs msh f) e is).0

  pub at-bar : {r : Span} → a ≡ Bar → Spans seg (part_of_field (is_msh seg) bar seg 1) r → Spans seg (part_of_field (is_msh seg) bar seg f) r
  at-bar e found = spans_as (ap (part_of_field (is_msh seg) bar seg) (subst (FieldIs msh f) e is).1) found

  pub at-part-few : (k : ℕ) → a ≡ Part k → k ≤ f
  at-part-few k e = (subst (FieldIs msh f) e is).1

-- ---- components
pub component-zero : (d : Delims) (b : Bool) (rep : List ℕ) {c : ℕ} → c ≡ 0 → component_of d b rep c ≡ record { start = 0; bytes = rep }
unfolding component_of
component-zero d b rep e = rw e

pub component-some : (d : Delims) (b : Bool) (rep : List ℕ) {c : ℕ} → (c ≡ 0 → ⊥) → component_of d b rep c ≡ nth_of rep (cut_unless b d.caret rep) c
unfolding component_of
component-some d b rep {c} h =
    let positive : c ≡ suc (c - 1) = omega arith in
    ap (component_of d b rep) positive ∙ ap (nth_of rep (cut_unless b d.caret rep)) (sym positive)

-- ---- what is never cut
pub cut_later : (seg : List ℕ) {f : ℕ} → 2 < f → never_cut seg f ≡ false
unfolding never_cut
cut_later seg {f} h = rw (lt-leb f 2 h)

pub cut_early : (seg : List ℕ) {f : ℕ} → f ≤ 2 → never_cut seg f ≡ is_msh seg
unfolding never_cut
cut_early seg {f} h = rw (le-leb f 2 h)

-- a component of a repetition of a field from the third on, which is cut whatever its segment is
pub in_cut : (d : Delims) (seg : List ℕ) (f r c : ℕ) {fld rep x : List ℕ} → 2 < f → fld ≡ (field_of d seg f).bytes → rep ≡ (repetition_of d false fld r).bytes → x ≡ (component_of d false rep c).bytes → x ≡ (in_segment d seg f r c).bytes
unfolding in_segment in_field
in_cut d seg f r c h of_field of-repetition of-component = rw (cut_later seg h, ← of_field, ← of-repetition) of-component

-- ---- how long, how many
pub segment-short : (m : List ℕ) (n : ℕ) → length (segment_of m n).bytes ≤ length m
unfolding nth_of cut_unless
segment-short m zero = omega arith
segment-short m (suc n) = part-short carriage_return m n

-- a field's bytes stand in its segment where it says
pub field_stands : (msh : Bool) (bar : ℕ) (seg : List ℕ) (f : ℕ) → Stands seg (part_of_field msh bar seg f)
unfolding part_of_field
field_stands msh bar seg zero = refl
field_stands true bar seg (suc zero) = front (drop 3 seg)
  where
    front : (l : List ℕ) → take (length (take 1 l)) l ≡ take 1 l
    front [] = refl
    front (x ∷ l) = refl
field_stands true bar seg (suc (suc k)) = piece_stands bar seg (suc k)
field_stands false bar seg (suc k) = piece_stands bar seg (suc k)

pub field_short : (msh : Bool) (bar : ℕ) (seg : List ℕ) (f : ℕ) → length (part_of_field msh bar seg f).bytes ≤ length seg
field_short msh bar seg f = stands-short seg (part_of_field msh bar seg f) (field_stands msh bar seg f)

pub whole-few : (b : Bool) (d : ℕ) (s : List ℕ) → length (cut_unless b d s) ≤ length s + 1
unfolding cut_unless
whole-few true d s = omega arith
whole-few false d s = cut-few d s

-- ---- a part of the lent slice itself
-- what the contract of `locate` allows, as every one by `Lies`, is one machine value: the same pointer and the same count, also of an empty part
pub locate_once : {s r q : Bor (List ℕ)} {p : Piece} → Lies s r p → Lies s q p → shr_slice_vals r ≡ shr_slice_vals q
locate_once {s} {r} {q} a b =
    let same_bytes : r.now ≡ q.now = a.bytes ∙ sym b.bytes in
    let same_block : r.ref_ptr.0 ≡ q.ref_ptr.0 = a.block ∙ sym b.block in
    let same-offset : r.ref_ptr.1 ≡ q.ref_ptr.1 = a.offset ∙ sym b.offset in
    λ i. slice_val (same_block i, same-offset i) (length (same_bytes i)) ∷ []
