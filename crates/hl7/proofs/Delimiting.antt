-- Laws of `specs/Delimiters.antt`: what is known of the delimiters of every message that passes row 4. Assumes nothing.
use mathlib.Core.Path.{◌≡◌, refl, sym, ap, ◌∙◌}
use mathlib.Core.Bool.{Bool, true, not, ◌&&◌, ◌||◌, and-true, and_assoc, or-false, or_assoc, true≢false}
use mathlib.Core.List.{List}
use Prim.Native.Nat.{ℕ, ◌≤◌, ◌<◌}
use Prim.Native.Char.{code}
use native.Mathlib.Omega.{arith}
use native.Mathlib.Decide.{dec_lt}
use lib.Dec.{eqb}
use lib.ListN.{length, get_or, get_or-eq_default}
use borrow.Author.Tests.{ne_eqb, eqb-true, not-true}
use Rattle.hl7.specs.declared.place.Delims.{Delims}
use Rattle.hl7.specs.Bytes.{within, is_digit, is_letter, is_in, distinct, all, differs, same, begins}
use Rattle.hl7.specs.Place.{delims_of}
use Rattle.hl7.specs.Delimiters.{may_delimit, five_of, may_cut, opens}
use Rattle.hl7.specs.Text.{bytes}
use Rattle.hl7.proofs.Comparing.{and_both, all-at, all_as, same_equal, distinct_one}

-- ---- plain bytes: those that may be no delimiter
abbrev pub is_plain : ℕ → Bool
is_plain y = not (may_delimit y)

pub delimits_other : (x y : ℕ) → may_delimit x ≡ true → is_plain y ≡ true → x ≡ y → ⊥
delimits_other x y e p same = true≢false (sym e ∙ ap may_delimit same ∙ not-true _ p)

-- a plain text holds no delimiter
pub plain-without : (x : ℕ) (text : List ℕ) → may_delimit x ≡ true → all is_plain text ≡ true → all (differs x) text ≡ true
plain-without x text e = all_as is_plain (differs x) (λ y p. rw (ne_eqb y x (λ same. delimits_other x y e p (sym same)))) text

-- and a plain byte is none of the delimiters
pub delimiters_without : (y : ℕ) (s : List ℕ) → is_plain y ≡ true → all may_delimit s ≡ true → all (differs y) s ≡ true
delimiters_without y s p = all_as may_delimit (differs y) (λ x e. rw (ne_eqb x y (delimits_other x y e p))) s

-- ---- the law of every message that passes row 4
pub record Delimiting (d : Delims) : Type 0 where
  pub each : all may_delimit (five_of d) ≡ true
  pub differ : distinct (five_of d) ≡ true

-- each of the five, by its place among them
pub delimiter_at : {d : Delims} → Delimiting d → (i : ℕ) → i < 5 → may_delimit (get_or (five_of d) i 0) ≡ true
delimiter_at {d} own i h = all-at may_delimit (five_of d) i own.each h

-- any two of them are two bytes
pub delimiters_differ : {d : Delims} → Delimiting d → (i j : ℕ) → i < j → j < 5 → get_or (five_of d) i 0 ≡ get_or (five_of d) j 0 → ⊥
delimiters_differ {d} own i j h k same = omega (arith, distinct_one (five_of d) i j own.differ (omega arith) (omega arith) same)

module _ (name m : List ℕ) (e : opens name m ≡ true) where
  opens_parts : ((begins name m && may_cut (delims_of m)) ≡ true) × (eqb (get_or m 8 0) (delims_of m).bar ≡ true)
  unfolding opens
  opens_parts = and_both (begins name m && may_cut (delims_of m)) (eqb (get_or m 8 0) (delims_of m).bar) e

  pub opens-begins : begins name m ≡ true
  opens-begins = (and_both (begins name m) (may_cut (delims_of m)) opens_parts.0).0

  pub opens_delimiting : Delimiting (delims_of m)
  unfolding may_cut
  opens_delimiting =
      let both = and_both (all may_delimit (five_of (delims_of m))) (distinct (five_of (delims_of m))) (and_both (begins name m) (may_cut (delims_of m)) opens_parts.0).1 in
      record { each = both.0; differ = both.1 }

  -- it has nine bytes at least, since one that may delimit stands at 8
  pub opens-long : 9 ≤ length m
  unfolding delims_of may_delimit is_in
  opens-long = by (dec_lt 8 (length m))
    where
      by : Dec (8 < length m) → 9 ≤ length m
      by (yes h) = h
      by (no h) =
          let none : get_or m 8 0 ≡ 0 = get_or-eq_default m 0 (omega arith) in
          let again = eqb-true (get_or m 8 0) (delims_of m).bar opens_parts.1 in
          absurd (delimits_other (delims_of m).bar 0 (delimiter_at opens_delimiting 0 (omega arith)) refl (sym again ∙ none))

-- ---- the standard five
abbrev pub standard : Delims
standard = record { bar = code "|"; caret = code "^"; tilde = code "~"; backslash = code "\\"; ampersand = code "&" }

pub standard-is : (d : Delims) → same (five_of d) (bytes "|^~\\&") ≡ true → d ≡ standard
standard-is d e = ap delims (same_equal (five_of d) (bytes "|^~\\&") e)
  where
    delims : List ℕ → Delims
    delims l = record { bar = get_or l 0 0; caret = get_or l 1 0; tilde = get_or l 2 0; backslash = get_or l 3 0; ampersand = get_or l 4 0 }

pub standard-cut : (d : Delims) → same (five_of d) (bytes "|^~\\&") ≡ true → true ≡ may_cut d
unfolding may_cut may_delimit all distinct is_in
standard-cut d e = sym (ap may_cut (standard-is d e))

-- ---- in the code's words, which asks one after the other
pub asked_standard : (d : Delims) → (eqb d.bar (code "|") && (eqb d.caret (code "^") && (eqb d.tilde (code "~") && (eqb d.backslash (code "\\") && eqb d.ampersand (code "&"))))) ≡ same (five_of d) (bytes "|^~\\&")
unfolding same
asked_standard d = simp and-true

pub asked_byte : (x : ℕ) {letter digit printable : Bool} → letter ≡ is_letter x → digit ≡ is_digit x → printable ≡ within 32 126 x
    → (printable && not (letter || digit || (eqb x 32 || eqb x 34 || eqb x 46 || eqb x 43 || eqb x 45 || eqb x 95))) ≡ may_delimit x
unfolding may_delimit is_in
asked_byte x p q r = rw (p, q, r) (simp (or-false, or_assoc))

pub asked_distinct : (d : Delims)
    → (not (eqb d.bar d.caret || eqb d.bar d.tilde || eqb d.bar d.backslash || eqb d.bar d.ampersand)
    && not (eqb d.caret d.tilde || eqb d.caret d.backslash || eqb d.caret d.ampersand)
    && not (eqb d.tilde d.backslash || eqb d.tilde d.ampersand) && not (eqb d.backslash d.ampersand)) ≡ distinct (five_of d)
unfolding distinct is_in
asked_distinct d = simp (and-true, and_assoc, or-false, or_assoc)

pub asked_each : (d : Delims) {a b c e f g : Bool}
    → a ≡ may_delimit d.bar → b ≡ may_delimit d.caret → c ≡ may_delimit d.tilde → e ≡ may_delimit d.backslash → f ≡ may_delimit d.ampersand → g ≡ distinct (five_of d)
    → (a && b && c && e && f && g) ≡ may_cut d
unfolding may_cut all
asked_each d p q r s t u = rw (p, q, r, s, t, u) (simp (and-true, and_assoc))

pub asked_opens : (name m : List ℕ) {d : Delims} {named cuts : Bool} {again : ℕ} → d ≡ delims_of m → named ≡ begins name m → cuts ≡ may_cut d → again ≡ get_or m 8 0 → (named && cuts && eqb again d.bar) ≡ opens name m
unfolding opens
asked_opens name m own p q r = rw (p, q, r, own)
