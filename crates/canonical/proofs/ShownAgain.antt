-- A book that is shown and compiled again is the same book. Assumes nothing.
use mathlib.Core.Path.{◌≡◌, refl, sym, ap, ap₂, ◌∙◌}
use mathlib.Core.Bool.{Bool, true, false, ◌&&◌}
use mathlib.Core.List.{List, [], ◌∷◌, ◌++◌}
use Prim.Native.Nat.{ℕ, suc, ◌≤◌}
use native.Mathlib.Omega.{arith}
use lib.Dec.{ltb}
use lib.ListN.{length, take, drop}
use lib.Seq.{take-append_seam}
use borrow.Author.Tests.{lt-ltb, ltb-true, le-leb, le-ltb}
use Rattle.hl7.specs.Text.{bytes}
use Rattle.hl7.specs.Bytes.{all}
use Rattle.hl7.proofs.Comparing.{and_both}
use Rattle.grade.specs.Book.{Contents, decoded, malformed, other_version}
use Rattle.grade.specs.Encoding.{each, two_bytes_of, spell_all, text_bytes, set_bytes, kind_byte, last_bytes, rule_bytes, section_bytes, book_bytes}
use Rattle.grade.specs.Limits.{book_version}
use Rattle.grade.specs.Rule.{name_bytes, severity_letter}
use Rattle.grade.specs.declared.rule.Kind.{Kind}
use Rattle.grade.specs.declared.rule.Rule.{Rule}
use Rattle.grade.proofs.Encoded.{Bytes, Encoded, encoded}
use Rattle.booktext.specs.Contents.{meaning}
use Rattle.booktext.specs.Faults.{nothing}
use Rattle.booktext.specs.Refusals.{refusal, compiled, written, compile_of}
use Rattle.canonical.specs.Shown.{shown, show_of}
use Rattle.canonical.proofs.Showable.{high_said, high_fits, formed as formed-of}
use Rattle.canonical.proofs.ShownMeans.{shown_means}
use Rattle.canonical.proofs.ShownShort.{shown-short, shown_accepted}

-- ---- the numbers of a book are bytes, so a text can say them
abbrev small : ℕ → Bool
small x = ltb x 256

all_small : (b : List ℕ) → Bytes b → all small b ≡ true
unfolding all
all_small [] h = refl
all_small (x ∷ b) h = ap₂ ◌&&◌ (lt-ltb x 256 (h 0)) (all_small b (λ k. h (suc k)))

parts : (s t : List ℕ) → all small (s ++ t) ≡ true → (all small s ≡ true) × (all small t ≡ true)
unfolding all
parts [] t e = (refl, e)
parts (x ∷ s) t e =
    let both = and_both (small x) (all small (s ++ t)) e in
    let more = parts s t both.1 in
    (ap₂ ◌&&◌ both.0 more.0, more.1)

kind_said : (k : Kind) → all small (last_bytes k) ≡ true → high_said k ≡ true
unfolding all
kind_said Kind.Required e = refl
kind_said (Kind.Length low high) e =
    let high_small = (and_both (small high) true (and_both (small low) (small high && true) e).1).0 in
    le-leb high 255 (omega (arith, ltb-true high 256 high_small))
kind_said Kind.Number e = refl
kind_said Kind.Date e = refl
kind_said (Kind.Time digits) e = refl
kind_said (Kind.Code set) e = refl

rules-said : (rules : List Rule) → all small (spell_all rule_bytes rules) ≡ true → each (λ (r : Rule). high_said r.kind) rules ≡ true
unfolding all
rules-said [] e = refl
rules-said (r ∷ rules) e =
    let both = parts (rule_bytes r) (spell_all rule_bytes rules) e in
    let four = r.place.field ∷ r.place.component ∷ kind_byte r.kind ∷ severity_letter r.severity ∷ [] in
    let after = (parts (name_bytes r.place.segment) (four ++ last_bytes r.kind) both.0).1 in
    ap₂ ◌&&◌ (kind_said r.kind (parts four (last_bytes r.kind) after).1) (rules-said rules both.1)

sections-said : (cs : List Contents) → all small (spell_all section_bytes cs) ≡ true → each high_fits cs ≡ true
sections-said [] e = refl
sections-said (c ∷ cs) e =
    let both = parts (section_bytes c) (spell_all section_bytes cs) e in
    let ruled = spell_all rule_bytes c.rules in
    let held = spell_all set_bytes c.sets in
    let head = two_bytes_of (length c.rules) ++ (length c.sets ∷ []) in
    let after = (parts (text_bytes c.key) (head ++ (ruled ++ held)) both.0).1 in
    ap₂ ◌&&◌ (rules-said c.rules (parts ruled held (parts head (ruled ++ held) after).1).0) (sections-said cs both.1)

book-said : (cs : List Contents) → all small (book_bytes cs) ≡ true → each high_fits cs ≡ true
unfolding book_bytes
book-said cs e =
    let start = bytes "VXB" ++ (two_bytes_of book_version ++ (length cs ∷ [])) in
    sections-said cs (parts start (spell_all section_bytes cs) e).1

-- ---- the book again
module _ (b : List ℕ) (is : Bytes b) (formed : malformed b ≡ false) (version : other_version b ≡ false) where
  again : Encoded b
  again = encoded b is formed version

  pub high_decoded : each high_fits (decoded b) ≡ true
  high_decoded = book-said (decoded b) (ap (all small) (sym again.is) ∙ all_small b is)

  -- its text is at most fifteen times as long
  pub again_short : length (shown (decoded b)) ≤ 983040
  again_short = omega (arith, shown-short (decoded b) again.fits high_decoded, (formed-of (decoded b) again.fits high_decoded).short)

  -- no row refuses its text
  pub again_accepted : refusal (shown (decoded b)) ≡ nothing
  again_accepted = shown_accepted (decoded b) again.fits high_decoded

  -- which means its sections, and makes its bytes
  pub again_means : meaning (shown (decoded b)) ≡ decoded b
  again_means = shown_means (decoded b) again.fits high_decoded

  pub again_compiled : compiled (shown (decoded b)) ≡ b
  unfolding compiled
  again_compiled = ap book_bytes again_means ∙ sym again.is

  -- so the text compiles to the book
  pub shown_again : (out : List ℕ) → compile_of (shown (decoded b)) out ≡ written b out
  unfolding compile_of
  shown_again out = rw (again_accepted, again_compiled)

  -- and it is what showing the book writes, where there is room
  shown-there : (out : List ℕ) → length (shown (decoded b)) ≤ length out → take (show_of b out).told.detail (show_of b out).output ≡ shown (decoded b)
  unfolding show_of written
  shown-there out fits =
      let text = shown (decoded b) in
      rw (formed, version, le-ltb (length out) (length text) fits) (take-append_seam text (drop (length text) out))

  pub show_again : (out place : List ℕ) → length (shown (decoded b)) ≤ length out → compile_of (take (show_of b out).told.detail (show_of b out).output) place ≡ written b place
  show_again out place fits = ap (λ (t : List ℕ). compile_of t place) (shown-there out fits) ∙ shown_again place

  -- a canonical text that was compiled is shown as itself
  pub show_stays : (out : List ℕ) → show_of (compiled (shown (decoded b))) out ≡ show_of b out
  show_stays out = ap (λ (x : List ℕ). show_of x out) again_compiled
