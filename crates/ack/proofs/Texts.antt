-- What an ACK is made of besides delimiters and copied fields: bytes that may be no delimiter and are no CR. So its segments can be told apart, and where delimiters
-- are exchanged none of them goes along. Assumes nothing.
use mathlib.Core.Path.{◌≡◌, refl, sym, ap, ◌∙◌}
use mathlib.Core.Bool.{Bool, true, false, cond, not, ◌&&◌, ◌||◌, true≢false}
use mathlib.Core.List.{List, [], ◌∷◌, ◌++◌}
use Prim.Native.Nat.{ℕ, zero, suc, ◌+◌, ◌/◌, ◌%◌, ◌<◌}
use native.Mathlib.Omega.{arith}
use lib.Dec.{eqb, leb, ltb}
use borrow.Author.Tests.{ne_eqb, le-leb, leb-true, ltb-true, not-false}
use Rattle.hl7.specs.Text.{bytes}
use Rattle.hl7.specs.Bytes.{is_digit, is_in, all, differs}
use Rattle.hl7.specs.Place.{carriage_return, delims_of}
use Rattle.hl7.specs.Delimiters.{may_delimit}
use Rattle.hl7.proofs.Comparing.{and_both, all_as, all_append}
use Rattle.hl7.proofs.Delimiting.{is_plain}
use Rattle.hl7.proofs.Exchanging.{digit-plain}
use Rattle.grade.specs.Values.{is_stamp}
use Rattle.grade.specs.Rule.{the_end, counted, severity_letter, segment_names, name_bytes}
use Rattle.grade.specs.Strict.{keep}
use Rattle.grade.specs.Order.{may_follow}
use Rattle.grade.specs.Findings.{rule_numbered, finding_at, finding_of, breaks, places, findings}
use Rattle.grade.specs.Header.{msh_of, header_of, any_wrong, header_finding, only_if, header_findings}
use Rattle.grade.specs.Grading.{section_for, findings_by, findings_for}
use Rattle.grade.specs.declared.rule.Severity.{Severity}
use Rattle.grade.specs.declared.rule.Rule.{Rule}
use Rattle.grade.specs.declared.header.Header.{Header}
use Rattle.grade.specs.declared.finding.Finding.{Finding}
use Rattle.grade.proofs.Naming.{at-counted, no_name}
use Rattle.grade.proofs.Spelling.{sign_passes, stamp-all}
use Rattle.ack.specs.Decimal.{digit, last_digits, decimal}
use Rattle.grade.specs.Deciding.{has}
use Rattle.ack.specs.Layout.{letter, component_parts, value_parts, place_parts, code_text}
use Rattle.ack.proofs.Listing.{has-none}

abbrev pub is_text : ℕ → Bool
is_text x = differs carriage_return x && is_plain x

-- or a byte of the standard five, for which the message's own stands
abbrev pub is_own : ℕ → Bool
is_own x = is_in x (bytes "|^~\\&") || is_text x

-- of each part
abbrev pub Each : (List ℕ → Type 0) → List (List ℕ) → Type 0
Each P [] = Unit {0}
Each P (p ∷ ps) = P p × Each P ps

infixr 20 ◌also◌
pub ◌also◌ : {A B : Type 0} → A → B → A × B
a also b = (a, b)

pub each_as : {P Q : List ℕ → Type 0} → ((s : List ℕ) → P s → Q s) → (ps : List (List ℕ)) → Each P ps → Each Q ps
each_as weaker [] e = tt
each_as weaker (p ∷ ps) e = (weaker p e.0, each_as weaker ps e.1)

pub text-plain : (s : List ℕ) → all is_text s ≡ true → all is_plain s ≡ true
text-plain = all_as is_text is_plain (λ x e. (and_both (differs carriage_return x) (is_plain x) e).1)

pub text-clean : (s : List ℕ) → all is_text s ≡ true → all (differs carriage_return) s ≡ true
text-clean = all_as is_text (differs carriage_return) (λ x e. (and_both (differs carriage_return x) (is_plain x) e).0)

pub own-text-clean : (s : List ℕ) → all is_own s ≡ true → all (differs carriage_return) s ≡ true
unfolding is_in
own-text-clean = all_as is_own (differs carriage_return) byte
  where
    byte : (x : ℕ) → is_own x ≡ true → differs carriage_return x ≡ true
    byte x e = rw (ne_eqb x carriage_return (λ same. true≢false (sym e ∙ ap is_own same)))

-- ---- numbers and the stamp
digit-text : (x : ℕ) → is_digit x ≡ true → is_text x ≡ true
digit-text x e =
    let low = leb-true 48 x (and_both (leb 48 x) (leb x 57) e).0 in
    rw (ne_eqb x carriage_return (λ same. omega (arith, same, low)), digit-plain x e)

pub decimal-text : (n : ℕ) → all is_text (decimal n) ≡ true
unfolding decimal last_digits all
decimal-text n = of 20 n
  where
    last : (n : ℕ) → n < 10 → all is_text (digit n ∷ []) ≡ true
    last n h = rw (digit-text (48 + n) (rw (le-leb 48 (48 + n) (omega arith), le-leb (48 + n) 57 (omega arith))))

    more : (k n : ℕ) → all is_text (last_digits k (n / 10)) ≡ true → (b : Bool) → ltb n 10 ≡ b → all is_text (cond b (digit n ∷ []) (last_digits k (n / 10) ++ (digit (n % 10) ∷ []))) ≡ true
    more k n ih true e = last n (ltb-true n 10 e)
    more k n ih false e = all_append is_text (last_digits k (n / 10)) (digit (n % 10) ∷ []) ih (last (n % 10) (omega arith))

    of : (k n : ℕ) → all is_text (last_digits k n) ≡ true
    of zero n = refl
    of (suc k) n = more k n (of k (n / 10)) (ltb n 10) refl

pub stamp-text : (v : List ℕ) → is_stamp v ≡ true → all is_text v ≡ true
unfolding may_delimit is_in
stamp-text = stamp-all is_text digit-text (sign_passes is_text refl refl) refl

-- ---- names and letters
name-text : (n : ℕ) → all is_text (name_bytes n) ≡ true
unfolding all name_bytes segment_names may_delimit is_in
name-text n = by (counted n) refl
  where
    by : (t : Bool) → counted n ≡ t → all is_text (name_bytes n) ≡ true
    by true e = at-counted (λ (k : ℕ). all is_text (name_bytes k)) refl n e
    by false e = rw (no_name n e)

pub letter-text : (header fault : Bool) → all is_text (letter header fault ∷ []) ≡ true
unfolding all may_delimit is_in
letter-text true fault = refl
letter-text false true = refl
letter-text false false = refl

-- ---- ERR-2
abbrev pub IsText : List ℕ → Type 0
IsText s = all is_text s ≡ true

each-unless : (b : Bool) (ps : List (List ℕ)) → Each IsText ps → Each IsText (cond b [] ps)
each-unless true ps e = tt
each-unless false ps e = e

pub place-text : (f : Finding) → Each IsText (place_parts f)
unfolding place_parts value_parts component_parts
place-text f =
    each-unless (eqb f.name the_end) _
    (name-text f.name
    also decimal-text f.ordinal
    also each-unless (eqb f.field 0) _
    (decimal-text f.field also decimal-text f.repetition also each-unless (eqb f.component 0) _ (decimal-text f.component also tt)))

-- ---- error codes
cond-own : (b : Bool) (s t : List ℕ) → all is_own s ≡ true → all is_own t ≡ true → all is_own (cond b s t) ≡ true
cond-own true s t e f = e
cond-own false s t e f = f

pub code_own : (n : ℕ) → all is_own (code_text n) ≡ true
unfolding code_text all may_delimit is_in
code_own n =
    cond-own (eqb n 100) _ _ refl
    (cond-own (eqb n 101) _ _ refl
    (cond-own (eqb n 102) _ _ refl
    (cond-own (eqb n 103) _ _ refl
    (cond-own (eqb n 200) _ _ refl (cond-own (eqb n 201) _ _ refl (cond-own (eqb n 202) _ _ refl (cond-own (eqb n 203) _ _ refl refl)))))))

-- ---- severities
abbrev pub is_odd : Finding → Bool
is_odd f = not (is_text f.severity)

pub severity_is : (f : Finding) → is_odd f ≡ false → IsText (f.severity ∷ [])
unfolding all
severity_is f e = rw (not-false (is_text f.severity) e)

severity_text : (s : Severity) → is_text (severity_letter s) ≡ true
unfolding may_delimit is_in
severity_text Severity.Error = refl
severity_text Severity.Warning = refl
severity_text Severity.Informational = refl

graded-text : (o : ℕ → ℕ → Bool) (rules : List Rule) (sets : List (List (List ℕ))) (m : List ℕ) → has is_odd (findings o rules sets m) ≡ false
unfolding findings
graded-text o rules sets m = has-none is_odd (finding_of o rules sets m) (keep (breaks o rules sets m) (places o rules sets m)) (λ e. of e.0 e.1.0 e.1.1)
  where
    of : (n j r : ℕ) → is_odd (finding_at o rules sets m n j r) ≡ false
    of n zero r = ap not (severity_text Severity.Error)
    of n (suc i) r = ap not (severity_text (rule_numbered o rules sets m i).severity)

header-text : (h : Header) → has is_odd (header_findings h) ≡ false
unfolding header_findings has
header-text h = only h.type_wrong 200 9 1 _ (only h.event_wrong 201 9 2 _ (only h.processing_wrong 202 11 1 _ (last h.version_wrong)))
  where
    only : (b : Bool) (error field component : ℕ) (l : List Finding) → has is_odd l ≡ false → has is_odd (only_if b (header_finding error field component) ++ l) ≡ false
    only true error field component l e = rw (severity_text Severity.Error) e
    only false error field component l e = e

    last : (b : Bool) → has is_odd (only_if b (header_finding 203 12 1)) ≡ false
    last true = rw (severity_text Severity.Error)
    last false = refl

pub listed-text : (m b : List ℕ) → has is_odd (findings_for m b) ≡ false
unfolding findings_by
listed-text m b = of (any_wrong (header_of (delims_of m) (msh_of m)))
  where
    of : (wrong : Bool) → has is_odd (cond wrong (header_findings (header_of (delims_of m) (msh_of m))) (findings may_follow (section_for m b).rules (section_for m b).sets m)) ≡ false
    of true = header-text (header_of (delims_of m) (msh_of m))
    of false = graded-text may_follow (section_for m b).rules (section_for m b).sets m
