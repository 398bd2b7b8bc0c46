-- The laws of the layout. Assumes nothing.
use mathlib.Core.Path.{◌≡◌, refl, sym, ap, ap₂, ◌∙◌}
use mathlib.Core.Bool.{Bool, true, false, cond}
use mathlib.Core.List.{List, [], ◌∷◌, ◌++◌, map, flat_map, append-nil, append_assoc}
use Prim.Native.Nat.{ℕ, ◌/◌, ◌%◌}
use borrow.Author.Tests.{eq-eqb, ne_eqb, eqb-true}
use Prim.Native.Char.{code}
use lib.Dec.{eqb}
use lib.ListN.{get_or, get_or-map}
use Rattle.hl7.specs.Text.{bytes}
use Rattle.hl7.specs.Bytes.{same}
use Rattle.hl7.specs.Place.{carriage_return}
use Rattle.hl7.specs.Delimiters.{five_of}
use Rattle.hl7.specs.declared.place.Delims.{Delims}
use Rattle.hl7.proofs.Comparing.{same_equal}
use Rattle.hl7.proofs.Delimiting.{standard, standard-is}
use Rattle.grade.proofs.Naming.{at-counted, no_name}
use Rattle.grade.specs.Rule.{the_end, counted, segment_names, name_bytes}
use Rattle.grade.specs.Standing.{letters_of}
use Rattle.grade.specs.declared.finding.Finding.{Finding}
use Rattle.ack.specs.Decimal.{decimal}
use Rattle.ack.specs.Layout.{own_byte, own, marked, joined, copied, msh_line, verdict, msa_line, component_parts, value_parts, place_parts, code_text, err_line, ended, ack_bytes}
use Rattle.ack.specs.Pieces.{heading, errs}

-- ---- texts
pub own_at : (d : Delims) (text : List ℕ) (i : ℕ) → get_or (own d text) i 0 ≡ own_byte d (get_or text i 0)
unfolding own_byte
own_at d text i = get_or-map (own_byte d) text i 0

-- a name, by its letters as one number
abbrev pub spelt : ℕ → List ℕ
spelt letters = letters / 65536 ∷ letters / 256 % 256 ∷ letters % 256 ∷ []

pub name-spelt : (n : ℕ) → cond (eqb (letters_of n) 0) [] (spelt (letters_of n)) ≡ name_bytes n
unfolding name_bytes segment_names same
name-spelt n = by (counted n) refl
  where
    by : (t : Bool) → counted n ≡ t → cond (eqb (letters_of n) 0) [] (spelt (letters_of n)) ≡ name_bytes n
    by true e = same_equal _ _ (at-counted (λ (k : ℕ). same (cond (eqb (letters_of k) 0) [] (spelt (letters_of k))) (name_bytes k)) refl n e)
    by false e = rw (no_name n e)

pub name-none : (n : ℕ) {letters : ℕ} → letters ≡ letters_of n → letters ≡ 0 → [] ≡ name_bytes n
name-none n e none = rw (eq-eqb (letters_of n) 0 (sym e ∙ none)) at (name-spelt n)

pub name-some : (n : ℕ) {letters : ℕ} → letters ≡ letters_of n → (letters ≡ 0 → ⊥) → spelt letters ≡ name_bytes n
name-some n e some = ap spelt e ∙ (rw (ne_eqb (letters_of n) 0 (λ none. some (e ∙ none))) at (name-spelt n))

pub code_other : (n : ℕ) → (n ≡ 100 → ⊥) → (n ≡ 101 → ⊥) → (n ≡ 102 → ⊥) → (n ≡ 103 → ⊥) → (n ≡ 200 → ⊥) → (n ≡ 201 → ⊥) → (n ≡ 202 → ⊥) → (n ≡ 203 → ⊥) → code_text n ≡ []
unfolding code_text
code_other n a b c d e f g h =
    rw (ne_eqb n 100 a, ne_eqb n 101 b, ne_eqb n 102 c, ne_eqb n 103 d, ne_eqb n 200 e, ne_eqb n 201 f, ne_eqb n 202 g, ne_eqb n 203 h)

-- ---- ERR-2, by the tests of the code
module _ (mark : ℕ) where
  pub component-none : (n : ℕ) → n ≡ 0 → [] ≡ marked mark (component_parts n)
  unfolding marked component_parts
  component-none n e = rw (eq-eqb n 0 e)

  pub component-some : (n : ℕ) → (n ≡ 0 → ⊥) → mark ∷ decimal n ≡ marked mark (component_parts n)
  unfolding marked component_parts
  component-some n e = rw (ne_eqb n 0 e, append-nil (decimal n))

  module _ (f : Finding) where
    pub value_none : f.field ≡ 0 → [] ≡ marked mark (value_parts f)
    unfolding marked value_parts
    value_none e = rw (eq-eqb f.field 0 e)

    pub value-some : (f.field ≡ 0 → ⊥) → (mark ∷ decimal f.field) ++ ((mark ∷ decimal f.repetition) ++ marked mark (component_parts f.component)) ≡ marked mark (value_parts f)
    unfolding marked value_parts
    value-some e = rw (ne_eqb f.field 0 e)

    pub place_none : f.name ≡ the_end → [] ≡ joined mark (place_parts f)
    unfolding joined place_parts
    place_none e = rw (eq-eqb f.name the_end e)

    pub place-some : (f.name ≡ the_end → ⊥) → name_bytes f.name ++ ((mark ∷ decimal f.ordinal) ++ marked mark (value_parts f)) ≡ joined mark (place_parts f)
    unfolding joined marked place_parts
    place-some e = rw (ne_eqb f.name the_end e)

-- ---- lines, as the code writes them
-- each part with the mark in front, and the CR
with_end : ℕ → List (List ℕ) → List ℕ
with_end mark [] = carriage_return ∷ []
with_end mark (part ∷ parts) = mark ∷ (part ++ with_end mark parts)

line-ends : (mark : ℕ) (part : List ℕ) (parts : List (List ℕ)) → part ++ with_end mark parts ≡ ended (joined mark (part ∷ parts))
unfolding joined marked with_end
line-ends mark part parts = ap (λ (l : List ℕ). part ++ l) (ends parts) ∙ sym (append_assoc part (marked mark parts) (carriage_return ∷ []))
  where
    ends : (ps : List (List ℕ)) → with_end mark ps ≡ marked mark ps ++ (carriage_return ∷ [])
    ends [] = refl
    ends (p ∷ ps) = ap (λ (l : List ℕ). mark ∷ l) (ap (λ (l : List ℕ). p ++ l) (ends ps) ∙ sym (append_assoc p (marked mark ps) (carriage_return ∷ [])))

pub msh_pieces : (d : Delims) (msh stamp : List ℕ) (control : ℕ) →
    own d (bytes "MSH|^~\\&")
    ++ ((d.bar ∷ copied d msh 5)
    ++ ((d.bar ∷ copied d msh 6)
    ++ ((d.bar ∷ copied d msh 3)
    ++ ((d.bar ∷ copied d msh 4)
    ++ ((d.bar ∷ stamp)
    ++ (own d (bytes "||ACK^V04^ACK")
    ++ ((d.bar ∷ decimal control)
    ++ ((d.bar ∷ copied d msh 11)
    ++ own d (bytes "|2.5.1|||NE|NE|||||Z23^CDCPHINVS\r")))))))))
    ≡ ended (msh_line d msh stamp control)
unfolding msh_line with_end own_byte
msh_pieces d msh stamp control = line-ends d.bar (bytes "MSH") _

-- ---- the ACK
each-ended : (d : Delims) (findings : List Finding) → flat_map ended (map (err_line d) findings) ≡ errs d findings
unfolding errs flat_map
each-ended d [] = refl
each-ended d (f ∷ findings) = ap (λ (l : List ℕ). ended (err_line d f) ++ l) (each-ended d findings)

-- the first two segments, and then the ERRs
pub ack-is : (d : Delims) (msh stamp : List ℕ) (control : ℕ) (findings : List Finding) → ack_bytes d msh stamp control findings ≡ heading d msh stamp control (verdict findings) ++ errs d findings
unfolding ack_bytes heading flat_map
ack-is d msh stamp control findings =
    rw (each-ended d findings) (sym (append_assoc (ended (msh_line d msh stamp control)) (ended (msa_line d msh (verdict findings))) (errs d findings)))

-- ---- a byte by the message's own delimiters: none of the five stands for itself
pub own_other : (d : Delims) (x : ℕ) → (x ≡ code "|" → ⊥) → (x ≡ code "^" → ⊥) → (x ≡ code "~" → ⊥) → (x ≡ code "\\" → ⊥) → (x ≡ code "&" → ⊥) → x ≡ own_byte d x
unfolding own_byte
own_other d x a b c e f = rw (ne_eqb x (code "|") a, ne_eqb x (code "^") b, ne_eqb x (code "~") c, ne_eqb x (code "\\") e, ne_eqb x (code "&") f)

-- ---- with the standard delimiters a text stands as it is
kept_byte : (x c : ℕ) {other : ℕ} → other ≡ x → cond (eqb x c) c other ≡ x
kept_byte x c {other} e = by (eqb x c) refl
  where
    by : (b : Bool) → eqb x c ≡ b → cond b c other ≡ x
    by true h = sym (eqb-true x c h)
    by false h = e

standard-byte : (x : ℕ) → own_byte standard x ≡ x
unfolding own_byte
standard-byte x =
    kept_byte x (code "|") (kept_byte x (code "^") (kept_byte x (code "~") (kept_byte x (code "\\") (kept_byte x (code "&") refl))))

pub own-standard : (d : Delims) → same (five_of d) (bytes "|^~\\&") ≡ true → (text : List ℕ) → text ≡ own d text
own-standard d h text = rw (standard-is d h) (each text)
  where
    each : (text : List ℕ) → text ≡ own standard text
    each [] = refl
    each (x ∷ text) = ap₂ (λ (y : ℕ) (l : List ℕ). y ∷ l) (sym (standard-byte x)) (each text)
