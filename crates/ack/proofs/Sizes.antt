-- How long the parts of an ACK are, in the words of the code that counts, and how long an ACK is at most. Assumes nothing.
use mathlib.Core.Path.{◌≡◌, refl, sym, ap, subst, ◌∙◌}
use mathlib.Core.Bool.{Bool, true, false, cond}
use mathlib.Core.List.{List, [], ◌∷◌, flat_map}
use Prim.Native.Nat.{ℕ, ◌+◌, ◌*◌, ◌^◌, ◌≤◌, ◌<◌}
use native.Mathlib.Omega.{arith}
use lib.ListN.{length, length-append, length-map}
use lib.Dec.{eqb, lit≤}
use borrow.Author.Tests.{ne_eqb}
use Rattle.hl7.specs.Place.{is_msh}
use Rattle.hl7.specs.declared.place.Delims.{Delims}
use Rattle.hl7.proofs.Placing.{field_short}
use Rattle.grade.specs.Rule.{the_end, name_bytes}
use Rattle.grade.specs.Standing.{letters_of}
use Rattle.grade.specs.declared.finding.Finding.{Finding}
use Rattle.ack.specs.Decimal.{decimal}
use Rattle.ack.specs.Layout.{own_byte, marked, joined, copied, msh_line, verdict, msa_line, component_parts, value_parts, place_parts, code_text, err_line, ended, ack_bytes}
use Rattle.ack.specs.Pieces.{heading, errs}
use Rattle.ack.proofs.Decimals.{decimal-short}
use Rattle.ack.proofs.Lines.{spelt, name-spelt, component-some, ack-is}

-- ---- parts and marks
marked_size : (mark : ℕ) (p : List ℕ) (ps : List (List ℕ)) → length (marked mark (p ∷ ps)) ≡ 1 + length p + length (marked mark ps)
unfolding marked
marked_size mark p ps = omega (arith, length-append p (marked mark ps))

marked_empty : (mark : ℕ) → length (marked mark []) ≡ 0
unfolding marked
marked_empty mark = refl

joined_empty : (mark : ℕ) → length (joined mark []) ≡ 0
unfolding joined
joined_empty mark = refl

joined_size : (mark : ℕ) (p : List ℕ) (ps : List (List ℕ)) → length (joined mark (p ∷ ps)) ≡ length p + length (marked mark ps)
unfolding joined
joined_size mark p ps = length-append p (marked mark ps)

-- which mark it is does not matter
marked_alike : (a b : ℕ) (ps : List (List ℕ)) → length (marked a ps) ≡ length (marked b ps)
marked_alike a b [] = marked_empty a ∙ sym (marked_empty b)
marked_alike a b (p ∷ ps) = omega (arith, marked_size a p ps, marked_size b p ps, marked_alike a b ps)

joined_alike : (a b : ℕ) (ps : List (List ℕ)) → length (joined a ps) ≡ length (joined b ps)
joined_alike a b [] = joined_empty a ∙ sym (joined_empty b)
joined_alike a b (p ∷ ps) = omega (arith, joined_size a p ps, joined_size b p ps, marked_alike a b ps)

pub decimal_as : {v n : ℕ} → v ≡ n → length (decimal v) ≡ length (decimal n)
decimal_as e = ap (λ (k : ℕ). length (decimal k)) e

-- ---- ERR
pub component_size : (n : ℕ) {w r : ℕ} → (n ≡ 0 → ⊥) → w ≡ n → r ≡ length (decimal w) → (mark : ℕ) → 1 + r ≡ length (marked mark (component_parts n))
component_size n some e count mark = rw (← component-some mark n some) (omega (arith, decimal_as e))

pub value_size : (f : Finding) {w a v b k : ℕ} → (f.field ≡ 0 → ⊥) → w ≡ f.field → a ≡ length (decimal w) → v ≡ f.repetition → b ≡ length (decimal v)
    → ((mark : ℕ) → k ≡ length (marked mark (component_parts f.component))) → (mark : ℕ) → 2 + a + b + k ≡ length (marked mark (value_parts f))
unfolding value_parts
value_size f some d first e second third mark =
    rw (ne_eqb f.field 0 some, marked_size, marked_size) (omega (arith, third mark, decimal_as d, decimal_as e))

pub place_size : (f : Finding) {a v b k : ℕ} → (f.name ≡ the_end → ⊥) → a ≡ length (name_bytes f.name) → v ≡ f.ordinal → b ≡ length (decimal v)
    → ((mark : ℕ) → k ≡ length (marked mark (value_parts f))) → (mark : ℕ) → 1 + a + b + k ≡ length (joined mark (place_parts f))
unfolding place_parts
place_size f some first e second third mark =
    rw (ne_eqb f.name the_end some, joined_size, marked_size) (omega (arith, third mark, decimal_as e))

name-short : (n : ℕ) → length (name_bytes n) ≤ 3
name-short n = subst (λ (name : List ℕ). length name ≤ 3) (name-spelt n) (by (eqb (letters_of n) 0))
  where
    by : (t : Bool) → length (cond t [] (spelt (letters_of n))) ≤ 3
    by true = lit≤ tt
    by false = lit≤ tt

err_whole : (d : Delims) (f : Finding) → length (ended (err_line d f)) ≡ 13 + length (joined d.caret (place_parts f)) + length (code_text f.code) + length (decimal f.rule)
unfolding err_line
err_whole d f =
    rw (length-append, joined_size, marked_size, marked_size, marked_size, marked_size, marked_size, length-append, length-map (code_text f.code) (own_byte d))
    (omega (arith, marked_empty d.bar))

-- an ERR is as long by any delimiters
pub err_alike : (d e : Delims) (f : Finding) → length (ended (err_line d f)) ≡ length (ended (err_line e f))
err_alike d e f = omega (arith, err_whole d f, err_whole e f, joined_alike d.caret e.caret (place_parts f))

pub err_size : (f : Finding) {a b v k : ℕ} → ((mark : ℕ) → a ≡ length (joined mark (place_parts f))) → b ≡ length (code_text f.code) → v ≡ f.rule → k ≡ length (decimal v)
    → (d : Delims) → 13 + a + b + k ≡ length (ended (err_line d f))
err_size f place text e rule d = omega (arith, err_whole d f, place d.caret, decimal_as e)

-- ---- MSH and MSA
-- the fixed bytes, and what stands between them; the second letter of MSA-1 does not matter
pub heading-whole : (d : Delims) (msh stamp : List ℕ) (control second : ℕ) → length (heading d msh stamp control second)
    ≡ 69 + length stamp + length (decimal control) + length (copied d msh 3) + length (copied d msh 4) + length (copied d msh 5) + length (copied d msh 6) + length (copied d msh 10) + length (copied d msh 11)
unfolding heading msh_line msa_line
heading-whole d msh stamp control second = simp (length-append, joined_size, marked_size) (omega (arith, marked_empty d.bar))

-- a field is no longer than its segment
pub copied-short : (d : Delims) (msh : List ℕ) (k : ℕ) → length (copied d msh k) ≤ length msh
unfolding copied
copied-short d msh k = field_short (is_msh msh) d.bar msh k

pub heading-short : (d : Delims) (msh stamp : List ℕ) (control second : ℕ) → length (heading d msh stamp control second) ≤ 110 + length stamp + 6 * length msh
heading-short d msh stamp control second =
    omega (
      arith,
      heading-whole d msh stamp control second,
      decimal-short control,
      copied-short d msh 3,
      copied-short d msh 4,
      copied-short d msh 5,
      copied-short d msh 6,
      copied-short d msh 10,
      copied-short d msh 11,
    )

-- ---- bounds
cond_short : (n : ℕ) (b : Bool) (s t : List ℕ) → length s ≤ n → length t ≤ n → length (cond b s t) ≤ n
cond_short n true s t h k = h
cond_short n false s t h k = k

code_short : (n : ℕ) → length (code_text n) ≤ 40
unfolding code_text
code_short n =
    cond_short 40 (eqb n 100) _ _ (lit≤ tt)
    (cond_short 40 (eqb n 101) _ _ (lit≤ tt)
    (cond_short 40 (eqb n 102) _ _ (lit≤ tt)
    (cond_short 40 (eqb n 103) _ _ (lit≤ tt)
    (cond_short 40 (eqb n 200) _ _ (lit≤ tt)
    (cond_short 40 (eqb n 201) _ _ (lit≤ tt)
    (cond_short 40 (eqb n 202) _ _ (lit≤ tt) (cond_short 40 (eqb n 203) _ _ (lit≤ tt) (lit≤ tt))))))))

marked-short : (n mark : ℕ) (b : Bool) (ps : List (List ℕ)) → length (marked mark ps) ≤ n → length (marked mark (cond b [] ps)) ≤ n
marked-short n mark true ps h = omega (arith, marked_empty mark)
marked-short n mark false ps h = h

component-short : (mark n : ℕ) → length (marked mark (component_parts n)) ≤ 21
unfolding component_parts
component-short mark n =
    marked-short 21 mark (eqb n 0) _ (rw marked_size (omega (arith, decimal-short n, marked_empty mark)))

value-short : (mark : ℕ) (f : Finding) → length (marked mark (value_parts f)) ≤ 63
unfolding value_parts
value-short mark f =
    marked-short 63 mark (eqb f.field 0) _
    (rw (marked_size, marked_size) (omega (arith, decimal-short f.field, decimal-short f.repetition, component-short mark f.component)))

place_short : (mark : ℕ) (f : Finding) → length (joined mark (place_parts f)) ≤ 87
unfolding place_parts
place_short mark f = of (eqb f.name the_end)
  where
    of : (b : Bool) → length (joined mark (cond b [] (name_bytes f.name ∷ decimal f.ordinal ∷ value_parts f))) ≤ 87
    of true = omega (arith, joined_empty mark)
    of false = rw (joined_size, marked_size) (omega (arith, name-short f.name, decimal-short f.ordinal, value-short mark f))

err_short : (d : Delims) (f : Finding) → length (ended (err_line d f)) ≤ 160
err_short d f = omega (arith, err_whole d f, place_short d.caret f, code_short f.code, decimal-short f.rule)

pub errs-short : (d : Delims) (findings : List Finding) → length (errs d findings) ≤ 160 * length findings
unfolding errs flat_map
errs-short d [] = lit≤ tt
errs-short d (f ∷ findings) =
    omega (arith, length-append (ended (err_line d f)) (errs d findings), err_short d f, errs-short d findings)

-- so long at most, by what it is made of
pub ack_size : (d : Delims) (msh stamp : List ℕ) (control : ℕ) (findings : List Finding) → length (ack_bytes d msh stamp control findings) ≤ 110 + length stamp + 6 * length msh + 160 * length findings
ack_size d msh stamp control findings =
    rw (ack-is d msh stamp control findings, length-append)
    (omega (arith, heading-short d msh stamp control (verdict findings), errs-short d findings))

-- an ACK is far shorter than an index can be: the message has at most 32,768 bytes, the stamp 19, and the findings are few
pub ack-short : (d : Delims) (msh stamp : List ℕ) (control : ℕ) (findings : List Finding) → length msh ≤ 32768 → length stamp ≤ 19 → length findings ≤ 2 ^ 40
    → length (ack_bytes d msh stamp control findings) < 2 ^ 48
ack-short d msh stamp control findings h s few = omega (arith, ack_size d msh stamp control findings)
