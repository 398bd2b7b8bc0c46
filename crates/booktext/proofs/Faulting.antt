-- Laws of `specs/Faults.antt` and of rows 31 and 32 in `specs/Refusals.antt`, in the words of the code that tries them. Assumes nothing.
use mathlib.Core.Path.{◌≡◌, refl, sym, ap, ◌∙◌}
use mathlib.Core.Bool.{Bool, true, false, cond, not, ◌&&◌, ◌||◌}
use mathlib.Core.List.{List, [], ◌∷◌}
use Prim.Native.Nat.{ℕ, suc, ◌+◌, ◌≤◌, ◌<◌}
use native.Mathlib.Omega.{arith}
use lib.Dec.{eqb}
use lib.ListN.{length, drop}
use borrow.Author.Tests.{eqb-true, eqb-false, eq-eqb, ne_eqb, lt-ltb, le-ltb}
use Rattle.std.specs.Option.{unwrap_or}
use Rattle.std.specs.List.{position_from}
use Rattle.std.specs.Prelude.{Some}
use Rattle.hl7.specs.Cut.{ahead, part_at}
use Rattle.grade.specs.Encoding.{each, text_fits}
use Rattle.booktext.specs.Lines.{Statement, word, verb, cut_at, statements, line_of, text_limit, of_codes, a_set, a_code}
use Rattle.booktext.specs.Faults.{tell, nothing, may_stand, inside, count_right, version_right, key_right, codes_right, place_right, kind_right, severity_right, before_bound, bound_right, fault_of, first_fault}
use Rattle.booktext.specs.Refusals.{allowed, forbidden, wrong_at, bytes_told}
use Rattle.booktext.specs.Standing.{statement_at, next_line, left, Finds, sound}
use Rattle.booktext.proofs.Stating.{left-start, onward, onward-none, onward-some, onward_step, found-onward}

-- ---- rows 31 and 32
-- in the library's words, from position `at` on
wrong_on : (at : ℕ) (t : List ℕ) → unwrap_or (position_from (λ x. not (allowed x)) at t) (at + length t) ≡ at + wrong_at t
unfolding cut_at ahead
wrong_on at [] = refl
wrong_on at (x ∷ t) = by (not (allowed x)) (wrong_on (at + 1) t)
  where
    by : (b : Bool) → unwrap_or (position_from (λ y. not (allowed y)) (at + 1) t) (at + 1 + length t) ≡ at + 1 + wrong_at t
        → unwrap_or (cond b (Some at) (position_from (λ y. not (allowed y)) (at + 1) t)) (at + length (x ∷ t)) ≡ at + length (part_at (ahead b x (cut_at forbidden t)) 0)
    by true ih = omega arith
    by false ih =
        let longer : at + length (x ∷ t) ≡ at + 1 + length t = omega arith in
        let later : at + 1 + wrong_at t ≡ at + suc (wrong_at t) = omega arith in
        ap (unwrap_or (position_from (λ y. not (allowed y)) (at + 1) t)) longer ∙ ih ∙ later

pub wrong_found : (t : List ℕ) → unwrap_or (position_from (λ x. not (allowed x)) 0 t) (length t) ≡ wrong_at t
wrong_found t =
    let whole : length t ≡ 0 + length t = omega arith in
    let here : 0 + wrong_at t ≡ wrong_at t = omega arith in
    ap (unwrap_or (position_from (λ x. not (allowed x)) 0 t)) whole ∙ wrong_on 0 t ∙ here

module _ (t : List ℕ) where
  pub told-long : text_limit < length t → tell 31 0 0 ≡ bytes_told t
  told-long h = rw (lt-ltb text_limit (length t) h)

  module _ {at : ℕ} (short : length t ≤ text_limit) (is : at ≡ wrong_at t) where
    pub told_wrong : {line : ℕ} → at < length t → line ≡ line_of t at → tell 32 line 0 ≡ bytes_told t
    told_wrong h l = rw (le-ltb text_limit (length t) short, ← is, lt-ltb at (length t) h, l)

    pub told-right : length t ≤ at → nothing ≡ bytes_told t
    told-right h = rw (le-ltb text_limit (length t) short, ← is, le-ltb at (length t) h)

-- ---- row 38
module _ (words : List (List ℕ)) {v : ℕ} where
  pub codes_code : {rest : List (List ℕ)} {r : Bool} → v ≡ a_code → rest ≡ drop 1 words → r ≡ each (text_fits 20) rest → r ≡ codes_right v words
  unfolding codes_right
  codes_code e p is = rw (is, p, eq-eqb v a_code e)

  module _ (n : v ≡ a_code → ⊥) {changes : Bool} (of : changes ≡ of_codes v) where
    pub codes-set : {rest : List (List ℕ)} {r : Bool} → (eqb v a_set || changes) ≡ true → rest ≡ drop 2 words → r ≡ each (text_fits 20) rest → r ≡ codes_right v words
    unfolding codes_right
    codes-set e p is = rw (is, p, ne_eqb v a_code n, ← of, e)

    pub codes-others : (eqb v a_set || changes) ≡ false → true ≡ codes_right v words
    unfolding codes_right
    codes-others e = rw (ne_eqb v a_code n, ← of, e)

-- ---- one statement
-- where no row holds, what each asks for is so
none-holds : (unknown stands count version key codes place kind severity bound : Bool)
    → ◌≡◌ {A = ℕ} (cond unknown 33 (cond (not stands) 34 (cond (not count) 35 (cond (not version) 36 (cond (not key) 37
    (cond (not codes) 38 (cond (not place) 39 (cond (not kind) 40 (cond (not severity) 41 (cond (not bound) 42 0)))))))))) 0
    → (count && key && codes && place && kind && severity && bound) ≡ true
none-holds true stands count version key codes place kind severity bound e = absurd (omega (arith, e))
none-holds false false count version key codes place kind severity bound e = absurd (omega (arith, e))
none-holds false true false version key codes place kind severity bound e = absurd (omega (arith, e))
none-holds false true true false key codes place kind severity bound e = absurd (omega (arith, e))
none-holds false true true true false codes place kind severity bound e = absurd (omega (arith, e))
none-holds false true true true true false place kind severity bound e = absurd (omega (arith, e))
none-holds false true true true true true false kind severity bound e = absurd (omega (arith, e))
none-holds false true true true true true true false severity bound e = absurd (omega (arith, e))
none-holds false true true true true true true true false bound e = absurd (omega (arith, e))
none-holds false true true true true true true true true false e = absurd (omega (arith, e))
none-holds false true true true true true true true true true e = refl

fault-sound : (here : ℕ) (s : Statement) → fault_of here s ≡ 0 → sound s ≡ true
unfolding fault_of sound
fault-sound here s e =
    none-holds (eqb (verb s) 0) (may_stand here (verb s)) (count_right (verb s) (length s.words)) (version_right (verb s) (word s 1)) (key_right (verb s) (word s 1))
    (codes_right (verb s) s.words) (place_right (verb s) (word s 1)) (kind_right (verb s) (word s 2)) (severity_right (verb s) (length s.words) (word s 2) (word s 3))
    (bound_right (verb s) (length s.words) (word s 2) (word s (before_bound (verb s))) (word s (suc (before_bound (verb s))))) e

-- ---- the first statement that has one
pub sound-all : (t : List ℕ) (here : ℕ) (ss : List Statement) → (first_fault t here ss).number ≡ 0 → each sound ss ≡ true
unfolding first_fault
sound-all t here [] e = refl
sound-all t here (s ∷ ss) e = by (eqb (fault_of here s) 0) refl (sound-all t (inside here (verb s)) ss) e
  where
    by : (none : Bool) → eqb (fault_of here s) 0 ≡ none → ((first_fault t (inside here (verb s)) ss).number ≡ 0 → each sound ss ≡ true)
        → (cond none (first_fault t (inside here (verb s)) ss) (tell (fault_of here s) (line_of t s.at) 0)).number ≡ 0 → (sound s && each sound ss) ≡ true
    by true is later e = rw (fault-sound here s (eqb-true (fault_of here s) 0 is)) (later e)
    by false is later e = absurd (eqb-false (fault_of here s) 0 is e)

pub fault-start : (t : List ℕ) (at : ℕ) → Finds t (left t 0) (left t (next_line t at)) at → first_fault t 0 (statements t) ≡ first_fault t 0 (onward t (left t) at)
fault-start t at f = ap (first_fault t 0) (sym (left-start t) ∙ found-onward t (left t) f)

module _ (t : List ℕ) (here at : ℕ) where
  pub fault-over : length t < at → nothing ≡ first_fault t here (onward t (left t) at)
  unfolding first_fault
  fault-over h = rw (onward-none t (left t) h)

  module _ {fault : ℕ} (h : at ≤ length t) (is : fault ≡ fault_of here (statement_at t at 0)) where
    pub fault-here : {line : ℕ} → (fault ≡ 0 → ⊥) → line ≡ line_of t at → tell fault line 0 ≡ first_fault t here (onward t (left t) at)
    unfolding first_fault
    fault-here n l = rw (onward-some t (left t) h, ← is, ne_eqb fault 0 n, l)

    pub fault-later : {v deeper line next : ℕ} → fault ≡ 0 → v ≡ verb (statement_at t at 0) → deeper ≡ inside here v → line ≡ next_line t at → Finds t (left t line) (left t (next_line t next)) next
        → first_fault t here (onward t (left t) at) ≡ first_fault t deeper (onward t (left t) next)
    unfolding first_fault
    fault-later e v d l f = rw (onward_step t (left t) h l f, ← is, eq-eqb fault 0 e, d, v)
