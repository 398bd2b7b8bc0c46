-- Laws of names: where the first statement with a verb and a name stands, which names are not there, and the rows on them in order. Assumes nothing.
use mathlib.Core.Path.{◌≡◌, refl, sym, ap, ap₂, ◌∙◌}
use mathlib.Core.Bool.{Bool, true, false, cond, not, ◌&&◌, ◌||◌}
use mathlib.Core.List.{List, [], ◌∷◌}
use Prim.Native.Nat.{ℕ, suc, ◌+◌, ◌≤◌, ◌<◌}
use native.Mathlib.Omega.{arith}
use native.Mathlib.Numerals.{add-one}
use lib.Dec.{eqb, leb}
use lib.ListN.{length, get_or, drop}
use borrow.Author.Tests.{leb-true, leb-false, eq-eqb, ne_eqb}
use Rattle.hl7.specs.Bytes.{within}
use Rattle.grade.specs.Encoding.{each}
use Rattle.grade.specs.Limits.{section_limit}
use Rattle.booktext.specs.Lines.{Statement, verb, says, of_rule, of_codes, line_of, a_set, a_common, a_section, a_use, some_sets, a_bound, statements}
use Rattle.booktext.specs.Words.{kind_number, a_code_kind}
use Rattle.booktext.specs.Meaning.{from}
use Rattle.booktext.specs.Contents.{asks_code, section_of, sections_in, meaning}
use Rattle.booktext.specs.Faults.{Told, tell, nothing, before_bound}
use Rattle.booktext.specs.Refusals.{at_of, is_first, is_there, is_set, names_set, set_named, lacks, name_fault, first_name_fault}
use Rattle.booktext.specs.Standing.{words_from, statement_at, next_line, left, Finds}
use Rattle.booktext.proofs.Stating.{left-start, onward, found-onward, onward-none, onward-some, onward_step}

-- ---- the first with a verb and a name
module _ (t : List ℕ) {list tail : List Statement} {r : ℕ} (f : Finds t list tail r) where
  pub at-found : {x : ℕ} → x ≡ cond (leb r (length t)) r 0 → x ≡ at_of list
  at-found {x} e = by_case (leb r (length t)) refl
    where
      by_case : (b : Bool) → leb r (length t) ≡ b → x ≡ at_of list
      by_case true k = e ∙ ap (λ (b : Bool). cond b r 0) k ∙ sym (ap at_of (f.some (leb-true r (length t) k)))
      by_case false k = e ∙ ap (λ (b : Bool). cond b r 0) k ∙ sym (ap at_of (f.none (leb-false r (length t) k)))

  pub there-found : leb r (length t) ≡ is_there list
  there-found = by_case (leb r (length t)) refl
    where
      by_case : (b : Bool) → leb r (length t) ≡ b → leb r (length t) ≡ is_there list
      by_case true k = k ∙ sym (ap is_there (f.some (leb-true r (length t) k)))
      by_case false k = k ∙ sym (ap is_there (f.none (leb-false r (length t) k)))

-- whether it is that at a position
pub first_found : (t : List ℕ) (all : List Statement) (at : ℕ) {v x : ℕ} {name : List ℕ} {tail : List Statement} {r : ℕ} → v ≡ verb (statement_at t at 0) → name ≡ get_or (words_from t at) 1 [] → Finds t (from v name all) tail r → x ≡ cond (leb r (length t)) r 0 → eqb x at ≡ is_first all (statement_at t at 0)
first_found t all at e f d g = ap (λ (x : ℕ). eqb x at) (at-found t d g ∙ ap₂ (λ (v : ℕ) (name : List ℕ). at_of (from v name all)) e f)

-- ---- row 43
module _ (t : List ℕ) (at : ℕ) {v : ℕ} {b : Bool} (e : v ≡ verb (statement_at t at 0)) (f : b ≡ within a_set a_section v) where
  abbrev is_double : Bool → Bool
  is_double x = x && not (is_first (statements t) (statement_at t at 0))

  pub double_is : {x : Bool} → b ≡ x → is_double x ≡ is_double (within a_set a_section (verb (statement_at t at 0)))
  double_is h = ap is_double (sym h ∙ f ∙ ap (within a_set a_section) e)

  pub double_head : b ≡ true → {x : ℕ} {name : List ℕ} {tail : List Statement} {r : ℕ} → name ≡ get_or (words_from t at) 1 [] → Finds t (from v name (statements t)) tail r → x ≡ cond (leb r (length t)) r 0 → not (eqb x at) ≡ is_double (within a_set a_section (verb (statement_at t at 0)))
  double_head h n d g = ap not (first_found t (statements t) at e n d g) ∙ double_is h

-- ---- row 45
-- it names one set
pub names-is : (t : List ℕ) (at : ℕ) {v k : ℕ} {x : List ℕ} {rule codes : Bool} → v ≡ verb (statement_at t at 0) → rule ≡ of_rule v → codes ≡ of_codes v → x ≡ get_or (words_from t at) 2 [] → k ≡ kind_number x → (codes || ((rule || eqb v a_bound) && eqb k a_code_kind)) ≡ names_set (statement_at t at 0)
names-is t at e f c g h = rw (c, f, h, g, e)

-- it is a rule of kind CODE
pub asks-is : (t : List ℕ) (at : ℕ) {v k : ℕ} {x : List ℕ} {b : Bool} → v ≡ verb (statement_at t at 0) → b ≡ of_rule v → x ≡ get_or (words_from t at) 2 [] → k ≡ kind_number x → (b && eqb k a_code_kind) ≡ asks_code (statement_at t at 0)
asks-is t at e f g h = ap₂ ◌&&◌ (f ∙ ap of_rule e) (ap (λ (k : ℕ). eqb k a_code_kind) (h ∙ ap kind_number g))

module _ (t : List ℕ) (at : ℕ) {v : ℕ} (e : v ≡ verb (statement_at t at 0)) where
  abbrev lacks-by : Bool → Bool → Bool → Bool
  lacks-by takes one sets = cond takes (not (is_there (from a_common (get_or (words_from t at) 1 []) (statements t)))) (cond one (not (is_set (statements t) (set_named (statement_at t at 0)))) (sets && not (each (is_set (statements t)) (drop 1 (words_from t at)))))

  lacks-is : {takes one sets : Bool} → says a_use (statement_at t at 0) ≡ takes → names_set (statement_at t at 0) ≡ one → says some_sets (statement_at t at 0) ≡ sets → lacks (statements t) (statement_at t at 0) ≡ lacks-by takes one sets
  unfolding lacks
  lacks-is {takes} f g h =
      ap (λ (x : Bool). lacks-by x (names_set (statement_at t at 0)) (says some_sets (statement_at t at 0))) f
      ∙ ap₂ (lacks-by takes) g h

  pub lacks_common : v ≡ a_use → {name : List ℕ} {b : Bool} → name ≡ get_or (words_from t at) 1 [] → b ≡ is_there (from a_common name (statements t)) → not b ≡ lacks (statements t) (statement_at t at 0)
  lacks_common h f g =
      ap not (g ∙ ap (λ (x : List ℕ). is_there (from a_common x (statements t))) f)
      ∙ sym (lacks-is (eq-eqb (verb (statement_at t at 0)) a_use (sym e ∙ h)) refl refl)

  module _ (h : v ≡ a_use → ⊥) {one : Bool} (c : one ≡ names_set (statement_at t at 0)) where
    no_use : says a_use (statement_at t at 0) ≡ false
    no_use = ne_eqb (verb (statement_at t at 0)) a_use (λ q. h (e ∙ q))

    pub lacks-set : one ≡ true → {which : ℕ} {name : List ℕ} {b : Bool} → which ≡ cond (of_codes v) 1 (before_bound v) → name ≡ get_or (words_from t at) which [] → b ≡ is_there (from a_set name (statements t)) → not b ≡ lacks (statements t) (statement_at t at 0)
    lacks-set k {name = name} w f g =
        let is : name ≡ set_named (statement_at t at 0) = rw (f, w, e) in
        ap not (g ∙ ap (λ (x : List ℕ). is_there (from a_set x (statements t))) is) ∙ sym (lacks-is no_use (sym c ∙ k) refl)

    module _ (k : one ≡ false) where
      pub lacks-sets : v ≡ some_sets → (p : ℕ) {b : Bool} → words_from t p ≡ drop 1 (words_from t at) → b ≡ each (is_set (statements t)) (words_from t p) → not b ≡ lacks (statements t) (statement_at t at 0)
      lacks-sets l p f g =
          ap not (g ∙ ap (each (is_set (statements t))) f)
          ∙ sym (lacks-is no_use (sym c ∙ k) (eq-eqb (verb (statement_at t at 0)) some_sets (sym e ∙ l)))

      pub lacks_no : (v ≡ some_sets → ⊥) → false ≡ lacks (statements t) (statement_at t at 0)
      lacks_no l = sym (lacks-is no_use (sym c ∙ k) (ne_eqb (verb (statement_at t at 0)) some_sets (λ q. l (e ∙ q))))

-- ---- the rows in order
abbrev fault-by : Bool → Bool → Bool → ℕ
fault-by double many lack = cond double 43 (cond many 44 (cond lack 45 0))

module _ (all : List Statement) (count : ℕ) (s : Statement) where
  abbrev doubled : Bool
  doubled = within a_set a_section (verb s) && not (is_first all s)

  fault-is : {double many lack : Bool} → doubled ≡ double → (says a_section s && leb section_limit count) ≡ many → lacks all s ≡ lack → name_fault all count s ≡ fault-by double many lack
  unfolding name_fault
  fault-is {double} d m l = ap (λ (x : Bool). fault-by x (says a_section s && leb section_limit count) (lacks all s)) d ∙ ap₂ (fault-by double) m l

  module _ {double : Bool} (d : double ≡ doubled) where
    pub fault_double : double ≡ true → 43 ≡ name_fault all count s
    fault_double h = sym (fault-is (sym d ∙ h) refl refl)

    module _ (h : double ≡ false) {v : ℕ} (e : v ≡ verb s) where
      is_many : (says a_section s && leb section_limit count) ≡ (eqb v a_section && leb section_limit count)
      is_many = ap (λ (x : ℕ). eqb x a_section && leb section_limit count) (sym e)

      pub fault_many : (eqb v a_section && leb section_limit count) ≡ true → 44 ≡ name_fault all count s
      fault_many k = sym (fault-is (sym d ∙ h) (is_many ∙ k) refl)

      module _ (k : (eqb v a_section && leb section_limit count) ≡ false) {lack : Bool} (l : lack ≡ lacks all s) where
        pub fault_last : {x : Bool} → lack ≡ x → cond x 45 0 ≡ name_fault all count s
        fault_last m = sym (fault-is (sym d ∙ h) (is_many ∙ k) (sym l ∙ m))

  -- a section that is no fault is none too many
  section-room : name_fault all count s ≡ 0 → says a_section s ≡ true → count < section_limit
  section-room e f =
      let clear = by_case doubled (says a_section s && leb section_limit count) (lacks all s) (sym (fault-is refl refl refl) ∙ e) in
      leb-false section_limit count (sym (ap (λ (b : Bool). b && leb section_limit count) f) ∙ clear)
    where
      by_case : (double many lack : Bool) → fault-by double many lack ≡ 0 → many ≡ false
      by_case true many lack k = absurd (omega (arith, k))
      by_case false true lack k = absurd (omega (arith, k))
      by_case false false lack k = refl

-- ---- the first that is told, and the sections counted
abbrev name-told : List ℕ → ℕ → List Statement → Told
name-told t = first_name_fault t (statements t)

-- what is told of all is what is told of the statements left, and so many sections stand before them
pub record Naming (t : List ℕ) (sections at : ℕ) : Type 0 where
  pub told : name-told t 0 (statements t) ≡ name-told t sections (onward t (left t) at)
  pub counted : length (meaning t) ≡ sections + length (sections_in (statements t) (onward t (left t) at))
  pub few : sections ≤ section_limit

pub naming_start : (t : List ℕ) {at : ℕ} → Finds t (left t 0) (left t (next_line t at)) at → Naming t 0 at
unfolding meaning
naming_start t {at} f =
    let all = sym (left-start t) ∙ found-onward t (left t) f in
    let size : length (meaning t) ≡ length (sections_in (statements t) (onward t (left t) at)) = ap (λ (ss : List Statement). length (sections_in (statements t) ss)) all in
    record { told = ap (name-told t 0) all; counted = omega (arith, size); few = omega arith }

told_is_lem : (t : List ℕ) (count : ℕ) (s : Statement) (ss : List Statement) → name-told t count (s ∷ ss) ≡ cond (eqb (name_fault (statements t) count s) 0) (name-told t (cond (says a_section s) (suc count) count) ss) (tell (name_fault (statements t) count s) (line_of t s.at) 0)
unfolding first_name_fault
told_is_lem t count s ss = refl

told_none : (t : List ℕ) (count : ℕ) → name-told t count [] ≡ cond (eqb count 0) (tell 44 0 0) nothing
unfolding first_name_fault
told_none t count = refl

sections-is : (all : List Statement) (s : Statement) (ss : List Statement) {b : Bool} → says a_section s ≡ b → sections_in all (s ∷ ss) ≡ cond b (section_of all s ss ∷ sections_in all ss) (sections_in all ss)
unfolding sections_in
sections-is all s ss e = ap (λ (b : Bool). cond b (section_of all s ss ∷ sections_in all ss) (sections_in all ss)) e

sections-none : (all : List Statement) → sections_in all [] ≡ []
unfolding sections_in
sections-none all = refl

module _ (t : List ℕ) (sections at : ℕ) (w : Naming t sections at) where
  abbrev s : Statement
  s = statement_at t at 0

  module _ (h : length t < at) where
    name-last : name-told t 0 (statements t) ≡ cond (eqb sections 0) (tell 44 0 0) nothing
    name-last = w.told ∙ ap (name-told t sections) (onward-none t (left t) h) ∙ told_none t sections

    pub naming_none : sections ≡ 0 → tell 44 0 0 ≡ name-told t 0 (statements t)
    naming_none z = sym (name-last ∙ ap (λ (b : Bool). cond b (tell 44 0 0) nothing) (eq-eqb sections 0 z))

    module _ (n : sections ≡ 0 → ⊥) where
      pub naming_done : nothing ≡ name-told t 0 (statements t)
      naming_done = sym (name-last ∙ ap (λ (b : Bool). cond b (tell 44 0 0) nothing) (ne_eqb sections 0 n))

      pub naming_count : (sections ≡ length (meaning t)) × (1 ≤ sections) × (sections ≤ section_limit)
      naming_count =
          let all : length (meaning t) ≡ sections = omega (arith, w.counted, ap (λ (ss : List Statement). length (sections_in (statements t) ss)) (onward-none t (left t) h), ap length (sections-none (statements t))) in
          (sym all, omega (arith, n), w.few)

  module _ (h : at ≤ length t) {fault : ℕ} (f : fault ≡ name_fault (statements t) sections s) where
    told_here : (ss : List Statement) → onward t (left t) at ≡ s ∷ ss → name-told t 0 (statements t) ≡ cond (eqb fault 0) (name-told t (cond (says a_section s) (suc sections) sections) ss) (tell fault (line_of t at) 0)
    told_here ss e =
        w.told ∙ ap (name-told t sections) e ∙ told_is_lem t sections s ss
        ∙ ap (λ (n : ℕ). cond (eqb n 0) (name-told t (cond (says a_section s) (suc sections) sections) ss) (tell n (line_of t at) 0)) (sym f)

    pub naming_fault : (fault ≡ 0 → ⊥) → {line : ℕ} {r : Told} → line ≡ line_of t at → r ≡ tell fault line 0 → r ≡ name-told t 0 (statements t)
    naming_fault k l e =
        let ss = left t (next_line t at) in
        let here = told_here ss (onward-some t (left t) h) ∙ ap (λ (b : Bool). cond b (name-told t (cond (says a_section s) (suc sections) sections) ss) (tell fault (line_of t at) 0)) (ne_eqb fault 0 k) in
        e ∙ ap (λ (n : ℕ). tell fault n 0) l ∙ sym here

    pub naming_on : fault ≡ 0 → {v n p r : ℕ} → v ≡ verb s → n ≡ cond (eqb v a_section) (sections + 1) sections → p ≡ next_line t at → Finds t (left t p) (left t (next_line t r)) r → Naming t n r
    naming_on k {v} {n} {p} {r} e c g d = record { told = told_on; counted = (by_case (says a_section s) refl).0; few = (by_case (says a_section s) refl).1 }
      where
        ss : List Statement
        ss = onward t (left t) r

        step : onward t (left t) at ≡ s ∷ ss
        step = onward_step t (left t) h g d

        count-is : {b : Bool} → says a_section s ≡ b → n ≡ cond b (suc sections) sections
        count-is q = c ∙ ap₂ (λ (u m : ℕ). cond (eqb u a_section) m sections) e (add-one sections) ∙ ap (λ (b : Bool). cond b (suc sections) sections) q

        told_on : name-told t 0 (statements t) ≡ name-told t n ss
        told_on =
            told_here ss step
            ∙ ap (λ (b : Bool). cond b (name-told t (cond (says a_section s) (suc sections) sections) ss) (tell fault (line_of t at) 0)) (eq-eqb fault 0 k)
            ∙ ap (λ (m : ℕ). name-told t m ss) (sym (count-is refl))

        by_case : (b : Bool) → says a_section s ≡ b → (length (meaning t) ≡ n + length (sections_in (statements t) ss)) × (n ≤ section_limit)
        by_case true q = (
          omega (arith, w.counted, ap length (ap (sections_in (statements t)) step ∙ sections-is (statements t) s ss q), count-is q),
          omega (arith, count-is q, section-room (statements t) sections s (sym f ∙ k) q),
        )
        by_case false q = (
          omega (arith, w.counted, ap length (ap (sections_in (statements t)) step ∙ sections-is (statements t) s ss q), count-is q),
          omega (arith, count-is q, w.few),
        )
