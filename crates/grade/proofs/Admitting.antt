-- Laws of `specs/Admission.antt`: the steps of `admit` and `admit_stamped`, that their answer is the first of rows 1 to 9, or of rows 1 to 10, that
-- holds, and what is known of a message that was admitted. Assumes nothing.
use Prim.Native.Nat.{ℕ, ◌+◌, ◌≤◌, ◌<◌}
use native.Mathlib.Omega.{arith}
use mathlib.Core.Path.{◌≡◌, refl, sym, ap, subst₂, subst⁻¹, ◌∙◌}
use mathlib.Core.Bool.{Bool, true, false, cond, not}
use mathlib.Core.Logic.{◌↔◌}
use mathlib.Core.List.{List, [], ◌∷◌}
use Rattle.std.specs.Prelude.{Result, Ok, Err}
use lib.Dec.{eqb}
use lib.ListN.{length, get_or}
use borrow.Author.Tests.{eq-eqb, ne_eqb, eqb-true, eqb-false}
use Rattle.hl7.specs.Bytes.{is_in, distinct}
use Rattle.hl7.specs.Place.{delims_of}
use Rattle.hl7.specs.Refusals.{message_limit, Told, told, Row, first_row, passes, numbers_of, apart, First, message_rows, form_rows, is_sound}
use Rattle.hl7.specs.declared.place.Delims.{Delims}
use Rattle.hl7.proofs.Refusing.{none_answers, rows_append, row-exactly, none-exactly, message-apart, bounded_first, reading_bounded, sound-short}
use Rattle.grade.specs.Book.{no_section}
use Rattle.grade.specs.Header.{msh_of, header_of}
use Rattle.grade.specs.Admission.{has_control_id, key_of, book_rows, control_row, six_rows, msh_rows, admit_rows, stamp_row, ten_rows, refusal_told, admitted_told}
use Rattle.grade.specs.Standing.{site_in, OpensBook, terms_of, AdmitsBy, Admits, AdmitsStamped, Holds}
use Rattle.grade.specs.Values.{is_stamp}
use Rattle.grade.specs.declared.refusal.Refusal.{Refusal}
use Rattle.grade.specs.declared.step.Terms.{Terms}
use Rattle.grade.specs.declared.header.Header.{Header}
use Rattle.grade.specs.declared.walk.Section.{Section}
use Rattle.grade.proofs.Opening.{Under, opened_under}
use Rattle.grade.proofs.Telling.{refusal_some, refusal_once}

abbrev number_of : Told → ℕ
number_of t = t.number

same_terms : {t : Terms} {d : Delims} {s : Section} {h : Header} → t.d ≡ d → t.section ≡ s → t.header ≡ h → t ≡ record { d = d; section = s; header = h }
same_terms own site read = rw (← own, ← site, ← read)

-- ---- the steps, in the words of the code
module _ (d : Delims) (msh b : List ℕ) where
  pub admit_none : has_control_id d msh ≡ false → AdmitsBy (msh_rows d msh b) d msh b (Err Refusal.NoControlId)
  unfolding first_row
  admit_none e =
      let six : first_row (msh_rows d msh b) ≡ told 6 0 = rw e in
      record { told_is = sym six; by = λ none. absurd (omega (arith, ap number_of six, none)) }

  module _ {key : List ℕ} {o : Result Section Refusal} (e : has_control_id d msh ≡ true) (named : key ≡ key_of d msh) (found : OpensBook (book_rows b key) (site_in b key) o) where
    same_rows : first_row (book_rows b key) ≡ first_row (msh_rows d msh b)
    unfolding first_row
    same_rows = let rows : first_row (msh_rows d msh b) ≡ first_row (book_rows b (key_of d msh)) = rw e in ap (λ (k : List ℕ). first_row (book_rows b k)) named ∙ sym rows

    pub admit_unopened : (refusal : Refusal) → refusal_told refusal ≡ admitted_told o → AdmitsBy (msh_rows d msh b) d msh b (Err refusal)
    admit_unopened refusal is =
        let told_is = is ∙ found.told_is ∙ same_rows in record { told_is = told_is; by = λ none. absurd (refusal_some refusal (ap number_of told_is ∙ none)) }

    pub admit_opened : {t : Terms} → o ≡ Ok t.section → t.d ≡ d → t.header ≡ header_of d msh → AdmitsBy (msh_rows d msh b) d msh b (Ok t)
    admit_opened {t} is own read =
        let told_is = sym (ap admitted_told is) ∙ found.told_is ∙ same_rows in
        record { told_is = told_is; by = λ none. let site : t.section ≡ site_in b (key_of d msh) = at_site (found.at (ap number_of same_rows ∙ none)) in ap Ok (same_terms own site read) }
      where
        at_site : o ≡ Ok (site_in b key) → t.section ≡ site_in b (key_of d msh)
        at_site f = let here : t.section ≡ site_in b key = cc in here ∙ rw named

-- ---- reading: what it tells says whether the message is sound
module _ (m : List ℕ) where
  pub read_refused : (a : Refusal) → refusal_told a ≡ first_row (message_rows m) → is_sound m ≡ false
  unfolding is_sound
  read_refused a told_is = ne_eqb _ 0 (λ zero. refusal_some a (ap number_of told_is ∙ zero))

  pub read_sound : {t : Told} → t ≡ first_row (message_rows m) → t.number ≡ 0 → is_sound m ≡ true
  unfolding is_sound
  read_sound told_is zero = eq-eqb _ 0 (sym (ap number_of told_is) ∙ zero)

module _ (m b : List ℕ) where
  admit_rows_lem : first_row (admit_rows m b) ≡ cond (is_sound m) (first_row (msh_rows (delims_of m) (msh_of m) b)) (first_row (message_rows m))
  unfolding admit_rows is_sound
  admit_rows_lem = rows_append (message_rows m) (msh_rows (delims_of m) (msh_of m) b) (message-apart m)

  pub admit_sound : {d : Delims} {msh : List ℕ} {r : Result Terms Refusal} → is_sound m ≡ true → d ≡ delims_of m → msh ≡ msh_of m → AdmitsBy (msh_rows d msh b) d msh b r → Admits m b r
  admit_sound {d} {msh} {r} e own first is =
      let w = subst₂ (λ (x : Delims) (y : List ℕ). AdmitsBy (msh_rows x y b) x y b r) own first is in
      let rows : first_row (admit_rows m b) ≡ first_row (msh_rows (delims_of m) (msh_of m) b) = admit_rows_lem ∙ rw e in
      record { told_is = w.told_is ∙ sym rows; by = λ none. w.by (ap number_of (sym rows) ∙ none) }

  module _ (e : is_sound m ≡ false) where
    unsound_rows : first_row (admit_rows m b) ≡ first_row (message_rows m)
    unsound_rows = admit_rows_lem ∙ rw e

    unsound_some : (first_row (admit_rows m b)).number ≡ 0 → ⊥
    unfolding is_sound
    unsound_some none = eqb-false (first_row (message_rows m)).number 0 e (ap number_of (sym unsound_rows) ∙ none)

  pub admit_refused : (a : Refusal) → refusal_told a ≡ first_row (message_rows m) → Admits m b (Err a)
  admit_refused a p = let e = read_refused m a p in record { told_is = p ∙ sym (unsound_rows e); by = λ none. absurd (unsound_some e none) }

-- ---- rows 1 to 6
module _ (m : List ℕ) where
  six_rows_lem : first_row (six_rows m) ≡ cond (is_sound m) (first_row (control_row (delims_of m) (msh_of m) ∷ [])) (first_row (message_rows m))
  unfolding is_sound
  six_rows_lem = rows_append (message_rows m) (control_row (delims_of m) (msh_of m) ∷ []) (message-apart m)

  pub six_sound : {d : Delims} {msh : List ℕ} {t : Told} → is_sound m ≡ true → d ≡ delims_of m → msh ≡ msh_of m → t ≡ first_row (control_row d msh ∷ []) → t ≡ first_row (six_rows m)
  six_sound e own first p = p ∙ rw (own, first) (sym (six_rows_lem ∙ rw e))

  pub six_apart : apart (numbers_of (six_rows m)) ≡ true
  unfolding message_rows form_rows numbers_of distinct is_in
  six_apart = refl

  -- a message that passes them is sound
  pub six_passes : (first_row (six_rows m)).number ≡ 0 → is_sound m ≡ true
  unfolding is_sound
  six_passes none = by (is_sound m) refl
    where
      by : (sound : Bool) → is_sound m ≡ sound → is_sound m ≡ true
      by true e = e
      by false e =
          let rows : first_row (six_rows m) ≡ first_row (message_rows m) = six_rows_lem ∙ rw e in
          absurd (eqb-false (first_row (message_rows m)).number 0 e (sym (ap number_of rows) ∙ none))

  pub six_refused : {t : Told} → is_sound m ≡ false → t ≡ first_row (message_rows m) → t ≡ first_row (six_rows m)
  six_refused e p = p ∙ sym (six_rows_lem ∙ rw e)

-- ---- exactly when
pub admit_apart : (m b : List ℕ) → apart (numbers_of (admit_rows m b)) ≡ true
unfolding admit_rows message_rows form_rows book_rows numbers_of distinct is_in
admit_apart m b = refl

-- the number is k + 1 exactly when row k, from 0, is the first of the nine to hold
pub admit_exactly : (m b : List ℕ) {r : Result Terms Refusal} → Admits m b r → (k : ℕ) → k < 9 → ((admitted_told r).number ≡ get_or (numbers_of (admit_rows m b)) k 0) ↔ First (admit_rows m b) k
unfolding admit_rows message_rows form_rows book_rows
admit_exactly m b w k h =
    let law = row-exactly (admit_rows m b) (admit_apart m b) k h in
    let same = ap number_of w.told_is in
    (λ e. law.0 (sym same ∙ e), λ f. same ∙ law.1 f)

-- ---- one answer
told-refusal : (r q : Result Terms Refusal) → ((admitted_told r).number ≡ 0 → ⊥) → admitted_told r ≡ admitted_told q → r ≡ q
told-refusal (Ok t) q some e = absurd (some refl)
told-refusal (Err r) (Ok t) some e = absurd (some (ap number_of e))
told-refusal (Err r) (Err q) some e = ap Err (refusal_once r q e)

-- any two answers that the contract of `admit`, or of `admit_stamped`, allows are equal
pub admit_once : {rows : List Row} {d : Delims} {msh b : List ℕ} {r q : Result Terms Refusal} → AdmitsBy rows d msh b r → AdmitsBy rows d msh b q → r ≡ q
admit_once {rows} {d} {msh} {b} {r} {q} v w = by (eqb (first_row rows).number 0) refl
  where
    by : (t : Bool) → eqb (first_row rows).number 0 ≡ t → r ≡ q
    by true e = let none = eqb-true _ 0 e in v.by none ∙ sym (w.by none)
    by false e = told-refusal r q (λ zero. eqb-false _ 0 e (sym (ap number_of v.told_is) ∙ zero)) (v.told_is ∙ sym w.told_is)

-- what is refused meets a row
pub refused-some : {rows : List Row} {d : Delims} {msh b : List ℕ} {a : Refusal} → AdmitsBy rows d msh b (Err a) → (first_row rows).number ≡ 0 → ⊥
refused-some {a = a} w none = refusal_some a (ap number_of w.told_is ∙ none)

-- ---- a message that was admitted: it is sound, its header was read, and the section is the one with its key
pub record IsBy (m b : List ℕ) (t : Terms) : Type 0 where
  pub sound : is_sound m ≡ true
  pub own : t.d ≡ delims_of m
  pub reads : t.header ≡ header_of (delims_of m) (msh_of m)
  pub opens : Under b (key_of (delims_of m) (msh_of m)) t.section

module _ (m b : List ℕ) {t : Terms} (w : Admits m b (Ok t)) where
  -- no row holds
  pub admitted_none : (first_row (admit_rows m b)).number ≡ 0
  admitted_none = sym (ap number_of w.told_is)

  is_sound_lem : is_sound m ≡ true
  is_sound_lem = by (is_sound m) refl
    where
      by : (t : Bool) → is_sound m ≡ t → is_sound m ≡ true
      by true e = e
      by false e = absurd (unsound_some m b e admitted_none)

  has-section : no_section b (key_of (delims_of m) (msh_of m)) ≡ false
  unfolding admit_rows message_rows form_rows book_rows
  has-section = (none-exactly (admit_rows m b) (admit_apart m b)).0 admitted_none 8

  pub admitted_by : IsBy m b t
  admitted_by =
      let is = w.by admitted_none in
      let terms : t ≡ terms_of (delims_of m) (msh_of m) b = cc in
      record {
        sound = is_sound_lem;
        own = ap (λ (x : Terms). x.d) terms;
        reads = ap (λ (x : Terms). x.header) terms;
        opens = rw (ap (λ (x : Terms). x.section) terms) (opened_under b (key_of (delims_of m) (msh_of m)) has-section);
      }

  pub admitted_short : length m ≤ message_limit
  admitted_short = sound-short m is_sound_lem

  pub admitted_holds : Holds b t.section
  admitted_holds = admitted_by.opens.holds

-- a message that passes rows 1 to 9 is admitted by the section that it names
pub admits_passed : (m b : List ℕ) → (first_row (admit_rows m b)).number ≡ 0 → Admits m b (Ok (terms_of (delims_of m) (msh_of m) b))
admits_passed m b e = record { told_is = sym (none_answers (admit_rows m b) ((none-exactly (admit_rows m b) (admit_apart m b)).0 e)); by = λ _. refl }

-- no answer of rows 1 to 9 is larger than this
pub admit_bounded : (m b : List ℕ) → ((first_row (admit_rows m b)).number < 10) × ((first_row (admit_rows m b)).detail ≤ message_limit + 1)
unfolding admit_rows book_rows
admit_bounded m b = rw (admit_rows_lem m b) (by (is_sound m))
  where
    rest : List Row
    rest = msh_rows (delims_of m) (msh_of m) b

    by : (sound : Bool) → ((cond sound (first_row rest) (first_row (message_rows m))).number < 10) × ((cond sound (first_row rest) (first_row (message_rows m))).detail ≤ message_limit + 1)
    by true = bounded_first 10 (message_limit + 1) rest (omega arith) (omega arith, omega arith, (omega arith, omega arith, (omega arith, omega arith, (omega arith, omega arith, tt))))
    by false = let told = reading_bounded m in (omega arith, omega arith)

-- ---- rows 1 to 10
module _ (m b stamp : List ℕ) where
  pub ten_apart : apart (numbers_of (ten_rows m b stamp)) ≡ true
  unfolding admit_rows message_rows form_rows book_rows numbers_of distinct is_in
  ten_apart = refl

  -- the stamp's row is tried after the nine
  pub ten_first : first_row (ten_rows m b stamp) ≡ cond (passes (admit_rows m b)) (first_row (stamp_row stamp ∷ [])) (first_row (admit_rows m b))
  ten_first = rows_append (admit_rows m b) (stamp_row stamp ∷ []) (admit_apart m b)

  -- a message that passes them is admitted, and the stamp is right
  pub ten_passes : passes (ten_rows m b stamp) ≡ true → ((first_row (admit_rows m b)).number ≡ 0) × (is_stamp stamp ≡ true)
  unfolding first_row
  ten_passes e = by (passes (admit_rows m b)) (is_stamp stamp) refl refl (sym (ap number_of ten_first) ∙ eqb-true _ 0 e)
    where
      by : (passed right : Bool) → passes (admit_rows m b) ≡ passed → is_stamp stamp ≡ right → (cond passed (cond (not right) (told 10 0) (told 0 0)) (first_row (admit_rows m b))).number ≡ 0
          → ((first_row (admit_rows m b)).number ≡ 0) × (is_stamp stamp ≡ true)
      by true true f g none = (eqb-true _ 0 f, g)
      by true false f g none = absurd (omega (arith, none))
      by false right f g none = absurd (eqb-false _ 0 f none)

  -- no answer of theirs is larger than this
  pub ten_bounded : ((first_row (ten_rows m b stamp)).number < 11) × ((first_row (ten_rows m b stamp)).detail ≤ message_limit + 1)
  unfolding first_row
  ten_bounded = rw ten_first (by (passes (admit_rows m b)) (is_stamp stamp))
    where
      Small : Told → Type 0
      Small t = (t.number < 11) × (t.detail ≤ message_limit + 1)

      by : (passed right : Bool) → Small (cond passed (cond (not right) (told 10 0) (told 0 0)) (first_row (admit_rows m b)))
      by true true = (omega arith, omega arith)
      by true false = (omega arith, omega arith)
      by false right = let told = admit_bounded m b in (omega arith, told.1)

  -- where one of them holds, its number is neither 0 nor 11
  pub ten_refuses : passes (ten_rows m b stamp) ≡ false → ((first_row (ten_rows m b stamp)).number ≡ 0 → ⊥) × ((first_row (ten_rows m b stamp)).number ≡ 11 → ⊥)
  ten_refuses e = (eqb-false _ 0 e, λ is. omega (arith, is, ten_bounded.0))

  -- ---- the ways out of `admit_stamped`, in the words of the code
  pub stamped_refused : {a : Refusal} → Admits m b (Err a) → AdmitsStamped m b stamp (Err a)
  stamped_refused w =
      let some = refused-some w in
      let rows : first_row (ten_rows m b stamp) ≡ first_row (admit_rows m b) = ten_first ∙ rw (ne_eqb _ 0 some) in
      record { told_is = w.told_is ∙ sym rows; by = λ none. absurd (some (sym (ap number_of rows) ∙ none)) }

  module _ {t : Terms} (w : Admits m b (Ok t)) where
    stamp_decides : first_row (ten_rows m b stamp) ≡ first_row (stamp_row stamp ∷ [])
    stamp_decides = ten_first ∙ rw (eq-eqb _ 0 (admitted_none m b w))

    pub stamped_right : is_stamp stamp ≡ true → AdmitsStamped m b stamp (Ok t)
    unfolding first_row
    stamped_right e =
        let rows : first_row (ten_rows m b stamp) ≡ told 0 0 = stamp_decides ∙ rw e in
        record { told_is = sym rows; by = λ _. w.by (admitted_none m b w) }

    pub stamped_wrong : is_stamp stamp ≡ false → AdmitsStamped m b stamp (Err Refusal.WrongStamp)
    unfolding first_row
    stamped_wrong e =
        let rows : first_row (ten_rows m b stamp) ≡ told 10 0 = stamp_decides ∙ rw e in
        record { told_is = sym rows; by = λ none. absurd (omega (arith, ap number_of rows, none)) }

  -- a message that was admitted with a stamp
  module _ {t : Terms} (w : AdmitsStamped m b stamp (Ok t)) where
    none-holds : (first_row (ten_rows m b stamp)).number ≡ 0
    none-holds = sym (ap number_of w.told_is)

    pub stamped_passes : passes (ten_rows m b stamp) ≡ true
    stamped_passes = eq-eqb _ 0 none-holds

    pub stamped_stamp : is_stamp stamp ≡ true
    stamped_stamp = (ten_passes stamped_passes).1

    pub stamped_admitted : Admits m b (Ok t)
    stamped_admitted = subst⁻¹ (Admits m b) (w.by none-holds) (admits_passed m b (ten_passes stamped_passes).0)
