-- Which five delimiters a message is cut by does not matter to grading: where its bytes that may delimit are exchanged among each other, and the book's keys and
-- codes stay as they are, number, detail and findings are the same. Assumes nothing.
use mathlib.Core.Path.{◌≡◌, refl, sym, ap, ap₂, ◌∙◌}
use mathlib.Core.Bool.{Bool, true, false, cond, not, ◌&&◌}
use mathlib.Core.List.Memᴰ
use mathlib.Core.List.{List, [], ◌∷◌, map, Memᴰ}
use mathlib.Core.Logic.{⊎_elim}
use Prim.Native.Nat.{ℕ, zero, suc, ◌-◌}
use native.Mathlib.Omega.{arith}
use lib.Dec.{leb}
use lib.ListN.{length, get_or, drop, length-map, get_or-map}
use borrow.Author.Tests.{leb-true}
use Rattle.hl7.specs.Text.{bytes}
use Rattle.hl7.specs.Bytes.{within, is_in, all, same}
use Rattle.hl7.specs.Cut.{Piece}
use Rattle.hl7.specs.Place.{delims_of, segments_of, never_cut, repetitions_of}
use Rattle.hl7.specs.Delimiters.{may_delimit}
use Rattle.hl7.specs.declared.place.Delims.{Delims}
use Rattle.hl7.proofs.Comparing.{and_both}
use Rattle.hl7.proofs.Delimiting.{is_plain}
use Rattle.hl7.proofs.Exchanging.{Exchange, exchanged, digit-plain, test-kept, digit-kept, plain-text, text-still, every, every-still, text-kept, byte-exchanged, same-exchanged, same_kept, among-kept, delims_exchanged, segments-exchanged, field_moved, never_kept, component-moved, repetitions_exchanged, in_segment-moved, segment-moved, exchanged-rows}
use Rattle.grade.specs.Digits.{is_sign, count_within}
use Rattle.grade.specs.Values.{is_unsigned, is_number, is_date, is_time}
use Rattle.grade.specs.Rule.{segment_names, number_from, name_of_letters}
use Rattle.grade.specs.Order.{name_of, name_at, name_before, earlier, may_follow}
use Rattle.grade.specs.Broken.{is_value, fits, broken, codes_of, breaks_rule}
use Rattle.grade.specs.Strict.{keep, count_from, pairs_from}
use Rattle.grade.specs.Findings.{Event, is_about, value_in, values_of, segment_at, named, values_at, rule_numbered, finding_at, breaks_at, turns, places, findings}
use Rattle.grade.specs.Header.{msh_of, msh_at, is_processing_id, header_of}
use Rattle.grade.specs.Book.{Contents, keys, decoded, under, no_section}
use Rattle.grade.specs.Admission.{key_of, book_rows, admit_rows}
use Rattle.grade.specs.Grading.{section_for, findings_by, findings_for, grade_of}
use Rattle.grade.specs.declared.rule.Kind.{Kind}
use Rattle.grade.specs.declared.rule.Kind.TheVariants.{Required, Length, Number, Date, Time, Code}
use Rattle.grade.specs.declared.rule.Rule.{Rule}
use Rattle.grade.proofs.Spelling.{sign_passes, date_all, time_all}

-- ---- digits, signs and points are plain
sign_plain : (x : ℕ) → is_sign x ≡ true → is_plain x ≡ true
unfolding may_delimit is_in
sign_plain = sign_passes is_plain refl refl

point_plain : (x : ℕ) → within 46 46 x ≡ true → is_plain x ≡ true
unfolding may_delimit is_in
point_plain x e =
    let both = and_both (leb 46 x) (leb x 46) e in
    let point : x ≡ 46 = omega (arith, leb-true 46 x both.0, leb-true x 46 both.1) in
    rw point

date_plain : (v : List ℕ) → is_date v ≡ true → all is_plain v ≡ true
date_plain = date_all is_plain digit-plain

time_plain : (low : ℕ) (v : List ℕ) → is_time low v ≡ true → all is_plain v ≡ true
unfolding may_delimit is_in
time_plain = time_all is_plain digit-plain sign_plain refl

-- ---- a book that an exchange leaves as it is
pub record Still (σ : ℕ → ℕ) (c : Contents) : Type 0 where
  pub key : map σ c.key ≡ c.key
  pub codes : map (map (map σ)) c.sets ≡ c.sets

abbrev EachStill : (ℕ → ℕ) → List Contents → Type 0
EachStill σ cs = (c : Contents) → Memᴰ c cs → Still σ c

-- the keys and the codes of all its sections stay
abbrev pub Unmoved : (ℕ → ℕ) → (book : List ℕ) → Type 0
Unmoved σ book = EachStill σ (decoded book)

-- every byte of a section's key and codes passes the test
abbrev pub all_in : (ℕ → Bool) → Contents → Bool
all_in test c = all test c.key && every (every (all test)) c.sets

-- so they stay where every byte of theirs passes a test that only bytes pass that stay: as that it is plain, or in neither of two fives
pub unmoved_by : {σ : ℕ → ℕ} (test : ℕ → Bool) → ((x : ℕ) → test x ≡ true → σ x ≡ x) → (book : List ℕ) → every (all_in test) (decoded book) ≡ true → Unmoved σ book
unmoved_by {σ} test stays book e = each (decoded book) e
  where
    still : (c : Contents) → all_in test c ≡ true → Still σ c
    still c e =
        let both = and_both (all test c.key) (every (every (all test)) c.sets) e in
        record { key = text-still test stays c.key both.0; codes = every-still (every (all test)) (every-still (all test) (text-still test stays)) c.sets both.1 }

    each : (cs : List Contents) → every (all_in test) cs ≡ true → EachStill σ cs
    each [] e c in-none = absurd (Memᴰ.not-nil in-none)
    each (x ∷ cs) e c in_all =
        let both = and_both (all_in test x) (every (all_in test) cs) e in
        ⊎_elim (λ (same : c ≡ x). still c (ap (all_in test) same ∙ both.0)) (each cs both.1 c) (Memᴰ.cases_cons in_all)

-- what stands for a section where there is none
abbrev none : Contents
none = record { key = []; rules = []; sets = [] }

module _ {σ : ℕ → ℕ} (ex : Exchange σ) where
  -- ---- values
  count_kept : (low high : ℕ) → ((x : ℕ) → within low high (σ x) ≡ within low high x) → (v : List ℕ) → count_within low high (map σ v) ≡ count_within low high v
  unfolding count_within
  count_kept low high kept [] = refl
  count_kept low high kept (x ∷ v) = rw (kept x, count_kept low high kept v)

  unsigned_kept : (v : List ℕ) → is_unsigned (map σ v) ≡ is_unsigned v
  unfolding is_unsigned
  unsigned_kept v = rw (count_kept 48 57 (digit-kept ex) v, count_kept 46 46 (test-kept ex (within 46 46) point_plain) v, length-map v σ)

  number-kept : (v : List ℕ) → is_number (map σ v) ≡ is_number v
  unfolding is_number
  number-kept [] = refl
  number-kept (x ∷ v) = rw (test-kept ex is_sign sign_plain x) (by (is_sign x))
    where
      by : (b : Bool) → is_unsigned (drop (cond b 1 0) (map σ (x ∷ v))) ≡ is_unsigned (drop (cond b 1 0) (x ∷ v))
      by true = unsigned_kept v
      by false = unsigned_kept (x ∷ v)

  fits_kept : (kind : Kind) (codes : List (List ℕ)) (v : List ℕ) → map (map σ) codes ≡ codes → fits kind codes (map σ v) ≡ fits kind codes v
  fits_kept Required codes v still = refl
  fits_kept (Length low high) codes v still = rw (length-map v σ)
  fits_kept Number codes v still = number-kept v
  fits_kept Date codes v still = text-kept ex is_date date_plain v
  fits_kept (Time digits) codes v still = text-kept ex (is_time digits) (time_plain digits) v
  fits_kept (Code set) codes v still = among-kept ex v codes still

  codes-still : (sets : List (List (List ℕ))) (kind : Kind) → map (map (map σ)) sets ≡ sets → map (map σ) (codes_of sets kind) ≡ codes_of sets kind
  codes-still sets Required still = refl
  codes-still sets (Length low high) still = refl
  codes-still sets Number still = refl
  codes-still sets Date still = refl
  codes-still sets (Time digits) still = refl
  codes-still sets (Code set) still = sym (get_or-map (map (map σ)) sets (set - 1) []) ∙ ap (λ (l : List (List (List ℕ))). get_or l (set - 1) []) still

  -- a quote is plain
  is_value-kept : (v : List ℕ) → is_value (map σ v) ≡ is_value v
  unfolding is_value all may_delimit is_in
  is_value-kept v = ap not (among-kept ex v ([] ∷ bytes "\"\"" ∷ []) (every-still (all is_plain) (plain-text ex) ([] ∷ bytes "\"\"" ∷ []) refl))

  breaks_rule-kept : (sets : List (List (List ℕ))) (rule : Rule) (r : ℕ) (v : List ℕ) → map (map (map σ)) sets ≡ sets → breaks_rule sets rule r (map σ v) ≡ breaks_rule sets rule r v
  unfolding breaks_rule broken
  breaks_rule-kept sets rule r v still = rw (is_value-kept v, fits_kept rule.kind (codes_of sets rule.kind) v (codes-still sets rule.kind still))

  -- ---- names
  name-number-kept : (n : ℕ) (name : List ℕ) (texts : List (List ℕ)) → number_from n (map σ name) (map (map σ) texts) ≡ number_from n name texts
  unfolding number_from
  name-number-kept n name [] = refl
  name-number-kept n name (text ∷ texts) = rw (same-exchanged ex name text, name-number-kept (suc n) name texts)

  name-kept : (seg : List ℕ) → name_of (map σ seg) ≡ name_of seg
  unfolding name_of_letters segment_names all may_delimit is_in
  name-kept seg =
      let letters = get_or seg 0 0 ∷ get_or seg 1 0 ∷ get_or seg 2 0 ∷ [] in
      rw (byte-exchanged ex seg 0, byte-exchanged ex seg 1, byte-exchanged ex seg 2)
      (ap (number_from 1 (map σ letters)) (sym (every-still (all is_plain) (plain-text ex) segment_names refl)) ∙ name-number-kept 1 letters segment_names)

  names-kept : (segments : List (List ℕ)) → map name_of (map (map σ) segments) ≡ map name_of segments
  names-kept [] = refl
  names-kept (seg ∷ segments) = rw (name-kept seg, names-kept segments)

  module _ (segments : List (List ℕ)) where
    at-kept : (n : ℕ) → name_at (map (map σ) segments) n ≡ name_at segments n
    at-kept n = rw (names-kept segments)

    before-kept : (n : ℕ) → name_before (map (map σ) segments) n ≡ name_before segments n
    unfolding name_before
    before-kept zero = refl
    before-kept (suc n) = rw (at-kept n, before-kept n)

    earlier-kept : (name n : ℕ) → earlier (map (map σ) segments) name n ≡ earlier segments name n
    unfolding earlier
    earlier-kept name zero = refl
    earlier-kept name (suc n) = rw (at-kept n, earlier-kept name n)

  -- ---- findings
  values-exchanged : (d : Delims) (rule : Rule) (seg : List ℕ) → values_of (exchanged σ d) rule (map σ seg) ≡ map (map σ) (values_of d rule seg)
  values-exchanged d rule seg = rw (never_kept ex seg rule.place.field, repetitions_exchanged ex d seg rule.place.field) (each (repetitions_of d seg rule.place.field))
    where
      whole : Bool
      whole = never_cut seg rule.place.field

      each : (reps : List (List ℕ)) → map (value_in (exchanged σ d) whole rule) (map (map σ) reps) ≡ map (map σ) (map (value_in d whole rule) reps)
      each [] = refl
      each (rep ∷ reps) = ap₂ ◌∷◌ (ap (λ (p : Piece). p.bytes) (component-moved ex d whole rep rule.place.component)) (each reps)

  module _ (follows : ℕ → ℕ → Bool) (rules : List Rule) (sets : List (List (List ℕ))) (m : List ℕ) (still : map (map (map σ)) sets ≡ sets) where
    values_at_lem : (n i : ℕ) → values_at follows rules sets (map σ m) n i ≡ map (map σ) (values_at follows rules sets m n i)
    values_at_lem n i =
        rw (delims_exchanged ex m, segments-exchanged ex m, get_or-map (map σ) (segments_of m) n [])
        (values-exchanged (delims_of m) (rule_numbered follows rules sets m i) (segment_at follows rules sets m n))

    named-kept : (n : ℕ) → named follows rules sets (map σ m) n ≡ named follows rules sets m n
    named-kept n = rw (segments-exchanged ex m) (at-kept (segments_of m) n)

    rule-kept : (n i r : ℕ) → breaks_rule sets (rule_numbered follows rules sets m i) r (get_or (values_at follows rules sets (map σ m) n i) r []) ≡ breaks_rule sets (rule_numbered follows rules sets m i) r (get_or (values_at follows rules sets m n i) r [])
    rule-kept n i r =
        ap (λ (vs : List (List ℕ)). breaks_rule sets (rule_numbered follows rules sets m i) r (get_or vs r [])) (values_at_lem n i)
        ∙ ap (breaks_rule sets (rule_numbered follows rules sets m i) r) (get_or-map (map σ) (values_at follows rules sets m n i) r [])
        ∙ breaks_rule-kept sets (rule_numbered follows rules sets m i) r (get_or (values_at follows rules sets m n i) r []) still

    breaks-kept : (n j r : ℕ) → breaks_at follows rules sets (map σ m) n j r ≡ breaks_at follows rules sets m n j r
    breaks-kept n zero r = rw (segments-exchanged ex m, before-kept (segments_of m) n, at-kept (segments_of m) n)
    breaks-kept n (suc i) r = ap₂ (λ (name : ℕ) (b : Bool). is_about (rule_numbered follows rules sets m i) name && b) (named-kept n) (rule-kept n i r)

    finding_kept : (n j r : ℕ) → finding_at follows rules sets (map σ m) n j r ≡ finding_at follows rules sets m n j r
    finding_kept n zero r = rw (segments-exchanged ex m, at-kept (segments_of m) n, earlier-kept (segments_of m))
    finding_kept n (suc i) r = rw (segments-exchanged ex m, at-kept (segments_of m) n, earlier-kept (segments_of m))

    turns-kept : (n j : ℕ) → turns follows rules sets (map σ m) n j ≡ turns follows rules sets m n j
    turns-kept n zero = refl
    turns-kept n (suc i) = rw (values_at_lem n i, length-map (values_at follows rules sets m n i) (map σ))

    segments-few : length (segments_of (map σ m)) ≡ length (segments_of m)
    segments-few = rw (segments-exchanged ex m) (length-map (segments_of m) (map σ))

    places-kept : places follows rules sets (map σ m) ≡ places follows rules sets m
    places-kept i = pairs_from 0 (suc (segments-few i)) (λ (n : ℕ). pairs_from 0 (suc (length rules)) (λ (j : ℕ). count_from 0 (turns-kept n j i)))

    findings-kept : findings follows rules sets (map σ m) ≡ findings follows rules sets m
    unfolding findings
    findings-kept i = map (λ (e : Event). finding_kept e.0 e.1.0 e.1.1 i) (keep (λ (e : Event). breaks-kept e.0 e.1.0 e.1.1 i) (places-kept i))

  -- ---- the header
  pub msh-exchanged : (m : List ℕ) → msh_of (map σ m) ≡ map σ (msh_of m)
  msh-exchanged m i = (segment-moved ex m 1 i).bytes

  msh_at-exchanged : (d : Delims) (msh : List ℕ) (f c : ℕ) → msh_at (exchanged σ d) (map σ msh) f c ≡ map σ (msh_at d msh f c)
  unfolding msh_at
  msh_at-exchanged d msh f c i = (in_segment-moved ex d msh f 1 c i).bytes

  same-plain : (v text : List ℕ) → all is_plain text ≡ true → same (map σ v) text ≡ same v text
  same-plain v text e = same_kept ex v text (plain-text ex text e)

  processing_kept : (v : List ℕ) → is_processing_id (map σ v) ≡ is_processing_id v
  unfolding is_processing_id all may_delimit is_in
  processing_kept v = rw (same-plain v (bytes "P") refl, same-plain v (bytes "T") refl, same-plain v (bytes "D") refl)

  header-kept : (d : Delims) (msh : List ℕ) → header_of (exchanged σ d) (map σ msh) ≡ header_of d msh
  unfolding header_of all may_delimit is_in
  header-kept d msh =
      rw (msh_at-exchanged d msh 9 1, msh_at-exchanged d msh 9 2, msh_at-exchanged d msh 11 1, msh_at-exchanged d msh 12 1)
      (rw (same-plain (msh_at d msh 9 1) (bytes "VXU") refl, same-plain (msh_at d msh 9 2) (bytes "V04") refl, processing_kept (msh_at d msh 11 1), same-plain (msh_at d msh 12 1) (bytes "2.5.1") refl))

  -- ---- the book
  keys-still : (cs : List Contents) → EachStill σ cs → map (map σ) (keys cs) ≡ keys cs
  keys-still [] still = refl
  keys-still (c ∷ cs) still = rw ((still c (Memᴰ.head refl)).key, keys-still cs (λ x m. still x (Memᴰ.tail m)))

  under-kept : (key : List ℕ) (cs : List Contents) → EachStill σ cs → under (map σ key) cs ≡ under key cs
  unfolding under
  under-kept key [] still = refl
  under-kept key (c ∷ cs) still = rw (same_kept ex key c.key (still c (Memᴰ.head refl)).key, under-kept key cs (λ x m. still x (Memᴰ.tail m)))

  codes-under : (key : List ℕ) (cs : List Contents) → EachStill σ cs → map (map (map σ)) (get_or (under key cs) 0 none).sets ≡ (get_or (under key cs) 0 none).sets
  unfolding under
  codes-under key [] still = refl
  codes-under key (c ∷ cs) still = by (same key c.key) (codes-under key cs (λ x m. still x (Memᴰ.tail m)))
    where
      by : (b : Bool) → map (map (map σ)) (get_or (under key cs) 0 none).sets ≡ (get_or (under key cs) 0 none).sets → map (map (map σ)) (get_or (cond b (c ∷ under key cs) (under key cs)) 0 none).sets ≡ (get_or (cond b (c ∷ under key cs) (under key cs)) 0 none).sets
      by true ih = (still c (Memᴰ.head refl)).codes
      by false ih = ih

  -- ---- grading
  module _ (m b : List ℕ) (still : Unmoved σ b) where
    key-exchanged : key_of (delims_of (map σ m)) (msh_of (map σ m)) ≡ map σ (key_of (delims_of m) (msh_of m))
    key-exchanged = rw (delims_exchanged ex m, msh-exchanged m) (msh_at-exchanged (delims_of m) (msh_of m) 6 1)

    pub admit_kept : admit_rows (map σ m) b ≡ admit_rows m b
    unfolding admit_rows book_rows no_section
    admit_kept =
        rw (exchanged-rows ex m, key-exchanged, delims_exchanged ex m, msh-exchanged m, field_moved ex (delims_of m) (msh_of m) 10, length-map _ σ)
        (rw (among-kept ex (key_of (delims_of m) (msh_of m)) (keys (decoded b)) (keys-still (decoded b) still)))

    section-kept : section_for (map σ m) b ≡ section_for m b
    unfolding section_for
    section-kept = rw (key-exchanged, under-kept (key_of (delims_of m) (msh_of m)) (decoded b) still)

    section-still : map (map (map σ)) (section_for m b).sets ≡ (section_for m b).sets
    unfolding section_for
    section-still = codes-under (key_of (delims_of m) (msh_of m)) (decoded b) still

    pub listed_kept : findings_for (map σ m) b ≡ findings_for m b
    unfolding findings_by
    listed_kept =
        rw (section-kept, delims_exchanged ex m, msh-exchanged m, header-kept (delims_of m) (msh_of m))
        (rw (findings-kept may_follow (section_for m b).rules (section_for m b).sets m section-still))

    pub exchanged_grade : grade_of (map σ m) b ≡ grade_of m b
    unfolding grade_of
    exchanged_grade = rw (admit_kept, listed_kept)
