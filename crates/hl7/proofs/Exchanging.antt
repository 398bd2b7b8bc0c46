-- Which five delimiters a message is cut by does not matter: where its bytes that may delimit are exchanged among each other, refusals 1 to 5 and the places
-- stay as they are, and what a place holds is exchanged alike. Assumes nothing.
use mathlib.Core.Path.{◌≡◌, refl, sym, ap, ap₂, ◌∙◌}
use mathlib.Core.Bool.{Bool, true, false, cond, not, ◌&&◌, ◌||◌, and-false, or-true, not-not}
use mathlib.Core.List.{List, [], ◌∷◌, map, map-map}
use Prim.Native.Nat.{ℕ, zero, suc, ◌+◌}
use native.Mathlib.Omega.{arith}
use native.Mathlib.Decide.{ℕ_discrete}
use lib.Dec.{eqb}
use lib.ListN.{length, get_or, take, drop, length-map, get_or-map}
use borrow.Author.Tests.{eq-eqb, ne_eqb, eqb-true, eqb-false, not-true}
use Rattle.hl7.specs.declared.place.Delims.{Delims}
use Rattle.hl7.specs.Text.{bytes}
use Rattle.hl7.specs.Bytes.{within, is_digit, is_upper, is_in, distinct, all, same, among, begins}
use Rattle.hl7.specs.Cut.{ahead, cut, start_at, Piece, piece_at, missing, but_last}
use Rattle.hl7.specs.Place.{delims_of, carriage_return, segments_of, is_msh, nth_of, cut_unless, segment_of, part_of_field, field_of, never_cut, component_of, in_field, in_segment, place, repetitions_of}
use Rattle.hl7.specs.Delimiters.{may_delimit, five_of, may_cut, opens}
use Rattle.hl7.specs.Refusals.{allowed, wrong_bytes, has_form, wrong_segments, form_rows, message_rows, is_sound, located}
use Rattle.hl7.proofs.Comparing.{and_both, or_neither}
use Rattle.hl7.proofs.Delimiting.{Delimiting, is_plain, delimits_other}

-- bytes that may delimit are exchanged among each other, and plain ones stay
pub record Exchange (σ : ℕ → ℕ) : Type 0 where
  pub injective : (x y : ℕ) → σ x ≡ σ y → x ≡ y
  pub plain : (x : ℕ) → is_plain x ≡ true → σ x ≡ x

abbrev pub exchanged : (ℕ → ℕ) → Delims → Delims
exchanged σ d = record { bar = σ d.bar; caret = σ d.caret; tilde = σ d.tilde; backslash = σ d.backslash; ampersand = σ d.ampersand }

-- a piece stands where it stood, and its bytes are exchanged
abbrev pub moved : (ℕ → ℕ) → Piece → Piece
moved σ p = record { start = p.start; bytes = map σ p.bytes }

-- ---- tests
-- a test does not see f where f leaves what passes it
unseen : {A : Type 0} (f : A → A) (test : A → Bool) (y : A) → (test y ≡ true → f y ≡ y) → (test (f y) ≡ true → f y ≡ y) → test (f y) ≡ test y
unseen f test y before after = by (test (f y)) (test y) refl refl
  where
    by : (a b : Bool) → test (f y) ≡ a → test y ≡ b → a ≡ b
    by true b p q = sym p ∙ ap test (after p) ∙ q
    by false true p q = sym p ∙ ap test (before q) ∙ q
    by false false p q = refl

-- letters and digits are plain
upper_plain : (x : ℕ) → is_upper x ≡ true → is_plain x ≡ true
unfolding may_delimit
upper_plain x e = simp (e, and-false)

pub digit-plain : (x : ℕ) → is_digit x ≡ true → is_plain x ≡ true
unfolding may_delimit
digit-plain x e = simp (e, or-true, and-false)

-- ---- what stays
pub text-still : {σ : ℕ → ℕ} (test : ℕ → Bool) → ((x : ℕ) → test x ≡ true → σ x ≡ x) → (s : List ℕ) → all test s ≡ true → map σ s ≡ s
unfolding all
text-still test stays [] e = refl
text-still test stays (x ∷ s) e = let both = and_both (test x) (all test s) e in rw (stays x both.0, text-still test stays s both.1)

abbrev pub every : {A : Type 0} → (A → Bool) → List A → Bool
every test [] = true
every test (x ∷ l) = test x && every test l

pub every-still : {A : Type 0} {f : A → A} (test : A → Bool) → ((x : A) → test x ≡ true → f x ≡ x) → (l : List A) → every test l ≡ true → map f l ≡ l
every-still test stays [] e = refl
every-still test stays (x ∷ l) e = let both = and_both (test x) (every test l) e in rw (stays x both.0, every-still test stays l both.1)

module _ {σ : ℕ → ℕ} (ex : Exchange σ) where
  -- what comes to be plain was so before
  unmoved_plain : (x : ℕ) → is_plain (σ x) ≡ true → σ x ≡ x
  unmoved_plain x e = ex.injective (σ x) x (ex.plain (σ x) e)

  -- a test that only plain bytes pass says the same of what is exchanged
  pub test-kept : (test : ℕ → Bool) → ((x : ℕ) → test x ≡ true → is_plain x ≡ true) → (x : ℕ) → test (σ x) ≡ test x
  test-kept test only x = unseen σ test x (λ e. ex.plain x (only x e)) (λ e. unmoved_plain x (only (σ x) e))

  equal_kept : (x y : ℕ) → eqb (σ x) (σ y) ≡ eqb x y
  equal_kept x y = by (eqb x y) refl
    where
      by : (b : Bool) → eqb x y ≡ b → eqb (σ x) (σ y) ≡ b
      by true e = eq-eqb (σ x) (σ y) (ap σ (eqb-true x y e))
      by false e = ne_eqb (σ x) (σ y) (λ alike. eqb-false x y e (ex.injective x y alike))

  pub delimits_kept : (x : ℕ) → may_delimit (σ x) ≡ may_delimit x
  delimits_kept x = sym (not-not (may_delimit (σ x))) ∙ ap not (test-kept is_plain (λ y e. e) x) ∙ not-not (may_delimit x)

  allowed-kept : (x : ℕ) → allowed (σ x) ≡ allowed x
  unfolding may_delimit
  allowed-kept x = by (may_delimit x) refl
    where
      printable : (y : ℕ) → may_delimit y ≡ true → allowed y ≡ true
      printable y e = rw (and_both (within 32 126 y) _ e).0

      by : (b : Bool) → may_delimit x ≡ b → allowed (σ x) ≡ allowed x
      by true e = printable (σ x) (delimits_kept x ∙ e) ∙ sym (printable x e)
      by false e = ap allowed (ex.plain x (rw e))

  upper_kept : (x : ℕ) → is_upper (σ x) ≡ is_upper x
  upper_kept = test-kept is_upper upper_plain

  pub digit-kept : (x : ℕ) → is_digit (σ x) ≡ is_digit x
  digit-kept = test-kept is_digit digit-plain

  zero-kept : σ 0 ≡ 0
  unfolding may_delimit is_in
  zero-kept = ex.plain 0 refl

  return_kept : σ carriage_return ≡ carriage_return
  unfolding may_delimit is_in
  return_kept = ex.plain carriage_return refl

  -- ---- texts
  pub plain-text : (s : List ℕ) → all is_plain s ≡ true → map σ s ≡ s
  plain-text = text-still is_plain ex.plain

  unmoved_text : (s : List ℕ) → all is_plain (map σ s) ≡ true → map σ s ≡ s
  unfolding all
  unmoved_text [] e = refl
  unmoved_text (x ∷ s) e = let both = and_both (is_plain (σ x)) (all is_plain (map σ s)) e in rw (unmoved_plain x both.0, unmoved_text s both.1)

  -- a test that only plain texts pass says the same of what is exchanged
  pub text-kept : (test : List ℕ → Bool) → ((s : List ℕ) → test s ≡ true → all is_plain s ≡ true) → (s : List ℕ) → test (map σ s) ≡ test s
  text-kept test only s = unseen (map σ) test s (λ e. plain-text s (only s e)) (λ e. unmoved_text s (only (map σ s) e))

  pub byte-exchanged : (s : List ℕ) (k : ℕ) → get_or (map σ s) k 0 ≡ σ (get_or s k 0)
  byte-exchanged s k = rw zero-kept at (get_or-map σ s k 0)

  pub same-exchanged : (v w : List ℕ) → same (map σ v) (map σ w) ≡ same v w
  unfolding same
  same-exchanged [] [] = refl
  same-exchanged [] (y ∷ w) = refl
  same-exchanged (x ∷ v) [] = refl
  same-exchanged (x ∷ v) (y ∷ w) = rw (equal_kept x y, same-exchanged v w)

  pub same_kept : (v text : List ℕ) → map σ text ≡ text → same (map σ v) text ≡ same v text
  same_kept v text still = ap (same (map σ v)) (sym still) ∙ same-exchanged v text

  pub among-kept : (v : List ℕ) (texts : List (List ℕ)) → map (map σ) texts ≡ texts → among (map σ v) texts ≡ among v texts
  unfolding among
  among-kept v texts still = ap (among (map σ v)) (sym still) ∙ one_of texts
    where
      one_of : (texts : List (List ℕ)) → among (map σ v) (map (map σ) texts) ≡ among v texts
      one_of [] = refl
      one_of (text ∷ texts) = rw (same-exchanged v text, one_of texts)

  begins-exchanged : (p s : List ℕ) → begins (map σ p) (map σ s) ≡ begins p s
  unfolding begins
  begins-exchanged [] s = refl
  begins-exchanged (x ∷ p) [] = refl
  begins-exchanged (x ∷ p) (y ∷ s) = rw (equal_kept y x, begins-exchanged p s)

  begins-kept : (p s : List ℕ) → all is_plain p ≡ true → begins p (map σ s) ≡ begins p s
  begins-kept p s e = ap (λ (q : List ℕ). begins q (map σ s)) (sym (plain-text p e)) ∙ begins-exchanged p s

  msh-kept : (seg : List ℕ) → is_msh (map σ seg) ≡ is_msh seg
  unfolding all may_delimit is_in
  msh-kept seg = begins-kept (bytes "MSH") seg refl

  -- ---- cutting
  pub delims_exchanged : (m : List ℕ) → delims_of (map σ m) ≡ exchanged σ (delims_of m)
  unfolding delims_of
  delims_exchanged m = simp byte-exchanged

  cut-exchanged : (d : ℕ) (s : List ℕ) → cut (σ d) (map σ s) ≡ map (map σ) (cut d s)
  unfolding cut ahead
  cut-exchanged d [] = refl
  cut-exchanged d (x ∷ s) = rw (equal_kept x d, cut-exchanged d s) (by (eqb x d) (cut d s))
    where
      by : (b : Bool) (ps : List (List ℕ)) → ahead b (σ x) (map (map σ) ps) ≡ map (map σ) (ahead b x ps)
      by true ps = refl
      by false [] = refl
      by false (p ∷ ps) = refl

  lines-exchanged : (m : List ℕ) → cut carriage_return (map σ m) ≡ map (map σ) (cut carriage_return m)
  lines-exchanged m = ap (λ (c : ℕ). cut c (map σ m)) (sym return_kept) ∙ cut-exchanged carriage_return m

  pub segments-exchanged : (m : List ℕ) → segments_of (map σ m) ≡ map (map σ) (segments_of m)
  unfolding but_last
  segments-exchanged m = ap but_last (lines-exchanged m) ∙ but_last_lem (cut carriage_return m)
    where
      but_last_lem : (ps : List (List ℕ)) → but_last (map (map σ) ps) ≡ map (map σ) (but_last ps)
      but_last_lem [] = refl
      but_last_lem (p ∷ []) = refl
      but_last_lem (p ∷ (q ∷ ps)) = ap (λ (l : List (List ℕ)). map σ p ∷ l) (but_last_lem (q ∷ ps))

  start-kept : (ps : List (List ℕ)) (k : ℕ) → start_at (map (map σ) ps) k ≡ start_at ps k
  unfolding start_at
  start-kept [] k = refl
  start-kept (p ∷ ps) zero = refl
  start-kept (p ∷ []) (suc k) = length-map p σ
  start-kept (p ∷ (q ∷ ps)) (suc k) = rw (length-map p σ, start-kept (q ∷ ps) k)

  piece_moved : (ps : List (List ℕ)) (k : ℕ) → piece_at (map (map σ) ps) k ≡ moved σ (piece_at ps k)
  piece_moved ps k i = record { start = start-kept ps k i; bytes = get_or-map (map σ) ps k [] i }

  missing-moved : (s : List ℕ) → missing (map σ s) ≡ moved σ (missing s)
  missing-moved s i = record { start = length-map s σ i; bytes = [] }

  nth_moved : (s : List ℕ) (ps : List (List ℕ)) (k : ℕ) → nth_of (map σ s) (map (map σ) ps) k ≡ moved σ (nth_of s ps k)
  unfolding nth_of
  nth_moved s ps zero = missing-moved s
  nth_moved s ps (suc k) = piece_moved ps k

  unless-exchanged : (whole : Bool) (d : ℕ) (s : List ℕ) → cut_unless whole (σ d) (map σ s) ≡ map (map σ) (cut_unless whole d s)
  unfolding cut_unless
  unless-exchanged true d s = refl
  unless-exchanged false d s = cut-exchanged d s

  -- ---- places
  part_moved : (msh : Bool) (bar : ℕ) (seg : List ℕ) (f : ℕ) → part_of_field msh (σ bar) (map σ seg) f ≡ moved σ (part_of_field msh bar seg f)
  unfolding part_of_field
  part_moved msh bar seg zero = missing-moved seg
  part_moved true bar seg (suc zero) = ap (λ (s : List ℕ). record { start = 3; bytes = s }) (fourth seg)
    where
      fourth : (s : List ℕ) → take 1 (drop 3 (map σ s)) ≡ map σ (take 1 (drop 3 s))
      fourth [] = refl
      fourth (a ∷ []) = refl
      fourth (a ∷ (b ∷ [])) = refl
      fourth (a ∷ (b ∷ (c ∷ []))) = refl
      fourth (a ∷ (b ∷ (c ∷ (d ∷ s)))) = refl
  part_moved true bar seg (suc (suc k)) = rw (cut-exchanged bar seg) (piece_moved (cut bar seg) (suc k))
  part_moved false bar seg (suc k) = rw (cut-exchanged bar seg) (piece_moved (cut bar seg) (suc k))

  pub never_kept : (seg : List ℕ) (f : ℕ) → never_cut (map σ seg) f ≡ never_cut seg f
  unfolding never_cut
  never_kept seg f = rw (msh-kept seg)

  module _ (d : Delims) where
    pub field_moved : (seg : List ℕ) (f : ℕ) → field_of (exchanged σ d) (map σ seg) f ≡ moved σ (field_of d seg f)
    field_moved seg f = rw (msh-kept seg) (part_moved (is_msh seg) d.bar seg f)

    pub component-moved : (whole : Bool) (rep : List ℕ) (c : ℕ) → component_of (exchanged σ d) whole (map σ rep) c ≡ moved σ (component_of d whole rep c)
    unfolding component_of
    component-moved whole rep zero = refl
    component-moved whole rep (suc c) = rw (unless-exchanged whole d.caret rep) (nth_moved rep (cut_unless whole d.caret rep) (suc c))

    pub repetitions_exchanged : (seg : List ℕ) (f : ℕ) → repetitions_of (exchanged σ d) (map σ seg) f ≡ map (map σ) (repetitions_of d seg f)
    unfolding repetitions_of
    repetitions_exchanged seg f = rw (never_kept seg f, field_moved seg f) (unless-exchanged (never_cut seg f) d.tilde (field_of d seg f).bytes)

    in_field-moved : (whole : Bool) (fld : List ℕ) (r c : ℕ) → in_field (exchanged σ d) whole (map σ fld) r c ≡ moved σ (in_field d whole fld r c)
    unfolding in_field
    in_field-moved whole fld r c = rw (unless-exchanged whole d.tilde fld, nth_moved fld (cut_unless whole d.tilde fld) r, component-moved)

    pub in_segment-moved : (seg : List ℕ) (f r c : ℕ) → in_segment (exchanged σ d) (map σ seg) f r c ≡ moved σ (in_segment d seg f r c)
    unfolding in_segment
    in_segment-moved seg f r c = rw (field_moved seg f, never_kept seg f, in_field-moved)

  pub segment-moved : (m : List ℕ) (n : ℕ) → segment_of (map σ m) n ≡ moved σ (segment_of m n)
  unfolding cut_unless
  segment-moved m n = rw (lines-exchanged m) (nth_moved m (cut carriage_return m) n)

  place-moved : (d : Delims) (m : List ℕ) (n f r c : ℕ) → place (exchanged σ d) (map σ m) n f r c ≡ moved σ (place d m n f r c)
  unfolding place
  place-moved d m n f r c = rw (segment-moved m n, in_segment-moved)

  -- ---- rows 1 to 5
  cuts_kept : (d : Delims) → may_cut (exchanged σ d) ≡ may_cut d
  unfolding may_cut all distinct is_in
  cuts_kept d = simp (delimits_kept, equal_kept)

  opens_kept : (name m : List ℕ) → all is_plain name ≡ true → opens name (map σ m) ≡ opens name m
  unfolding opens
  opens_kept name m e = rw (begins-kept name m e, delims_exchanged m, cuts_kept (delims_of m), byte-exchanged m 8, equal_kept)

  bytes-kept : (at : ℕ) (s : List ℕ) → wrong_bytes at (map σ s) ≡ wrong_bytes at s
  unfolding wrong_bytes
  bytes-kept at [] = refl
  bytes-kept at (x ∷ s) = rw (allowed-kept x, bytes-kept (suc at) s)

  form_kept : (d : Delims) (seg : List ℕ) → has_form (exchanged σ d) (map σ seg) ≡ has_form d seg
  unfolding has_form
  form_kept d seg = simp (byte-exchanged, upper_kept, digit-kept, equal_kept, length-map)

  wrong_kept : (d : Delims) (at : ℕ) (ps : List (List ℕ)) → wrong_segments (exchanged σ d) at (map (map σ) ps) ≡ wrong_segments d at ps
  unfolding wrong_segments
  wrong_kept d at [] = refl
  wrong_kept d at (p ∷ []) = rw (length-map p σ)
  wrong_kept d at (p ∷ (q ∷ ps)) = rw (form_kept d p, length-map p σ, wrong_kept d (at + length p + 1) (q ∷ ps))

  pub exchanged-rows : (m : List ℕ) → message_rows (map σ m) ≡ message_rows m
  unfolding message_rows form_rows all may_delimit is_in
  exchanged-rows m = rw (length-map m σ, bytes-kept 0 m, opens_kept (bytes "MSH") m refl, delims_exchanged m, lines-exchanged m, wrong_kept (delims_of m) 0 (cut carriage_return m))

  pub exchanged-place : (m : List ℕ) (n f r c : ℕ) → located (map σ m) n f r c ≡ moved σ (located m n f r c)
  unfolding located is_sound
  exchanged-place m n f r c = rw (exchanged-rows m, delims_exchanged m, place-moved (delims_of m) m n f r c) (by (is_sound m))
    where
      by : (b : Bool) → cond b (moved σ (place (delims_of m) m n f r c)) (record { start = 0; bytes = [] }) ≡ moved σ (cond b (place (delims_of m) m n f r c) (record { start = 0; bytes = [] }))
      by true = refl
      by false = refl

-- ---- any five bytes that may delimit can be exchanged for any other five
abbrev swap : ℕ → ℕ → ℕ → ℕ
swap a b x = cond (eqb x a) b (cond (eqb x b) a x)

module _ (a b : ℕ) where
  swap-first : swap a b a ≡ b
  swap-first = rw (eq-eqb a a refl)

  swap_second : swap a b b ≡ a
  swap_second = by (eqb b a) refl
    where
      by : (t : Bool) → eqb b a ≡ t → cond t b (cond (eqb b b) a b) ≡ a
      by true e = eqb-true b a e
      by false e = rw (eq-eqb b b refl)

  swap_other : (x : ℕ) → (x ≡ a → ⊥) → (x ≡ b → ⊥) → swap a b x ≡ x
  swap_other x p q = rw (ne_eqb x a p, ne_eqb x b q)

  -- it undoes itself
  swap_twice : (x : ℕ) → swap a b (swap a b x) ≡ x
  swap_twice x = by (ℕ_discrete x a) (ℕ_discrete x b)
    where
      by : Dec (x ≡ a) → Dec (x ≡ b) → swap a b (swap a b x) ≡ x
      by (yes e) q = ap (λ (y : ℕ). swap a b (swap a b y)) e ∙ ap (swap a b) swap-first ∙ swap_second ∙ sym e
      by (no p) (yes e) = ap (λ (y : ℕ). swap a b (swap a b y)) e ∙ ap (swap a b) swap_second ∙ swap-first ∙ sym e
      by (no p) (no q) = ap (swap a b) (swap_other x p q) ∙ swap_other x p q

  swap-without : (l : List ℕ) → is_in a l ≡ false → is_in b l ≡ false → map (swap a b) l ≡ l
  unfolding is_in
  swap-without [] p q = refl
  swap-without (x ∷ l) p q =
      let no-a = or_neither (eqb a x) (is_in a l) p in
      let no-b = or_neither (eqb b x) (is_in b l) q in
      rw (swap_other x (λ e. eqb-false a x no-a.0 (sym e)) (λ e. eqb-false b x no-b.0 (sym e)), swap-without l no-a.1 no-b.1)

  swap-after : {σ : ℕ → ℕ} → may_delimit a ≡ true → may_delimit b ≡ true → Exchange σ → Exchange (λ x. swap a b (σ x))
  swap-after {σ} p q ex =
      record {
        injective = λ x y e. ex.injective x y (sym (swap_twice (σ x)) ∙ ap (swap a b) e ∙ swap_twice (σ y));
        plain = λ x e. ap (swap a b) (ex.plain x e) ∙ swap_other x (λ z. delimits_other a x p e (sym z)) (λ z. delimits_other b x q e (sym z));
      }

abbrev pub in_neither : (xs ys : List ℕ) → ℕ → Bool
in_neither xs ys z = not (is_in z xs) && not (is_in z ys)

-- an exchange that takes the bytes xs to the bytes ys in turn, and leaves what is in neither
pub record Takes (xs ys : List ℕ) : Type 0 where
  pub by : ℕ → ℕ
  pub exchange : Exchange by
  pub takes : map by xs ≡ ys
  pub leaves : (z : ℕ) → in_neither xs ys z ≡ true → by z ≡ z

in_exchanged : {σ : ℕ → ℕ} → Exchange σ → (x : ℕ) (l : List ℕ) → is_in (σ x) (map σ l) ≡ is_in x l
unfolding is_in
in_exchanged ex x [] = refl
in_exchanged ex x (y ∷ l) = rw (equal_kept ex x y, in_exchanged ex x l)

module _ (x y : ℕ) (xs ys : List ℕ) (may-x : may_delimit x ≡ true) (may-y : may_delimit y ≡ true) (new-x : is_in x xs ≡ false) (new-y : is_in y ys ≡ false) (t : Takes xs ys) where
  one_more : Takes (x ∷ xs) (y ∷ ys)
  unfolding is_in
  one_more =
      let a = t.by x in
      let apart : is_in a ys ≡ false = ap (is_in a) (sym t.takes) ∙ in_exchanged t.exchange x xs ∙ new-x in
      record {
        by = λ z. swap a y (t.by z);
        exchange = swap-after a y (delimits_kept t.exchange x ∙ may-x) may-y t.exchange;
        takes = ap₂ ◌∷◌ (swap-first a y) (sym (map-map (swap a y) t.by xs) ∙ ap (map (swap a y)) t.takes ∙ swap-without a y ys apart new-y);
        leaves = left;
      }
    where
      left : (z : ℕ) → (not (eqb z x || is_in z xs) && not (eqb z y || is_in z ys)) ≡ true → swap (t.by x) y (t.by z) ≡ z
      left z e =
          let both = and_both (not (eqb z x || is_in z xs)) (not (eqb z y || is_in z ys)) e in
          let no-x = or_neither (eqb z x) (is_in z xs) (not-true _ both.0) in
          let no-y = or_neither (eqb z y) (is_in z ys) (not-true _ both.1) in
          let stays = t.leaves z (rw (no-x.1, no-y.1)) in
          ap (swap (t.by x) y) stays ∙ swap_other (t.by x) y z (λ e. eqb-false z x no-x.0 (t.exchange.injective z x (stays ∙ e))) (eqb-false z y no-y.0)

exchange_each : (xs ys : List ℕ) → length xs ≡ length ys → all may_delimit xs ≡ true → all may_delimit ys ≡ true → distinct xs ≡ true → distinct ys ≡ true → Takes xs ys
unfolding all distinct
exchange_each [] [] l p q r s = record { by = λ z. z; exchange = record { injective = λ x y e. e; plain = λ x e. refl }; takes = refl; leaves = λ z e. refl }
exchange_each [] (y ∷ ys) l p q r s = absurd (omega arith)
exchange_each (x ∷ xs) [] l p q r s = absurd (omega arith)
exchange_each (x ∷ xs) (y ∷ ys) l p q r s =
    let may-x = and_both (may_delimit x) (all may_delimit xs) p in
    let may-y = and_both (may_delimit y) (all may_delimit ys) q in
    let new-x = and_both (not (is_in x xs)) (distinct xs) r in
    let new-y = and_both (not (is_in y ys)) (distinct ys) s in
    one_more x y xs ys may-x.0 may-y.0 (not-true _ new-x.0) (not-true _ new-y.0) (exchange_each xs ys (omega arith) may-x.1 may-y.1 new-x.1 new-y.1)

pub exchange_between : {d e : Delims} → Delimiting d → Delimiting e → Takes (five_of d) (five_of e)
exchange_between {d} {e} own other = exchange_each (five_of d) (five_of e) refl own.each other.each own.differ other.differ

-- which takes the one's delimiters to the other's
pub exchange_delims : {d e : Delims} (own : Delimiting d) (other : Delimiting e) → exchanged (exchange_between own other).by d ≡ e
exchange_delims own other i =
    let five = (exchange_between own other).takes i in
    record { bar = get_or five 0 0; caret = get_or five 1 0; tilde = get_or five 2 0; backslash = get_or five 3 0; ampersand = get_or five 4 0 }
