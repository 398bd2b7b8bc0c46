-- Laws of words and lines: what is said from a position on, word by word. A blank is passed; LF, a bar or the end ends it; a run of other bytes is a word.
-- Assumes nothing.
use mathlib.Core.Path.{◌≡◌, refl, sym, ap, ap₂, ◌∙◌}
use mathlib.Core.Bool.{Bool, true, false, cond, not, ◌&&◌, ◌||◌, true≢false}
use mathlib.Core.List.{List, [], ◌∷◌, ◌++◌, append-nil}
use Prim.Native.Nat.{ℕ, ◌+◌, ◌-◌, ◌≤◌, ◌<◌}
use native.Mathlib.Omega.{arith}
use native.Mathlib.Nat.{add-zero}
use lib.Dec.{eqb}
use lib.ListN.{length, get_or, take, drop, length-drop, length-append, drop_of_length-le}
use lib.Seq.{take-append_seam, drop-drop, get_or-drop}
use borrow.Author.Tests.{eqb-true, not-true, not-false}
use Rattle.hl7.specs.Bytes.{all}
use Rattle.hl7.specs.Cut.{ahead, cut, part_at}
use Rattle.hl7.specs.Spans.{between, occurrences}
use Rattle.hl7.specs.declared.cut.Span.{Span}
use Rattle.grade.specs.Encoding.{each}
use Rattle.hl7.proofs.Comparing.{and_both, or_neither, all_as, rest_at}
use Rattle.booktext.specs.Lines.{line_feed, bar, said, line_of, blank, cut_at, filled, words_in}
use Rattle.booktext.specs.Standing.{ends, dark, run, words_from, span_bytes, NextWord}

-- ---- cutting by a test
-- the part that s begins with
abbrev pub first : (ℕ → Bool) → List ℕ → List ℕ
first test s = part_at (cut_at test s) 0

-- a byte that stays within a part
abbrev spares : (ℕ → Bool) → ℕ → Bool
spares test x = not (test x)

module _ (test : ℕ → Bool) where
  cut-some : (s : List ℕ) → cut_at test s ≡ first test s ∷ drop 1 (cut_at test s)
  unfolding cut_at ahead
  cut-some [] = refl
  cut-some (x ∷ s) = some_of (test x) (cut_at test s)
    where
      some_of : (b : Bool) (parts : List (List ℕ)) → ahead b x parts ≡ part_at (ahead b x parts) 0 ∷ drop 1 (ahead b x parts)
      some_of true parts = refl
      some_of false parts = refl

  -- bytes that stay within a part join the first
  cut-run : (w s : List ℕ) → all (spares test) w ≡ true → cut_at test (w ++ s) ≡ (w ++ first test s) ∷ drop 1 (cut_at test s)
  unfolding cut_at all ahead
  cut-run [] s e = cut-some s
  cut-run (x ∷ w) s e =
      let both = and_both (spares test x) (all (spares test) w) e in
      ap₂ (λ (b : Bool) (parts : List (List ℕ)). ahead b x parts) (not-true (test x) both.0) (cut-run w s both.1)

  first_stop : (x : ℕ) (s : List ℕ) → test x ≡ true → first test (x ∷ s) ≡ []
  unfolding cut_at ahead
  first_stop x s e = rw e

  first_more : (x : ℕ) (s : List ℕ) → test x ≡ false → first test (x ∷ s) ≡ x ∷ first test s
  unfolding cut_at ahead
  first_more x s e = rw e

  first_run : (w s : List ℕ) → all (spares test) w ≡ true → first test (w ++ s) ≡ w ++ first test s
  first_run w s e = ap (λ (parts : List (List ℕ)). part_at parts 0) (cut-run w s e)

  first-within : (s : List ℕ) → length (first test s) ≤ length s
  unfolding cut_at ahead
  first-within [] = omega arith
  first-within (x ∷ s) = within_of (test x) (first-within s)
    where
      within_of : (b : Bool) → length (first test s) ≤ length s → length (part_at (ahead b x (cut_at test s)) 0) ≤ length (x ∷ s)
      within_of true ih = omega arith
      within_of false ih = omega arith

-- ---- a line and what is said
-- what stands before the first LF or bar is what the line says that begins there
said-line : (s : List ℕ) → first ends s ≡ said (part_at (cut line_feed s) 0)
unfolding cut_at cut ahead
said-line [] = refl
said-line (x ∷ s) = by (eqb x line_feed) (eqb x bar) refl (said-line s)
  where
    by : (b c : Bool) → eqb x bar ≡ c → first ends s ≡ said (part_at (cut line_feed s) 0) → part_at (ahead (b || c) x (cut_at ends s)) 0 ≡ said (part_at (ahead b x (cut line_feed s)) 0)
    by true c e ih = refl
    by false true e ih = rw e
    by false false e ih = rw e (ap (λ (l : List ℕ). x ∷ l) ih)

pub words-line : (t : List ℕ) (at : ℕ) → words_from t at ≡ words_in (said (part_at (cut line_feed (drop at t)) 0))
unfolding words_from
words-line t at = ap words_in (said-line (drop at t))

-- ---- bytes of words
-- a byte that ends what is said is no blank
end_apart : (x : ℕ) → ends x ≡ true → blank x ≡ false
end_apart x e = by (eqb x line_feed) refl e
  where
    by : (b : Bool) → eqb x line_feed ≡ b → (b || eqb x bar) ≡ true → blank x ≡ false
    by true f g = ap blank (eqb-true x line_feed f)
    by false f g = ap blank (eqb-true x bar g)

blank-apart : (x : ℕ) → blank x ≡ true → ends x ≡ false
blank-apart x e = by (ends x) refl
  where
    by : (b : Bool) → ends x ≡ b → b ≡ false
    by true f = absurd (true≢false (sym e ∙ end_apart x f))
    by false f = refl

dark_neither : (x : ℕ) → dark x ≡ true → (blank x ≡ false) × (ends x ≡ false)
dark_neither x e = or_neither (blank x) (ends x) (not-true _ e)

-- ---- runs
module _ (test : ℕ → Bool) where
  run-all : (s : List ℕ) → all test (run test s) ≡ true
  unfolding run all
  run-all [] = refl
  run-all (x ∷ s) = by (test x) refl (run-all s)
    where
      by : (b : Bool) → test x ≡ b → all test (run test s) ≡ true → all test (cond b (x ∷ run test s) []) ≡ true
      by true e ih = rw e ih
      by false e ih = refl

  run_split : (s : List ℕ) → run test s ++ drop (length (run test s)) s ≡ s
  unfolding run
  run_split [] = refl
  run_split (x ∷ s) = by (test x) (run_split s)
    where
      by : (b : Bool) → run test s ++ drop (length (run test s)) s ≡ s → cond b (x ∷ run test s) [] ++ drop (length (cond b (x ∷ run test s) [])) (x ∷ s) ≡ x ∷ s
      by true ih = ap (λ (l : List ℕ). x ∷ l) ih
      by false ih = refl

  -- what follows a run begins with no byte of its kind
  run-over : (s : List ℕ) → run test (drop (length (run test s)) s) ≡ []
  unfolding run
  run-over [] = refl
  run-over (x ∷ s) = by (test x) refl (run-over s)
    where
      by : (b : Bool) → test x ≡ b → run test (drop (length (run test s)) s) ≡ [] → run test (drop (length (cond b (x ∷ run test s) [])) (x ∷ s)) ≡ []
      by true e ih = ih
      by false e ih = rw e

  run_none : (x : ℕ) (s : List ℕ) → run test (x ∷ s) ≡ [] → test x ≡ false
  unfolding run
  run_none x s e = by (test x) e
    where
      by : (b : Bool) → cond b (x ∷ run test s) [] ≡ [] → b ≡ false
      by true f = absurd (omega (arith, ap length f))
      by false f = refl

  -- in the words of a loop that goes along s by index
  module _ (s : List ℕ) (i : ℕ) where
    pub run_stop : i < length s → test (get_or s i 0) ≡ false → i ≡ i + length (run test (drop i s))
    unfolding run
    run_stop h e = rw (rest_at s i h, e) (omega arith)

    pub run_more : i < length s → test (get_or s i 0) ≡ true → i + length (run test (drop i s)) ≡ i + 1 + length (run test (drop (i + 1) s))
    unfolding run
    run_more h e = rw (rest_at s i h, e) (omega arith)

    pub run_end : length s ≤ i → i ≡ i + length (run test (drop i s))
    unfolding run
    run_end h = rw (drop_of_length-le s h) (omega arith)

-- ---- the words of what is said
-- of what is said from the first byte of s on
abbrev pub spoken : List ℕ → List (List ℕ)
spoken s = words_in (first ends s)

words-none : words_in [] ≡ []
unfolding words_in cut_at filled
words-none = refl

pub spoken-none : spoken [] ≡ []
unfolding cut_at
spoken-none = words-none

pub spoken_end : (x : ℕ) (s : List ℕ) → ends x ≡ true → spoken (x ∷ s) ≡ []
spoken_end x s e = ap words_in (first_stop ends x s e) ∙ words-none

words-blank : (x : ℕ) (s : List ℕ) → blank x ≡ true → words_in (x ∷ s) ≡ words_in s
unfolding words_in cut_at ahead filled
words-blank x s e = ap (λ (b : Bool). filled (ahead b x (cut_at blank s))) e

pub spoken-blank : (x : ℕ) (s : List ℕ) → blank x ≡ true → spoken (x ∷ s) ≡ spoken s
spoken-blank x s e = ap words_in (first_more ends x s (blank-apart x e)) ∙ words-blank x (first ends s) e

-- no word goes on where no dark byte stands
parted : (s : List ℕ) → run dark s ≡ [] → first blank (first ends s) ≡ []
unfolding cut_at
parted [] e = refl
parted (x ∷ s) e = by (blank x) (ends x) refl refl (run_none dark x s e)
  where
    by : (b c : Bool) → blank x ≡ b → ends x ≡ c → not (b || c) ≡ false → first blank (first ends (x ∷ s)) ≡ []
    by b true f g h = ap (first blank) (first_stop ends x s g)
    by true false f g h = ap (first blank) (first_more ends x s g) ∙ first_stop blank x (first ends s) f
    by false false f g h = absurd (true≢false h)

words-parted : (s : List ℕ) → first blank s ≡ [] → words_in s ≡ filled (drop 1 (cut_at blank s))
unfolding words_in filled
words-parted s e = ap filled (cut-some blank s ∙ ap (λ (part : List ℕ). part ∷ drop 1 (cut_at blank s)) e)

words-run : (x : ℕ) (w s : List ℕ) → all dark (x ∷ w) ≡ true → first blank s ≡ [] → words_in ((x ∷ w) ++ s) ≡ (x ∷ w) ∷ words_in s
unfolding words_in filled
words-run x w s e p =
    opened ∙ ap (λ (words : List (List ℕ)). (x ∷ w) ∷ words) (sym (words-parted s p))
  where
    spared : all (spares blank) (x ∷ w) ≡ true
    spared = all_as dark (spares blank) (λ y d. ap not (dark_neither y d).0) (x ∷ w) e

    opened : words_in ((x ∷ w) ++ s) ≡ (x ∷ w) ∷ filled (drop 1 (cut_at blank s))
    opened = ap filled (cut-run blank (x ∷ w) s spared ∙ ap (λ (part : List ℕ). part ∷ drop 1 (cut_at blank s)) (ap (λ (part : List ℕ). (x ∷ w) ++ part) p ∙ append-nil (x ∷ w)))

-- the one law of words: a run of dark bytes, up to another or the end, is a word, and the words of what follows follow
pub spoken-word : (x : ℕ) (w s : List ℕ) → all dark (x ∷ w) ≡ true → run dark s ≡ [] → spoken ((x ∷ w) ++ s) ≡ (x ∷ w) ∷ spoken s
spoken-word x w s e p =
    ap words_in (first_run ends (x ∷ w) s (all_as dark (spares ends) (λ y d. ap not (dark_neither y d).1) (x ∷ w) e))
    ∙ words-run x w (first ends s) e (parted s p)

-- blanks are passed
spoken-after : (s : List ℕ) → spoken s ≡ spoken (drop (length (run blank s)) s)
unfolding run
spoken-after [] = refl
spoken-after (x ∷ s) = by (blank x) refl (spoken-after s)
  where
    by : (b : Bool) → blank x ≡ b → spoken s ≡ spoken (drop (length (run blank s)) s) → spoken (x ∷ s) ≡ spoken (drop (length (cond b (x ∷ run blank s) [])) (x ∷ s))
    by true e ih = spoken-blank x s e ∙ ih
    by false e ih = refl

-- neither a blank nor a dark byte: it ends here
spoken-over : (s : List ℕ) → run blank s ≡ [] → run dark s ≡ [] → spoken s ≡ []
spoken-over [] e f = spoken-none
spoken-over (x ∷ s) e f = by (blank x) (ends x) refl (run_none blank x s e) (run_none dark x s f)
  where
    by : (b c : Bool) → ends x ≡ c → b ≡ false → not (b || c) ≡ false → spoken (x ∷ s) ≡ []
    by b true g h k = spoken_end x s g
    by true false g h k = absurd (true≢false h)
    by false false g h k = absurd (true≢false k)

-- ---- the next word
-- what the code answers: blanks end where it starts, and dark bytes where it ends
module _ (t : List ℕ) (at start end : ℕ) (e : start ≡ at + length (run blank (drop at t))) (f : end ≡ start + length (run dark (drop start t))) where
  word-start : drop start t ≡ drop (length (run blank (drop at t))) (drop at t)
  word-start = ap (λ (n : ℕ). drop n t) e ∙ sym (drop-drop (length (run blank (drop at t))) at t)

  word_stop : drop end t ≡ drop (length (run dark (drop start t))) (drop start t)
  word_stop = ap (λ (n : ℕ). drop n t) f ∙ sym (drop-drop (length (run dark (drop start t))) start t)

  word_bytes : between t start end ≡ run dark (drop start t)
  word_bytes =
      let w = run dark (drop start t) in
      let width : end - start ≡ length w = omega arith in
      ap₂ (λ (n : ℕ) (l : List ℕ). take n l) width (sym (run_split dark (drop start t))) ∙ take-append_seam w (drop (length w) (drop start t))

  word-within : start < end → end ≤ length t
  word-within h =
      let w = run dark (drop start t) in
      omega (arith, length-drop start t, ap length (run_split dark (drop start t)), length-append w (drop (length w) (drop start t)))

  word_some : (x : ℕ) (w : List ℕ) → run dark (drop start t) ≡ x ∷ w → words_from t at ≡ (x ∷ w) ∷ words_from t end
  unfolding words_from
  word_some x w g =
      let u = drop start t in
      let rest = drop (length (run dark u)) u in
      spoken-after (drop at t)
      ∙ ap spoken (sym word-start ∙ sym (run_split dark u) ∙ ap (λ (l : List ℕ). l ++ rest) g)
      ∙ spoken-word x w rest (ap (all dark) (sym g) ∙ run-all dark u) (run-over dark u)
      ∙ ap (λ (s : List ℕ). (x ∷ w) ∷ spoken s) (sym word_stop)

  word_none : run dark (drop start t) ≡ [] → (words_from t at ≡ []) × (words_from t end ≡ [])
  unfolding words_from
  word_none g =
      let none : spoken (drop start t) ≡ [] = spoken-over (drop start t) (ap (run blank) word-start ∙ run-over blank (drop at t)) g in
      (spoken-after (drop at t) ∙ ap spoken (sym word-start) ∙ none, ap spoken (word_stop ∙ ap (λ (l : List ℕ). drop (length l) (drop start t)) g) ∙ none)

  pub next-word-at : NextWord t at (record { start = start; end = end })
  next-word-at = by (run dark (drop start t)) refl
    where
      by : (w : List ℕ) → run dark (drop start t) ≡ w → NextWord t at (record { start = start; end = end })
      by [] g =
          let none = word_none g in
          record {
            here = word_bytes ∙ g ∙ ap (λ (words : List (List ℕ)). get_or words 0 []) (sym none.0);
            rest = none.1 ∙ ap (λ (words : List (List ℕ)). drop 1 words) (sym none.0);
            none = λ h. none.0;
            some = λ h. absurd (omega (arith, ap length g));
            inside = word-within;
            forward = (omega arith, omega arith);
          }
      by (x ∷ w) g =
          let some = word_some x w g in
          record {
            here = word_bytes ∙ g ∙ ap (λ (words : List (List ℕ)). get_or words 0 []) (sym some);
            rest = ap (λ (words : List (List ℕ)). drop 1 words) (sym some);
            none = λ h. absurd (omega (arith, ap length g));
            some = λ h. some ∙ ap (λ (l : List ℕ). l ∷ words_from t end) (sym (word_bytes ∙ g));
            inside = word-within;
            forward = (omega arith, omega arith);
          }

-- ---- the bytes of a part
pub part_none : (t : List ℕ) (s : Span) → s.end < s.start → take 0 t ≡ span_bytes t s
part_none t s h = let empty : 0 ≡ s.end - s.start = omega arith in ap (λ (n : ℕ). take n (drop s.start t)) empty

-- ---- words by steps
module _ (t : List ℕ) (at : ℕ) {r : Span} (n : NextWord t at r) where
  pub skip_more : (left : ℕ) → 0 < left → drop left (words_from t at) ≡ drop (left - 1) (words_from t r.end)
  skip_more left h =
      let one_more : left ≡ 1 + (left - 1) = omega arith in
      ap (λ (k : ℕ). drop k (words_from t at)) one_more
      ∙ sym (drop-drop (left - 1) 1 (words_from t at))
      ∙ ap (λ (words : List (List ℕ)). drop (left - 1) words) (sym n.rest)

  pub count_more : r.start < r.end → length (words_from t at) ≡ 1 + length (words_from t r.end)
  count_more h = omega (arith, ap length (n.some h))

  pub count-over : r.end ≤ r.start → length (words_from t at) ≡ 0
  count-over h = ap length (n.none h)

pub skip_over : (left : ℕ) (words : List (List ℕ)) → left ≤ 0 → words ≡ drop left words
skip_over left words h = let none_left : 0 ≡ left = omega arith in ap (λ (k : ℕ). drop k words) none_left

pub word-skipped : (k : ℕ) (words : List (List ℕ)) {later : List (List ℕ)} → later ≡ drop k words → get_or later 0 [] ≡ get_or words k []
word-skipped k words e = ap (λ (l : List (List ℕ)). get_or l 0 []) e ∙ get_or-drop k words 0 [] ∙ ap (λ (n : ℕ). get_or words n []) (add-zero k)

-- ---- there are no more words than bytes
filled-later : (parts : List (List ℕ)) → length (filled (drop 1 parts)) ≤ length (filled parts)
unfolding filled
filled-later [] = omega arith
filled-later ([] ∷ parts) = omega arith
filled-later ((x ∷ part) ∷ parts) = omega arith

words-within : (s : List ℕ) → length (words_in s) ≤ length s
unfolding words_in cut_at ahead filled
words-within [] = omega arith
words-within (x ∷ s) = by (blank x) (words-within s)
  where
    by : (b : Bool) → length (filled (cut_at blank s)) ≤ length s → length (filled (ahead b x (cut_at blank s))) ≤ length (x ∷ s)
    by true ih = omega arith
    by false ih = omega (arith, filled-later (cut_at blank s))

pub words-few : (t : List ℕ) (at : ℕ) → length (words_from t at) ≤ length t
unfolding words_from
words-few t at = omega (arith, words-within (first ends (drop at t)), first-within ends (drop at t), length-drop at t)

-- ---- the line of a position
pub line-start : (t : List ℕ) (at : ℕ) {before : List ℕ} → before ≡ take at t → line_of t at ≡ 1 + occurrences line_feed before
unfolding line_of
line-start t at e = omega (arith, ap (occurrences line_feed) e)

-- the measure of a loop over words
pub words_fewer : {t : List ℕ} {at : ℕ} {r : Span} → NextWord t at r → r.start < r.end → length (words_from t r.end) < length (words_from t at)
words_fewer n h = omega (arith, ap length (n.some h))

-- ---- words that pass a test
-- every word from a position on passes a test
module _ (test : List ℕ → Bool) (t : List ℕ) (i : ℕ) {all : Bool} (passed : all ≡ each test (words_from t i)) {w : Span} (n : NextWord t i w) where
  pub words-all : w.end ≤ w.start → true ≡ all
  words-all h = sym (passed ∙ ap (each test) (n.none h))

  module _ (h : w.start < w.end) {b : Bool} (e : b ≡ test (span_bytes t w)) where
    words-is : all ≡ (b && each test (words_from t w.end))
    words-is = passed ∙ ap (each test) (n.some h) ∙ ap (λ (x : Bool). x && each test (words_from t w.end)) (sym e)

    pub words-not : not b ≡ true → false ≡ all
    words-not g = sym (words-is ∙ ap (λ (x : Bool). x && each test (words_from t w.end)) (not-true b g))

    pub words-later : not b ≡ false → all ≡ each test (words_from t w.end)
    words-later g = words-is ∙ ap (λ (x : Bool). x && each test (words_from t w.end)) (not-false b g)
