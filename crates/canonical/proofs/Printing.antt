-- What printed lines are when they are read back: each line says its words, and stands where the lines before it end. Assumes nothing.
use mathlib.Core.Path.{◌≡◌, refl, sym, ap, ap₂, ◌∙◌}
use mathlib.Core.Bool.{Bool, true, not, ◌&&◌, true≢false}
use mathlib.Core.List.{List, [], ◌∷◌, ◌++◌, append_assoc}
use Prim.Native.Nat.{ℕ, ◌+◌}
use native.Mathlib.Omega.{arith}
use lib.Dec.{eqb, leb}
use lib.ListN.{length, drop, length-append}
use borrow.Author.Tests.{eq-eqb, not-true}
use Rattle.hl7.specs.Bytes.{all, differs}
use Rattle.hl7.specs.Cut.{cut, part_at}
use Rattle.hl7.proofs.Comparing.{and_both, or_neither, all_append, all_as}
use Rattle.hl7.proofs.Cutting.{cut_delimiter, cut_other}
use Rattle.grade.specs.Encoding.{each}
use Rattle.ack.specs.Layout.{joined, marked}
use Rattle.booktext.specs.Lines.{Statement, line_feed, bar, blank, said, cut_at, words_in, unless_silent, statements_from, statements}
use Rattle.booktext.specs.Refusals.{allowed}
use Rattle.canonical.specs.Shown.{line_bytes, printed}
use Rattle.booktext.specs.Standing.{dark, ends, run, words_from}
use Rattle.booktext.proofs.Words.{spoken, spoken-none, spoken-word, spoken-blank, spoken_end, words-line}

-- ---- words that can be printed
-- a byte of a word that a text may hold
abbrev pub Clean : ℕ → Bool
Clean x = dark x && allowed x

abbrev pub is_word : List ℕ → Bool
is_word w = leb 1 (length w) && all Clean w

-- the words of a line
abbrev pub are_words : List (List ℕ) → Bool
are_words ws = leb 1 (length ws) && each is_word ws

-- the statements that printed lines are, the first of which begins at a position
unfoldable pub placed : ℕ → List (List (List ℕ)) → List Statement
placed at [] = []
placed at (ws ∷ lines) = record { at = at; words = ws; given = 0 } ∷ placed (at + length (joined 32 ws) + 1) lines

pub word-clean : (w : List ℕ) → is_word w ≡ true → all Clean w ≡ true
word-clean w e = (and_both (leb 1 (length w)) (all Clean w) e).1

-- ---- what a printed line says
dark-word : (w : List ℕ) → is_word w ≡ true → all dark w ≡ true
dark-word w e = all_as Clean dark (λ x c. (and_both (dark x) (allowed x) c).0) w (word-clean w e)

-- the words after the first, each with a blank in front, up to LF
said-marked : (ws : List (List ℕ)) (rest : List ℕ) → each is_word ws ≡ true
    → (run dark (marked 32 ws ++ (line_feed ∷ rest)) ≡ []) × (spoken (marked 32 ws ++ (line_feed ∷ rest)) ≡ ws)
unfolding marked run
said-marked [] rest e = (refl, spoken_end line_feed rest refl)
said-marked ([] ∷ ws) rest e = absurd (true≢false (sym e))
said-marked ((x ∷ w) ∷ ws) rest e =
    let both = and_both (is_word (x ∷ w)) (each is_word ws) e in
    let more = said-marked ws rest both.1 in
    let after = marked 32 ws ++ (line_feed ∷ rest) in (
      refl,
      spoken-blank 32 (((x ∷ w) ++ marked 32 ws) ++ (line_feed ∷ rest)) refl
          ∙ ap spoken (append_assoc (x ∷ w) (marked 32 ws) (line_feed ∷ rest))
          ∙ spoken-word x w after (dark-word (x ∷ w) both.0) more.0
          ∙ ap (λ (l : List (List ℕ)). (x ∷ w) ∷ l) more.1,
    )

said-joined : (ws : List (List ℕ)) (rest : List ℕ) → each is_word ws ≡ true → spoken (joined 32 ws ++ (line_feed ∷ rest)) ≡ ws
unfolding joined
said-joined [] rest e = spoken_end line_feed rest refl
said-joined ([] ∷ ws) rest e = absurd (true≢false (sym e))
said-joined ((x ∷ w) ∷ ws) rest e =
    let both = and_both (is_word (x ∷ w)) (each is_word ws) e in
    let more = said-marked ws rest both.1 in
    ap spoken (append_assoc (x ∷ w) (marked 32 ws) (line_feed ∷ rest))
    ∙ spoken-word x w (marked 32 ws ++ (line_feed ∷ rest)) (dark-word (x ∷ w) both.0) more.0
    ∙ ap (λ (l : List (List ℕ)). (x ∷ w) ∷ l) more.1

-- ---- the bytes of a printed line
module _ (test : ℕ → Bool) (weaker : (x : ℕ) → Clean x ≡ true → test x ≡ true) (passes : test 32 ≡ true) where
  all-word : (w : List ℕ) → is_word w ≡ true → all test w ≡ true
  all-word w e = all_as Clean test weaker w (word-clean w e)

  all-marked : (ws : List (List ℕ)) → each is_word ws ≡ true → all test (marked 32 ws) ≡ true
  unfolding marked all
  all-marked [] e = refl
  all-marked (w ∷ ws) e =
      let both = and_both (is_word w) (each is_word ws) e in
      ap₂ ◌&&◌ passes (all_append test w (marked 32 ws) (all-word w both.0) (all-marked ws both.1))

  pub all-joined : (ws : List (List ℕ)) → each is_word ws ≡ true → all test (joined 32 ws) ≡ true
  unfolding joined all
  all-joined [] e = refl
  all-joined (w ∷ ws) e =
      let both = and_both (is_word w) (each is_word ws) e in
      all_append test w (marked 32 ws) (all-word w both.0) (all-marked ws both.1)

-- ---- cutting
module _ (d : ℕ) where
  other : (x : ℕ) → differs d x ≡ true → x ≡ d → ⊥
  other x e same = true≢false (sym (eq-eqb x d same) ∙ not-true _ e)

  -- up to the first delimiter
  cut-joined : (s t : List ℕ) → all (differs d) s ≡ true → cut d (s ++ (d ∷ t)) ≡ s ∷ cut d t
  unfolding all
  cut-joined [] t e = cut_delimiter d d t refl
  cut-joined (x ∷ s) t e =
      let both = and_both (differs d x) (all (differs d) s) e in
      cut_other d x (s ++ (d ∷ t)) (other x both.0) ∙ ap (λ (ps : List (List ℕ)). (x ∷ part_at ps 0) ∷ drop 1 ps) (cut-joined s t both.1)

-- ---- lines
no_feed : (x : ℕ) → Clean x ≡ true → differs line_feed x ≡ true
no_feed x e =
    let neither = or_neither (blank x) (ends x) (not-true _ (and_both (dark x) (allowed x) e).0) in
    ap not (or_neither (eqb x line_feed) (eqb x bar) neither.1).0

module _ (ws : List (List ℕ)) (rest : List ℕ) (e : each is_word ws ≡ true) where
  line_first : cut line_feed (joined 32 ws ++ (line_feed ∷ rest)) ≡ joined 32 ws ∷ cut line_feed rest
  line_first = cut-joined line_feed (joined 32 ws) rest (all-joined (differs line_feed) no_feed refl ws e)

  line-said : words_in (said (joined 32 ws)) ≡ ws
  unfolding words_from
  line-said =
      let t = joined 32 ws ++ (line_feed ∷ rest) in
      ap (λ (ps : List (List ℕ)). words_in (said (part_at ps 0))) (sym line_first) ∙ sym (words-line t 0) ∙ said-joined ws rest e

printed-from : (at : ℕ) (lines : List (List (List ℕ))) → each are_words lines ≡ true → statements_from at (cut line_feed (printed lines)) ≡ placed at lines
unfolding printed placed statements_from unless_silent cut cut_at
printed-from at [] e = ap (λ (ws : List (List ℕ)). unless_silent at ws []) spoken-none
printed-from at ([] ∷ lines) e = absurd (true≢false (sym e))
printed-from at ((w ∷ ws) ∷ lines) e =
    let both = and_both (are_words (w ∷ ws)) (each are_words lines) e in
    let words = (and_both (leb 1 (length (w ∷ ws))) (each is_word (w ∷ ws)) both.0).1 in
    let next = at + length (joined 32 (w ∷ ws)) + 1 in
    ap (λ (t : List ℕ). statements_from at (cut line_feed t)) (append_assoc (joined 32 (w ∷ ws)) (line_feed ∷ []) (printed lines))
    ∙ ap (statements_from at) (line_first (w ∷ ws) (printed lines) words)
    ∙ ap (λ (l : List (List ℕ)). unless_silent at l (statements_from next (cut line_feed (printed lines)))) (line-said (w ∷ ws) (printed lines) words)
    ∙ ap (λ (l : List Statement). record { at = at; words = w ∷ ws; given = 0 } ∷ l) (printed-from next lines both.1)

-- the statements of printed lines are these lines
pub statements-printed : (lines : List (List (List ℕ))) → each are_words lines ≡ true → statements (printed lines) ≡ placed 0 lines
unfolding statements
statements-printed lines e = printed-from 0 lines e

-- lines that are put together
pub printed-line : (ws : List (List ℕ)) (lines : List (List (List ℕ))) → length (printed (ws ∷ lines)) ≡ length (joined 32 ws) + 1 + length (printed lines)
unfolding printed
printed-line ws lines = omega (arith, length-append (line_bytes ws) (printed lines), length-append (joined 32 ws) (line_feed ∷ []))

pub printed_both : (xs ys : List (List (List ℕ))) → printed (xs ++ ys) ≡ printed xs ++ printed ys
unfolding printed
printed_both [] ys = refl
printed_both (x ∷ xs) ys = ap (λ (l : List ℕ). line_bytes x ++ l) (printed_both xs ys) ∙ sym (append_assoc (line_bytes x) (printed xs) (printed ys))

pub printed-append : (xs ys : List (List (List ℕ))) → length (printed (xs ++ ys)) ≡ length (printed xs) + length (printed ys)
printed-append xs ys = ap length (printed_both xs ys) ∙ length-append (printed xs) (printed ys)

pub placed-append : (at : ℕ) (xs ys : List (List (List ℕ))) → placed at (xs ++ ys) ≡ placed at xs ++ placed (at + length (printed xs)) ys
unfolding placed printed
placed-append at [] ys = let none : at ≡ at + 0 = omega arith in ap (λ (n : ℕ). placed n ys) none
placed-append at (x ∷ xs) ys =
    let next = at + length (joined 32 x) + 1 in
    let there : next + length (printed xs) ≡ at + length (printed (x ∷ xs)) = omega (arith, printed-line x xs) in
    ap (λ (l : List Statement). record { at = at; words = x; given = 0 } ∷ l) (placed-append next xs ys ∙ ap (λ (n : ℕ). placed next xs ++ placed n ys) there)
