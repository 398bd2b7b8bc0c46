-- Laws of statements: what the lines from a position on say, and a loop over them or over those of a body. Assumes nothing.
use mathlib.Core.Path.{◌≡◌, refl, sym, ap, ◌∙◌}
use mathlib.Core.Bool.{Bool, true, false, cond, not, ◌&&◌, and-true, and-false}
use mathlib.Core.List.{List, [], ◌∷◌}
use Prim.Native.Nat.{ℕ, ◌+◌, ◌≤◌, ◌<◌}
use native.Mathlib.Omega.{arith}
use lib.Dec.{eqb, leb, ltb}
use lib.ListN.{length, get_or}
use borrow.Author.Tests.{leb-true, leb-false, le-leb, lt-leb, ltb-true, ltb-false, lt-ltb, le-ltb, not-true, not-false}
use Rattle.hl7.specs.Bytes.{within, same}
use Rattle.hl7.specs.Spans.{parts_from}
use Rattle.hl7.specs.declared.cut.Span.{Span}
use Rattle.hl7.proofs.Cutting.{first-at, end_within}
use Rattle.hl7.proofs.Walking.{parts_start, parts_done, parts_step}
use Rattle.booktext.specs.Lines.{Statement, line_feed, said, words_in, verb, says, unless_silent, statements_from, statements}
use Rattle.booktext.specs.Meaning.{body, is_of, from}
use Rattle.booktext.specs.Standing.{words_from, NextWord, statement_at, next_line, left, body_from, Finds}
use Rattle.booktext.proofs.Words.{words-line}

-- ---- the next line
pub line-within : (t : List ℕ) (at : ℕ) → at ≤ length t → next_line t at ≤ length t + 1
line-within t at h = omega (arith, end_within line_feed t at h)

-- ---- the statements from a position on
pub left-start : (t : List ℕ) → left t 0 ≡ statements t
unfolding left statements
left-start t = ap (statements_from 0) (parts_start line_feed t)

pub left_done : (t : List ℕ) (at : ℕ) → length t < at → left t at ≡ []
unfolding left statements_from
left_done t at h = ap (statements_from at) (parts_done line_feed t at h)

left_step : (t : List ℕ) (at : ℕ) → at ≤ length t → left t at ≡ unless_silent at (words_from t at) (left t (next_line t at))
unfolding left statements_from
left_step t at h =
    let line = sym (first-at line_feed t at) in
    ap (statements_from at) (parts_step line_feed t at h ∙ ap (λ (l : List ℕ). l ∷ parts_from line_feed t (next_line t at)) line)
    ∙ ap (λ (ws : List (List ℕ)). unless_silent at ws (left t (next_line t at))) (sym (words-line t at))

silent : (at : ℕ) (ws : List (List ℕ)) (rest : List Statement) → false ≡ ltb 0 (length ws) → unless_silent at ws rest ≡ rest
unfolding unless_silent
silent at [] rest h = refl
silent at (w ∷ ws) rest h = absurd (omega (arith, ltb-false 0 (length (w ∷ ws)) (sym h)))

spoken : (at : ℕ) (ws : List (List ℕ)) (rest : List Statement) → true ≡ ltb 0 (length ws) → unless_silent at ws rest ≡ record { at = at; words = ws; given = 0 } ∷ rest
unfolding unless_silent
spoken at [] rest h = absurd (omega (arith, ltb-true 0 0 (sym h)))
spoken at (w ∷ ws) rest h = refl

-- a line says something when its first word is not empty
pub words-there : (t : List ℕ) (at : ℕ) (first : Span) → NextWord t at first → ltb first.start first.end ≡ ltb 0 (length (words_from t at))
words-there t at first n = by_case (ltb first.start first.end) refl
  where
    by_case : (b : Bool) → ltb first.start first.end ≡ b → ltb first.start first.end ≡ ltb 0 (length (words_from t at))
    by_case true e = e ∙ sym (lt-ltb 0 (length (words_from t at)) (omega (arith, ap length (n.some (ltb-true first.start first.end e)))))
    by_case false e = e ∙ sym (le-ltb 0 (length (words_from t at)) (omega (arith, ap length (n.none (ltb-false first.start first.end e)))))

-- where a line that begins at a position does or does not say something
module _ (t : List ℕ) (start at : ℕ) (passed : left t start ≡ left t at) where
  pub left_silent : {b : Bool} → at ≤ length t → b ≡ ltb 0 (length (words_from t at)) → b ≡ false → {p : ℕ} → p ≡ next_line t at → left t start ≡ left t p
  left_silent h e f g = passed ∙ left_step t at h ∙ silent at (words_from t at) _ (sym f ∙ e) ∙ ap (left t) (sym g)

  pub left-found : {b : Bool} → at ≤ length t → b ≡ ltb 0 (length (words_from t at)) → b ≡ true → Finds t (left t start) (left t (next_line t at)) at
  left-found h e f = record { some = λ k. passed ∙ left_step t at h ∙ spoken at (words_from t at) _ (sym f ∙ e); none = λ k. absurd (omega (arith, h, k)) }

  pub left_over : length t < at → Finds t (left t start) (left t (next_line t at)) at
  left_over h = record { some = λ k. absurd (omega (arith, h, k)); none = λ k. passed ∙ left_done t at h }

-- ---- loops over statements
-- Where a search has answered a position, the statements still to come: the one there and those after its line, or none past the text's end. `rest` is `left t` for the
-- statements of a text, `body_from t` for those of a body.
unfoldable pub onward : List ℕ → (ℕ → List Statement) → ℕ → List Statement
onward t rest at = cond (leb at (length t)) (statement_at t at 0 ∷ rest (next_line t at)) []

module _ (t : List ℕ) (rest : ℕ → List Statement) where
  pub onward-none : {at : ℕ} → length t < at → onward t rest at ≡ []
  unfolding onward
  onward-none {at} h = ap (λ (b : Bool). cond b (statement_at t at 0 ∷ rest (next_line t at)) []) (lt-leb at (length t) h)

  pub onward-some : {at : ℕ} → at ≤ length t → onward t rest at ≡ statement_at t at 0 ∷ rest (next_line t at)
  unfolding onward
  onward-some {at} h = ap (λ (b : Bool). cond b (statement_at t at 0 ∷ rest (next_line t at)) []) (le-leb at (length t) h)

  -- what a search answers
  pub found-onward : {p r : ℕ} → Finds t (rest p) (rest (next_line t r)) r → rest p ≡ onward t rest r
  found-onward {p} {r} f = by_case (leb r (length t)) refl
    where
      by_case : (b : Bool) → leb r (length t) ≡ b → rest p ≡ onward t rest r
      by_case true e = f.some (leb-true r (length t) e) ∙ sym (onward-some (leb-true r (length t) e))
      by_case false e = f.none (leb-false r (length t) e) ∙ sym (onward-none (leb-false r (length t) e))

  -- one turn: the search goes on with the next line
  module _ {at p r : ℕ} (h : at ≤ length t) (e : p ≡ next_line t at) (f : Finds t (rest p) (rest (next_line t r)) r) where
    pub onward_step : onward t rest at ≡ statement_at t at 0 ∷ onward t rest r
    onward_step = onward-some h ∙ ap (λ (l : List Statement). statement_at t at 0 ∷ l) (ap rest (sym e) ∙ found-onward f)

    -- the loop ends
    pub onward_fewer : length (onward t rest r) < length (onward t rest at)
    onward_fewer = omega (arith, ap length onward_step)

-- each statement has a word, so that the statements from where a search stopped on are those that it found
words-first : List Statement → ℕ
words-first [] = 0
words-first (s ∷ ss) = length s.words

first-spoken : (at : ℕ) (lines : List (List ℕ)) → 1 ≤ length (statements_from at lines) → 1 ≤ words-first (statements_from at lines)
unfolding statements_from unless_silent words-first
first-spoken at [] h = absurd (omega (arith, h))
first-spoken at (line ∷ lines) h = by-words (words_in (said line)) (first-spoken (at + length line + 1) lines) h
  where
    by-words : (ws : List (List ℕ)) → (1 ≤ length (statements_from (at + length line + 1) lines) → 1 ≤ words-first (statements_from (at + length line + 1) lines)) → 1 ≤ length (unless_silent at ws (statements_from (at + length line + 1) lines)) → 1 ≤ words-first (unless_silent at ws (statements_from (at + length line + 1) lines))
    by-words [] ih k = ih k
    by-words (w ∷ ws) ih k = omega arith

pub left_at : (t : List ℕ) (start : ℕ) {r : ℕ} → Finds t (left t start) (left t (next_line t r)) r → left t r ≡ onward t (left t) r
unfolding left words-first
left_at t start {r} f = by_case (leb r (length t)) refl
  where
    by_case : (b : Bool) → leb r (length t) ≡ b → left t r ≡ onward t (left t) r
    by_case false e = left_done t r (leb-false r (length t) e) ∙ sym (onward-none t (left t) (leb-false r (length t) e))
    by_case true e =
        let h = leb-true r (length t) e in
        let some : 1 ≤ length (words_from t r) = omega (arith, first-spoken start (parts_from line_feed t start) (omega (arith, ap length (f.some h))), ap words-first (f.some h)) in
        left_step t r h ∙ spoken r (words_from t r) _ (sym (lt-ltb 0 (length (words_from t r)) some)) ∙ sym (onward-some t (left t) h)

-- ---- a body
module _ (t : List ℕ) (start : ℕ) {r : ℕ} (f : Finds t (left t start) (left t (next_line t r)) r) where
  pub body-over : length t < r → Finds t (body_from t start) (body_from t (next_line t r)) r
  unfolding body
  body-over h = record { some = λ k. absurd (omega (arith, h, k)); none = λ k. ap body (f.none h) }

  module _ {v : ℕ} {b : Bool} (h : r ≤ length t) (e : v ≡ verb (statement_at t r 0)) (g : b ≡ within 1 4 v) where
    body_is : body_from t start ≡ cond b [] (statement_at t r 0 ∷ body_from t (next_line t r))
    unfolding body
    body_is =
        ap body (f.some h)
        ∙ ap (λ (x : Bool). cond x [] (statement_at t r 0 ∷ body_from t (next_line t r))) (sym (g ∙ ap (within 1 4) e))

    pub body-ends : b ≡ true → {past : ℕ} → past ≡ length t + 1 → Finds t (body_from t start) (body_from t (next_line t past)) past
    body-ends k l =
        record {
          some = λ m. absurd (omega (arith, l, m));
          none = λ m. body_is ∙ ap (λ (x : Bool). cond x [] (statement_at t r 0 ∷ body_from t (next_line t r))) k;
        }

    pub body-goes : b ≡ false → Finds t (body_from t start) (body_from t (next_line t r)) r
    body-goes k =
        record {
          some = λ m. body_is ∙ ap (λ (x : Bool). cond x [] (statement_at t r 0 ∷ body_from t (next_line t r))) k;
          none = λ m. absurd (omega (arith, h, m));
        }

-- ---- the first with a verb and a name
module _ (t name : List ℕ) (at v : ℕ) {w : List ℕ} {b : Bool} (e : w ≡ get_or (words_from t at) 1 []) (f : b ≡ same w name) where
  named : {x : Bool} → b ≡ x → same (get_or (words_from t at) 1 []) name ≡ x
  named g = sym (f ∙ ap (λ (l : List ℕ). same l name) e) ∙ g

  pub other_name : not b ≡ true → false ≡ is_of v name (statement_at t at 0)
  other_name g = sym (ap (λ (x : Bool). says v (statement_at t at 0) && x) (named (not-true b g)) ∙ and-false (says v (statement_at t at 0)))

  pub same_name : not b ≡ false → {u : ℕ} → u ≡ verb (statement_at t at 0) → eqb u v ≡ is_of v name (statement_at t at 0)
  same_name g h =
      ap (λ (x : ℕ). eqb x v) h
      ∙ sym (ap (λ (x : Bool). says v (statement_at t at 0) && x) (named (not-false b g)) ∙ and-true (says v (statement_at t at 0)))

module _ (v : ℕ) (name : List ℕ) where
  pub from_is : (s : Statement) (ss : List Statement) {b : Bool} → is_of v name s ≡ b → from v name (s ∷ ss) ≡ cond b (s ∷ ss) (from v name ss)
  unfolding from
  from_is s ss e = ap (λ (b : Bool). cond b (s ∷ ss) (from v name ss)) e

  from-none : from v name [] ≡ []
  unfolding from
  from-none = refl

  module _ (t : List ℕ) {whole : List Statement} {at : ℕ} (passed : whole ≡ from v name (onward t (left t) at)) where
    pub seek_here : at ≤ length t → {b : Bool} → b ≡ is_of v name (statement_at t at 0) → b ≡ true → Finds t whole (left t (next_line t at)) at
    seek_here h e f =
        record {
          some = λ k. passed ∙ ap (from v name) (onward-some t (left t) h) ∙ from_is (statement_at t at 0) _ (sym e ∙ f);
          none = λ k. absurd (omega (arith, h, k));
        }

    pub seek_on : at ≤ length t → {b : Bool} → b ≡ is_of v name (statement_at t at 0) → b ≡ false → {p r : ℕ} → p ≡ next_line t at → Finds t (left t p) (left t (next_line t r)) r → whole ≡ from v name (onward t (left t) r)
    seek_on h e f g n = passed ∙ ap (from v name) (onward_step t (left t) h g n) ∙ from_is (statement_at t at 0) _ (sym e ∙ f)

    pub seek_over : length t < at → Finds t whole (left t (next_line t at)) at
    seek_over h = record { some = λ k. absurd (omega (arith, h, k)); none = λ k. passed ∙ ap (from v name) (onward-none t (left t) h) ∙ from-none }
