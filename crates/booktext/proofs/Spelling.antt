-- Laws of the codes of one set: word by word, line by line and statement by statement, written and counted. Assumes nothing.
use mathlib.Core.Path.{◌≡◌, refl, sym, ap, ap₂, subst, ◌∙◌}
use mathlib.Core.Bool.{Bool, true, false, cond, not, ◌&&◌, ◌||◌}
use mathlib.Core.List.{List, [], ◌∷◌, ◌++◌, map, append-nil}
use Prim.Native.Nat.{ℕ, ◌+◌, ◌≤◌, ◌<◌, min}
use native.Mathlib.Omega.{arith}
use lib.Dec.{eqb}
use lib.ListN.{length, get_or, drop, length-append}
use borrow.Author.Tests.{leb-true, eq-eqb, ne_eqb, not-true, not-false}
use Rattle.hl7.specs.Bytes.{same, among}
use Rattle.hl7.specs.declared.cut.Span.{Span}
use Rattle.hl7.proofs.Comparing.{and_both}
use Rattle.grade.specs.Encoding.{each, text_bytes}
use Rattle.grade.proofs.Encoded.{spell_append}
use Rattle.ack.specs.Splice.{Wrote}
use Rattle.ack.proofs.Writing.{wrote_as, wrote-length, ◌then◌}
use Rattle.booktext.specs.Lines.{Statement, statements, word, verb, says, of_rule, a_set, a_code, a_more, a_less}
use Rattle.booktext.specs.Meaning.{from}
use Rattle.booktext.specs.Changes.{names_code, lessened, kept, added_by, added}
use Rattle.booktext.specs.Contents.{listed, codes_at, codes_of, held}
use Rattle.booktext.specs.Standing.{words_from, span_bytes, NextWord, statement_at, next_line, left, body_from, Finds, is_short, sound, noted, no_cell, Marked, Marks, Spelt}
use Rattle.booktext.specs.Cells.{Cell}
use Rattle.booktext.specs.declared.sets.Run.{Run}
use Rattle.booktext.proofs.Each.{each_both}
use Rattle.booktext.proofs.Marking.{noted_other, cells_step, cells_done, mark_at, part_cells, part_noted}
use Rattle.booktext.proofs.Stating.{onward, onward-none, onward-some, onward_step, found-onward}
use Rattle.booktext.proofs.Fitting.{codes_fit, fit_short}

-- ---- codes, written and counted
-- the same codes under another name
pub spelt_as : {xs ys : List (List ℕ)} {o p : List ℕ} {a b : Run} → Spelt xs o a p b → xs ≡ ys → Spelt ys o a p b
spelt_as {o = o} {p} {a} {b} s e = subst (λ (l : List (List ℕ)). Spelt l o a p b) e s

-- some, and then others
spelt_then : {xs ys : List (List ℕ)} {o p q : List ℕ} {a b c : Run} → Spelt xs o a p b → Spelt ys p b q c → Spelt (xs ++ ys) o a q c
spelt_then {xs} {ys} s u =
    record {
      wrote = wrote_as (s.wrote then u.wrote) (sym (spell_append text_bytes xs ys));
      counted = omega (arith, s.counted, u.counted, length-append xs ys);
    }

pub spelt-length : {codes : List (List ℕ)} {o p : List ℕ} {a b : Run} → Spelt codes o a p b → length p ≡ length o
spelt-length s = wrote-length s.wrote

-- whoever spells the rest from here has spelt all from the start
abbrev pub Spells : (codes rest : List (List ℕ)) (o : List ℕ) → Run → (out : List ℕ) → Run → Type 0
Spells codes rest o start out to = (after : List ℕ) (r : Run) → Spelt rest out to after r → Spelt codes o start after r

spells_more : {codes rest xs more : List (List ℕ)} {o out next : List ℕ} {start to end : Run} → Spells codes rest o start out to → rest ≡ xs ++ more → Spelt xs out to next end → Spells codes more o start next end
spells_more c e s after r u = c after r (spelt_as (spelt_then s u) (sym e))

-- the loop has run out
pub spells_over : {codes rest : List (List ℕ)} {o out after : List ℕ} {start to r : Run} → Spells codes rest o start out to → rest ≡ [] → Spelt [] out to after r → Spelt codes o start after r
spells_over c e s = c _ _ (spelt_as s (sym e))

-- ---- a statement that changes codes
module _ (t : List ℕ) (cell : Cell) (m : Marked t cell) where
  -- what is no rule has the words of its line
  cell_words : of_rule cell.verb ≡ false → (noted t cell).words ≡ words_from t cell.line
  cell_words h = ap (λ (s : Statement). s.words) (noted_other t cell (ap of_rule (sym m.by_verb) ∙ h))

  module _ (name code : List ℕ) where
    takes_is : (b : Bool) → eqb cell.verb a_less ≡ b → names_code a_less name code (noted t cell) ≡ (b && same (word (noted t cell) 1) name && among code (drop 2 (noted t cell).words))
    takes_is b f = ap (λ (x : Bool). x && same (word (noted t cell) 1) name && among code (drop 2 (noted t cell).words)) (ap (λ (n : ℕ). eqb n a_less) (sym m.by_verb) ∙ f)

    pub takes_named : cell.verb ≡ a_less → {b : Bool} → b ≡ (same (word (statement_at t cell.line 0) 1) name && among code (drop 2 (words_from t cell.line))) → b ≡ names_code a_less name code (noted t cell)
    takes_named h f =
        f
        ∙ ap (λ (ws : List (List ℕ)). same (get_or ws 1 []) name && among code (drop 2 ws)) (sym (cell_words (ap of_rule h)))
        ∙ sym (takes_is true (eq-eqb cell.verb a_less h))

    pub takes_none : (cell.verb ≡ a_less → ⊥) → false ≡ names_code a_less name code (noted t cell)
    takes_none h = sym (takes_is false (ne_eqb cell.verb a_less h))

-- a code that one of the statements in cells takes: by those that are left
module _ (t : List ℕ) (cells : List Cell) (name code : List ℕ) (i : ℕ) (inv : lessened name code (map (noted t) cells) ≡ lessened name code (map (noted t) (drop i cells))) where
  module _ (h : i < length cells) {b : Bool} (e : b ≡ names_code a_less name code (noted t (get_or cells i no_cell))) where
    lessened-is : lessened name code (map (noted t) cells) ≡ (b || lessened name code (map (noted t) (drop (i + 1) cells)))
    unfolding lessened
    lessened-is = inv ∙ ap (lessened name code) (cells_step (noted t) cells i h) ∙ ap (λ (x : Bool). x || lessened name code (map (noted t) (drop (i + 1) cells))) (sym e)

    pub lessened-here : b ≡ true → true ≡ lessened name code (map (noted t) cells)
    lessened-here f = sym (lessened-is ∙ ap (λ (x : Bool). x || lessened name code (map (noted t) (drop (i + 1) cells))) f)

    pub lessened-later : b ≡ false → lessened name code (map (noted t) cells) ≡ lessened name code (map (noted t) (drop (i + 1) cells))
    lessened-later f = lessened-is ∙ ap (λ (x : Bool). x || lessened name code (map (noted t) (drop (i + 1) cells))) f

  pub lessened-over : length cells ≤ i → false ≡ lessened name code (map (noted t) cells)
  unfolding lessened
  lessened-over h = sym (inv ∙ ap (lessened name code) (cells_done (noted t) cells i h))

-- ---- codes that are kept
module _ (name : List ℕ) (ss : List Statement) where
  kept_append : (xs ys : List (List ℕ)) → kept name ss (xs ++ ys) ≡ kept name ss xs ++ kept name ss ys
  unfolding kept
  kept_append [] ys = refl
  kept_append (x ∷ xs) ys = by (lessened name x ss) (kept_append xs ys)
    where
      by : (b : Bool) → kept name ss (xs ++ ys) ≡ kept name ss xs ++ kept name ss ys → cond b (kept name ss (xs ++ ys)) (x ∷ kept name ss (xs ++ ys)) ≡ cond b (kept name ss xs) (x ∷ kept name ss xs) ++ kept name ss ys
      by true ih = ih
      by false ih = ap (λ (l : List (List ℕ)). x ∷ l) ih

  kept-none : kept name ss [] ≡ []
  unfolding kept
  kept-none = refl

  -- one code
  module _ (code : List ℕ) {b : Bool} (e : b ≡ lessened name code ss) where
    kept-is : {c : Bool} → b ≡ c → kept name ss (code ∷ []) ≡ cond c [] (code ∷ [])
    unfolding kept
    kept-is f = ap (λ (x : Bool). cond x [] (code ∷ [])) (sym e ∙ f)

    pub code_taken : b ≡ true → [] ≡ kept name ss (code ∷ [])
    code_taken f = sym (kept-is f)

    pub code_put : b ≡ false → {o p : List ℕ} {a : Run} {at count : ℕ} → Wrote o a.at (text_bytes code) p at → count ≡ min (a.count + 1) 1025 → Spelt (kept name ss (code ∷ [])) o a p (record { at = at; count = count })
    code_put f w g = spelt_as (record { wrote = wrote_as w (sym (append-nil (text_bytes code))); counted = g }) (sym (kept-is f))

-- ---- the words of a line
module _ {t : List ℕ} {i : ℕ} {w : Span} (n : NextWord t i w) where
  pub words-short : w.start < w.end → each is_short (words_from t i) ≡ true → (is_short (span_bytes t w) ≡ true) × (each is_short (words_from t w.end) ≡ true)
  words-short h e = and_both (is_short (span_bytes t w)) (each is_short (words_from t w.end)) (ap (each is_short) (sym (n.some h)) ∙ e)

  pub word-short : w.start < w.end → {x : List ℕ} → each is_short (words_from t i) ≡ true → x ≡ span_bytes t w → length x ≤ 255
  word-short h e f = omega (arith, leb-true (length (span_bytes t w)) 255 (words-short h e).0, ap length f)

  module _ (name : List ℕ) (ss : List Statement) where
    pub words-over : w.end ≤ w.start → kept name ss (words_from t i) ≡ []
    words-over h = ap (kept name ss) (n.none h) ∙ kept-none name ss

    pub words_more : w.start < w.end → {x : List ℕ} → x ≡ span_bytes t w → {codes : List (List ℕ)} {o out next : List ℕ} {start to end : Run} → Spells codes (kept name ss (words_from t i)) o start out to → Spelt (kept name ss (x ∷ [])) out to next end
        → Spells codes (kept name ss (words_from t w.end)) o start next end
    words_more h {x} f c s =
        spells_more c (ap (kept name ss) (n.some h ∙ ap (λ (y : List ℕ). y ∷ words_from t w.end) (sym f)) ∙ kept_append name ss (x ∷ []) (words_from t w.end)) s

-- ---- the codes of a line
-- by the number of its verb
module _ (t : List ℕ) (at : ℕ) {v : ℕ} (e : v ≡ verb (statement_at t at 0)) where
  line-is : (b : Bool) → eqb v a_code ≡ b → listed (statement_at t at 0 ∷ []) ≡ cond b (drop 1 (words_from t at) ++ []) []
  unfolding listed
  line-is b f = ap (λ (x : Bool). cond x (drop 1 (words_from t at) ++ []) []) (ap (λ (n : ℕ). eqb n a_code) (sym e) ∙ f)

  -- the words after the first one
  module _ (f : v ≡ a_code) (p : ℕ) (g : words_from t p ≡ drop 1 (words_from t at)) where
    line-codes : words_from t p ≡ listed (statement_at t at 0 ∷ [])
    line-codes = g ∙ sym (line-is true (eq-eqb v a_code f) ∙ append-nil (drop 1 (words_from t at)))

    pub line-short : each is_short (listed (statement_at t at 0 ∷ [])) ≡ true → each is_short (words_from t p) ≡ true
    line-short k = ap (each is_short) line-codes ∙ k

    pub line_put : (name : List ℕ) (ss : List Statement) {o after : List ℕ} {a r : Run} → Spelt (kept name ss (words_from t p)) o a after r → Spelt (kept name ss (listed (statement_at t at 0 ∷ []))) o a after r
    line_put name ss s = spelt_as s (ap (kept name ss) line-codes)

  pub line_other : (v ≡ a_code → ⊥) → (name : List ℕ) (ss : List Statement) → [] ≡ kept name ss (listed (statement_at t at 0 ∷ []))
  line_other f name ss = sym (ap (kept name ss) (line-is false (ne_eqb v a_code f)) ∙ kept-none name ss)

-- ---- the codes of lines
listed_one : (s : Statement) (ss : List Statement) → listed (s ∷ ss) ≡ listed (s ∷ []) ++ listed ss
unfolding listed
listed_one s ss = by_case (says a_code s)
  where
    by_case : (b : Bool) → cond b (drop 1 s.words ++ listed ss) (listed ss) ≡ cond b (drop 1 s.words ++ []) [] ++ listed ss
    by_case true = ap (λ (l : List (List ℕ)). l ++ listed ss) (sym (append-nil (drop 1 s.words)))
    by_case false = refl

-- a search from a position on
pub listed_start : (t : List ℕ) (start : ℕ) {r : ℕ} → Finds t (body_from t start) (body_from t (next_line t r)) r → listed (body_from t start) ≡ listed (onward t (body_from t) r)
listed_start t start f = ap listed (found-onward t (body_from t) f)

module _ (t : List ℕ) {at : ℕ} (h : at ≤ length t) where
  pub listed-short-here : each is_short (listed (onward t (body_from t) at)) ≡ true → each is_short (listed (statement_at t at 0 ∷ [])) ≡ true
  listed-short-here e =
      (each_both is_short (listed (statement_at t at 0 ∷ [])) (listed (body_from t (next_line t at)))
      (ap (each is_short) (sym (ap listed (onward-some t (body_from t) h) ∙ listed_one (statement_at t at 0) (body_from t (next_line t at)))) ∙ e)
      ).0

  -- the search goes on with the next line
  module _ {p r : ℕ} (e : p ≡ next_line t at) (f : Finds t (body_from t p) (body_from t (next_line t r)) r) where
    listed_step : listed (onward t (body_from t) at) ≡ listed (statement_at t at 0 ∷ []) ++ listed (onward t (body_from t) r)
    listed_step = ap listed (onward_step t (body_from t) h e f) ∙ listed_one (statement_at t at 0) (onward t (body_from t) r)

    pub listed-short : each is_short (listed (onward t (body_from t) at)) ≡ true → each is_short (listed (onward t (body_from t) r)) ≡ true
    listed-short k = (each_both is_short (listed (statement_at t at 0 ∷ [])) (listed (onward t (body_from t) r)) (ap (each is_short) (sym listed_step) ∙ k)).1

    pub listed_more : (name : List ℕ) (ss : List Statement) {codes : List (List ℕ)} {o out next : List ℕ} {start to end : Run} → Spells codes (kept name ss (listed (onward t (body_from t) at))) o start out to
        → Spelt (kept name ss (listed (statement_at t at 0 ∷ []))) out to next end → Spells codes (kept name ss (listed (onward t (body_from t) r))) o start next end
    listed_more name ss c s = spells_more c (ap (kept name ss) listed_step ∙ kept_append name ss (listed (statement_at t at 0 ∷ [])) (listed (onward t (body_from t) r))) s

pub listed-over : (t : List ℕ) {at : ℕ} → length t < at → (name : List ℕ) (ss : List Statement) → kept name ss (listed (onward t (body_from t) at)) ≡ []
unfolding listed
listed-over t h name ss = ap (λ (l : List Statement). kept name ss (listed l)) (onward-none t (body_from t) h) ∙ kept-none name ss

-- ---- the codes that a statement adds
module _ (t : List ℕ) (cells : List Cell) (i : ℕ) (m : Marks t cells) (h : i < length cells) where
  abbrev it : Cell
  it = get_or cells i no_cell

  abbrev after_it : List Statement
  after_it = map (noted t) (drop (i + 1) cells)

  mark-here : Marked t it
  mark-here = mark_at t cells i m h

  module _ (name : List ℕ) where
    more_is : (b : Bool) → eqb it.verb a_more ≡ b → added_by name (noted t it) ≡ cond (b && same (word (noted t it) 1) name) (drop 2 (noted t it).words) []
    more_is b f =
        ap (λ (x : Bool). cond (x && same (word (noted t it) 1) name) (drop 2 (noted t it).words) [])
        (ap (λ (n : ℕ). eqb n a_more) (sym mark-here.by_verb) ∙ f)

    pub more_other : (it.verb ≡ a_more → ⊥) → [] ≡ kept name after_it (added_by name (noted t it))
    more_other f = sym (ap (kept name after_it) (more_is false (ne_eqb it.verb a_more f)) ∙ kept-none name after_it)

    module _ (f : it.verb ≡ a_more) {w : List ℕ} {b : Bool} (g : w ≡ get_or (words_from t it.line) 1 []) (k : b ≡ same w name) where
      more_named : {c : Bool} → b ≡ c → added_by name (noted t it) ≡ cond c (drop 2 (words_from t it.line)) []
      more_named q =
          more_is true (eq-eqb it.verb a_more f)
          ∙ ap (λ (ws : List (List ℕ)). cond (same (get_or ws 1 []) name) (drop 2 ws) []) (cell_words t it mark-here (ap of_rule f))
          ∙ ap (λ (x : Bool). cond x (drop 2 (words_from t it.line)) []) (sym (k ∙ ap (λ (y : List ℕ). same y name) g) ∙ q)

      pub more_of_other : not b ≡ true → [] ≡ kept name after_it (added_by name (noted t it))
      more_of_other q = sym (ap (kept name after_it) (more_named (not-true b q)) ∙ kept-none name after_it)

      module _ (q : not b ≡ false) (p : ℕ) (j : words_from t p ≡ drop 2 (words_from t it.line)) where
        more_codes : words_from t p ≡ added_by name (noted t it)
        more_codes = j ∙ sym (more_named (not-false b q))

        pub more_short : each is_short (added_by name (noted t it)) ≡ true → each is_short (words_from t p) ≡ true
        more_short s = ap (each is_short) more_codes ∙ s

        pub more_put : {o after : List ℕ} {a r : Run} → Spelt (kept name (map (noted t) (part_cells t cells i)) (words_from t p)) o a after r
            → Spelt (kept name after_it (added_by name (noted t it))) o a after r
        more_put s = spelt_as s (ap₂ (kept name) (part_noted t cells i) more_codes)

-- those of the statements in cells
module _ (t name : List ℕ) (cells : List Cell) (i : ℕ) where
  pub added_more : i < length cells → {codes : List (List ℕ)} {o out next : List ℕ} {start to end : Run} → Spells codes (added name (map (noted t) (drop i cells))) o start out to
      → Spelt (kept name (map (noted t) (drop (i + 1) cells)) (added_by name (noted t (get_or cells i no_cell)))) out to next end → Spells codes (added name (map (noted t) (drop (i + 1) cells))) o start next end
  unfolding added
  added_more h c s = spells_more c (ap (added name) (cells_step (noted t) cells i h)) s

  pub added-over : length cells ≤ i → added name (map (noted t) (drop i cells)) ≡ []
  unfolding added
  added-over h = ap (added name) (cells_done (noted t) cells i h)

-- ---- the codes that a set has in the text
module _ (t name : List ℕ) {line : ℕ} (f : Finds t (from a_set name (statements t)) (left t (next_line t line)) line) where
  -- there is no such set
  pub own-none : length t < line → (ss : List Statement) → [] ≡ kept name ss (codes_of (statements t) name)
  unfolding codes_of
  own-none h ss = sym (ap (λ (l : List Statement). kept name ss (codes_at l)) (f.none h) ∙ kept-none name ss)

  -- the words of its own line after its name, then those of its code lines
  module _ (h : line ≤ length t) where
    own-codes : codes_of (statements t) name ≡ drop 2 (words_from t line) ++ listed (body_from t (next_line t line))
    unfolding codes_of
    own-codes = ap codes_at (f.some h)

    own-short : each sound (statements t) ≡ true → (each is_short (drop 2 (words_from t line)) ≡ true) × (each is_short (listed (body_from t (next_line t line))) ≡ true)
    own-short e =
        each_both is_short (drop 2 (words_from t line)) (listed (body_from t (next_line t line)))
        (ap (each is_short) (sym own-codes) ∙ fit_short (codes_of (statements t) name) (codes_fit (statements t) name e))

    pub own-short-words : each sound (statements t) ≡ true → (p : ℕ) → words_from t p ≡ drop 2 (words_from t line) → each is_short (words_from t p) ≡ true
    own-short-words e p g = ap (each is_short) g ∙ (own-short e).0

    pub own-short-listed : each sound (statements t) ≡ true → {p : ℕ} → p ≡ next_line t line → each is_short (listed (body_from t p)) ≡ true
    own-short-listed e g = ap (λ (q : ℕ). each is_short (listed (body_from t q))) g ∙ (own-short e).1

    pub own_put : (ss : List Statement) (p : ℕ) {q : ℕ} {o second after : List ℕ} {a b r : Run} → words_from t p ≡ drop 2 (words_from t line) → Spelt (kept name ss (words_from t p)) o a second b
        → q ≡ next_line t line → Spelt (kept name ss (listed (body_from t q))) second b after r → Spelt (kept name ss (codes_of (statements t) name)) o a after r
    own_put ss p g u k w =
        spelt_as
        (spelt_then (spelt_as u (ap (kept name ss) g)) (spelt_as w (ap (λ (n : ℕ). kept name ss (listed (body_from t n))) k)))
        (sym (ap (kept name ss) own-codes ∙ kept_append name ss (drop 2 (words_from t line)) (listed (body_from t (next_line t line)))))

-- and all that it has in a section
pub held_put : (all ss : List Statement) (name : List ℕ) {o second after : List ℕ} {a b r : Run} → Spelt (kept name ss (codes_of all name)) o a second b → Spelt (added name ss) second b after r → Spelt (held all ss name) o a after r
unfolding held
held_put all ss name u w = spelt_then u w
