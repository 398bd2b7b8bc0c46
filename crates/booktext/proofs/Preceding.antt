-- Laws of what stands in a section before a statement: rules by their cells, codes of sets, and rows 47 to 49. Assumes nothing.
use mathlib.Core.Path.{◌≡◌, refl, sym, ap, ap₂, ◌∙◌}
use mathlib.Core.Bool.{Bool, true, false, cond, not, ◌&&◌, ◌||◌, and_assoc, and-true, and-false, or_assoc, or-false, true≢false}
use mathlib.Core.List.{List, [], ◌∷◌, ◌++◌, map, map-append, append-nil}
use Prim.Native.Nat.{ℕ, ◌+◌, ◌≤◌, ◌<◌}
use native.Mathlib.Omega.{arith}
use native.Mathlib.Numerals.{add-one}
use lib.Dec.{eqb, leb}
use lib.ListN.{length, get_or, take, drop}
use lib.Seq.{take-suc}
use Rattle.std.proofs.lemmas.List.Elements.{All-take}
use borrow.Author.Tests.{leb-true, eqb-true, eqb-false, eq-eqb, ne_eqb, not-true, not-false}
use Rattle.hl7.specs.Bytes.{is_in, same, among}
use Rattle.hl7.specs.declared.cut.Span.{Span}
use Rattle.hl7.proofs.Comparing.{and_both, or_neither, same_equal, among-append}
use Rattle.grade.specs.Encoding.{each}
use Rattle.booktext.specs.Lines.{Statement, statements, word, verb, says, of_rule, of_place, of_codes, makes_rule, line_of, a_set, a_code, a_rule, a_drop, a_more, a_less}
use Rattle.booktext.specs.Meaning.{from}
use Rattle.booktext.specs.Changes.{spot_of, says_of, amended, dropped, settled_as, settled, names_code, lessened, kept, added_by, added}
use Rattle.booktext.specs.Contents.{listed, codes_at, codes_of, held}
use Rattle.booktext.specs.Faults.{Told, tell, nothing}
use Rattle.booktext.specs.Refusals.{spots_of, stands, has_code, code_asked, rule_fault, first_rule_fault}
use Rattle.booktext.specs.Standing.{words_from, span_bytes, NextWord, statement_at, next_line, left, body_from, Finds, noted, no_cell, Marked, Marks, rules_it}
use Rattle.booktext.specs.Cells.{Cell}
use Rattle.booktext.proofs.Stating.{onward, onward-none, onward-some, onward_step}
use Rattle.booktext.proofs.Marking.{noted-verb, noted-at, noted_other, cells_step, cells_done, mark_says, mark_at}
use Rattle.booktext.proofs.Changing.{amend-rule, amend-spot, amended_as}

-- ---- what stands after some statements, one by one
-- whether something is there after some statements: the last that puts it there or takes it away decides, else what was so before them
unfoldable pub there : (puts takes : Statement → Bool) → Bool → List Statement → Bool
there puts takes so [] = so
there puts takes so (x ∷ ss) = there puts takes (puts x || (not (takes x) && so)) ss

-- something is there after some statements if it was so before them and none took it away, or if it is one of those that were put there and left
module _ (puts takes : Statement → Bool) (taken rest : List Statement → Bool)
    (Taken-none : taken [] ≡ false) (taken_more : (x : Statement) (ss : List Statement) → taken (x ∷ ss) ≡ (takes x || taken ss))
    (rest-none : rest [] ≡ false) (rest_more : (x : Statement) (ss : List Statement) → rest (x ∷ ss) ≡ ((puts x && not (taken ss)) || rest ss)) where
  there-is : (so : Bool) (ss : List Statement) → there puts takes so ss ≡ ((so && not (taken ss)) || rest ss)
  unfolding there
  there-is so [] = sym (ap₂ (λ (a b : Bool). (so && not a) || b) Taken-none rest-none ∙ or-false (so && true) ∙ and-true so)
  there-is so (x ∷ ss) =
      there-is (puts x || (not (takes x) && so)) ss
      ∙ by (puts x) (takes x) so (taken ss) (rest ss)
      ∙ sym (ap₂ (λ (a b : Bool). (so && not a) || b) (taken_more x ss) (rest_more x ss))
    where
      by : (p k so gone later : Bool) → (((p || (not k && so)) && not gone) || later) ≡ ((so && not (k || gone)) || ((p && not gone) || later))
      by true k false gone later = refl
      by true true true gone later = refl
      by true false true true later = refl
      by true false true false later = refl
      by false true true gone later = refl
      by false true false gone later = refl
      by false false so gone later = refl

module _ (spot : ℕ) where
  abbrev standing : List Statement → Bool
  standing ss = is_in spot (spots_of ss)

  standing-append : (ss more : List Statement) → standing (ss ++ more) ≡ (standing ss || standing more)
  unfolding spots_of is_in
  standing-append [] more = refl
  standing-append (s ∷ ss) more = by (makes_rule s) (eqb spot (spot_of s)) (standing-append ss more)
    where
      by : (a b : Bool) → standing (ss ++ more) ≡ (standing ss || standing more) → is_in spot (cond a (spot_of s ∷ spots_of (ss ++ more)) (spots_of (ss ++ more))) ≡ (is_in spot (cond a (spot_of s ∷ spots_of ss) (spots_of ss)) || standing more)
      by true b ih = ap (λ (x : Bool). eqb spot (spot_of s) || x) ih ∙ sym (or_assoc (eqb spot (spot_of s)) (standing ss) (standing more))
      by false b ih = ih

  standing_one : (s : Statement) (ss : List Statement) → standing (settled_as s ss) ≡ (rules_it spot s && not (dropped spot ss))
  unfolding settled_as spots_of is_in
  standing_one s ss = by (makes_rule s) (dropped (spot_of s) ss) (eqb (spot_of s) spot) refl refl refl
    where
      amended_one : makes_rule s ≡ true → standing (amended (spot_of s) s ss ∷ []) ≡ (eqb spot (spot_of s) || false)
      amended_one e =
          ap₂ (λ (b : Bool) (n : ℕ). is_in spot (cond b (n ∷ []) [])) (amended_as makes_rule amend-rule (spot_of s) s ss ∙ e) (amended_as spot_of amend-spot (spot_of s) s ss)

      by : (rule gone at : Bool) → makes_rule s ≡ rule → dropped (spot_of s) ss ≡ gone → eqb (spot_of s) spot ≡ at → standing (cond rule (cond gone [] (amended (spot_of s) s ss ∷ [])) (s ∷ [])) ≡ (rule && at && not (dropped spot ss))
      by false gone at e f g = ap (λ (b : Bool). is_in spot (cond b (spot_of s ∷ []) [])) e
      by true true true e f g = sym (ap not (ap (λ (n : ℕ). dropped n ss) (sym (eqb-true (spot_of s) spot g)) ∙ f))
      by true true false e f g = refl
      by true false true e f g =
          amended_one e
          ∙ ap (λ (b : Bool). b || false) (eq-eqb spot (spot_of s) (sym (eqb-true (spot_of s) spot g)))
          ∙ sym (ap not (ap (λ (n : ℕ). dropped n ss) (sym (eqb-true (spot_of s) spot g)) ∙ f))
      by true false false e f g = amended_one e ∙ ap (λ (b : Bool). b || false) (ne_eqb spot (spot_of s) (λ q. eqb-false (spot_of s) spot g (sym q)))

  standing_more : (s : Statement) (ss : List Statement) → standing (settled (s ∷ ss)) ≡ ((rules_it spot s && not (dropped spot ss)) || standing (settled ss))
  unfolding settled
  standing_more s ss = standing-append (settled_as s ss) (settled ss) ∙ ap (λ (b : Bool). b || standing (settled ss)) (standing_one s ss)

stands-there : (spot : ℕ) (ss : List Statement) → stands spot ss ≡ there (rules_it spot) (says_of a_drop spot) false ss
unfolding stands dropped settled spots_of is_in
stands-there spot ss =
    sym (there-is (rules_it spot) (says_of a_drop spot) (dropped spot) (λ (l : List Statement). is_in spot (spots_of (settled l))) refl (λ x l. refl) refl (standing_more spot) false ss)

-- those of some codes that no `less` takes
among-kept : (name c : List ℕ) (ss : List Statement) (cs : List (List ℕ)) → among c (kept name ss cs) ≡ (among c cs && not (lessened name c ss))
unfolding kept among
among-kept name c ss [] = refl
among-kept name c ss (d ∷ cs) = by (same c d) (lessened name d ss) refl refl (among-kept name c ss cs)
  where
    taken : same c d ≡ true → lessened name c ss ≡ lessened name d ss
    taken e = ap (λ (w : List ℕ). lessened name w ss) (same_equal c d e)

    by : (a b : Bool) → same c d ≡ a → lessened name d ss ≡ b → among c (kept name ss cs) ≡ (among c cs && not (lessened name c ss))
        → among c (cond b (kept name ss cs) (d ∷ kept name ss cs)) ≡ ((a || among c cs) && not (lessened name c ss))
    by true true f g ih = ih ∙ ap (λ (l : Bool). among c cs && not l) (taken f ∙ g) ∙ and-false (among c cs) ∙ sym (ap not (taken f ∙ g))
    by true false f g ih = ap (λ (x : Bool). x || among c (kept name ss cs)) f ∙ sym (ap not (taken f ∙ g))
    by false true f g ih = ih
    by false false f g ih = ap (λ (x : Bool). x || among c (kept name ss cs)) f ∙ ih

among-added : (name c : List ℕ) (x : Statement) (ss : List Statement) → among c (added name (x ∷ ss)) ≡ ((names_code a_more name c x && not (lessened name c ss)) || among c (added name ss))
unfolding added among
among-added name c x ss =
    among-append c (kept name ss (added_by name x)) (added name ss)
    ∙ ap (λ (b : Bool). b || among c (added name ss)) (among-kept name c ss (added_by name x) ∙ ap (λ (b : Bool). b && not (lessened name c ss)) (by (says a_more x && same (word x 1) name)))
  where
    by : (b : Bool) → among c (cond b (drop 2 x.words) []) ≡ (b && among c (drop 2 x.words))
    by true = refl
    by false = refl

has_there : (all ss : List Statement) (name c : List ℕ) → has_code all ss name c ≡ there (names_code a_more name c) (names_code a_less name c) (among c (codes_of all name)) ss
unfolding has_code held lessened added among
has_there all ss name c =
    among-append c (kept name ss (codes_of all name)) (added name ss)
    ∙ ap (λ (b : Bool). b || among c (added name ss)) (among-kept name c ss (codes_of all name))
    ∙ sym (there-is (names_code a_more name c) (names_code a_less name c) (lessened name c) (λ (l : List Statement). among c (added name l)) refl (λ x l. refl) refl (among-added name c) (among c (codes_of all name)) ss)

-- ---- rules
-- what a cell tells of a rule of a place and kind
pub stands-is : (so : Bool) (cell : Cell) (spot : ℕ) {rule gone : Bool} → rule ≡ of_rule cell.verb → gone ≡ (eqb cell.verb a_drop && eqb cell.spot spot)
    → (t : List ℕ) → Marked t cell → ((rule && eqb cell.spot spot) || (not gone && so)) ≡ (rules_it spot (noted t cell) || (not (says_of a_drop spot (noted t cell)) && so))
stands-is so cell spot er eg t m =
    ap₂ (λ (a b : Bool). a || (not b && so))
    (ap₂ (λ (a : Bool) (n : ℕ). a && eqb n spot) (er ∙ ap of_rule m.by_verb) m.by_spot)
    (mark_says t cell m a_drop spot eg)

module _ (spot : ℕ) (cells : List Cell) where
  -- one stands after all if it stands after those that are left
  abbrev pub Stands : Bool → ℕ → Type 0
  Stands so i = (t : List ℕ) → Marks t cells → stands spot (map (noted t) cells) ≡ there (rules_it spot) (says_of a_drop spot) so (map (noted t) (drop i cells))

  pub stands-none : Stands false 0
  stands-none t m = stands-there spot (map (noted t) cells)

  module _ (so : Bool) (i : ℕ) (inv : Stands so i) where
    pub stands_more : i < length cells → (b : Bool) → ((t : List ℕ) → Marked t (get_or cells i no_cell) → b ≡ (rules_it spot (noted t (get_or cells i no_cell)) || (not (says_of a_drop spot (noted t (get_or cells i no_cell))) && so))) → Stands b (i + 1)
    unfolding there
    stands_more h b e t m =
        inv t m
        ∙ ap (there (rules_it spot) (says_of a_drop spot) so) (cells_step (noted t) cells i h)
        ∙ ap (λ (x : Bool). there (rules_it spot) (says_of a_drop spot) x (map (noted t) (drop (i + 1) cells))) (sym (e t (mark_at t cells i m h)))

    pub stands-over : length cells ≤ i → (t : List ℕ) → Marks t cells → so ≡ stands spot (map (noted t) cells)
    unfolding there
    stands-over h t m = sym (inv t m ∙ ap (there (rules_it spot) (says_of a_drop spot) so) (cells_done (noted t) cells i h))

-- ---- a code among words
module _ (t code : List ℕ) (i : ℕ) {all : Bool} (passed : all ≡ among code (words_from t i)) {w : Span} (n : NextWord t i w) where
  pub word_none : w.end ≤ w.start → false ≡ all
  unfolding among
  word_none h = sym (passed ∙ ap (among code) (n.none h))

  module _ (h : w.start < w.end) {text : List ℕ} {b : Bool} (e : text ≡ span_bytes t w) (f : b ≡ same code text) where
    word-is : all ≡ (b || among code (words_from t w.end))
    unfolding among
    word-is = passed ∙ ap (among code) (n.some h) ∙ ap (λ (x : Bool). x || among code (words_from t w.end)) (sym (f ∙ ap (same code) e))

    pub word-here : b ≡ true → true ≡ all
    word-here g = sym (word-is ∙ ap (λ (x : Bool). x || among code (words_from t w.end)) g)

    pub word-later : b ≡ false → all ≡ among code (words_from t w.end)
    word-later g = word-is ∙ ap (λ (x : Bool). x || among code (words_from t w.end)) g

-- ---- a code of a set in the text
-- of one line
module _ (t code : List ℕ) (at : ℕ) {v : ℕ} (e : v ≡ verb (statement_at t at 0)) where
  listed_as : {b : Bool} → says a_code (statement_at t at 0) ≡ b → listed (statement_at t at 0 ∷ []) ≡ cond b (drop 1 (words_from t at)) []
  unfolding listed
  listed_as {b} f = ap (λ (x : Bool). cond x (drop 1 (words_from t at) ++ []) []) f ∙ ap (λ (l : List (List ℕ)). cond b l []) (append-nil (drop 1 (words_from t at)))

  pub listed_code : v ≡ a_code → (p : ℕ) {b : Bool} → words_from t p ≡ drop 1 (words_from t at) → b ≡ among code (words_from t p) → b ≡ among code (listed (statement_at t at 0 ∷ []))
  listed_code h p f g = g ∙ ap (among code) (f ∙ sym (listed_as (eq-eqb (verb (statement_at t at 0)) a_code (sym e ∙ h))))

  pub listed-none : (v ≡ a_code → ⊥) → false ≡ among code (listed (statement_at t at 0 ∷ []))
  unfolding among
  listed-none h = sym (ap (among code) (listed_as (ne_eqb (verb (statement_at t at 0)) a_code (λ q. h (e ∙ q)))))

-- of the lines of a body
listed-first : (code : List ℕ) (s : Statement) (ss : List Statement) → among code (listed (s ∷ ss)) ≡ (among code (listed (s ∷ [])) || among code (listed ss))
unfolding listed among
listed-first code s ss = by (says a_code s)
  where
    by : (b : Bool) → among code (cond b (drop 1 s.words ++ listed ss) (listed ss)) ≡ (among code (cond b (drop 1 s.words ++ []) []) || among code (listed ss))
    by true = among-append code (drop 1 s.words) (listed ss) ∙ ap (λ (l : List (List ℕ)). among code l || among code (listed ss)) (sym (append-nil (drop 1 s.words)))
    by false = refl

module _ (t code : List ℕ) (at : ℕ) {all : Bool} (passed : all ≡ among code (listed (onward t (body_from t) at))) where
  pub list_over : length t < at → false ≡ all
  unfolding listed among
  list_over h = sym (passed ∙ ap (λ (ss : List Statement). among code (listed ss)) (onward-none t (body_from t) h))

  module _ (h : at ≤ length t) {b : Bool} (e : b ≡ among code (listed (statement_at t at 0 ∷ []))) where
    list_is : (ss : List Statement) → among code (listed (statement_at t at 0 ∷ ss)) ≡ (b || among code (listed ss))
    list_is ss = listed-first code (statement_at t at 0) ss ∙ ap (λ (x : Bool). x || among code (listed ss)) (sym e)

    pub list_here : b ≡ true → true ≡ all
    list_here g =
        sym (passed ∙ ap (λ (ss : List Statement). among code (listed ss)) (onward-some t (body_from t) h) ∙ list_is (body_from t (next_line t at)) ∙ ap (λ (x : Bool). x || among code (listed (body_from t (next_line t at)))) g)

    pub list_later : b ≡ false → {p r : ℕ} → p ≡ next_line t at → Finds t (body_from t p) (body_from t (next_line t r)) r → all ≡ among code (listed (onward t (body_from t) r))
    list_later g {r = r} f n =
        passed ∙ ap (λ (ss : List Statement). among code (listed ss)) (onward_step t (body_from t) h f n) ∙ list_is (onward t (body_from t) r) ∙ ap (λ (x : Bool). x || among code (listed (onward t (body_from t) r))) g

-- of the set with a name
module _ (t name code : List ℕ) {line : ℕ} (f : Finds t (from a_set name (statements t)) (left t (next_line t line)) line) where
  pub own-none : length t < line → false ≡ among code (codes_of (statements t) name)
  unfolding codes_of among
  own-none h = sym (ap (λ (ss : List Statement). among code (codes_at ss)) (f.none h))

  module _ (h : line ≤ length t) (p : ℕ) {b : Bool} (e : words_from t p ≡ drop 2 (words_from t line)) (g : b ≡ among code (words_from t p)) where
    own_is : among code (codes_of (statements t) name) ≡ (b || among code (listed (body_from t (next_line t line))))
    unfolding codes_of
    own_is =
        ap (λ (ss : List Statement). among code (codes_at ss)) (f.some h)
        ∙ among-append code (drop 2 (words_from t line)) (listed (body_from t (next_line t line)))
        ∙ ap (λ (x : Bool). x || among code (listed (body_from t (next_line t line)))) (sym (g ∙ ap (among code) e))

    pub own-here : b ≡ true → true ≡ among code (codes_of (statements t) name)
    own-here k = sym (own_is ∙ ap (λ (x : Bool). x || among code (listed (body_from t (next_line t line)))) k)

    pub own-listed : b ≡ false → {q : ℕ} {r : Bool} → q ≡ next_line t line → r ≡ among code (listed (body_from t q)) → r ≡ among code (codes_of (statements t) name)
    own-listed k l o =
        o ∙ ap (λ (q : ℕ). among code (listed (body_from t q))) l
        ∙ sym (own_is ∙ ap (λ (x : Bool). x || among code (listed (body_from t (next_line t line)))) k)

-- ---- a code that a line names after a set
module _ (t name code : List ℕ) (at : ℕ) {w : List ℕ} {b : Bool} (e : w ≡ get_or (words_from t at) 1 []) (f : b ≡ same w name) where
  abbrev names-by : Bool → Bool
  names-by x = x && among code (drop 2 (words_from t at))

  named_set : {x : Bool} → b ≡ x → names-by (same (get_or (words_from t at) 1 []) name) ≡ names-by x
  named_set g = ap names-by (sym (f ∙ ap (λ (l : List ℕ). same l name) e) ∙ g)

  pub names_other : not b ≡ true → false ≡ names-by (same (get_or (words_from t at) 1 []) name)
  names_other g = sym (named_set (not-true b g))

  pub names-this : not b ≡ false → (p : ℕ) {r : Bool} → words_from t p ≡ drop 2 (words_from t at) → r ≡ among code (words_from t p) → r ≡ names-by (same (get_or (words_from t at) 1 []) name)
  names-this g p k l = l ∙ ap (among code) k ∙ sym (named_set (not-false b g))

-- ---- a code of a set in a section
-- what changes codes is no rule
codes-plain : (v : ℕ) → of_codes v ≡ true → of_rule v ≡ false
codes-plain v e = by (eqb v a_more) (eqb v a_less) refl refl e
  where
    by : (a b : Bool) → eqb v a_more ≡ a → eqb v a_less ≡ b → (a || b) ≡ true → of_rule v ≡ false
    by true b f g h = ap of_rule (eqb-true v a_more f)
    by false true f g h = ap of_rule (eqb-true v a_less g)
    by false false f g h = absurd (true≢false (sym h))

-- after one statement: it names the set and the code, and is a `more` or a `less`
abbrev has-by : Bool → ℕ → Bool → Bool
has-by so v names = (eqb v a_more && names) || (not (eqb v a_less && names) && so)

has_other : (so : Bool) (v : ℕ) (names : Bool) → of_codes v ≡ false → so ≡ has-by so v names
has_other so v names e = let n = or_neither (eqb v a_more) (eqb v a_less) e in sym (rw (n.0, n.1))

has_named : (so : Bool) (v : ℕ) → of_codes v ≡ true → eqb v a_more ≡ has-by so v true
has_named so v e = by (eqb v a_more) (eqb v a_less) e
  where
    by : (a b : Bool) → (a || b) ≡ true → a ≡ ((a && true) || (not (b && true) && so))
    by true b f = refl
    by false true f = refl
    by false false f = absurd (true≢false (sym f))

has-not : (so : Bool) (v : ℕ) → so ≡ has-by so v false
has-not so v = by (eqb v a_more) (eqb v a_less)
  where
    by : (a b : Bool) → so ≡ ((a && false) || (not (b && false) && so))
    by true true = refl
    by true false = refl
    by false true = refl
    by false false = refl

module _ (t name code : List ℕ) (so : Bool) (cell : Cell) (m : Marked t cell) {codes : Bool} (f : codes ≡ of_codes cell.verb) where
  abbrev has_after : Bool
  has_after = names_code a_more name code (noted t cell) || (not (names_code a_less name code (noted t cell)) && so)

  after_is : {x : Bool} → x ≡ (same (word (noted t cell) 1) name && among code (drop 2 (noted t cell).words)) → has-by so cell.verb x ≡ has_after
  after_is g =
      ap₂ (has-by so) m.by_verb g
      ∙ ap₂ (λ (a b : Bool). a || (not b && so))
      (sym (and_assoc (says a_more (noted t cell)) (same (word (noted t cell) 1) name) (among code (drop 2 (noted t cell).words))))
      (sym (and_assoc (says a_less (noted t cell)) (same (word (noted t cell) 1) name) (among code (drop 2 (noted t cell).words))))

  pub after_other : not codes ≡ true → so ≡ has_after
  after_other h = has_other so cell.verb _ (sym f ∙ not-true codes h) ∙ after_is refl

  module _ (h : not codes ≡ false) {b : Bool} (g : b ≡ (same (word (statement_at t cell.line 0) 1) name && among code (drop 2 (words_from t cell.line)))) where
    after-said : b ≡ (same (word (noted t cell) 1) name && among code (drop 2 (noted t cell).words))
    after-said =
        let plain : makes_rule (noted t cell) ≡ false = ap of_rule (sym m.by_verb) ∙ codes-plain cell.verb (sym f ∙ not-false codes h) in
        g ∙ sym (ap (λ (s : Statement). same (word s 1) name && among code (drop 2 s.words)) (noted_other t cell plain))

    pub after-named : b ≡ true → eqb cell.verb a_more ≡ has_after
    after-named k = has_named so cell.verb (sym f ∙ not-false codes h) ∙ after_is (sym k ∙ after-said)

    pub after-not : b ≡ false → so ≡ has_after
    after-not k = has-not so cell.verb ∙ after_is (sym k ∙ after-said)

-- after those in the cells
module _ (t name code : List ℕ) (cells : List Cell) where
  -- it has it after all if it has it after those that are left
  abbrev pub Has : Bool → ℕ → Type 0
  Has so i = has_code (statements t) (map (noted t) cells) name code ≡ there (names_code a_more name code) (names_code a_less name code) so (map (noted t) (drop i cells))

  pub has-none : {so : Bool} → so ≡ among code (codes_of (statements t) name) → Has so 0
  has-none e = has_there (statements t) (map (noted t) cells) name code ∙ ap (λ (x : Bool). there (names_code a_more name code) (names_code a_less name code) x (map (noted t) cells)) (sym e)

  module _ (so : Bool) (i : ℕ) (inv : Has so i) where
    pub has_more : i < length cells → {b : Bool} → b ≡ (names_code a_more name code (noted t (get_or cells i no_cell)) || (not (names_code a_less name code (noted t (get_or cells i no_cell))) && so)) → Has b (i + 1)
    unfolding there
    has_more h e =
        inv
        ∙ ap (there (names_code a_more name code) (names_code a_less name code) so) (cells_step (noted t) cells i h)
        ∙ ap (λ (x : Bool). there (names_code a_more name code) (names_code a_less name code) x (map (noted t) (drop (i + 1) cells))) (sym e)

    pub has-over : length cells ≤ i → so ≡ has_code (statements t) (map (noted t) cells) name code
    unfolding there
    has-over h = sym (inv ∙ ap (there (names_code a_more name code) (names_code a_less name code) so) (cells_done (noted t) cells i h))

-- ---- row 49
-- what a `more` or a `less` asks of one code
pub asked_is : (all before : List Statement) (s : Statement) (w : Span) (t : List ℕ) {less has b : Bool} {name text : List ℕ} → less ≡ says a_less s → name ≡ word s 1 → text ≡ span_bytes t w
    → has ≡ has_code all before name text → b ≡ cond less has (not has) → b ≡ code_asked all before s (span_bytes t w)
asked_is all before s w t el en et eh eb =
    eb ∙ ap₂ (λ (a b : Bool). cond a b (not b)) el (eh ∙ ap₂ (has_code all before) en et)

-- ---- the rows
-- of a verb, where a rule of the place and kind stands or not, and where the codes are as they have to be or not
abbrev rows : ℕ → Bool → Bool → ℕ
rows v so right = cond (eqb v a_rule && so) 47 (cond (of_place v && not (eqb v a_rule) && not so) 48 (cond (of_codes v && not right) 49 0))

rows-place : (v : ℕ) (so right : Bool) → of_place v ≡ true → cond (eqb v a_rule && so) 47 (cond (not (eqb v a_rule) && not so) 48 0) ≡ rows v so right
rows-place v so right e =
    let low : v ≤ a_drop = leb-true v a_drop (and_both (leb a_rule v) (leb v a_drop) e).1 in
    sym (rw (e, ne_eqb v a_more (λ q. absurd (omega (arith, q))), ne_eqb v a_less (λ q. absurd (omega (arith, q)))))

module _ (v : ℕ) (e : of_place v ≡ false) (so right : Bool) where
  no_rule_lem : eqb v a_rule ≡ false
  no_rule_lem = ne_eqb v a_rule (λ q. true≢false (sym (ap of_place q) ∙ e))

  rows-codes : of_codes v ≡ true → cond right 0 49 ≡ rows v so right
  rows-codes f = by right ∙ sym (rw (e, no_rule_lem, f))
    where
      by : (b : Bool) → ◌≡◌ {A = ℕ} (cond b 0 49) (cond (not b) 49 0)
      by true = refl
      by false = refl

  rows_none : of_codes v ≡ false → 0 ≡ rows v so right
  rows_none f = sym (rw (e, no_rule_lem, f))

module _ (t : List ℕ) (cells : List Cell) (i : ℕ) (m : Marks t cells) (h : i < length cells) where
  abbrev it : Cell
  it = get_or cells i no_cell

  abbrev here : Statement
  here = noted t it

  abbrev earlier : List Statement
  earlier = map (noted t) (take i cells)

  abbrev asked_of : Statement → Bool
  asked_of s = each (code_asked (statements t) earlier s) (drop 2 s.words)

  mark-here : Marked t it
  mark-here = mark_at t cells i m h

  rows-here : (so right : Bool) → so ≡ stands (spot_of here) earlier → right ≡ asked_of here → rows it.verb so right ≡ rule_fault (statements t) earlier here
  unfolding rule_fault
  rows-here so right f g = ap (λ (n : ℕ). rows n so right) mark-here.by_verb ∙ ap₂ (rows (verb here)) f g

  module _ {placed : Bool} (p : placed ≡ of_place it.verb) where
    pub fault-place : placed ≡ true → {r : ℕ} {so : Bool} → ((t : List ℕ) → Marks t (take i cells) → so ≡ stands it.spot (map (noted t) (take i cells)))
        → r ≡ cond (eqb it.verb a_rule && so) 47 (cond (not (eqb it.verb a_rule) && not so) 48 0) → r ≡ rule_fault (statements t) earlier here
    fault-place k {so = so} g o =
        o
        ∙ rows-place it.verb so (asked_of here) (sym p ∙ k)
        ∙ rows-here so (asked_of here) (g t (All-take (Marked t) i cells m) ∙ ap (λ (n : ℕ). stands n earlier) mark-here.by_spot) refl

    module _ (k : placed ≡ false) {codes : Bool} (q : codes ≡ of_codes it.verb) where
      pub fault-codes : codes ≡ true → {r : ℕ} {right : Bool} → right ≡ each (code_asked (statements t) earlier (statement_at t it.line 0)) (drop 2 (words_from t it.line))
          → cond right 0 49 ≡ r → r ≡ rule_fault (statements t) earlier here
      fault-codes c {right = right} g o =
          let plain : makes_rule here ≡ false = ap of_rule (sym mark-here.by_verb) ∙ codes-plain it.verb (sym q ∙ c) in
          sym o
          ∙ rows-codes it.verb (sym p ∙ k) (stands (spot_of here) earlier) right (sym q ∙ c)
          ∙ rows-here (stands (spot_of here) earlier) right refl (g ∙ sym (ap asked_of (noted_other t it plain)))

      pub fault-none : codes ≡ false → 0 ≡ rule_fault (statements t) earlier here
      fault-none c = rows_none it.verb (sym p ∙ k) (stands (spot_of here) earlier) (asked_of here) (sym q ∙ c) ∙ rows-here (stands (spot_of here) earlier) (asked_of here) refl refl

  -- what is asked of a `less`
  pub less-here : eqb it.verb a_less ≡ says a_less (statement_at t it.line 0)
  less-here = ap (λ (n : ℕ). eqb n a_less) (mark-here.by_verb ∙ noted-verb t it)

-- ---- the first statement that has one
module _ (t : List ℕ) (cells : List Cell) (head i : ℕ) where
  -- of the cells from i on
  abbrev pub fault_from : Told
  fault_from = first_rule_fault t (statements t) (line_of t head) (map (noted t) (take i cells)) (map (noted t) (drop i cells))

  pub fault-over : length cells ≤ i → fault_from ≡ nothing
  unfolding first_rule_fault
  fault-over h = ap (first_rule_fault t (statements t) (line_of t head) (map (noted t) (take i cells))) (cells_done (noted t) cells i h)

  module _ (h : i < length cells) {n : ℕ} (e : n ≡ rule_fault (statements t) (map (noted t) (take i cells)) (noted t (get_or cells i no_cell))) where
    fault-is : fault_from ≡ cond (eqb n 0) (first_rule_fault t (statements t) (line_of t head) (map (noted t) (take i cells) ++ (noted t (get_or cells i no_cell) ∷ [])) (map (noted t) (drop (i + 1) cells))) (tell n (line_of t (noted t (get_or cells i no_cell)).at) (line_of t head))
    unfolding first_rule_fault
    fault-is =
        ap (first_rule_fault t (statements t) (line_of t head) (map (noted t) (take i cells))) (cells_step (noted t) cells i h)
        ∙ ap
        (λ (n : ℕ). cond (eqb n 0) (first_rule_fault t (statements t) (line_of t head) (map (noted t) (take i cells) ++ (noted t (get_or cells i no_cell) ∷ [])) (map (noted t) (drop (i + 1) cells))) (tell n (line_of t (noted t (get_or cells i no_cell)).at) (line_of t head)))
        (sym e)

    pub fault-told : (n ≡ 0 → ⊥) → {r : Told} {line section : ℕ} → line ≡ line_of t (get_or cells i no_cell).line → section ≡ line_of t head → r ≡ tell n line section → r ≡ fault_from
    fault-told some el es er =
        er ∙ ap₂ (tell n) (el ∙ ap (line_of t) (sym (noted-at t (get_or cells i no_cell)))) es
        ∙ sym (fault-is ∙ ap (λ (b : Bool). cond b (first_rule_fault t (statements t) (line_of t head) (map (noted t) (take i cells) ++ (noted t (get_or cells i no_cell) ∷ [])) (map (noted t) (drop (i + 1) cells))) (tell n (line_of t (noted t (get_or cells i no_cell)).at) (line_of t head))) (ne_eqb n 0 some))

    pub fault_more : n ≡ 0 → fault_from ≡ first_rule_fault t (statements t) (line_of t head) (map (noted t) (take (i + 1) cells)) (map (noted t) (drop (i + 1) cells))
    fault_more none =
        fault-is
        ∙ rw (eq-eqb n 0 none)
        (ap (λ (l : List Statement). first_rule_fault t (statements t) (line_of t head) l (map (noted t) (drop (i + 1) cells)))
        (sym (map-append (noted t) (take i cells) (get_or cells i no_cell ∷ [])) ∙ ap (map (noted t)) (sym (ap (λ (m : ℕ). take m cells) (add-one i) ∙ take-suc cells i no_cell h))))
