-- Laws of the legend's lines: how they are written, one after the other. Assumes nothing.
use mathlib.Core.Path.{◌≡◌, refl, sym, ap, ap₂, ◌∙◌}
use mathlib.Core.Bool.{Bool, true, false, cond, not, ◌&&◌, ◌||◌}
use mathlib.Core.List.{List, [], ◌∷◌, ◌++◌, map, append_assoc, append-nil}
use Prim.Native.Nat.{ℕ, suc, ◌+◌, ◌≤◌, ◌<◌}
use native.Mathlib.Omega.{arith}
use native.Mathlib.Numerals.{add-one}
use lib.Dec.{eqb, leb}
use lib.ListN.{length, get_or, take, drop}
use borrow.Author.Tests.{ne_eqb, leb-true, leb-false}
use Rattle.hl7.specs.Text.{bytes}
use Rattle.hl7.specs.declared.cut.Span.{Span}
use Rattle.hl7.proofs.Comparing.{and_both}
use Rattle.ack.specs.Decimal.{decimal}
use Rattle.ack.specs.Layout.{joined, marked}
use Rattle.ack.specs.Output.{Adds}
use Rattle.ack.specs.declared.output.Output.{Output}
use Rattle.ack.proofs.Adding.{adds_as, adds_none, ◌next◌, Adding, adding_more, adding_over}
use Rattle.booktext.specs.Lines.{Statement, word, verb, of_rule, says, makes_rule, line_feed, a_section, a_severity, a_bound, statements}
use Rattle.booktext.specs.Meaning.{body, expand}
use Rattle.booktext.specs.Changes.{spot_of, amended, dropped}
use Rattle.booktext.specs.Contents.{letter_of}
use Rattle.booktext.specs.Refusals.{statement_limit}
use Rattle.booktext.specs.Standing.{words_from, span_bytes, NextWord, statement_at, next_line, left, body_from, noted, no_cell, Marked, Marks, Finds, Holds}
use Rattle.booktext.specs.Cells.{Cell}
use Rattle.booktext.proofs.Marking.{noted-at, noted-first, noted_second, cells_step, cells_done, mark_says, mark_at, part_cells, part_marks, part_noted}
use Rattle.booktext.proofs.Stating.{onward, onward-none, onward-some, found-onward, left-start}
use Rattle.legend.specs.People.{line_at, people}
use Rattle.legend.specs.Legend.{remark, remark_of, changes, later_remarks, rule_legend, stays, line_of_rule, rules_legend, section_legend, legend_in, legend}
use Rattle.legend.specs.Standing.{rule_words, line_if_stays, roomy}

-- ---- words for people
pub remark-none : (words : List ℕ) (o : Output) → length words ≡ 0 → Adds o (remark words) o
remark-none [] o h = adds_none o refl
remark-none (x ∷ words) o h = absurd (omega (arith, h))

pub remark-some : (words : List ℕ) {o p q : Output} → (length words ≡ 0 → ⊥) → Adds o (bytes " | ") p → Adds p words q → Adds o (remark words) q
remark-some [] n u v = absurd (n refl)
remark-some (x ∷ words) n u v = u next v

-- those of the line in a cell
pub remark-noted : (t : List ℕ) (cell : Cell) {words : List ℕ} {o p : Output} → words ≡ people (line_at t cell.line) → Adds o (remark words) p → Adds o (remark_of t (noted t cell)) p
remark-noted t cell e w = adds_as w (ap remark (e ∙ ap (λ (n : ℕ). people (line_at t n)) (sym (noted-at t cell))))

-- ---- words with a blank in front
module _ {t : List ℕ} {at : ℕ} {r : Span} (n : NextWord t at r) where
  pub marked_more : r.start < r.end → {w : List ℕ} → w ≡ span_bytes t r → marked 32 (words_from t at) ≡ (32 ∷ w) ++ marked 32 (words_from t r.end)
  unfolding marked
  marked_more h e = ap (marked 32) (n.some h) ∙ ap (λ (l : List ℕ). 32 ∷ (l ++ marked 32 (words_from t r.end))) (sym e)

  pub marked-over : r.end ≤ r.start → marked 32 (words_from t at) ≡ []
  unfolding marked
  marked-over h = ap (marked 32) (n.none h)

-- ---- a rule's words
pub rule-listed : (t key : List ℕ) (cell : Cell) (n bound : ℕ) {place kind : List ℕ} {letter : ℕ} {o p q r u v x z : Output}
    → Adds o key p → Adds p (32 ∷ decimal n) q
    → place ≡ get_or (words_from t cell.line) 1 [] → Adds q (32 ∷ place) r
    → kind ≡ get_or (words_from t cell.line) 2 [] → Adds r (32 ∷ kind) u
    → Adds u (32 ∷ []) v
    → letter ≡ letter_of (noted t cell) → Adds v (letter ∷ []) x
    → words_from t bound ≡ drop 4 (noted t cell).words → Adds x (marked 32 (words_from t bound)) z
    → Adds o (rule_words key n (noted t cell)) z
unfolding rule_words joined marked
rule-listed t key cell n bound wk wn ep wp ek wd wb el wl es wm =
    adds_as
    (wk next wn next adds_as wp (ap (λ (w : List ℕ). 32 ∷ w) (ep ∙ sym (noted-first t cell))) next adds_as wd (ap (λ (w : List ℕ). 32 ∷ w) (ek ∙ sym (noted_second t cell))) next wb
    next adds_as wl (ap (λ (w : ℕ). w ∷ []) el) next adds_as wm (ap (marked 32) es))
    refl

-- and its line, from its parts
pub parts_listed : (t key : List ℕ) (n spot : ℕ) (rule : Cell) (s : Statement) (later : List Statement) {o p q r z : Output}
    → noted t rule ≡ amended spot s later
    → Adds o (rule_words key n (noted t rule)) p
    → Adds p (remark_of t s) q
    → Adds q (later_remarks t spot later) r
    → Adds r (line_feed ∷ []) z
    → Adds o (rule_legend t key n (amended spot s later) (remark_of t s ++ later_remarks t spot later)) z
unfolding rule_words rule_legend
parts_listed t key n spot rule s later l wr wo wl we =
    adds_as (adds_as wr (ap (rule_words key n) l) next wo next wl next we)
    (ap (λ (rest : List ℕ). rule_words key n (amended spot s later) ++ rest) (sym (append_assoc (remark_of t s) (later_remarks t spot later) (line_feed ∷ []))))

-- ---- what later lines remark
module _ (t : List ℕ) (spot : ℕ) (cell : Cell) (m : Marked t cell) {b c : Bool}
    (e : b ≡ (eqb cell.verb a_severity && eqb cell.spot spot)) (f : c ≡ (eqb cell.verb a_bound && eqb cell.spot spot)) where
  changes-is : {d : Bool} → (b || c) ≡ d → changes spot (noted t cell) ≡ d
  changes-is h = ap₂ ◌||◌ (sym (mark_says t cell m a_severity spot e)) (sym (mark_says t cell m a_bound spot f)) ∙ h

  pub change_put : (b || c) ≡ true → {o p : Output} → Adds o (remark_of t (noted t cell)) p → Adds o (later_remarks t spot (noted t cell ∷ [])) p
  unfolding later_remarks
  change_put h w = adds_as w (sym (rw (changes-is h) (append-nil (remark_of t (noted t cell)))))

  pub change_none : (b || c) ≡ false → (o : Output) → Adds o (later_remarks t spot (noted t cell ∷ [])) o
  unfolding later_remarks
  change_none h o = adds_none o (sym (rw (changes-is h)))

-- the next of them, and those after it
module _ (t : List ℕ) (spot : ℕ) (cells : List Cell) (i : ℕ) where
  pub changes_next : i < length cells → later_remarks t spot (map (noted t) (drop i cells)) ≡ later_remarks t spot (noted t (get_or cells i no_cell) ∷ []) ++ later_remarks t spot (map (noted t) (drop (i + 1) cells))
  unfolding later_remarks
  changes_next h =
      ap (later_remarks t spot) (cells_step (noted t) cells i h)
      ∙ by (changes spot (noted t (get_or cells i no_cell))) (remark_of t (noted t (get_or cells i no_cell))) (later_remarks t spot (map (noted t) (drop (i + 1) cells)))
    where
      by : (b : Bool) (own later : List ℕ) → cond b (own ++ later) later ≡ cond b (own ++ []) [] ++ later
      by true own later = ap (λ (l : List ℕ). l ++ later) (sym (append-nil own))
      by false own later = refl

  pub changes-none : length cells ≤ i → later_remarks t spot (map (noted t) (drop i cells)) ≡ []
  unfolding later_remarks
  changes-none h = ap (later_remarks t spot) (cells_done (noted t) cells i h)

-- ---- a rule that stays
module _ (t : List ℕ) (cells : List Cell) (i : ℕ) (m : Marks t cells) (h : i < length cells) where
  abbrev it : Cell
  it = get_or cells i no_cell

  abbrev s : Statement
  s = noted t it

  abbrev after_it : List Statement
  after_it = map (noted t) (drop (i + 1) cells)

  module _ {b : Bool} (g : b ≡ of_rule it.verb) where
    ruled : {c : Bool} → b ≡ c → makes_rule s ≡ c
    ruled e = ap of_rule (sym (mark_at t cells i m h).by_verb) ∙ sym g ∙ e

    pub stays-not : b ≡ false → false ≡ stays s after_it
    stays-not e = sym (ap (λ (x : Bool). x && not (dropped (spot_of s) after_it)) (ruled e))

    pub stays_if : {gone : Bool} → b ≡ true → ((t : List ℕ) → Marks t (part_cells t cells i) → gone ≡ dropped it.spot (map (noted t) (part_cells t cells i))) → not gone ≡ stays s after_it
    stays_if e d =
        ap not (d t (part_marks t cells i m) ∙ ap₂ dropped (mark_at t cells i m h).by_spot (part_noted t cells i))
        ∙ sym (ap (λ (x : Bool). x && not (dropped (spot_of s) after_it)) (ruled e))

  pub stays-rule : {b : Bool} → b ≡ stays s after_it → b ≡ true → makes_rule s ≡ true
  stays-rule e f = (and_both (makes_rule s) (not (dropped (spot_of s) after_it)) (sym e ∙ f)).0

  -- its line, by the part of the cells that follows
  pub line-listed : (key : List ℕ) (n : ℕ) {o p : Output}
      → Adds o (rule_legend t key n (amended it.spot s (map (noted t) (part_cells t cells i))) (remark_of t s ++ later_remarks t it.spot (map (noted t) (part_cells t cells i)))) p
      → Adds o (line_of_rule t key n s after_it) p
  line-listed key n w =
      adds_as w
      (ap₂ (λ (spot : ℕ) (ss : List Statement). rule_legend t key n (amended spot s ss) (remark_of t s ++ later_remarks t spot ss)) (mark_at t cells i m h).by_spot (part_noted t cells i))

  -- if it stays
  pub made-listed : (key : List ℕ) (n : ℕ) {b : Bool} {o p : Output} → b ≡ stays s after_it → b ≡ true → Adds o (line_of_rule t key n s after_it) p → Adds o (line_if_stays t key n s after_it) p
  unfolding line_if_stays
  made-listed key n e f w = adds_as w (sym (rw (sym e ∙ f)))

  pub none-listed : (key : List ℕ) (n : ℕ) {b : Bool} (o : Output) → b ≡ stays s after_it → b ≡ false → Adds o (line_if_stays t key n s after_it) o
  unfolding line_if_stays
  none-listed key n o e f = adds_none o (sym (rw (sym e ∙ f)))

  -- and then the others, with the next number
  rules_go_on : (key : List ℕ) (n k : ℕ) → k ≡ cond (stays s after_it) (n + 1) n → rules_legend t key n (s ∷ after_it) ≡ line_if_stays t key n s after_it ++ rules_legend t key k after_it
  unfolding rules_legend line_if_stays
  rules_go_on key n k e = by (stays s after_it) ∙ ap (λ (x : ℕ). cond (stays s after_it) (line_of_rule t key n s after_it) [] ++ rules_legend t key x after_it) (sym e)
    where
      by : (b : Bool) → cond b (line_of_rule t key n s after_it ++ rules_legend t key (suc n) after_it) (rules_legend t key n after_it) ≡ cond b (line_of_rule t key n s after_it) [] ++ rules_legend t key (cond b (n + 1) n) after_it
      by true = ap (λ (x : ℕ). line_of_rule t key n s after_it ++ rules_legend t key x after_it) (sym (add-one n))
      by false = refl

-- whoever lists the rules of the cells left has listed all, and no number is larger than the cells let it be
pub record Listing (t key : List ℕ) (cells : List Cell) (o out : Output) (n i : ℕ) : Type 0 where
  pub few : n ≤ i + 1
  pub lists : Adding (rules_legend t key 1 (map (noted t) cells)) (rules_legend t key n (map (noted t) (drop i cells))) o out

pub listing_none : (t key : List ℕ) (cells : List Cell) (o : Output) → Listing t key cells o o 1 0
listing_none t key cells o = record { few = omega arith; lists = λ after w. w }

module _ {t key : List ℕ} {cells : List Cell} {o out : Output} {n i : ℕ} (l : Listing t key cells o out n i) where
  pub listing_more : (m : Marks t cells) (h : i < length cells) {mid : Output} {k : ℕ}
      → Adds out (line_if_stays t key n (noted t (get_or cells i no_cell)) (map (noted t) (drop (i + 1) cells))) mid
      → ((t : List ℕ) → Marks t cells → k ≡ cond (stays (noted t (get_or cells i no_cell)) (map (noted t) (drop (i + 1) cells))) (n + 1) n) × (k ≤ n + 1)
      → Listing t key cells o mid k (i + 1)
  listing_more m h {k = k} w e =
      record {
        few = omega (arith, l.few, e.1);
        lists =
            adding_more l.lists
            (ap (rules_legend t key n) (cells_step (noted t) cells i h)
            ∙ rules_go_on t cells i m h key n k (e.0 t m))
            w;
      }

  pub listing_over : length cells ≤ i → Adds o (rules_legend t key 1 (map (noted t) cells)) out
  unfolding rules_legend
  listing_over h = adding_over l.lists (ap (rules_legend t key n) (cells_done (noted t) cells i h))

-- ---- a section
pub all_noted : (t : List ℕ) (head : ℕ) {cells : List Cell} {count later : ℕ} → later ≡ next_line t head → Holds t cells count (expand (statements t) (body_from t later))
    → length (expand (statements t) (body_from t (next_line t head))) ≤ statement_limit → count ≤ statement_limit
all_noted t head {count = count} {later} e h room = by (leb count statement_limit) refl
  where
    by : (b : Bool) → leb count statement_limit ≡ b → count ≤ statement_limit
    by true f = leb-true count statement_limit f
    by false f = omega (arith, room, h.over (leb-false count statement_limit f), ap (λ (at : ℕ). length (expand (statements t) (body_from t at))) e)

pub section-listed : (t : List ℕ) (head : ℕ) {key words : List ℕ} {o p q r u z : Output} {cells : List Cell} {count later : ℕ}
    → key ≡ word (statement_at t head 0) 1
    → later ≡ next_line t head → Holds t cells count (expand (statements t) (body_from t later)) → count ≤ statement_limit
    → Adds o key p → Adds p (bytes " 0") q
    → words ≡ people (line_at t head) → Adds q (remark words) r → Adds r (line_feed ∷ []) u
    → Adds u (rules_legend t key 1 (map (noted t) (take count cells))) z
    → Adds o (section_legend t (statements t) (statement_at t head 0) (left t (next_line t head))) z
unfolding section_legend joined marked
section-listed t head {key} {words} {cells = cells} {count = count} ek en h few wk wz ew wo we wr =
    adds_as (wk next wz next wo next we next wr)
    (ap₂ (λ (k rules : List ℕ). k ++ (bytes " 0" ++ (remark words ++ (line_feed ∷ rules)))) ek
    (ap₂ (λ (k : List ℕ) (ss : List Statement). rules_legend t k 1 ss) ek (h.exact few ∙ ap (λ (at : ℕ). expand (statements t) (body_from t at)) en))
    ∙ ap (λ (l : List ℕ). word (statement_at t head 0) 1 ++ (bytes " 0" ++ (remark l ++ (line_feed ∷ rules_legend t (word (statement_at t head 0) 1) 1 (expand (statements t) (body (left t (next_line t head)))))))) ew
    ∙ simp append_assoc)

-- ---- the text
module _ (t : List ℕ) (all : List Statement) (s : Statement) (ss : List Statement) where
  -- what a statement adds
  abbrev pub lines_of : List ℕ
  lines_of = cond (says a_section s) (section_legend t all s ss) []

  legend_step : legend_in t all (s ∷ ss) ≡ lines_of ++ legend_in t all ss
  unfolding legend_in
  legend_step = by (says a_section s)
    where
      by : (b : Bool) → cond b (section_legend t all s ss ++ legend_in t all ss) (legend_in t all ss) ≡ cond b (section_legend t all s ss) [] ++ legend_in t all ss
      by true = refl
      by false = refl

  pub roomy-here : roomy all (s ∷ ss) ≡ true → says a_section s ≡ true → length (expand all (body ss)) ≤ statement_limit
  unfolding roomy
  roomy-here h e =
      let room = (and_both (not (says a_section s) || leb (length (expand all (body ss))) statement_limit) (roomy all ss) h).0 in
      leb-true (length (expand all (body ss))) statement_limit (ap (λ (b : Bool). not b || leb (length (expand all (body ss))) statement_limit) (sym e) ∙ room)

  pub section-here : says a_section s ≡ true → {o p : Output} → Adds o (section_legend t all s ss) p → Adds o lines_of p
  section-here e w = adds_as w (sym (ap (λ (b : Bool). cond b (section_legend t all s ss) []) e))

  pub section-none : says a_section s ≡ false → (o : Output) → Adds o lines_of o
  section-none e o = adds_none o (sym (ap (λ (b : Bool). cond b (section_legend t all s ss) []) e))

  roomy-later : roomy all (s ∷ ss) ≡ true → roomy all ss ≡ true
  unfolding roomy
  roomy-later h = (and_both (not (says a_section s) || leb (length (expand all (body ss))) statement_limit) (roomy all ss) h).1

pub no_section_lem : (s : Statement) {v : ℕ} → v ≡ verb s → (v ≡ a_section → ⊥) → says a_section s ≡ false
no_section_lem s e n = ne_eqb (verb s) a_section (λ z. n (e ∙ z))

-- whoever lists the sections left has listed all
pub record Sections (t : List ℕ) (o : Output) (ss : List Statement) (out : Output) : Type 0 where
  pub room : roomy (statements t) ss ≡ true
  pub lists : Adding (legend t) (legend_in t (statements t) ss) o out

pub sections-none : (t : List ℕ) (o : Output) → roomy (statements t) (statements t) ≡ true → {r : ℕ} → Finds t (left t 0) (left t (next_line t r)) r → Sections t o (onward t (left t) r) o
unfolding legend
sections-none t o h f =
    let all = left-start t ∙ refl in
    let here : onward t (left t) _ ≡ statements t = sym (found-onward t (left t) f) ∙ all in
    record { room = ap (roomy (statements t)) here ∙ h; lists = λ after w. adds_as w (ap (legend_in t (statements t)) here) }

module _ (t : List ℕ) (line : ℕ) {o out : Output} (l : Sections t o (onward t (left t) line) out) where
  pub sections-over : length t < line → Adds o (legend t) out
  unfolding legend_in
  sections-over h = adding_over l.lists (ap (legend_in t (statements t)) (onward-none t (left t) h))

  module _ (h : line ≤ length t) where
    pub sections-room : roomy (statements t) (statement_at t line 0 ∷ left t (next_line t line)) ≡ true
    sections-room = ap (roomy (statements t)) (sym (onward-some t (left t) h)) ∙ l.room

    pub sections_more : {mid : Output} {q r : ℕ} → Adds out (lines_of t (statements t) (statement_at t line 0) (left t (next_line t line))) mid
        → q ≡ next_line t line → Finds t (left t q) (left t (next_line t r)) r → Sections t o (onward t (left t) r) mid
    sections_more {q = q} w e f =
        let all = statements t in
        let later : left t (next_line t line) ≡ onward t (left t) _ = ap (left t) (sym e) ∙ found-onward t (left t) f in
        record {
          room = ap (roomy all) (sym later) ∙ roomy-later t all (statement_at t line 0) (left t (next_line t line)) sections-room;
          lists =
              adding_more l.lists
              (ap (legend_in t all) (onward-some t (left t) h)
              ∙ legend_step t all (statement_at t line 0) (left t (next_line t line))
              ∙ ap (λ (ss : List Statement). lines_of t all (statement_at t line 0) (left t (next_line t line)) ++ legend_in t all ss) later)
              w;
        }
