-- Laws of writing what became of sections: of their rules, one after the other, and of the sections of two books. Assumes nothing.
use mathlib.Core.Path.{◌≡◌, refl, sym, ap, ap₂, ◌∙◌}
use mathlib.Core.Bool.{Bool, true, false, cond, not, ◌||◌}
use mathlib.Core.List.{List, [], ◌∷◌, ◌++◌, map, flat_map, append-nil}
use Prim.Native.Char.{code}
use Prim.Native.Nat.{ℕ, suc, ◌+◌, ◌-◌, ◌≤◌, ◌<◌}
use native.Mathlib.Numerals.{add-one}
use native.Mathlib.Omega.{arith}
use lib.ListN.{length, get_or, drop, length-map}
use borrow.Author.Tests.{eq-eqb, ne_eqb}
use Rattle.hl7.specs.Text.{bytes}
use Rattle.hl7.specs.Bytes.{all, same, among}
use Rattle.hl7.proofs.Comparing.{and_both, same_equal, from_step, from_done}
use Rattle.grade.specs.Book.{Contents, keys, under}
use Rattle.grade.specs.Standing.{text_at, stands_at, contents_at, site_at, rules_in, sets_in, Holds}
use Rattle.grade.specs.Strict.{count_from}
use Rattle.grade.specs.declared.walk.Section.{Section}
use Rattle.grade.proofs.Holding.{rules-length}
use Rattle.grade.proofs.Parts.{stands-key, keys_texts}
use Rattle.ack.specs.Output.{Adds}
use Rattle.ack.specs.declared.output.Output.{Output}
use Rattle.ack.proofs.Adding.{adds_as, ◌next◌}
use Rattle.canonical.specs.Shown.{line_bytes, printed, rule_spot}
use Rattle.canonical.proofs.Printing.{printed_both}
use Rattle.canonical.proofs.PutBook.{itself}
use Rattle.difference.specs.Difference.{Lines, spots, counterpart, whole_line, changes, old_by, old_lines, new_lines, section_lines, lone_line, against_first, old_section, new_section, differences}
use Rattle.difference.specs.Ruled.{codes_in, Rules, held_by, key_place}
use Rattle.difference.specs.declared.ruled.Ruled.{Ruled}
use Rattle.difference.proofs.Lining.{unless-skipped, unless-written}

one_printed : (line : List (List ℕ)) → line_bytes line ≡ printed (line ∷ [])
unfolding printed
one_printed line = sym (append-nil (line_bytes line))

-- ---- rules by number, one after the other
module _ (f : ℕ → Lines) (n : ℕ) where
  -- the lines of those from i on
  abbrev pub lines_left : ℕ → List ℕ
  lines_left i = printed (flat_map f (count_from i (n - i)))

  pub lines-all : lines_left 0 ≡ printed (flat_map f (count_from 0 n))
  lines-all = let all : n - 0 ≡ n = omega arith in ap (λ (k : ℕ). printed (flat_map f (count_from 0 k))) all

  pub lines_more : (i : ℕ) → i < n → lines_left i ≡ printed (f i) ++ lines_left (i + 1)
  unfolding flat_map count_from
  lines_more i h =
      let some : n - i ≡ suc (n - (i + 1)) = omega arith in
      ap (λ (k : ℕ). printed (flat_map f (count_from i k))) some
      ∙ printed_both (f i) (flat_map f (count_from (suc i) (n - (i + 1))))
      ∙ ap (λ (k : ℕ). printed (f i) ++ printed (flat_map f (count_from k (n - (i + 1))))) (sym (add-one i))

  pub lines-over : (i : ℕ) → n ≤ i → lines_left i ≡ []
  unfolding flat_map count_from printed
  lines-over i h = let none : n - i ≡ 0 = omega arith in ap (λ (k : ℕ). printed (flat_map f (count_from i k))) none

-- as many spots as rules
pub spots_length : (b : List ℕ) (s : Section) → Holds b s → length (spots (rules_in b s)) ≡ s.rule_count
spots_length b s h = length-map (rules_in b s) rule_spot ∙ rules-length b s h

-- ---- a rule of the old section
module _ (key old : List ℕ) (a : Section) (new : List ℕ) (b : Section) (i : ℕ) {r : Ruled} (is : Rules (rules_in old a) (sets_in old a) i r) where
  abbrev c : Contents
  c = held_by key old a

  abbrev d : Contents
  d = held_by key new b

  by_number : {m : ℕ} → m ≡ counterpart (spots (rules_in old a)) (spots (rules_in new b)) i → old_by c d i m ≡ old_lines c d i
  unfolding old_lines
  by_number e = ap (old_by c d i) e

  pub old_gone : 0 ≡ counterpart (spots (rules_in old a)) (spots (rules_in new b)) i → {o p : Output} → Adds o (line_bytes (whole_line key (code "-") (i + 1) r.rule (codes_in r))) p → Adds o (printed (old_lines c d i)) p
  old_gone e w = adds_as w (sym whole ∙ ap printed (by_number e))
    where
      whole : printed (old_by c d i 0) ≡ line_bytes (whole_line key (code "-") (i + 1) r.rule (codes_in r))
      whole = rw (is.is, is.codes, add-one i) (sym (one_printed _))

  pub old_changed : {m : ℕ} → suc m ≡ counterpart (spots (rules_in old a)) (spots (rules_in new b)) i → {s : Ruled} → Rules (rules_in new b) (sets_in new b) m s → {o p : Output}
      → Adds o (printed (changes key (i + 1) (m + 1) r.rule s.rule (codes_in r) (codes_in s))) p → Adds o (printed (old_lines c d i)) p
  old_changed {m} e {s} its w = adds_as w (sym changed ∙ ap printed (by_number e))
    where
      changed : printed (old_by c d i (suc m)) ≡ printed (changes key (i + 1) (m + 1) r.rule s.rule (codes_in r) (codes_in s))
      changed = let less : suc m - 1 ≡ m = omega arith in rw (ne_eqb (suc m) 0 (λ z. omega (arith, z)), less, is.is, is.codes, its.is, its.codes, add-one i, add-one m)

-- ---- a rule of the new section
module _ (key own new : List ℕ) (b : Section) (i : ℕ) where
  pub new_known : {m : ℕ} → suc m ≡ counterpart (spots (rules_in new b)) own i → [] ≡ printed (new_lines key own (held_by key new b) i)
  unfolding new_lines
  new_known {m} e = unless-skipped _ (ap not (ne_eqb _ 0 (λ z. omega (arith, e, z))))

  pub new_come : 0 ≡ counterpart (spots (rules_in new b)) own i → {r : Ruled} → Rules (rules_in new b) (sets_in new b) i r → {o p : Output}
      → Adds o (line_bytes (whole_line key (code "+") (i + 1) r.rule (codes_in r))) p → Adds o (printed (new_lines key own (held_by key new b) i)) p
  unfolding new_lines
  new_come none {r} is w = unless-written _ (ap not (eq-eqb _ 0 (sym none))) (adds_as w (rw (is.is, is.codes, add-one i)))

-- ---- both sections
pub both_written : (key old : List ℕ) (a : Section) (new : List ℕ) (b : Section) → Holds old a → Holds new b → {o p q : Output}
    → Adds o (printed (flat_map (old_lines (held_by key old a) (held_by key new b)) (count_from 0 a.rule_count))) p
    → Adds p (printed (flat_map (new_lines key (spots (rules_in old a)) (held_by key new b)) (count_from 0 b.rule_count))) q
    → Adds o (printed (section_lines (held_by key old a) (held_by key new b))) q
unfolding section_lines
both_written key old a new b h k u v =
    let c = held_by key old a in
    let d = held_by key new b in
    let olds = ap (λ (n : ℕ). flat_map (old_lines c d) (count_from 0 n)) (sym (rules-length old a h)) in
    let news = ap (λ (n : ℕ). flat_map (new_lines key (spots (rules_in old a)) d) (count_from 0 n)) (sym (rules-length new b k)) in
    adds_as (u next v) (ap₂ (λ (x y : Lines). printed x ++ printed y) olds news ∙ sym (printed_both _ _))

-- ---- a key among those of sections
module _ (f : ℕ → List ℕ) (l : List ℕ) (i : ℕ) (key : List ℕ) where
  pub place-over : length l ≤ i → key_place key (map f (drop i l)) ≡ 0
  unfolding key_place
  place-over h = ap (key_place key) (from_done f l i h)

  module _ (h : i < length l) where
    pub place_stop : same key (f (get_or l i 0)) ≡ true → key_place key (map f (drop i l)) ≡ 0
    unfolding key_place
    place_stop e = rw (from_step f l i h, e)

    pub place_more : same key (f (get_or l i 0)) ≡ false → key_place key (map f (drop i l)) ≡ suc (key_place key (map f (drop (i + 1) l)))
    unfolding key_place
    place_more e = rw (from_step f l i h, e)

module _ (b key : List ℕ) where
  -- the section with it is the first of those under it
  found-under : (starts : List ℕ) → all (stands_at b) starts ≡ true → key_place key (map (text_at b) starts) < length starts
      → (rest : List Contents) × (under key (map (contents_at b) starts) ≡ contents_at b (get_or starts (key_place key (map (text_at b) starts)) 0) ∷ rest)
      × (key ≡ text_at b (get_or starts (key_place key (map (text_at b) starts)) 0))
  unfolding all under key_place
  found-under [] stand h = absurd (omega arith)
  found-under (at ∷ starts) stand h =
      let both = and_both (stands_at b at) (all (stands_at b) starts) stand in
      by (same key (text_at b at)) refl (ap (same key) (stands-key b at both.0).1) h (found-under starts both.1)
    where
      place : ℕ
      place = key_place key (map (text_at b) starts)

      by : (t : Bool) → same key (text_at b at) ≡ t → same key (contents_at b at).key ≡ same key (text_at b at) → cond t 0 (suc place) < suc (length starts)
          → (place < length starts → (rest : List Contents) × (under key (map (contents_at b) starts) ≡ contents_at b (get_or starts place 0) ∷ rest) × (key ≡ text_at b (get_or starts place 0)))
          → (rest : List Contents) × (cond (same key (contents_at b at).key) (contents_at b at ∷ under key (map (contents_at b) starts)) (under key (map (contents_at b) starts)) ≡ contents_at b (get_or (at ∷ starts) (cond t 0 (suc place)) 0) ∷ rest)
          × (key ≡ text_at b (get_or (at ∷ starts) (cond t 0 (suc place)) 0))
      by true e f h ih = (under key (map (contents_at b) starts), rw (f, e), same_equal key (text_at b at) e)
      by false e f h ih = let w = ih (omega arith) in (w.0, rw (f, e) w.1, w.2)

  none-under : (starts : List ℕ) → all (stands_at b) starts ≡ true → length starts ≤ key_place key (map (text_at b) starts) → under key (map (contents_at b) starts) ≡ []
  unfolding all under key_place
  none-under [] stand h = refl
  none-under (at ∷ starts) stand h =
      let both = and_both (stands_at b at) (all (stands_at b) starts) stand in
      by (same key (text_at b at)) (ap (same key) (stands-key b at both.0).1) h (none-under starts both.1)
    where
      place : ℕ
      place = key_place key (map (text_at b) starts)

      by : (t : Bool) → same key (contents_at b at).key ≡ t → suc (length starts) ≤ cond t 0 (suc place) → (length starts ≤ place → under key (map (contents_at b) starts) ≡ [])
          → cond (same key (contents_at b at).key) (contents_at b at ∷ under key (map (contents_at b) starts)) (under key (map (contents_at b) starts)) ≡ []
      by true e h ih = absurd (omega arith)
      by false e h ih = rw e (ih (omega arith))

  -- and tells whether it is among their keys
  texts_among : (texts : List (List ℕ)) → key_place key texts < length texts → among key texts ≡ true
  unfolding among key_place
  texts_among [] h = absurd (omega arith)
  texts_among (t ∷ texts) h = by (same key t) h (texts_among texts)
    where
      by : (x : Bool) → cond x 0 (suc (key_place key texts)) < suc (length texts) → (key_place key texts < length texts → among key texts ≡ true) → (x || among key texts) ≡ true
      by true h ih = refl
      by false h ih = ih (omega arith)

  texts_without : (texts : List (List ℕ)) → length texts ≤ key_place key texts → among key texts ≡ false
  unfolding among key_place
  texts_without [] h = refl
  texts_without (t ∷ texts) h = by (same key t) h (texts_without texts)
    where
      by : (x : Bool) → suc (length texts) ≤ cond x 0 (suc (key_place key texts)) → (length texts ≤ key_place key texts → among key texts ≡ false) → (x || among key texts) ≡ false
      by true h ih = absurd (omega arith)
      by false h ih = ih (omega arith)

-- ---- a section, by where it stands
module _ (b : List ℕ) (start : ℕ) (stands : stands_at b start ≡ true) {s : Section} (is : s ≡ site_at b start) where
  section-held : {key : List ℕ} → key ≡ text_at b start → held_by key b s ≡ contents_at b start
  section-held e = let is_held_lem = itself b start stands is in rw (e, ← (stands-key b start stands).1, ← is_held_lem.0, ← is_held_lem.1)

module _ (old : List ℕ) (start : ℕ) (stands : stands_at old start ≡ true) (new news : List ℕ) (all-stand : all (stands_at new) news ≡ true) {key : List ℕ} (named : key ≡ text_at old start) {i : ℕ} (e : i ≡ key_place key (map (text_at new) news)) where
  abbrev olden : Contents
  olden = contents_at old start

  abbrev others : List Contents
  others = map (contents_at new) news

  key-is : key ≡ olden.key
  key-is = named ∙ sym (stands-key old start stands).1

  pub section_both : i < length news → {a b : Section} → a ≡ site_at old start → b ≡ site_at new (get_or news i 0) → stands_at new (get_or news i 0) ≡ true → {o p : Output}
      → Adds o (printed (section_lines (held_by key old a) (held_by key new b))) p → Adds o (printed (old_section others olden)) p
  unfolding old_section
  section_both h {a} {b} is was there w =
      let first = found-under new key news all-stand (omega (arith, e)) in
      let at = get_or news i 0 in
      let here : under key others ≡ contents_at new at ∷ first.0 = first.1 ∙ ap (λ (n : ℕ). contents_at new (get_or news n 0) ∷ first.0) (sym e) in
      let alike : key ≡ text_at new at = first.2 ∙ ap (λ (n : ℕ). text_at new (get_or news n 0)) (sym e) in
      adds_as w
      (ap₂ (λ (x y : Contents). printed (section_lines x y)) (section-held old start stands is named) (section-held new at there was alike)
      ∙ sym (ap (λ (k : List ℕ). printed (against_first olden (under k others))) (sym key-is) ∙ ap (λ (l : List Contents). printed (against_first olden l)) here))

  pub section_lone : length news ≤ i → {o p : Output} → Adds o (line_bytes ((code "-" ∷ []) ∷ bytes "section" ∷ key ∷ [])) p → Adds o (printed (old_section others olden)) p
  unfolding old_section
  section_lone h w =
      let none = none-under new key news all-stand (omega (arith, e)) in
      adds_as w
      (ap (λ (k : List ℕ). line_bytes ((code "-" ∷ []) ∷ bytes "section" ∷ k ∷ [])) key-is
      ∙ one_printed (lone_line (code "-") olden)
      ∙ sym (ap (λ (k : List ℕ). printed (against_first olden (under k others))) (sym key-is) ∙ ap (λ (l : List Contents). printed (against_first olden l)) none))

module _ (old olds : List ℕ) (all-stand : all (stands_at old) olds ≡ true) (new : List ℕ) (start : ℕ) (stands : stands_at new start ≡ true) {key : List ℕ} (named : key ≡ text_at new start) {i : ℕ} (e : i ≡ key_place key (map (text_at old) olds)) where
  abbrev newer : Contents
  newer = contents_at new start

  abbrev before : List Contents
  before = map (contents_at old) olds

  among-is : {t : Bool} → among key (map (text_at old) olds) ≡ t → among newer.key (keys before) ≡ t
  among-is f = ap₂ among ((stands-key new start stands).1 ∙ sym named) (keys_texts old olds all-stand) ∙ f

  texts_many : length (map (text_at old) olds) ≡ length olds
  texts_many = length-map olds (text_at old)

  pub section-known : i < length olds → [] ≡ printed (new_section before newer)
  unfolding new_section
  section-known h = unless-skipped _ (among-is (texts_among old key (map (text_at old) olds) (omega (arith, e, texts_many))))

  pub section_come : length olds ≤ i → {o p : Output} → Adds o (line_bytes ((code "+" ∷ []) ∷ bytes "section" ∷ key ∷ [])) p → Adds o (printed (new_section before newer)) p
  unfolding new_section
  section_come h w =
      unless-written _ (among-is (texts_without old key (map (text_at old) olds) (omega (arith, e, texts_many))))
      (adds_as w (ap (λ (k : List ℕ). line_bytes ((code "+" ∷ []) ∷ bytes "section" ∷ k ∷ [])) (named ∙ sym (stands-key new start stands).1)))

-- ---- sections, one after the other
module _ (f : Contents → Lines) (b starts : List ℕ) where
  -- those from i on
  abbrev pub sections_left : ℕ → List ℕ
  sections_left i = printed (flat_map f (map (contents_at b) (drop i starts)))

  pub sections_more : (i : ℕ) → i < length starts → sections_left i ≡ printed (f (contents_at b (get_or starts i 0))) ++ sections_left (i + 1)
  unfolding flat_map
  sections_more i h =
      ap (λ (cs : List Contents). printed (flat_map f cs)) (from_step (contents_at b) starts i h)
      ∙ printed_both (f (contents_at b (get_or starts i 0))) (flat_map f (map (contents_at b) (drop (i + 1) starts)))

  pub sections-over : (i : ℕ) → length starts ≤ i → sections_left i ≡ []
  unfolding flat_map printed
  sections-over i h = ap (λ (cs : List Contents). printed (flat_map f cs)) (from_done (contents_at b) starts i h)

pub books_written : (olds news : List Contents) {o p q : Output} → Adds o (printed (flat_map (old_section news) olds)) p → Adds p (printed (flat_map (new_section olds) news)) q
    → Adds o (printed (differences olds news)) q
unfolding differences
books_written olds news u v = adds_as (u next v) (sym (printed_both (flat_map (old_section news) olds) (flat_map (new_section olds) news)))
