-- Laws of `specs/Counts.antt`: what is counted at a section, and of all that are left. Assumes nothing.
use Prim.Native.Nat.{ℕ, ◌+◌, ◌*◌, ◌<◌, ◌≤◌}
use native.Mathlib.Omega.{arith}
use native.Mathlib.Nat.{zero-add}
use mathlib.Core.Path.{◌≡◌, refl, sym, ap, ◌∙◌}
use mathlib.Core.Bool.{Bool, true, false, cond, ◌||◌}
use mathlib.Core.List.{List, [], ◌∷◌, map}
use lib.Dec.{leb}
use lib.ListN.{length, get_or, take, drop, length-map, drop_of_length-le}
use lib.Seq.{length-take-le}
use borrow.Author.Tests.{leb-true}
use Rattle.hl7.specs.Bytes.{all}
use Rattle.hl7.specs.Refusals.{Told, told, first_row}
use Rattle.hl7.proofs.Comparing.{and_both, all-at, rest_at}
use Rattle.grade.specs.declared.walk.Section.{Section}
use Rattle.grade.specs.Limits.{rule_limit, set_limit, section_limit}
use Rattle.grade.specs.Book.{decoded, malformed, other_version, code_set, rule_in}
use Rattle.grade.specs.Admission.{Indexed, indexed_told}
use Rattle.grade.specs.Standing.{stands_at, contents_at, site_at, Indexes}
use Rattle.grade.proofs.Readings.{row-length}
use Rattle.grade.proofs.Parts.{stands_parts}
use Rattle.grade.proofs.Indexing.{index_says, index_fits, index_stand}
use Rattle.book.specs.Counts.{sections_in, rule_total, set_total}
use Rattle.book.specs.Standing.{counts_of}
use Rattle.std.specs.Prelude.{Ok}

-- ---- one section: the counts that its bytes say are those of what it says
record Counted (b : List ℕ) (at : ℕ) : Type 0 where
  pub rules : (site_at b at).rule_count ≡ length (contents_at b at).rules
  pub sets : (site_at b at).set_count ≡ length (contents_at b at).sets
  pub few_rules : (site_at b at).rule_count ≤ rule_limit
  pub few_sets : (site_at b at).set_count ≤ set_limit

counted : (b : List ℕ) (at : ℕ) → stands_at b at ≡ true → Counted b at
counted b at h =
    let w = stands_parts b at h in
    let p = w.1 in
    let s = site_at b at in
    let few = and_both (leb s.rule_count rule_limit) (leb s.set_count set_limit) p.few in
    record {
      rules = sym (row-length (rule_in s.set_count) b s.rule_count s.rules_at (contents_at b at).rules s.sets_at p.rules_read);
      sets = sym (row-length code_set b s.set_count s.sets_at (contents_at b at).sets w.0 p.sets_read);
      few_rules = leb-true s.rule_count rule_limit few.0;
      few_sets = leb-true s.set_count set_limit few.1;
    }

-- ---- those that start at the positions
totals_few : (b starts : List ℕ) → all (stands_at b) starts ≡ true →
    (rule_total (map (contents_at b) starts) ≤ rule_limit * length starts) × (set_total (map (contents_at b) starts) ≤ set_limit * length starts)
unfolding all rule_total set_total
totals_few b [] h = (omega arith, omega arith)
totals_few b (at ∷ rest) h =
    let w = and_both (stands_at b at) (all (stands_at b) rest) h in
    let c = counted b at w.0 in
    let ih = totals_few b rest w.1 in
    (omega (arith, c.rules, c.few_rules, ih.0), omega (arith, c.sets, c.few_sets, ih.1))

-- what was added up, with what is left, is all
pub record Adding (b starts : List ℕ) (rules sets i : ℕ) : Type 0 where
  pub inside : i ≤ length starts
  pub ruled : rules + rule_total (map (contents_at b) (drop i starts)) ≡ rule_total (map (contents_at b) starts)
  pub held : sets + set_total (map (contents_at b) (drop i starts)) ≡ set_total (map (contents_at b) starts)

module _ (b starts : List ℕ) where
  pub adding_start : Adding b starts 0 0 0
  adding_start = record { inside = omega arith; ruled = rw zero-add; held = rw zero-add }

  module _ (stand : all (stands_at b) starts ≡ true) where
    pub adding_stands : (i : ℕ) → i < length starts → stands_at b (get_or starts i 0) ≡ true
    adding_stands i h = all-at (stands_at b) starts i stand h

    -- the section at number i, of which a site and a wider number of sets were made
    module _ {rules sets i n : ℕ} {s : Section} (a : Adding b starts rules sets i) (h : i < length starts) (is : s ≡ site_at b (get_or starts i 0)) (m : n ≡ s.set_count) where
      pub adding_more : Adding b starts (rules + s.rule_count) (sets + n) (i + 1)
      unfolding rule_total set_total
      adding_more =
          let c = counted b (get_or starts i 0) (adding_stands i h) in
          let r : s.rule_count ≡ length (contents_at b (get_or starts i 0)).rules = ap (λ (x : Section). x.rule_count) is ∙ c.rules in
          let t : n ≡ length (contents_at b (get_or starts i 0)).sets = m ∙ ap (λ (x : Section). x.set_count) is ∙ c.sets in
          let rules_left : rule_total (map (contents_at b) (drop i starts)) ≡ length (contents_at b (get_or starts i 0)).rules + rule_total (map (contents_at b) (drop (i + 1) starts)) =
          ap (λ (l : List ℕ). rule_total (map (contents_at b) l)) (rest_at starts i h) in
          let sets_left : set_total (map (contents_at b) (drop i starts)) ≡ length (contents_at b (get_or starts i 0)).sets + set_total (map (contents_at b) (drop (i + 1) starts)) =
          ap (λ (l : List ℕ). set_total (map (contents_at b) l)) (rest_at starts i h) in
          record { inside = omega arith; ruled = omega (arith, r, rules_left, a.ruled); held = omega (arith, t, sets_left, a.held) }

      -- so no sum is large
      pub adding_few : length starts ≤ section_limit → (rules + s.rule_count ≤ rule_limit * section_limit) × (sets + n ≤ set_limit * section_limit)
      adding_few few =
          let t = totals_few b starts stand in
          (omega (arith, t.0, adding_more.ruled), omega (arith, t.1, adding_more.held))

  pub adding_done : {rules sets i : ℕ} → Adding b starts rules sets i → length starts ≤ i → record { sections = length starts; rules = rules; sets = sets } ≡ counts_of (map (contents_at b) starts)
  unfolding rule_total set_total
  adding_done {rules} {sets} {i} a h =
      let over : drop i starts ≡ [] = drop_of_length-le starts h in
      let n : length starts ≡ length (map (contents_at b) starts) = sym (length-map starts (contents_at b)) in
      let r : rules ≡ rule_total (map (contents_at b) starts) = omega (arith, ap (λ (l : List ℕ). rule_total (map (contents_at b) l)) over, a.ruled) in
      let s : sets ≡ set_total (map (contents_at b) starts) = omega (arith, ap (λ (l : List ℕ). set_total (map (contents_at b) l)) over, a.held) in
      rw (n, r, s)

-- ---- a book, by what `index_book` answers
pub none-stand : (b : List ℕ) → (all (stands_at b) [] ≡ true) × (length {A = ℕ} [] ≤ section_limit)
unfolding all
none-stand b = (refl, omega arith)

module _ (b starts : List ℕ) {r : Indexed} (is : Indexes b starts r) where
  pub sections-none : {q : Indexed} → r ≡ q → ((indexed_told q).number ≡ 0 → ⊥) → sections_in b ≡ []
  unfolding sections_in first_row
  sections-none {q} at some = by (malformed b) (other_version b) (sym (ap (λ (x : Indexed). (indexed_told x).number) at) ∙ ap (λ (t : Told). t.number) is.told_is)
    where
      by : (m v : Bool) → (indexed_told q).number ≡ (cond m (told 7 0) (cond v (told 8 0) (told 0 0))).number → cond (m || v) [] (decoded b) ≡ []
      by true v e = refl
      by false true e = refl
      by false false e = absurd (some e)

  pub sections-listed : {count : ℕ} → r ≡ Ok count → sections_in b ≡ map (contents_at b) (take count starts)
  unfolding sections_in first_row
  sections-listed {count} of =
      by (malformed b) (other_version b) (sym (ap (λ (x : Indexed). (indexed_told x).number) of) ∙ ap (λ (t : Told). t.number) is.told_is)
      ∙ index_says b starts is of
    where
      by : (m v : Bool) → 0 ≡ (cond m (told 7 0) (cond v (told 8 0) (told 0 0))).number → cond (m || v) [] (decoded b) ≡ decoded b
      by true v e = absurd (omega arith)
      by false true e = absurd (omega arith)
      by false false e = refl

  pub listed-stand : {count : ℕ} → r ≡ Ok count → length starts ≤ section_limit → (all (stands_at b) (take count starts) ≡ true) × (length (take count starts) ≤ section_limit)
  listed-stand {count} of few = (index_stand b starts is of, omega (arith, index_fits b starts is of, length-take-le count starts (index_fits b starts is of)))
