-- Where no line speaks of a key, the sections with that key are alike. Assumes nothing.
use Rattle.std.specs.Prelude.{Some}
use mathlib.Core.Path.{◌≡◌, refl, sym, ap, ap₂, ◌∙◌}
use mathlib.Core.Bool.{Bool, true, false, cond, ◌&&◌, ◌||◌, true≢false}
use mathlib.Core.List.{List, [], ◌∷◌, ◌++◌, flat_map}
use mathlib.Core.Logic.{◌⊎◌, inl, inr, ⊎_elim}
use Prim.Native.Char.{code}
use Prim.Native.Nat.{ℕ, zero, suc, ◌+◌, ◌-◌, ◌*◌, ◌≤◌, ◌<◌}
use native.Mathlib.Decide.{dec_lt}
use native.Mathlib.Nat.{zero-add}
use native.Mathlib.Omega.{arith}
use lib.Dec.{eqb}
use lib.ListN.{length, get_or, take, length-map, get_or-eq_default}
use lib.Seq.{ext_get_or, get_or-take, length-take-le}
use borrow.Author.Tests.{eqb-true, eqb-false, not-true}
use Rattle.hl7.specs.Bytes.{same, among}
use Rattle.hl7.specs.Spans.{occurrences}
use Rattle.hl7.proofs.Comparing.{and_both, same_equal}
use Rattle.grade.specs.Book.{Contents}
use Rattle.grade.specs.Broken.{codes_of}
use Rattle.grade.specs.Encoding.{each, kind_byte}
use Rattle.grade.specs.Rule.{severity_letter, severity_of, kind_of, no_rule, rule_fits}
use Rattle.grade.specs.Strict.{count_from}
use Rattle.grade.specs.declared.rule.Kind.{Kind}
use Rattle.grade.specs.declared.rule.Place.{Place}
use Rattle.grade.specs.declared.rule.Rule.{Rule}
use Rattle.grade.specs.declared.rule.Severity.{Severity}
use Rattle.grade.proofs.Holding.{PlaceFits, place_limits}
use Rattle.canonical.specs.Shown.{rule_spot}
use Rattle.canonical.proofs.Showable.{high_said, is_shown, Fits}
use Rattle.difference.specs.Difference.{Lines, spots, numbered, counterpart, low_of, high_of, same_numbers, all_among, same_codes, whole_line, unless, severity_lines, number_lines, code_lines, changes, rule_at, codes_for, old_by, old_lines, new_lines, section_lines}
use Rattle.difference.proofs.Alike.{blank, RuleAlike, Alike}

-- ---- nothing printed
nothing_both : (xs ys : Lines) → xs ++ ys ≡ [] → (xs ≡ []) × (ys ≡ [])
nothing_both [] ys e = (refl, e)
nothing_both (x ∷ xs) ys e = absurd (omega (arith, ap length e))

unless-none : (test : Bool) (line : List (List ℕ)) → unless test line ≡ [] → test ≡ true
unless-none true line e = refl
unless-none false line e = absurd (omega (arith, ap length e))

count_none : (f : ℕ → Lines) (i n : ℕ) → flat_map f (count_from i n) ≡ [] → (k : ℕ) → k < n → f (i + k) ≡ []
unfolding flat_map count_from
count_none f i zero e k h = absurd (omega arith)
count_none f i (suc n) e zero h = let here : i + 0 ≡ i = omega arith in ap f here ∙ (nothing_both (f i) (flat_map f (count_from (suc i) n)) e).0
count_none f i (suc n) e (suc k) h =
    let there : i + suc k ≡ suc i + k = omega arith in
    ap f there ∙ count_none f (suc i) n (nothing_both (f i) (flat_map f (count_from (suc i) n)) e).1 k (omega arith)

each_none : (f : ℕ → Lines) (n : ℕ) → flat_map f (count_from 0 n) ≡ [] → (k : ℕ) → k < n → f k ≡ []
each_none f n e k h = ap f (sym (zero-add k)) ∙ count_none f 0 n e k h

-- ---- numbers
-- none, or from n on
pub numbered_from_lem : (n spot k : ℕ) (l : List ℕ) → (numbered n spot k l ≡ 0) ⊎ (n ≤ numbered n spot k l)
unfolding numbered
numbered_from_lem n spot k [] = inl refl
numbered_from_lem n spot k (x ∷ l) = by (eqb x spot && eqb k 0) (numbered_from_lem (suc n) spot (k - cond (eqb x spot) 1 0) l)
  where
    rest : ℕ
    rest = numbered (suc n) spot (k - cond (eqb x spot) 1 0) l

    by : (t : Bool) → (rest ≡ 0) ⊎ (suc n ≤ rest) → (cond t n rest ≡ 0) ⊎ (n ≤ cond t n rest)
    by true ih = inr (omega arith)
    by false ih = ⊎_elim (λ e. inl e) (λ h. inr (omega (arith, h))) ih

-- the one with a number is the spot
pub numbered_is : (n spot k : ℕ) (l : List ℕ) (j : ℕ) → 1 ≤ n → numbered n spot k l ≡ n + j → (j < length l) × (get_or l j 0 ≡ spot)
unfolding numbered
numbered_is n spot k [] j some e = absurd (omega arith)
numbered_is n spot k (x ∷ l) j some e = by (eqb x spot && eqb k 0) refl j e (λ (i : ℕ) f. numbered_is (suc n) spot (k - cond (eqb x spot) 1 0) l i (omega arith) f)
  where
    rest : ℕ
    rest = numbered (suc n) spot (k - cond (eqb x spot) 1 0) l

    by : (t : Bool) → (eqb x spot && eqb k 0) ≡ t → (j : ℕ) → cond t n rest ≡ n + j → ((i : ℕ) → rest ≡ suc n + i → (i < length l) × (get_or l i 0 ≡ spot)) → (j < suc (length l)) × (get_or (x ∷ l) j 0 ≡ spot)
    by true f zero e ih = (omega arith, eqb-true x spot (and_both (eqb x spot) (eqb k 0) f).0)
    by true f (suc j) e ih = absurd (omega arith)
    by false f zero e ih = absurd (⊎_elim (λ z. omega (arith, z)) (λ h. omega (arith, h)) (numbered_from_lem (suc n) spot (k - cond (eqb x spot) 1 0) l))
    by false f (suc j) e ih = let w = ih j (omega (arith, e)) in (omega (arith, w.0), w.1)

-- so many are before it
numbered_many : (n spot k : ℕ) (l : List ℕ) → (numbered n spot k l ≡ 0 → ⊥) → k < occurrences spot l
unfolding numbered occurrences
numbered_many n spot k [] some = absurd (some refl)
numbered_many n spot k (x ∷ l) some = by (eqb x spot) (eqb k 0) refl (numbered_many (suc n) spot k l) (numbered_many (suc n) spot (k - 1) l) some
  where
    by : (here first : Bool) → eqb k 0 ≡ first → ((numbered (suc n) spot k l ≡ 0 → ⊥) → k < occurrences spot l) → ((numbered (suc n) spot (k - 1) l ≡ 0 → ⊥) → k - 1 < occurrences spot l)
        → (cond (here && first) n (numbered (suc n) spot (k - cond here 1 0) l) ≡ 0 → ⊥) → k < cond here 1 0 + occurrences spot l
    by true true f same less some = omega (arith, eqb-true k 0 f)
    by true false f same less some = let h = less some in omega (arith, h)
    by false first f same less some = let kept : k - 0 ≡ k = omega arith in let h = same (λ z. some (ap (λ (x : ℕ). numbered (suc n) spot x l) kept ∙ z)) in omega (arith, h)

-- ---- spots
spot-at : (rules : List Rule) (i : ℕ) → i < length rules → get_or (spots rules) i 0 ≡ rule_spot (get_or rules i no_rule)
spot-at [] i h = absurd (omega arith)
spot-at (r ∷ rules) zero h = refl
spot-at (r ∷ rules) (suc i) h = spot-at rules i (omega arith)

seven : (q r p s : ℕ) → r < 7 → s < 7 → q * 7 + r ≡ p * 7 + s → (q ≡ p) × (r ≡ s)
seven q r p s h k e = (omega arith, omega arith)

twenty_one : (q r p s : ℕ) → r < 21 → s < 21 → q * 21 + r ≡ p * 21 + s → (q ≡ p) × (r ≡ s)
twenty_one q r p s h k e = (omega arith, omega arith)

hundred : (q r p s : ℕ) → r < 100 → s < 100 → q * 100 + r ≡ p * 100 + s → (q ≡ p) × (r ≡ s)
hundred q r p s h k e = (omega arith, omega arith)

kind_few : (k : Kind) → kind_byte k < 7
kind_few Kind.Required = omega arith
kind_few (Kind.Length low high) = omega arith
kind_few Kind.Number = omega arith
kind_few Kind.Date = omega arith
kind_few (Kind.Time digits) = omega arith
kind_few (Kind.Code set) = omega arith

-- they tell place and kind apart
spot_once : (r s : Rule) → PlaceFits r.place → PlaceFits s.place → rule_spot r ≡ rule_spot s → (r.place ≡ s.place) × (kind_byte r.kind ≡ kind_byte s.kind)
spot_once r s f g e =
    let p = r.place in
    let q = s.place in
    let a = seven ((p.segment * 100 + p.field) * 21 + p.component) (kind_byte r.kind) ((q.segment * 100 + q.field) * 21 + q.component) (kind_byte s.kind) (kind_few r.kind) (kind_few s.kind) e in
    let b = twenty_one (p.segment * 100 + p.field) p.component (q.segment * 100 + q.field) q.component (omega (arith, f.component)) (omega (arith, g.component)) a.0 in
    let c = hundred p.segment p.field q.segment q.field (omega (arith, f.last)) (omega (arith, g.last)) b.0 in
    (places c.0 c.1 b.1, a.1)
  where
    places : {p q : Place} → p.segment ≡ q.segment → p.field ≡ q.field → p.component ≡ q.component → p ≡ q
    places x y z i = record { segment = x i; field = y i; component = z i }

-- ---- what is not printed of a rule is the same
severity_once : (a b : Severity) → severity_letter a ≡ severity_letter b → a ≡ b
unfolding severity_of
severity_once a b e = let both : Some a ≡ Some b = sym (back a) ∙ ap severity_of e ∙ back b in cc
  where
    back : (s : Severity) → severity_of (severity_letter s) ≡ Some s
    back Severity.Error = refl
    back Severity.Warning = refl
    back Severity.Informational = refl

kind_once : (k l : Kind) → kind_byte k ≡ kind_byte l → same_numbers k l ≡ true → blank k ≡ blank l
unfolding kind_of
kind_once k l e f =
    let numbers = and_both (eqb (low_of k) (low_of l)) (eqb (high_of k) (high_of l)) f in
    let low = eqb-true (low_of k) (low_of l) numbers.0 in
    let high = eqb-true (high_of k) (high_of l) numbers.1 in
    let both : Some (blank k) ≡ Some (blank l) = sym (back k) ∙ ap₂ (λ (n low : ℕ). kind_of n 0 low (high_of k)) e low ∙ ap (kind_of (kind_byte l) 0 (low_of l)) high ∙ back l in
    cc
  where
    back : (k : Kind) → kind_of (kind_byte k) 0 (low_of k) (high_of k) ≡ Some (blank k)
    back Kind.Required = refl
    back (Kind.Length low high) = refl
    back Kind.Number = refl
    back Kind.Date = refl
    back (Kind.Time digits) = refl
    back (Kind.Code set) = refl

among-all : (v : List ℕ) (cs ds : List (List ℕ)) → all_among cs ds ≡ true → among v cs ≡ true → among v ds ≡ true
unfolding all_among among
among-all v [] ds e f = absurd (true≢false (sym f))
among-all v (c ∷ cs) ds e f =
    let both = and_both (among c ds) (all_among cs ds) e in
    by (same v c) refl f both.0 (among-all v cs ds both.1)
  where
    by : (t : Bool) → same v c ≡ t → (t || among v cs) ≡ true → among c ds ≡ true → (among v cs ≡ true → among v ds ≡ true) → among v ds ≡ true
    by true is f here ih = ap (λ (x : List ℕ). among x ds) (same_equal v c is) ∙ here
    by false is f here ih = ih f

codes_once : (cs ds : List (List ℕ)) → same_codes cs ds ≡ true → (v : List ℕ) → among v cs ≡ among v ds
codes_once cs ds e v =
    let both = and_both (all_among cs ds) (all_among ds cs) e in
    by (among v cs) (among v ds) (among-all v cs ds both.0) (among-all v ds cs both.1)
  where
    by : (a b : Bool) → (a ≡ true → b ≡ true) → (b ≡ true → a ≡ true) → a ≡ b
    by true b f g = sym (f refl)
    by false true f g = g refl
    by false false f g = refl

-- ---- two sections of which nothing is printed
rule_fits_lem : (sets : ℕ) (rules : List Rule) (i : ℕ) → each (is_shown sets) rules ≡ true → i < length rules → PlaceFits (get_or rules i no_rule).place
rule_fits_lem sets [] i e h = absurd (omega arith)
rule_fits_lem sets (r ∷ rules) zero e h = place_limits sets r (and_both (rule_fits sets r) (high_said r.kind) (and_both (is_shown sets r) (each (is_shown sets) rules) e).0).0
rule_fits_lem sets (r ∷ rules) (suc i) e h = rule_fits_lem sets rules i (and_both (is_shown sets r) (each (is_shown sets) rules) e).1 (omega arith)

module _ (c d : Contents) (fit : Fits c) (fits : Fits d) (silent : section_lines c d ≡ []) where
  both : (flat_map (old_lines c d) (count_from 0 (length c.rules)) ≡ []) × (flat_map (new_lines c.key (spots c.rules) d) (count_from 0 (length d.rules)) ≡ [])
  unfolding section_lines
  both = nothing_both (flat_map (old_lines c d) (count_from 0 (length c.rules))) _ silent

  record Kept (i : ℕ) : Type 0 where
    pub number : counterpart (spots c.rules) (spots d.rules) i ≡ 1 + i
    pub severity : eqb (severity_letter (rule_at c i).severity) (severity_letter (rule_at d i).severity) ≡ true
    pub numbers : same_numbers (rule_at c i).kind (rule_at d i).kind ≡ true
    pub codes : same_codes (codes_for c i) (codes_for d i) ≡ true

  kept : (i : ℕ) → i < length c.rules → Kept i
  unfolding old_lines changes
  kept i h = by (counterpart (spots c.rules) (spots d.rules) i) refl (each_none (old_lines c d) (length c.rules) both.0 i h)
    where
      all_none : (m : ℕ) → changes c.key (suc i) m (rule_at c i) (rule_at d (m - 1)) (codes_for c i) (codes_for d (m - 1)) ≡ [] → counterpart (spots c.rules) (spots d.rules) i ≡ m → Kept i
      all_none m e is =
          let r = rule_at c i in
          let s = rule_at d (m - 1) in
          let x = nothing_both (severity_lines c.key (suc i) r s) _ e in
          let y = nothing_both (number_lines c.key (suc i) r s) _ x.1 in
          let z = nothing_both (code_lines c.key (suc i) r (codes_for c i) (codes_for d (m - 1))) _ y.1 in
          let same_number : m ≡ suc i = sym (eqb-true (suc i) m (unless-none (eqb (suc i) m) _ z.1)) in
          let there : m - 1 ≡ i = omega (arith, same_number) in
          record {
            number = omega (arith, is, same_number);
            severity = ap (λ (n : ℕ). eqb (severity_letter r.severity) (severity_letter (rule_at d n).severity)) (sym there) ∙ unless-none _ _ x.0;
            numbers = ap (λ (n : ℕ). same_numbers r.kind (rule_at d n).kind) (sym there) ∙ unless-none _ _ y.0;
            codes = ap (λ (n : ℕ). same_codes (codes_for c i) (codes_for d n)) (sym there) ∙ unless-none _ _ z.0;
          }

      by : (m : ℕ) → counterpart (spots c.rules) (spots d.rules) i ≡ m → old_by c d i m ≡ [] → Kept i
      by m is e = go (eqb m 0) refl e
        where
          go : (t : Bool) → eqb m 0 ≡ t → cond t (whole_line c.key (code "-") (suc i) (rule_at c i) (codes_for c i) ∷ []) (changes c.key (suc i) m (rule_at c i) (rule_at d (m - 1)) (codes_for c i) (codes_for d (m - 1))) ≡ [] → Kept i
          go true f e = absurd (omega (arith, ap length e))
          go false f e = all_none m e is

  -- so each rule has the number of its counterpart
  there : (i : ℕ) → i < length c.rules → (i < length d.rules) × (get_or (spots d.rules) i 0 ≡ get_or (spots c.rules) i 0)
  unfolding counterpart
  there i h =
      let own = get_or (spots c.rules) i 0 in
      let w = numbered_is 1 own (occurrences own (take i (spots c.rules))) (spots d.rules) i (omega arith) (kept i h).number in
      (omega (arith, w.0, length-map d.rules rule_spot), w.1)

  -- a further rule of the new section would have no counterpart
  no_more : length c.rules < length d.rules → ⊥
  unfolding new_lines counterpart
  no_more h =
      let n = length c.rules in
      let olds = spots c.rules in
      let news = spots d.rules in
      let many = length-map c.rules rule_spot in
      let front : take n news ≡ olds =
      ext_get_or 0 (take n news) olds
      (length-take-le n news (omega (arith, length-map d.rules rule_spot)) ∙ sym many)
      (λ i k. let l : i < n = omega (arith, k, length-take-le n news (omega (arith, length-map d.rules rule_spot))) in get_or-take n news i 0 l ∙ (there i l).1) in
      let spot = get_or news n 0 in
      let known = unless-none _ _ (each_none (new_lines c.key olds d) (length d.rules) both.1 n h) in
      let more = numbered_many 1 spot (occurrences spot (take n news)) olds (eqb-false _ 0 (not-true _ known)) in
      omega (arith, more, ap (occurrences spot) front)

  as_many : length c.rules ≡ length d.rules
  as_many = by (length c.rules) refl
    where
      by : (n : ℕ) → length c.rules ≡ n → length c.rules ≡ length d.rules
      by zero e = omega (arith, no_more, e)
      by (suc n) e = omega (arith, no_more, e, (there n (omega (arith, e))).0)

  pub alike : Alike c d
  alike = record { many = as_many; rules = λ i. by i (dec_lt i (length c.rules)) }
    where
      by : (i : ℕ) → Dec (i < length c.rules) → RuleAlike c d i
      by i (yes h) =
          let k = (there i h).0 in
          let spot = sym (spot-at c.rules i h) ∙ sym (there i h).1 ∙ spot-at d.rules i k in
          let w = spot_once (rule_at c i) (rule_at d i) (rule_fits_lem (length c.sets) c.rules i fit.rules h) (rule_fits_lem (length d.sets) d.rules i fits.rules k) spot in
          record {
            place = w.0;
            severity = severity_once (rule_at c i).severity (rule_at d i).severity (eqb-true (severity_letter (rule_at c i).severity) (severity_letter (rule_at d i).severity) (kept i h).severity);
            kind = kind_once (rule_at c i).kind (rule_at d i).kind w.1 (kept i h).numbers;
            codes = codes_once (codes_for c i) (codes_for d i) (kept i h).codes;
          }
      by i (no h) =
          let past : rule_at c i ≡ no_rule = get_or-eq_default c.rules no_rule (omega (arith, h)) in
          let gone : rule_at d i ≡ no_rule = get_or-eq_default d.rules no_rule (omega (arith, h, as_many)) in
          record {
            place = ap (λ (r : Rule). r.place) (past ∙ sym gone);
            severity = ap (λ (r : Rule). r.severity) (past ∙ sym gone);
            kind = ap (λ (r : Rule). blank r.kind) (past ∙ sym gone);
            codes = λ v. ap (λ (r : Rule). among v (codes_of c.sets r.kind)) past ∙ sym (ap (λ (r : Rule). among v (codes_of d.sets r.kind)) gone);
          }
