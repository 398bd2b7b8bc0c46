-- Lines that speak of a key: those of its section do, so that where none does nothing became of it. Assumes nothing.
use mathlib.Core.Path.{◌≡◌, refl, sym, ap, ap₂, ◌∙◌}
use mathlib.Core.Bool.{Bool, true, false, cond, not, ◌&&◌, ◌||◌, true≢false}
use mathlib.Core.List.{List, [], ◌∷◌, ◌++◌, flat_map}
use Prim.Native.Char.{code}
use Prim.Native.Nat.{ℕ, zero, suc, ◌-◌}
use native.Mathlib.Omega.{arith}
use lib.Dec.{eqb}
use lib.ListN.{length, get_or}
use Rattle.hl7.specs.Text.{bytes}
use Rattle.hl7.specs.Bytes.{same, among}
use Rattle.hl7.proofs.Comparing.{and_both, same_self, same_equal}
use Rattle.grade.specs.Book.{Contents, keys, under}
use Rattle.grade.specs.Encoding.{each}
use Rattle.grade.specs.Rule.{severity_letter}
use Rattle.grade.specs.Strict.{count_from}
use Rattle.grade.specs.declared.rule.Rule.{Rule}
use Rattle.difference.specs.Difference.{Lines, spots, counterpart, same_numbers, same_codes, rule_line, whole_line, unless, severity_lines, number_lines, code_lines, changes, rule_at, codes_for, old_by, old_lines, new_lines, section_lines, lone_line}

-- it begins with the key, or says that its section is gone or new
abbrev pub speaks_of : List ℕ → List (List ℕ) → Bool
speaks_of key line = same (get_or line 0 []) key || same (get_or line 1 []) (bytes "section") && same (get_or line 2 []) key

abbrev pub silent_on : List ℕ → Lines → Bool
silent_on key lines = each (λ (line : List (List ℕ)). not (speaks_of key line)) lines

-- ---- parts
each_both : (test : List (List ℕ) → Bool) (xs ys : Lines) → each test (xs ++ ys) ≡ true → (each test xs ≡ true) × (each test ys ≡ true)
each_both test [] ys e = (refl, e)
each_both test (x ∷ xs) ys e =
    let here = and_both (test x) (each test (xs ++ ys)) e in
    let more = each_both test xs ys here.1 in
    (ap₂ ◌&&◌ here.0 more.0, more.1)

each_join : (test : List (List ℕ) → Bool) (xs ys : Lines) → each test xs ≡ true → each test ys ≡ true → each test (xs ++ ys) ≡ true
each_join test [] ys e f = f
each_join test (x ∷ xs) ys e f = let here = and_both (test x) (each test xs) e in ap₂ ◌&&◌ here.0 (each_join test xs ys here.1 f)

pub silent_both : (key : List ℕ) (xs ys : Lines) → silent_on key (xs ++ ys) ≡ true → (silent_on key xs ≡ true) × (silent_on key ys ≡ true)
silent_both key xs ys = each_both (λ (line : List (List ℕ)). not (speaks_of key line)) xs ys

-- ---- the section with the key
module _ (key : List ℕ) where
  -- what is said of it, among what is said of all
  pub silent_under : (f : Contents → Lines) (cs : List Contents) → silent_on key (flat_map f cs) ≡ true → {c : Contents} {rest : List Contents} → under key cs ≡ c ∷ rest → (silent_on key (f c) ≡ true) × (key ≡ c.key)
  unfolding flat_map under
  silent_under f [] e u = absurd (omega (arith, ap length u))
  silent_under f (x ∷ cs) e {c} {rest} u =
      let parts = silent_both key (f x) (flat_map f cs) e in
      by (same key x.key) refl u parts.0 (λ v. silent_under f cs parts.1 v)
    where
      by : (t : Bool) → same key x.key ≡ t → cond t (x ∷ under key cs) (under key cs) ≡ c ∷ rest → silent_on key (f x) ≡ true → (under key cs ≡ c ∷ rest → (silent_on key (f c) ≡ true) × (key ≡ c.key))
          → (silent_on key (f c) ≡ true) × (key ≡ c.key)
      by true is u here ih =
          let first : x ≡ c = cc in
          (ap (λ (y : Contents). silent_on key (f y)) (sym first) ∙ here, same_equal key x.key is ∙ ap (λ (y : Contents). y.key) first)
      by false is u here ih = ih u

  pub among-some : (cs : List Contents) {c : Contents} {rest : List Contents} → under key cs ≡ c ∷ rest → among key (keys cs) ≡ true
  unfolding under among
  among-some [] u = absurd (omega (arith, ap length u))
  among-some (x ∷ cs) {c} {rest} u = by (same key x.key) u (λ v. among-some cs v)
    where
      by : (t : Bool) → cond t (x ∷ under key cs) (under key cs) ≡ c ∷ rest → (under key cs ≡ c ∷ rest → among key (keys cs) ≡ true) → (t || among key (keys cs)) ≡ true
      by true u ih = refl
      by false u ih = ih u

  pub among_none : (cs : List Contents) → under key cs ≡ [] → among key (keys cs) ≡ false
  unfolding under among
  among_none [] u = refl
  among_none (x ∷ cs) u = by (same key x.key) u (λ v. among_none cs v)
    where
      by : (t : Bool) → cond t (x ∷ under key cs) (under key cs) ≡ [] → (under key cs ≡ [] → among key (keys cs) ≡ false) → (t || among key (keys cs)) ≡ false
      by true u ih = absurd (omega (arith, ap length u))
      by false u ih = ih u

-- that it is gone or new is said of it
pub lone_speaks : (mark : ℕ) (c : Contents) (key : List ℕ) → key ≡ c.key → silent_on key (lone_line mark c ∷ []) ≡ true → ⊥
unfolding same
lone_speaks mark c key is e = by (same (mark ∷ []) key) (same c.key key) (ap (same c.key) is ∙ same_self c.key) e
  where
    by : (s t : Bool) → t ≡ true → (not (s || t) && true) ≡ true → ⊥
    by true t f e = true≢false (sym e)
    by false true f e = true≢false (sym e)
    by false false f e = true≢false (sym f)

-- ---- each line of a section begins with its key
module _ (c d : Contents) where
  abbrev begins : List (List ℕ) → Bool
  begins line = same (get_or line 0 []) c.key

  begins_one : (test : Bool) (line : List (List ℕ)) → begins line ≡ true → each begins (unless test line) ≡ true
  begins_one true line e = refl
  begins_one false line e = rw e

  begins_flat : (f : ℕ → Lines) → ((i : ℕ) → each begins (f i) ≡ true) → (i n : ℕ) → each begins (flat_map f (count_from i n)) ≡ true
  unfolding flat_map count_from
  begins_flat f h i zero = refl
  begins_flat f h i (suc n) = each_join begins (f i) (flat_map f (count_from (suc i) n)) (h i) (begins_flat f h (suc i) n)

  begins-changes : (n m : ℕ) (r s : Rule) (codes others : List (List ℕ)) → each begins (changes c.key n m r s codes others) ≡ true
  unfolding changes rule_line
  begins-changes n m r s codes others =
      each_join begins (severity_lines c.key n r s) _ (begins_one (eqb (severity_letter r.severity) (severity_letter s.severity)) _ (same_self c.key))
      (each_join begins (number_lines c.key n r s) _ (begins_one (same_numbers r.kind s.kind) _ (same_self c.key))
      (each_join begins (code_lines c.key n r codes others) _ (begins_one (same_codes codes others) _ (same_self c.key)) (begins_one (eqb n m) _ (same_self c.key))))

  begins_old : (i : ℕ) → each begins (old_lines c d i) ≡ true
  unfolding old_lines rule_line
  begins_old i = by (counterpart (spots c.rules) (spots d.rules) i)
    where
      go : (t : Bool) (m : ℕ) → each begins (cond t (whole_line c.key (code "-") (suc i) (rule_at c i) (codes_for c i) ∷ []) (changes c.key (suc i) m (rule_at c i) (rule_at d (m - 1)) (codes_for c i) (codes_for d (m - 1)))) ≡ true
      go true m = rw (same_self c.key)
      go false m = begins-changes (suc i) m (rule_at c i) (rule_at d (m - 1)) (codes_for c i) (codes_for d (m - 1))

      by : (m : ℕ) → each begins (old_by c d i m) ≡ true
      by m = go (eqb m 0) m

  begins_new : (i : ℕ) → each begins (new_lines c.key (spots c.rules) d i) ≡ true
  unfolding new_lines rule_line
  begins_new i = begins_one (not (eqb (counterpart (spots d.rules) (spots c.rules) i) 0)) _ (same_self c.key)

  begins-all : each begins (section_lines c d) ≡ true
  unfolding section_lines
  begins-all =
      each_join begins (flat_map (old_lines c d) (count_from 0 (length c.rules))) _
      (begins_flat (old_lines c d) begins_old 0 (length c.rules))
      (begins_flat (new_lines c.key (spots c.rules) d) begins_new 0 (length d.rules))

  -- so there is none where none speaks of it
  pub section_silent : {key : List ℕ} → key ≡ c.key → silent_on key (section_lines c d) ≡ true → section_lines c d ≡ []
  section_silent {key} is e = by (section_lines c d) begins-all e
    where
      by : (lines : Lines) → each begins lines ≡ true → silent_on key lines ≡ true → lines ≡ []
      by [] f e = refl
      by (line ∷ lines) f e =
          let here = (and_both (begins line) (each begins lines) f).0 in
          let there = (and_both (not (speaks_of key line)) (silent_on key lines) e).0 in
          absurd (no (same (get_or line 0 []) key) _ (ap (same (get_or line 0 [])) is ∙ here) there)
        where
          no : (s t : Bool) → s ≡ true → not (s || t) ≡ true → ⊥
          no true t f e = true≢false (sym e)
          no false t f e = true≢false (sym f)
