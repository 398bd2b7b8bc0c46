-- What can be shown, the lines that show it, and the verbs that they have. Assumes nothing.
use mathlib.Core.Path.{◌≡◌, refl, sym, ap₂}
use mathlib.Core.Bool.{Bool, true, false, cond, ◌&&◌, ◌||◌, true≢false}
use mathlib.Core.List.{List, [], ◌∷◌, ◌++◌, map}
use Prim.Native.Nat.{ℕ, suc, ◌≤◌}
use native.Mathlib.Omega.{arith}
use lib.Dec.{eqb, leb}
use lib.ListN.{length}
use borrow.Author.Tests.{leb-true, eqb-true}
use Rattle.hl7.specs.Text.{bytes}
use Rattle.hl7.specs.Bytes.{within, is_in, same}
use Rattle.hl7.proofs.Comparing.{and_both}
use Rattle.grade.specs.Book.{Contents, distinct, keys}
use Rattle.grade.specs.Encoding.{each, text_fits, set_fits, section_fits, book_bytes, well_formed}
use Rattle.grade.specs.Limits.{book_limit, section_limit, key_limit, rule_limit, set_limit}
use Rattle.grade.specs.Rule.{place_fits, time_digits, kind_fits, rule_fits}
use Rattle.grade.specs.declared.rule.Kind.{Kind}
use Rattle.grade.specs.declared.rule.Rule.{Rule}
use Rattle.booktext.specs.Lines.{number_from, verbs, verb_of, a_set, a_code, some_sets, a_rule, an_also}
use Rattle.booktext.proofs.Each.{each_join}
use Rattle.canonical.specs.Shown.{set_name, code_line, set_lines, pin_lines, rule_spot, rule_verb, rule_lines, book_lines}
use Rattle.canonical.proofs.Paging.{line_verb, verbs_pass}

-- ---- what can be shown
-- LENGTH's high number is one that a text can say, as it is a byte in a book
abbrev pub high_said : Kind → Bool
high_said Kind.Required = true
high_said (Kind.Length low high) = leb high 255
high_said Kind.Number = true
high_said Kind.Date = true
high_said (Kind.Time digits) = true
high_said (Kind.Code set) = true

abbrev pub high_fits : Contents → Bool
high_fits c = each (λ (r : Rule). high_said r.kind) c.rules

-- in a section with so many sets
abbrev pub is_shown : ℕ → Rule → Bool
is_shown sets r = rule_fits sets r && high_said r.kind

pub record Fits (c : Contents) : Type 0 where
  pub key : text_fits key_limit c.key ≡ true
  pub few_rules : length c.rules ≤ rule_limit
  pub few_sets : length c.sets ≤ set_limit
  pub rules : each (is_shown (length c.sets)) c.rules ≡ true
  pub sets : each set_fits c.sets ≡ true

fits-of : (c : Contents) → section_fits c ≡ true → high_fits c ≡ true → Fits c
fits-of c e f =
    let t = and_both _ (each set_fits c.sets) e in
    let u = and_both _ (each (rule_fits (length c.sets)) c.rules) t.0 in
    let v = and_both (text_fits key_limit c.key) (leb (length c.rules) rule_limit && leb (length c.sets) set_limit) u.0 in
    let w = and_both (leb (length c.rules) rule_limit) (leb (length c.sets) set_limit) v.1 in
    record {
      key = v.0;
      few_rules = leb-true (length c.rules) rule_limit w.0;
      few_sets = leb-true (length c.sets) set_limit w.1;
      rules = both (length c.sets) c.rules u.1 f;
      sets = t.1;
    }
  where
    both : (sets : ℕ) (rules : List Rule) → each (rule_fits sets) rules ≡ true → each (λ (r : Rule). high_said r.kind) rules ≡ true → each (is_shown sets) rules ≡ true
    both sets [] e f = refl
    both sets (r ∷ rules) e f =
        let one = and_both (rule_fits sets r) (each (rule_fits sets) rules) e in
        let two = and_both (high_said r.kind) (each (λ (q : Rule). high_said q.kind) rules) f in
        ap₂ ◌&&◌ (ap₂ ◌&&◌ one.0 two.0) (both sets rules one.1 two.1)

abbrev pub AllFit : List Contents → Type 0
AllFit [] = Unit {0}
AllFit (c ∷ cs) = Fits c × AllFit cs

-- sections that make a book, and can be shown
pub record Formed (cs : List Contents) : Type 0 where
  pub few : within 1 section_limit (length cs) ≡ true
  pub fit : AllFit cs
  pub differ : distinct (keys cs) ≡ true
  pub short : length (book_bytes cs) ≤ book_limit

pub formed : (cs : List Contents) → well_formed cs ≡ true → each high_fits cs ≡ true → Formed cs
unfolding well_formed
formed cs e h =
    let t = and_both _ (leb (length (book_bytes cs)) book_limit) e in
    let u = and_both _ (distinct (keys cs)) t.0 in
    let v = and_both (within 1 section_limit (length cs)) (each section_fits cs) u.0 in
    record { few = v.0; fit = all_fit cs v.1 h; differ = u.1; short = leb-true (length (book_bytes cs)) book_limit t.1 }
  where
    all_fit : (cs : List Contents) → each section_fits cs ≡ true → each high_fits cs ≡ true → AllFit cs
    all_fit [] e h = tt
    all_fit (c ∷ cs) e h =
        let one = and_both (section_fits c) (each section_fits cs) e in
        let two = and_both (high_fits c) (each high_fits cs) h in
        (fits-of c one.0 two.0, all_fit cs one.1 two.1)

-- a rule that can be shown, and the numbers in it
module _ (sets : ℕ) (r : Rule) (e : is_shown sets r ≡ true) where
  pub shown-place : place_fits r.place ≡ true
  shown-place = (and_both (place_fits r.place) (kind_fits sets r.kind) (and_both (rule_fits sets r) (high_said r.kind) e).0).0

  pub shown_kind : kind_fits sets r.kind ≡ true
  shown_kind = (and_both (place_fits r.place) (kind_fits sets r.kind) (and_both (rule_fits sets r) (high_said r.kind) e).0).1

  pub shown_high : high_said r.kind ≡ true
  shown_high = (and_both (rule_fits sets r) (high_said r.kind) e).1

pub within_bounds : (low high n : ℕ) → within low high n ≡ true → (low ≤ n) × (n ≤ high)
within_bounds low high n e = let both = and_both (leb low n) (leb n high) e in (leb-true low n both.0, leb-true n high both.1)

pub length_bounds : (low high : ℕ) → within 1 high low ≡ true → leb high 255 ≡ true → (low ≤ 255) × (high ≤ 255)
length_bounds low high e f = let small = leb-true high 255 f in (omega (arith, within_bounds 1 high low e), small)

pub time_bound : (n : ℕ) → time_digits n ≡ true → n ≤ 14
time_bound n =
    either (eqb n 4 || eqb n 6 || eqb n 8 || eqb n 10 || eqb n 12) 14 (omega arith)
    (either (eqb n 4 || eqb n 6 || eqb n 8 || eqb n 10) 12 (omega arith)
    (either (eqb n 4 || eqb n 6 || eqb n 8) 10 (omega arith)
    (either (eqb n 4 || eqb n 6) 8 (omega arith)
    (either (eqb n 4) 6 (omega arith)
    (either false 4 (omega arith) (λ e. absurd (true≢false (sym e))))))))
  where
    either : (b : Bool) (k : ℕ) → k ≤ 14 → (b ≡ true → n ≤ 14) → (b || eqb n k) ≡ true → n ≤ 14
    either true k h f e = f refl
    either false k h f e = omega (arith, eqb-true n k e)

-- ---- the lines of a book
abbrev pub Lines : Type 0
Lines = List (List (List ℕ))

abbrev pub set_line : List ℕ → ℕ → List (List ℕ)
set_line key n = bytes "set" ∷ set_name key n ∷ []

abbrev pub section_line : List ℕ → List (List ℕ)
section_line key = bytes "section" ∷ key ∷ []

abbrev pub book_line : List (List ℕ)
book_line = bytes "book" ∷ bytes "1" ∷ []

abbrev pub all_lines : List Contents → Lines
all_lines cs = book_line ∷ book_lines cs

-- what stands under a section
abbrev pub page_lines : Contents → List (List (List ℕ))
page_lines c = pin_lines c.key c.sets ++ rule_lines c.key [] c.rules

-- ---- their verbs
module _ (test : ℕ → Bool) where
  pub rule_verb_lem : (before : List ℕ) (x : Rule) → test a_rule ≡ true → test an_also ≡ true → test (verb_of (rule_verb before x)) ≡ true
  unfolding verb_of verbs number_from same
  rule_verb_lem before x r a = by (is_in (rule_spot x) before)
    where
      by : (b : Bool) → test (verb_of (cond b (bytes "also") (bytes "rule"))) ≡ true
      by true = a
      by false = r

  rule-verbs : (key before : List ℕ) (rules : List Rule) → test a_rule ≡ true → test an_also ≡ true → verbs_pass test (rule_lines key before rules) ≡ true
  unfolding rule_lines
  rule-verbs key before [] r a = refl
  rule-verbs key before (x ∷ rules) r a = ap₂ ◌&&◌ (rule_verb_lem before x r a) (rule-verbs key (before ++ (rule_spot x ∷ [])) rules r a)

  pub page_verbs : (c : Contents) → test some_sets ≡ true → test a_rule ≡ true → test an_also ≡ true → verbs_pass test (page_lines c) ≡ true
  unfolding verb_of verbs number_from same
  page_verbs c s r a = each_join (λ (ws : List (List ℕ)). test (line_verb ws)) (pin_lines c.key c.sets) (rule_lines c.key [] c.rules) (pins c.sets) (rule-verbs c.key [] c.rules r a)
    where
      pins : (sets : List (List (List ℕ))) → verbs_pass test (pin_lines c.key sets) ≡ true
      pins [] = refl
      pins (set ∷ sets) = ap₂ ◌&&◌ s refl

  pub code_verbs : (codes : List (List ℕ)) → test a_code ≡ true → verbs_pass test (map code_line codes) ≡ true
  unfolding verb_of verbs number_from same
  code_verbs [] k = refl
  code_verbs (c ∷ codes) k = ap₂ ◌&&◌ k (code_verbs codes k)

  pub set-verbs : (key : List ℕ) (n : ℕ) (sets : List (List (List ℕ))) → test a_set ≡ true → test a_code ≡ true → verbs_pass test (set_lines key n sets) ≡ true
  unfolding set_lines verb_of verbs number_from same
  set-verbs key n [] s k = refl
  set-verbs key n (codes ∷ sets) s k =
      ap₂ ◌&&◌ s (each_join (λ (ws : List (List ℕ)). test (line_verb ws)) (map code_line codes) (set_lines key (suc n) sets) (code_verbs codes k) (set-verbs key (suc n) sets s k))
