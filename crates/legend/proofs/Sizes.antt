-- What a text that is not refused leaves of its legend: the statements of each section can be noted, and its length is within a limit. Assumes nothing.
use mathlib.Core.Path.{◌≡◌, refl, ap}
use mathlib.Core.Bool.{Bool, true, false, cond, not, ◌&&◌, ◌||◌}
use mathlib.Core.List.{List, [], ◌∷◌, ◌++◌, map}
use Prim.Native.Nat.{ℕ, zero, suc, ◌+◌, ◌*◌, ◌≤◌}
use native.Mathlib.Omega.{arith}
use lib.Dec.{eqb, leb}
use lib.ListN.{length, get_or, drop, length-append, length-drop}
use borrow.Author.Tests.{le-leb, leb-true}
use Rattle.hl7.specs.Bytes.{all, within}
use Rattle.hl7.specs.Cut.{ahead, cut}
use Rattle.hl7.proofs.Comparing.{and_both}
use Rattle.hl7.proofs.Cutting.{part-short}
use Rattle.grade.specs.Book.{distinct, keys}
use Rattle.grade.specs.Encoding.{each, text_fits, set_fits, section_fits, section_bytes, book_bytes, well_formed}
use Rattle.grade.specs.Rule.{rule_fits}
use Rattle.grade.specs.Limits.{key_limit, rule_limit, set_limit, section_limit, book_limit}
use Rattle.ack.specs.Layout.{joined, marked}
use Rattle.ack.proofs.Decimals.{decimal-short}
use Rattle.booktext.specs.Lines.{Statement, word, says, line_feed, bar, blank, said, cut_at, filled, words_in, unless_silent, statements_from, statements, text_limit, a_common, a_section, a_use, a_severity, a_bound}
use Rattle.booktext.specs.Meaning.{body, from, under, give, taken, expand}
use Rattle.booktext.specs.Changes.{spot_of, says_of, bind, amend, amended, settled}
use Rattle.booktext.specs.Contents.{made, rules_of, names_of, contents_of, section_of, sections_in, meaning}
use Rattle.booktext.specs.Faults.{firstly, first_fault}
use Rattle.booktext.specs.Refusals.{bytes_told, first_name_fault, section_told, sections_told, named_told, beginning, refusal, statement_limit}
use Rattle.booktext.proofs.Each.{each_append, each-drop, each-body, each_from}
use Rattle.booktext.proofs.Forming.{firstly_both, section-passed}
use Rattle.booktext.proofs.Compiling.{text-short}
use Rattle.booktext.proofs.Promises.{never_7}
use Rattle.legend.specs.People.{unled, untrailed, trimmed, line_at, people}
use Rattle.legend.specs.Legend.{remark, remark_of, changes, later_remarks, rule_legend, stays, line_of_rule, rules_legend, section_legend, legend_in, legend}
use Rattle.legend.specs.Standing.{roomy}
use Rattle.legend.proofs.Promises.{rules-settled}

-- ---- what is not refused
passed : (t : List ℕ) → (refusal t).number ≡ 0 → ((bytes_told t).number ≡ 0) × ((sections_told t (statements t) beginning (statements t)).number ≡ 0)
unfolding refusal
passed t h =
    let all = statements t in
    let a = firstly_both (bytes_told t) (firstly (first_fault t 0 all) (named_told t)) h in
    let b = firstly_both (first_fault t 0 all) (named_told t) a.1 in
    (a.0, (firstly_both (first_name_fault t all 0 all) (sections_told t all beginning all) b.1).1)

pub text_fits_lem : (t : List ℕ) → (refusal t).number ≡ 0 → length t ≤ text_limit
text_fits_lem t h = text-short t refl (passed t h).0

sections-roomy : (t : List ℕ) (all : List Statement) (size : ℕ) (ss : List Statement) → (sections_told t all size ss).number ≡ 0 → roomy all ss ≡ true
unfolding sections_told roomy
sections-roomy t all size [] h = refl
sections-roomy t all size (s ∷ ss) h = by (says a_section s) h (λ n k. sections-roomy t all n ss k)
  where
    later : ℕ
    later = size + length (section_bytes (section_of all s ss))

    by : (b : Bool) → (cond b (firstly (section_told t all size s ss) (sections_told t all later ss)) (sections_told t all size ss)).number ≡ 0
        → ((n : ℕ) → (sections_told t all n ss).number ≡ 0 → roomy all ss ≡ true)
        → ((not b || leb (length (expand all (body ss))) statement_limit) && roomy all ss) ≡ true
    by true k ih =
        let both = firstly_both (section_told t all size s ss) (sections_told t all later ss) k in
        rw (le-leb (length (expand all (body ss))) statement_limit (section-passed t all size s ss both.0).few, ih later both.1) refl
    by false k ih = ih size k

pub text-roomy : (t : List ℕ) → (refusal t).number ≡ 0 → roomy (statements t) (statements t) ≡ true
text-roomy t h = sections-roomy t (statements t) beginning (statements t) (passed t h).1

-- ---- parts of a list of bytes, each with a mark
module _ (mark : ℕ) where
  ahead_size : (b : Bool) (x n : ℕ) (parts : List (List ℕ)) → length (marked mark parts) ≡ suc n → length (marked mark (ahead b x parts)) ≡ suc (suc n)
  unfolding ahead marked
  ahead_size b x n [] e = absurd (omega (arith, e))
  ahead_size true x n (part ∷ parts) e = ap suc e
  ahead_size false x n (part ∷ parts) e = ap suc e

  cut_size : (d : ℕ) (s : List ℕ) → length (marked mark (cut d s)) ≡ suc (length s)
  unfolding cut marked
  cut_size d [] = refl
  cut_size d (x ∷ s) = ahead_size (eqb x d) x (length s) (cut d s) (cut_size d s)

  cut_at_size : (test : ℕ → Bool) (s : List ℕ) → length (marked mark (cut_at test s)) ≡ suc (length s)
  unfolding cut_at marked
  cut_at_size test [] = refl
  cut_at_size test (x ∷ s) = ahead_size (test x) x (length s) (cut_at test s) (cut_at_size test s)

  filled_size : (parts : List (List ℕ)) → length (marked mark (filled parts)) ≤ length (marked mark parts)
  unfolding filled marked
  filled_size [] = omega arith
  filled_size ([] ∷ parts) = omega (arith, filled_size parts)
  filled_size ((x ∷ part) ∷ parts) = omega (arith, filled_size parts, length-append part (marked mark (filled parts)), length-append part (marked mark parts))

  part_size : (parts : List (List ℕ)) (k : ℕ) → length (get_or parts k []) ≤ length (marked mark parts)
  unfolding marked
  part_size [] k = omega arith
  part_size (part ∷ parts) zero = omega (arith, length-append part (marked mark parts))
  part_size (part ∷ parts) (suc k) = omega (arith, part_size parts k, length-append part (marked mark parts))

  rest_size : (k : ℕ) (parts : List (List ℕ)) → length (marked mark (drop k parts)) ≤ length (marked mark parts)
  unfolding marked
  rest_size zero parts = omega arith
  rest_size (suc k) [] = omega arith
  rest_size (suc k) (part ∷ parts) = omega (arith, rest_size k parts, length-append part (marked mark parts))

-- ---- the words of a statement are no longer than the text
abbrev brief : Statement → Bool
brief s = leb (length (marked 32 s.words)) 1048577

words_size : (s : List ℕ) → length (marked 32 (words_in s)) ≤ suc (length s)
unfolding words_in
words_size s = omega (arith, filled_size 32 (cut_at blank s), cut_at_size 32 blank s)

lines-brief : (at : ℕ) (lines : List (List ℕ)) → length (marked 10 lines) ≤ 1048577 → each brief (statements_from at lines) ≡ true
unfolding statements_from unless_silent marked
lines-brief at [] h = refl
lines-brief at (line ∷ lines) h =
    let size = length-append line (marked 10 lines) in
    by (words_in (said line)) (statements_from (at + length line + 1) lines) (omega (arith, words_size (said line), part-short bar line 0, size, h)) (lines-brief (at + length line + 1) lines (omega (arith, size, h)))
  where
    by : (words : List (List ℕ)) (rest : List Statement) → length (marked 32 words) ≤ 1048577 → each brief rest ≡ true → each brief (unless_silent at words rest) ≡ true
    by [] rest k e = e
    by (w ∷ words) rest k e = rw (le-leb (length (marked 32 (w ∷ words))) 1048577 k) e

text-brief : (t : List ℕ) → length t ≤ text_limit → each brief (statements t) ≡ true
unfolding statements
text-brief t h = lines-brief 0 (cut line_feed t) (omega (arith, cut_size 10 line_feed t, h))

given-brief : (letter : ℕ) (ss : List Statement) → each brief ss ≡ true → each brief (map (give letter) ss) ≡ true
given-brief letter [] e = refl
given-brief letter (s ∷ ss) e = let both = and_both (brief s) (each brief ss) e in rw both.0 (given-brief letter ss both.1)

taken-brief : (all : List Statement) (s : Statement) → each brief all ≡ true → each brief (taken all s) ≡ true
unfolding taken
taken-brief all s e = by (says a_use s)
  where
    found : List Statement
    found = from a_common (word s 1) all

    by : (b : Bool) → each brief (cond b (map (give (get_or (word s 2) 0 0)) (under a_common (word s 1) all)) []) ≡ true
    by true = given-brief (get_or (word s 2) 0 0) (body (drop 1 found)) (each-body brief (drop 1 found) (each-drop brief 1 found (each_from brief a_common (word s 1) all e)))
    by false = refl

expand-brief : (all ss : List Statement) → each brief all ≡ true → each brief ss ≡ true → each brief (expand all ss) ≡ true
unfolding expand
expand-brief all [] every e = refl
expand-brief all (s ∷ ss) every e =
    let both = and_both (brief s) (each brief ss) e in
    rw (both.0, each_append brief (taken all s) (expand all ss), taken-brief all s every) (expand-brief all ss every both.1)

-- ---- the words for people are no longer than the text
unled_size : (s : List ℕ) → length (unled s) ≤ length s
unfolding unled
unled_size [] = omega arith
unled_size (x ∷ s) = by (blank x) (unled_size s)
  where
    by : (b : Bool) → length (unled s) ≤ length s → length (cond b (unled s) (x ∷ s)) ≤ suc (length s)
    by true ih = omega arith
    by false ih = omega arith

untrailed_size : (s : List ℕ) → length (untrailed s) ≤ length s
unfolding untrailed
untrailed_size [] = omega arith
untrailed_size (x ∷ s) = by (all blank (x ∷ s)) (untrailed_size s)
  where
    by : (b : Bool) → length (untrailed s) ≤ length s → length (cond b [] (x ∷ untrailed s)) ≤ suc (length s)
    by true ih = omega arith
    by false ih = omega arith

remark_size : (words : List ℕ) → length (remark words) ≤ 3 + length words
remark_size [] = omega arith
remark_size (x ∷ words) = omega arith

-- ---- a rule that later statements amend
-- each part that its line shows has at most one byte more than the longest text
record Short (s : Statement) : Type 0 where
  place : length (word s 1) ≤ 1048577
  kind : length (word s 2) ≤ 1048577
  bound : length (marked 32 (drop 4 s.words)) ≤ 1048577

brief-short : (s : Statement) → brief s ≡ true → Short s
brief-short s h =
    let words = leb-true (length (marked 32 s.words)) 1048577 h in
    record { place = omega (arith, words, part_size 32 s.words 1); kind = omega (arith, words, part_size 32 s.words 2); bound = omega (arith, words, rest_size 32 4 s.words) }

amend-short : (spot : ℕ) (s x : Statement) → Short s → brief x ≡ true → Short (amend spot s x)
amend-short spot s x f h = by (says_of a_severity spot x) (says_of a_bound spot x)
  where
    by : (a b : Bool) → Short (cond a (give (get_or (word x 3) 0 0) s) (cond b (bind (drop 3 x.words) s) s))
    by true b = record { place = f.place; kind = f.kind; bound = f.bound }
    by false true = record { place = f.place; kind = f.kind; bound = omega (arith, leb-true (length (marked 32 x.words)) 1048577 h, rest_size 32 3 x.words) }
    by false false = f

amended-short : (spot : ℕ) (s : Statement) (ss : List Statement) → Short s → each brief ss ≡ true → Short (amended spot s ss)
unfolding amended
amended-short spot s [] f e = f
amended-short spot s (x ∷ ss) f e = let both = and_both (brief x) (each brief ss) e in amended-short spot (amend spot s x) ss (amend-short spot s x f both.0) both.1

-- ---- lines, rules, sections: a line has at most 2,053 times the bytes of the longest text, a section 257 lines, a text 64 sections
abbrev line_most : ℕ
line_most = 2152726528

abbrev section_most : ℕ
section_most = 553250717696

module _ (t : List ℕ) (short : length t ≤ text_limit) where
  own-remark : (s : Statement) → length (remark_of t s) ≤ 1048579
  unfolding people
  own-remark s =
      let line = line_at t s.at in
      let behind = drop (suc (length (said line))) line in
      omega (arith, short, remark_size (trimmed behind), untrailed_size (unled behind), unled_size behind, length-drop (suc (length (said line))) line, part-short line_feed (drop s.at t) 0, length-drop s.at t)

  later_remarks_lem : (spot : ℕ) (ss : List Statement) → length (later_remarks t spot ss) ≤ length ss * 1048579
  unfolding later_remarks
  later_remarks_lem spot [] = omega arith
  later_remarks_lem spot (x ∷ ss) = by (changes spot x) (later_remarks_lem spot ss)
    where
      by : (b : Bool) → length (later_remarks t spot ss) ≤ length ss * 1048579 → length (cond b (remark_of t x ++ later_remarks t spot ss) (later_remarks t spot ss)) ≤ suc (length ss) * 1048579
      by true ih = omega (arith, ih, own-remark x, length-append (remark_of t x) (later_remarks t spot ss))
      by false ih = omega (arith, ih)

  rule_size_lem : (key : List ℕ) (n : ℕ) (s : Statement) (remarks : List ℕ) → length key ≤ 1048577 → Short s → length remarks ≤ 2147489792 → length (rule_legend t key n s remarks) ≤ line_most
  unfolding rule_legend joined marked
  rule_size_lem key n s remarks k f r = simp length-append (omega (arith, k, f.place, f.kind, f.bound, r, decimal-short n))

  line_size : (key : List ℕ) (n : ℕ) (s : Statement) (ss : List Statement) → length key ≤ 1048577 → suc (length ss) ≤ statement_limit → brief s ≡ true → each brief ss ≡ true → length (line_of_rule t key n s ss) ≤ line_most
  line_size key n s ss k few h e =
      let remarks = length-append (remark_of t s) (later_remarks t (spot_of s) ss) in
      rule_size_lem key n (amended (spot_of s) s ss) (remark_of t s ++ later_remarks t (spot_of s) ss) k (amended-short (spot_of s) s ss (brief-short s h) e) (omega (arith, few, remarks, own-remark s, later_remarks_lem (spot_of s) ss))

  rules_size : (names : List (List ℕ)) (key : List ℕ) (n : ℕ) (ss : List Statement) → length key ≤ 1048577 → length ss ≤ statement_limit → each brief ss ≡ true → length (rules_legend t key n ss) ≤ length (rules_of names (settled ss)) * line_most
  unfolding rules_legend
  rules_size names key n [] k few e = omega arith
  rules_size names key n (s ∷ ss) k few e =
      let both = and_both (brief s) (each brief ss) e in
      let less : length ss ≤ statement_limit = omega (arith, few) in
      rw (rules-settled names s ss)
      (by (stays s ss) (line_size key n s ss k few both.0 both.1) (rules_size names key n ss k less both.1) (rules_size names key (suc n) ss k less both.1))
    where
      by : (b : Bool) → length (line_of_rule t key n s ss) ≤ line_most → length (rules_legend t key n ss) ≤ length (rules_of names (settled ss)) * line_most → length (rules_legend t key (suc n) ss) ≤ length (rules_of names (settled ss)) * line_most
          → length (cond b (line_of_rule t key n s ss ++ rules_legend t key (suc n) ss) (rules_legend t key n ss)) ≤ length (cond b (made names (amended (spot_of s) s ss) ∷ rules_of names (settled ss)) (rules_of names (settled ss))) * line_most
      by true one here next = omega (arith, one, next, length-append (line_of_rule t key n s ss) (rules_legend t key (suc n) ss))
      by false one here next = here

  section_size : (all : List Statement) (s : Statement) (after : List Statement) → each brief all ≡ true → brief s ≡ true → each brief after ≡ true → length (expand all (body after)) ≤ statement_limit → length (section_of all s after).rules ≤ rule_limit
      → length (section_legend t all s after) ≤ section_most
  unfolding section_legend contents_of joined marked
  section_size all s after every h later few rules =
      let ss = expand all (body after) in
      let key = (brief-short s h).place in
      let lines = rules_size (names_of (settled ss)) (word s 1) 1 ss key few (expand-brief all (body after) every (each-body brief after later)) in
      simp length-append (omega (arith, key, lines, rules, own-remark s))

  sections_size : (all ss : List Statement) → each brief all ≡ true → each brief ss ≡ true → roomy all ss ≡ true → each section_fits (sections_in all ss) ≡ true → length (legend_in t all ss) ≤ length (sections_in all ss) * section_most
  unfolding legend_in sections_in roomy
  sections_size all [] every e r f = omega arith
  sections_size all (s ∷ ss) every e r f =
      let both = and_both (brief s) (each brief ss) e in
      let room = and_both (not (says a_section s) || leb (length (expand all (body ss))) statement_limit) (roomy all ss) r in
      by (says a_section s) room.0 f (section_size all s ss every both.0 both.1) (λ g. sections_size all ss every both.1 room.1 g)
    where
      by : (b : Bool) → (not b || leb (length (expand all (body ss))) statement_limit) ≡ true → each section_fits (cond b (section_of all s ss ∷ sections_in all ss) (sections_in all ss)) ≡ true
          → (length (expand all (body ss)) ≤ statement_limit → length (section_of all s ss).rules ≤ rule_limit → length (section_legend t all s ss) ≤ section_most)
          → (each section_fits (sections_in all ss) ≡ true → length (legend_in t all ss) ≤ length (sections_in all ss) * section_most)
          → length (cond b (section_legend t all s ss ++ legend_in t all ss) (legend_in t all ss)) ≤ length (cond b (section_of all s ss ∷ sections_in all ss) (sections_in all ss)) * section_most
      by true room g own ih =
          let c = section_of all s ss in
          let both = and_both (section_fits c) (each section_fits (sections_in all ss)) g in
          let counts = (and_both (text_fits key_limit c.key) (leb (length c.rules) rule_limit && leb (length c.sets) set_limit)
          (and_both (text_fits key_limit c.key && (leb (length c.rules) rule_limit && leb (length c.sets) set_limit)) (each (rule_fits (length c.sets)) c.rules)
          (and_both (text_fits key_limit c.key && (leb (length c.rules) rule_limit && leb (length c.sets) set_limit) && each (rule_fits (length c.sets)) c.rules) (each set_fits c.sets) both.0).0).0).1 in
          let few = leb-true (length c.rules) rule_limit (and_both (leb (length c.rules) rule_limit) (leb (length c.sets) set_limit) counts).0 in
          omega (arith, own (leb-true (length (expand all (body ss))) statement_limit room) few, ih both.1, length-append (section_legend t all s ss) (legend_in t all ss))
      by false room g own ih = ih g

-- a legend has at most so many bytes
pub legend-short : (t : List ℕ) → (refusal t).number ≡ 0 → length (legend t) ≤ 35408045932544
unfolding legend well_formed meaning
legend-short t h =
    let cs = meaning t in
    let a = (and_both (within 1 section_limit (length cs) && each section_fits cs && distinct (keys cs)) (leb (length (book_bytes cs)) book_limit) (never_7 t h)).0 in
    let b = (and_both (within 1 section_limit (length cs) && each section_fits cs) (distinct (keys cs)) a).0 in
    let c = and_both (within 1 section_limit (length cs)) (each section_fits cs) b in
    let few = leb-true (length cs) section_limit (and_both (leb 1 (length cs)) (leb (length cs) section_limit) c.0).1 in
    let words = text-brief t (text_fits_lem t h) in
    omega (arith, few, sections_size t (text_fits_lem t h) (statements t) (statements t) words words (text-roomy t h) c.1)
