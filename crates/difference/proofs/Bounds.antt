-- How long the lines are at most, so that what comparing two books tells fits one number of 64 bits, and can be had back from it. Assumes nothing.
use mathlib.Core.Path.{◌≡◌, refl}
use mathlib.Core.Bool.{Bool, true, false, cond, not}
use mathlib.Core.List.{List, [], ◌∷◌, ◌++◌, flat_map}
use Prim.Native.Char.{code}
use Prim.Native.Nat.{ℕ, zero, suc, ◌+◌, ◌-◌, ◌*◌, ◌^◌, ◌≤◌}
use native.Mathlib.Omega.{arith}
use lib.Dec.{eqb, leb}
use lib.ListN.{length, get_or, length-append}
use borrow.Author.Tests.{leb-true, eqb-true, eqb-false}
use Rattle.hl7.specs.Text.{bytes}
use Rattle.hl7.specs.Bytes.{within, all, same, among}
use Rattle.hl7.proofs.Comparing.{and_both}
use Rattle.grade.specs.Book.{Contents, plain, keys, under, decoded, malformed, other_version}
use Rattle.grade.specs.Broken.{codes_of}
use Rattle.grade.specs.Encoding.{each, text_fits, set_fits}
use Rattle.grade.specs.Limits.{section_limit, key_limit, code_limit, code_count_limit}
use Rattle.grade.specs.Rule.{segment_names, name_bytes, severity_letter}
use Rattle.grade.specs.Strict.{keep, count_from}
use Rattle.grade.specs.declared.rule.Kind.{Kind}
use Rattle.grade.specs.declared.rule.Place.{Place}
use Rattle.grade.specs.declared.rule.Rule.{Rule}
use Rattle.grade.proofs.Encoded.{Bytes, encoded}
use Rattle.ack.specs.Decimal.{decimal}
use Rattle.ack.specs.Layout.{joined, marked}
use Rattle.ack.proofs.Decimals.{decimal-short}
use Rattle.booktext.specs.Faults.{Told, tell, nothing, firstly}
use Rattle.booktext.proofs.Bounds.{SmallRow, a_row, small-nothing, small-cond, Packs, packs}
use Rattle.canonical.specs.Shown.{printed, place_word, kind_word}
use Rattle.canonical.proofs.Printing.{printed-line, printed-append}
use Rattle.canonical.proofs.Showable.{Fits, AllFit, Formed, formed, within_bounds}
use Rattle.canonical.proofs.ShownAgain.{high_decoded}
use Rattle.canonical.proofs.ShownShort.{kind_short, marked-line, joined_line, marked-none}
use Rattle.difference.specs.Difference.{Lines, spots, severity_word, number_words, same_numbers, code_words, same_codes, gone, rule_line, whole_line, unless, severity_lines, number_lines, code_lines, moved_lines, changes, rule_at, codes_for, counterpart, old_by, old_lines, new_lines, section_lines, lone_line, against_first, old_section, new_section, differences, diff_of}

-- ---- words
each_at : {A : Type 0} (test : A → Bool) (l : List A) (n : ℕ) (d : A) → test d ≡ true → each test l ≡ true → test (get_or l n d) ≡ true
each_at test [] n d e f = e
each_at test (x ∷ l) zero d e f = (and_both (test x) (each test l) f).0
each_at test (x ∷ l) (suc n) d e f = each_at test l n d e (and_both (test x) (each test l) f).1

abbrev up_to : ℕ → List ℕ → Bool
up_to n w = leb (length w) n

name-short : (n : ℕ) → length (name_bytes n) ≤ 3
unfolding name_bytes segment_names
name-short n = leb-true (length (name_bytes n)) 3 (each_at (up_to 3) ([] ∷ segment_names) n [] refl refl)

place_short : (p : Place) → length (place_word p) ≤ 45
unfolding place_word
place_short p =
    let more = cond (eqb p.component 0) [] (code "." ∷ decimal p.component) in
    omega (
      arith,
      length-append (name_bytes p.segment) (code "-" ∷ (decimal p.field ++ more)),
      length-append (decimal p.field) more,
      name-short p.segment,
      decimal-short p.field,
      last (eqb p.component 0),
    )
  where
    last : (b : Bool) → length (cond b [] (code "." ∷ decimal p.component)) ≤ 21
    last true = omega arith
    last false = omega (arith, decimal-short p.component)

-- ---- words of a line
marked_sum : (ws vs : List (List ℕ)) → length (marked 32 (ws ++ vs)) ≡ length (marked 32 ws) + length (marked 32 vs)
marked_sum [] vs = omega (arith, marked-none)
marked_sum (w ∷ ws) vs = omega (arith, marked-line w (ws ++ vs), marked-line w ws, marked_sum ws vs)

one_short : (line : List (List ℕ)) (test : Bool) → length (printed (unless test line)) ≤ 1 + length (joined 32 line)
unfolding printed
one_short line true = omega arith
one_short line false = omega (arith, printed-line line [])

numbers-short : (k : Kind) → length (marked 32 (number_words k)) ≤ 42
numbers-short Kind.Required = omega (arith, marked-none)
numbers-short (Kind.Length low high) = omega (arith, marked-line (decimal low) (decimal high ∷ []), marked-line (decimal high) [], marked-none, decimal-short low, decimal-short high)
numbers-short Kind.Number = omega (arith, marked-none)
numbers-short Kind.Date = omega (arith, marked-none)
numbers-short (Kind.Time digits) = omega (arith, marked-line (decimal digits) [], marked-none, decimal-short digits)
numbers-short (Kind.Code set) = omega (arith, marked-none)

-- ---- codes
module _ (mark : ℕ) where
  codes-short : (codes : List (List ℕ)) → each (text_fits code_limit) codes ≡ true → length (marked 32 (code_words mark codes)) ≤ 22 * length codes
  codes-short [] e = omega (arith, marked-none)
  codes-short (c ∷ codes) e =
      let both = and_both (text_fits code_limit c) (each (text_fits code_limit) codes) e in
      let size = (and_both (within 1 code_limit (length c)) (all plain c) both.0).0 in
      omega (arith, marked-line (mark ∷ c) (code_words mark codes), codes-short codes both.1, within_bounds 1 code_limit (length c) size)

  gone-short : (codes others : List (List ℕ)) → length (marked 32 (code_words mark (gone codes others))) ≤ length (marked 32 (code_words mark codes))
  unfolding gone keep
  gone-short [] others = omega arith
  gone-short (c ∷ codes) others = by (not (among c others)) (gone-short codes others)
    where
      rest : List (List ℕ)
      rest = gone codes others

      by : (t : Bool) → length (marked 32 (code_words mark rest)) ≤ length (marked 32 (code_words mark codes)) → length (marked 32 (code_words mark (cond t (c ∷ rest) rest))) ≤ length (marked 32 (code_words mark (c ∷ codes)))
      by true h = omega (arith, h, marked-line (mark ∷ c) (code_words mark rest), marked-line (mark ∷ c) (code_words mark codes))
      by false h = omega (arith, h, marked-line (mark ∷ c) (code_words mark codes))

  set-short : (codes : List (List ℕ)) → set_fits codes ≡ true → length (marked 32 (code_words mark codes)) ≤ 22528
  set-short codes e =
      let both = and_both (within 1 code_count_limit (length codes)) (each (text_fits code_limit) codes) e in
      omega (arith, codes-short codes both.1, within_bounds 1 code_count_limit (length codes) both.0)

  sets-short : (sets : List (List (List ℕ))) (n : ℕ) → each set_fits sets ≡ true → length (marked 32 (code_words mark (get_or sets n []))) ≤ 22528
  sets-short [] n e = omega (arith, marked-none)
  sets-short (codes ∷ sets) zero e = set-short codes (and_both (set_fits codes) (each set_fits sets) e).0
  sets-short (codes ∷ sets) (suc n) e = sets-short sets n (and_both (set_fits codes) (each set_fits sets) e).1

  rule-codes-short : (sets : List (List (List ℕ))) → each set_fits sets ≡ true → (k : Kind) → length (marked 32 (code_words mark (codes_of sets k))) ≤ 22528
  rule-codes-short sets e Kind.Required = omega (arith, marked-none)
  rule-codes-short sets e (Kind.Length low high) = omega (arith, marked-none)
  rule-codes-short sets e Kind.Number = omega (arith, marked-none)
  rule-codes-short sets e Kind.Date = omega (arith, marked-none)
  rule-codes-short sets e (Kind.Time digits) = omega (arith, marked-none)
  rule-codes-short sets e (Kind.Code set) = sets-short sets (set - 1) e

-- ---- lines of a rule
module _ (key : List ℕ) (short : length key ≤ key_limit) where
  line-short : (mark n : ℕ) (r : Rule) (words : List (List ℕ)) → length (joined 32 (rule_line key mark n r words)) ≤ 98 + length (marked 32 words)
  unfolding rule_line
  line-short mark n r words =
      let kind = kind_word r.kind ∷ words in
      let place = place_word r.place ∷ kind in
      let number = decimal n ∷ place in
      omega (
        arith,
        joined_line key ((mark ∷ []) ∷ number),
        marked-line (mark ∷ []) number,
        marked-line (decimal n) place,
        marked-line (place_word r.place) kind,
        marked-line (kind_word r.kind) words,
        decimal-short n,
        place_short r.place,
        kind_short r.kind,
      )

  whole-short : (mark n : ℕ) (r : Rule) (codes : List (List ℕ)) → length (marked 32 (code_words mark codes)) ≤ 22528 → (test : Bool) → length (printed (unless test (whole_line key mark n r codes))) ≤ 22671
  whole-short mark n r codes h test =
      let words = number_words r.kind ++ code_words mark codes in
      omega (
        arith,
        one_short (whole_line key mark n r codes) test,
        line-short mark n r (severity_word r ∷ words),
        marked-line (severity_word r) words,
        marked_sum (number_words r.kind) (code_words mark codes),
        numbers-short r.kind,
        h,
      )

  severity_short : (n : ℕ) (r s : Rule) → length (printed (severity_lines key n r s)) ≤ 106
  severity_short n r s =
      let words = severity_word r ∷ bytes "->" ∷ severity_word s ∷ [] in
      omega (
        arith,
        one_short (rule_line key (code "~") n r words) (eqb (severity_letter r.severity) (severity_letter s.severity)),
        line-short (code "~") n r words,
        marked-line (severity_word r) (bytes "->" ∷ severity_word s ∷ []),
        marked-line (bytes "->") (severity_word s ∷ []),
        marked-line (severity_word s) [],
        marked-none,
      )

  number_short : (n : ℕ) (r s : Rule) → length (printed (number_lines key n r s)) ≤ 186
  number_short n r s =
      let words = number_words r.kind ++ (bytes "->" ∷ number_words s.kind) in
      omega (
        arith,
        one_short (rule_line key (code "~") n r words) (same_numbers r.kind s.kind),
        line-short (code "~") n r words,
        marked_sum (number_words r.kind) (bytes "->" ∷ number_words s.kind),
        marked-line (bytes "->") (number_words s.kind),
        numbers-short r.kind,
        numbers-short s.kind,
      )

  codes-line-short : (n : ℕ) (r : Rule) (codes others : List (List ℕ)) → length (marked 32 (code_words (code "-") codes)) ≤ 22528 → length (marked 32 (code_words (code "+") others)) ≤ 22528
      → length (printed (code_lines key n r codes others)) ≤ 45155
  codes-line-short n r codes others h k =
      let less = code_words (code "-") (gone codes others) in
      let more = code_words (code "+") (gone others codes) in
      omega (
        arith,
        one_short (rule_line key (code "~") n r (less ++ more)) (same_codes codes others),
        line-short (code "~") n r (less ++ more),
        marked_sum less more,
        gone-short (code "-") codes others,
        gone-short (code "+") others codes,
      )

  moved-short : (n m : ℕ) (r : Rule) → length (printed (moved_lines key n m r)) ≤ 125
  moved-short n m r =
      let kind = kind_word r.kind ∷ [] in
      let place = place_word r.place ∷ kind in
      let to = decimal m ∷ place in
      let arrow = bytes "->" ∷ to in
      let from = decimal n ∷ arrow in
      omega (
        arith,
        one_short (key ∷ bytes "#" ∷ from) (eqb n m),
        joined_line key (bytes "#" ∷ from),
        marked-line (bytes "#") from,
        marked-line (decimal n) arrow,
        marked-line (bytes "->") to,
        marked-line (decimal m) place,
        marked-line (place_word r.place) kind,
        marked-line (kind_word r.kind) [],
        marked-none,
        decimal-short n,
        decimal-short m,
        place_short r.place,
        kind_short r.kind,
      )

  changes-short : (n m : ℕ) (r s : Rule) (codes others : List (List ℕ)) → length (marked 32 (code_words (code "-") codes)) ≤ 22528 → length (marked 32 (code_words (code "+") others)) ≤ 22528
      → length (printed (changes key n m r s codes others)) ≤ 45572
  unfolding changes
  changes-short n m r s codes others h k =
      let a = severity_lines key n r s in
      let b = number_lines key n r s in
      let c = code_lines key n r codes others in
      let d = moved_lines key n m r in
      omega (
        arith,
        printed-append a (b ++ (c ++ d)),
        printed-append b (c ++ d),
        printed-append c d,
        severity_short n r s,
        number_short n r s,
        codes-line-short n r codes others h k,
        moved-short n m r,
      )

-- ---- many
flat_count : (f : ℕ → Lines) (k : ℕ) → ((i : ℕ) → length (printed (f i)) ≤ k) → (i n : ℕ) → length (printed (flat_map f (count_from i n))) ≤ k * n
unfolding flat_map count_from printed
flat_count f k h i zero = omega arith
flat_count f k h i (suc n) = omega (arith, printed-append (f i) (flat_map f (count_from (suc i) n)), h i, flat_count f k h (suc i) n)

flat_each : (f : Contents → Lines) (k : ℕ) → ((c : Contents) → Fits c → length (printed (f c)) ≤ k) → (cs : List Contents) → AllFit cs → length (printed (flat_map f cs)) ≤ k * length cs
unfolding flat_map printed
flat_each f k h [] e = omega arith
flat_each f k h (c ∷ cs) e = omega (arith, printed-append (f c) (flat_map f cs), h c e.0, flat_each f k h cs e.1)

-- ---- sections
key-short : (c : Contents) → Fits c → length c.key ≤ key_limit
key-short c f = (within_bounds 1 key_limit (length c.key) (and_both (within 1 key_limit (length c.key)) (all plain c.key) f.key).0).1

module _ (c d : Contents) (h : Fits c) (k : Fits d) where
  old_short : (i : ℕ) → length (printed (old_lines c d i)) ≤ 45572
  unfolding old_lines
  old_short i = by (counterpart (spots c.rules) (spots d.rules) i)
    where
      gone_one : (b : Bool) (m : ℕ) → length (printed (cond b (whole_line c.key (code "-") (suc i) (rule_at c i) (codes_for c i) ∷ [])
          (changes c.key (suc i) m (rule_at c i) (rule_at d (m - 1)) (codes_for c i) (codes_for d (m - 1))))) ≤ 45572
      gone_one true m = omega (arith, whole-short c.key (key-short c h) (code "-") (suc i) (rule_at c i) (codes_for c i) (rule-codes-short (code "-") c.sets h.sets (rule_at c i).kind) false)
      gone_one false m =
          changes-short c.key (key-short c h) (suc i) m (rule_at c i) (rule_at d (m - 1)) (codes_for c i) (codes_for d (m - 1))
          (rule-codes-short (code "-") c.sets h.sets (rule_at c i).kind)
          (rule-codes-short (code "+") d.sets k.sets (rule_at d (m - 1)).kind)

      by : (m : ℕ) → length (printed (old_by c d i m)) ≤ 45572
      by m = gone_one (eqb m 0) m

  new_short : (i : ℕ) → length (printed (new_lines c.key (spots c.rules) d i)) ≤ 22671
  unfolding new_lines
  new_short i = whole-short c.key (key-short c h) (code "+") (suc i) (rule_at d i) (codes_for d i) (rule-codes-short (code "+") d.sets k.sets (rule_at d i).kind) (not (eqb (counterpart (spots d.rules) (spots c.rules) i) 0))

  both_short : length (printed (section_lines c d)) ≤ 17470208
  unfolding section_lines
  both_short =
      let olds = flat_map (old_lines c d) (count_from 0 (length c.rules)) in
      let news = flat_map (new_lines c.key (spots c.rules) d) (count_from 0 (length d.rules)) in
      omega (
        arith,
        printed-append olds news,
        flat_count (old_lines c d) 45572 old_short 0 (length c.rules),
        flat_count (new_lines c.key (spots c.rules) d) 22671 new_short 0 (length d.rules),
        h.few_rules,
        k.few_rules,
      )

lone_short : (mark : ℕ) (c : Contents) → Fits c → (test : Bool) → length (printed (unless test (lone_line mark c))) ≤ 31
lone_short mark c h test =
    omega (arith, one_short (lone_line mark c) test, joined_line (mark ∷ []) (bytes "section" ∷ c.key ∷ []), marked-line (bytes "section") (c.key ∷ []), marked-line c.key [], marked-none, key-short c h)

pub under-fits : (key : List ℕ) (cs : List Contents) → AllFit cs → AllFit (under key cs)
unfolding under
under-fits key [] f = f
under-fits key (c ∷ cs) f = by (same key c.key) (under-fits key cs f.1)
  where
    by : (t : Bool) → AllFit (under key cs) → AllFit (cond t (c ∷ under key cs) (under key cs))
    by true ih = (f.0, ih)
    by false ih = ih

old_section-short : (news : List Contents) → AllFit news → (c : Contents) → Fits c → length (printed (old_section news c)) ≤ 17470208
unfolding old_section
old_section-short news fit c e = by (under c.key news) (under-fits c.key news fit)
  where
    by : (ds : List Contents) → AllFit ds → length (printed (against_first c ds)) ≤ 17470208
    by [] f = omega (arith, lone_short (code "-") c e false)
    by (d ∷ ds) f = both_short c d e f.0

new_section-short : (olds : List Contents) (d : Contents) → Fits d → length (printed (new_section olds d)) ≤ 31
unfolding new_section
new_section-short olds d e = lone_short (code "+") d e (among d.key (keys olds))

-- ---- two books
pub book-formed : (b : List ℕ) → Bytes b → (malformed b ≡ false) × (other_version b ≡ false) → Formed (decoded b)
book-formed b is f = formed (decoded b) (encoded b is f.0 f.1).fits (high_decoded b is f.0 f.1)

differences-short : (olds news : List Contents) → Formed olds → Formed news → length (printed (differences olds news)) ≤ 2 ^ 40
unfolding differences
differences-short olds news f g =
    let first = flat_map (old_section news) olds in
    let second = flat_map (new_section olds) news in
    omega (
      arith,
      printed-append first second,
      flat_each (old_section news) 17470208 (old_section-short news g.fit) olds f.fit,
      flat_each (new_section olds) 31 (new_section-short olds) news g.fit,
      within_bounds 1 section_limit (length olds) f.few,
      within_bounds 1 section_limit (length news) g.few,
    )

pub diff_short : (old new : List ℕ) → Bytes old → Bytes new → (malformed old ≡ false) × (other_version old ≡ false) → (malformed new ≡ false) × (other_version new ≡ false)
    → length (printed (differences (decoded old) (decoded new))) ≤ 2 ^ 40
diff_short old new is are f g = differences-short (decoded old) (decoded new) (book-formed old is f) (book-formed new are g)

-- ---- what is told
abbrev rows : ℕ → Bool → Bool → Told
rows which m v = cond m (tell 7 which 0) (cond v (tell 8 which 0) nothing)

rows-small : (which : ℕ) → which ≤ 2 → (m v : Bool) → SmallRow (rows which m v)
rows-small which h m v =
    small-cond m (record { number = a_row refl; detail = omega arith; section = omega arith })
    (small-cond v (record { number = a_row refl; detail = omega arith; section = omega arith }) small-nothing)

pub rows_none : (which : ℕ) (m v : Bool) → (rows which m v).number ≡ 0 → (m ≡ false) × (v ≡ false)
rows_none which true v z = absurd (omega (arith, z))
rows_none which false true z = absurd (omega (arith, z))
rows_none which false false z = (refl, refl)

pub firstly-none : (a b : Told) → (firstly a b).number ≡ 0 → (a.number ≡ 0) × (b.number ≡ 0)
firstly-none a b z = by (eqb a.number 0) refl z
  where
    by : (t : Bool) → eqb a.number 0 ≡ t → (cond t b a).number ≡ 0 → (a.number ≡ 0) × (b.number ≡ 0)
    by true e z = (eqb-true a.number 0 e, z)
    by false e z = absurd (eqb-false a.number 0 e z)

pub diff_packs : (old new : List ℕ) → Bytes old → Bytes new → (out : List ℕ) → Packs (diff_of old new out).told
unfolding diff_of
diff_packs old new is are out =
    let first = rows 1 (malformed old) (other_version old) in
    let second = rows 2 (malformed new) (other_version new) in
    packs (printed (differences (decoded old) (decoded new))) out
    (small-cond (eqb first.number 0) (rows-small 2 (omega arith) (malformed new) (other_version new)) (rows-small 1 (omega arith) (malformed old) (other_version old)))
    (λ z.
    let none = firstly-none first second z in
    omega (arith, diff_short old new is are (rows_none 1 (malformed old) (other_version old) none.0) (rows_none 2 (malformed new) (other_version new) none.1)))
