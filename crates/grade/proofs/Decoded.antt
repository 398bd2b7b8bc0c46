-- An encoding decodes: each reader finds what the bytes at its position encode, where that is within its limits. Assumes nothing.
use Rattle.std.specs.Prelude.{Some}
use Prim.Native.Nat.{ℕ, suc, ◌+◌, ◌-◌, ◌*◌, ◌/◌, ◌%◌, ◌<◌, ◌≤◌}
use native.Mathlib.Nat.{add-zero}
use native.Mathlib.Omega.{arith}
use mathlib.Core.Path.{◌≡◌, refl, sym, ap, ◌∙◌}
use mathlib.Core.Bool.{Bool, true, false, ◌&&◌}
use mathlib.Core.List.{List, [], ◌∷◌, ◌++◌, append_assoc, append-nil}
use lib.Dec.{eqb, leb, lit≤}
use borrow.Author.Tests.{le-leb, eq-eqb, leb-true}
use lib.ListN.{length, get_or, drop, length-drop, length-append}
use lib.Seq.{slice, drop-drop, take-append_seam, drop-append_seam}
use Rattle.hl7.specs.Bytes.{within, all, same, begins}
use Rattle.hl7.proofs.Comparing.{and_both, part_slice, drop_head, same_equal}
use Rattle.grade.specs.declared.rule.Severity.{Severity}
use Rattle.grade.specs.declared.rule.Kind.{Kind}
use Rattle.grade.specs.declared.rule.Rule.{Rule}
use Rattle.grade.specs.Limits.{head_size, book_limit, book_version, section_limit, key_limit, rule_limit, rule_size, set_limit, code_limit, code_count_limit}
use Rattle.grade.specs.Reader.{found, items_of, Reader, run, two_bytes, byte, times}
use Rattle.grade.specs.Rule.{counted, segment_names, name_bytes, name_of_letters, severity_of, severity_letter, kind_of, unused_zero, rule_said, rule_of, rule_fits}
use Rattle.grade.specs.Book.{plain, text, code_set, rule_in, Contents, section, sections, distinct, keys, head_right, version, malformed, other_version, decoded}
use Rattle.grade.specs.Encoding.{two_bytes_of, spell_all, text_bytes, set_bytes, kind_byte, last_bytes, rule_bytes, section_bytes, book_bytes, each, text_fits, set_fits, section_fits, well_formed}
use Rattle.grade.proofs.Naming.{at-counted, letters_name}
use Rattle.grade.proofs.Holding.{place_limits}

module _ (b : List ℕ) where
  -- ---- a byte, two bytes, a run

  room_at : (at x : ℕ) (rest : List ℕ) → drop at b ≡ x ∷ rest → at < length b
  room_at at x rest e = omega (arith, length-drop at b, ap length e)

  -- what follows the letters that stand at a position
  past : (at : ℕ) (letters rest : List ℕ) → drop at b ≡ letters ++ rest → drop (at + length letters) b ≡ rest
  past at letters rest e = sym (drop-drop (length letters) at b) ∙ ap (drop (length letters)) e ∙ drop-append_seam letters rest

  read_byte : (at x : ℕ) (rest : List ℕ) → drop at b ≡ x ∷ rest → byte b at ≡ found x (at + 1)
  read_byte at x rest e =
      let h = room_at at x rest e in
      rw (le-leb (at + 1) (length b) (omega arith)) (ap (λ (v : ℕ). found v (at + 1)) (drop_head b at x rest e 0))

  read_two : (at n : ℕ) (rest : List ℕ) → drop at b ≡ two_bytes_of n ++ rest → two_bytes b at ≡ found n (at + 2)
  read_two at n rest e =
      let f = past at (n / 256 ∷ []) (n % 256 ∷ rest) e in
      let h = room_at (at + 1) (n % 256) rest f in
      let m : get_or b at 0 * 256 + get_or b (at + 1) 0 ≡ n = omega (arith, drop_head b at (n / 256) (n % 256 ∷ rest) e 0, drop_head b (at + 1) (n % 256) rest f 0) in
      rw (le-leb (at + 2) (length b) (omega arith)) (ap (λ (v : ℕ). found v (at + 2)) m)

  read_run : (at n : ℕ) (letters rest : List ℕ) → drop at b ≡ letters ++ rest → length letters ≡ n → 1 ≤ n → run n b at ≡ found letters (at + n)
  read_run at n letters rest e l h =
      let k : at + n ≤ length b = omega (arith, length-drop at b, ap length e, length-append letters rest) in
      let d : at + n - at ≡ length letters = omega arith in
      let s : slice at (at + n) b ≡ letters = sym (part_slice b at (at + n) (omega arith)) ∙ rw (d, e) (take-append_seam letters rest) in
      rw (le-leb (at + n) (length b) k) (ap (λ (v : List ℕ). found v (at + n)) s)

  -- ---- a row, texts, sets

  -- a reader finds what is encoded at its position
  abbrev Reads : {A : Type 0} → Reader A → (A → List ℕ) → (A → Bool) → Type 0
  Reads {A} p spell fits = (at : ℕ) (a : A) (rest : List ℕ) → fits a ≡ true → drop at b ≡ spell a ++ rest → p b at ≡ found a (at + length (spell a))

  read_row : {A : Type 0} (p : Reader A) (spell : A → List ℕ) (fits : A → Bool) → Reads p spell fits →
      (xs : List A) (at : ℕ) (rest : List ℕ) → each fits xs ≡ true → drop at b ≡ spell_all spell xs ++ rest → times (length xs) p b at ≡ found xs (at + length (spell_all spell xs))
  unfolding times
  read_row p spell fits f [] at rest h e = rw add-zero
  read_row p spell fits f (x ∷ xs) at rest h e =
      let t = and_both (fits x) (each fits xs) h in
      let g = e ∙ append_assoc (spell x) (spell_all spell xs) rest in
      let m = at + length (spell x) in
      let i = read_row p spell fits f xs m rest t.1 (past at (spell x) (spell_all spell xs ++ rest) g) in
      let l : m + length (spell_all spell xs) ≡ at + length (spell x ++ spell_all spell xs) = omega (arith, length-append (spell x) (spell_all spell xs)) in
      rw (f at x (spell_all spell xs ++ rest) t.0 g, i, l)

  read_text : (limit : ℕ) → Reads (text limit) text_bytes (text_fits limit)
  unfolding text
  read_text limit at letters rest h e =
      let t = and_both (within 1 limit (length letters)) (all plain letters) h in
      let k = leb-true 1 (length letters) (and_both (leb 1 (length letters)) (leb (length letters) limit) t.0).0 in
      let f = past at (length letters ∷ []) (letters ++ rest) e in
      let l : at + 1 + length letters ≡ at + suc (length letters) = omega arith in
      rw (read_byte at (length letters) (letters ++ rest) e, t.0, read_run (at + 1) (length letters) letters rest f refl k, t.1, l)

  read_set : Reads code_set set_bytes set_fits
  unfolding code_set
  read_set at codes rest h e =
      let t = and_both (within 1 code_count_limit (length codes)) (each (text_fits code_limit) codes) h in
      let f = past at (two_bytes_of (length codes)) (spell_all text_bytes codes ++ rest) e in
      let l : at + 2 + length (spell_all text_bytes codes) ≡ at + length (set_bytes codes) = omega arith in
      rw (read_two at (length codes) (spell_all text_bytes codes ++ rest) e, t.0, read_row (text code_limit) text_bytes (text_fits code_limit) (read_text code_limit) codes (at + 2) rest t.1 f, l)

-- ---- rules

abbrev three_at : ℕ → Bool
three_at n = same (name_bytes n) (get_or (name_bytes n) 0 0 ∷ get_or (name_bytes n) 1 0 ∷ get_or (name_bytes n) 2 0 ∷ [])

-- a name has three letters
three : (n : ℕ) → counted n ≡ true → name_bytes n ≡ get_or (name_bytes n) 0 0 ∷ get_or (name_bytes n) 1 0 ∷ get_or (name_bytes n) 2 0 ∷ []
unfolding name_bytes segment_names same
three n h = same_equal _ _ (at-counted three_at refl n h)

severity_back : (severity : Severity) → severity_of (severity_letter severity) ≡ Some severity
unfolding severity_of
severity_back Severity.Error = refl
severity_back Severity.Warning = refl
severity_back Severity.Informational = refl

kind_back : (kind : Kind) → kind_of (kind_byte kind) (get_or (last_bytes kind) 0 0) (get_or (last_bytes kind) 1 0) (get_or (last_bytes kind) 2 0) ≡ Some kind
unfolding kind_of
kind_back Kind.Required = refl
kind_back (Kind.Length low high) = refl
kind_back Kind.Number = refl
kind_back Kind.Date = refl
kind_back (Kind.Time digits) = refl
kind_back (Kind.Code set) = refl

zero_back : (kind : Kind) → unused_zero kind (get_or (last_bytes kind) 0 0) (get_or (last_bytes kind) 1 0) (get_or (last_bytes kind) 2 0) ≡ true
zero_back Kind.Required = refl
zero_back (Kind.Length low high) = refl
zero_back Kind.Number = refl
zero_back Kind.Date = refl
zero_back (Kind.Time digits) = refl
zero_back (Kind.Code set) = refl

last_three : (kind : Kind) → length (last_bytes kind) ≡ 3
last_three Kind.Required = refl
last_three (Kind.Length low high) = refl
last_three Kind.Number = refl
last_three Kind.Date = refl
last_three (Kind.Time digits) = refl
last_three (Kind.Code set) = refl

rule_ten : (r : Rule) (name : List ℕ) (x y z : ℕ) → name ≡ x ∷ y ∷ z ∷ [] →
    length (name ++ (r.place.field ∷ r.place.component ∷ kind_byte r.kind ∷ severity_letter r.severity ∷ last_bytes r.kind)) ≡ rule_size
rule_ten r name x y z e = rw (e, last_three r.kind)

rule_back : (sets : ℕ) (r : Rule) (name : List ℕ) (x y z : ℕ) → name ≡ x ∷ y ∷ z ∷ [] → name_of_letters x y z ≡ r.place.segment → rule_fits sets r ≡ true →
    rule_of sets (name ++ (r.place.field ∷ r.place.component ∷ kind_byte r.kind ∷ severity_letter r.severity ∷ last_bytes r.kind)) ≡ Some r
unfolding rule_of rule_said
rule_back sets r name x y z e s h = rw (e, s, severity_back r.severity, kind_back r.kind, h, zero_back r.kind)

read_rule : (b : List ℕ) (sets : ℕ) → Reads b (rule_in sets) rule_bytes (rule_fits sets)
unfolding rule_in
read_rule b sets at r rest h e =
    let n = r.place.segment in
    let p = place_limits sets r h in
    let t = three n p.segment in
    let l = rule_ten r (name_bytes n) _ _ _ t in
    let m : at + length (rule_bytes r) ≡ at + rule_size = ap (λ (k : ℕ). at + k) l in
    rw (read_run b at rule_size (rule_bytes r) rest e l (lit≤ tt), rule_back sets r (name_bytes n) _ _ _ t (letters_name n p.segment) h, m)

-- ---- a section, and the book

module _ (b : List ℕ) where
  read_section : Reads b section section_bytes section_fits
  unfolding section
  read_section at c rest h e =
      let n = length c.rules in
      let m = length c.sets in
      let rs = spell_all rule_bytes c.rules in
      let ss = spell_all set_bytes c.sets in
      let t = and_both _ (each set_fits c.sets) h in
      let u = and_both _ (each (rule_fits m) c.rules) t.0 in
      let v = and_both (text_fits key_limit c.key) (leb n rule_limit && leb m set_limit) u.0 in
      let body = two_bytes_of n ++ (m ∷ (rs ++ ss)) in
      let e1 = e ∙ append_assoc (text_bytes c.key) body rest in
      let k = at + length (text_bytes c.key) in
      let e2 = past b at (text_bytes c.key) (body ++ rest) e1 in
      let e3 = past b k (two_bytes_of n) ((m ∷ (rs ++ ss)) ++ rest) e2 in
      let e4 = past b (k + 2) (m ∷ []) ((rs ++ ss) ++ rest) e3 ∙ append_assoc rs ss rest in
      let e5 = past b (k + 2 + 1) rs (ss ++ rest) e4 in
      let rules = read_row b (rule_in m) rule_bytes (rule_fits m) (read_rule b m) c.rules (k + 2 + 1) (ss ++ rest) u.1 e4 in
      let sets = read_row b code_set set_bytes set_fits (read_set b) c.sets (k + 2 + 1 + length rs) rest t.1 e5 in
      let l : k + 2 + 1 + length rs + length ss ≡ at + length (section_bytes c) = omega (arith, length-append c.key body, length-append rs ss) in
      rw (read_text b key_limit at c.key (body ++ rest) v.0 e1, read_two b k n _ e2, read_byte b (k + 2) m _ e3, v.1, rules, sets, l)

-- what a well-formed list of sections asks
pub record Formed (cs : List Contents) : Type 0 where
  pub few : within 1 section_limit (length cs) ≡ true
  pub fit : each section_fits cs ≡ true
  pub differ : distinct (keys cs) ≡ true
  pub short : leb (length (book_bytes cs)) book_limit ≡ true

formed : (cs : List Contents) → well_formed cs ≡ true → Formed cs
unfolding well_formed
formed cs h =
    let t = and_both _ (leb (length (book_bytes cs)) book_limit) h in
    let u = and_both _ (distinct (keys cs)) t.0 in
    let v = and_both (within 1 section_limit (length cs)) (each section_fits cs) u.0 in
    record { few = v.0; fit = v.1; differ = u.1; short = t.1 }

read_book : (cs : List Contents) → Formed cs → sections (book_bytes cs) head_size ≡ found cs (length (book_bytes cs))
unfolding book_bytes sections
read_book cs f =
    let b = book_bytes cs in
    let i = read_row b section section_bytes section_fits (read_section b) cs (head_size + 1) [] f.fit (sym (append-nil (spell_all section_bytes cs))) in
    let l : head_size + 1 + length (spell_all section_bytes cs) ≡ length b = omega arith in
    rw (read_byte b head_size (length cs) (spell_all section_bytes cs) refl, f.few, i, l, eq-eqb (length b) (length b) refl, f.differ)

head_back : (cs : List Contents) → Formed cs → (head_right (book_bytes cs) ≡ true) × (eqb (version (book_bytes cs)) book_version ≡ true)
unfolding head_right book_bytes begins
head_back cs f = (rw (le-leb head_size (length (book_bytes cs)) (omega arith), f.short), refl)

-- the encoding of well-formed sections is a book that no row refuses, and it decodes to these sections
pub decodes : (cs : List Contents) → well_formed cs ≡ true →
    (malformed (book_bytes cs) ≡ false) × (other_version (book_bytes cs) ≡ false) × (decoded (book_bytes cs) ≡ cs)
unfolding malformed other_version decoded
decodes cs h =
    let f = formed cs h in
    let i = read_book cs f in
    let g = head_back cs f in
    (rw (g.0, g.1, i), rw g.1, ap items_of i)

-- so an encoding has one reading
pub one_reading : (cs cs' : List Contents) → well_formed cs ≡ true → well_formed cs' ≡ true → book_bytes cs ≡ book_bytes cs' → cs ≡ cs'
one_reading cs cs' h h' e = sym (decodes cs h).2 ∙ ap decoded e ∙ (decodes cs' h').2
