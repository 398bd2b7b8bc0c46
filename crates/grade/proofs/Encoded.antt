-- Bytes that decode are the encoding of what they decode to: each reader takes the bytes of what it found, and leaves the rest. Assumes nothing.
use Rattle.std.specs.Prelude.{Option, Some, None}
use Prim.Native.Nat.{ℕ, zero, suc, ◌+◌, ◌-◌, ◌*◌, ◌/◌, ◌%◌, ◌<◌, ◌≤◌}
use native.Mathlib.Omega.{arith}
use mathlib.Core.Path.{◌≡◌, refl, sym, ap, ap₂, ◌∙◌}
use mathlib.Core.Bool.{Bool, true, false, cond, not, ◌&&◌, ◌||◌, false≢true}
use mathlib.Core.List.{List, [], ◌∷◌, ◌++◌, append_assoc, append-nil}
use lib.Dec.{eqb, leb}
use borrow.Author.Tests.{eqb-true, leb-true, not-false}
use lib.ListN.{length, get_or, drop, take-append-drop}
use lib.Seq.{slice, length-slice, drop-drop, drop-length}
use Rattle.hl7.specs.Text.{bytes}
use Rattle.hl7.specs.Bytes.{within, all, begins}
use Rattle.hl7.proofs.Comparing.{and_both, rest_at, part_slice}
use Rattle.grade.specs.declared.rule.Severity.{Severity}
use Rattle.grade.specs.declared.rule.Kind.{Kind}
use Rattle.grade.specs.declared.rule.Place.{Place}
use Rattle.grade.specs.declared.rule.Rule.{Rule}
use Rattle.grade.specs.Limits.{head_size, book_limit, book_version, key_limit, code_limit, rule_size}
use Rattle.grade.specs.Reader.{Parsed, fault, found, is_found, items_of, Reader, pair, times}
use Rattle.grade.specs.Rule.{severity_of, severity_letter, kind_of, unused_zero, rule_of, rule_fits}
use Rattle.grade.specs.Book.{text, code_set, rule_in, Contents, section, sections, head_right, version, malformed, other_version, decoded}
use Rattle.grade.specs.Standing.{text_end, site_at}
use Rattle.grade.specs.Encoding.{two_bytes_of, spell_all, text_bytes, set_bytes, kind_byte, last_bytes, rule_bytes, section_bytes, book_bytes, each, text_fits, set_fits, section_fits, well_formed}
use Rattle.grade.proofs.Readings.{found-same, row-found, row-length, cond_gave}
use Rattle.grade.proofs.Naming.{name_letters}
use Rattle.grade.proofs.Parts.{TextRead, text_read, set_is, rule_found, rule-made, read_fits, section_parts, set-count, BookParts, book_parts}
use Rattle.grade.proofs.Holding.{place_limits}

-- from a position on stand the letters, and then what is left at another position
pub record Spelt (b : List ℕ) (at : ℕ) (letters : List ℕ) (end : ℕ) : Type 0 where
  pub left : drop at b ≡ letters ++ drop end b

spelt_join : {b : List ℕ} {at m e : ℕ} {xs ys : List ℕ} → Spelt b at xs m → Spelt b m ys e → Spelt b at (xs ++ ys) e
spelt_join {b} {at} {m} {e} {xs} {ys} x y =
    record { left = x.left ∙ ap (λ (zs : List ℕ). xs ++ zs) y.left ∙ sym (append_assoc xs ys (drop e b)) }

-- lists that are put together are spelt one after the other
pub spell_append : {A : Type 0} (spell : A → List ℕ) (xs ys : List A) → spell_all spell (xs ++ ys) ≡ spell_all spell xs ++ spell_all spell ys
spell_append spell [] ys = refl
spell_append spell (x ∷ xs) ys = ap (λ (l : List ℕ). spell x ++ l) (spell_append spell xs ys) ∙ sym (append_assoc (spell x) (spell_all spell xs) (spell_all spell ys))

-- a reader takes only the bytes that encode what it found
abbrev pub Spells : {A : Type 0} → List ℕ → Reader A → (A → List ℕ) → Type 0
Spells {A} b p spell = (at : ℕ) (a : A) (end : ℕ) → p b at ≡ found a end → Spelt b at (spell a) end

spells_row : {A : Type 0} (b : List ℕ) (p : Reader A) (spell : A → List ℕ) → Spells b p spell →
    (n at : ℕ) (xs : List A) (end : ℕ) → times n p b at ≡ found xs end → Spelt b at (spell_all spell xs) end
unfolding times
spells_row {A} b p spell f zero at xs end q =
    let w = found-same [] xs at end q in
    record { left = ap (λ (k : ℕ). drop k b) w.1 ∙ ap (λ (ys : List A). spell_all spell ys ++ drop end b) w.0 }
spells_row {A} b p spell f (suc n) at xs end q =
    let s = row-found p b (suc n) at xs end (omega arith) q in
    let m : suc n - 1 ≡ n = omega arith in
    let x = spells_row b p spell f n s.1 s.2 end (rw m at s.4) in
    record { left = (spelt_join (f at s.0 s.1 s.3) x).left ∙ ap (λ (ys : List A). spell_all spell ys ++ drop end b) (sym s.5) }

-- a part, and what is left after it
part_left : (b : List ℕ) (at n : ℕ) → drop at b ≡ slice at (at + n) b ++ drop (at + n) b
part_left b at n =
    let e : at + n - at ≡ n = omega arith in
    sym (take-append-drop n (drop at b)) ∙ ap₂ ◌++◌ (rw e at (part_slice b at (at + n) (omega arith))) (drop-drop n at b)

-- the length byte of a text that was read
text_size : (limit : ℕ) (b : List ℕ) (at : ℕ) (letters : List ℕ) (end : ℕ) → TextRead limit b at letters end → get_or b at 0 ≡ length letters
text_size limit b at letters end t =
    let size = get_or b at 0 in
    let e : at + 1 + size - (at + 1) ≡ size = omega arith in
    sym (ap length t.is ∙ length-slice (at + 1) (at + 1 + size) b t.fits.ends ∙ e)

spells_text : (limit : ℕ) (b : List ℕ) → Spells b (text limit) text_bytes
spells_text limit b at letters end q =
    let t = text_read limit b at letters end q in
    record {
      left =
          rest_at b at t.fits.starts
          ∙ ap₂ ◌∷◌ (text_size limit b at letters end t)
          (part_left b (at + 1) (get_or b at 0) ∙ ap₂ ◌++◌ (sym t.is) (ap (λ (k : ℕ). drop k b) (sym t.ends)));
    }

-- every number is a byte
abbrev pub Bytes : List ℕ → Type 0
Bytes b = (k : ℕ) → get_or b k 0 < 256

module _ (b : List ℕ) (small : Bytes b) where
  two_spelt : (at : ℕ) → at + 2 ≤ length b → Spelt b at (two_bytes_of (pair b at)) (at + 2)
  two_spelt at h =
      let high : get_or b at 0 ≡ (get_or b at 0 * 256 + get_or b (at + 1) 0) / 256 = omega (arith, small (at + 1)) in
      let low : get_or b (at + 1) 0 ≡ (get_or b at 0 * 256 + get_or b (at + 1) 0) % 256 = omega (arith, small (at + 1)) in
      let e : at + 1 + 1 ≡ at + 2 = omega arith in
      record { left = rest_at b at (omega arith) ∙ ap₂ ◌∷◌ high (rest_at b (at + 1) (omega arith) ∙ ap₂ ◌∷◌ low (ap (λ (k : ℕ). drop k b) e)) }

  spells_set : Spells b code_set set_bytes
  spells_set at codes end q =
      let s = set_is b at (ap is_found q) in
      let r = sym (s.1 (pair b at) refl) ∙ q in
      let l = row-length (text code_limit) b (pair b at) (at + 2) codes end r in
      rw l
      (spelt_join (two_spelt at s.0)
      (spells_row b (text code_limit) text_bytes (spells_text code_limit b) (pair b at) (at + 2) codes end r))

-- ---- the ten bytes of a rule

severity_spelt : (x : ℕ) (severity : Severity) → severity_of x ≡ Some severity → x ≡ severity_letter severity
unfolding severity_of
severity_spelt x severity =
    cond_gave (eqb x 69) _ _ (Some severity) (λ t h. eqb-true x 69 t ∙ ap severity_letter (same_severity Severity.Error h))
    (cond_gave (eqb x 87) _ _ (Some severity) (λ t h. eqb-true x 87 t ∙ ap severity_letter (same_severity Severity.Warning h))
    (cond_gave (eqb x 73) _ _ (Some severity) (λ t h. eqb-true x 73 t ∙ ap severity_letter (same_severity Severity.Informational h))
    (λ h. none h)))
  where
    same_severity : (made : Severity) → Some made ≡ Some severity → made ≡ severity
    same_severity made h = cc

    none : None ≡ Some severity → x ≡ severity_letter severity
    none h = let z : ◌≡◌ {A = ℕ} 0 1 = cc in absurd (omega arith)

-- the kind's number and the last three bytes
module _ (number set low high : ℕ) (kind : Kind) (zero : unused_zero kind set low high ≡ true) where
  abbrev KindSpelt : Type 0
  KindSpelt = (number ≡ kind_byte kind) × (set ∷ low ∷ high ∷ [] ≡ last_bytes kind)

  kind_case : (k : ℕ) (made : Kind) (rest : Option Kind) → k ≡ kind_byte made → (unused_zero made set low high ≡ true → set ∷ low ∷ high ∷ [] ≡ last_bytes made) →
      (rest ≡ Some kind → KindSpelt) → cond (eqb number k) (Some made) rest ≡ Some kind → KindSpelt
  kind_case k made rest e l g = cond_gave (eqb number k) (Some made) rest (Some kind) (λ u h. go (eqb-true number k u) h) g
    where
      go : number ≡ k → Some made ≡ Some kind → KindSpelt
      go u h = let q : made ≡ kind = cc in (u ∙ e ∙ ap kind_byte q, l (rw q zero) ∙ ap last_bytes q)

  kind_spelt : kind_of number set low high ≡ Some kind → KindSpelt
  unfolding kind_of
  kind_spelt =
      kind_case 1 Kind.Required _ refl (λ t. nothing t)
      (kind_case 2 (Kind.Length low high) _ refl (λ t. ap (λ (x : ℕ). x ∷ low ∷ high ∷ []) (eqb-true set 0 t))
      (kind_case 3 Kind.Number _ refl (λ t. nothing t)
      (kind_case 4 Kind.Date _ refl (λ t. nothing t)
      (kind_case 5 (Kind.Time low) _ refl (λ t. let w = and_both (eqb set 0) (eqb high 0) t in rw (eqb-true set 0 w.0, eqb-true high 0 w.1))
      (kind_case 6 (Kind.Code set) _ refl (λ t. let w = and_both (eqb low 0) (eqb high 0) t in rw (eqb-true low 0 w.0, eqb-true high 0 w.1))
      (λ h. none h))))))
    where
      nothing : (eqb set 0 && eqb low 0 && eqb high 0) ≡ true → ◌≡◌ {A = List ℕ} (set ∷ low ∷ high ∷ []) (0 ∷ 0 ∷ 0 ∷ [])
      nothing t =
          let w = and_both _ (eqb high 0) t in
          let v = and_both (eqb set 0) (eqb low 0) w.0 in
          rw (eqb-true set 0 v.0, eqb-true low 0 v.1, eqb-true high 0 w.1)

      none : None ≡ Some kind → KindSpelt
      none h = let z : ◌≡◌ {A = ℕ} 0 1 = cc in absurd (omega arith)

-- a list as its elements
abbrev tab : ℕ → (ℕ → ℕ) → List ℕ
tab zero f = []
tab (suc n) f = f zero ∷ tab n (λ (k : ℕ). f (suc k))

tab_self : (l : List ℕ) (n : ℕ) → length l ≡ n → l ≡ tab n (λ (k : ℕ). get_or l k 0)
tab_self [] n h = rw (← h)
tab_self (x ∷ l) n h = rw (← h) (ap (λ (xs : List ℕ). x ∷ xs) (tab_self l (length l) refl))

rule_bytes_lem : (sets : ℕ) (ten : List ℕ) (r : Rule) → length ten ≡ rule_size → rule_of sets ten ≡ Some r → ten ≡ rule_bytes r
rule_bytes_lem sets ten r l h =
    let m = rule-made sets ten r h in
    let p = place_limits sets r m.fits in
    let s = name_letters (get_or ten 0 0) (get_or ten 1 0) (get_or ten 2 0) r.place.segment p.segment (ap (λ (x : Place). x.segment) m.place) in
    let k = kind_spelt (get_or ten 5 0) (get_or ten 7 0) (get_or ten 8 0) (get_or ten 9 0) r.kind m.zero m.kind in
    tab_self ten rule_size l
    ∙ ap₂ ◌++◌ s
    (ap₂ ◌∷◌ (ap (λ (x : Place). x.field) m.place)
    (ap₂ ◌∷◌ (ap (λ (x : Place). x.component) m.place)
    (ap₂ ◌∷◌ k.0 (ap₂ ◌∷◌ (severity_spelt (get_or ten 6 0) r.severity m.severity) k.1))))

spells_rule : (sets : ℕ) (b : List ℕ) → Spells b (rule_in sets) rule_bytes
spells_rule sets b at r end q =
    let w = rule_found sets b at r end q in
    let e : at + rule_size - at ≡ rule_size = omega arith in
    let t = rule_bytes_lem sets (slice at (at + rule_size) b) r (length-slice at (at + rule_size) b w.0 ∙ e) w.1 in
    record { left = part_left b at rule_size ∙ ap₂ ◌++◌ t (ap (λ (k : ℕ). drop k b) (sym w.2)) }

-- ---- a section, and the book

module _ (b : List ℕ) (small : Bytes b) where
  spells_section : Spells b section section_bytes
  spells_section at c end q =
      let p = section_parts b at c end q in
      let s = site_at b at in
      let k = text_end b at in
      let rl = row-length (rule_in s.set_count) b s.rule_count s.rules_at c.rules s.sets_at p.rules_read in
      let sl = row-length code_set b s.set_count s.sets_at c.sets end p.sets_read in
      let e : k + 2 + 1 ≡ s.rules_at = omega arith in
      let two : Spelt b k (two_bytes_of (length c.rules)) (k + 2) = rw rl (two_spelt b small k (omega (arith, p.inside))) in
      let one : Spelt b (k + 2) (length c.sets ∷ []) s.rules_at =
      record { left = rest_at b (k + 2) (omega (arith, p.inside)) ∙ ap₂ ◌∷◌ (sym sl) (ap (λ (x : ℕ). drop x b) e) } in
      let rules = spells_row b (rule_in s.set_count) rule_bytes (spells_rule s.set_count b) s.rule_count s.rules_at c.rules s.sets_at p.rules_read in
      let sets = spells_row b code_set set_bytes (spells_set b small) s.set_count s.sets_at c.sets end p.sets_read in
      spelt_join (spells_text key_limit b at c.key k p.key_read) (spelt_join two (spelt_join one (spelt_join rules sets)))

all-length : (b : List ℕ) (all : List Contents) → BookParts b all → length all ≡ get_or b head_size 0
all-length b all p = row-length section b (get_or b head_size 0) (head_size + 1) all (length b) p.read

sections-spelt : (b : List ℕ) → Bytes b → (all : List Contents) → BookParts b all → drop head_size b ≡ length all ∷ spell_all section_bytes all
sections-spelt b small all p =
    let x = spells_row b section section_bytes (spells_section b small) (get_or b head_size 0) (head_size + 1) all (length b) p.read in
    rest_at b head_size p.room
    ∙ ap₂ ◌∷◌ (sym (all-length b all p)) (x.left ∙ ap (λ (xs : List ℕ). spell_all section_bytes all ++ xs) (drop-length b) ∙ append-nil (spell_all section_bytes all))

-- mark and version
head-spelt : (b : List ℕ) → head_right b ≡ true → eqb (version b) book_version ≡ true → b ≡ bytes "VXB" ++ (two_bytes_of book_version ++ drop head_size b)
unfolding head_right begins
head-spelt b h v =
    let w = and_both (within head_size book_limit (length b)) (begins (bytes "VXB") b) h in
    go b (leb-true head_size (length b) (and_both (leb head_size (length b)) (leb (length b) book_limit) w.0).0) w.1 (eqb-true (version b) book_version v)
  where
    go : (b : List ℕ) → head_size ≤ length b → begins (bytes "VXB") b ≡ true → version b ≡ book_version → b ≡ bytes "VXB" ++ (two_bytes_of book_version ++ drop head_size b)
    go [] l m v = absurd (omega arith)
    go (x ∷ []) l m v = absurd (omega arith)
    go (x ∷ y ∷ []) l m v = absurd (omega arith)
    go (x ∷ y ∷ z ∷ []) l m v = absurd (omega arith)
    go (x ∷ y ∷ z ∷ u ∷ []) l m v = absurd (omega arith)
    go (x ∷ y ∷ z ∷ u ∷ w ∷ rest) l m v =
        let p = and_both (eqb x 86) _ m in
        let q = and_both (eqb y 88) _ p.1 in
        let r = and_both (eqb z 66) true q.1 in
        let s : u ≡ 0 = omega arith in
        let t : w ≡ 1 = omega arith in
        rw (eqb-true x 86 p.0, eqb-true y 88 q.0, eqb-true z 66 r.0, s, t)

-- ---- what was read is within the limits

each_row : {A : Type 0} (b : List ℕ) (p : Reader A) (fits : A → Bool) → ((at : ℕ) (a : A) (end : ℕ) → p b at ≡ found a end → fits a ≡ true) →
    (n at : ℕ) (xs : List A) (end : ℕ) → times n p b at ≡ found xs end → each fits xs ≡ true
unfolding times
each_row {A} b p fits f zero at xs end q = ap (each fits) (sym (found-same [] xs at end q).0)
each_row {A} b p fits f (suc n) at xs end q =
    let s = row-found p b (suc n) at xs end (omega arith) q in
    let m : suc n - 1 ≡ n = omega arith in
    let x = each_row b p fits f n s.1 s.2 end (rw m at s.4) in
    ap (each fits) s.5 ∙ rw (f at s.0 s.1 s.3) x

text_fits_lem : (limit : ℕ) (b : List ℕ) (at : ℕ) (letters : List ℕ) (end : ℕ) → text limit b at ≡ found letters end → text_fits limit letters ≡ true
text_fits_lem limit b at letters end q =
    let t = text_read limit b at letters end q in
    rw (← text_size limit b at letters end t, t.sized) t.plainly

set_fits_lem : (b : List ℕ) (at : ℕ) (codes : List (List ℕ)) (end : ℕ) → code_set b at ≡ found codes end → set_fits codes ≡ true
set_fits_lem b at codes end q =
    let s = set_is b at (ap is_found q) in
    let r = sym (s.1 (pair b at) refl) ∙ q in
    rw (row-length (text code_limit) b (pair b at) (at + 2) codes end r, set-count b at codes end q)
    (each_row b (text code_limit) (text_fits code_limit) (text_fits_lem code_limit b) (pair b at) (at + 2) codes end r)

section_fits_lem : (b : List ℕ) (at : ℕ) (c : Contents) (end : ℕ) → section b at ≡ found c end → section_fits c ≡ true
section_fits_lem b at c end q =
    let p = section_parts b at c end q in
    let s = site_at b at in
    let rl = row-length (rule_in s.set_count) b s.rule_count s.rules_at c.rules s.sets_at p.rules_read in
    let sl = row-length code_set b s.set_count s.sets_at c.sets end p.sets_read in
    let rules = each_row b (rule_in s.set_count) (rule_fits s.set_count) (rule_fits_lem b s.set_count) s.rule_count s.rules_at c.rules s.sets_at p.rules_read in
    let sets = each_row b code_set set_fits (set_fits_lem b) s.set_count s.sets_at c.sets end p.sets_read in
    rw (text_fits_lem key_limit b at c.key (text_end b at) p.key_read, rl, sl, p.few, rules) sets
  where
    rule_fits_lem : (b : List ℕ) (sets at : ℕ) (r : Rule) (end : ℕ) → rule_in sets b at ≡ found r end → rule_fits sets r ≡ true
    rule_fits_lem b sets at r end q = read_fits sets _ r (rule_found sets b at r end q).1

-- ---- the book

all_fit : (b : List ℕ) (all : List Contents) → BookParts b all → head_right b ≡ true → b ≡ book_bytes all → well_formed all ≡ true
unfolding well_formed head_right
all_fit b all p h e =
    let l = (and_both (leb head_size (length b)) (leb (length b) book_limit) (and_both (within head_size book_limit (length b)) (begins (bytes "VXB") b) h).0).1 in
    let s = each_row b section section_fits (section_fits_lem b) (get_or b head_size 0) (head_size + 1) all (length b) p.read in
    rw (all-length b all p, p.few, s, p.differ, ← e) l

-- a book that is not refused is the encoding of what it decodes to, and that is well-formed
pub record Encoded (b : List ℕ) : Type 0 where
  pub is : b ≡ book_bytes (decoded b)
  pub fits : well_formed (decoded b) ≡ true

pub encoded : (b : List ℕ) → Bytes b → malformed b ≡ false → other_version b ≡ false → Encoded b
unfolding malformed other_version decoded book_bytes
encoded b small m v = go (head_right b) (sections b head_size) refl refl (not-false (eqb (version b) book_version) v) m
  where
    go : (t : Bool) (r : Parsed (List Contents)) → head_right b ≡ t → sections b head_size ≡ r → eqb (version b) book_version ≡ true →
        (not t || eqb (version b) book_version && not (is_found r)) ≡ false → Encoded b
    go true (found all end) h e v m =
        let p = book_parts b all end e in
        let d : all ≡ decoded b = ap items_of (sym e) in
        let w = head-spelt b h v ∙ ap (λ (xs : List ℕ). bytes "VXB" ++ (two_bytes_of book_version ++ xs)) (sections-spelt b small all p) in
        record { is = w ∙ ap book_bytes d; fits = ap well_formed (sym d) ∙ all_fit b all p h w }
    go true fault h e v m = absurd (false≢true (sym m ∙ rw v))
    go false r h e v m = absurd (false≢true (sym m))
