-- What a text, a set, a rule and a section that were read are made of. Assumes nothing.
use Rattle.std.specs.Prelude.{Option, Some, None}
use Prim.Native.Nat.{ℕ, ◌+◌, ◌-◌, ◌*◌, ◌<◌, ◌≤◌}
use native.Mathlib.Nat.{add-zero}
use native.Mathlib.Omega.{arith}
use mathlib.Core.Path.{◌≡◌, refl, sym, ap, ap₂, subst, subst₂, ◌∙◌}
use mathlib.Core.Bool.{Bool, true, false, cond, ◌&&◌}
use mathlib.Core.List.{List, [], ◌∷◌, map}
use borrow.Author.Tests.{eqb-true}
use lib.Dec.{eqb, leb, lit<}
use lib.ListN.{length, get_or, take}
use lib.Seq.{slice, length-slice, get_or-drop, get_or-take}
use Rattle.hl7.specs.Bytes.{within, all, same}
use Rattle.hl7.proofs.Comparing.{and_both, same_lengths}
use Rattle.grade.specs.declared.walk.Section.{Section}
use Rattle.grade.specs.declared.rule.Place.{Place}
use Rattle.grade.specs.declared.rule.Rule.{Rule}
use Rattle.grade.specs.Limits.{head_size, section_limit, key_limit, rule_limit, rule_size, set_limit, code_limit, code_count_limit}
use Rattle.grade.specs.Reader.{Parsed, found, is_found, items_of, check, times, byte, run, pair, two_bytes}
use Rattle.grade.specs.Rule.{name_of_letters, severity_of, kind_of, unused_zero, place_of, no_rule, rule_with, rule_said, rule_fits, rule_within, rule_of, is_rule}
use Rattle.grade.specs.Book.{plain, keys, text, section, rule_in, code_set, Contents, rule_read, distinct, nothing_after, sections}
use Rattle.grade.specs.Standing.{end_of, mapped, text_end, text_at, TextFits, stands_at, contents_of, contents_at, site_at, starting, SetStands}
use Rattle.grade.specs.declared.rule.Severity.{Severity}
use Rattle.grade.specs.declared.rule.Kind.{Kind}
use Rattle.grade.proofs.Readings.{then_found, found-same, check-found, byte-found, run-found, two_found, ended, is_found_lem, row_end, row_inside, row-found, starts-say}

-- ---- texts

pub record TextRead (limit : ℕ) (b : List ℕ) (at : ℕ) (letters : List ℕ) (end : ℕ) : Type 0 where
  pub fits : TextFits b at
  pub sized : within 1 limit (get_or b at 0) ≡ true
  pub plainly : all plain letters ≡ true
  pub is : letters ≡ text_at b at
  pub ends : end ≡ text_end b at

text-joined : (limit : ℕ) (b : List ℕ) (at size from from' after after' end : ℕ) (letters letters' : List ℕ) →
    (at + 1 ≤ length b) × (size ≡ get_or b at 0) × (from ≡ at + 1) → (within 1 limit size ≡ true) × (from' ≡ from) →
    (from' + size ≤ length b) × (letters' ≡ slice from' (from' + size) b) × (after ≡ from' + size) → (all plain letters' ≡ true) × (after' ≡ after) →
    found letters' after' ≡ found letters end → TextRead limit b at letters end
text-joined limit b at size from from' after after' end letters letters' h k l m n =
    record {
      fits = record { starts = omega (arith, k.1); ends = omega (arith, k.1) };
      sized = rw h.1 at k.0;
      plainly = rw (found-same letters' letters after' end n).0 at m.0;
      is = cc k.1;
      ends = cc (k.1, m.1);
    }

pub text_read : (limit : ℕ) (b : List ℕ) (at : ℕ) (letters : List ℕ) (end : ℕ) → text limit b at ≡ found letters end → TextRead limit b at letters end
unfolding text
text_read limit b at letters end h =
    let s = then_found (byte b at) _ letters end h in
    let t = then_found (check (within 1 limit s.0) b s.1) _ letters end s.3 in
    let u = then_found (run s.0 b t.1) _ letters end t.3 in
    let v = then_found (check (all plain u.0) b u.1) _ letters end u.3 in
    text-joined limit b at s.0 s.1 t.1 u.1 v.1 end letters u.0
    (byte-found b at s.0 s.1 s.2)
    (check-found (within 1 limit s.0) b s.1 t.0 t.1 t.2)
    (run-found s.0 b t.1 u.0 u.1 u.2)
    (check-found (all plain u.0) b u.1 v.0 v.1 v.2)
    v.3

-- a text ends within the book
pub text-inside : (limit : ℕ) (b : List ℕ) (at end : ℕ) → end_of (text limit b at) ≡ Some end → end ≤ length b
text-inside limit b at end h =
    let w = ended (text limit b at) end h in
    let t = text_read limit b at w.0 end w.1 in
    omega (arith, t.ends, t.fits.ends)

-- a value of another length than its length byte says is not the text
pub text_other : (b : List ℕ) (at : ℕ) (value : List ℕ) (size : ℕ) → TextFits b at → size ≡ get_or b at 0 → (size ≡ length value → ⊥) → same value (text_at b at) ≡ false
text_other b at value size f e h = same_lengths value (text_at b at) (λ l. h (omega (arith, l, e, length-slice (at + 1) (text_end b at) b f.ends)))

-- ---- sets

-- what was checked of a set that was read
pub set-count : (b : List ℕ) (at : ℕ) (set : List (List ℕ)) (end : ℕ) → code_set b at ≡ found set end → within 1 code_count_limit (pair b at) ≡ true
unfolding code_set
set-count b at set end h =
    let s = then_found (two_bytes b at) _ set end h in
    let t = then_found (check (within 1 code_count_limit s.0) b s.1) _ set end s.3 in
    let u = two_found b at s.0 s.1 s.2 in
    ap (within 1 code_count_limit) (sym u.1) ∙ (check-found (within 1 code_count_limit s.0) b s.1 t.0 t.1 t.2).0

-- a set that stands at a position is the codes after its two bytes of count
pub set_is : (b : List ℕ) (at : ℕ) → SetStands b at → (at + 2 ≤ length b) × ((count : ℕ) → count ≡ pair b at → code_set b at ≡ times count (text code_limit) b (at + 2))
unfolding code_set
set_is b at h =
    let r = is_found_lem (code_set b at) h in
    let s = then_found (two_bytes b at) _ r.0 r.1 r.2 in
    let t = then_found (check (within 1 code_count_limit s.0) b s.1) _ r.0 r.1 s.3 in
    let u = two_found b at s.0 s.1 s.2 in
    let v = check-found (within 1 code_count_limit s.0) b s.1 t.0 t.1 t.2 in
    (u.0, λ count e. go (code_set b at) r.0 r.1 r.2 count s.0 t.1 (e ∙ sym u.1) (sym (v.1 ∙ u.2)) t.3)
  where
    go : (all : Parsed (List (List ℕ))) (set : List (List ℕ)) (end : ℕ) → all ≡ found set end → (count n m : ℕ) → count ≡ n → at + 2 ≡ m →
        times n (text code_limit) b m ≡ found set end → all ≡ times count (text code_limit) b (at + 2)
    go all set end a count n m e f q = a ∙ sym (rw (e, f) q)

-- ---- rules

-- what makes a rule: what its bytes say, and that it is within its limits
pub record RuleMade (sets : ℕ) (ten : List ℕ) (r : Rule) : Type 0 where
  pub place : place_of ten ≡ r.place
  pub severity : severity_of (get_or ten 6 0) ≡ Some r.severity
  pub kind : kind_of (get_or ten 5 0) (get_or ten 7 0) (get_or ten 8 0) (get_or ten 9 0) ≡ Some r.kind
  pub fits : rule_fits sets r ≡ true
  pub zero : unused_zero r.kind (get_or ten 7 0) (get_or ten 8 0) (get_or ten 9 0) ≡ true

with_made : (p : Place) (v : Option Severity) (k : Option Kind) (r : Rule) → rule_with p v k ≡ Some r →
    (p ≡ r.place) × (v ≡ Some r.severity) × (k ≡ Some r.kind)
with_made p (Some severity) (Some kind) r e =
    let q : ◌≡◌ {A = Rule} (record { place = p; severity = severity; kind = kind }) r = cc in
    (ap (λ (x : Rule). x.place) q, ap (λ (x : Rule). Some x.severity) q, ap (λ (x : Rule). Some x.kind) q)
with_made p (Some severity) None r e = let z : ◌≡◌ {A = ℕ} 0 1 = cc in absurd (omega arith)
with_made p None k r e = let z : ◌≡◌ {A = ℕ} 0 1 = cc in absurd (omega arith)

within-made : (sets : ℕ) (ten : List ℕ) (x : Option Rule) (r : Rule) → rule_within sets ten x ≡ Some r →
    (x ≡ Some r) × ((rule_fits sets r && unused_zero r.kind (get_or ten 7 0) (get_or ten 8 0) (get_or ten 9 0)) ≡ true)
within-made sets ten (Some rule) r e =
    go (rule_fits sets rule && unused_zero rule.kind (get_or ten 7 0) (get_or ten 8 0) (get_or ten 9 0)) refl e
  where
    go : (t : Bool) → (rule_fits sets rule && unused_zero rule.kind (get_or ten 7 0) (get_or ten 8 0) (get_or ten 9 0)) ≡ t → cond t (Some rule) None ≡ Some r →
        (Some rule ≡ Some r) × ((rule_fits sets r && unused_zero r.kind (get_or ten 7 0) (get_or ten 8 0) (get_or ten 9 0)) ≡ true)
    go true h e =
        let q : rule ≡ r = cc in
        (e, rw (← q) h)
    go false h e = let z : ◌≡◌ {A = ℕ} 0 1 = cc in absurd (omega arith)
within-made sets ten None r e = let z : ◌≡◌ {A = ℕ} 0 1 = cc in absurd (omega arith)

-- a rule that was read is what its bytes say
pub read_said : (sets : ℕ) (ten : List ℕ) (r : Rule) → rule_of sets ten ≡ Some r → rule_said ten ≡ Some r
unfolding rule_of
read_said sets ten r h = (within-made sets ten (rule_said ten) r h).0

pub rule-made : (sets : ℕ) (ten : List ℕ) (r : Rule) → rule_of sets ten ≡ Some r → RuleMade sets ten r
unfolding rule_of rule_said
rule-made sets ten r h =
    let w = within-made sets ten (rule_said ten) r h in
    let p = with_made (place_of ten) (severity_of (get_or ten 6 0)) (kind_of (get_or ten 5 0) (get_or ten 7 0) (get_or ten 8 0) (get_or ten 9 0)) r w.0 in
    let t = and_both (rule_fits sets r) (unused_zero r.kind (get_or ten 7 0) (get_or ten 8 0) (get_or ten 9 0)) w.1 in
    record { place = p.0; severity = p.1; kind = p.2; fits = t.0; zero = t.1 }

-- and it is within its limits
pub read_fits : (sets : ℕ) (ten : List ℕ) (r : Rule) → rule_of sets ten ≡ Some r → rule_fits sets r ≡ true
read_fits sets ten r h = (rule-made sets ten r h).fits

slice_at : (b : List ℕ) (at n k : ℕ) → k < n → get_or (slice at (at + n) b) k 0 ≡ get_or b (at + k) 0
slice_at b at n k h = get_or-drop at (take (at + n) b) k 0 ∙ get_or-take (at + n) b (at + k) 0 (omega arith)

-- the place that stands at a position
abbrev pub place_at : List ℕ → ℕ → Place
place_at b at =
    record {
      segment = name_of_letters (get_or b at 0) (get_or b (at + 1) 0) (get_or b (at + 2) 0);
      field = get_or b (at + 3) 0;
      component = get_or b (at + 4) 0;
    }

-- what the ten bytes at a position say, read where they stand
pub said-there : (b : List ℕ) (at : ℕ) →
    rule_said (slice at (at + rule_size) b)
    ≡ rule_with (place_at b at) (severity_of (get_or b (at + 6) 0)) (kind_of (get_or b (at + 5) 0) (get_or b (at + 7) 0) (get_or b (at + 8) 0) (get_or b (at + 9) 0))
unfolding rule_said
said-there b at =
    let first : get_or (slice at (at + rule_size) b) 0 0 ≡ get_or b at 0 = slice_at b at rule_size 0 (lit< tt) ∙ ap (λ (k : ℕ). get_or b k 0) (add-zero at) in
    rw (
      first,
      slice_at b at rule_size 1 (lit< tt),
      slice_at b at rule_size 2 (lit< tt),
      slice_at b at rule_size 3 (lit< tt),
      slice_at b at rule_size 4 (lit< tt),
      slice_at b at rule_size 5 (lit< tt),
      slice_at b at rule_size 6 (lit< tt),
      slice_at b at rule_size 7 (lit< tt),
      slice_at b at rule_size 8 (lit< tt),
      slice_at b at rule_size 9 (lit< tt),
    )

-- so is the place of a rule
pub place-there : (sets : ℕ) (b : List ℕ) (at : ℕ) (r : Rule) → rule_of sets (slice at (at + rule_size) b) ≡ Some r → place_at b at ≡ r.place
place-there sets b at r h =
    (with_made (place_at b at) (severity_of (get_or b (at + 6) 0)) (kind_of (get_or b (at + 5) 0) (get_or b (at + 7) 0) (get_or b (at + 8) 0) (get_or b (at + 9) 0)) r
    (sym (said-there b at) ∙ read_said sets (slice at (at + rule_size) b) r h)).0

-- and whether there is a rule
pub rule-stands : (sets : ℕ) (b : List ℕ) (at : ℕ) (r : Rule) → rule_said (slice at (at + rule_size) b) ≡ Some r →
    (rule_fits sets r && unused_zero r.kind (get_or b (at + 7) 0) (get_or b (at + 8) 0) (get_or b (at + 9) 0)) ≡ is_rule (rule_of sets (slice at (at + rule_size) b))
unfolding rule_of
rule-stands sets b at r e =
    rw (e, slice_at b at rule_size 7 (lit< tt), slice_at b at rule_size 8 (lit< tt), slice_at b at rule_size 9 (lit< tt))
    (if_is (rule_fits sets r && unused_zero r.kind (get_or b (at + 7) 0) (get_or b (at + 8) 0) (get_or b (at + 9) 0)))
  where
    if_is : (t : Bool) → t ≡ is_rule (cond t (Some r) None)
    if_is true = refl
    if_is false = refl

pub rule_faults : (sets : ℕ) (b : List ℕ) (at : ℕ) → rule_said (slice at (at + rule_size) b) ≡ None → false ≡ is_rule (rule_of sets (slice at (at + rule_size) b))
unfolding rule_of
rule_faults sets b at e = rw e

-- a rule that was found: its ten bytes stand in the book, and say it
pub rule_found : (sets : ℕ) (b : List ℕ) (at : ℕ) (r : Rule) (e : ℕ) → rule_in sets b at ≡ found r e →
    (at + rule_size ≤ length b) × (rule_of sets (slice at (at + rule_size) b) ≡ Some r) × (e ≡ at + rule_size)
unfolding rule_in
rule_found sets b at r e h =
    let s = then_found (run rule_size b at) _ r e h in
    let t = run-found rule_size b at s.0 s.1 s.2 in
    let q = go (rule_of sets s.0) s.1 s.3 in
    (t.0, ap (rule_of sets) (sym t.1) ∙ q.0, q.1 ∙ t.2)
  where
    go : (x : Option Rule) (m : ℕ) → rule_read x b m ≡ found r e → (x ≡ Some r) × (e ≡ m)
    go (Some rule) m k = (cc, cc)
    go None m k = let z : ◌≡◌ {A = ℕ} 0 1 = cc in absurd (omega arith)

-- ---- sections

-- the readings of which a section was made, with its rules and sets where they stand
pub record SectionParts (b : List ℕ) (at : ℕ) (s : Section) (c : Contents) (end : ℕ) : Type 0 where
  pub fits : TextFits b at
  pub key_read : text key_limit b at ≡ found c.key (text_end b at)
  pub few : (leb s.rule_count rule_limit && leb s.set_count set_limit) ≡ true
  pub rules_read : times s.rule_count (rule_in s.set_count) b s.rules_at ≡ found c.rules s.sets_at
  pub sets_read : times s.set_count code_set b s.sets_at ≡ found c.sets end
  pub inside : s.sets_at ≤ length b

section-joined : (b : List ℕ) (at end counts rule_count m set_count m' rules_at sets_at : ℕ) (key : List ℕ) (rules : List Rule) (sets : List (List (List ℕ))) →
    text key_limit b at ≡ found key counts →
    (counts + 2 ≤ length b) × (rule_count ≡ pair b counts) × (m ≡ counts + 2) →
    (m + 1 ≤ length b) × (set_count ≡ get_or b m 0) × (m' ≡ m + 1) →
    ((leb rule_count rule_limit && leb set_count set_limit) ≡ true) × (rules_at ≡ m') →
    times rule_count (rule_in set_count) b rules_at ≡ found rules sets_at →
    times set_count code_set b sets_at ≡ found sets end → SectionParts b at (site_at b at) (record { key = key; rules = rules; sets = sets }) end
section-joined b at end counts rule_count m set_count m' rules_at sets_at key rules sets k h i l r s =
    let t = text_read key_limit b at key counts k in
    let from : rules_at ≡ text_end b at + 3 = omega (arith, t.ends, h.2, i.2, l.1) in
    let many : rule_count ≡ pair b (text_end b at) = h.1 ∙ ap (pair b) t.ends in
    let behind : m ≡ text_end b at + 2 = omega (arith, t.ends, h.2) in
    let held : set_count ≡ get_or b (text_end b at + 2) 0 = i.1 ∙ ap (λ (x : ℕ). get_or b x 0) behind in
    let past : sets_at ≡ text_end b at + 3 + rule_size * pair b (text_end b at) =
    row_end (rule_in set_count) b rule_size (λ at r e q. (rule_found set_count b at r e q).2) no_rule rule_count rules_at rules sets_at r ∙ ap₂ (λ (x y : ℕ). x + rule_size * y) from many in
    let site : record { rules_at = rules_at; rule_count = rule_count; sets_at = sets_at; set_count = set_count } ≡ site_at b at = rw (past, from, many, held) in
    subst (λ (x : Section). SectionParts b at x (record { key = key; rules = rules; sets = sets }) end) site
    (record {
      fits = t.fits;
      key_read = k ∙ ap (found key) t.ends;
      few = l.0;
      rules_read = r;
      sets_read = s;
      inside =
          row_inside (rule_in set_count) b (λ at r e q. rw (rule_found set_count b at r e q).2 (rule_found set_count b at r e q).0) rule_count rules_at rules sets_at
          (omega (arith, i.0, i.2, l.1)) r;
    })

pub section_parts : (b : List ℕ) (at : ℕ) (c : Contents) (end : ℕ) → section b at ≡ found c end → SectionParts b at (site_at b at) c end
unfolding section
section_parts b at c end h =
    let k = then_found (text key_limit b at) _ c end h in
    let r = then_found (two_bytes b k.1) _ c end k.3 in
    let s = then_found (byte b r.1) _ c end r.3 in
    let l = then_found (check (leb r.0 rule_limit && leb s.0 set_limit) b s.1) _ c end s.3 in
    let rs = then_found (times r.0 (rule_in s.0) b l.1) _ c end l.3 in
    let ss = then_found (times s.0 code_set b rs.1) _ c end rs.3 in
    let w = found-same (record { key = k.0; rules = rs.0; sets = ss.0 }) c ss.1 end ss.3 in
    subst₂ (λ (x : Contents) (y : ℕ). SectionParts b at (site_at b at) x y) w.0 w.1
    (section-joined b at ss.1 k.1 r.0 r.1 s.0 s.1 l.1 rs.1 k.0 rs.0 ss.0 k.2
    (two_found b k.1 r.0 r.1 r.2) (byte-found b r.1 s.0 s.1 s.2)
    (check-found (leb r.0 rule_limit && leb s.0 set_limit) b s.1 l.0 l.1 l.2) rs.2 ss.2)

-- a section that stands at a position: the readings of which it is made
pub stands_parts : (b : List ℕ) (at : ℕ) → stands_at b at ≡ true → (end : ℕ) × SectionParts b at (site_at b at) (contents_at b at) end
stands_parts b at h =
    let w = is_found_lem (section b at) h in
    (w.1, section_parts b at (contents_at b at) w.1 (w.2 ∙ ap (λ (c : Contents). found c w.1) (sym (ap contents_of w.2))))

pub stands-key : (b : List ℕ) (at : ℕ) → stands_at b at ≡ true → TextFits b at × ((contents_at b at).key ≡ text_at b at)
stands-key b at h =
    let p = (stands_parts b at h).1 in
    (p.fits, (text_read key_limit b at (contents_at b at).key (text_end b at) p.key_read).is)

-- ---- sections in a row, by where they start

-- reading where sections start, and then what stands there, is reading the sections
pub sections-say : (b : List ℕ) (n at : ℕ) → times n section b at ≡ mapped (map (contents_at b)) (times n (starting section) b at)
sections-say b = starts-say section b contents_of (λ c e. refl)

-- the keys of sections are the texts with which they start
pub keys_texts : (b starts : List ℕ) → all (stands_at b) starts ≡ true → keys (map (contents_at b) starts) ≡ map (text_at b) starts
unfolding all
keys_texts b [] h = refl
keys_texts b (at ∷ rest) h =
    let w = and_both (stands_at b at) (all (stands_at b) rest) h in
    rw ((stands-key b at w.0).1, keys_texts b rest w.1)

-- ---- the book

-- the row of sections of a book, and what was checked besides
pub record BookParts (b : List ℕ) (all : List Contents) : Type 0 where
  pub room : head_size + 1 ≤ length b
  pub few : within 1 section_limit (get_or b head_size 0) ≡ true
  pub read : times (get_or b head_size 0) section b (head_size + 1) ≡ found all (length b)
  pub differ : distinct (keys all) ≡ true

pub book_parts : (b : List ℕ) (all : List Contents) (end : ℕ) → sections b head_size ≡ found all end → BookParts b all
unfolding sections
book_parts b all end h =
    let s = then_found (byte b head_size) _ all end h in
    let t = then_found (check (within 1 section_limit s.0) b s.1) _ all end s.3 in
    let u = then_found (times s.0 section b t.1) _ all end t.3 in
    let v = then_found (nothing_after b u.1) _ all end u.3 in
    let w = then_found (check (distinct (keys u.0)) b v.1) _ all end v.3 in
    put s.0 s.1 t.1 u.1 u.0 (byte-found b head_size s.0 s.1 s.2) (check-found (within 1 section_limit s.0) b s.1 t.0 t.1 t.2) u.2
    (eqb-true u.1 (length b) (check-found (eqb u.1 (length b)) b u.1 v.0 v.1 v.2).0)
    (check-found (distinct (keys u.0)) b v.1 w.0 w.1 w.2).0 (found-same u.0 all w.1 end w.3).0
  where
    put : (count from from' last : ℕ) (all' : List Contents) → (head_size + 1 ≤ length b) × (count ≡ get_or b head_size 0) × (from ≡ head_size + 1) →
        (within 1 section_limit count ≡ true) × (from' ≡ from) → times count section b from' ≡ found all' last → last ≡ length b →
        distinct (keys all') ≡ true → all' ≡ all → BookParts b all
    put count from from' last all' h k q e d l =
        let a : from' ≡ head_size + 1 = k.1 ∙ h.2 in
        record {
          room = h.0;
          few = rw h.1 at k.0;
          read = rw (← h.1, ← a) (q ∙ ap₂ found l e);
          differ = subst (λ (xs : List Contents). distinct (keys xs) ≡ true) l d;
        }

-- ---- codes, one after the other

-- the first of the codes that are left: it stands within the book, and the others follow it
module _ (b : List ℕ) (left from : ℕ) (h : 0 < left) (f : is_found (times left (text code_limit) b from) ≡ true) where
  first_code : (a : List ℕ) × (rest : List (List ℕ)) × (end last : ℕ) × TextRead code_limit b from a end
      × (times (left - 1) (text code_limit) b end ≡ found rest last)
      × (times left (text code_limit) b from ≡ found (a ∷ rest) last)
  first_code =
      let w = is_found_lem (times left (text code_limit) b from) f in
      let s = row-found (text code_limit) b left from w.0 w.1 h w.2 in
      (s.0, s.2, s.1, w.1, text_read code_limit b from s.0 s.1 s.3, s.4, w.2 ∙ ap (λ (xs : List (List ℕ)). found xs w.1) s.5)

  pub code_fits : TextFits b from
  code_fits = first_code.4.fits

  pub codes-next : (next : ℕ) → next ≡ text_end b from →
      (is_found (times (left - 1) (text code_limit) b next) ≡ true)
      × (end_of (times left (text code_limit) b from) ≡ end_of (times (left - 1) (text code_limit) b next))
      × (items_of (times left (text code_limit) b from) ≡ text_at b from ∷ items_of (times (left - 1) (text code_limit) b next))
  codes-next next e =
      let c = first_code in
      let n : next ≡ c.2 = e ∙ sym c.4.ends in
      rw n (ap is_found c.5, ap end_of c.6 ∙ sym (ap end_of c.5), ap items_of c.6 ∙ ap₂ ◌∷◌ c.4.is (sym (ap items_of c.5)))
