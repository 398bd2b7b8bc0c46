-- What opening a book tells: which row, and, where none holds, that the section found is the one with the key, sound. Assumes nothing.
use Prim.Native.Nat.{ℕ, ◌+◌}
use native.Mathlib.Omega.{arith}
use mathlib.Core.Path.{◌≡◌, refl, sym, ap, subst, ◌∙◌}
use mathlib.Core.Bool.{Bool, true, false, cond, ◌||◌, false≢true}
use mathlib.Core.List.{List, [], ◌∷◌, map}
use lib.Dec.{leb}
use lib.ListN.{length, get_or}
use borrow.Author.Tests.{leb-true, not-true, not-false}
use Rattle.hl7.specs.Bytes.{all, same, among}
use Rattle.hl7.specs.Refusals.{Told, told, Row, first_row}
use Rattle.hl7.proofs.Comparing.{and_both, same_equal}
use Rattle.grade.specs.declared.rule.Rule.{Rule}
use Rattle.grade.specs.declared.walk.Section.{Section}
use Rattle.grade.specs.Limits.{head_size, rule_limit, set_limit}
use Rattle.grade.specs.Reader.{Parsed, fault, found, is_found, items_of, times}
use Rattle.grade.specs.Book.{Contents, section, distinct, keys, sections, decoded, under, no_section}
use Rattle.grade.specs.Admission.{admitted_told}
use Rattle.grade.specs.Standing.{end_of, text_at, stands_at, contents_at, site_at, starting, starts_in, site_of, site_in, OpensBook, rules_in, sets_in, Holds}
use Rattle.grade.proofs.Readings.{is_found_lem, then_found, found-same, starts-stand}
use Rattle.grade.proofs.Parts.{SectionParts, stands_parts, stands-key, sections-say, book_parts}
use Rattle.std.specs.Prelude.{Result, Ok}
use Rattle.grade.specs.declared.refusal.Refusal.{Refusal}

-- ---- the ways out

-- a refusal
pub opens-refused : {rows : List Row} {site : Section} {r : Result Section Refusal} → admitted_told r ≡ first_row rows → ((admitted_told r).number ≡ 0 → ⊥) → OpensBook rows site r
opens-refused e some = record { told_is = e; at = λ none. absurd (some (ap (λ (t : Told). t.number) e ∙ none)) }

-- the section
pub opens_at : {rows : List Row} {site s : Section} → told 0 0 ≡ first_row rows → s ≡ site → OpensBook rows site (Ok s)
opens_at e is = record { told_is = e; at = λ none. ap Ok is }

-- rows that tell the same allow the same
pub opens_as : {rows others : List Row} {site place : Section} {r : Result Section Refusal} → first_row rows ≡ first_row others → site ≡ place → OpensBook rows site r → OpensBook others place r
opens_as same is w = record { told_is = w.told_is ∙ same; at = λ none. w.at (ap (λ (t : Told). t.number) same ∙ none) ∙ ap Ok is }

-- ---- the section that was found

under_none : (key : List ℕ) (all : List Contents) → among key (keys all) ≡ false → under key all ≡ []
unfolding under among
under_none key [] h = refl
under_none key (c ∷ rest) h = go (same key c.key) h (under_none key rest)
  where
    go : (t : Bool) → (t || among key (keys rest)) ≡ false → (among key (keys rest) ≡ false → under key rest ≡ []) → cond t (c ∷ under key rest) (under key rest) ≡ []
    go true e f = let z : ◌≡◌ {A = ℕ} 0 1 = cc in absurd (omega arith)
    go false e f = f e

-- of sections that start at some positions, the one with the key
record Chosen (b key : List ℕ) (starts : List ℕ) : Type 0 where
  pub start : ℕ
  pub stands : stands_at b start ≡ true
  pub its_key : key ≡ (contents_at b start).key
  pub its_site : site_at b start ≡ site_of b key starts
  pub only : under key (map (contents_at b) starts) ≡ contents_at b start ∷ []

chosen_in : (b key starts : List ℕ) → all (stands_at b) starts ≡ true → distinct (keys (map (contents_at b) starts)) ≡ true → among key (keys (map (contents_at b) starts)) ≡ true →
    Chosen b key starts
unfolding all distinct among under site_of
chosen_in b key [] s d m = absurd (false≢true m)
chosen_in b key (at ∷ rest) s d m =
    let s' = and_both (stands_at b at) (all (stands_at b) rest) s in
    let d' = and_both _ (distinct (keys (map (contents_at b) rest))) d in
    go s'.0 (not-true _ d'.0) (same key (contents_at b at).key) refl (ap (same key) (stands-key b at s'.0).1) m (chosen_in b key rest s'.1 d'.1)
  where
    go : stands_at b at ≡ true → among (contents_at b at).key (keys (map (contents_at b) rest)) ≡ false →
        (t : Bool) → same key (contents_at b at).key ≡ t → same key (contents_at b at).key ≡ same key (text_at b at) → (t || among key (keys (map (contents_at b) rest))) ≡ true →
        (among key (keys (map (contents_at b) rest)) ≡ true → Chosen b key rest) → Chosen b key (at ∷ rest)
    go here f true k l m ih =
        let e = same_equal key (contents_at b at).key k in
        record {
          start = at;
          stands = here;
          its_key = e;
          its_site = rw (← l, k);
          only = rw k (ap (λ (xs : List Contents). contents_at b at ∷ xs) (under_none key (map (contents_at b) rest) (rw e f)));
        }
    go here f false k l m ih =
        let w = ih m in
        record { start = w.start; stands = w.stands; its_key = w.its_key; its_site = rw (← l, k) w.its_site; only = rw k w.only }

-- the section found: the one section of the book with the key has its rules and its sets, and they can be read
pub record Under (b key : List ℕ) (s : Section) : Type 0 where
  pub only : under key (decoded b) ≡ record { key = key; rules = rules_in b s; sets = sets_in b s } ∷ []
  pub holds : Holds b s

-- the rules and sets that a section says are those that stand at its place, where they can be read
pub held : (b : List ℕ) (at : ℕ) (s : Section) (c : Contents) (end : ℕ) → SectionParts b at s c end → (c.rules ≡ rules_in b s) × (c.sets ≡ sets_in b s) × Holds b s
unfolding rules_in sets_in
held b at s c end p =
    let f = and_both (leb s.rule_count rule_limit) (leb s.set_count set_limit) p.few in (
      sym (ap items_of p.rules_read),
      sym (ap items_of p.sets_read),
      record {
        few_rules = leb-true s.rule_count rule_limit f.0;
        few_sets = leb-true s.set_count set_limit f.1;
        rules_end = ap end_of p.rules_read;
        sets_after = end;
        sets_end = ap end_of p.sets_read;
      },
    )

chosen_under : (b key starts : List ℕ) → decoded b ≡ map (contents_at b) starts → Chosen b key starts → Under b key (site_of b key starts)
chosen_under b key starts d c =
    let at = c.start in
    let p = stands_parts b at c.stands in
    let h = held b at (site_at b at) (contents_at b at) p.0 p.1 in
    subst (λ (s : Section). Under b key s) c.its_site
    (record {
      only = ap (under key) d ∙ c.only ∙ ap (λ (x : Contents). x ∷ []) (same_contents (contents_at b at) key (rules_in b (site_at b at)) (sets_in b (site_at b at)) c.its_key h.0 h.1);
      holds = h.2;
    })
  where
    same_contents : (x : Contents) (key : List ℕ) (rules : List Rule) (sets : List (List (List ℕ))) → key ≡ x.key → x.rules ≡ rules → x.sets ≡ sets →
        x ≡ record { key = key; rules = rules; sets = sets }
    same_contents x key rules sets k r s = rw (k, ← r, ← s)

-- a book whose sections were read, by where they start: they stand there, and differ by their keys
pub record Started (b : List ℕ) : Type 0 where
  pub stand : all (stands_at b) (starts_in b) ≡ true
  pub say : decoded b ≡ map (contents_at b) (starts_in b)
  pub differ : distinct (keys (decoded b)) ≡ true

pub sections-started : (b : List ℕ) → is_found (sections b head_size) ≡ true → Started b
unfolding decoded
sections-started b h =
    let r = is_found_lem (sections b head_size) h in
    let q = book_parts b r.0 r.1 r.2 in
    let n = get_or b head_size 0 in
    let s = then_found (times n (starting section) b (head_size + 1)) _ r.0 (length b) (sym (sections-say b n (head_size + 1)) ∙ q.read) in
    let says : map (contents_at b) s.0 ≡ r.0 = (found-same (map (contents_at b) s.0) r.0 s.1 (length b) s.3).0 in
    let are : s.0 ≡ starts_in b = sym (ap items_of s.2) in
    record {
      stand = subst (λ (xs : List ℕ). all (stands_at b) xs ≡ true) are (starts-stand section b n (head_size + 1) s.0 s.1 s.2);
      say = ap items_of r.2 ∙ sym says ∙ ap (map (contents_at b)) are;
      differ = ap (λ (x : Parsed (List Contents)). distinct (keys (items_of x))) r.2 ∙ q.differ;
    }

has-sections : (b key : List ℕ) → among key (keys (decoded b)) ≡ true → is_found (sections b head_size) ≡ true
unfolding decoded among
has-sections b key = by (sections b head_size)
  where
    by : (r : Parsed (List Contents)) → among key (keys (items_of r)) ≡ true → is_found r ≡ true
    by fault m = absurd (false≢true m)
    by (found all end) m = refl

pub opened_under : (b key : List ℕ) → no_section b key ≡ false → Under b key (site_in b key)
unfolding no_section
opened_under b key none =
    let m = not-false (among key (keys (decoded b))) none in
    let w = sections-started b (has-sections b key m) in
    chosen_under b key (starts_in b) w.say
    (chosen_in b key (starts_in b) w.stand (ap (λ (xs : List Contents). distinct (keys xs)) (sym w.say) ∙ w.differ) (ap (λ (xs : List Contents). among key (keys xs)) (sym w.say) ∙ m))

-- two books whose sections with a key say the same give the same rules and sets
pub which_registry : (b b' key : List ℕ) (s s' : Section) → Under b key s → Under b' key s' →
    under key (decoded b) ≡ under key (decoded b') → (rules_in b s ≡ rules_in b' s') × (sets_in b s ≡ sets_in b' s')
which_registry b b' key s s' h h' e =
    one key (rules_in b s) (rules_in b' s') (sets_in b s) (sets_in b' s') (sym h.only ∙ e ∙ h'.only)
  where
    one : (key : List ℕ) (r r' : List Rule) (t t' : List (List (List ℕ))) →
        ◌≡◌ {A = List Contents} (record { key = key; rules = r; sets = t } ∷ []) (record { key = key; rules = r'; sets = t' } ∷ []) → (r ≡ r') × (t ≡ t')
    one key r r' t t' e =
        let q : ◌≡◌ {A = Contents} (record { key = key; rules = r; sets = t }) (record { key = key; rules = r'; sets = t' }) = cc in
        (ap (λ (c : Contents). c.rules) q, ap (λ (c : Contents). c.sets) q)
