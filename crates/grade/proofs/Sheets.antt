-- Findings on the lines of a sheet, and what is known after one more of them. Assumes nothing.
use Prim.Native.Nat.{ℕ, ◌+◌, ◌≤◌, ◌<◌}
use mathlib.Core.Path.{◌≡◌, refl, sym, ap, subst, ◌∙◌}
use mathlib.Core.Bool.{Bool, true, false, cond, ◌&&◌, ◌||◌, or_assoc, true≢false}
use mathlib.Core.List.{List, [], ◌∷◌, ◌++◌, append_assoc}
use native.Mathlib.Omega.{arith}
use lib.ListN.{length, replicate, length-replicate, take}
use lib.Seq.{length-take-le}
use Rattle.std.proofs.Common.{Option}
use Rattle.hl7.specs.Place.{delims_of}
use Rattle.hl7.specs.declared.place.Delims.{Delims}
use Rattle.grade.specs.Limits.{field_places, name_places}
use Rattle.grade.specs.Deciding.{has, is_fault}
use Rattle.grade.specs.Order.{may_follow, out_of_order}
use Rattle.grade.specs.Standing.{Holds}
use Rattle.grade.specs.Rest.{Given, Stands, Steps, rest, findings_in, cursor_at_start}
use Rattle.grade.specs.Sheet.{line_count, held, to_come, Ready, Sheeted, Gets, Lists}
use Rattle.grade.specs.declared.walk.Section.{Section}
use Rattle.grade.specs.declared.finding.Finding.{Finding}
use Rattle.grade.specs.declared.step.Terms.{Terms}
use Rattle.grade.specs.declared.step.Cursor.{Cursor}
use Rattle.grade.specs.declared.sheet.Sheet.{Sheet}
use Rattle.grade.proofs.Stepping.{start_left, start-stands, start-all}

pub held-length : {m b : List ℕ} (s : Sheet) → Sheeted m b s → length (held s) ≡ s.used
unfolding held
held-length s h = length-take-le s.used s.lines (omega (arith, h.fits, h.ready.lined))

-- ---- what the findings have
pub has-append : (test : Finding → Bool) (l k : List Finding) → has test (l ++ k) ≡ (has test l || has test k)
unfolding has
has-append test [] k = refl
has-append test (f ∷ l) k = ap (λ (b : Bool). test f || b) (has-append test l k) ∙ sym (or_assoc (test f) (has test l) (has test k))

-- ---- one finding more
-- of the whole, those held and those left
pub whole_more : {whole held' left : List Finding} {f : Finding} (held rest : List Finding) → whole ≡ held ++ left → left ≡ f ∷ rest → held' ≡ held ++ (f ∷ []) → whole ≡ held' ++ rest
whole_more {f = f} held rest e split more = e ∙ ap (λ (l : List Finding). held ++ l) split ∙ sym (append_assoc held (f ∷ []) rest) ∙ ap (λ (l : List Finding). l ++ rest) (sym more)

-- a fault is known, or is among those left
pub told_more : {t : Bool} {left rest : List Finding} {f : Finding} (fault : Bool) → (fault || has is_fault left) ≡ t → left ≡ f ∷ rest → ((fault || is_fault f) || has is_fault rest) ≡ t
unfolding has
told_more {rest = rest} {f} fault e split = or_assoc fault (is_fault f) (has is_fault rest) ∙ ap (λ (l : List Finding). fault || has is_fault l) (sym split) ∙ e

-- in brief a fault may be the last: it is known then
told_last : {t : Bool} (left : List Finding) (brief known : Bool) → (known || has is_fault left) ≡ t → (known || has is_fault (cond (brief && known) [] left)) ≡ t
unfolding has
told_last left false known e = e
told_last left true true e = e
told_last left true false e = e

-- ---- one sheet after another
-- none is to come where they ended
pub none-to_come : (m b : List ℕ) (s : Sheet) → s.ended ≡ true → to_come m b s ≡ []
unfolding to_come
none-to_come m b s e = rw e refl

-- ---- one sheet after another
-- after the last one, an empty one
pub gets_none : (m b : List ℕ) (s : Sheet) → Ready m b s → s.ended ≡ true
    → Gets m b s.by s.brief s.fault (to_come m b s) (record {
      by = s.by;
      brief = s.brief;
      lines = s.lines;
      used = 0;
      fault = s.fault;
      ended = s.ended;
      cursor = s.cursor;
      sets = s.sets;
      links = s.links;
      starts = s.starts;
      counts = s.counts;
    })
unfolding held to_come
gets_none m b s h over = record {
  sheeted = record {
    ready = record { lined = h.lined; wide = h.wide; given = h.given; stands = h.stands };
    fits = omega arith;
    goes = λ e. absurd (true≢false (sym over ∙ e));
  };
  all = λ _. refl;
  told = refl;
  less = λ e. absurd (true≢false (sym over ∙ e));
  same = refl;
  briefly = refl;
}

-- ---- the loop of `list_behind`: so many were listed behind a sheet, and from a cursor on the others are to come
pub record Listing (m b : List ℕ) (whole : Bool) (s : Sheet) (starts counts : List ℕ) (lines : List Finding) (c : Cursor) (used : ℕ) (fault : Bool) : Type 0 where
  pub long : length lines ≡ length s.lines
  pub wide : length starts ≡ length s.starts
  pub stands : Stands s.by.d m b s.by.section starts counts c
  pub all : whole ≡ false → to_come m b s ≡ take used lines ++ rest (out_of_order may_follow) s.by.d m b s.by.section counts c
  pub told : (fault || has is_fault (rest (out_of_order may_follow) s.by.d m b s.by.section counts c)) ≡ (s.fault || has is_fault (to_come m b s))
  pub counted : used + length (rest (out_of_order may_follow) s.by.d m b s.by.section counts c) ≡ length (to_come m b s)

-- a step by another order that says the same
pub step-as : (d : Delims) (m b : List ℕ) (section : Section) (starts counts before : List ℕ) (c : Cursor) (r : Option (Finding × Cursor)) {out : ℕ → ℕ → Bool} → out ≡ out_of_order may_follow
    → Steps out d m b section starts counts (rest out d m b section before c) r → Steps (out_of_order may_follow) d m b section starts counts (rest (out_of_order may_follow) d m b section before c) r
step-as d m b section starts counts before c r same h = subst (λ (o : ℕ → ℕ → Bool). Steps o d m b section starts counts (rest o d m b section before c) r) same h

module _ {m b : List ℕ} {s : Sheet} (ready : Ready m b s) where
  abbrev left : List ℕ → Cursor → List Finding
  left counts c = rest (out_of_order may_follow) s.by.d m b s.by.section counts c

  pub listing_begun : {whole : Bool} → s.ended ≡ false → Listing m b whole s s.starts s.counts s.lines s.cursor 0 s.fault
  unfolding to_come
  listing_begun goes_on =
      let is : to_come m b s ≡ left s.counts s.cursor = rw goes_on refl in
      record { long = refl; wide = refl; stands = ready.stands goes_on; all = λ _. is; told = ap (λ (l : List Finding). s.fault || has is_fault l) (sym is); counted = omega (arith, ap length is) }

  module _ {whole : Bool} {starts counts : List ℕ} {lines : List Finding} {c : Cursor} {used : ℕ} {fault : Bool} (h : Listing m b whole s starts counts lines c used fault) where
    -- one finding more, on the next line
    pub listing_more : {starts' counts' : List ℕ} {lines' : List Finding} {c' : Cursor} {f : Finding} {known : Bool} → known ≡ (fault || is_fault f) → length lines' ≡ length lines → length starts' ≡ length starts → left counts c ≡ f ∷ left counts' c' → Stands s.by.d m b s.by.section starts' counts' c'
        → (whole ≡ false → take (used + 1) lines' ≡ take used lines ++ (f ∷ [])) → Listing m b whole s starts' counts' lines' c' (used + 1) known
    listing_more {known = known} seen long wide one stands noted = record {
      long = long ∙ h.long;
      wide = wide ∙ h.wide;
      stands = stands;
      all = λ e. whole_more (take used lines) _ (h.all e) one (noted e);
      told = rw seen (told_more fault h.told one);
      counted = omega (arith, h.counted, ap length one);
    }

    -- the sheet is full, or in brief a fault was seen
    pub listed : 1 ≤ used → (whole ≡ false → used ≤ line_count) → (s.brief && fault ≡ false → whole ≡ false)
        → Lists m b whole s (record {
          by = s.by;
          brief = s.brief;
          lines = lines;
          used = used;
          fault = fault;
          ended = s.brief && fault;
          cursor = c;
          sets = s.sets;
          links = s.links;
          starts = starts;
          counts = counts;
        })
    unfolding held to_come
    listed some fits full = record {
      ready = record { lined = h.long ∙ ready.lined; wide = h.wide ∙ ready.wide; given = ready.given; stands = λ _. h.stands };
      goes = λ e. (full e, some);
      fits = fits;
      all = λ e none. h.all e ∙ rw none;
      counted = λ none. rw none h.counted;
      told = told_last _ s.brief fault h.told;
      less = λ e. rw e (omega (arith, h.counted));
      same = refl;
      briefly = refl;
    }

    -- nothing more is to come
    pub listed-last : {starts' counts' : List ℕ} → left counts c ≡ [] → length starts' ≡ length starts → (whole ≡ false → used ≤ line_count)
        → Lists m b whole s (record {
          by = s.by;
          brief = s.brief;
          lines = lines;
          used = used;
          fault = fault;
          ended = true;
          cursor = c;
          sets = s.sets;
          links = s.links;
          starts = starts';
          counts = counts';
        })
    unfolding held to_come
    listed-last none wide fits = record {
      ready = record { lined = h.long ∙ ready.lined; wide = wide ∙ h.wide ∙ ready.wide; given = ready.given; stands = λ e. absurd (true≢false e) };
      goes = λ e. absurd (true≢false e);
      fits = fits;
      all = λ e _. h.all e ∙ ap (λ (l : List Finding). take used lines ++ l) none;
      counted = λ _. omega (arith, h.counted, ap length none);
      told = ap (λ (l : List Finding). fault || has is_fault l) (sym none) ∙ h.told;
      less = λ e. absurd (true≢false e);
      same = refl;
      briefly = refl;
    }

-- what the grader listed behind a sheet is the next one
pub gets_listed : {m b : List ℕ} {s r : Sheet} → Lists m b false s r → Gets m b s.by s.brief s.fault (to_come m b s) r
gets_listed l = record {
  sheeted = record { ready = l.ready; fits = l.fits refl; goes = λ e. (l.goes e).1 };
  all = l.all refl;
  told = l.told;
  less = l.less;
  same = l.same;
  briefly = l.briefly;
}

-- where all are counted and none is noted, so many are to come
pub all-counted : (m b : List ℕ) {s r : Sheet} → s.brief ≡ false → Lists m b true s r → r.used ≡ length (to_come m b s)
all-counted m b {s} {r} whole l = by r.ended refl
  where
    by : (ended : Bool) → r.ended ≡ ended → r.used ≡ length (to_come m b s)
    by false e = absurd (true≢false (l.goes e).0)
    by true e = omega (arith, l.counted whole, ap length (none-to_come m b r e))

-- ---- the first sheet
module _ (m b : List ℕ) (by : Terms) (brief : Bool) {c : Cursor} (sets links : List ℕ) (lines : List Finding) (holds : Holds b by.section)
    (begins : c ≡ cursor_at_start by.header by.section.rule_count (length m)) where
  -- before anything was written on it
  abbrev pub unwritten : Sheet
  unwritten =
      record {
        by = by;
        brief = brief;
        lines = lines;
        used = 0;
        fault = false;
        ended = false;
        cursor = c;
        sets = sets;
        links = links;
        starts = replicate field_places 0;
        counts = replicate name_places 0;
      }

  pub unwritten-ready : length lines ≡ line_count → Given m b by.section sets links → Ready m b unwritten
  unwritten-ready lined given = record {
    lined = lined;
    wide = length-replicate {A = ℕ} field_places 0;
    given = given;
    stands = λ _. start-stands may_follow by.d m b by.section holds by.header begins (replicate field_places 0);
  }

  -- everything is behind a sheet before anything was written on it
  all-behind : by.d ≡ delims_of m → to_come m b unwritten ≡ findings_in b by.section by.header m
  unfolding to_come
  all-behind own = start_left may_follow by.d m b by.section holds by.header begins ∙ start-all m b by.section by.header refl own

  pub gets_first : {r : Sheet} → by.d ≡ delims_of m → Gets m b by brief false (to_come m b unwritten) r → Gets m b by brief false (findings_in b by.section by.header m) r
  gets_first {r} own w = subst (λ (l : List Finding). Gets m b by brief false l r) (all-behind own) w

-- ---- a loop over the sheets ends: what is to come gets less, or they end
abbrev pub ahead : (m b : List ℕ) → Sheet → ℕ
ahead m b s = length (to_come m b s) + cond s.ended 0 1

pub ahead-less : (m b : List ℕ) (s : Sheet) {by : Terms} {brief seen : Bool} {r : Sheet} → s.ended ≡ false → Gets m b by brief seen (to_come m b s) r → ahead m b r < ahead m b s
ahead-less m b s {r = r} goes_on w = omega (arith, by r.ended refl, ap (λ (e : Bool). length (to_come m b s) + cond e 0 1) goes_on)
  where
    by : (ended : Bool) → r.ended ≡ ended → length (to_come m b r) + cond ended 0 1 < length (to_come m b s) + 1
    by true e = omega (arith, ap length (none-to_come m b r e))
    by false e = omega (arith, w.less e)
