-- The ERRs of lists of findings, one after the other, and the loop that writes them from sheet to sheet. Assumes nothing.
use mathlib.Core.Path.{◌≡◌, refl, sym, ap, ap₂, ◌∙◌}
use mathlib.Core.Bool.{Bool, true, false, cond, ◌||◌, or-false}
use mathlib.Core.List.{List, [], ◌∷◌, ◌++◌, map, flat_map, append-nil, append_assoc}
use Prim.Native.Nat.{ℕ, zero, suc, ◌+◌, ◌≤◌, ◌<◌}
use Rattle.std.proofs.lemmas.List.{take_more}
use Prim.Native.Char.{code}
use native.Mathlib.Omega.{arith}
use lib.ListN.{length, get_or, take}
use Rattle.hl7.specs.declared.place.Delims.{Delims}
use Rattle.grade.specs.Header.{header_finding, header_findings, any_wrong}
use Rattle.grade.specs.declared.header.Header.{Header}
use Rattle.grade.specs.Strict.{keep}
use Rattle.grade.specs.Rule.{error_code}
use Rattle.grade.specs.Order.{may_follow}
use Rattle.grade.specs.Standing.{rules_in, sets_in}
use Rattle.grade.specs.Rest.{findings_in}
use Rattle.grade.specs.Findings.{Event, findings, finding_of, finding_at, rule_numbered, breaks, places}
use Rattle.grade.specs.Deciding.{has, is_header, is_fault}
use Rattle.grade.specs.Sheet.{finding_limit, held, to_come, Sheeted, Gets}
use Rattle.grade.specs.Filling.{all_from}
use Rattle.grade.specs.declared.rule.Kind.{Kind}
use Rattle.grade.specs.declared.rule.Rule.{Rule}
use Rattle.grade.specs.declared.walk.Section.{Section}
use Rattle.grade.specs.declared.finding.Finding.{Finding}
use Rattle.grade.specs.declared.sheet.Sheet.{Sheet}
use Rattle.grade.specs.declared.step.Terms.{Terms}
use Rattle.grade.proofs.Heading.{checks}
use Rattle.grade.proofs.Sheets.{none-to_come}
use Rattle.ack.specs.Splice.{Wrote}
use Rattle.ack.specs.Layout.{verdict, err_line, ended}
use Rattle.ack.specs.Pieces.{errs, Puts}
use Rattle.ack.specs.Output.{Adds}
use Rattle.ack.specs.declared.output.Output.{Output}
use Rattle.ack.proofs.Adding.{◌next◌, adds_as, adds_none}
use Rattle.ack.proofs.Sizes.{errs-short}

pub errs-append : (d : Delims) (l k : List Finding) → errs d l ++ errs d k ≡ errs d (l ++ k)
unfolding errs flat_map
errs-append d [] k = refl
errs-append d (f ∷ l) k = append_assoc (ended (err_line d f)) (errs d l) (errs d k) ∙ ap (λ (t : List ℕ). ended (err_line d f) ++ t) (errs-append d l k)

-- before the first of them, and after one more
pub errs-begun : (d : Delims) (list : List Finding) (o : Output) → Adds o (errs d (take 0 list)) o
unfolding errs flat_map
errs-begun d list o = adds_none o refl

pub errs_more : (d : Delims) (list : List Finding) (i : ℕ) {o now mid : Output} (none : Finding) → i < length list
    → Adds o (errs d (take i list)) now → Adds now (ended (err_line d (get_or list i none))) mid → Adds o (errs d (take (i + 1) list)) mid
unfolding errs flat_map
errs_more d list i none less before one =
    let f = get_or list i none in
    adds_as (before next one)
    (ap (λ (t : List ℕ). errs d (take i list) ++ t) (sym (append-nil (ended (err_line d f)))) ∙ errs-append d (take i list) (f ∷ []) ∙ ap (errs d) (sym (take_more list i none less)))

-- ---- ERRs that were written from the start on: where they end is how long they are
pub whole_is : (d : Delims) (findings : List Finding) {o p : List ℕ} {at : ℕ} → Wrote o 0 (errs d findings) p at → length findings ≤ finding_limit → at ≡ length (errs d findings)
whole_is d findings w few = omega (arith, w.ends, errs-short d findings)

-- ---- what the grader finds is not about the header
-- no rule has a header code
rule_code : (k : Kind) → is_header (record { name = 0; ordinal = 0; field = 0; repetition = 0; component = 0; rule = 0; code = error_code k; severity = 0 }) ≡ false
rule_code Kind.Required = refl
rule_code (Kind.Length low high) = refl
rule_code Kind.Number = refl
rule_code Kind.Date = refl
rule_code (Kind.Time digits) = refl
rule_code (Kind.Code set) = refl

pub has-none : (test : Finding → Bool) (f : Event → Finding) (l : List Event) → ((e : Event) → test (f e) ≡ false) → has test (map f l) ≡ false
unfolding has
has-none test f [] none = refl
has-none test f (e ∷ l) none = rw (none e) (has-none test f l none)

module _ (o : ℕ → ℕ → Bool) (rules : List Rule) (sets : List (List (List ℕ))) (m : List ℕ) where
  pub graded-plain : has is_header (findings o rules sets m) ≡ false
  unfolding findings
  graded-plain = has-none is_header (finding_of o rules sets m) (keep (breaks o rules sets m) (places o rules sets m)) (λ e. of e.0 e.1.0 e.1.1)
    where
      of : (n j r : ℕ) → is_header (finding_at o rules sets m n j r) ≡ false
      of n zero r = refl
      of n (suc i) r = rule_code (rule_numbered o rules sets m i).kind

-- ---- one about the header is listed exactly where a header check fails
-- a test that the four findings pass is passed by one of them exactly there
header-has : (test : Finding → Bool) → test (header_finding 200 9 1) ≡ true → test (header_finding 201 9 2) ≡ true → test (header_finding 202 11 1) ≡ true → test (header_finding 203 12 1) ≡ true
    → (h : Header) → has test (header_findings h) ≡ any_wrong h
unfolding header_findings has
header-has test p q r s h = by h.type_wrong h.event_wrong h.processing_wrong h.version_wrong
  where
    by : (a b c e : Bool) → has test (header_findings (checks a b c e)) ≡ any_wrong (checks a b c e)
    by true b c e = rw p
    by false true c e = rw q
    by false false true e = rw r
    by false false false true = rw s
    by false false false false = refl

pub header-told : (h : Header) → has is_header (header_findings h) ≡ any_wrong h
header-told = header-has is_header refl refl refl refl

pub header_faults : (h : Header) → has is_fault (header_findings h) ≡ any_wrong h
header_faults = header-has is_fault refl refl refl refl

pub listed-told : (b : List ℕ) (s : Section) (h : Header) (m : List ℕ) → has is_header (findings_in b s h m) ≡ any_wrong h
listed-told b s h m = by (any_wrong h) refl
  where
    by : (wrong : Bool) → any_wrong h ≡ wrong → has is_header (cond wrong (header_findings h) (findings may_follow (rules_in b s) (sets_in b s) m)) ≡ wrong
    by true e = header-told h ∙ e
    by false e = graded-plain may_follow (rules_in b s) (sets_in b s) m

-- which makes the answer AR
pub header-verdict : (h : Header) → any_wrong h ≡ true → verdict (header_findings h) ≡ code "R"
header-verdict h e = rw (header-told h, e)

-- ---- where the sheets end, it is known whether a fault was among all
pub ended-told : (m b : List ℕ) (s : Sheet) {known : Bool} → s.ended ≡ true → (s.fault || has is_fault (to_come m b s)) ≡ known → s.fault ≡ known
unfolding has
ended-told m b s e told = sym (or-false s.fault) ∙ ap (λ (l : List Finding). s.fault || has is_fault l) (sym (none-to_come m b s e)) ∙ told

-- ---- from sheet to sheet: whatever writes the ERRs of what is left has written those of the whole
module _ (m b : List ℕ) (first : Sheet) (o : Output) where
  pub record Putting (sheet : Sheet) (now : Output) : Type 0 where
    pub sheeted : Sheeted m b sheet
    pub whole : sheet.brief ≡ false
    pub same : sheet.by ≡ first.by
    pub left : (after : Output) → Adds now (errs first.by.d (all_from m b sheet)) after → Adds o (errs first.by.d (all_from m b first)) after
    pub told : (sheet.fault || has is_fault (to_come m b sheet)) ≡ (first.fault || has is_fault (to_come m b first))

  pub putting_start : Sheeted m b first → first.brief ≡ false → Putting first o
  putting_start h whole = record { sheeted = h; whole = whole; same = refl; left = λ after w. w; told = refl }

  module _ {sheet : Sheet} {now mid : Output} (h : Putting sheet now) (one : Adds now (errs first.by.d (held sheet)) mid) where
    pub putting_more : {r : Sheet} → Gets m b sheet.by sheet.brief sheet.fault (to_come m b sheet) r → Putting r mid
    putting_more {r} w = record {
      sheeted = w.sheeted;
      whole = w.briefly ∙ h.whole;
      same = w.same ∙ h.same;
      left = λ after more.
          h.left after (adds_as (one next more) (errs-append first.by.d (held sheet) (all_from m b r) ∙ ap (λ (l : List Finding). errs first.by.d (held sheet ++ l)) (sym (w.all h.whole))));
      told = w.told ∙ h.told;
    }

    pub putting_over : sheet.ended ≡ true → Puts m b first o mid sheet.fault
    putting_over e =
        let none = none-to_come m b sheet e in
        let all : held sheet ≡ all_from m b sheet = sym (append-nil (held sheet)) ∙ ap (λ (l : List Finding). held sheet ++ l) (sym none) in
        record {
          wrote = h.left mid (adds_as one (ap (errs first.by.d) all));
          told = ended-told m b sheet e h.told;
        }

-- ---- from the first sheet on, these are the ERRs of all findings
module _ (m b : List ℕ) (by : Terms) (all : List Finding) {first : Sheet} (g : Gets m b by false false all first) {o p : Output} {fault : Bool} (w : Puts m b first o p fault) where
  pub put_all : Adds o (errs by.d all) p
  put_all = adds_as w.wrote (ap₂ (λ (t : Terms) (l : List Finding). errs t.d l) g.same (sym (g.all refl)))

  pub put_told : fault ≡ has is_fault all
  put_told = w.told ∙ g.told
