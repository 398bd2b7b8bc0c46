-- The header's findings, one after the other: what the functions of `header` leave of their list. Assumes nothing.
use Prim.Native.Nat.{◌≤◌}
use mathlib.Core.Path.{◌≡◌, refl, sym, ap, ap₂}
use mathlib.Core.Bool.{Bool, true, false, ◌&&◌, ◌||◌, true≢false}
use mathlib.Core.List.{List, [], ◌∷◌, ◌++◌}
use native.Mathlib.Omega.{arith}
use lib.Dec.{lit≤}
use lib.ListN.{length, get_or, take, drop, length-append}
use Rattle.grade.specs.Header.{header_finding, only_if, header_findings, any_wrong}
use Rattle.grade.specs.declared.header.Header.{Header}
use Rattle.grade.specs.declared.finding.Finding.{Finding}

-- a list whose first element and others are known
pub first-others : {A : Type 0} (l : List A) {x : A} {others : List A} → take 1 l ≡ x ∷ [] → others ≡ drop 1 l → l ≡ x ∷ others
first-others [] e f = absurd (omega (arith, ap length e))
first-others (y ∷ l) e f = ap₂ ◌∷◌ (ap (λ l. get_or l 0 y) e) (sym f)

-- which of the four checks fail
abbrev pub checks : (a b c e : Bool) → Header
checks a b c e = record { type_wrong = a; event_wrong = b; processing_wrong = c; version_wrong = e }

-- where no check fails there is none
pub none_found : (h : Header) → any_wrong h ≡ false → header_findings h ≡ []
unfolding header_findings
none_found h = by h.type_wrong h.event_wrong h.processing_wrong h.version_wrong
  where
    by : (a b c e : Bool) → any_wrong (checks a b c e) ≡ false → header_findings (checks a b c e) ≡ []
    by true b c e h = absurd (true≢false h)
    by false true c e h = absurd (true≢false h)
    by false false true e h = absurd (true≢false h)
    by false false false true h = absurd (true≢false h)
    by false false false false h = refl

-- where no other check fails, the last one does
pub last_wrong : (h : Header) → h.type_wrong ≡ false → h.event_wrong ≡ false → h.processing_wrong ≡ false → any_wrong h ≡ true → h.version_wrong ≡ true
last_wrong h a b c some = rw (a, b, c) at some

-- the checks that fail after the first that does
pub later-found : (a b c e : Bool) → header_findings (checks false (a && b) ((a || b) && c) ((a || b || c) && e)) ≡ drop 1 (header_findings (checks a b c e))
unfolding header_findings
later-found true b c e = refl
later-found false true c e = refl
later-found false false true e = refl
later-found false false false true = refl
later-found false false false false = refl

-- there are four at most
pub header-few : (h : Header) → length (header_findings h) ≤ 4
unfolding header_findings
header-few h =
    let a = only_if h.type_wrong (header_finding 200 9 1) in
    let b = only_if h.event_wrong (header_finding 201 9 2) in
    let c = only_if h.processing_wrong (header_finding 202 11 1) in
    let e = only_if h.version_wrong (header_finding 203 12 1) in
    omega (
      arith,
      length-append a (b ++ (c ++ e)),
      length-append b (c ++ e),
      length-append c e,
      one h.type_wrong (header_finding 200 9 1),
      one h.event_wrong (header_finding 201 9 2),
      one h.processing_wrong (header_finding 202 11 1),
      one h.version_wrong (header_finding 203 12 1),
    )
  where
    one : (b : Bool) (f : Finding) → length (only_if b f) ≤ 1
    one true f = lit≤ tt
    one false f = lit≤ tt
