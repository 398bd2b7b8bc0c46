-- `grade::lookup::note_sets` meets its contract, by the invariant that stands beside this. Assumes nothing.
use Prim.Native.Nat.{ℕ, zero, suc, ◌+◌, ◌-◌, ◌<◌, ◌≤◌}
use mathlib.Core.Path.{◌≡◌, refl, sym, ◌∙◌, ap}
use mathlib.Core.Bool.{true}
use mathlib.Core.List.{List, map}
use native.Mathlib.Nat.{sub-zero}
use native.Mathlib.Omega.{arith}
use lib.ListN.{get_or, take, set, replicate, length-set}
use lib.Seq.{get_or-set_other}
use Rattle.grade.specs.Limits.{set_limit}
use Rattle.grade.specs.Reader.{Parsed, fault, found, is_found, items_of, times}
use Rattle.grade.specs.Standing.{mapped, starting, SetStands, codes_at}
use Rattle.grade.specs.Book.{code_set}
use Rattle.grade.proofs.Readings.{then_found, is_found_lem, row-found, after, after-nil, starts-say, noted_more, noted-all}
use Rattle.grade.proofs.lookup.note_sets.Goals as goal

-- over plain variables
starts-found : (b : List ℕ) (at count : ℕ) → is_found (times count code_set b at) ≡ true → is_found (times count (starting code_set) b at) ≡ true
starts-found b at count f = by (times count (starting code_set) b at) (ap is_found (sym (starts-say code_set b items_of (λ c e. refl) count at)) ∙ f)
  where
    by : (r : Parsed (List ℕ)) → is_found (mapped (map (codes_at b)) r) ≡ true → is_found r ≡ true
    by fault f = f
    by (found starts end) f = refl

-- the set that comes next can be read
stands : (b : List ℕ) (done : List ℕ) (n from : ℕ) → 0 < n → is_found (after done (times n (starting code_set) b from)) ≡ true → SetStands b from
stands b done n from h f =
    let w = is_found_lem (after done (times n (starting code_set) b from)) f in
    let r = then_found (times n (starting code_set) b from) _ w.0 w.1 w.2 in
    let s = row-found (starting code_set) b n from r.0 r.1 h r.2 in
    ap is_found (then_found (code_set b from) _ s.0 s.1 s.3).2

-- what is behind the place that was noted stays
kept : (places : List ℕ) (i from : ℕ) → ((k : ℕ) → i ≤ k → get_or places k 0 ≡ 0) → (k : ℕ) → i + 1 ≤ k → get_or (set places i from) k 0 ≡ 0
kept places i from zeros k h = get_or-set_other places i k from 0 (λ e. absurd (omega arith)) ∙ zeros k (omega arith)

zeros : (n k : ℕ) → ◌≡◌ {A = ℕ} (get_or (replicate n 0) k 0) 0
zeros zero k = refl
zeros (suc n) zero = refl
zeros (suc n) (suc k) = zeros n k

pub loop-i-init : goal.loop-i-init
loop-i-init c = (
  c.requires.1,
  refl,
  starts-found c.args.book.now c.args.at c.args.count c.requires.0,
  rw sub-zero (sym (after-nil _)),
  λ k h. zeros set_limit k,
)

pub bounds-places-i : goal.bounds-places-i
bounds-places-i c = omega arith

pub set_after-from-requires : goal.set_after-from-requires
set_after-from-requires c =
    let a = c.args in
    let l = c.loop-i in
    stands a.book.now (take l.i l.places) (a.count - l.i) l.from (omega arith) (sym (ap is_found l.invariant.3) ∙ l.invariant.2)

pub loop-i-preserved : goal.loop-i-preserved
loop-i-preserved c =
    let a = c.args in
    let l = c.loop-i in (
      l.invariant.0,
      length-set l.places l.i l.from ∙ l.invariant.1,
      l.invariant.2,
      noted_more code_set a.book.now a.count l.i l.from l.places l.invariant.3 _ (omega arith) (omega arith) c.set_after-from.ensures,
      kept l.places l.i l.from l.invariant.4,
    )

pub returns : goal.returns
returns c =
    let a = c.args in
    let l = c.loop-i in
    record {
      sized = l.invariant.1;
      starts = sym (ap items_of (noted-all code_set a.book.now a.count l.i l.from l.places l.invariant.3 (omega arith)));
      past = λ k h. l.invariant.4 k (omega arith);
    }
