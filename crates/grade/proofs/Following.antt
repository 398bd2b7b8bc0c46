-- The code's tables: the follow table says what the order says, and the table of plain bytes tells which are plain. Assumes nothing.
use Prim.Native.Nat.{ℕ, zero, suc, ◌+◌, ◌-◌, ◌≤◌, ◌<◌}
use mathlib.Core.Path.{◌≡◌, refl, ap, ◌∙◌}
use mathlib.Core.Bool.{Bool, true, false, not, ◌&&◌}
use mathlib.Core.List.{List, [], map}
use native.Mathlib.Omega.{arith}
use borrow.Author.Tests.{leb-true}
use lib.ListN.{get_or}
use lib.Dec.{leb}
use Rattle.grade.specs.Strict.{count_from}
use Rattle.grade.specs.Limits.{segment_count, name_places}
use Rattle.grade.specs.Rule.{the_end, msh, counted}
use Rattle.grade.specs.Order.{out_of_order, table_of, table_says}
use Rattle.grade.specs.Book.{plain}
use Rattle.grade.proofs.Naming.{counted_bounds}

-- a function's values at the k numbers from n, by place
at_count : {A : Type 0} (f : ℕ → A) (none : A) (n k i : ℕ) → i < k → get_or (map f (count_from n k)) i none ≡ f (n + i)
unfolding count_from
at_count f none n zero i h = absurd (omega arith)
at_count f none n (suc k) zero h = let e : n ≡ n + 0 = omega arith in ap f e
at_count f none n (suc k) (suc i) h = let e : suc n + i ≡ n + suc i = omega arith in at_count f none (suc n) k i (omega arith) ∙ ap f e

says_so : (follows : ℕ → ℕ → Bool) (before name : ℕ) → 1 ≤ before → before ≤ segment_count → name ≤ segment_count → table_says (table_of follows) before name ≡ follows before name
says_so follows before name some h k =
    ap (λ (row : List Bool). get_or row name false) (at_count (λ (a : ℕ). map (follows a) (count_from the_end name_places)) [] msh segment_count (before - 1) (omega arith))
    ∙ at_count (follows (msh + (before - 1))) false the_end name_places name (omega arith)
    ∙ (let e : msh + (before - 1) ≡ before = omega arith in let d : the_end + name ≡ name = omega arith in λ i. follows (e i) (d i))

-- the order by its table is the order, at any two numbers
pub by-table : (table : List (List Bool)) (follows : ℕ → ℕ → Bool) → table ≡ table_of follows → out_of_order (table_says table) ≡ out_of_order follows
by-table table follows right =
    ap (λ (t : List (List Bool)). out_of_order (table_says t)) right ∙ (λ i before name. at before name (counted before) refl (leb name segment_count) refl i)
  where
    at : (before name : ℕ) (p : Bool) → counted before ≡ p → (q : Bool) → leb name segment_count ≡ q → out_of_order (table_says (table_of follows)) before name ≡ out_of_order follows before name
    at before name true p true q =
        let w = counted_bounds before p in
        ap (λ (t : Bool). counted before && (leb name segment_count && not t)) (says_so follows before name w.0 w.1 (leb-true name segment_count q))
    at before name true p false q = rw (p, q)
    at before name false p q d = rw p

-- the table of plain bytes has one entry for each
pub tells-plain : (table : List Bool) → table ≡ map plain (count_from 0 256) → (x : ℕ) → x < 256 → get_or table x false ≡ plain x
tells-plain table right x h =
    let e : 0 + x ≡ x = omega arith in
    ap (λ (t : List Bool). get_or t x false) right ∙ at_count plain false 0 256 x h ∙ ap plain e
