-- A table is filled sheet by sheet: what is left to store, stored from the next record on, gives the answer. Assumes nothing.
use mathlib.Core.Path.{◌≡◌, refl, sym, ◌∙◌, ap}
use mathlib.Core.Bool.{Bool, true, false}
use Prim.Native.Nat.{ℕ, zero, suc, ◌+◌, ◌≤◌, ◌<◌, zero-le}
use native.Mathlib.Omega.{arith}
use mathlib.Core.List.{List, [], ◌∷◌}
use lib.ListN.{length, take, length-append}
use lib.Seq.{sets, length-sets, length-take-le, take_all}
use Rattle.grade.specs.Sheet.{held, to_come, Sheeted, Gets}
use Rattle.grade.specs.Filling.{all_from, Fills}
use Rattle.grade.specs.declared.finding.Finding.{Finding}
use Rattle.grade.specs.declared.sheet.Sheet.{Sheet}
use Rattle.grade.proofs.Sheets.{held-length, none-to_come}
use Rattle.grade.proofs.Stored.{sets-append}

-- ---- so much is left, from a sheet on
pub record Ahead (m b : List ℕ) (s : Sheet) (left : List Finding) : Type 0 where
  pub sheeted : Sheeted m b s
  pub whole : s.brief ≡ false
  pub all : left ≡ all_from m b s

module _ {m b : List ℕ} {s : Sheet} {left : List Finding} (h : Ahead m b s left) where
  pub length-left : length left ≡ s.used + length (to_come m b s)
  length-left = ap length h.all ∙ length-append (held s) (to_come m b s) ∙ ap (λ (k : ℕ). k + length (to_come m b s)) (held-length s h.sheeted)

  -- where something is left, something is on the sheet
  pub some_used : 1 ≤ length left → 1 ≤ s.used
  some_used some = by_end s.ended refl
    where
      by_end : (over : Bool) → s.ended ≡ over → 1 ≤ s.used
      by_end true e = omega (arith, some, length-left, ap length (none-to_come m b s e))
      by_end false e = h.sheeted.goes e

-- ---- the loop stands at record `at` of a table ts, which was ys, with a sheet s
pub record Stage (m b : List ℕ) (first : Sheet) (count : ℕ) (ys left : List Finding) (at : ℕ) (s : Sheet) (ts : List Finding) : Type 0 where
  pub upto : at + length left ≡ count
  pub long : length ts ≡ length ys
  pub ahead : 1 ≤ length left → Ahead m b s left
  pub answer : sets ts at left ≡ sets ys 0 (take count (all_from m b first))

enough : {m b : List ℕ} {first : Sheet} (count : ℕ) → (1 ≤ count → Fills m b first count) → count ≤ length (all_from m b first)
enough zero fills = zero-le
enough (suc k) fills = omega (arith, (fills (omega arith)).exact)

module _ {m b : List ℕ} {first : Sheet} {count : ℕ} {ys : List Finding} where
  -- before the first turn
  pub begun : (1 ≤ count → Fills m b first count) → Stage m b first count ys (take count (all_from m b first)) 0 first ys
  begun fills =
      let full : length (take count (all_from m b first)) ≡ count = length-take-le count (all_from m b first) (enough count fills) in
      record {
        upto = omega (arith, full);
        long = refl;
        ahead = λ some.
            let by : Fills m b first count = fills (omega (arith, full, some)) in
            record { sheeted = by.sheeted; whole = by.whole; all = take_all count (all_from m b first) (omega (arith, by.exact)) };
        answer = refl;
      }

  -- after a turn, where r is the next sheet
  pub one_more : {left : List Finding} {at : ℕ} {s r : Sheet} {ts : List Finding} → Stage m b first count ys left at s ts → Ahead m b s left
      → Gets m b s.by s.brief s.fault (to_come m b s) r → Stage m b first count ys (to_come m b s) (at + s.used) r (sets ts at (held s))
  one_more {left} {at} {s} {r} {ts} h here got =
      record {
        upto = omega (arith, h.upto, length-left here);
        long = length-sets ts at (held s) ∙ h.long;
        ahead = λ _. record { sheeted = got.sheeted; whole = got.briefly ∙ here.whole; all = got.all here.whole };
        answer =
            ap (λ (k : ℕ). sets (sets ts at (held s)) (at + k) (to_come m b s)) (sym (held-length s here.sheeted)) ∙ sym (sets-append (held s) (to_come m b s) ts at)
            ∙ ap (λ (l : List Finding). sets ts at l) (sym here.all) ∙ h.answer;
      }

  -- where nothing is left, the table is what was asked for
  pub filled : {left : List Finding} {at : ℕ} {s : Sheet} {ts : List Finding} → Stage m b first count ys left at s ts → count ≤ at
      → ts ≡ sets ys 0 (take count (all_from m b first))
  filled {left = []} h over = h.answer
  filled {left = f ∷ left} h over = absurd (omega (arith, h.upto))

  -- where something is left, the sheet has its findings ahead
  pub goes_on : {left : List Finding} {at : ℕ} {s : Sheet} {ts : List Finding} → Stage m b first count ys left at s ts → at < count → Ahead m b s left
  goes_on h less = h.ahead (omega (arith, h.upto))
