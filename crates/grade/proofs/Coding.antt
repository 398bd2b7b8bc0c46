-- Codes in a row: what a walk over them keeps, whether each is looked at or passed. Assumes nothing.
use Prim.Native.Nat.{ℕ, ◌-◌, ◌<◌, ◌≤◌}
use mathlib.Core.Path.{◌≡◌, refl, sym, subst, ap, ◌∙◌}
use mathlib.Core.Bool.{true, false}
use mathlib.Core.List.{List}
use native.Mathlib.Omega.{arith}
use denote.Param.Members.{Mut}
use Rattle.std.specs.Prelude.{Some}
use Rattle.std.specs.Fn.{Called}
use Rattle.std.specs.Iterator.{FoldTurn, FoldsItems}
use Rattle.hl7.specs.Bytes.{same, among}
use Rattle.grade.specs.Limits.{code_limit}
use Rattle.grade.specs.Reader.{is_found, items_of, times}
use Rattle.grade.specs.Book.{text}
use Rattle.grade.specs.Standing.{end_of, text_end, text_at}
use Rattle.grade.proofs.Readings.{times_none, times_empty}
use Rattle.grade.proofs.Parts.{codes-next}
use Rattle.grade.proofs.Walking.{Steps, left, kept}

module _ (b : List ℕ) (count at : ℕ) where
  -- the codes that are left can be read, and end where all do
  pub record CodesLeft (n from : ℕ) : Type 0 where
    pub reads : is_found (times n (text code_limit) b from) ≡ true
    pub end : end_of (times count (text code_limit) b at) ≡ end_of (times n (text code_limit) b from)

  pub codes_begun : is_found (times count (text code_limit) b at) ≡ true → CodesLeft (count - 0) at
  codes_begun h = subst (λ (n : ℕ). CodesLeft n at) {x = count} {y = count - 0} (omega arith) (record { reads = h; end = refl })

  module _ {F : Type 0} {g : Mut F (ℕ × (ℕ × Unit {0})) ℕ} (f : F)
      (step : (from x v : ℕ) (f' : F) → Called g f (from, (x, tt)) v f' → (f' ≡ f) × (v ≡ text_end b from)) where
    pub code_passed : (n from x : ℕ) (q : F × ℕ) → 0 < n → CodesLeft n from → FoldTurn g (f, from) x q → (q.0 ≡ f) × CodesLeft (n - 1) q.1
    code_passed n from x q h l c =
        let now = step from x q.1 q.0 c in
        let w = codes-next b n from h l.reads q.1 now.1 in
        (now.0, record { reads = w.0; end = l.end ∙ w.1 })

    -- what `fold` says that it ran, over a range from 0 on
    pub codes_passed : (r : ℕ) → is_found (times count (text code_limit) b at) ≡ true → FoldsItems Steps g (record { start = 0; end = count }) f at r →
        end_of (times count (text code_limit) b at) ≡ Some r
    codes_passed r h d =
        let w = kept (FoldTurn g) f CodesLeft code_passed d.0 at (d.1, r) _ d.2.1.0 (codes_begun h) d.2.1.1 d.3 in
        w.1.end ∙ times_none (text code_limit) b (left d.2.1.0) r (omega (arith, d.2.1.2.1.0))

-- where the value is looked for
module _ (b value : List ℕ) (count at : ℕ) where
  -- the codes that are left can be read, and the value is among them as it is among all
  pub record CodesToLookAt (n from : ℕ) : Type 0 where
    pub reads : is_found (times n (text code_limit) b from) ≡ true
    pub alike : among value (items_of (times n (text code_limit) b from)) ≡ among value (items_of (times count (text code_limit) b at))

  pub look_begun : is_found (times count (text code_limit) b at) ≡ true → CodesToLookAt (count - 0) at
  look_begun h = subst (λ (n : ℕ). CodesToLookAt n at) {x = count} {y = count - 0} (omega arith) (record { reads = h; alike = refl })

  pub code_unlike : (n from next : ℕ) → 0 < n → CodesToLookAt n from → same value (text_at b from) ≡ false → next ≡ text_end b from → CodesToLookAt (n - 1) next
  unfolding among
  code_unlike n from next h l e is = let w = codes-next b n from h l.reads next is in record { reads = w.0; alike = rw (w.2, e) at l.alike }

  pub code_alike : (n from : ℕ) → 0 < n → CodesToLookAt n from → same value (text_at b from) ≡ true → among value (items_of (times count (text code_limit) b at)) ≡ true
  unfolding among
  code_alike n from h l e = sym l.alike ∙ rw ((codes-next b n from h l.reads _ refl).2, e)

  pub code_none : (n from : ℕ) → n ≤ 0 → CodesToLookAt n from → among value (items_of (times count (text code_limit) b at)) ≡ false
  unfolding among
  code_none n from h l = sym l.alike ∙ ap (among value) (times_empty (text code_limit) b n from h)
