-- The laws of `Adds`: one write after the other. Assumes nothing.
use mathlib.Core.Path.{◌≡◌, refl, sym, subst, ◌∙◌}
use mathlib.Core.List.{List, [], ◌∷◌, ◌++◌}
use Prim.Native.Nat.{ℕ, ◌<◌, ◌≤◌, min}
use native.Mathlib.Omega.{arith}
use lib.ListN.{length}
use Rattle.ack.specs.Splice.{limit, Wrote}
use Rattle.ack.specs.Output.{Adds}
use Rattle.ack.specs.declared.output.Output.{Output}
use Rattle.ack.proofs.Writing.{◌then◌, wrote_as, wrote_none, wrote_once, wrote-length}

-- two writes, one after the other
infixr 40 ◌next◌
pub ◌next◌ : {o p q : Output} {xs ys : List ℕ} → Adds o xs p → Adds p ys q → Adds o (xs ++ ys) q
f next g = record {
  same = g.same ∙ f.same;
  wrote = λ near room.
      let first = f.wrote near room in
      first then g.wrote (omega (arith, first.ends)) (omega (arith, wrote-length first));
}

-- the same, where the first is one byte
pub adds_byte : {o p q : Output} {x : ℕ} {ys : List ℕ} → Adds o (x ∷ []) p → Adds p ys q → Adds o (x ∷ ys) q
adds_byte f g = f next g

-- the same bytes under another name
pub adds_as : {o p : Output} {xs ys : List ℕ} → Adds o xs p → xs ≡ ys → Adds o ys p
adds_as f e = record { same = f.same; wrote = λ near room. wrote_as (f.wrote near room) e }

-- nothing
pub adds_none : (o : Output) {xs : List ℕ} → [] ≡ xs → Adds o xs o
adds_none o e = record {
  same = refl;
  wrote = λ near room.
      let kept : min o.at limit ≡ o.at = omega arith in
      wrote_as (subst (Wrote o.bytes.now o.at [] o.bytes.now) kept (wrote_none o.bytes.now o.at room)) e;
}

-- bytes past the end, counted alone
pub adds_passed : (o p : Output) (xs : List ℕ) (n : ℕ) → ((bytes : List ℕ) → length bytes ≡ n → Adds o bytes p) → n ≡ length xs → Adds o xs p
adds_passed o p xs n passed long = passed xs (sym long)

-- two outputs that are left by the same write hold the same
pub adds_once : {o p q : Output} {xs : List ℕ} → Adds o xs p → Adds o xs q → length o.bytes.now < limit → (p.bytes.now ≡ q.bytes.now) × (p.at ≡ q.at)
adds_once {o} f g room = wrote_once (f.wrote o.counted room) (g.wrote o.counted room)

-- what was lent, once it is given back
pub wrote_lent : {o p : Output} {xs after : List ℕ} → Adds o xs p → o.at ≤ limit → length o.bytes.now < limit → after ≡ p.bytes.now → Wrote o.bytes.now o.at xs after p.at
wrote_lent {o} {p} {xs} f near room back = subst (λ (l : List ℕ). Wrote o.bytes.now o.at xs l p.at) (sym back) (f.wrote near room)

-- ---- a loop that writes, one turn after the other: whoever writes the rest after what was written has written all
abbrev pub Adding : (all rest : List ℕ) (o now : Output) → Type 0
Adding all rest o now = (after : Output) → Adds now rest after → Adds o all after

pub adding_more : {all rest xs more : List ℕ} {o now mid : Output} → Adding all rest o now → rest ≡ xs ++ more → Adds now xs mid → Adding all more o mid
adding_more c e w after v = c after (adds_as (w next v) (sym e))

-- the loop has run out
pub adding_over : {all rest : List ℕ} {o now : Output} → Adding all rest o now → rest ≡ [] → Adds o all now
adding_over {now = now} c e = c now (adds_none now (sym e))
