-- Stores into a list: two runs of them are one, and a run is a write to a part. Assumes nothing.
use mathlib.Core.Path.{◌≡◌, sym, ◌∙◌, ap, ap₂}
use Prim.Native.Nat.{ℕ, suc, ◌+◌, ◌≤◌}
use native.Mathlib.Nat.{add-zero, add-suc, suc-add}
use mathlib.Core.List.{List, [], ◌∷◌, ◌++◌, append_assoc}
use lib.ListN.{length, take, drop, set}
use lib.Seq.{sets, sets-eq, drop-drop}
use borrow.Rule.Slice.PartMut.{put_mid}

pub sets-append : {X : Type 0} (u w l : List X) (i : ℕ) → sets l i (u ++ w) ≡ sets (sets l i u) (i + length u) w
sets-append [] w l i = ap (λ (k : ℕ). sets l k w) (sym (add-zero i))
sets-append (a ∷ u) w l i =
    sets-append u w (set l i a) (suc i) ∙ ap (λ (k : ℕ). sets (sets l i (a ∷ u)) k w) (suc-add i (length u) ∙ sym (add-suc i (length u)))

-- the part of `l` from i on, of so many elements, now holds vs
pub sets-part : {X : Type 0} (l vs ys : List X) (i k : ℕ) → ys ≡ vs → k ≡ length vs → i + length vs ≤ length l → put_mid i k l ys ≡ sets l i vs
sets-part {X} l vs ys i k same long fits =
    ap₂ (λ (part : List X) (n : ℕ). put_mid i n l part) same long ∙ ap (λ (rest : List X). take i l ++ (vs ++ rest)) (drop-drop (length vs) i l)
    ∙ sym (append_assoc (take i l) vs (drop (i + length vs) l)) ∙ sym (sets-eq vs l i fits)
