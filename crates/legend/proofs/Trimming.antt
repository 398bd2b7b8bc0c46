-- Laws of the words for people: the blanks around them, and the line that they stand in. Assumes nothing.
use mathlib.Core.Path.{◌≡◌, refl, sym, ap, ◌∙◌}
use mathlib.Core.Bool.{Bool, true, false, cond, true≢false}
use mathlib.Core.List.{List, [], ◌∷◌}
use Prim.Native.Nat.{ℕ, zero, suc, ◌+◌, ◌<◌}
use native.Mathlib.Omega.{arith}
use native.Mathlib.Numerals.{add-one}
use lib.ListN.{length, get_or, take, drop, length-drop}
use lib.Seq.{drop-drop, get_or-drop}
use Rattle.hl7.specs.Bytes.{all}
use Rattle.hl7.specs.Cut.{cut, part_at, end_from}
use Rattle.hl7.proofs.Comparing.{all-at}
use Rattle.hl7.proofs.Cutting.{first-front}
use Rattle.booktext.specs.Lines.{line_feed, bar, said, blank}
use Rattle.booktext.specs.Standing.{run}
use Rattle.legend.specs.People.{unled, untrailed, trimmed, line_at, people}

-- ---- blanks before them
unled-is : (s : List ℕ) → drop (length (run blank s)) s ≡ unled s
unfolding run unled
unled-is [] = refl
unled-is (x ∷ s) = by (blank x) (unled-is s)
  where
    by : (b : Bool) → drop (length (run blank s)) s ≡ unled s → drop (length (cond b (x ∷ run blank s) [])) (x ∷ s) ≡ cond b (unled s) (x ∷ s)
    by true ih = ih
    by false ih = refl

-- ---- blanks behind them
untrailed-front : (s : List ℕ) → take (length (untrailed s)) s ≡ untrailed s
unfolding untrailed
untrailed-front [] = refl
untrailed-front (x ∷ s) = by (all blank (x ∷ s)) (untrailed-front s)
  where
    by : (b : Bool) → take (length (untrailed s)) s ≡ untrailed s → take (length (cond b [] (x ∷ untrailed s))) (x ∷ s) ≡ cond b [] (x ∷ untrailed s)
    by true ih = refl
    by false ih = ap (λ (l : List ℕ). x ∷ l) ih

untrailed-none : (s : List ℕ) → all blank s ≡ true → untrailed s ≡ []
unfolding untrailed
untrailed-none [] h = refl
untrailed-none (x ∷ s) h = ap (λ (b : Bool). cond b [] (x ∷ untrailed s)) h

-- a byte that is no blank stays
untrailed-some : (x : ℕ) (s : List ℕ) (i : ℕ) → i < length (x ∷ s) → blank (get_or (x ∷ s) i 0) ≡ false → untrailed (x ∷ s) ≡ x ∷ untrailed s
unfolding untrailed
untrailed-some x s i h e = by (all blank (x ∷ s)) refl
  where
    by : (b : Bool) → all blank (x ∷ s) ≡ b → cond b [] (x ∷ untrailed s) ≡ x ∷ untrailed s
    by true f = absurd (true≢false (sym (all-at blank (x ∷ s) i f h) ∙ e))
    by false f = refl

-- the last of them
untrailed_last : (s : List ℕ) (i : ℕ) → i < length s → blank (get_or s i 0) ≡ false → all blank (drop (suc i) s) ≡ true → length (untrailed s) ≡ suc i
untrailed_last [] i h e f = absurd (omega arith)
untrailed_last (x ∷ s) zero h e f = ap length (untrailed-some x s 0 h e) ∙ ap (λ (l : List ℕ). suc (length l)) (untrailed-none s f)
untrailed_last (x ∷ s) (suc i) h e f = ap length (untrailed-some x s (suc i) h e) ∙ ap suc (untrailed_last s i (omega arith) e f)

-- where the last byte stands that is no blank
all-if : (test : ℕ → Bool) (s : List ℕ) → ((k : ℕ) → k < length s → test (get_or s k 0) ≡ true) → all test s ≡ true
unfolding all
all-if test [] h = refl
all-if test (x ∷ s) h = rw (h 0 (omega arith)) (all-if test s (λ k l. h (suc k) (omega arith)))

pub trail_ends : (s : List ℕ) (last : ℕ) → last < length s → blank (get_or s last 0) ≡ false → ((k : ℕ) → last < k → k < length s → blank (get_or s k 0) ≡ true) → last + 1 ≡ length (untrailed s)
trail_ends s last inside here behind =
    let blanks = all-if blank (drop (suc last) s) (λ k l. rw (get_or-drop (suc last) s k 0) (behind (suc last + k) (omega arith) (omega (arith, length-drop (suc last) s)))) in
    add-one last ∙ sym (untrailed_last s last inside here blanks)

pub trail_none : (s : List ℕ) → ((k : ℕ) → k < length s → blank (get_or s k 0) ≡ true) → 0 ≡ length (untrailed s)
trail_none s blanks = sym (ap length (untrailed-none s (all-if blank s blanks)))

-- ---- together
pub trims : (s : List ℕ) {from end : ℕ} {led r : List ℕ} → from ≡ 0 + length (run blank (drop 0 s)) → led ≡ drop from s → end ≡ length (untrailed led) → r ≡ take end led → r ≡ trimmed s
trims s {from} {led = led} e f g h =
    let from_is : from ≡ length (run blank s) = omega (arith, e) in
    let start : led ≡ unled s = f ∙ ap (λ (n : ℕ). drop n s) from_is ∙ unled-is s in
    h ∙ ap (λ (n : ℕ). take n led) g ∙ untrailed-front led ∙ ap untrailed start

pub people-are : (t : List ℕ) (at : ℕ) {a b : ℕ} {rest line from behind r : List ℕ}
    → rest ≡ drop at t → a ≡ end_from line_feed rest 0 → line ≡ take a rest → b ≡ end_from bar line 0 → from ≡ drop b line → behind ≡ drop 1 from → r ≡ trimmed behind → r ≡ people (line_at t at)
unfolding people
people-are t at {a} {b} {rest} {line} e f g h i j k =
    let ends : a ≡ length (part_at (cut line_feed rest) 0) = omega (arith, f) in
    let here : line ≡ line_at t at = g ∙ ap (λ (n : ℕ). take n rest) ends ∙ sym (first-front line_feed rest) ∙ ap (λ (l : List ℕ). part_at (cut line_feed l) 0) e in
    let says : b ≡ length (said line) = omega (arith, h) in
    let past : drop 1 (drop b line) ≡ drop (suc (length (said line))) line = drop-drop 1 b line ∙ ap (λ (n : ℕ). drop n line) (add-one b ∙ ap suc says) in
    k ∙ ap trimmed (j ∙ ap (drop 1) i ∙ past ∙ ap (λ (l : List ℕ). drop (suc (length (said l))) l) here)
