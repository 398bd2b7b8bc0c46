-- Laws of `specs/Noted.antt`: noting the starts of the parts one after the other. Assumes nothing.
use mathlib.Core.Path.{◌≡◌, refl, sym, ap, ◌∙◌}
use mathlib.Core.List.{List}
use Prim.Native.Nat.{ℕ, zero, suc, ◌+◌, ◌-◌, ◌≤◌, ◌<◌}
use native.Mathlib.Omega.{arith}
use native.Mathlib.Nat.{add-zero}
use native.Mathlib.Decide.{dec_lt, ℕ_discrete}
use native.Mathlib.Numerals.{add-one}
use lib.ListN.{length, get_or, set, length-set}
use lib.Seq.{get_or-set_same, get_or-set_other, ext_get_or}
use Rattle.hl7.specs.Cut.{cut, end_from, piece_at, missing}
use Rattle.hl7.specs.Spans.{between, piece_from, Spans, parts_from}
use Rattle.hl7.specs.Noted.{Noted, Notes}
use Rattle.hl7.specs.declared.cut.Span.{Span}
use Rattle.hl7.proofs.Cutting.{end_within, piece_from-start, piece_here, piece_next, piece_none, spans_as, spans_between, spans_one}
use Rattle.hl7.proofs.Comparing.{none_of}
use Rattle.hl7.proofs.Walking.{parts_start, parts_done, parts_step}

-- part k is noted
pub record Marked (d : ℕ) (s starts : List ℕ) (k : ℕ) : Type 0 where
  pub ahead : 1 ≤ get_or starts (k + 1) 0
  pub here : Spans s (piece_at (cut d s) k) (record { start = get_or starts k 0; end = get_or starts (k + 1) 0 - 1 })

-- the first k parts are noted, and that the next begins at `at`; past the end of s there is none. The entries after that are those of `before`
pub record Noting (d : ℕ) (s before starts : List ℕ) (k at : ℕ) : Type 0 where
  pub begun : get_or starts k 0 ≡ at
  pub marked : (j : ℕ) → j < k → Marked d s starts j
  pub later : at ≤ length s → (t : ℕ) → piece_at (cut d s) (k + t) ≡ piece_from d s at t
  pub over : length s < at → (t : ℕ) → piece_at (cut d s) (k + t) ≡ missing s
  pub counted : k + length (parts_from d s at) ≡ length (cut d s)
  pub first : get_or starts 0 0 ≡ 0
  pub kept : (j : ℕ) → k < j → get_or starts j 0 ≡ get_or before j 0
  pub same : length starts ≡ length before

pub noting_none : (d : ℕ) (s starts : List ℕ) → 1 ≤ length starts → Noting d s starts (set starts 0 0) 0 0
noting_none d s starts h =
    record {
      begun = get_or-set_same starts 0 0 0 h;
      marked = λ j l. absurd (omega arith);
      later = λ l t. ap (piece_at (cut d s)) (omega arith) ∙ piece_from-start d s t;
      over = λ l t. absurd (omega arith);
      counted = omega (arith, ap length (parts_start d s));
      first = get_or-set_same starts 0 0 0 h;
      kept = λ j l. get_or-set_other starts 0 j 0 0 (λ e. absurd (omega (arith, e)));
      same = length-set starts 0 0;
    }

module _ (d : ℕ) (s before starts : List ℕ) (k at : ℕ) (n : Noting d s before starts k at) where
  -- one part more, which ends at e
  pub noting_more : (e : ℕ) → k + 1 < length starts → at ≤ length s → e ≡ end_from d s at → Noting d s before (set starts (k + 1) (e + 1)) (k + 1) (e + 1)
  noting_more e room within ends =
      record {
        begun = stored;
        marked = λ j h. by j h (ℕ_discrete j k);
        later = λ l t. next t ∙ piece_next d s at ends (omega arith) (omega arith) ∙ ap (piece_from d s (e + 1)) (omega arith);
        over = λ l t. next t ∙ piece_none d s at ends (omega arith) within (omega arith);
        counted = rw ends (omega (arith, n.counted, ap length (parts_step d s at within)));
        first = other 0 (λ same. absurd (omega (arith, same))) ∙ n.first;
        kept = λ j h. other j (λ same. absurd (omega (arith, same))) ∙ n.kept j (omega arith);
        same = length-set starts (k + 1) (e + 1) ∙ n.same;
      }
    where
      more : List ℕ
      more = set starts (k + 1) (e + 1)

      stored : get_or more (k + 1) 0 ≡ e + 1
      stored = get_or-set_same starts (k + 1) (e + 1) 0 room

      other : (j : ℕ) → (j ≡ k + 1 → ⊥) → get_or more j 0 ≡ get_or starts j 0
      other j h = get_or-set_other starts (k + 1) j (e + 1) 0 h

      early : (j : ℕ) → j ≤ k → get_or more j 0 ≡ get_or starts j 0
      early j h = other j (λ same. absurd (omega (arith, same)))

      next : (t : ℕ) → piece_at (cut d s) (k + 1 + t) ≡ piece_from d s at (t + 1)
      next t = ap (piece_at (cut d s)) (omega arith) ∙ n.later within (t + 1)

      this : piece_at (cut d s) k ≡ record { start = at; bytes = between s at e }
      this = ap (piece_at (cut d s)) (sym (add-zero k)) ∙ n.later within 0 ∙ piece_here d s at ends (omega arith)

      starts-at : get_or more k 0 ≡ at
      starts-at = early k (omega arith) ∙ n.begun

      one_less : e + 1 - 1 ≡ e
      one_less = omega arith

      by : (j : ℕ) → j < k + 1 → Dec (j ≡ k) → Marked d s more j
      by j h (yes same) =
          rw same
          (record {
            ahead = rw stored (omega arith);
            here = rw (stored, starts-at, one_less) (spans_as this (spans_between s at e (omega arith) (omega (arith, end_within d s at within))));
          })
      by j h (no differ) =
          let m = n.marked j (omega (arith, differ)) in
          record { ahead = rw (early (j + 1) (omega (arith, differ))) m.ahead; here = rw (early (j + 1) (omega (arith, differ)), early j (omega arith)) m.here }

  noted : ((j : ℕ) → k ≤ j → j + 1 < length starts → piece_at (cut d s) j ≡ missing s) → Noted d s starts k
  noted rest = record { ahead = λ j h. (n.marked j h).ahead; here = λ j h. (n.marked j h).here; rest = rest }

  -- no part more
  pub noted-all : k < length starts → length s < at → Notes d s before starts k
  noted-all fits past =
      record {
        noted = noted (λ j h l. ap (piece_at (cut d s)) (omega arith) ∙ n.over past (j - k));
        exact = omega (arith, n.counted, n.same, ap length (parts_done d s at past));
        first = n.first;
        kept = n.kept;
        same = n.same;
      }

-- no room at all
pub noted-none : (d : ℕ) (s starts : List ℕ) → length starts ≡ 0 → Notes d s starts starts 0
noted-none d s starts none =
    record {
      noted = record { ahead = λ j h. absurd (omega arith); here = λ j h. absurd (omega arith); rest = λ j h l. absurd (omega arith) };
      exact = omega arith;
      first = ap (λ (l : List ℕ). get_or l 0 0) (none_of starts (omega arith));
      kept = λ j h. refl;
      same = refl;
    }

-- any two results that the contract of `note_fields` allows are equal: how many, and all that is noted
pub note_once : {d : ℕ} {s before a b : List ℕ} {j k : ℕ} → Notes d s before a j → Notes d s before b k → (j ≡ k) × (a ≡ b)
note_once {d} {s} {before} {a} {b} {j} {k} x y = (many, ext_get_or 0 a b (x.same ∙ sym y.same) entry)
  where
    many : j ≡ k
    many = x.exact ∙ sym y.exact

    noted-same : (i : ℕ) → i < j → get_or a (i + 1) 0 ≡ get_or b (i + 1) 0
    noted-same i l =
        let l' : i < k = omega (arith, many) in
        let ends = ap (λ (r : Span). r.end) (spans_one (x.noted.here i l) (y.noted.here i l')) in
        omega (arith, ends, x.noted.ahead i l, y.noted.ahead i l')

    later : (i : ℕ) → Dec (i < j) → get_or a (i + 1) 0 ≡ get_or b (i + 1) 0
    later i (yes l) = noted-same i l
    later i (no l) = x.kept (i + 1) (omega arith) ∙ sym (y.kept (i + 1) (omega (arith, many)))

    entry : (i : ℕ) → i < length a → get_or a i 0 ≡ get_or b i 0
    entry zero h = x.first ∙ sym y.first
    entry (suc i) h = rw (← add-one i) (later i (dec_lt i j))
