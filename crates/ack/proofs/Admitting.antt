-- What is known of a message that was admitted, and the ways out of the call, in the words of the code. Assumes nothing.
use mathlib.Core.Path.{◌≡◌, refl, sym, ap, ◌∙◌}
use mathlib.Core.Bool.{Bool, true, false}
use mathlib.Core.List.{List}
use Rattle.std.specs.Prelude.{Ok, Err}
use Prim.Native.Nat.{ℕ, ◌+◌, ◌*◌, ◌≤◌, ◌<◌}
use native.Mathlib.Omega.{arith}
use native.Mathlib.Decide.{dec_le}
use lib.ListN.{length, take, length-take}
use lib.Seq.{take_all}
use borrow.Author.Tests.{ne_eqb, eqb-true}
use Rattle.hl7.specs.Text.{bytes}
use Rattle.hl7.specs.Place.{is_msh}
use Rattle.hl7.specs.Refusals.{Told}
use Rattle.hl7.proofs.Comparing.{and_both}
use Rattle.hl7.proofs.Delimiting.{opens-long}
use Rattle.hl7.proofs.Refusing.{sound-opens, sound-msh}
use Rattle.grade.specs.Values.{is_stamp}
use Rattle.grade.specs.Header.{msh_of}
use Rattle.grade.specs.Admission.{Answer}
use Rattle.grade.specs.Standing.{Admits, AdmitsStamped}
use Rattle.grade.specs.Rest.{findings_in}
use Rattle.grade.proofs.Admitting.{admitted_by, admitted_short, admitted_holds, refused-some, stamped_passes, stamped_admitted}
use Rattle.grade.proofs.Grading.{listed}
use Rattle.grade.proofs.Stepping.{all-within}
use Rattle.grade.specs.declared.refusal.Refusal.{Refusal}
use Rattle.grade.specs.declared.step.Terms.{Terms}
use Rattle.ack.specs.Layout.{ack_bytes}
use Rattle.ack.specs.Pieces.{short_or}
use Rattle.ack.specs.Answers.{outcome, answer_of, Gives}
use Rattle.ack.proofs.Answering.{answer_ten_stopped, answer_ten_passed}

-- ---- the stamp
pub stamp-length : (v : List ℕ) → is_stamp v ≡ true → length v ≡ 19
unfolding is_stamp
stamp-length v e =
    let run = (and_both _ _ (and_both _ _ (and_both _ _ (and_both _ _ e).0).0).0).0 in
    eqb-true (length v) 19 run

-- 20 bytes are none, so whoever answers all that are none alike answers the first 20 bytes of a stamp, or more, like all of it
pub stamp-front : {A : Type 0} (answers : List ℕ → A) (none : A) → ((s : List ℕ) → is_stamp s ≡ false → answers s ≡ none) → (stamp : List ℕ) (n : ℕ) → 20 ≤ n → answers (take n stamp) ≡ answers stamp
stamp-front answers none alike stamp n h = by (dec_le n (length stamp))
  where
    long : (s : List ℕ) → 20 ≤ length s → is_stamp s ≡ false
    long s l = by-test (is_stamp s) refl
      where
        by-test : (b : Bool) → is_stamp s ≡ b → b ≡ false
        by-test true e = absurd (omega (arith, stamp-length s e))
        by-test false e = refl

    by : Dec (n ≤ length stamp) → answers (take n stamp) ≡ answers stamp
    by (yes more) = alike (take n stamp) (long (take n stamp) (omega (arith, length-take n stamp))) ∙ sym (alike stamp (long stamp (omega arith)))
    by (no short) = ap answers (take_all n stamp (omega arith))

-- ---- what the code asks of itself
module _ (m b : List ℕ) {t : Terms} (is : Admits m b (Ok t)) where
  pub admitted_msh : {msh : List ℕ} → msh ≡ msh_of m → is_msh msh ≡ true
  admitted_msh first = ap is_msh first ∙ sound-msh m (admitted_by m b is).sound

  pub admitted_long : 0 < length m
  admitted_long = omega (arith, opens-long (bytes "MSH") m (sound-opens m (admitted_by m b is).sound))

  pub admitted_within : length (findings_in b t.section t.header m) ≤ (length m + 1) * (257 * 32769)
  admitted_within = all-within m b t.section t.header (admitted_short m b is) (admitted_holds m b is)

-- ---- the ways out of the call
module _ (m b stamp : List ℕ) (control : ℕ) (out : List ℕ) where
  -- refusals 1 to 10
  pub answer_refused : {a : Refusal} → AdmitsStamped m b stamp (Err a) → Gives (Err a) out (answer_of m b stamp control out)
  answer_refused is = ap (λ (t : Told). outcome t out) is.told_is ∙ sym (answer_ten_stopped m b stamp control out (ne_eqb _ 0 (refused-some is)))

  -- refusal 11, or the ACK
  pub answer_listed : {t : Terms} {msh after : List ℕ} (a : Answer) → AdmitsStamped m b stamp (Ok t) → msh ≡ msh_of m
      → Gives a after (short_or (ack_bytes t.d msh stamp control (findings_in b t.section t.header m)) out) → Gives a after (answer_of m b stamp control out)
  answer_listed {t} a is first w =
      let by = admitted_by m b (stamped_admitted m b stamp is) in
      let all = listed m b t.section by.opens by.reads in
      (rw (by.own, first, all) at w) ∙ sym (answer_ten_passed m b stamp control out (stamped_passes m b stamp is))
