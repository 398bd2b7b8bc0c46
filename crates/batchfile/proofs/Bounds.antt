-- How large what is answered to a batch file can be, and that a stamp which is too long is refused like its first bytes, which are too many too.
-- Assumes nothing.
use mathlib.Core.Path.{◌≡◌, refl, sym, ap, ◌∙◌}
use mathlib.Core.Bool.{Bool, true, false, cond, not, true≢false}
use mathlib.Core.List.{List, [], ◌∷◌, ◌++◌}
use Prim.Native.Nat.{ℕ, zero, suc, ◌+◌, ◌*◌, ◌^◌, ◌≤◌, ◌<◌}
use native.Mathlib.Omega.{arith}
use native.Mathlib.Decide.{dec_le, ℕ_discrete}
use lib.Dec.{eqb, ltb}
use lib.ListN.{length, get_or, take, drop, length-append, length-drop, take-append-drop}
use borrow.Author.Tests.{ltb-false, not-false}
use Rattle.hl7.specs.Text.{bytes}
use Rattle.hl7.specs.Place.{carriage_return, is_msh}
use Rattle.hl7.specs.Refusals.{Told, told, is_some, first_row, passes}
use Rattle.hl7.proofs.Comparing.{begins-long}
use Rattle.grade.specs.Values.{is_stamp}
use Rattle.grade.specs.Admission.{ten_rows}
use Rattle.grade.proofs.Admitting.{ten_passes}
use Rattle.ack.specs.Answers.{Outcome, outcome, outcome_by, ack_for}
use Rattle.ack.proofs.Admitting.{stamp-front}
use Rattle.ack.proofs.Promises.{written_of, ack-within}
use Rattle.batchfile.specs.Messages.{in_front, lines_of, is_frame, nothing, gather, gathered}
use Rattle.batchfile.specs.Frame.{messages_in}
use Rattle.batchfile.specs.Batch.{file_limit, is_wrong, meets_one, refused_from, acks_from, batch_of}
use Rattle.batchfile.proofs.Answering.{too_long}
use Rattle.batchfile.proofs.Promises.{batch_answered, batch_alters_nothing, empty_batch, batch_joined}

-- ---- the messages of a file
-- the lengths of some texts, added up
unfoldable pub size_of : List (List ℕ) → ℕ
size_of [] = 0
size_of (s ∷ texts) = length s + size_of texts

lines_size : (s : List ℕ) → size_of (lines_of s) ≡ length s
unfolding lines_of in_front size_of
lines_size [] = refl
lines_size (x ∷ s) = by (eqb x carriage_return) (lines_of s) (lines_size s)
  where
    by : (b : Bool) (lines : List (List ℕ)) → size_of lines ≡ length s → size_of (in_front b x lines) ≡ suc (length s)
    by true lines ih = omega arith
    by false [] ih = omega arith
    by false (line ∷ lines) ih = omega arith

drop_size : (n : ℕ) (texts : List (List ℕ)) → size_of (drop n texts) ≤ size_of texts
unfolding size_of
drop_size zero texts = omega arith
drop_size (suc n) [] = omega arith
drop_size (suc n) (s ∷ texts) = let ih = drop_size n texts in omega arith

-- each segment is in one message at most
gathered-within : (lines : List (List ℕ)) → length (gathered lines).before + size_of (gathered lines).messages ≤ size_of lines
unfolding gathered gather size_of
gathered-within [] = omega arith
gathered-within (line ∷ lines) = by (is_frame line) (is_msh line) (gathered-within lines)
  where
    by : (frame msh : Bool) → length (gathered lines).before + size_of (gathered lines).messages ≤ size_of lines
        → length (cond frame nothing (gather msh line (gathered lines))).before + size_of (cond frame nothing (gather msh line (gathered lines))).messages ≤ length line + size_of lines
    by true msh ih = omega arith
    by false true ih = omega (arith, length-append line (gathered lines).before)
    by false false ih = omega (arith, length-append line (gathered lines).before)

-- and each message has the three bytes of its name
gathered-few : (lines : List (List ℕ)) → length (gathered lines).messages ≤ size_of lines
unfolding gathered gather size_of
gathered-few [] = omega arith
gathered-few (line ∷ lines) = by (is_frame line) (is_msh line) refl (gathered-few lines)
  where
    by : (frame msh : Bool) → is_msh line ≡ msh → length (gathered lines).messages ≤ size_of lines → length (cond frame nothing (gather msh line (gathered lines))).messages ≤ length line + size_of lines
    by true msh e ih = omega arith
    by false true e ih = omega (arith, begins-long (bytes "MSH") line e)
    by false false e ih = omega arith

pub messages-within : (f : List ℕ) → size_of (messages_in f) ≤ length f
messages-within f = omega (arith, gathered-within (drop 2 (lines_of f)), drop_size 2 (lines_of f), lines_size f)

pub few-messages : (f : List ℕ) → length (messages_in f) ≤ length f
few-messages f = omega (arith, gathered-few (drop 2 (lines_of f)), drop_size 2 (lines_of f), lines_size f)

-- ---- the joined ACKs
-- each is longer than its message by this factor at most
pub joined-within : (book stamp : List ℕ) (n control : ℕ) (ms : List (List ℕ)) → refused_from book stamp n ms ≡ [] → length (acks_from book stamp control ms) ≤ size_of ms * 2 ^ 32
unfolding refused_from acks_from size_of
joined-within book stamp n control [] none = omega arith
joined-within book stamp n control (m ∷ ms) none = by (meets_one book stamp m) refl none (joined-within book stamp (suc n) (suc control) ms)
  where
    by : (b : Bool) → meets_one book stamp m ≡ b → cond b (n ∷ refused_from book stamp (suc n) ms) (refused_from book stamp (suc n) ms) ≡ []
        → (refused_from book stamp (suc n) ms ≡ [] → length (acks_from book stamp (suc control) ms) ≤ size_of ms * 2 ^ 32)
        → length (ack_for m book stamp control ++ acks_from book stamp (suc control) ms) ≤ (length m + size_of ms) * 2 ^ 32
    by true e none ih = absurd (omega (arith, ap length none))
    by false e none ih =
        let right = ten_passes m book stamp (not-false (passes (ten_rows m book stamp)) e) in
        omega (arith, ih none, ack-within m book stamp control right.0 right.1, length-append (ack_for m book stamp control) (acks_from book stamp (suc control) ms))

-- ---- the answer
first-ordinal : (book stamp : List ℕ) (n : ℕ) (ms : List (List ℕ)) → get_or (refused_from book stamp n ms) 0 0 ≤ n + length ms
unfolding refused_from
first-ordinal book stamp n [] = omega arith
first-ordinal book stamp n (m ∷ ms) = by (meets_one book stamp m) (first-ordinal book stamp (suc n) ms)
  where
    by : (b : Bool) → get_or (refused_from book stamp (suc n) ms) 0 0 ≤ suc n + length ms → get_or (cond b (n ∷ refused_from book stamp (suc n) ms) (refused_from book stamp (suc n) ms)) 0 0 ≤ n + suc (length ms)
    by true ih = omega arith
    by false ih = omega arith

right-short : (f : List ℕ) (control : ℕ) → is_wrong f control ≡ false → length f ≤ file_limit
right-short f control right = by (dec_le (length f) file_limit)
  where
    by : Dec (length f ≤ file_limit) → length f ≤ file_limit
    by (yes h) = h
    by (no long) = absurd (true≢false (sym (too_long f control (omega arith)) ∙ right))

module _ (f book stamp : List ℕ) (control : ℕ) (out : List ℕ) where
  -- no detail is over 2 ^ 52, and no number reaches 16
  pub batch_bounded : ((batch_of f book stamp control out).told.number < 16) × ((batch_of f book stamp control out).told.detail ≤ 2 ^ 52)
  unfolding batch_of first_row
  batch_bounded = by (is_wrong f control) refl (refused_from book stamp 1 (messages_in f)) refl (ltb (length out) (length acks))
    where
      acks : List ℕ
      acks = acks_from book stamp control (messages_in f)

      tells : Bool → List ℕ → Bool → Told
      tells wrong refused short = (outcome_by (cond wrong (told 14 0) (cond (is_some refused) (told 15 (get_or refused 0 0)) (cond short (told 11 (length acks)) (told 0 0)))) acks out).told

      by : (wrong : Bool) → is_wrong f control ≡ wrong → (refused : List ℕ) → refused_from book stamp 1 (messages_in f) ≡ refused → (short : Bool) → ((tells wrong refused short).number < 16) × ((tells wrong refused short).detail ≤ 2 ^ 52)
      by true e refused r short = (omega arith, omega arith)
      by false e (x ∷ refused) r short =
          let first : get_or (refused_from book stamp 1 (messages_in f)) 0 0 ≡ x = ap (λ (l : List ℕ). get_or l 0 0) r in
          (omega arith, omega (arith, first, first-ordinal book stamp 1 (messages_in f), few-messages f, right-short f control e))
      by false e [] r short = let long = joined-within book stamp 1 control (messages_in f) r in room short (omega (arith, long, messages-within f, right-short f control e))
        where
          room : (short : Bool) → length acks ≤ 2 ^ 52 → ((tells false [] short).number < 16) × ((tells false [] short).detail ≤ 2 ^ 52)
          room true h = (omega arith, h)
          room false h = (omega arith, h)

  -- the output is as long as it was
  pub batch_length : length (batch_of f book stamp control out).output ≡ length out
  batch_length = by (ℕ_discrete (batch_of f book stamp control out).told.number 0)
    where
      by : Dec ((batch_of f book stamp control out).told.number ≡ 0) → length (batch_of f book stamp control out).output ≡ length out
      by (yes e) =
          let o = batch_of f book stamp control out in
          let acks = acks_from book stamp control (messages_in f) in
          let is = batch_joined f book stamp control out e in
          let fits = ltb-false (length out) (length acks) ((batch_answered f book stamp control out).0 e 2) in
          let both = ap length (take-append-drop o.told.detail o.output) in
          omega (arith, length-append (written_of o) (drop o.told.detail o.output), ap length is.0, ap length is.1, length-drop (length acks) out)
      by (no some) = ap length (batch_alters_nothing f book stamp control out some)

-- ---- the stamp
-- without one every message meets row 10, if none before it
meets-unstamped : (book stamp m : List ℕ) → is_stamp stamp ≡ false → meets_one book stamp m ≡ true
meets-unstamped book stamp m e = by (passes (ten_rows m book stamp)) refl
  where
    by : (b : Bool) → passes (ten_rows m book stamp) ≡ b → not b ≡ true
    by true passed = absurd (true≢false (sym (ten_passes m book stamp passed).1 ∙ e))
    by false passed = refl

-- and where there is no message, it is not looked at
abbrev unstamped : List (List ℕ) → (out : List ℕ) → Outcome
unstamped [] out = outcome (told 0 0) out
unstamped (m ∷ ms) out = outcome (told 15 1) out

batch_unstamped : (f book stamp : List ℕ) (control : ℕ) (out : List ℕ) → is_stamp stamp ≡ false → batch_of f book stamp control out ≡ cond (is_wrong f control) (outcome (told 14 0) out) (unstamped (messages_in f) out)
unfolding batch_of first_row refused_from
batch_unstamped f book stamp control out e = by (is_wrong f control) (messages_in f) refl refl
  where
    by : (wrong : Bool) (ms : List (List ℕ)) → is_wrong f control ≡ wrong → messages_in f ≡ ms → batch_of f book stamp control out ≡ cond wrong (outcome (told 14 0) out) (unstamped ms out)
    by true ms w are = rw w
    by false [] w are = empty_batch f book stamp control out w are
    by false (m ∷ ms) w are = rw (w, are, meets-unstamped book stamp m e)

-- so the first 20 bytes of a stamp, or more, are answered like all of it
pub batch_stamp : (f book stamp : List ℕ) (control : ℕ) (out : List ℕ) (n : ℕ) → 20 ≤ n → batch_of f book (take n stamp) control out ≡ batch_of f book stamp control out
batch_stamp f book stamp control out = stamp-front (λ (s : List ℕ). batch_of f book s control out) _ (λ s e. batch_unstamped f book s control out e) stamp
