-- `grade::walk::text_end` meets its contract: at each exit the tests say what the readers of `text` did. Assumes nothing.
use Prim.Native.Nat.{ℕ, ◌+◌, ◌<◌, ◌≤◌}
use mathlib.Core.Path.{◌≡◌, sym, ap, ◌∙◌}
use mathlib.Core.Bool.{Bool, true, false, ◌&&◌}
use mathlib.Core.List.{List}
use native.Mathlib.Omega.{arith}
use borrow.Author.Tests.{le-leb, lt-leb}
use lib.Dec.{leb}
use lib.ListN.{length, get_or}
use lib.Seq.{slice}
use Rattle.std.specs.Prelude.{None}
use Rattle.std.specs.Bool.{then_some}
use Rattle.hl7.specs.Bytes.{all}
use Rattle.grade.specs.Book.{plain, text}
use Rattle.grade.specs.Standing.{end_of}
use Rattle.grade.proofs.walk.text_end.Goals as goal

-- over plain variables: there is no length byte, or one of a size, which is out of the limits, or past the end, or is followed by so many letters
module _ (limit : ℕ) (b : List ℕ) (at : ℕ) where
  past : length b ≤ at → None ≡ end_of (text limit b at)
  unfolding text
  past h = rw (lt-leb (at + 1) (length b) (omega arith))

  module _ (size : ℕ) (h : at < length b) (is : size ≡ get_or b at 0) where
    over-limit : (leb 1 size && leb size limit) ≡ false → None ≡ end_of (text limit b at)
    unfolding text
    over-limit l = rw (le-leb (at + 1) (length b) (omega arith), ← is, l)

    module _ (l : (leb 1 size && leb size limit) ≡ true) where
      too-long : length b < at + 1 + size → None ≡ end_of (text limit b at)
      unfolding text
      too-long k = rw (le-leb (at + 1) (length b) (omega arith), ← is, l, lt-leb (at + 1 + size) (length b) k)

      whole : (t : Bool) → at + 1 + size ≤ length b → t ≡ all plain (slice (at + 1) (at + 1 + size) b) → then_some t (at + 1 + size) ≡ end_of (text limit b at)
      unfolding text
      whole true k e = rw (le-leb (at + 1) (length b) (omega arith), ← is, l, le-leb (at + 1 + size) (length b) k, ← e)
      whole false k e = rw (le-leb (at + 1) (length b) (omega arith), ← is, l, le-leb (at + 1 + size) (length b) k, ← e)

pub returns-in_err-get : goal.returns-in_err-get
returns-in_err-get c = c.from_residual.ensures ∙ past c.args.limit c.args.book.now c.args.at c.in_err-get.ensures.lookup.3

pub returns-then-not-size-limit : goal.returns-then-not-size-limit
returns-then-not-size-limit c =
    let k = c.in_ok-get.ensures.lookup.3 in
    over-limit c.args.limit c.args.book.now c.args.at c.from-size.result k.0 (c.from-size.ensures ∙ k.1 0) c.if-not-size-limit.true

pub returns-then-book-at : goal.returns-then-book-at
returns-then-book-at c =
    let k = c.in_ok-get.ensures.lookup.3 in
    too-long c.args.limit c.args.book.now c.args.at c.from-size.result k.0 (c.from-size.ensures ∙ k.1 0) c.if-not-size-limit.false (omega (arith, k.0))

pub text_part-requires : goal.text_part-requires
text_part-requires c =
    let k = c.in_ok-get.ensures.lookup.3 in
    record { starts = k.0; ends = omega (arith, k.0, c.from-size.ensures ∙ k.1 0) }

pub returns : goal.returns
returns c =
    let b = c.args.book.now in
    let k = c.in_ok-get.ensures.lookup.3 in
    let size = c.from-size.ensures ∙ k.1 0 in
    let end : c.text_after.result ≡ c.args.at + 1 + c.from-size.result = c.text_after.ensures ∙ ap (λ (n : ℕ). c.args.at + 1 + n) (sym size) in
    let part : c.text_part.result.now ≡ slice (c.args.at + 1) (c.args.at + 1 + c.from-size.result) b = c.text_part.ensures ∙ ap (λ (n : ℕ). slice (c.args.at + 1) (c.args.at + 1 + n) b) (sym size) in
    c.then_some.ensures ∙ ap (then_some c.all_plain.result) end
    ∙ whole c.args.limit b c.args.at c.from-size.result k.0 size c.if-not-size-limit.false _ (omega (arith, k.0)) (c.all_plain.ensures ∙ ap (all plain) part)
