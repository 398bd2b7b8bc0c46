-- `booktext::line::skip_words` meets its contract, by the invariant that stands beside this. Assumes nothing.
use mathlib.Core.Path.{◌≡◌, sym, ap, ◌∙◌}
use Prim.Native.Nat.{◌+◌, ◌-◌}
use native.Mathlib.Omega.{arith}
use lib.ListN.{drop}
use Rattle.booktext.specs.Standing.{words_from}
use Rattle.booktext.proofs.Words.{skip_more, skip_over}
use Rattle.booktext.proofs.line.skip_words.Goals as goal

pub loop-preserved : goal.loop-preserved
loop-preserved c =
    let left = c.args.count - c.loop.counter in
    let one_less : left - 1 ≡ c.args.count - (c.loop.counter + 1) = omega arith in
    c.loop.invariant ∙ skip_more _ _ c.next_word-i.ensures left (omega arith) ∙ ap (λ (k : _). drop k (words_from c.args.t.now c.next_word-i.result.end)) one_less

pub returns : goal.returns
returns c = skip_over (c.args.count - c.loop.counter) (words_from c.args.t.now c.loop.i) (omega arith) ∙ sym c.loop.invariant
