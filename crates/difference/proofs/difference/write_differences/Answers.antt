-- `difference::difference::write_differences` meets its contract. Assumes nothing.
use mathlib.Core.Path.{refl}
use native.Mathlib.Omega.{arith}
use Rattle.difference.proofs.Answering.{diff_long, diff_put}
use Rattle.difference.proofs.difference.write_differences.Goals as goal

pub returns-then-output-size : goal.returns-then-output-size
returns-then-output-size c =
    diff_long c.args.old.now c.args.olds.now c.requires.0 c.args.new.now c.args.news.now c.requires.1
    (λ k. omega (arith, c.shared_slice_known-1.given k)) (λ k. omega (arith, c.shared_slice_known-3-1.given k)) c.args.output.now
    c.put_differences-size.ensures c.if-output-size.true c.with.ensures

pub returns : goal.returns
returns c =
    diff_put c.args.old.now c.args.olds.now c.requires.0 c.args.new.now c.args.news.now c.requires.1
    (λ k. omega (arith, c.shared_slice_known-1.given k)) (λ k. omega (arith, c.shared_slice_known-3-1.given k)) c.args.output.now
    c.put_differences-size.ensures c.if-output-size.false c.put_differences.ensures refl
