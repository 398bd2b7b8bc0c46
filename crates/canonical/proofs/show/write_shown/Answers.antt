-- `canonical::show::write_shown` meets its contract. Assumes nothing.
use mathlib.Core.Path.{refl}
use native.Mathlib.Omega.{arith}
use Rattle.canonical.proofs.PutBook.{shown-long, shown_put}
use Rattle.canonical.proofs.show.write_shown.Goals as goal

pub returns-then-output-size : goal.returns-then-output-size
returns-then-output-size c =
    shown-long c.args.book.now (λ k. omega (arith, c.shared_slice_known-1.given k)) c.requires.2 c.requires.3 c.requires.1 c.args.output.now
    c.put_shown-size.ensures c.if-output-size.true c.with.ensures

pub returns : goal.returns
returns c =
    shown_put c.args.book.now (λ k. omega (arith, c.shared_slice_known-1.given k)) c.requires.2 c.requires.3 c.requires.1 c.args.output.now
    c.put_shown-size.ensures c.if-output-size.false c.put_shown.ensures refl
