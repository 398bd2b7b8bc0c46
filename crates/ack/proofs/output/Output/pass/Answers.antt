-- `ack::output::Output::pass` meets its contract. Assumes nothing.
use mathlib.Core.Path.{refl, sym}
use Rattle.ack.proofs.Writing.{wrote_over}
use Rattle.ack.proofs.output.Output.pass.Goals as goal

pub returns : goal.returns
returns c = λ bytes long. record { same = refl; wrote = λ near room. wrote_over _ bytes _ c.args.count _ room c.requires.0 (sym long) c.advanced-self.ensures }
