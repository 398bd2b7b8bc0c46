-- `booktext::compile::put_front` meets its contract. Assumes nothing.
use mathlib.Core.Path.{ap}
use native.Mathlib.Omega.{arith}
use lib.ListN.{length}
use Rattle.ack.proofs.Writing.{wrote-length}
use Rattle.booktext.proofs.Making.{front_put}
use Rattle.booktext.proofs.compile.put_front.Goals as goal

pub put_text-second-requires : goal.put_text-second-requires
put_text-second-requires c = omega (arith, ap length c.word_of.ensures, c.requires.2)

pub put_two-third-requires : goal.put_two-third-requires
put_two-third-requires c = c.requires.1

pub overflow_cast-names : goal.overflow_cast-names
overflow_cast-names c = omega (arith, c.args.names.now.few)

pub put_rules-requires : goal.put_rules-requires
put_rules-requires c =
    c.requires.0

pub returns : goal.returns
returns c = front_put c.word_of.ensures c.put_text-second.ensures c.put_two-third.ensures c.put_byte-fourth.ensures c.put_rules.ensures

pub shape_of-out : goal.shape_of-out
shape_of-out c = wrote-length (returns c)
