-- `difference::line::put_sets` meets its contract. Assumes nothing.
use Rattle.ack.proofs.Adding.{adds_none}
use Rattle.difference.specs.Ruled.{codes_in}
use Rattle.difference.proofs.Lining.{codes_same, codes_other}
use Rattle.difference.proofs.line.put_sets.Goals as goal

pub returns-then-kept-known : goal.returns-then-kept-known
returns-then-kept-known c =
    let codes = codes_in c.args.ruled.now in
    let others = codes_in c.args.other.now in
    adds_none _
    (codes_same c.args.key.now c.args.n c.args.ruled.now.rule codes others c.all_among-kept.ensures c.all_among-known.ensures c.if-kept-known.true)

pub returns : goal.returns
returns c =
    let codes = codes_in c.args.ruled.now in
    let others = codes_in c.args.other.now in
    codes_other c.args.key.now c.args.n c.args.ruled.now.rule codes others c.all_among-kept.ensures c.all_among-known.ensures c.if-kept-known.false
    c.put_head.ensures c.put_gone.ensures c.put_gone-2.ensures c.put_byte.ensures
