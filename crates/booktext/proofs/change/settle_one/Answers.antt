-- `booktext::change::settle_one` meets its contract. Assumes nothing.
use mathlib.Core.Path.{ap}
use mathlib.Core.Bool.{not}
use Rattle.booktext.proofs.Marking.{part_marks}
use Rattle.booktext.proofs.Changing.{settle_other, settle_gone, settle_stays}
use Rattle.booktext.proofs.change.settle_one.Goals as goal

pub returns-then-not-is_rule : goal.returns-then-not-is_rule
returns-then-not-is_rule c = settle_other c.args.t.now c.args.cells.now c.args.i c.requires.0 c.requires.1 c.args.count c.requires.2 c.is_rule.ensures (ap not c.if-not-is_rule.true)

pub returns-then-is_dropped : goal.returns-then-is_dropped
returns-then-is_dropped c =
    let t = c.args.t.now in
    let cells = c.args.cells.now in
    let i = c.args.i in
    settle_gone t cells i c.requires.0 c.requires.1 c.args.count c.requires.2 c.is_rule.ensures (ap not c.if-not-is_rule.false) (c.is_dropped.ensures t (part_marks t cells i c.requires.0)) c.if-is_dropped.true

pub returns : goal.returns
returns c =
    let t = c.args.t.now in
    let cells = c.args.cells.now in
    let i = c.args.i in
    let gone = c.is_dropped.ensures t (part_marks t cells i c.requires.0) in
    settle_stays t cells i c.requires.0 c.requires.1 c.args.count c.requires.2 c.is_rule.ensures (ap not c.if-not-is_rule.false) gone c.if-is_dropped.false _ c.amended-rule.ensures
