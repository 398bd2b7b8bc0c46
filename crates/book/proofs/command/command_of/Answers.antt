-- `book::command::command_of` meets its contract. Assumes nothing.
use Rattle.book.proofs.Replying.{command_compile, command_check, command_show, command_legend, command_diff, command_unknown}
use Rattle.book.proofs.command.command_of.Goals as goal

pub returns-then-count-same_bytes : goal.returns-then-count-same_bytes
returns-then-count-same_bytes c = command_compile _ _ c.same_bytes.ensures c.if-count-same_bytes.true

pub returns-then-count-same_bytes-2 : goal.returns-then-count-same_bytes-2
returns-then-count-same_bytes-2 c = command_check _ _ c.same_bytes.ensures c.if-count-same_bytes.false c.same_bytes-2.ensures c.if-count-same_bytes-2.true

pub returns-then-count-same_bytes-3 : goal.returns-then-count-same_bytes-3
returns-then-count-same_bytes-3 c = command_show _ _ c.same_bytes.ensures c.if-count-same_bytes.false c.same_bytes-2.ensures c.if-count-same_bytes-2.false c.same_bytes-3.ensures c.if-count-same_bytes-3.true

pub returns-then-count-same_bytes-4 : goal.returns-then-count-same_bytes-4
returns-then-count-same_bytes-4 c = command_legend _ _ c.same_bytes.ensures c.if-count-same_bytes.false c.same_bytes-2.ensures c.if-count-same_bytes-2.false c.same_bytes-3.ensures c.if-count-same_bytes-3.false c.same_bytes-4.ensures c.if-count-same_bytes-4.true

pub returns-then-count-same_bytes-5 : goal.returns-then-count-same_bytes-5
returns-then-count-same_bytes-5 c = command_diff _ _ c.same_bytes.ensures c.if-count-same_bytes.false c.same_bytes-2.ensures c.if-count-same_bytes-2.false c.same_bytes-3.ensures c.if-count-same_bytes-3.false c.same_bytes-4.ensures c.if-count-same_bytes-4.false c.same_bytes-5.ensures c.if-count-same_bytes-5.true

pub returns : goal.returns
returns c = command_unknown _ _ c.same_bytes.ensures c.if-count-same_bytes.false c.same_bytes-2.ensures c.if-count-same_bytes-2.false c.same_bytes-3.ensures c.if-count-same_bytes-3.false c.same_bytes-4.ensures c.if-count-same_bytes-4.false c.same_bytes-5.ensures c.if-count-same_bytes-5.false
