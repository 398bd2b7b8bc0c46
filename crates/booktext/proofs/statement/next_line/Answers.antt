-- `booktext::statement::next_line` meets its contract. Assumes nothing.
use native.Mathlib.Omega.{arith}
use Rattle.booktext.proofs.Stating.{line-within}
use Rattle.booktext.proofs.statement.next_line.Goals as goal

pub overflow_add-result : goal.overflow_add-result
overflow_add-result c = omega (arith, c.find_far.ensures, line-within c.args.t.now c.args.at c.requires)
