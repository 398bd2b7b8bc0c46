-- To be believed. What the command line asks for. Assumes nothing.
use Rattle.std.specs.Prelude.{ℕ, cond, ◌&&◌, List, eqb}
use Rattle.hl7.specs.Text.{bytes}
use Rattle.hl7.specs.Bytes.{same}
use Rattle.book.specs.declared.command.Command.{Command}

-- by how many words it has, the program's own among them, and the one after that
unfoldable pub command_of : ℕ → List ℕ → Command
command_of count verb =
    cond (eqb count 4 && same verb (bytes "compile")) Command.Compile
    (cond (eqb count 3 && same verb (bytes "check")) Command.Check
    (cond (eqb count 3 && same verb (bytes "show")) Command.Show
    (cond (eqb count 3 && same verb (bytes "legend")) Command.Legend
    (cond (eqb count 4 && same verb (bytes "diff")) Command.Diff Command.Unknown))))
