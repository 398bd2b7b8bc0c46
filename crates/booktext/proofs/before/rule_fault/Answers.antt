-- `booktext::before::rule_fault` meets its contract: what speaks of a place is asked for a rule, what changes codes for these, and nothing else is asked for anything. Assumes nothing.
use mathlib.Core.Path.{refl}
use Rattle.std.proofs.lemmas.List.Elements.{All-take}
use Rattle.booktext.specs.Standing.{Marked}
use Rattle.booktext.proofs.Preceding.{fault-place, fault-codes, fault-none, less-here}
use Rattle.booktext.proofs.before.rule_fault.Goals as goal

pub codes_asked-requires : goal.codes_asked-requires
codes_asked-requires c =
    let a = c.args in (
      c.requires.0,
      All-take (Marked a.t.now) a.i a.cells.now c.requires.1,
      less-here a.t.now a.cells.now a.i c.requires.1 c.requires.2,
    )

pub returns-then-is_placed : goal.returns-then-is_placed
returns-then-is_placed c =
    let a = c.args in
    fault-place a.t.now a.cells.now a.i c.requires.1 c.requires.2 c.is_placed.ensures c.if-is_placed.true c.is_standing.ensures c.place_fault.ensures

pub returns-then-not-is_codes : goal.returns-then-not-is_codes
returns-then-not-is_codes c =
    let a = c.args in
    fault-none a.t.now a.cells.now a.i c.requires.1 c.requires.2 c.is_placed.ensures c.if-is_placed.false c.is_codes.ensures c.if-not-is_codes.true

pub returns-then-not-codes_asked : goal.returns-then-not-codes_asked
returns-then-not-codes_asked c =
    let a = c.args in
    fault-codes a.t.now a.cells.now a.i c.requires.1 c.requires.2 c.is_placed.ensures c.if-is_placed.false c.is_codes.ensures c.if-not-is_codes.false c.codes_asked.ensures (rw c.if-not-codes_asked.true refl)

pub returns : goal.returns
returns c =
    let a = c.args in
    fault-codes a.t.now a.cells.now a.i c.requires.1 c.requires.2 c.is_placed.ensures c.if-is_placed.false c.is_codes.ensures c.if-not-is_codes.false c.codes_asked.ensures (rw c.if-not-codes_asked.false refl)
