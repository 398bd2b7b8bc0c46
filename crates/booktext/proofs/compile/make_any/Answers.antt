-- `booktext::compile::make_any` meets its contract. Assumes nothing.
use Rattle.booktext.specs.Lines.{statements}
use Rattle.booktext.specs.Standing.{statement_at, next_line, left}
use Rattle.booktext.proofs.Compiling.{says-section, any_section, any_other}
use Rattle.booktext.proofs.compile.make_any.Goals as goal

pub make_section-requires : goal.make_section-requires
make_section-requires c = (c.requires.0, c.requires.1, c.requires.2, says-section (statement_at c.args.t.now c.args.line 0) c.verb_at.ensures.0 c.if-verb_at-eq-SECTION.true, c.requires.3, c.requires.4, c.requires.5)

pub returns-then-verb_at-eq-SECTION : goal.returns-then-verb_at-eq-SECTION
returns-then-verb_at-eq-SECTION c = any_section (statement_at c.args.t.now c.args.line 0) c.verb_at.ensures.0 c.args.t.now (statements c.args.t.now) (left c.args.t.now (next_line c.args.t.now c.args.line)) c.if-verb_at-eq-SECTION.true c.make_section.ensures

pub returns : goal.returns
returns c = any_other (statement_at c.args.t.now c.args.line 0) c.verb_at.ensures.0 c.args.t.now (statements c.args.t.now) (left c.args.t.now (next_line c.args.t.now c.args.line)) c.if-verb_at-eq-SECTION.false c.put.ensures
