-- `legend::legend::put_any` meets its contract. Assumes nothing.
use Rattle.booktext.specs.Lines.{statements}
use Rattle.booktext.specs.Standing.{statement_at, next_line, left}
use Rattle.booktext.proofs.Compiling.{says-section}
use Rattle.legend.proofs.Listing.{roomy-here, no_section_lem, section-here, section-none}
use Rattle.legend.proofs.legend.put_any.Goals as goal

pub put_section-requires : goal.put_section-requires
put_section-requires c = (c.requires.0, c.requires.1, c.requires.2, c.requires.3, roomy-here c.args.t.now (statements c.args.t.now) (statement_at c.args.t.now c.args.line 0) (left c.args.t.now (next_line c.args.t.now c.args.line)) c.requires.4 (says-section (statement_at c.args.t.now c.args.line 0) c.verb_at.ensures.0 c.if-verb_at-eq-SECTION.true))

pub returns-then-verb_at-eq-SECTION : goal.returns-then-verb_at-eq-SECTION
returns-then-verb_at-eq-SECTION c = section-here c.args.t.now (statements c.args.t.now) (statement_at c.args.t.now c.args.line 0) (left c.args.t.now (next_line c.args.t.now c.args.line)) (says-section (statement_at c.args.t.now c.args.line 0) c.verb_at.ensures.0 c.if-verb_at-eq-SECTION.true) c.put_section.ensures

pub returns-else-verb_at-eq-SECTION : goal.returns-else-verb_at-eq-SECTION
returns-else-verb_at-eq-SECTION c = section-none c.args.t.now (statements c.args.t.now) (statement_at c.args.t.now c.args.line 0) (left c.args.t.now (next_line c.args.t.now c.args.line)) (no_section_lem (statement_at c.args.t.now c.args.line 0) c.verb_at.ensures.0 c.if-verb_at-eq-SECTION.false) _
