-- `grade::header::first_wrong` meets its contract: where no other check fails, the last one does. Assumes nothing.
use Rattle.grade.specs.Header.{header_findings}
use Rattle.grade.proofs.Heading.{last_wrong}
use Rattle.grade.proofs.header.first_wrong.Goals as goal

pub returns-then-header : goal.returns-then-header
unfolding header_findings
returns-then-header c = rw (c.if-header.true, c.header_finding.ensures)

pub returns-then-header-2 : goal.returns-then-header-2
unfolding header_findings
returns-then-header-2 c = rw (c.if-header.false, c.if-header-2.true, c.header_finding-then-header-2.ensures)

pub returns-then-header-3 : goal.returns-then-header-3
unfolding header_findings
returns-then-header-3 c = rw (c.if-header.false, c.if-header-2.false, c.if-header-3.true, c.header_finding-then-header-3.ensures)

pub returns : goal.returns
unfolding header_findings
returns c =
    let one = c.if-header.false in
    let two = c.if-header-2.false in
    let three = c.if-header-3.false in
    rw (one, two, three, last_wrong c.args.header one two three c.requires, c.header_finding-2.ensures)
