-- `grade::within::open_field` meets its contract: the rule's field is noted. Assumes nothing.
use mathlib.Core.Path.{sym}
use native.Mathlib.Omega.{arith}
use Rattle.grade.proofs.Spots.{kind_in_range, field_last, fielded}
use Rattle.grade.proofs.within.open_field.Goals as goal

pub codes_of-codes-requires : goal.codes_of-codes-requires
codes_of-codes-requires c =
    let a = c.args in
    let p = c.requires in
    (p.0, p.1, kind_in_range a.d a.m.now a.book.now a.section a.here p.0 p.2 (record { rule = a.i; at = 0; passed = 0; field = record { codes = 0; start = 0; end = 0 } }) p.5 p.6 a.rule p.7)

pub noted_field_span-span-requires : goal.noted_field_span-span-requires
noted_field_span-span-requires c =
    let a = c.args in
    let p = c.requires in
    (p.3.noted, sym p.2.named, omega (arith, p.4, field_last a.d a.m.now a.book.now a.section a.here p.0 p.2 (record { rule = a.i; at = 0; passed = 0; field = record { codes = 0; start = 0; end = 0 } }) p.5 p.6 a.rule p.7))

pub returns : goal.returns
returns c =
    let a = c.args in
    let p = c.requires in
    fielded a.d a.m.now a.book.now a.section a.here p.0 p.2 (record { rule = a.i; at = 0; passed = 0; field = record { codes = 0; start = 0; end = 0 } }) p.5 p.6 a.rule p.7 c.codes_of-codes.result c.from.ensures c.noted_field_span-span.ensures c.codes_of-codes.ensures p.3.untilded
