-- `booktext::fault::codes_right` meets its contract. Assumes nothing.
use Rattle.booktext.proofs.Faulting.{codes_code, codes-set, codes-others}
use Rattle.booktext.proofs.fault.codes_right.Goals as goal

pub returns-then-verb-eq-CODE : goal.returns-then-verb-eq-CODE
returns-then-verb-eq-CODE c = codes_code _ c.if-verb-eq-CODE.true c.skip_words.ensures c.all_codes.ensures

pub returns-then-verb-is_codes : goal.returns-then-verb-is_codes
returns-then-verb-is_codes c = codes-set _ c.if-verb-eq-CODE.false c.is_codes.ensures c.if-verb-is_codes.true c.skip_words-then-verb-is_codes.ensures c.all_codes-then-verb-is_codes.ensures

pub returns : goal.returns
returns c = codes-others _ c.if-verb-eq-CODE.false c.is_codes.ensures c.if-verb-is_codes.false
