-- `booktext::word::is_severity` meets its contract. Assumes nothing.
use Rattle.booktext.proofs.Reading.{asked_severity}
use Rattle.booktext.proofs.word.is_severity.Goals as goal

pub returns : goal.returns
returns c = asked_severity _
