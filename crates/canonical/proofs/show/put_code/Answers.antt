-- `canonical::show::put_code` meets its contract. Assumes nothing.
use Rattle.hl7.specs.Text.{bytes}
use Rattle.canonical.proofs.PutSets.{two_written}
use Rattle.canonical.proofs.show.put_code.Goals as goal

pub returns : goal.returns
returns c = two_written (bytes "code") c.text_part.ensures c.put.ensures c.put-2.ensures c.put_byte.ensures
