-- `canonical::show::put_severity` meets its contract: each arm writes its own letter. Assumes nothing.
use Rattle.canonical.proofs.show.put_severity.Goals as goal

pub returns-in-Error : goal.returns-in-Error
returns-in-Error c = rw c.in-Error.is c.put.ensures

pub returns-in-Warning : goal.returns-in-Warning
returns-in-Warning c = rw c.in-Warning.is c.put-in-Warning.ensures

pub returns-in-Informational : goal.returns-in-Informational
returns-in-Informational c = rw c.in-Informational.is c.put-in-Informational.ensures
