-- `canonical::show::put_kind` meets its contract: each arm writes its own word. Assumes nothing.
use Rattle.booktext.specs.Words.{kind_names}
use Rattle.canonical.proofs.show.put_kind.Goals as goal

pub returns-in-Required : goal.returns-in-Required
unfolding kind_names
returns-in-Required c = rw c.in-Required.is c.put.ensures

pub returns-in-Length : goal.returns-in-Length
unfolding kind_names
returns-in-Length c = rw c.in-Length.is c.put-in-Length.ensures

pub returns-in-Number : goal.returns-in-Number
unfolding kind_names
returns-in-Number c = rw c.in-Number.is c.put-in-Number.ensures

pub returns-in-Date : goal.returns-in-Date
unfolding kind_names
returns-in-Date c = rw c.in-Date.is c.put-in-Date.ensures

pub returns-in-Time : goal.returns-in-Time
unfolding kind_names
returns-in-Time c = rw c.in-Time.is c.put-in-Time.ensures

pub returns-in-Code : goal.returns-in-Code
unfolding kind_names
returns-in-Code c = rw c.in-Code.is c.put-in-Code.ensures
