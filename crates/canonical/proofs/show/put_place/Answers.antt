-- `canonical::show::put_place` meets its contract. Assumes nothing.
use mathlib.Core.Path.{refl}
use Rattle.canonical.proofs.PutRules.{place-written}
use Rattle.canonical.proofs.show.put_place.Goals as goal

pub returns : goal.returns
returns c = place-written c.args.place refl c.put_byte.ensures c.put_name.ensures c.put_number.ensures c.put_component.ensures
