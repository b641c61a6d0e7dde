-- There is no answer buffer.
use mathlib.Core.Path.{refl}
use Rattle.uplink.specs.Told.{start_told}
use Rattle.driver.proofs.EnteredLaws.{entered-done}
use Rattle.driver.proofs.uplink_start.Goals as goal

pub returns : goal.returns
returns c = entered-done _ start_told _ (λ w. refl) (λ u. refl) c.start.ensures c.told.ensures
