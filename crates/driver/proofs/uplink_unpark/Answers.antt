-- There is no answer buffer.
use mathlib.Core.Path.{refl}
use Rattle.reader.specs.Told.{unpark_told}
use Rattle.driver.proofs.EnteredLaws.{entered-done}
use Rattle.driver.proofs.uplink_unpark.Goals as goal

pub returns : goal.returns
returns c = entered-done _ unpark_told _ (λ w. refl) (λ u. refl) c.unpark.ensures c.told.ensures
