use Rattle.cg_driver_laws.proofs.Linking.{links_exist}
use Rattle.cg_driver_laws.proofs.law.links_exist.Goals as goal

pub returns : goal.returns
returns c = links_exist
