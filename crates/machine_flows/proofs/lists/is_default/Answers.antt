-- `is_default` tests the kind by its number.
use Rattle.machine_flows.proofs.Items.{default-test}
use Rattle.machine_flows.proofs.lists.is_default.Goals as goal

pub returns : goal.returns
returns c = default-test c.requires c.number_at.ensures
