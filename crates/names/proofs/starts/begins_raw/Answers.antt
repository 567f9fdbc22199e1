use Rattle.names.specs.Starts.{begins_raw}
use Rattle.names.proofs.starts.begins_raw.Goals as goal

pub returns : goal.returns
unfolding begins_raw
returns c = c.starts_with2.ensures
