use Rattle.hc_runs.proofs.Fired.{posts_meet}
use Rattle.hc_runs.proofs.laws.meeting_laws.Goals as goal

pub returns : goal.returns
returns c = posts_meet
