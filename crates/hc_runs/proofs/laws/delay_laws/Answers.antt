use Rattle.hc_runs.proofs.Moving.{posts_move}
use Rattle.hc_runs.proofs.Taking.{delay_is_fit}
use Rattle.hc_runs.proofs.Within.{all_posts_move}
use Rattle.hc_runs.proofs.Resting.{delays_end}
use Rattle.hc_runs.proofs.laws.delay_laws.Goals as goal

pub returns-clause-posts : goal.returns-clause-posts
returns-clause-posts c = posts_move

pub returns-clause-ends : goal.returns-clause-ends
returns-clause-ends c = delays_end

pub returns-clause-all_posts : goal.returns-clause-all_posts
returns-clause-all_posts c = all_posts_move

pub returns-clause-fits : goal.returns-clause-fits
returns-clause-fits c = delay_is_fit
