use Rattle.std.proofs.Common.{refl}
use Rattle.hc_member.proofs.TakingOver.{takes_over}
use Rattle.hc_member.proofs.member.Member.take_over.Goals as goal

pub returns-clause-takes : goal.returns-clause-takes
returns-clause-takes c p q is =
    let starts = c.requires.3.starts in
    takes_over c.args.advance.now _ c.args.self.now c.hand_over.ensures.ran starts.same_code starts.same_start _ refl refl p q is
