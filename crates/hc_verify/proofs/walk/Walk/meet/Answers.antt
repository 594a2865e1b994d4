use Rattle.std.proofs.Common.{refl}
use Rattle.hc_verify.proofs.MeetingLine.{joins}
use Rattle.hc_verify.proofs.walk.Walk.meet.Goals as goal

pub returns : goal.returns
returns c sys before at =
    let m = c.args.meeting.now in
    let meets = (c.if-not-is_offered.ensures sys before at).0 refl in
    (meets, c.tell.ensures sys before at (joins c.args.self.now sys before m at c.requires.differ c.requires.sender c.requires.receiver meets))
