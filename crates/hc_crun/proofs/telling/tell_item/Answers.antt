use Rattle.hc_cmach.specs.Machine.{stepped}
use Rattle.hc_cmach.specs.Seeded.{drawn_in}
use Rattle.hc_crun.proofs.Single.{ends_by}
use Rattle.hc_crun.proofs.telling.tell_item.Goals as goal

pub returns-clause-end : goal.returns-clause-end
returns-clause-end g c s h =
    let p = c.args.program.now in
    let i = drawn_in p s c.args.word in
    ends_by p s i c.args.number c.take_item-said.result c.ended.result c.end_at.result (c.take_item-said.ensures.says s h)
    (c.ended.ensures p (stepped p s i) (c.take_item-said.ensures.at s h)) c.end_at.ensures
