use Rattle.std.proofs.Common.{◌∙◌, length}
use Rattle.hc_member.proofs.member.Member.move_by.Goals as goal

pub returns : goal.returns
returns c p clock q r = record {
  number = (c.move_by.ensures.keeps (length c.args.self.now.code.instrs) c.args.self.now.within).same_process ∙ r.number;
  table = r.table;
  agrees = r.agrees;
  stands = c.move_by.ensures.moved r.table c.args.self.now.code.instrs clock q c.args.self.now.usable r.agrees r.stands;
}
