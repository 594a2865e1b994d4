use Rattle.std.proofs.Common.{◌∙◌, subst, ℕ}
use Rattle.hc_term.specs.Event.{progress}
use Rattle.hc_step.specs.Represents.{Takes}
use Rattle.hc_member.proofs.member.Member.stretch.Goals as goal

pub returns-clause-takes : goal.returns-clause-takes
returns-clause-takes c p q r =
    let clock = c.args.clock in
    let takes = subst (λ (n : ℕ). Takes r.table clock c.stretch.result c.stretch.new.self (progress c.args.most c.args.seed n clock q)) r.number
    (c.stretch.ensures.takes r.table q r.agrees r.stands) in
    record {
      counted = takes.counted;
      ended = takes.ended;
      logged = takes.logged;
      is = record {
        number = c.stretch.ensures.keeps.same_process ∙ r.number;
        table = r.table;
        agrees = r.agrees;
        stands = takes.stands;
      };
    }
