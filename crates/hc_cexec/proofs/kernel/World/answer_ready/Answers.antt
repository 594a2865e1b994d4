use Rattle.std.proofs.Common.{rules, ◌≡◌, refl, subst}
use Rattle.hc_cexec.specs.declared.thread.Thread.{Thread}
use Rattle.hc_cexec.specs.Answers.{AnswersReady}
use Rattle.hc_cexec.proofs.kernel.World.answer_ready.Goals as goal

pub returns-clause-answers : goal.returns-clause-answers
returns-clause-answers g c th there =
    let same : c.in-Some.thread.now ≡ th = search rules in
    subst (λ (x : Thread). AnswersReady c.args.code.now c.args.self.now c.args.number c.args.channels c.args.processes x c.ask-asked.new.there c.settle.result) same
    (
    record {
      asked = c.ask-asked.result;
      asks =
          record {
            seat = _;
            is =
                record {
                  thread = refl;
                  owns = c.is_mine.ensures;
                  row = c.as_slice.ensures;
                  common = c.as_slice-2.ensures;
                  channels_are = refl;
                  processes_are = refl;
                };
            asks = c.ask-asked.ensures.asks;
          };
      is = search rules;
    }
    )
