use Rattle.hc_words.proofs.InOrder.{in_order_ask}
use Rattle.hc_cmd.specs.Answers.{answering}
use Rattle.hc_cmd.proofs.Calling.{owed}
use Rattle.hc_cmd.proofs.OneReply.{answer_is_well}
use Rattle.hc_cmd.proofs.answering.answer.Goals as goal

pub returns : goal.returns
returns g c =
    let all = owed answering answer_is_well g.S.Source.state g.O.Sink.state g.E.Sink.state _ c.args.source.now _ c.args.out.now _ c.args.err.now _ _ _
    c.prepare.ensures.1 c.reply_with.ensures in
    record {
      reply = (_, c.prepare.ensures.1, c.reply_with.ensures);
      in_order = λ order. let asks = in_order_ask _ order in all.asked asks.0 asks.1;
      usage = all.usage;
      asks_nothing = all.asks_nothing;
      read_fault = all.read_fault;
      write_fault = all.write_fault;
      counts = all.counts;
      no_output = all.no_output;
      complete = all.complete;
    }
