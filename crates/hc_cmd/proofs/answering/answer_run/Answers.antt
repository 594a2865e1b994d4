use Rattle.hc_words.proofs.InOrder.{run_in_order_asks}
use Rattle.hc_cmd.specs.Running.{running}
use Rattle.hc_cmd.proofs.Calling.{owed}
use Rattle.hc_cmd.proofs.RunReplies.{run_is_well}
use Rattle.hc_cmd.proofs.answering.answer_run.Goals as goal

pub returns : goal.returns
returns g c =
    let all = owed running run_is_well g.S.Source.state g.O.Sink.state g.E.Sink.state _ c.args.source.now _ c.args.out.now _ c.args.err.now _ _ _
    c.prepare_run.ensures.1 c.reply_with.ensures in
    record {
      reply = (_, c.prepare_run.ensures.1, c.reply_with.ensures);
      in_order = λ order. let asks = run_in_order_asks _ order in all.asked asks.0 asks.1;
      usage = all.usage;
      asks_nothing = all.asks_nothing;
      read_fault = all.read_fault;
      write_fault = all.write_fault;
      counts = all.counts;
      no_output = all.no_output;
      complete = all.complete;
    }
