use Rattle.std.proofs.Common.{drop, subst}
use Rattle.hc_ast.specs.declared.tree.Tree.{Tree}
use Rattle.hc_modules.specs.declared.flat.Flat.{Flat}
use Rattle.hc_modules.specs.Refusals.{IsExpansion}
use Rattle.hc_check.specs.Checked.{IsChecked}
use Rattle.hc_term.specs.TraceText.{whole}
use Rattle.hc_det.specs.Text.{channels_text}
use Rattle.hc_cmd.specs.Traced.{Converts, Judges}
use Rattle.hc_cmd.proofs.OneReply.{Decided, text_accepted, task_tells, made_tells}
use Rattle.hc_cmd.proofs.OneTraced.{one_answer, traced_there, judged_so, first_part_so}
use Rattle.hc_cmd.proofs.CTexts.{program_there}
use Rattle.hc_cmd.proofs.Executions.{tells_schedule}
use Rattle.hc_cmd.proofs.RunReplies.{run_tells, run_lists}
use Rattle.hc_cmd.proofs.laws.acceptance_laws.Goals as goal

pub returns : goal.returns
returns c =
    let decided : Decided = record {
      one_tree = c.text_laws.ensures.one_tree;
      one_refusal = c.text_laws.ensures.one_refusal;
      source_not_refused = c.text_laws.ensures.not_refused;
      one_expansion = c.tree_laws.ensures.one_expansion;
      one_stop = c.tree_laws.ensures.one_refusal;
      expanded_not_refused = c.tree_laws.ensures.not_refused;
      one_system = c.system_laws.ensures.one_system;
      one_check_stop = c.system_laws.ensures.one_refusal;
      checked_not_refused = c.system_laws.ensures.not_refused;
      one_trace = c.reading_laws.ensures.one_trace;
      one_line = c.reading_laws.ensures.one_refusal;
      trace_not_refused = c.reading_laws.ensures.not_refused;
      one_verdict = c.verdict_laws.ensures.one;
      one_program = c.text_laws-2.ensures.one_program;
      one_c_refusal = c.text_laws-2.ensures.one_refusal;
      program_not_refused = c.text_laws-2.ensures.not_refused;
    } in
    record {
      one_system = λ text s t a b.
          let tree = c.text_laws.ensures.one_tree text b.tree a.tree b.source a.source in
          let expanded = subst (λ (u : Tree). IsExpansion u b.flat) tree b.expanded in
          let flat = c.tree_laws.ensures.one_expansion a.tree b.flat a.flat expanded a.expanded in
          c.system_laws.ensures.one_system a.flat s t a.checked (subst (λ (f : Flat). IsChecked f t) flat b.checked);
      one_answer = one_answer decided;
      sized = λ text system reply accepted a. text_accepted decided _ text system reply accepted a;
      simulated = λ settings text system reply accepted a.
          task_tells c.step_laws.ensures.canonical whole settings system reply (text_accepted decided _ text system reply accepted a);
      listed = λ settings text system reply accepted a.
          task_tells c.step_laws.ensures.canonical channels_text settings system reply (text_accepted decided _ text system reply accepted a);
      converted = λ text system trace reply is a. traced_there decided Converts text system trace reply is a;
      verified = λ settings text system trace reply is a.
          judged_so decided c.verdict_laws.ensures.yes settings system trace reply (traced_there decided (Judges settings) text system trace reply is a);
      verified_text = λ settings text system trace reply is a words.
          first_part_so decided c.verdict_laws.ensures.texts settings system trace reply (traced_there decided (Judges settings) text system trace reply is a)
          (drop is.place text) is.traced words;
      made = λ made text system reply accepted a.
          made_tells c.step_laws.ensures.canonical made system reply (text_accepted decided _ _ system reply accepted a);
      executed = λ asked text g reply is a.
          tells_schedule g c.items.ensures.lines asked reply (program_there decided _ text g reply is a);
      run = λ asked text system reply accepted a. run_tells asked system reply (text_accepted decided _ text system reply accepted a);
      no_schedule = λ asked text system task reply other accepted single parts settled channels r s.
          run_lists c.step_laws.ensures.canonical c.channel_laws.ensures asked system task reply other single parts settled channels
          (text_accepted decided _ text system reply accepted r) (text_accepted decided _ text system other accepted s);
    }
