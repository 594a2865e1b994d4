use Rattle.std.proofs.Common.{List, replicate, sym, subst}
use Rattle.std.proofs.lemmas.List.{length-replicate}
use Rattle.hc_term.specs.declared.post.Post.{Post}
use Rattle.hc_term.specs.Offers.{going_post}
use Rattle.hc_board.specs.declared.deadlines.Deadline.{Deadline}
use Rattle.hc_board.specs.Index.{IsKept}
use Rattle.hc_board.proofs.IndexOf.{going_told}
use Rattle.hc_board.proofs.DeadlinesOf.{none_due}
use Rattle.hc_board.proofs.board.Board.open.Goals as goal

pub invariant_of-result : goal.invariant_of-result
invariant_of-result c =
    let all = c.all_going.ensures in
    subst (λ (ps : List Post). IsKept ps c.args.channels c.all_going.result c.none.result.list.items) (sym c.in_ok-posts.ensures)
    (subst (λ (ds : List Deadline). IsKept (replicate c.args.processes going_post) c.args.channels c.all_going.result ds) (sym c.none.ensures)
    (record {
      limits = record { processes = rw (length-replicate {A = Post} c.args.processes going_post) c.requires.processes; channels = c.requires.channels };
      index = going_told c.all_going.result c.args.processes all.whole all.none all.untimed all.able;
      deadlines = none_due c.args.processes;
    }))
