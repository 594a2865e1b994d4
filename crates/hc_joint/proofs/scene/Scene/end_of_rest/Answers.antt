use Rattle.std.proofs.Common.{◌∙◌, sym, ap, Bool, if◌then◌else◌}
use Rattle.hc_term.specs.declared.run.Stop.TheVariants.{Terminated, Deadlock}
use Rattle.hc_joint.proofs.Showing.{end_shown}
use Rattle.hc_joint.proofs.scene.Scene.end_of_rest.Goals as goal

pub returns-then-are_ended : goal.returns-then-are_ended
returns-then-are_ended c at same =
    ap (λ (b : Bool). if b then Terminated else Deadlock) (sym c.if-are_ended.true)
    ∙ end_shown c.are_ended.result at c.posts.result.now c.are_ended.ensures (c.posts.ensures.posts ∙ same)

pub returns-else-are_ended : goal.returns-else-are_ended
returns-else-are_ended c at same =
    ap (λ (b : Bool). if b then Terminated else Deadlock) (sym c.if-are_ended.false)
    ∙ end_shown c.are_ended.result at c.posts.result.now c.are_ended.ensures (c.posts.ensures.posts ∙ same)
