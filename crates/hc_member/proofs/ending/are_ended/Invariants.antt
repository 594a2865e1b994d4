use Rattle.std.proofs.Common.{◌≡◌, drop}
use Rattle.std.specs.List.{list_all}
use Rattle.hc_term.specs.declared.post.Post.{Post}
use Rattle.hc_member.specs.Ended.{is_ended}
use Rattle.hc_member.proofs.ending.are_ended.Given as goal

abbrev pub invariant-loop-post : goal.invariant-loop-post
invariant-loop-post l = list_all (λ (p : Post). is_ended p.phase) l.posts ≡ list_all (λ (p : Post). is_ended p.phase) (drop l.post-index l.posts)
