-- What a board answers, and what posts it has then.
use Rattle.std.specs.Prelude.{List, map, Option, Some, None}
use Rattle.hc_term.specs.declared.post.Post.{Post}
use Rattle.hc_term.specs.declared.model.Meeting.{Meeting}
use Rattle.hc_term.specs.Posts.{Passing, NoBound, AtHorizon, Overflows, Took}
use Rattle.hc_term.specs.Moved.{moved_post, fired}
use Rattle.hc_board.specs.declared.delayed.Delayed.{Delayed}
use Rattle.hc_board.specs.declared.delayed.Delayed.TheVariants as delayed

-- how time passes, as the board says it
abbrev pub answer_of : Passing → Delayed
answer_of NoBound = delayed.NoBound
answer_of AtHorizon = delayed.AtHorizon
answer_of Overflows = delayed.Unfit
answer_of (Took by) = delayed.Took by

-- only a delay that is taken moves the posts
abbrev pub after_delay : Delayed → List Post → List Post
after_delay (delayed.Took by) ps = map (moved_post by) ps
after_delay _ ps = ps

-- where a channel is ready its two processes are going
abbrev pub after_meeting : Option Meeting → List Post → List Post
after_meeting None ps = ps
after_meeting (Some m) ps = fired m ps
