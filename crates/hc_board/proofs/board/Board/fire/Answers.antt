use Rattle.std.proofs.Common.{◌≡◌, List, Option, Some, sym, ap, ◌∙◌, ℕ}
use Rattle.hc_term.specs.declared.model.Meeting.{Meeting}
use Rattle.hc_term.specs.declared.post.Post.{Post}
use Rattle.hc_term.specs.Posts.{first_meeting}
use Rattle.hc_board.proofs.Found.{AreThere, meeting-there}
use Rattle.hc_board.proofs.board.Board.fire.Goals as goal

-- the two that were found on these posts have posts
there : (channels : ℕ) (ps qs : List Post) (found : Option Meeting) (m : Meeting) → qs ≡ ps → found ≡ first_meeting channels ps → found ≡ Some m →
    AreThere m qs
there channels ps qs found m same told is = meeting-there channels qs m (ap (first_meeting channels) same ∙ sym told ∙ is)

pub meet-requires-clause-sender : goal.meet-requires-clause-sender
meet-requires-clause-sender c =
    (there c.self.inside.channels c.as_slice.result.now c.as_mut_slice.result.now _ c.in-Some.meeting
    (c.as_mut_slice.ensures.value ∙ sym c.as_slice.ensures.value) c.least_meeting-meeting.ensures c.in-Some.is).sender

pub meet-requires-clause-receiver : goal.meet-requires-clause-receiver
meet-requires-clause-receiver c =
    (there c.self.inside.channels c.as_slice.result.now c.as_mut_slice.result.now _ c.in-Some.meeting
    (c.as_mut_slice.ensures.value ∙ sym c.as_slice.ensures.value) c.least_meeting-meeting.ensures c.in-Some.is).receiver
