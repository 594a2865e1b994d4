-- The two processes of a meeting that is found have posts.
use Rattle.std.proofs.Common.{◌≡◌, ◌<◌, ℕ, List, length, Some}
use Rattle.hc_term.specs.declared.model.Meeting.{Meeting}
use Rattle.hc_term.specs.declared.post.Post.{Post}
use Rattle.hc_term.specs.Posts.{first_meeting}
use Rattle.hc_board.proofs.BoardLaw.{meeting-is}

pub record AreThere (m : Meeting) (ps : List Post) : Type 0 where
  pub sender : m.sender < length ps
  pub receiver : m.receiver < length ps

pub meeting-there : (channels : ℕ) (ps : List Post) (m : Meeting) → first_meeting channels ps ≡ Some m → AreThere m ps
meeting-there channels ps m e =
    let i = meeting-is channels ps m e in
    record { sender = i.sends.there; receiver = i.receives.there }
