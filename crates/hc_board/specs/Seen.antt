-- What contracts see of a board.
use Rattle.std.specs.Prelude.{ℕ, ◌≤◌, List, length}
use Rattle.hc_limits.specs.Limits.{most_processes, most_channels}
use Rattle.hc_term.specs.declared.post.Post.{Post}

-- the posts of the processes, by their numbers, and the number of channels
pub record Seen : Type 0 where
  pub posts : List Post
  pub channels : ℕ

-- what every board keeps
pub record KeepsLimits (ps : List Post) (n : ℕ) : Type 0 where
  pub processes : length ps ≤ most_processes
  pub channels : n ≤ most_channels
