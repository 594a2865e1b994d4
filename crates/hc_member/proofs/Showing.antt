-- Who wants a silent step, and who has ended, stands in what all processes show.
use Rattle.std.proofs.Common.{◌≡◌, refl, ap₂, ℕ, ◌+◌, Bool, ◌&&◌, if◌then◌else◌, List, [], ◌∷◌, map, Option, Some}
use Rattle.std.specs.List.{list_all}
use Rattle.hc_rational.specs.Words.{Rational}
use Rattle.hc_term.specs.declared.post.Post.{Post}
use Rattle.hc_term.specs.declared.stmt.Stmt.{Stmt}
use Rattle.hc_term.specs.declared.model.Mark.{Mark}
use Rattle.hc_term.specs.declared.model.Mark.TheVariants.{Going, Arrived}
use Rattle.hc_term.specs.declared.model.ProcessState.{ProcessState}
use Rattle.hc_term.specs.Value.{Store}
use Rattle.hc_term.specs.Process.{is_done, wants_at, wants, bound}
use Rattle.hc_term.specs.Offers.{post_at, post}
use Rattle.hc_term.specs.Canonical.{wanting_from}
use Rattle.hc_board.specs.Able.{shows_step, least_from}
use Rattle.hc_member.specs.Ended.{is_ended}

shows_at : (clock : Rational) (s : Store) (b : Option Rational) (mark : Mark) (todo : List Stmt) →
    shows_step (post_at clock s b mark todo) ≡ wants_at mark b todo
shows_at clock s b mark [] = refl
shows_at clock s b Going (head ∷ rest) = refl
shows_at clock s b (Arrived left) (head ∷ rest) = refl

ended_at : (clock : Rational) (s : Store) (b : Option Rational) (mark : Mark) (todo : List Stmt) →
    is_ended (post_at clock s b mark todo).phase ≡ is_done todo
ended_at clock s b mark [] = refl
ended_at clock s b Going (head ∷ rest) = refl
ended_at clock s b (Arrived left) (head ∷ rest) = refl

module _ (clock : Rational) where
  pub shows : (q : ProcessState) → shows_step (post clock q) ≡ wants q
  shows q = shows_at clock q.store (bound q) q.mark q.todo

  pub least_shown : (n : ℕ) (qs : List ProcessState) → least_from n (map (post clock) qs) ≡ wanting_from n qs
  least_shown n [] = refl
  least_shown n (q ∷ qs) =
      ap₂ (λ (b : Bool) (later : Option ℕ). if b then Some n else later) (shows q) (least_shown (n + 1) qs)

  pub ended_shown : (qs : List ProcessState) →
      list_all (λ (p : Post). is_ended p.phase) (map (post clock) qs) ≡ list_all (λ (q : ProcessState). is_done q.todo) qs
  ended_shown [] = refl
  ended_shown (q ∷ qs) = ap₂ (λ a b. a && b) (ended_at clock q.store (bound q) q.mark q.todo) (ended_shown qs)
