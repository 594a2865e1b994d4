-- Members in a configuration in which time passes.
use Rattle.std.proofs.Common.{◌≡◌, sym, ap, ◌∙◌, ℕ, Bool, true, ◌&&◌, List, ◌++◌, map, length, take, Some}
use Rattle.std.specs.List.{list_all}
use Rattle.std.proofs.Math.Seq.{take-append_seam}
use Rattle.std.proofs.lemmas.Bool.{and_parts}
use Rattle.std.proofs.lemmas.List.Folds.{list_all-map}
use Rattle.hc_rational.specs.Words.{Rational, zero_ℚ, ◌+ℚ◌, ◌≤ℚ◌, fits}
use Rattle.hc_term.specs.declared.task.Task.{Task}
use Rattle.hc_term.specs.declared.post.Post.{Post}
use Rattle.hc_term.specs.declared.run.Item.{Item}
use Rattle.hc_term.specs.declared.model.Configuration.{Configuration}
use Rattle.hc_term.specs.Moved.{moved_post}
use Rattle.hc_term.specs.Posts.{Took, post_fits}
use Rattle.hc_term.specs.Step.{opening, posts, passing, delayed, Leads}
use Rattle.hc_term.specs.Together.{is_within}
use Rattle.hc_runs.proofs.Parts.{runs_keep_rules}
use Rattle.hc_runs.proofs.Taking.{delay_is_fit}
use Rattle.hc_runs.proofs.Within.{all_posts_move}
use Rattle.hc_member.specs.declared.member.Member.{Member}
use Rattle.hc_member.specs.States.{AllIn}
use Rattle.hc_member.proofs.Beside.{members_show}

-- a list that is written back over one of its length
pub written_back : {A : Type 0} (n : ℕ) (ws rest : List A) → length ws ≡ n → take n (ws ++ rest) ≡ ws
written_back n ws rest e = ap (λ (k : ℕ). take k (ws ++ rest)) (sym e) ∙ take-append_seam ws rest

module _ (t : Task) (items : List Item) (c : Configuration) (by : Rational) (leads : Leads t (opening t) items c)
    (passes : passing t c ≡ Some (Took by)) where
  fitting : (((fits by && fits (c.clock +ℚ by)) ≡ true) × (list_all (post_fits by) (posts c) ≡ true))
  fitting = and_parts (fits by && fits (c.clock +ℚ by)) (list_all (post_fits by) (posts c)) (delay_is_fit t c by passes)

  moving : (zero_ℚ ≤ℚ by) × (list_all (λ (q : Post). is_within by q.bound) (posts c) ≡ true) × (posts (delayed by c) ≡ map (moved_post by) (posts c))
  moving = all_posts_move t c by (runs_keep_rules t items c leads).1 passes

  pub later_fits : (clock : Rational) → clock ≡ c.clock → fits (clock +ℚ by) ≡ true
  later_fits clock same = ap (λ (k : Rational). fits (k +ℚ by)) same ∙ (and_parts (fits by) (fits (c.clock +ℚ by)) fitting.0).1

  pub passes_forward : zero_ℚ ≤ℚ by
  passes_forward = moving.0

  pub posts_moved : posts (delayed by c) ≡ map (moved_post by) (posts c)
  posts_moved = moving.2

  module _ (ms : List Member) (all : AllIn c.clock ms c.processes) where
    shown_by : (test : Post → Bool) → list_all test (posts c) ≡ true → list_all (λ (m : Member). test m.local.post) ms ≡ true
    shown_by test h =
        sym (list_all-map test (λ (m : Member). m.local.post) ms)
        ∙ ap (λ (l : List Post). list_all test l) (members_show c.clock ms c.processes all) ∙ h

    pub all_fit : list_all (λ (m : Member). post_fits by m.local.post) ms ≡ true
    all_fit = shown_by (post_fits by) fitting.1

    pub all_within : list_all (λ (m : Member). is_within by m.local.post.bound) ms ≡ true
    all_within = shown_by (λ (q : Post). is_within by q.bound) moving.1
