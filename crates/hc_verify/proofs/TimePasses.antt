-- How time passes, by what the board answers.
use Rattle.std.proofs.Common.{◌≡◌, refl, sym, ap, ap₂, subst, ◌∙◌, ℕ, Bool, true, false, List, map, Option, Some, None, is_some}
use Rattle.hc_rational.specs.Words.{Rational}
use Rattle.hc_term.specs.declared.task.Task.{Task}
use Rattle.hc_term.specs.declared.post.Post.{Post}
use Rattle.hc_term.specs.declared.model.Meeting.{Meeting}
use Rattle.hc_term.specs.declared.model.Configuration.{Configuration}
use Rattle.hc_term.specs.Posts.{Passing, NoBound, AtHorizon, Overflows, Took, passing_on, first_meeting}
use Rattle.hc_term.specs.Moved.{moved_post}
use Rattle.hc_term.specs.Step.{ready, rests, passing, passing_by, passing_quiet}
use Rattle.hc_term.specs.Canonical.{wanting_from}
use Rattle.hc_term.proofs.Wanting.{rests_where_none_wants, none_wants_where_rests}
use Rattle.hc_board.specs.declared.delayed.Delayed.{Delayed}
use Rattle.hc_board.specs.declared.delayed.Delayed.TheVariants as said
use Rattle.hc_board.specs.Able.{least_from}
use Rattle.hc_board.specs.Answers.{answer_of, after_meeting}
use Rattle.hc_member.specs.States.{AllIn}
use Rattle.hc_member.proofs.Showing.{least_shown}
use Rattle.hc_verify.specs.declared.walk.Walk.{Walk}
use Rattle.hc_verify.specs.Timing.{IsRunTo, IsPassing, Times}

none_is : {A : Type 0} (o : Option A) → is_some o ≡ false → o ≡ None
none_is None h = refl
none_is (Some x) h = cc

answers_took : (what : Passing) (by : Rational) → answer_of what ≡ said.Took by → what ≡ Took by
answers_took NoBound by e = cc
answers_took AtHorizon by e = cc
answers_took Overflows by e = cc
answers_took (Took d) by e = cc

-- time passes only where no channel is ready and no process wants a silent step
pub record Passes (o : Option Meeting) (b : Bool) (what : Passing) (by : Rational) : Type 0 where
  pub quiet : o ≡ None
  pub rest : b ≡ true
  pub took : what ≡ Took by

pub passes_by : (o : Option Meeting) (b : Bool) (what : Passing) (by : Rational) → passing_by o b what ≡ Some (Took by) → Passes o b what by
passes_by (Some m) b what by e = cc
passes_by None false what by e = cc
passes_by None true what by e = record { quiet = refl; rest = refl; took = cc }

module _ (t : Task) (w : Walk) (c : Configuration) (r : IsRunTo t w c) (new : Walk) (fired : Option Meeting) (able : Option ℕ)
    (fires : fired ≡ first_meeting w.board.channels w.board.posts) where
  ready_is : fired ≡ ready t c
  ready_is = fires ∙ ap₂ first_meeting r.at.channels r.at.shown

  parts : (by : Rational) → passing t c ≡ Some (Took by) → Passes (ready t c) (rests c.processes) (passing_quiet t c) by
  parts by e = passes_by (ready t c) (rests c.processes) (passing_quiet t c) by e

  pub none_where_ready : is_some fired ≡ true → Times t c new None
  none_where_ready some by e =
      let nothing : fired ≡ None = ready_is ∙ (parts by e).quiet in
      let no_one : is_some fired ≡ false = ap is_some nothing in
      cc

  module _ (least : able ≡ least_from 0 w.board.posts) where
    wanting_is : able ≡ wanting_from 0 c.processes
    wanting_is = least ∙ ap (λ (ps : List Post). least_from 0 ps) r.at.shown ∙ least_shown c.clock 0 c.processes

    pub none_where_able : is_some able ≡ true → Times t c new None
    none_where_able some by e =
        let nothing : able ≡ None = wanting_is ∙ none_wants_where_rests 0 c.processes (parts by e).rest in
        let no_one : is_some able ≡ false = ap is_some nothing in
        cc

    module _ (d : Delayed) (answer : d ≡ answer_of (passing_on w.clock t.horizon w.board.posts)) where
      answer_is : d ≡ answer_of (passing_quiet t c)
      answer_is = answer ∙ ap₂ (λ (k : Rational) (ps : List Post). answer_of (passing_on k t.horizon ps)) r.at.clock r.at.shown

      pub none_else : ((by : Rational) → d ≡ said.Took by → ⊥) → Times t c new None
      none_else other by e = other by (answer_is ∙ ap answer_of (parts by e).took)

    pub time_passes : (by : Rational) → is_some fired ≡ false → is_some able ≡ false →
        said.Took by ≡ answer_of (passing_on w.clock t.horizon w.board.posts) → new.members ≡ w.members → new.clock ≡ w.clock →
        new.board.posts ≡ map (moved_post by) w.board.posts → new.board.channels ≡ w.board.channels → IsPassing t new c by
    time_passes by quiet still answer members clock moved channels = record {
      items = r.items;
      leads = r.leads;
      members = subst (λ ms. AllIn c.clock ms.items c.processes) (sym members) r.at.members;
      shown = moved ∙ ap (map (moved_post by)) r.at.shown;
      channels = channels ∙ r.at.channels;
      clock = clock ∙ r.at.clock;
      passes =
          ap (λ (m : Option Meeting). passing_by m (rests c.processes) (passing_quiet t c)) (sym ready_is ∙ none_is fired quiet)
          ∙ ap (λ (b : Bool). passing_by None b (passing_quiet t c))
          (rests_where_none_wants 0 c.processes (sym wanting_is ∙ none_is able still))
          ∙ ap Some (answers_took (passing_quiet t c) by (sym (answer_is (said.Took by) answer)));
    }

-- a board on which nothing met
pub unfired : (o : Option Meeting) (old new : List Post) → is_some o ≡ false → new ≡ after_meeting o old → new ≡ old
unfired None old new h e = e
unfired (Some m) old new h e = cc

-- only one delay passes
pub took_once : (o : Option Passing) (d e : Rational) → o ≡ Some (Took d) → o ≡ Some (Took e) → d ≡ e
took_once o d e h k = cc
