-- A section's outcome leads the run on; where it sets no stop what is said of scenes holds behind it, and a stop that it sets holds there.
use Rattle.std.proofs.Common.{◌≡◌, ◌≢◌, ◌<◌, ◌≤◌, ◌⊎◌, inl, inr, refl, sym, ap, ap₂, ◌∙◌, subst, ℕ, zero, suc, ◌+◌, ◌-◌, Bool, true, false, nat_lt, List, [], ◌∷◌, ◌++◌, length, length-append, length-set, slice_get, slice_set, Option, Some, None, append_assoc, append-nil, arith}
use Rattle.std.proofs.lemmas.Bool.{ltb-true, ltb-false}
use Rattle.hc_term.specs.declared.task.Task.{Task}
use Rattle.hc_term.specs.declared.run.Item.{Item}
use Rattle.hc_term.specs.declared.run.Stop.{Stop}
use Rattle.hc_term.specs.declared.run.Stop.TheVariants.{Overflow}
use Rattle.hc_term.specs.declared.run.StretchEnd.{StretchEnd}
use Rattle.hc_term.specs.declared.run.StretchEnd.TheVariants as stretch_end
use Rattle.hc_term.specs.declared.post.Post.{Post}
use Rattle.hc_term.specs.declared.model.ProcessState.{ProcessState}
use Rattle.hc_term.specs.declared.model.Configuration.{Configuration}
use Rattle.hc_term.specs.Process.{wants}
use Rattle.hc_term.specs.Offers.{post}
use Rattle.hc_term.specs.Step.{opening, replaced, Leads}
use Rattle.hc_term.specs.Event.{Progress, progress, silent_items, EndsWell}
use Rattle.hc_term.proofs.Places.{get-set_other}
use Rattle.hc_term.proofs.Pieces.{leads_on}
use Rattle.hc_term.proofs.EventRuns.{length-silent_items}
use Rattle.hc_term.proofs.Stretches.{Stretches, progress-stretches}
use Rattle.hc_cthreads.specs.Lines.{run_lines, AllBy}
use Rattle.hc_cthreads.specs.Scenes.{Scene, is_called, called_by, over_by, calls, ends, AllHaveShown, late, IsScene, stretch}
use Rattle.hc_cthreads.specs.Parts.{Still}
use Rattle.hc_cthreads.specs.Outcomes.{Outcome, still, behind, pass, cut_section, entered, section_by, section_outcome}
use Rattle.hc_cthreads.specs.Serving.{scene_after}
use Rattle.hc_cthreads.specs.Laws.{Comes, SectionsLead}
use Rattle.hc_cthreads.proofs.Texts.{run_lines-append}
use Rattle.hc_cthreads.proofs.Showing.{shown_set, shown_at, some_is}
use Rattle.hc_cthreads.proofs.Meetings.{quiet_but_set}
use Rattle.hc_cthreads.proofs.Passes.{Passed, passed}
use Rattle.hc_cthreads.proofs.Stretching.{full, none_taken, steps_by, both_by, is_late, less_late}

module _ (t : Task) (p : ℕ) (s : Scene) (q : ProcessState) (scene : IsScene t s) (turn : calls s p ≡ true) (at : slice_get s.at.processes p ≡ Some q) where
  abbrev c : Configuration
  c = s.at

  abbrev room : ℕ
  room = t.limit - length s.items

  abbrev g : Progress
  g = stretch t p c.clock q

  -- ---- more steps than there is room for

  came_cut : room < length g.logs → Comes t p s (cut_section room t p c s.posts q)
  came_cut less =
      let st = progress-stretches t p room c q at in
      let cut : Progress = progress room t.seed p c.clock q in
      let all : room + length s.items ≡ t.limit = omega (arith, scene.room) in
      let less' : room < length (progress (room + length s.items) t.seed p c.clock q).logs =
      subst (λ (n : ℕ). room < length (progress n t.seed p c.clock q).logs) (sym all) less in
      let many : length (silent_items c.clock p cut.logs) ≡ room =
      length-silent_items c.clock p cut.logs ∙ full t.seed p c.clock room (length s.items) q less' in
      record {
        leads = leads_on t (opening t) c (replaced c p cut.next) s.items (silent_items c.clock p cut.logs) scene.run.leads st.leads;
        stops = inl (many, refl);
        by = steps_by t.seed p c.clock t.system cut.logs;
        onward = λ e. absurd cc;
      }

  -- ---- all its steps

  module _ (few : length g.logs ≤ room) where
    abbrev own_steps : List Item
    own_steps = silent_items c.clock p g.logs

    abbrev mid : Configuration
    mid = replaced c p g.next

    abbrev left : ℕ
    left = room - length g.logs

    stretched : Stretches t c p t.limit g
    stretched = progress-stretches t p t.limit c q at

    mid_leads : Leads t (opening t) (s.items ++ own_steps) mid
    mid_leads = leads_on t (opening t) c mid s.items own_steps scene.run.leads stretched.leads

    own_length : length own_steps ≡ length g.logs
    own_length = length-silent_items c.clock p g.logs

    came_unfit : 0 < left → g.end ≡ stretch_end.Unfit → Comes t p s (behind own_steps (still mid s.posts (Some (Overflow (Some p)))))
    came_unfit more e =
        let same : own_steps ++ [] ≡ own_steps = append-nil own_steps in
        record {
          leads = subst (λ (is : List Item). Leads t (opening t) (s.items ++ is) mid) (sym same) mid_leads;
          stops = inr (omega (arith, ap (λ (is : List Item). length is) same, own_length, more, few), stretched.unfit e);
          by = subst (λ (is : List Item). AllBy p (run_lines t.system is)) (sym same) (steps_by t.seed p c.clock t.system g.logs);
          onward = λ z. absurd cc;
        }

    -- ---- the pass

    abbrev shown_new : Post
    shown_new = post c.clock g.next

    abbrev new_posts : List Post
    new_posts = slice_set s.posts p shown_new

    mid_shown : AllHaveShown mid.clock mid.processes new_posts
    mid_shown = shown_set c.clock c.processes s.posts p g.next shown_new scene.shown (inl refl)

    the_pass : Passed t p left mid new_posts (pass left t mid new_posts)
    the_pass =
        passed t p left (s.items ++ own_steps) mid new_posts mid_leads mid_shown
        (quiet_but_set (length t.system.channels) p s.posts shown_new scene.quiet)

    ends_more : (u n j : ℕ) (end : Configuration) (stop : Option Stop) → EndsWell t n j end stop → EndsWell t (u + n) (u + j) end stop
    ends_more u n j end None e = omega (arith, e)
    ends_more u n j end (Some stop) (inl e) = inl (ap (λ i. u + i) e.0, e.1)
    ends_more u n j end (Some stop) (inr e) = inr (omega (arith, e.0), e.1)

    module _ (o : Outcome) (k : Passed t p left mid new_posts o) where
      all_items : s.items ++ (own_steps ++ o.items) ≡ (s.items ++ own_steps) ++ o.items
      all_items = sym (append_assoc s.items own_steps o.items)

      pass_leads : Leads t (opening t) (s.items ++ (own_steps ++ o.items)) o.at
      pass_leads =
          subst (λ (is : List Item). Leads t (opening t) is o.at) (sym all_items)
          (leads_on t (opening t) mid o.at (s.items ++ own_steps) o.items mid_leads k.leads)

      both_length : length (own_steps ++ o.items) ≡ length g.logs + length o.items
      both_length = length-append own_steps o.items ∙ ap (λ n. n + length o.items) own_length

      pass_ends : EndsWell t room (length (own_steps ++ o.items)) o.at o.stop
      pass_ends =
          let whole : length g.logs + left ≡ room = omega (arith, few) in
          subst (λ (n : ℕ). EndsWell t n (length (own_steps ++ o.items)) o.at o.stop) whole
          (
          subst (λ (n : ℕ). EndsWell t (length g.logs + left) n o.at o.stop) (sym both_length)
          (ends_more (length g.logs) left (length o.items) o.at o.stop k.ends)
          )

      pass_by : AllBy p (run_lines t.system (own_steps ++ o.items))
      pass_by =
          subst (AllBy p) (sym (run_lines-append t.system own_steps o.items))
          (both_by p (run_lines t.system own_steps) (run_lines t.system o.items) (steps_by t.seed p c.clock t.system g.logs) k.by)

      -- the others
      same_called : (r : ℕ) → r ≢ p → calls s r ≡ true → called_by (slice_get new_posts r) ≡ true
      same_called r apart h = ap called_by (get-set_other s.posts p r shown_new (λ e. apart (sym e))) ∙ h

      room_left : o.stop ≡ None → length o.items < left
      room_left e = subst (λ (stop : Option Stop). EndsWell t left (length o.items) o.at stop) e k.ends

      pass_scene : o.stop ≡ None → IsScene t (scene_after s (behind own_steps o))
      pass_scene e =
          let able = some_is o.posts (k.able e) in
          let long : length (s.items ++ (own_steps ++ o.items)) ≡ length s.items + length (own_steps ++ o.items) =
          length-append s.items (own_steps ++ o.items) in
          record {
            run = record { leads = pass_leads; within = omega (arith, long, both_length, room_left e, few, scene.room) };
            room = omega (arith, long, both_length, room_left e, few, scene.room);
            shown = k.shown;
            quiet = k.quiet e;
            able = able;
          }

      pass_still : (r : ℕ) → r ≢ p → calls s r ≡ true → Still s (scene_after s (behind own_steps o)) r
      pass_still r apart h =
          let n = same_called r apart h in
          record {
            called = k.called r n;
            clock = k.clock r n;
            process = k.process r n ∙ get-set_other c.processes p r g.next (λ e. apart (sym e));
          }

      pass_over : (r : ℕ) → r ≢ p → ends s r ≡ true → over_by (slice_get o.posts r) ≡ true
      pass_over r apart h = k.over r (ap over_by (get-set_other s.posts p r shown_new (λ e. apart (sym e))) ∙ h)

      -- ---- it adds a step, or tells its end

      none_here : (wants q ≡ false) → g.next ≡ q → o.items ≡ [] → late o.at.processes o.posts < late s.at.processes s.posts
      none_here w same e =
          let x = shown_at c.clock c.processes s.posts p q scene.shown at in
          let called : is_called x.0 ≡ true = sym (ap called_by x.1) ∙ turn in
          let l = is_late c.clock q x.0 x.2 called w in
          let u = k.unmoved e in
          let less = less_late c.clock c.processes s.posts p q at (x.1 ∙ ap Some l.1) l.0 in
          subst (λ (z : ℕ). z < late s.at.processes s.posts)
          (
          ap (λ (r : ProcessState). late (slice_set c.processes p r) (slice_set s.posts p (post c.clock r))) (sym same)
          ∙ ap₂ (λ (d : Configuration) (xs : List Post). late d.processes xs) (sym u.0) (sym u.1)
          )
          less

      gains_by : (is : List Item) → o.items ≡ is → (0 < length g.logs) ⊎ ((wants q ≡ false) × (g.next ≡ q)) →
          (0 < length (own_steps ++ o.items)) ⊎ (late o.at.processes o.posts < late s.at.processes s.posts)
      gains_by is e (inl h) = inl (omega (arith, both_length, h))
      gains_by [] e (inr h) = inr (none_here h.0 h.1 e)
      gains_by (i ∷ is) e (inr h) = inl (let long : length o.items ≡ suc (length is) = ap (λ (js : List Item). length js) e in omega (arith, both_length, long))

      pass_gains : g.end ≢ stretch_end.Unfit → (0 < length (own_steps ++ o.items)) ⊎ (late o.at.processes o.posts < late s.at.processes s.posts)
      pass_gains fits =
          let more : suc (t.limit - 1) ≡ t.limit = omega (arith, t.in_range.0) in
          gains_by o.items refl
          (
          subst (λ (n : ℕ). (0 < length (progress n t.seed p c.clock q).logs) ⊎ ((wants q ≡ false) × ((progress n t.seed p c.clock q).next ≡ q))) more
          (
          none_taken t.seed p c.clock (t.limit - 1) q
          (subst (λ (n : ℕ). (progress n t.seed p c.clock q).end ≢ stretch_end.Unfit) (sym more) fits)
          )
          )

      came_pass : (o.stop ≡ None → g.end ≢ stretch_end.Unfit) → Comes t p s (behind own_steps o)
      came_pass fits = record {
        leads = pass_leads;
        stops = pass_ends;
        by = pass_by;
        onward = λ e.
            record {
              scene = pass_scene e;
              number = k.number ∙ length-set s.posts p shown_new;
              still = pass_still;
              over = pass_over;
              gains = pass_gains (fits e);
            };
      }

    came_at : (n : ℕ) → left ≡ n → ((pass n t mid new_posts).stop ≡ None → g.end ≢ stretch_end.Unfit) → Comes t p s (behind own_steps (pass n t mid new_posts))
    came_at n e fits =
        came_pass (pass n t mid new_posts) (subst (λ (i : ℕ). Passed t p left mid new_posts (pass i t mid new_posts)) e the_pass) fits

    came_entered : (n : ℕ) (end : StretchEnd) → left ≡ n → g.end ≡ end → Comes t p s (behind own_steps (entered n t p c s.posts g end))
    came_entered zero end e f = came_at zero e (λ z. absurd cc)
    came_entered (suc n) stretch_end.Unfit e f = came_unfit (omega (arith, e)) f
    came_entered (suc n) end e f = came_at (suc n) e (λ z h. let x : end ≡ stretch_end.Unfit = sym f ∙ h in absurd cc)

  came_by : (b : Bool) → nat_lt room (length g.logs) ≡ b → Comes t p s (section_by room t p c s.posts q g b)
  came_by true e = came_cut (ltb-true room (length g.logs) e)
  came_by false e = came_entered (ltb-false room (length g.logs) e) (room - length g.logs) g.end refl refl

  -- What comes of a section leads the run on.
  pub section_comes : Comes t p s (section_outcome t p s q)
  section_comes = came_by (nat_lt room (length g.logs)) refl

pub sections_lead : SectionsLead
sections_lead t p s q scene turn at = section_comes t p s q scene turn at
