-- A walk along the lines of a trace: where it begins, one line more, the first line that fails, and the end.
use Rattle.std.proofs.Common.{◌≡◌, refl, sym, ap, subst, ◌∙◌, ℕ, ◌+◌, ◌-◌, ◌≤◌, ◌<◌, List, [], ◌∷◌, ◌++◌, length, length-append, take, drop, Option, Some, None, arith}
use Rattle.std.proofs.Math.ListN.{get_or}
use Rattle.std.proofs.lemmas.List.{take_more, drop_more, take_all, drop_all}
use Rattle.hc_rational.specs.Words.{Rational}
use Rattle.hc_term.specs.declared.system.System.{System}
use Rattle.hc_term.specs.declared.task.Task.{Task}
use Rattle.hc_term.specs.declared.run.Item.{Item}
use Rattle.hc_term.specs.declared.run.Stop.{Stop}
use Rattle.hc_term.specs.declared.run.Stop.TheVariants.{Terminated, Deadlock, Horizon, Limit, Overflow}
use Rattle.hc_term.specs.declared.model.Configuration.{Configuration}
use Rattle.hc_term.specs.Step.{opening}
use Rattle.hc_trace.specs.declared.traces.Trace.{Trace}
use Rattle.hc_trace.specs.declared.traces.TraceLine.{TraceLine}
use Rattle.hc_trace.specs.declared.traces.TraceEnd.{TraceEnd}
use Rattle.hc_order.specs.Demand.{OnDemand}
use Rattle.hc_verify.specs.declared.walk.Walk.{Walk}
use Rattle.hc_verify.specs.declared.verdict.Verdict.{Verdict}
use Rattle.hc_verify.specs.declared.verdict.Verdict.TheVariants.{Yes, No}
use Rattle.hc_order.specs.Shown.{End}
use Rattle.hc_order.specs.Verified.{IsVerified}
use Rattle.hc_verify.specs.Named.{IsItemOf, IsEndOf}
use Rattle.hc_verify.specs.Judging.{AreItems, IsEnd, FailsFrom, JudgesTrace, JudgesEnd}
use Rattle.hc_verify.specs.Stands.{IsAt}
use Rattle.hc_verify.specs.Following.{IsReached, FollowedLine}
use Rattle.hc_verify.specs.Ending.{ReachesEnd, ReachesEndLine}
use Rattle.hc_verify.proofs.LineByLine.{named_visible, goes_on, fails_here, fails_later, verified_here}
use Rattle.hc_verify.proofs.EndReached.{verified_by_end, fails_by_end}

-- ---- numbers

-- each line takes a step at least
few_lines : (t : Task) (is : List Item) (n : ℕ) (c new : Configuration) → OnDemand t is n c new → length is ≤ n
few_lines t [] n c new f = omega arith
few_lines t (i ∷ is) n c new f = omega (arith, f.3, f.4.counted, few_lines t is f.1 f.2 new f.5)

module _ (t : Task) (w : Walk) (room : ℕ) (c : Configuration) (r : IsReached t w room c) where
  pub lines_within : length r.lines ≤ t.limit
  lines_within = omega (arith, few_lines t r.lines r.steps (opening t) c r.follows, r.left)

-- the end takes no more steps than are left
end_within : (t : Task) (stop : Stop) (at : Rational) (room : ℕ) (c : Configuration) (m : ℕ) → ReachesEnd t stop at room c (Some m) → m ≤ room
end_within t Limit at room c m h = omega (arith, h.0)
end_within t Terminated at room c m h = omega (arith, h.0)
end_within t Deadlock at room c m h = omega (arith, h.0)
end_within t Horizon at room c m h = omega (arith, h.0)
end_within t (Overflow who) at room c m h = omega (arith, h.0)

pub end_line_within : (t : Task) (line : TraceEnd) (room : ℕ) (c : Configuration) (m : ℕ) → ReachesEndLine t line room c (Some m) → m ≤ room
end_line_within t line room c m h = end_within t h.0 line.at room c m h.2

-- ---- the end

module _ (t : Task) (w : Walk) (room : ℕ) (c : Configuration) (r : IsReached t w room c) where
  taken : r.steps ≡ t.limit - room
  taken = omega (arith, r.left)

  pub without_end : (end : Option TraceEnd) → end ≡ None → JudgesEnd t r.lines end (Yes (t.limit - room))
  without_end end e =
      subst (λ (x : Option TraceEnd). JudgesEnd t r.lines x (Yes (t.limit - room))) (sym e)
      (None, tt, subst (λ (n : ℕ). IsVerified t r.lines None n) taken (verified_here t w room c r))

  pub at_end : (end : Option TraceEnd) (line : TraceEnd) (m : ℕ) → end ≡ Some line → ReachesEndLine t line room c (Some m) →
      JudgesEnd t r.lines end (Yes (t.limit - room + m))
  at_end end line m e h =
      let last : End = record { at = line.at; stop = h.0 } in
      subst (λ (x : Option TraceEnd). JudgesEnd t r.lines x (Yes (t.limit - room + m))) (sym e) (
        Some last,
        record { at = refl; stop = h.1 },
        subst (λ (n : ℕ). IsVerified t r.lines (Some last) (n + m)) taken (verified_by_end t w room c r last m h.2),
      )

  pub end_fails : (end : Option TraceEnd) (line : TraceEnd) (number : ℕ) → end ≡ Some line → number ≡ length r.lines + 2 →
      ReachesEndLine t line room c None → JudgesEnd t r.lines end (No number)
  end_fails end line number e count h =
      subst (λ (x : Option TraceEnd). FailsFrom t r.lines [] x number) (sym e)
      (subst (λ (n : ℕ). FailsFrom t r.lines [] (Some line) n) (sym count) (fails_by_end t w room c r line (λ end is. never end is)))
    where
      never : (e : End) → IsEndOf t.system line e → ReachesEnd t e.stop e.at room c None
      never e is = subst (λ (x : Rational). ReachesEnd t e.stop x room c None) is.at (h e.stop is.stop)

-- ---- the lines

items_behind : (sys : System) (ls : List TraceLine) (is : List Item) (l : TraceLine) (i : Item) → AreItems sys ls is → IsItemOf sys l i →
    AreItems sys (ls ++ l ∷ []) (is ++ i ∷ [])
items_behind sys [] [] l i h k = (k, tt)
items_behind sys [] (x ∷ is) l i h k = absurd h
items_behind sys (y ∷ ls) [] l i h k = absurd h
items_behind sys (y ∷ ls) (x ∷ is) l i h k = (h.0, items_behind sys ls is l i h.1 k)

module _ (t : Task) (lines : List TraceLine) (end : Option TraceEnd) where
  -- the walk has followed so many lines
  pub record Along (w : Walk) (room k : ℕ) : Type 0 where
    pub at : Configuration
    pub reached : IsReached t w room at
    pub counted : length reached.lines ≡ k
    pub named : AreItems t.system (take k lines) reached.lines
    pub fails : (n : ℕ) → FailsFrom t reached.lines (drop k lines) end n → FailsFrom t [] lines end n

  pub at_start : (w : Walk) → IsAt t.system w (opening t) → Along w t.limit 0
  at_start w at = record {
    at = opening t;
    reached = record { lines = []; visible = refl; steps = 0; follows = (refl, refl); left = omega arith; at = at };
    counted = refl;
    named = tt;
    fails = λ n h. h;
  }

  module _ (w : Walk) (room k : ℕ) (a : Along w room k) where
    module _ (line : TraceLine) (there : k < length lines) (is_line : line ≡ get_or lines k line) where
      rest : drop k lines ≡ line ∷ drop (k + 1) lines
      rest = drop_more lines k line there ∙ ap (λ (x : TraceLine). x ∷ drop (k + 1) lines) (sym is_line)

      first : take (k + 1) lines ≡ take k lines ++ line ∷ []
      first = take_more lines k line there ∙ ap (λ (x : TraceLine). take k lines ++ x ∷ []) (sym is_line)

      pub one_line_more : (steps : ℕ) (new : Walk) → FollowedLine t line room a.at new (Some steps) → Along new (room - steps) (k + 1)
      one_line_more steps new h =
          let r = a.reached in
          let i = h.0 in
          let g = goes_on t w room a.at r i steps new (named_visible t.system line.event i.step h.1.step) h.2 in
          record {
            at = g.0;
            reached = g.1.0;
            counted = ap (λ (l : List Item). length l) g.1.1 ∙ length-append r.lines (i ∷ []) ∙ ap (λ (n : ℕ). n + 1) a.counted;
            named = subst (AreItems t.system (take (k + 1) lines)) (sym g.1.1)
                (subst (λ (l : List TraceLine). AreItems t.system l (r.lines ++ i ∷ [])) (sym first)
                (items_behind t.system (take k lines) r.lines line i a.named h.1));
            fails = λ n f. a.fails n
                (subst (λ (l : List TraceLine). FailsFrom t r.lines l end n) (sym rest)
                (fails_later t w room a.at r line (drop (k + 1) lines) end i n h.1
                (subst (λ (l : List Item). FailsFrom t l (drop (k + 1) lines) end n) g.1.1 f)));
          }

      pub line_fails : (number : ℕ) (new : Walk) → number ≡ k + 2 → FollowedLine t line room a.at new None → FailsFrom t [] lines end number
      line_fails number new count h =
          let here : length a.reached.lines + 2 ≡ number = omega (arith, count, a.counted) in
          a.fails number
          (subst (λ (l : List TraceLine). FailsFrom t a.reached.lines l end number) (sym rest)
          (subst (λ (n : ℕ). FailsFrom t a.reached.lines (line ∷ drop (k + 1) lines) end n) here
          (fails_here t w room a.at a.reached line (drop (k + 1) lines) end (λ i is. (w, h i is)))))

    -- where all lines are followed, the verdict is that on the end
    pub judged : (trace : Trace) → lines ≡ trace.lines → end ≡ trace.end → length lines ≤ k → (v : Verdict) →
        JudgesEnd t a.reached.lines end v → JudgesTrace t trace v
    judged trace same_lines same_end past (Yes n) h = record {
      lines = a.reached.lines;
      end = h.0;
      named = subst (λ (l : List TraceLine). AreItems t.system l a.reached.lines) (take_all k lines past ∙ same_lines) a.named;
      end_named = subst (λ (x : Option TraceEnd). IsEnd t.system x h.0) same_end h.1;
      verified = h.2;
    }
    judged trace same_lines same_end past (No n) h =
        subst (λ (x : Option TraceEnd). FailsFrom t [] trace.lines x n) same_end
        (subst (λ (l : List TraceLine). FailsFrom t [] l end n) same_lines
        (a.fails n (subst (λ (l : List TraceLine). FailsFrom t a.reached.lines l end n) (sym (drop_all k lines past)) h)))
