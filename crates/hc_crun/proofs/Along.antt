-- A machine along the schedule of a seed, and the lines on the sink.
use Rattle.std.proofs.Common.{◌≡◌, ◌≤◌, ◌<◌, inl, inr, refl, sym, ap, subst, ◌∙◌, ℕ, suc, ◌+◌, ◌-◌, List, ◌∷◌, ◌++◌, take, Option, Some, None, append_assoc, arith}
use Rattle.std.proofs.lemmas.List.{append-nil}
use Rattle.rand_pcg.specs.Lcg.{Lcg}
use Rattle.rand_pcg.specs.Pcg.{pcg32}
use Rattle.hc_world.specs.States.{SinkState}
use Rattle.hc_world.specs.Sinks.{IsCut}
use Rattle.hc_world.specs.Pieces.{IsBegun, IsUnderWay}
use Rattle.hc_world.proofs.PieceLemmas.{begun_more, cut_at_piece, under_way_start}
use Rattle.hc_schedule.specs.Sections.{Item, run}
use Rattle.hc_schedule.specs.Schedule.{moves}
use Rattle.hc_cast.specs.declared.program.CProgram.{CProgram}
use Rattle.hc_cmach.specs.declared.exec_end.ExecEnd.{ExecEnd}
use Rattle.hc_cmach.specs.declared.exec_end.ExecEnd.TheVariants.{UsedUp}
use Rattle.hc_cmach.specs.Line.{header}
use Rattle.hc_cmach.specs.Turn.{c_code}
use Rattle.hc_cmach.specs.Machine.{CState, opening, stepped, scheduled, printed_by}
use Rattle.hc_cmach.specs.Seeded.{Performed, generator, ends_with, drawn_in, seeded_from, seeded, performed_from, performed}
use Rattle.hc_cexec.specs.declared.machine.Machine.{Machine}
use Rattle.hc_cexec.specs.Stands.{IsAt}
use Rattle.hc_crun.specs.Told.{told_text}
use Rattle.hc_crun.specs.Items.{item_text, item_end}
use Rattle.hc_crun.specs.Going.{Stood, IsBehind, Went, Stopped}
use Rattle.hc_crun.proofs.Single.{prints_more}
use Rattle.hc_crun.proofs.Performing.{performed_next, performed_last, text_begins, text_goes_on}

module _ {O : Type 0} (state : O → SinkState) (before : O) (g : CProgram) (seed steps : ℕ) where
  -- So many items are done, and so many are left: what is done from here on is what is done in all, and what is printed so
  -- far stands.
  pub record Along (now : O) (m : Machine) (k : ℕ) (r : Lcg) : Type 0 where
    pub reached : CState
    pub at : IsAt g m reached
    pub left : ℕ
    pub count : k + left ≡ steps
    pub rest : performed g seed steps ≡ performed_from g reached k (seeded_from g left r reached)
    pub later :
        (j : ℕ) → scheduled g (take (k + j) (seeded g seed steps)) ≡ run (moves (c_code g)) reached (take j (seeded_from g left r reached))
    pub begun : IsBegun state before now (printed_by g reached)
    pub stood : Stood state before g seed steps k

  -- ---- before the first item

  at_opening : printed_by g (opening g) ≡ header
  at_opening = append-nil header

  pub along_start : (now : O) (m : Machine) (r : Lcg) → r ≡ generator seed → IsAt g m (opening g) → IsBegun state before now header → Along now m 0 r
  along_start now m r first at b =
      let P : List ℕ → Type 0 = λ bytes. IsBegun state before now bytes in
      subst (Along now m 0) (sym first) (record {
        reached = opening g;
        at = at;
        left = steps;
        count = omega arith;
        rest = refl;
        later = λ j. ap (λ (n : ℕ). scheduled g (take n (seeded g seed steps))) (let e : 0 + j ≡ j = omega arith in e);
        begun = subst P (sym at_opening) b;
        stood = inl refl;
      })

  pub stopped_at_start : (now : O) (m : Machine) → IsAt g m (opening g) → IsCut state before now header → Stopped state before now g seed steps m
  stopped_at_start now m at cut =
      let b = text_begins g (opening g) 0 (seeded g seed steps) in
      let split : told_text g seed steps ≡ header ++ b.0 = b.1 ∙ ap (λ (bytes : List ℕ). bytes ++ b.0) at_opening in
      record {
        cut = cut_at_piece b.0 split (under_way_start state before (told_text g seed steps)) cut;
        behind = record { items = 0; within = omega arith; at = at; stood = inl refl };
      }

  -- ---- one item more

  -- the item that the word draws, and those behind it
  abbrev items_from : CState → ℕ → ℕ → Lcg → List Item
  items_from s more word next = drawn_in g s word ∷ seeded_from g more next (stepped g s (drawn_in g s word))

  -- from a generator, and from its word
  items_drawn : (s : CState) (left more word : ℕ) (r next : Lcg) → left ≡ suc more → (word, next) ≡ pcg32 r →
      seeded_from g left r s ≡ items_from s more word next
  items_drawn s left more word r next e drawn =
      ap (λ (n : ℕ). seeded_from g n r s) e ∙ ap (λ (d : ℕ × Lcg). items_from s more d.0 d.1) (sym drawn)

  module _ (now : O) (m new : Machine) (k word : ℕ) (r next : Lcg) (a : Along now m k r) (some : k < steps) (drawn : (word, next) ≡ pcg32 r)
      (at : IsAt g new (stepped g a.reached (drawn_in g a.reached word))) where
    abbrev item : Item
    item = drawn_in g a.reached word

    abbrev reaches : CState
    reaches = stepped g a.reached item

    abbrev more : ℕ
    more = steps - suc k

    abbrev behind : List Item
    behind = seeded_from g more next reaches

    left_is : a.left ≡ suc more
    left_is = let count = a.count in omega (arith, count, some)

    items : seeded_from g a.left r a.reached ≡ item ∷ behind
    items = items_drawn a.reached a.left more word r next left_is drawn

    rest : performed g seed steps ≡ performed_from g a.reached k (item ∷ behind)
    rest = a.rest ∙ ap (λ (w : List Item). performed_from g a.reached k w) items

    later : (j : ℕ) → scheduled g (take (k + suc j) (seeded g seed steps)) ≡ run (moves (c_code g)) reaches (take j behind)
    later j = a.later (suc j) ∙ ap (λ (w : List Item). run (moves (c_code g)) a.reached (take (suc j) w)) items

    stood : Stood state before g seed steps (suc k)
    stood =
        let same : scheduled g (take k (seeded g seed steps)) ≡ a.reached =
        ap (λ (n : ℕ). scheduled g (take n (seeded g seed steps))) (let e : k ≡ k + 0 = omega arith in e) ∙ a.later 0 in
        inr (k, refl, now, subst (λ (s : CState). IsBegun state before now (printed_by g s)) (sym same) a.begun)

    is_behind : IsBehind state before g seed steps new
    is_behind =
        let same : scheduled g (take (suc k) (seeded g seed steps)) ≡ reaches =
        ap (λ (n : ℕ). scheduled g (take n (seeded g seed steps))) (let e : suc k ≡ k + suc 0 = omega arith in e) ∙ later 0 in
        record {
          items = suc k;
          within = omega (arith, some);
          at = subst (λ (s : CState). IsAt g new s) (sym same) at;
          stood = stood;
        }

    -- the item's line stands
    begun_item : (after : O) → IsBegun state now after (item_text g a.reached item) → IsBegun state before after (printed_by g reaches)
    begun_item after b =
        subst (λ (bytes : List ℕ). IsBegun state before after bytes) (sym (prints_more g a.reached item)) (begun_more a.begun b)

    pub along_item : (after : O) (n : ℕ) (end : Option ExecEnd) → n ≡ suc k → IsBegun state now after (item_text g a.reached item) →
        end ≡ item_end g a.reached item n → end ≡ None → Along after new n next
    along_item after n end is b by none =
        let P : ℕ → Type 0 = λ x. Along after new x next in
        subst P (sym is) (record {
          reached = reaches;
          at = at;
          left = more;
          count = omega (arith, some);
          rest = rest ∙ performed_next g a.reached k item behind (ap (item_end g a.reached item) (sym is) ∙ sym by ∙ none);
          later = λ j. ap (λ (x : ℕ). scheduled g (take x (seeded g seed steps))) (let e : suc k + j ≡ k + suc j = omega arith in e) ∙ later j;
          begun = begun_item after b;
          stood = stood;
        })

    pub ended_at_item : (after : O) (n : ℕ) (some_end : Option ExecEnd) (end : ExecEnd) → n ≡ suc k →
        IsBegun state now after (item_text g a.reached item) → some_end ≡ item_end g a.reached item n → some_end ≡ Some end →
        Went state before after g seed steps new end
    ended_at_item after n some_end end is b by ends =
        let all : performed g seed steps ≡ ends_with end reaches =
        rest ∙ performed_last g a.reached k item behind end (ap (item_end g a.reached item) (sym is) ∙ sym by ∙ ends) in
        record {
          end_is = sym (ap (λ (p : Performed). p.end) all);
          text = subst (λ (p : Performed). IsBegun state before after (printed_by g p.state)) (sym all) (begun_item after b);
          at = subst (λ (p : Performed). IsAt g new p.state) (sym all) at;
          behind = is_behind;
        }

    pub stopped_at_item : (after : O) → IsCut state now after (item_text g a.reached item) → Stopped state before after g seed steps new
    stopped_at_item after cut =
        let b = text_goes_on g a.reached k item behind in
        let line = item_text g a.reached item in
        let split : told_text g seed steps ≡ printed_by g a.reached ++ (line ++ b.0) =
        ap (λ (p : Performed). printed_by g p.state) rest ∙ b.1 ∙ append_assoc (printed_by g a.reached) line b.0 in
        let under : IsUnderWay state before now (told_text g seed steps) (line ++ b.0) =
        record { done = printed_by g a.reached; split = split; begun = a.begun } in
        record { cut = cut_at_piece b.0 refl under cut; behind = is_behind }

  -- ---- behind the last item

  pub used_up : (now : O) (m : Machine) (k : ℕ) (r : Lcg) → steps ≤ k → Along now m k r → Went state before now g seed steps m UsedUp
  used_up now m k r all a =
      let count = a.count in
      let none : a.left ≡ 0 = omega (arith, count, all) in
      let is : performed g seed steps ≡ ends_with UsedUp a.reached =
      a.rest ∙ ap (λ (n : ℕ). performed_from g a.reached k (seeded_from g n r a.reached)) none in
      let same : scheduled g (take k (seeded g seed steps)) ≡ a.reached =
      ap (λ (n : ℕ). scheduled g (take n (seeded g seed steps))) (let e : k ≡ k + 0 = omega arith in e) ∙ a.later 0 in
      record {
        end_is = sym (ap (λ (p : Performed). p.end) is);
        text = subst (λ (p : Performed). IsBegun state before now (printed_by g p.state)) (sym is) a.begun;
        at = subst (λ (p : Performed). IsAt g m p.state) (sym is) a.at;
        behind =
            record {
              items = k;
              within = omega (arith, count);
              at = subst (λ (s : CState). IsAt g m s) (sym same) a.at;
              stood = a.stood;
            };
      }
