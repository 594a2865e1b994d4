-- Moving on demand finds the least number of steps.
use Rattle.std.proofs.Common.{◌≡◌, refl, sym, ap, ◌∙◌, subst, subst₂, ℕ, zero, suc, ◌+◌, ◌≤◌, true, List, [], ◌∷◌, ◌++◌, length, slice_get, Option, Some, None, arith, inl, inr}
use Rattle.std.proofs.lemmas.Bool.Decides.{nat_tests}
use Rattle.std.proofs.lemmas.Bool.{and_parts}
use Rattle.hc_rational.specs.Words.{Rational}
use Rattle.hc_term.specs.declared.stmt.Stmt.{Stmt}
use Rattle.hc_term.specs.declared.task.Task.{Task}
use Rattle.hc_term.specs.declared.run.Item.{Item}
use Rattle.hc_term.specs.declared.run.Stop.{Stop}
use Rattle.hc_term.specs.declared.run.Stop.TheVariants.{Terminated, Deadlock, Horizon, Limit, Overflow}
use Rattle.hc_term.specs.declared.model.Mark.{Mark}
use Rattle.hc_term.specs.declared.model.ProcessState.{ProcessState}
use Rattle.hc_term.specs.declared.model.Configuration.{Configuration}
use Rattle.hc_term.specs.Value.{Store}
use Rattle.hc_term.specs.Process.{is_done}
use Rattle.hc_term.specs.Silent.{Outcome, Idle, Unfit, Did, silent}
use Rattle.hc_term.specs.Posts.{NoBound, AtHorizon, Overflows}
use Rattle.hc_term.specs.Step.{opening, all_ended, silent_by, silent_of}
use Rattle.hc_term.specs.Stop.{StopsAt, Stops}
use Rattle.hc_term.proofs.Turns.{passing-quiet}
use Rattle.hc_order.specs.Shown.{all_visible, End, EndsAs, Shows}
use Rattle.hc_order.specs.Demand.{Movers, AllStroll, Advances, OnDemand, everyone}
use Rattle.hc_order.specs.Verified.{IsVerified, asked_at_stop, asked_at_end, MovesOnDemand}
use Rattle.hc_order.specs.Laws.{VerifiedOnDemand}
use Rattle.hc_order.proofs.Stroll.{all_stay, split, unmoved}
use Rattle.hc_order.proofs.Lagging.{runs_move_on_demand}
use Rattle.hc_order.proofs.OneWay.{HaltedAt, AllHalted, one_all, idle-halted, rest-halted, one_way_on_demand}
use Rattle.hc_order.proofs.Paths.{path_then, advance-path, demand-path}

-- ---- where it stops, those who are asked have no invisible step

module _ (t : Task) where
  ended-idle : (clock : Rational) (p : ℕ) (todo : List Stmt) (store : Store) (choices : ℕ) (mark : Mark) →
      is_done todo ≡ true →
      silent t.seed p clock (record { todo = todo; store = store; choices = choices; mark = mark }) ≡ Idle
  ended-idle clock p [] store choices mark e = refl
  ended-idle clock p (s ∷ ss) store choices mark e = cc

  ended-halted : (clock : Rational) (i at : ℕ) (qs : List ProcessState) → all_ended qs ≡ true →
      HaltedAt t clock i (slice_get qs at)
  ended-halted clock i at [] e = tt
  ended-halted clock i zero (q ∷ qs) e =
      let idle = ended-idle clock i q.todo q.store q.choices q.mark (and_parts (is_done q.todo) (all_ended qs) e).0 in
      λ x s. not_both (silent t.seed i clock q) x idle s where
        not_both : (o : Outcome) (x : ProcessState) → o ≡ Idle → o ≡ Did None x → ⊥
        not_both o x e f = cc
  ended-halted clock i (suc at) (q ∷ qs) e = ended-halted clock i at qs (and_parts (is_done q.todo) (all_ended qs) e).1

  stop-halted : (c : Configuration) (stop : Stop) → StopsAt t c stop → (p : ℕ) → asked_at_stop stop p ≡ true →
      HaltedAt t c.clock p (slice_get c.processes p)
  stop-halted c Limit s p w = absurd s
  stop-halted c (Overflow (Some q)) s p w =
      let same : q ≡ p = grind (arith, nat_tests, w) in
      subst (λ (k : ℕ). HaltedAt t c.clock k (slice_get c.processes k)) same (idle-halted t c q Unfit s (λ x f. cc))
  stop-halted c (Overflow None) s p w = rest-halted t c (passing-quiet t c Overflows s).resting p
  stop-halted c Terminated s p w = ended-halted c.clock p p c.processes s
  stop-halted c Deadlock s p w = rest-halted t c (passing-quiet t c NoBound s.0).resting p
  stop-halted c Horizon s p w = rest-halted t c (passing-quiet t c AtHorizon s).resting p

  -- ---- the end line has one place

  pub all_halted : (c d : Configuration) (stop : Stop) → c.clock ≡ d.clock → StopsAt t d stop →
      AllHalted t c.clock (asked_at_stop stop) 0 d.processes
  all_halted c d stop k s p at e w =
      let here : at ≡ p = omega (arith, e) in
      subst₂ (λ (x : Rational) (y : ℕ). HaltedAt t x p (slice_get d.processes y)) (sym k) (sym here)
      (stop-halted d stop s p w)

  one_stop : (stop : Stop) (steps i j n m : ℕ) (c d e : Configuration) → n ≡ steps + i → m ≡ steps + j →
      Advances (asked_at_stop stop) t i c d → Advances (asked_at_stop stop) t j c e → Stops t n d stop →
      Stops t m e stop → n ≡ m
  one_stop stop steps i j n m c d e u v a b (inl k) (inl l) = k.0 ∙ sym l.0
  one_stop stop steps i j n m c d e u v a b (inl k) (inr l) = absurd (subst (λ (s : Stop). StopsAt t e s) k.1 l.1)
  one_stop stop steps i j n m c d e u v a b (inr k) (inl l) = absurd (subst (λ (s : Stop). StopsAt t d s) l.1 k.1)
  one_stop stop steps i j n m c d e u v a b (inr k) (inr l) =
      let both = one_all t c.clock (asked_at_stop stop) 0 i j c.processes d.processes e.processes a.stroll b.stroll
      (all_halted c d stop a.same_clock k.1) (all_halted c e stop b.same_clock l.1) in
      omega (arith, u, v, both.0)

  nobody : (clock : Rational) (p n : ℕ) (qs rs : List ProcessState) → AllStroll (asked_at_end None) t clock p n qs rs →
      n ≡ 0
  nobody clock p n [] [] h = h
  nobody clock p n [] (r ∷ rs) h = absurd h
  nobody clock p n (q ∷ qs) [] h = absurd h
  nobody clock p n (q ∷ qs) (r ∷ rs) h = omega (arith, h.2, h.3.0, nobody clock (suc p) h.1 qs rs h.4)

  one_end : (end : Option End) (steps i j n m : ℕ) (c d e : Configuration) → n ≡ steps + i → m ≡ steps + j →
      Advances (asked_at_end end) t i c d → Advances (asked_at_end end) t j c e → EndsAs t n d end →
      EndsAs t m e end → n ≡ m
  one_end None steps i j n m c d e u v a b k l =
      omega (arith, u, v, nobody c.clock 0 i c.processes d.processes a.stroll, nobody c.clock 0 j c.processes e.processes b.stroll)
  one_end (Some x) steps i j n m c d e u v a b k l = one_stop x.stop steps i j n m c d e u v a b k.1 l.1

  -- ---- moving on demand has one length, and is a run

  one_length : (lines : List Item) (end : Option End) (n m : ℕ) → all_visible lines ≡ true →
      MovesOnDemand t lines end n → MovesOnDemand t lines end m → n ≡ m
  one_length lines end n m v f g =
      let same = one_way_on_demand t lines f.steps g.steps f.mid g.mid v f.follows g.follows in
      let count : m ≡ f.steps + g.moves = omega (arith, g.counted, same.0) in
      let there = subst (λ (c : Configuration). Advances (asked_at_end end) t g.moves c g.last) (sym same.1) g.advances in
      one_end end f.steps f.moves g.moves n m f.mid f.last g.last f.counted count f.advances there f.ends g.ends

  moves-shows : (lines : List Item) (end : Option End) (n : ℕ) → all_visible lines ≡ true →
      MovesOnDemand t lines end n → Shows t lines end n
  moves-shows lines end n v f =
      let first = demand-path t lines f.steps (opening t) f.mid v f.follows in
      let second = advance-path t (asked_at_end end) f.moves f.mid f.last f.advances in
      let both = path_then t lines [] f.steps f.moves (opening t) f.mid f.last first second in
      let count : length both.items ≡ n = both.counted ∙ sym f.counted in
      record {
        items = both.items;
        last = f.last;
        run = record { leads = both.leads; within = omega (arith, count, f.within) };
        lines_shown = both.lines_shown ∙ append_none lines;
        steps = count;
        ends = f.ends;
      } where
        append_none : (is : List Item) → (is ++ []) ≡ is
        append_none [] = refl
        append_none (i ∷ is) = ap (λ xs. i ∷ xs) (append_none is)

  -- ---- each run that shows the lines gives one, with no more steps

  pub record NoMoreSteps (lines : List Item) (end : Option End) (n : ℕ) : Type 0 where
    pub total : ℕ
    pub fewer : total ≤ n
    pub moves : MovesOnDemand t lines end total

  module _ (lines : List Item) (n s l : ℕ) (mid last : Configuration) (count : n ≡ s + l) (within : n ≤ t.limit)
      (follows : OnDemand t lines s (opening t) mid) (rest : Advances everyone t l mid last) where
    -- where all are asked
    whole_way : (end : Option End) → Advances (asked_at_end end) t l mid last → EndsAs t n last end →
        NoMoreSteps lines end n
    whole_way end a e = record {
      total = n;
      fewer = omega arith;
      moves = record {
        steps = s;
        moves = l;
        mid = mid;
        last = last;
        counted = count;
        within = within;
        follows = follows;
        advances = a;
        ends = e;
      };
    }

    overflow_way : (at : Rational) (p : ℕ) → EndsAs t n last (Some (record { at = at; stop = Overflow (Some p) })) →
        NoMoreSteps lines (Some (record { at = at; stop = Overflow (Some p) })) n
    overflow_way at p e = by_case e.1 where
      end : End
      end = record { at = at; stop = Overflow (Some p) }

      by_case : Stops t n last (Overflow (Some p)) → NoMoreSteps lines (Some (record { at = at; stop = Overflow (Some p) })) n
      by_case (inl h) = let never = h.1 in cc
      by_case (inr h) =
          let who : Movers = asked_at_stop (Overflow (Some p)) in
          let parts = split t mid.clock who 0 l mid.processes last.processes rest.stroll in
          let there : Configuration = record { clock = last.clock; processes = parts.mids } in
          let asked : who p ≡ true = grind (arith, nat_tests) in
          let stands : slice_get parts.mids p ≡ slice_get last.processes p =
          unmoved t mid.clock who p asked 0 parts.later p parts.mids last.processes (omega arith) parts.second in
          let unfit : silent_of t there p ≡ Unfit = ap (silent_by t last.clock p) stands ∙ h.1 in
          record {
            total = s + parts.now;
            fewer = omega (arith, count, parts.counted);
            moves = record {
              steps = s;
              moves = parts.now;
              mid = mid;
              last = there;
              counted = refl;
              within = omega (arith, count, parts.counted, within);
              follows = follows;
              advances = record { same_clock = rest.same_clock; stroll = parts.first };
              ends = (e.0, inr (omega (arith, count, parts.counted, h.0), unfit));
            };
          }

    no_end_way : NoMoreSteps lines None n
    no_end_way = record {
      total = s;
      fewer = omega (arith, count);
      moves = record {
        steps = s;
        moves = 0;
        mid = mid;
        last = mid;
        counted = omega arith;
        within = omega (arith, count, within);
        follows = follows;
        advances = record { same_clock = refl; stroll = all_stay t mid.clock (asked_at_end None) 0 mid.processes };
        ends = tt;
      };
    }

    stop_way : (at : Rational) (stop : Stop) → EndsAs t n last (Some (record { at = at; stop = stop })) →
        NoMoreSteps lines (Some (record { at = at; stop = stop })) n
    stop_way at (Overflow (Some p)) e = overflow_way at p e
    stop_way at (Overflow None) e = whole_way (Some (record { at = at; stop = Overflow None })) rest e
    stop_way at Terminated e = whole_way (Some (record { at = at; stop = Terminated })) rest e
    stop_way at Deadlock e = whole_way (Some (record { at = at; stop = Deadlock })) rest e
    stop_way at Horizon e = whole_way (Some (record { at = at; stop = Horizon })) rest e
    stop_way at Limit e = whole_way (Some (record { at = at; stop = Limit })) rest e

    some_way : (end : Option End) → EndsAs t n last end → NoMoreSteps lines end n
    some_way None e = no_end_way
    some_way (Some x) e = stop_way x.at x.stop e

  pub shows-moves : (lines : List Item) (end : Option End) (n : ℕ) → Shows t lines end n → NoMoreSteps lines end n
  shows-moves lines end n h =
      let d = runs_move_on_demand t h.items h.last h.run.leads in
      let count : n ≡ d.steps + d.left = sym h.steps ∙ d.counted in
      let follows = subst (λ (ls : List Item). OnDemand t ls d.steps (opening t) d.mid) h.lines_shown d.follows in
      some_way lines n d.steps d.left d.mid h.last count (omega (arith, h.steps, h.run.within)) follows d.rest end h.ends

pub verified_on_demand : VerifiedOnDemand
verified_on_demand t lines end n v = (to, from) where
  to : IsVerified t lines end n → MovesOnDemand t lines end n
  to h =
      let k = shows-moves t lines end n h.shows in
      let least = h.least k.total (moves-shows t lines end k.total v k.moves) in
      let same : k.total ≡ n = omega (arith, least, k.fewer) in
      subst (λ (m : ℕ). MovesOnDemand t lines end m) same k.moves

  from : MovesOnDemand t lines end n → IsVerified t lines end n
  from f = record {
    shows = moves-shows t lines end n v f;
    least = λ m h.
        let k = shows-moves t lines end m h in
        let same = one_length t lines end n k.total v f k.moves in
        omega (arith, same, k.fewer);
  }
