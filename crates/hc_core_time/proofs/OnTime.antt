-- What time does of a pass.
use Rattle.std.specs.Prelude.{◌≡◌, ◌<◌, ℕ, suc, ◌+◌, ◌*◌, Bool, true, false, not, ◌&&◌, nat_lt, if◌then◌else◌, List, [], ◌∷◌, ◌++◌, map, slice_get, Some, None}
use Rattle.std.specs.List.{list_all, list_any}
use Rattle.std.specs.declared.cmp.Ordering.{Ordering}
use Rattle.std.specs.declared.cmp.Ordering.TheVariants as side
use Rattle.std.proofs.Common.{refl, sym, ap, ap₂, ◌∙◌, subst, arith, inl, inr}
use Rattle.std.proofs.lemmas.Bool.{and_parts, false≢true}
use Rattle.std.proofs.lemmas.Option.{get_or_from_slice_get}
use Rattle.hc_rational.specs.Words.{Rational, ◌+ℚ◌, ◌-ℚ◌, ◌<ℚ◌, rank, fits}
use Rattle.hc_rational.proofs.OrderLaws.{≤ℚ-not_<ℚ}
use Rattle.hc_rational.proofs.RankLaws.{rank_is}
use Rattle.hc_term.specs.declared.post.Post.{Post}
use Rattle.hc_term.specs.Offers.{going_post}
use Rattle.hc_term.specs.Posts.{NoBound, Overflows, Took, least_bound, is_timed, post_fits, delay_fits, length_of_delay, passing_below, passing_on}
use Rattle.hc_term.specs.Moved.{moved_post}
use Rattle.hc_cmach.specs.Line.{Delays}
use Rattle.hc_runs.specs.Fractions.{shows_fractions}
use Rattle.hc_core_c.specs.Twin.{Board64, nth, register, variable, stopped, stand, Found, Tried, is_same, least, length_of, delay, delay_by, elapse_by, elapse_from, elapse, timed}
use Rattle.hc_core_facts.specs.Standing.{StandsFor}
use Rattle.hc_core_facts.specs.OnePass.{Passed, stays, is_able, stop_after, time_by, time, became_able, end_lines}
use Rattle.hc_core_facts.specs.TimeDoes.{TimeDoes}
use Rattle.hc_core_time.specs.Time.{OnTimeInFractions}
use Rattle.hc_core_time.proofs.Places.{element, any_none, at_map}
use Rattle.hc_core_time.proofs.Able.{any_is}
use Rattle.hc_core_time.proofs.Alike.{Alike, itself, alike_on, alike_stands, far}
use Rattle.hc_core_time.proofs.Waits.{Told, told, least_alike}
use Rattle.hc_core_time.proofs.Length.{Lasts, lasts}
use Rattle.hc_core_time.proofs.Due.{set_if}
use Rattle.hc_core_time.proofs.Resting.{rest_is, stop_does, none_does}
use Rattle.hc_core_time.proofs.Delay.{last_stands, last_stop, last_lines, last_woke, last_logged, last_variables, whole_is, fractions_after}

-- what time does, and that the posts are in fractions afterwards
abbrev Does : ℕ → ℕ → Board64 → Board64 → List Post → Rational → ℕ → Passed → Type 0
Does P C b c ps horizon limit o = TimeDoes P C b c ps horizon limit o × (list_all shows_fractions o.posts ≡ true)

module _ (P C : ℕ) (b : Board64) (ps : List Post) (clock horizon : Rational) (steps limit n : ℕ) (s : StandsFor P C b ps clock horizon steps limit)
    (fractions : list_all shows_fractions ps ≡ true) (going : b.stop ≡ 0) (left : limit ≡ steps + suc n) where
  stops : (c : Board64) (kind : ℕ) → Alike b c → Does P C b (stopped kind None c) ps horizon limit (stays clock (suc n) (Some kind) ps)
  stops c kind h = (stop_does P C b c ps clock horizon steps limit n h s left kind, fractions)

  -- ---- a delay

  module _ (quiet : list_any is_able ps ≡ false) where
    -- who is able then became able
    became : (k : ℕ) (q : Post) → slice_get ps k ≡ Some q → (d : Rational) → became_able ps (map (moved_post d) ps) k ≡ is_able (moved_post d q)
    became k q e d =
        ap₂ (λ (x y : Post). not (is_able x) && is_able y) (get_or_from_slice_get ps k q going_post e)
        (get_or_from_slice_get (map (moved_post d) ps) k (moved_post d q) going_post (at_map (moved_post d) ps k q e))
        ∙ ap (λ (t : Bool). not t && is_able (moved_post d q)) (any_none is_able ps k q quiet e)

    module _ (before : clock <ℚ horizon) (timed : is_timed ps ≡ true) (c : Board64) (h : Alike b c) (length_is : register c 70 ≡ length_of_delay (horizon -ℚ clock) (least_bound ps))
        (moment : register c 71 ≡ clock +ℚ length_of_delay (horizon -ℚ clock) (least_bound ps))
        (fitting : list_all (post_fits (length_of_delay (horizon -ℚ clock) (least_bound ps))) ps ≡ true) where
      abbrev by : Rational
      by = length_of_delay (horizon -ℚ clock) (least_bound ps)

      sc : StandsFor P C c ps clock horizon steps limit
      sc = alike_stands P C b c ps clock horizon steps limit h s

      gc : c.stop ≡ 0
      gc = ap (λ (z : Board64). z.stop) h.row ∙ going

      whole : delay P C c ≡ record b {
        row = (delay P C c).row;
        steps = (delay P C c).steps;
        stop = (delay P C c).stop;
        lines = (delay P C c).lines;
        send = (delay P C c).send;
        receive = (delay P C c).receive;
        woke = (delay P C c).woke;
      }
      whole =
          let e = whole_is P C c ps clock horizon steps limit sc fractions n gc left before timed quiet length_is moment fitting in
          ap (λ (z : Board64). record z {
            row = (delay P C c).row;
            steps = (delay P C c).steps;
            stop = (delay P C c).stop;
            lines = (delay P C c).lines;
            send = (delay P C c).send;
            receive = (delay P C c).receive;
            woke = (delay P C c).woke;
          }) e
          ∙ ap (λ (z : Board64). record z {
            row = (delay P C c).row;
            steps = (delay P C c).steps;
            stop = (delay P C c).stop;
            lines = (delay P C c).lines;
            send = (delay P C c).send;
            receive = (delay P C c).receive;
            woke = (delay P C c).woke;
          }) h.row

      woken : (k : ℕ) → k < P → nth (delay P C c).woke k ≡ (if became_able ps (map (moved_post by) ps) k then 1 else nth b.woke k)
      woken k low =
          let l = s.processes in
          let q = element ps k (omega (arith, low, l)) in
          last_woke P C c ps clock horizon steps limit sc fractions n gc left before timed quiet length_is moment fitting k q.item q.is low
          ∙ ap₂ set_if (sym (became k q.item q.is by)) (ap (λ (z : Board64). nth z.woke k) h.row)

      delayed : Does P C b (delay P C c) ps horizon limit (time_by n clock horizon ps (Took by))
      delayed = (
        record {
          stands = last_stands P C c ps clock horizon steps limit sc fractions n gc left before timed quiet length_is moment fitting;
          stop = last_stop P C c ps clock horizon steps limit sc fractions n gc left before timed quiet length_is moment fitting;
          lines = last_lines P C c ps clock horizon steps limit sc fractions n gc left before timed quiet length_is moment fitting
              ∙ ap (λ xs. xs ++ (Delays clock by ∷ []) ++ end_lines (clock +ℚ by) (stop_after n (clock +ℚ by) horizon (map (moved_post by) ps))) (ap (λ (z : Board64). z.lines) h.row);
          woke = woken;
          wakes = ap (λ (z : Board64). z.wakes) whole;
          met = ap (λ (z : Board64). z.met) whole;
          into = ap (λ (z : Board64). z.into) whole;
          self = ap (λ (z : Board64). z.self) whole;
          logged = λ k low.
              last_logged P C c ps clock horizon steps limit sc fractions n gc left before timed quiet length_is moment fitting k ∙ h.same (k * 320 + 65) (far k 65 (inl (omega arith)));
          variables = λ k i low few none.
              last_variables P C c ps clock horizon steps limit sc fractions n gc left before timed quiet length_is moment fitting k i few
              (ap (λ (z : Board64). nth z.moves (k * 64 + i)) h.row ∙ none)
              ∙ h.same (variable k i) (far k i (inl (omega (arith, few))));
        },
        fractions_after P C c ps clock horizon steps limit sc fractions n gc left before timed quiet length_is moment fitting,
      )

    -- ---- from the board of f_least on

    module _ (timed : is_timed ps ≡ true) (c : Board64) (h : Alike b c) where
      abbrev sf : StandsFor P C c ps clock horizon steps limit
      sf = alike_stands P C b c ps clock horizon steps limit h s

      abbrev far_off : Rational
      far_off = length_of_delay (horizon -ℚ clock) (least_bound ps)

      lasted_by : (before : clock <ℚ horizon) (t : Tried) (ok : Bool) → t.ok ≡ ok → Lasts P C c ps clock horizon steps limit sf fractions far_off t → (fit : Bool) → delay_fits far_off clock ps ≡ fit →
          Does P C b (if ok then delay P C t.board else stopped 4 None t.board) ps horizon limit (time_by n clock horizon ps (if fit then Took far_off else Overflows))
      lasted_by before t true e l true f =
          let g = l.fitting e in
          delayed before timed t.board (alike_on b c t.board h l.alike) g.1 g.2 (and_parts (fits far_off && fits (clock +ℚ far_off)) (list_all (post_fits far_off) ps) f).1
      lasted_by before t true e l false f = absurd (false≢true (sym f ∙ (l.fitting e).0))
      lasted_by before t false e l true f = absurd (false≢true (sym (l.unfit e) ∙ f))
      lasted_by before t false e l false f = stops t.board 4 (alike_on b c t.board h l.alike)

      abbrev Length : ℕ → Type 0
      Length kind = Lasts P C c ps clock horizon steps limit sf fractions far_off (length_of P C kind c)

      passed_by : (kind : ℕ) (o : Ordering) → rank clock horizon ≡ o → Length kind →
          Does P C b (if is_same o then stopped 2 None c else delay_by P C (length_of P C kind c)) ps horizon limit (time_by n clock horizon ps (passing_below o clock horizon ps))
      passed_by kind side.Less e l = lasted_by ((rank_is clock horizon).less.0 e) (length_of P C kind c) (length_of P C kind c).ok refl l (delay_fits far_off clock ps) refl
      passed_by kind side.Equal e l = stops c 2 h
      passed_by kind side.Greater e l = absurd (≤ℚ-not_<ℚ clock horizon s.in_time ((rank_is clock horizon).greater.0 e))

      passed : (kind : ℕ) → Length kind → Does P C b (elapse_by P C kind c) ps horizon limit (time_by n clock horizon ps (passing_on clock horizon ps))
      passed kind l =
          subst (λ (t : Bool). Does P C b (elapse_by P C kind c) ps horizon limit (time_by n clock horizon ps (if t then passing_below (rank clock horizon) clock horizon ps else NoBound))) (sym timed)
          (
          subst (λ (o : Ordering). Does P C b (if is_same o then stopped 2 None c else delay_by P C (length_of P C kind c)) ps horizon limit (time_by n clock horizon ps (passing_below (rank clock horizon) clock horizon ps)))
          (ap₂ rank (sym sf.now) (sym sf.end)) (passed_by kind (rank clock horizon) refl l)
          )

    -- ---- f_elapse

    found : Found
    found = least P b

    untimed : is_timed ps ≡ false → (f : Found) → f.kind ≡ 0 → Alike b f.board → Does P C b (elapse_from P C f) ps horizon limit (time_by n clock horizon ps (passing_on clock horizon ps))
    untimed e f k h =
        let sf = alike_stands P C b f.board ps clock horizon steps limit h s in
        subst (λ (t : Bool). Does P C b (if t then stand P f.board else elapse_by P C f.kind f.board) ps horizon limit (time_by n clock horizon ps (passing_on clock horizon ps)))
        (sym (ap (λ x. nat_lt x 1) k))
        (
        subst (λ (t : Bool). Does P C b (stand P f.board) ps horizon limit (time_by n clock horizon ps (if t then passing_below (rank clock horizon) clock horizon ps else NoBound))) (sym e)
        (
        subst (λ x. Does P C b (stand P f.board) ps horizon limit (stays clock (suc n) (Some x) ps)) (rest_is P C f.board ps clock horizon steps limit sf)
        (stops f.board _ h)
        )
        )

    lasting : is_timed ps ≡ true → (f : Found) (h : Alike b f.board) → nat_lt f.kind 1 ≡ false →
        Lasts P C f.board ps clock horizon steps limit (alike_stands P C b f.board ps clock horizon steps limit h s) fractions (length_of_delay (horizon -ℚ clock) (least_bound ps)) (length_of P C f.kind f.board) →
        Does P C b (elapse_from P C f) ps horizon limit (time_by n clock horizon ps (passing_on clock horizon ps))
    lasting e f h k l =
        subst (λ (t : Bool). Does P C b (if t then stand P f.board else elapse_by P C f.kind f.board) ps horizon limit (time_by n clock horizon ps (passing_on clock horizon ps)))
        (sym k) (passed e f.board h f.kind l)

    told_all : Told P C b ps clock horizon steps limit s (least P b).kind (register (least P b).board 68)
    told_all = told P C b ps clock horizon steps limit s

    alike_all : Alike b (least P b).board
    alike_all = least_alike P C b ps clock horizon steps limit s

    abbrev Elapsed : Type 0
    Elapsed = Does P C b (elapse P C b) ps horizon limit (time_by n clock horizon ps (passing_on clock horizon ps))

    elapsed_by : Told P C b ps clock horizon steps limit s (least P b).kind (register (least P b).board 68) → Elapsed
    elapsed_by (inl t) = untimed t.1 (least P b) t.0 alike_all
    elapsed_by (inr (inl t)) =
        lasting t.1 (least P b) alike_all (ap (λ x. nat_lt x 1) t.0)
        (lasts P C (least P b).board ps clock horizon steps limit (alike_stands P C b (least P b).board ps clock horizon steps limit alike_all s) fractions (least P b).kind (inl t))
    elapsed_by (inr (inr t)) =
        lasting t.1 (least P b) alike_all (ap (λ x. nat_lt x 1) t.0)
        (lasts P C (least P b).board ps clock horizon steps limit (alike_stands P C b (least P b).board ps clock horizon steps limit alike_all s) fractions (least P b).kind (inr t))

    elapsed : Elapsed
    elapsed = elapsed_by told_all

  -- ---- whether time passes

  timed_by : (x y : Bool) → x ≡ true → list_any is_able ps ≡ y →
      Does P C b (if x && not y then elapse P C b else b) ps horizon limit (if y then stays clock (suc n) None ps else time_by n clock horizon ps (passing_on clock horizon ps))
  timed_by true true e f = (none_does P C b b ps clock horizon steps limit n (itself b) s left going, fractions)
  timed_by true false e f = elapsed f
  timed_by false y e f = absurd (false≢true e)

  does : Does P C b (timed P C b) ps horizon limit (time n clock horizon ps)
  does =
      subst (λ (y : Bool). Does P C b (if nat_lt b.stop 1 && not y then elapse P C b else b) ps horizon limit (time n clock horizon ps))
      (sym (any_is P C b ps clock horizon steps limit s))
      (timed_by (nat_lt b.stop 1) (list_any is_able ps) (ap (λ x. nat_lt x 1) going) refl)

-- the half of one pass about time
pub on_time : (P C : ℕ) → OnTimeInFractions P C
on_time P C b ps clock horizon steps limit n s fractions going left = does P C b ps clock horizon steps limit n s fractions going left
