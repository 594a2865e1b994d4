-- At the instruction of its place, a process's row and locals say what is to be put up for it.
use Rattle.std.proofs.Common.{◌≡◌, ◌≢◌, refl, sym, ap, ap₂, ◌∙◌, subst, ℕ, zero, suc, ◌+◌, ◌≤◌, ◌<◌, Bool, true, false, not, ◌&&◌, ◌||◌, ◌==◌, if◌then◌else◌, nat_lt, nat_le, List, [], ◌∷◌, ◌++◌, map, take, length, count_by, slice_get, IsTrue, Option, Some, None, arith}
use Rattle.std.specs.List.{list_all, list_any}
use Rattle.std.proofs.lemmas.Bool.{true≢false, and_parts, and_from, leb-true}
use Rattle.std.proofs.lemmas.Option.{same_Some}
use Rattle.std.proofs.lemmas.List.{length-take-le}
use Rattle.hc_limits.specs.Limits.{most_guards}
use Rattle.hc_rational.specs.Words.{Rational, zero_ℚ, is_zero}
use Rattle.hc_term.specs.declared.expr.Cond.{Cond}
use Rattle.hc_term.specs.declared.stmt.Io.{Io}
use Rattle.hc_term.specs.declared.stmt.Io.TheVariants as io
use Rattle.hc_term.specs.declared.stmt.Rate.{Rate}
use Rattle.hc_term.specs.declared.stmt.Stmt.{Stmt, out-Stmt}
use Rattle.hc_term.specs.declared.stmt.Stmt.TheOpen.{Stmt-F}
use Rattle.hc_term.specs.declared.stmt.Branch.{Branch, out-Branch}
use Rattle.hc_term.specs.declared.post.Post.{Post}
use Rattle.hc_term.specs.declared.post.Phase.TheVariants as phase
use Rattle.hc_term.specs.declared.post.Offer.{Offer}
use Rattle.hc_term.specs.declared.post.Offer.TheVariants.{Send, Receive}
use Rattle.hc_term.specs.declared.model.Mark.{Mark}
use Rattle.hc_term.specs.declared.model.Mark.TheVariants.{Going, Arrived}
use Rattle.hc_term.specs.declared.model.ProcessState.{ProcessState}
use Rattle.hc_term.specs.Value.{Store}
use Rattle.hc_term.specs.Motion.{Rates, rates_in, line}
use Rattle.hc_term.specs.Process.{Layer, bound_here, bound_at, is_due}
use Rattle.hc_term.specs.Offers.{moving_of, moving_here, offer_of, offers_of, offers_here, due_of, going_post, post_at, post}
use Rattle.hc_term.specs.Profile.{is_io, is_same_io, all_apart, are_guards, is_rate, same_variable, are_rates, pattern_of, is_moving_domain, sends_affine, is_evolution, ios_in}
use Rattle.hc_term.specs.Rules.{is_on}
use Rattle.hc_term.specs.Posts.{is_empty}
use Rattle.hc_term.specs.declared.post.Moving.{Moving}
use Rattle.hc_runs.proofs.Level.{level}
use Rattle.hc_runs.proofs.Guarded.{once_on}
use Rattle.hc_code.specs.declared.code.Way.{Way}
use Rattle.hc_code.specs.declared.code.Instr.{Instr}
use Rattle.hc_code.specs.declared.code.Instr.TheVariants as instr
use Rattle.hc_code.specs.Kept.{ios_of, is_instr}
use Rattle.hc_code.specs.Stands.{Table, At, WaysAgree, AgreesHere, Agrees}
use Rattle.hc_core_facts.specs.Standing.{phase_code, slope_of}
use Rattle.hc_cstep.specs.Locals.{Mine}
use Rattle.hc_cstep.specs.Stands as private
use Rattle.hc_cpost.specs.Parts.{rates_at, ios_at, phase_at}
use Rattle.hc_cpost.specs.Posting.{is_over}
use Rattle.hc_cpost.proofs.Coded.{offered_by}
use Rattle.hc_cpost.proofs.Putting.{Puts}

-- ---- branches and ways

pub ways_ios : (t : Table) (rest : List Stmt) (ways : List Way) (bs : List Branch) → WaysAgree t rest ways bs → ios_of ways ≡ ios_in bs
ways_ios t rest [] [] h = refl
ways_ios t rest [] (b ∷ bs) h = absurd h
ways_ios t rest (w ∷ ws) [] h = absurd h
ways_ios t rest (w ∷ ws) (b ∷ bs) h = ap₂ (λ (i : Io) (is : List Io). i ∷ is) h.0 (ways_ios t rest ws bs h.2)

offers_in : (s : Store) (r : Rates) (bs : List Branch) → offers_of s r bs ≡ offered_by s r (ios_in bs)
offers_in s r [] = refl
offers_in s r (b ∷ bs) = ap (λ (os : List Offer). offer_of s r (out-Branch b).io ∷ os) (offers_in s r bs)

pub over_is : (bounded : Bool) (own : List Rational) (o : Option Rational) → private.BoundIs bounded own o → is_over bounded own ≡ is_due o
over_is bounded own None h = ap (λ (z : Bool). is_over z own) h
over_is bounded own (Some b) h = ap (λ (z : Bool). is_over z own) h.0 ∙ ap is_zero h.1

-- ---- guards

module _ (C n : ℕ) where
  -- what guards keep
  pub record Kept (ios : List Io) : Type 0 where
    pub ruled : list_all (is_io C n) ios ≡ true
    pub once : (sending : Bool) (c : ℕ) → count_by (is_on sending c) ios ≤ 1
    pub short : length ios ≤ 32

  pub guards_keep : (ios : List Io) → are_guards C n ios ≡ true → Kept ios
  guards_keep ios h =
      let parts = and_parts (nat_le (length ios) most_guards && list_all (is_io C n) ios) (all_apart is_same_io ios) h in
      let two = and_parts (nat_le (length ios) most_guards) (list_all (is_io C n) ios) parts.0 in
      record { ruled = two.1; once = λ sending c. once_on sending c ios parts.1; short = leb-true (length ios) most_guards two.0 }

  none_kept : Kept []
  none_kept = record { ruled = refl; once = λ sending c. omega arith; short = omega arith }

  kept_if : (z : Bool) (ios : List Io) → Kept ios → Kept (if z then ios else [])
  kept_if true ios h = h
  kept_if false ios h = none_kept

  -- an evolution's rates are of variables, and there is one
  pub record Rated (rates : List Rate) : Type 0 where
    pub varied : list_all (λ (r : Rate). nat_lt r.variable n) rates ≡ true
    pub some : 1 ≤ length rates

  all_varied : (pattern : Rates) (rates : List Rate) → list_all (is_rate n pattern) rates ≡ true → list_all (λ (r : Rate). nat_lt r.variable n) rates ≡ true
  all_varied pattern [] h = refl
  all_varied pattern (r ∷ rates) h =
      let parts = and_parts (is_rate n pattern r) (list_all (is_rate n pattern) rates) h in
      and_from (nat_lt r.variable n) (list_all (λ (r : Rate). nat_lt r.variable n) rates) (and_parts _ _ (and_parts _ _ parts.0).0).0 (all_varied pattern rates parts.1)

  pub evolution_rated : (rates : List Rate) (domain : Cond) (ios : List Io) → is_evolution n rates domain ios ≡ true → Rated rates
  evolution_rated rates domain ios h =
      let pattern = pattern_of n rates in
      let rated = (and_parts _ _ (and_parts (are_rates n pattern rates && is_moving_domain n pattern domain) (list_all (sends_affine pattern) ios) h).0).0 in
      let parts = and_parts (nat_le 1 (length rates) && all_apart same_variable rates) (list_all (is_rate n pattern) rates) rated in
      record { varied = all_varied pattern rates parts.1; some = leb-true 1 (length rates) (and_parts (nat_le 1 (length rates)) (all_apart same_variable rates) parts.0).0 }

  -- ---- slopes

  abbrev slope_in : Offer → Rational
  slope_in (Send channel at slope) = slope
  slope_in (Receive channel) = zero_ℚ

  flat_at : (s : Store) (ios : List Io) (g channel : ℕ) (at slope : Rational) → slice_get (offered_by s [] ios) g ≡ Some (Send channel at slope) → zero_ℚ ≡ slope
  flat_at s [] g channel at slope e = cc
  flat_at s (io.Send c v ∷ ios) zero channel at slope e = sym (level s v) ∙ ap slope_in (same_Some (Send c (line s [] v).at (line s [] v).slope) (Send channel at slope) e)
  flat_at s (io.Receive c y ∷ ios) zero channel at slope e = cc
  flat_at s (i ∷ ios) (suc g) channel at slope e = flat_at s ios g channel at slope e

  -- ---- an arrived process

  module _ (t : Table) (few : n ≤ 64) (own : List Rational) (bounded : Bool) (s : Store) (sized : length s ≡ n) (same : take n own ≡ s) (clock left : Rational) where
    abbrev shown : Layer → Post
    shown l = record {
      phase = phase.Arrived;
      bound = bound_here s left l;
      due = due_of clock (bound_here s left l);
      moving = moving_here s l;
      offers = offers_here s (bound_here s left l) l;
    }

    abbrev PutsHere : Instr → Layer → Type 0
    PutsHere i l = (r : Rates) × Puts C n own bounded (phase_at true i) (rates_at i) (if not (is_over bounded own) then ios_at i else []) s r (shown l)

    -- where nothing evolves and nothing is offered
    puts_plain : (l : Layer) → private.Shows bounded own (shown l) → moving_here s l ≡ [] → offers_here s (bound_here s left l) l ≡ [] → (ios : List Io) → ios ≡ [] →
        Puts C n own bounded 1 [] (if not (is_over bounded own) then ios else []) s [] (shown l)
    puts_plain l shows m o ios e =
        let none : (if not (is_over bounded own) then ios else []) ≡ [] = by_over (not (is_over bounded own)) e in
        subst (λ (is : List Io). Puts C n own bounded 1 [] is s [] (shown l)) (sym none)
        (
        record {
          few = few;
          sized = sized;
          store = same;
          phase_is = refl;
          moving = m;
          offers = o;
          shows = shows;
          level = λ g channel at slope f. absurd (nothing g channel at slope (sym (ap (λ (os : List Offer). slice_get os g) o) ∙ f));
          varied = refl;
          ruled = none_kept.ruled;
          once = none_kept.once;
          short = none_kept.short;
        }
        )
      where
        by_over : (z : Bool) → ios ≡ [] → (if z then ios else []) ≡ []
        by_over true e = e
        by_over false e = refl

        nothing : (g channel : ℕ) (at slope : Rational) → slice_get [] g ≡ Some (Send channel at slope) → ⊥
        nothing g channel at slope f = cc

    -- where it offers communications
    puts_meet : (l : Layer) (ways : List Way) (ios : List Io) → ios_of ways ≡ ios → bound_here s left l ≡ None → moving_here s l ≡ [] →
        offers_here s (bound_here s left l) l ≡ offered_by s [] ios → private.Shows bounded own (shown l) → IsTrue (is_instr C n (instr.Meet ways)) →
        Puts C n own bounded 1 [] (if not (is_over bounded own) then ios_of ways else []) s [] (shown l)
    puts_meet l ways ios e none m o shows ruled =
        let kept = guards_keep ios (ap (are_guards C n) (sym e) ∙ ruled) in
        let off : is_over bounded own ≡ false = over_is bounded own (bound_here s left l) shows.bound ∙ ap is_due none in
        let is : (if not (is_over bounded own) then ios_of ways else []) ≡ ios = ap (λ (z : Bool). if not z then ios_of ways else []) off ∙ e in
        subst (λ (is : List Io). Puts C n own bounded 1 [] is s [] (shown l)) (sym is)
        (
        record {
          few = few;
          sized = sized;
          store = same;
          phase_is = refl;
          moving = m;
          offers = o;
          shows = shows;
          level =
              λ g channel at slope f.
              ap (λ (z : Bool). if z then zero_ℚ else slope) (empty_is m)
              ∙ flat_at s ios g channel at slope (sym (ap (λ (os : List Offer). slice_get os g) o) ∙ f);
          varied = refl;
          ruled = kept.ruled;
          once = kept.once;
          short = kept.short;
        }
        )
      where
        empty_is : moving_here s l ≡ [] → is_empty (moving_here s l) ≡ true
        empty_is h = ap is_empty h

    -- where it evolves
    puts_evolve : (rates : List Rate) (domain : Cond) (branches : List Branch) (ways : List Way) → ios_of ways ≡ ios_in branches →
        private.Shows bounded own (shown (Stmt-F.Evolve rates domain branches)) → is_evolution n rates domain (ios_of ways) ≡ true → are_guards C n (ios_of ways) ≡ true →
        Puts C n own bounded 1 rates (if not (is_over bounded own) then ios_of ways else []) s (rates_in rates s) (shown (Stmt-F.Evolve rates domain branches))
    puts_evolve rates domain branches ways e shows evolves guarded =
        let l = Stmt-F.Evolve rates domain branches in
        let r = rates_in rates s in
        let rated = evolution_rated rates domain (ios_of ways) evolves in
        let kept = kept_if (not (is_over bounded own)) (ios_of ways) (guards_keep (ios_of ways) guarded) in
        let off : is_over bounded own ≡ is_due (bound_here s left l) = over_is bounded own (bound_here s left l) shows.bound in
        record {
          few = few;
          sized = sized;
          store = same;
          phase_is = refl;
          moving = refl;
          offers = offered (is_due (bound_here s left l)) (is_over bounded own) off;
          shows = shows;
          level = λ g channel at slope f. some_moves rates rated.some slope;
          varied = rated.varied;
          ruled = kept.ruled;
          once = kept.once;
          short = kept.short;
        }
      where
        offered : (z y : Bool) → y ≡ z → (if z then [] else offers_of s (rates_in rates s) branches) ≡ offered_by s (rates_in rates s) (if not y then ios_of ways else [])
        offered true y f = sym (ap (λ (b : Bool). offered_by s (rates_in rates s) (if not b then ios_of ways else [])) f)
        offered false y f =
            offers_in s (rates_in rates s) branches ∙ ap (offered_by s (rates_in rates s)) (sym e)
            ∙ sym (ap (λ (b : Bool). offered_by s (rates_in rates s) (if not b then ios_of ways else [])) f)

        some_moves : (rs : List Rate) → 1 ≤ length rs → (slope : Rational) → (if is_empty (moving_of s rs) then zero_ℚ else slope) ≡ slope
        some_moves [] h slope = absurd (omega (arith, h))
        some_moves (y ∷ rs) h slope = refl

    -- ---- by the statement

    as_here : (i j : Instr) (l : Layer) → i ≡ j → (IsTrue (is_instr C n j) → PutsHere j l) → IsTrue (is_instr C n i) → PutsHere i l
    as_here i j l e f ruled = subst (λ (k : Instr). PutsHere k l) (sym e) (f (subst (λ (k : Instr). IsTrue (is_instr C n k)) e ruled))

    plain_here : (i j : Instr) (l : Layer) → i ≡ j → phase_at true j ≡ 1 → rates_at j ≡ [] → ios_at j ≡ [] → private.Shows bounded own (shown l) → moving_here s l ≡ [] →
        offers_here s (bound_here s left l) l ≡ [] → PutsHere i l
    plain_here i j l e one rates ios shows m o = (
      [],
      subst (λ (k : Instr). Puts C n own bounded (phase_at true k) (rates_at k) (if not (is_over bounded own) then ios_at k else []) s [] (shown l)) (sym e)
          (
          subst (λ (x : ℕ). Puts C n own bounded x (rates_at j) (if not (is_over bounded own) then ios_at j else []) s [] (shown l)) (sym one)
          (
          subst (λ (rs : List Rate). Puts C n own bounded 1 rs (if not (is_over bounded own) then ios_at j else []) s [] (shown l)) (sym rates)
          (puts_plain l shows m o (ios_at j) ios)
          )
          ),
    )

    pub puts_here : (i : Instr) (head : Stmt) (rest : List Stmt) (l : Layer) → AgreesHere t i head rest l → IsTrue (is_instr C n i) → private.Shows bounded own (shown l) → PutsHere i l
    puts_here i head rest Stmt-F.Skip h ruled shows = plain_here i (instr.Skip h.0) Stmt-F.Skip h.1 refl refl refl shows refl refl
    puts_here i head rest (Stmt-F.Assign x e) h ruled shows = plain_here i (instr.Assign x e h.0) (Stmt-F.Assign x e) h.1 refl refl refl shows refl refl
    puts_here i head rest (Stmt-F.Log e) h ruled shows = plain_here i (instr.Log e h.0) (Stmt-F.Log e) h.1 refl refl refl shows refl refl
    puts_here i head rest (Stmt-F.Wait e) h ruled shows = plain_here i (instr.Wait e h.0) (Stmt-F.Wait e) h.1 refl refl refl shows refl refl
    puts_here i head rest (Stmt-F.If c first second) h ruled shows = plain_here i (instr.Test c h.0 h.1) (Stmt-F.If c first second) h.2 refl refl refl shows refl refl
    puts_here i head rest (Stmt-F.Loop c body) h ruled shows = plain_here i (instr.Test c h.0 h.1) (Stmt-F.Loop c body) h.2 refl refl refl shows refl refl
    puts_here i head rest (Stmt-F.Pick first second) h ruled shows = plain_here i (instr.Pick h.0 h.1) (Stmt-F.Pick first second) h.2 refl refl refl shows refl refl
    puts_here i head rest (Stmt-F.Forever body) h ruled shows = plain_here i (instr.Again h.0) (Stmt-F.Forever body) h.1 refl refl refl shows refl refl
    puts_here i head rest (Stmt-F.Io io) h ruled shows =
        let ways : List Way = record { io = io; next = h.0 } ∷ [] in
        as_here i (instr.Meet ways) (Stmt-F.Io io) h.1 (λ k. ([], puts_meet (Stmt-F.Io io) ways (io ∷ []) refl refl refl refl shows k)) ruled
    puts_here i head rest (Stmt-F.Choice branches) h ruled shows =
        as_here i (instr.Meet h.0) (Stmt-F.Choice branches) h.1
        (λ k. ([], puts_meet (Stmt-F.Choice branches) h.0 (ios_in branches) (ways_ios t rest h.0 branches h.2) refl refl (offers_in s [] branches) shows k)) ruled
    puts_here i head rest (Stmt-F.Evolve rates domain branches) h ruled shows =
        as_here i (instr.Evolve rates domain h.0 h.1) (Stmt-F.Evolve rates domain branches) h.2
        (
        λ k.
        let parts = and_parts (is_evolution n rates domain (ios_of h.0)) (are_guards C n (ios_of h.0)) k in
        (rates_in rates s, puts_evolve rates domain branches h.0 (ways_ios t rest h.0 branches h.3) shows parts.0 parts.1)
        )
        ruled

  -- ---- whatever it is

  module _ (t : Table) (few : n ≤ 64) (own : List Rational) (bounded : Bool) (clock : Rational) where
    -- what is to be put up for a process with this instruction at its place
    abbrev pub PutsAt : Bool → Instr → ProcessState → Type 0
    PutsAt arrived i q =
        (r : Rates) ×
        Puts C n own bounded (phase_at arrived i) (if arrived then rates_at i else []) (if arrived && not (is_over bounded own) then ios_at i else []) q.store r (post clock q)

    nothing_puts : (s : Store) → length s ≡ n → take n own ≡ s → (code : ℕ) (x : Post) → private.Shows bounded own x → code ≡ phase_code x.phase → x.moving ≡ [] → x.offers ≡ [] →
        Puts C n own bounded code [] [] s [] x
    nothing_puts s sized same code x shows e m o = record {
      few = few;
      sized = sized;
      store = same;
      phase_is = e;
      moving = m;
      offers = o;
      shows = shows;
      level = λ g channel at slope f. absurd (nothing g channel at slope (sym (ap (λ (os : List Offer). slice_get os g) o) ∙ f));
      varied = refl;
      ruled = none_kept.ruled;
      once = none_kept.once;
      short = none_kept.short;
    }
      where
        nothing : (g channel : ℕ) (at slope : Rational) → slice_get [] g ≡ Some (Send channel at slope) → ⊥
        nothing g channel at slope f = cc

    none_if : (z : Bool) → ◌≡◌ {A = List Io} (if z then [] else []) []
    none_if true = refl
    none_if false = refl

    going_phase : (i : Instr) (head : Stmt) (rest : List Stmt) (l : Layer) → AgreesHere t i head rest l → phase_at false i ≡ 0
    going_phase i head rest Stmt-F.Skip h = ap (phase_at false) h.1
    going_phase i head rest (Stmt-F.Assign x e) h = ap (phase_at false) h.1
    going_phase i head rest (Stmt-F.Log e) h = ap (phase_at false) h.1
    going_phase i head rest (Stmt-F.Wait e) h = ap (phase_at false) h.1
    going_phase i head rest (Stmt-F.If c first second) h = ap (phase_at false) h.2
    going_phase i head rest (Stmt-F.Loop c body) h = ap (phase_at false) h.2
    going_phase i head rest (Stmt-F.Pick first second) h = ap (phase_at false) h.2
    going_phase i head rest (Stmt-F.Forever body) h = ap (phase_at false) h.1
    going_phase i head rest (Stmt-F.Io io) h = ap (phase_at false) h.1
    going_phase i head rest (Stmt-F.Choice branches) h = ap (phase_at false) h.1
    going_phase i head rest (Stmt-F.Evolve rates domain branches) h = ap (phase_at false) h.2

    ended_puts : (arrived : Bool) (s : Store) → length s ≡ n → take n own ≡ s → (x : Post) → private.Shows bounded own x → 2 ≡ phase_code x.phase → x.moving ≡ [] → x.offers ≡ [] →
        Puts C n own bounded (phase_at arrived instr.End) (if arrived then rates_at instr.End else []) (if arrived && not (is_over bounded own) then ios_at instr.End else []) s [] x
    ended_puts false s sized same x shows e m o = nothing_puts s sized same 2 x shows e m o
    ended_puts true s sized same x shows e m o =
        subst (λ (is : List Io). Puts C n own bounded 2 [] is s [] x) (sym (none_if (not (is_over bounded own)))) (nothing_puts s sized same 2 x shows e m o)

    puts_by : (todo : List Stmt) (s : Store) (choices : ℕ) (mark : Mark) (i : Instr) → length s ≡ n → take n own ≡ s →
        private.Shows bounded own (post_at clock s (bound_at s mark todo) mark todo) → Agrees t i todo → IsTrue (is_instr C n i) →
        PutsAt (private.has_arrived mark) i (record { todo = todo; store = s; choices = choices; mark = mark })
    puts_by [] s choices mark i sized same shows h ruled =
        let x : Post = post_at clock s (bound_at s mark []) mark [] in
        let arrived = private.has_arrived mark in (
          [],
          subst
              (λ (k : Instr). Puts C n own bounded (phase_at arrived k) (if arrived then rates_at k else []) (if arrived && not (is_over bounded own) then ios_at k else []) s [] x) (sym h)
              (ended_puts arrived s sized same x shows refl refl refl),
        )
    puts_by (head ∷ rest) s choices Going i sized same shows h ruled =
        ([], nothing_puts s sized same (phase_at false i) going_post shows (going_phase i head rest (out-Stmt head) h) refl refl)
    puts_by (head ∷ rest) s choices (Arrived left) i sized same shows h ruled =
        puts_here t few own bounded s sized same clock left i head rest (out-Stmt head) h ruled shows

-- For a process whose row and locals stand for it, at the instruction of its place.
pub puts_at : (C n : ℕ) (few : n ≤ 64) (t : Table) (room : ℕ) (clock : Rational) (m : Mine) (q : ProcessState) → private.StandsFor t n room clock m q → (i : Instr) →
    Agrees t i q.todo → IsTrue (is_instr C n i) → PutsAt C n t few m.row m.bounded clock m.arrived i q
puts_at C n few t room clock m q s i h ruled =
    let wide = s.wide in
    let sized : length q.store ≡ n = ap (λ (l : List Rational). length l) (sym s.same_store) ∙ length-take-le n m.row (omega (arith, wide, few)) in
    subst (λ (z : Bool). PutsAt C n t few m.row m.bounded clock z i q) (sym s.same_mark)
    (puts_by C n t few m.row m.bounded clock q.todo q.store q.choices q.mark i sized s.same_store s.shows h ruled)
