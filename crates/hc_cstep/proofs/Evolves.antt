-- An evolution: its rates, what its branches send, and its end moment are worked out, and the process arrives.
use Rattle.std.specs.Prelude.{◌≡◌, ◌≤◌, ◌<◌, ◌^◌, ℕ, ◌+◌, suc, Bool, true, false, ◌&&◌, if◌then◌else◌, List, [], ◌∷◌, ◌++◌, length, take, replicate, slice_set, slice_index_or, map, IsTrue, ℤ, Option, Some, None}
use Rattle.std.specs.List.{list_all}
use Rattle.std.proofs.Common.{refl, sym, ap, ◌∙◌, subst, arith}
use Rattle.std.proofs.lemmas.List.{get_or-set_same, get_or-set_other, length-set, take-set-le, length-replicate}
use Rattle.hc_rational.specs.Words.{Rational, zero_ℚ}
use Rattle.hc_term.specs.declared.expr.Expr.{Expr}
use Rattle.hc_term.specs.declared.expr.Cond.{Cond}
use Rattle.hc_term.specs.declared.stmt.Io.{Io}
use Rattle.hc_term.specs.declared.stmt.Rate.{Rate}
use Rattle.hc_term.specs.declared.stmt.Stmt.{Stmt, out-Stmt}
use Rattle.hc_term.specs.declared.stmt.Stmt.TheOpen.{Stmt-F}
use Rattle.hc_term.specs.declared.stmt.Branch.{Branch}
use Rattle.hc_term.specs.declared.post.Offer.{Offer}
use Rattle.hc_term.specs.declared.post.Offer.TheVariants as offer
use Rattle.hc_term.specs.Motion.{Rates, rates_in, line}
use Rattle.hc_term.specs.EndMoment.{end_moment, domain_fits, is_domain}
use Rattle.hc_term.specs.Process.{is_due}
use Rattle.hc_term.specs.Offers.{offers_of}
use Rattle.hc_term.specs.Silent.{Did, if_fit, rates_fit, guards_fit, due_fits, evolution_fits}
use Rattle.hc_term.specs.Profile.{is_cond, pattern_of, same_variable, all_apart, ios_in}
use Rattle.hc_code.specs.Stands.{Table}
use Rattle.hc_runs.proofs.Rated.{AllStand, stand}
use Rattle.hc_cast.specs.declared.stmt.CStmt.{CStmt}
use Rattle.hc_cast.specs.declared.program.CProgram.{CProgram}
use Rattle.hc_cmach.proofs.Worths.{forms}
use Rattle.hc_clogic.proofs.Blocks.{block_runs}
use Rattle.hc_cstep.proofs.OwnRow.{row_there, not_common, own_row}
use Rattle.hc_cstep.specs.Locals.{Mine, Base, view}
use Rattle.hc_cstep.specs.Stands.{register, rate_of, value_of, slope_of, the_bound, first_scratch, BoundIs, SentAre, StandsFor}
use Rattle.hc_cstep.specs.Words.{each}
use Rattle.hc_cstep.specs.Parts.{Parts, RateIs, AreRates, MomentIs}
use Rattle.hc_cstep.specs.Sending.{all_sent, sends_line}
use Rattle.hc_cstep.specs.Evolving.{rate_block, due_block, evolves}
use Rattle.hc_cstep.specs.Premises.{PartsWork, is_sent, steps_of}
use Rattle.hc_cstep.specs.Written.{commit, goes_on, begins}
use Rattle.hc_cstep.specs.Law.{Round}
use Rattle.hc_cstep.proofs.Standing.{at_going}
use Rattle.hc_cstep.proofs.Prepared.{same_below, fewer_same, Ready, Prepares, after, still_ready, prepares_scratch, prepares_so, prepares_guarded, then_each}
use Rattle.hc_cstep.proofs.Sends.{rates_stand, few_blocks, AllSent, offered, all_send}
use Rattle.hc_cstep.proofs.Branches.{guards_alike, moving_offers}
use Rattle.hc_cstep.proofs.Begins.{is_ready, Shown, begun, begins_round}
use Rattle.hc_cstep.proofs.Rates.{good_rate, all_rated, none_rated, pattern_wide, rates_shown, below}
use Rattle.hc_cstep.proofs.Dues.{due_works}
use Rattle.hc_cstep.proofs.LineSends.{good_line, line_sent}

-- ---- what is shown, in another row

sent_stand : (row now : List Rational) (k : ℕ) (os : List Offer) → k + length os ≤ 64 → ((i : ℕ) → 192 ≤ i → i < 320 → register now i ≡ register row i) → SentAre row k os → SentAre now k os
sent_stand row now k [] short same h = tt
sent_stand row now k (offer.Send channel at slope ∷ os) short same h =
    ((same (value_of k) (omega arith) (omega (arith, short)) ∙ h.0.0, same (slope_of k) (omega arith) (omega (arith, short)) ∙ h.0.1), sent_stand row now (k + 1) os (omega (arith, short)) same h.1)
sent_stand row now k (offer.Receive channel ∷ os) short same h = (tt, sent_stand row now (k + 1) os (omega (arith, short)) same h.1)

offers_length : (at slope : Expr → Rational) (ios : List Io) → length (map (offered at slope) ios) ≡ length ios
offers_length at slope [] = refl
offers_length at slope (io ∷ ios) = ap suc (offers_length at slope ios)

moved_bound : (row : List Rational) (there : Bool) (moment : Option Rational) → length row ≡ 20480 → MomentIs there row moment →
    BoundIs there (slice_set row the_bound (register row first_scratch)) moment
moved_bound row there None wide h = h
moved_bound row there (Some d) wide h = (h.0, get_or-set_same row the_bound (register row first_scratch) zero_ℚ (omega (arith, wide)) ∙ h.1)

offers_unless : (row : List Rational) (x : Bool) (os : List Offer) → SentAre row 0 os → SentAre row 0 (if x then [] else os)
offers_unless row true os h = tt
offers_unless row false os h = h

swapped : (x y z : Bool) → ((x && y) && z) ≡ ((x && z) && y)
swapped true true true = refl
swapped true true false = refl
swapped true false true = refl
swapped true false false = refl
swapped false y z = refl

module _ (g : CProgram) (p : ℕ) (low : p < 64) (b : Base) (vars : ℕ) (few : vars ≤ 64) (room : ℕ) (n late : ℕ) (c : Parts) (works : PartsWork g p n late b vars room c) (clock : Rational)
    (s : List Rational) (same_vars : length s ≡ vars) (rates : List Rate) (domain : Cond) (ios : List Io) where
  abbrev r : Rates
  r = rates_in rates s

  abbrev pattern : Rates
  pattern = pattern_of vars rates

  abbrev moment : Option Rational
  moment = end_moment s r domain

  abbrev offers : List Offer
  offers = map (offered (λ (e : Expr). (line s r e).at) (λ (e : Expr). (line s r e).slope)) ios

  abbrev sent_fit : Bool
  sent_fit = list_all (is_sent (λ (e : Expr). (line s r e).fits_all)) ios

  short : length pattern ≤ 64
  short = let same = pattern_wide rates (replicate vars None) in let count = length-replicate {A = Option Rational} vars None in omega (arith, same, count, few)

  -- what the rules say
  pub record Ruled : Type 0 where
    pub in_range : IsTrue (list_all (below g p low b vars few room n late c works clock s vars) rates)
    pub good_rates : IsTrue (list_all (good_rate vars c.is_value) rates)
    pub few_rates : length rates ≤ vars
    pub few_ways : length ios ≤ 32
    pub good_ways : IsTrue (list_all (is_sent (good_line vars pattern c.is_line)) ios)
    pub is_cond_here : IsTrue (is_cond vars domain)
    pub is_domain_here : IsTrue (is_domain pattern domain)
    pub has_end : IsTrue (c.is_end domain)

  -- ---- piece by piece

  abbrev Rated : List Rational → Bool → Type 0
  Rated row truth = AreRates pattern r row

  abbrev Lined : List Rational → Bool → Type 0
  Lined row truth = AreRates pattern r row × SentAre row 0 offers

  abbrev Ended : List Rational → Bool → Type 0
  Ended row truth = AreRates pattern r row × SentAre row 0 offers × MomentIs truth row moment

  module _ (ruled : Ruled) (m : Mine) (ready : Ready vars room clock s m) where
    rated : Prepares g p (steps_of (n + 1) (length rates)) b 128 (each (map (rate_block c p) rates)) m (rates_fit s rates) Rated
    rated =
        let count = length-replicate {A = Option Rational} vars None in
        let same = length-replicate {A = Option Rational} (length s) None in
        all_rated g p low b vars few room n late c works clock s rates (replicate vars None) (replicate (length s) None) m ready (same ∙ same_vars ∙ sym count) (omega (arith, count, few))
        (subst (λ (k : ℕ). IsTrue (list_all (below g p low b vars few room n late c works clock s k) rates)) (sym count) ruled.in_range) ruled.good_rates
        (none_rated vars (length s) m.row)

    again : (from : ℕ) (row : List Rational) (truth : Bool) (others : List ℤ) → 65 ≤ from → length row ≡ length m.row → length others ≡ length m.others → take from row ≡ take from m.row →
        Ready vars room clock s (after m row true truth others)
    again from row truth others high wide kept same = still_ready vars room clock s m from row truth others few high ready wide kept same

    abbrev lines_code : List CStmt
    lines_code = each (map (rate_block c p) rates) ++ each (all_sent (sends_line c p rates) 0 ios)

    lined : Prepares g p (steps_of (n + 1) (length rates) + steps_of (n + 2) (length ios)) b 128 lines_code m (rates_fit s rates && sent_fit) Lined
    lined =
        let a = rated in
        let short_ways = ruled.few_ways in
        then_each g p b (steps_of (n + 1) (length rates)) (steps_of (n + 2) (length ios)) 128 (each (map (rate_block c p) rates)) (all_sent (sends_line c p rates) 0 ios) m (rates_fit s rates) sent_fit
        Rated Lined (few_blocks (sends_line c p rates) (n + 2) 0 ios) a
        (
        λ on.
        let w = after m a.row true a.truth a.others in
        prepares_so g p b (steps_of (n + 2) (length ios)) 192 128 (each (all_sent (sends_line c p rates) 0 ios)) w sent_fit (λ (row : List Rational) (truth : Bool). AllSent 0 a.row offers row) Lined
        (omega arith)
        (
        all_send g p b vars few room clock s pattern r short (sends_line c p rates) (n + 2) (good_line vars pattern c.is_line) (λ (e : Expr). (line s r e).fits_all)
        (λ (e : Expr). (line s r e).at) (λ (e : Expr). (line s r e).slope)
        (λ m1 k e ready1 rated1 less is. line_sent g p low b vars room n late c works s rates m1 k e less clock ready1 rated1 is) ios 0 w (omega (arith, short_ways))
        (again 128 a.row a.truth a.others (omega arith) a.wide a.kept a.low) (a.such on) ruled.good_ways
        )
        (λ same all. (rates_stand pattern r a.row _ short same (a.such on), all.sent))
        )

    ended : Prepares g p ((steps_of (n + 1) (length rates) + steps_of (n + 2) (length ios)) + (1 + late)) b 128 (lines_code ++ each (c.ends rates domain ∷ [])) m
        ((rates_fit s rates && sent_fit) && domain_fits s r domain) Ended
    ended =
        let a = lined in
        let short_ways = ruled.few_ways in
        let one : length (c.ends rates domain ∷ []) ≤ 1 + late = omega arith in
        then_each g p b (steps_of (n + 1) (length rates) + steps_of (n + 2) (length ios)) (1 + late) 128 lines_code (c.ends rates domain ∷ []) m (rates_fit s rates && sent_fit) (domain_fits s r domain)
        Lined Ended one a
        (
        λ on.
        let w = after m a.row true a.truth a.others in
        let ready1 = again 128 a.row a.truth a.others (omega arith) a.wide a.kept a.low in
        let e = works.ends w s rates domain refl ready1.wide ready1.spare ready1.same_store (a.such on).0 ruled.is_cond_here ruled.is_domain_here ruled.has_end in
        let count = offers_length (λ (e : Expr). (line s r e).at) (λ (e : Expr). (line s r e).slope) ios in
        prepares_guarded g p b late 128 (c.ends rates domain) w (domain_fits s r domain) Ended refl
        (
        prepares_so g p b late first_scratch 128 (c.ends rates domain) w (domain_fits s r domain) (λ (row : List Rational) (truth : Bool). MomentIs truth row moment) Ended (omega arith)
        (prepares_scratch g p b late (c.ends rates domain) w (domain_fits s r domain) (λ (row : List Rational) (truth : Bool). MomentIs truth row moment) e.does e.found)
        (
        λ same found. (
          rates_stand pattern r a.row _ short (fewer_same 192 320 _ a.row (omega arith) same) (a.such on).0,
          sent_stand a.row _ 0 offers (omega (arith, count, short_ways)) (λ i above less. same_below 320 _ a.row i less same) (a.such on).1,
          found,
        )
        )
        )
        )

    abbrev all_fit : Bool
    all_fit = ((rates_fit s rates && sent_fit) && domain_fits s r domain) && due_fits clock moment

    abbrev steps : ℕ
    steps = ((steps_of (n + 1) (length rates) + steps_of (n + 2) (length ios)) + (1 + late)) + 8

    pub checked : Prepares g p steps b 128 (evolves c p rates domain ios) m all_fit Ended
    checked =
        let a = ended in
        let short_ways = ruled.few_ways in
        let one : length (due_block p ∷ []) ≤ 8 = omega arith in
        then_each g p b ((steps_of (n + 1) (length rates) + steps_of (n + 2) (length ios)) + (1 + late)) 8 128 (lines_code ++ each (c.ends rates domain ∷ [])) (due_block p ∷ []) m
        ((rates_fit s rates && sent_fit) && domain_fits s r domain) (due_fits clock moment) Ended Ended one a
        (
        λ on.
        let w = after m a.row true a.truth a.others in
        let ready1 = again 128 a.row a.truth a.others (omega arith) a.wide a.kept a.low in
        let found = a.such on in
        let count = offers_length (λ (e : Expr). (line s r e).at) (λ (e : Expr). (line s r e).slope) ios in
        prepares_guarded g p b 7 128 (due_block p) w (due_fits clock moment) Ended refl
        (
        prepares_so g p b 7 first_scratch 128 (due_block p) w (due_fits clock moment) (λ (row : List Rational) (truth : Bool). MomentIs truth row moment) Ended (omega arith)
        (due_works g p low b vars room clock s w ready1 moment found.2)
        (
        λ same still. (
          rates_stand pattern r a.row _ short (fewer_same 192 320 _ a.row (omega arith) same) found.0,
          sent_stand a.row _ 0 offers (omega (arith, count, short_ways)) (λ i above less. same_below 320 _ a.row i less same) found.1,
          still,
        )
        )
        )
        )

  -- ---- the step

  module _ (t : Table) (m : Mine) (head : Stmt) (rest : List Stmt) (choices : ℕ) (on : m.ok ≡ true) (goes : m.end ≡ goes_on) (small : m.most < 2 ^ 31)
      (here : StandsFor t vars room clock m (at_going (head ∷ rest) s choices)) (branches : List Branch) (same_ios : ios ≡ ios_in branches) (ruled : Ruled)
      (apart : IsTrue (all_apart same_variable rates)) where
    abbrev ready : Ready vars room clock s m
    ready = is_ready g p low b t vars few room clock m head rest s choices here on

    all_stand : AllStand r s rates
    all_stand = stand s rates (subst (λ (k : ℕ). IsTrue (list_all (below g p low b vars few room n late c works clock s k) rates)) (sym same_vars) ruled.in_range) apart

    offers_are : offers ≡ offers_of s r branches
    offers_are =
        ap (λ (is : List Io). map (offered (λ (e : Expr). (line s r e).at) (λ (e : Expr). (line s r e).slope)) is) same_ios ∙ moving_offers s r branches

    shown : (row : List Rational) (truth : Bool) → length row ≡ 20480 → Ended row truth →
        Shown g p low b t vars few room clock m head rest s choices here truth (slice_set row the_bound (register row first_scratch)) (Stmt-F.Evolve rates domain branches)
    shown row truth wide e =
        let now = slice_set row the_bound (register row first_scratch) in
        let count = offers_length (λ (e : Expr). (line s r e).at) (λ (e : Expr). (line s r e).slope) ios in
        let short_ways = ruled.few_ways in
        let same = (λ (i : ℕ) (above : 67 ≤ i). get_or-set_other row the_bound i (register row first_scratch) zero_ℚ (λ f. omega (arith, f, above))) in
        record {
          bound = moved_bound row truth moment wide e.2;
          rates = rates_shown s pattern r now rates (rates_moved row (register row first_scratch) e.0) all_stand;
          sent =
              offers_unless now (is_due moment) (offers_of s r branches)
              (
              subst (λ (os : List Offer). SentAre now 0 os) offers_are (sent_stand row now 0 offers (omega (arith, count, short_ways)) (λ i above less. same i (omega (arith, above))) e.1)
              );
        }
      where
        rates_moved : (row : List Rational) (v : Rational) → AreRates pattern r row → AreRates pattern r (slice_set row the_bound v)
        rates_moved row v h = λ x. subst (λ (q : Rational). RateIs (slice_index_or pattern x None) (slice_index_or r x None) q) (sym (get_or-set_other row the_bound (rate_of x) v zero_ℚ (λ f. omega (arith, f)))) (h x)

    fits_are : all_fit ruled m ready ≡ evolution_fits clock s rates domain branches
    fits_are =
        ap (λ (y : Bool). ((rates_fit s rates && y) && domain_fits s r domain) && due_fits clock moment)
        (ap (λ (is : List Io). list_all (is_sent (λ (e : Expr). (line s r e).fits_all)) is) same_ios ∙ guards_alike s r branches)
        ∙ ap (λ (y : Bool). y && due_fits clock moment) (swapped (rates_fit s rates) (guards_fit s r branches) (domain_fits s r domain))

    pub evolves_round : out-Stmt head ≡ Stmt-F.Evolve rates domain branches →
        Round g p (steps ruled m ready + 6) b t vars room clock (evolves c p rates domain ios ++ commit (begins p) ∷ []) m (at_going (head ∷ rest) s choices)
        (if_fit (evolution_fits clock s rates domain branches) (Did None (begun g p low b t vars few room clock m head rest s choices here)))
    evolves_round l =
        let a = checked ruled m ready in
        subst
        (
        λ (x : Bool).
        Round g p (steps ruled m ready + 6) b t vars room clock (evolves c p rates domain ios ++ commit (begins p) ∷ []) m (at_going (head ∷ rest) s choices)
        (if_fit x (Did None (begun g p low b t vars few room clock m head rest s choices here)))
        )
        fits_are
        (
        begins_round g p low b t vars few room clock m head rest s choices here goes small (steps ruled m ready) 3 128 (evolves c p rates domain ios) (begins p) (all_fit ruled m ready) Ended
        (Stmt-F.Evolve rates domain branches) (omega arith) l a
        (
        λ h.
        let m1 = after m a.row true a.truth a.others in
        let row = slice_set a.row the_bound (register a.row first_scratch) in
        record {
          row = row;
          bounded = a.truth;
          runs = block_runs g p 3 (begins p) (view b m1) (view b (record m1 { row = row; bounded = a.truth; arrived = true })) (simp (forms, row_there p low, not_common p low, own_row p));
          wide = length-set a.row the_bound (register a.row first_scratch);
          front = take-set-le 65 a.row the_bound (register a.row first_scratch) (omega arith);
          shows = shown a.row a.truth (a.wide ∙ here.wide) (a.such h);
        }
        )
        )
