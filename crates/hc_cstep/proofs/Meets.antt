-- A communication or a choice: of each branch that sends, the value is worked out, and the process arrives.
use Rattle.std.specs.Prelude.{◌≡◌, ◌≤◌, ◌<◌, ◌^◌, ℕ, ◌+◌, nat_lt, Bool, true, List, [], ◌∷◌, ◌++◌, length, take, map, IsTrue, None}
use Rattle.std.specs.List.{list_all}
use Rattle.std.proofs.Common.{refl, sym, ◌∙◌, subst, arith}
use Rattle.std.proofs.lemmas.Bool.{lt-ltb, and_parts}
use Rattle.hc_rational.specs.Words.{Rational, zero_ℚ}
use Rattle.hc_term.specs.declared.expr.Expr.{Expr}
use Rattle.hc_term.specs.declared.stmt.Io.{Io}
use Rattle.hc_term.specs.declared.stmt.Stmt.{Stmt, out-Stmt}
use Rattle.hc_term.specs.declared.post.Offer.{Offer}
use Rattle.hc_term.specs.declared.post.Moving.{Moving}
use Rattle.hc_term.specs.Value.{val, is_fitting}
use Rattle.hc_term.specs.Process.{Layer, bound_here}
use Rattle.hc_term.specs.Offers.{moving_here, offers_here}
use Rattle.hc_term.specs.Silent.{Did, if_fit}
use Rattle.hc_term.specs.Profile.{is_expr}
use Rattle.hc_code.specs.Stands.{Table}
use Rattle.hc_cast.specs.declared.stmt.CStmt.{CStmt}
use Rattle.hc_cast.specs.declared.program.CProgram.{CProgram}
use Rattle.hc_clogic.specs.Runs.{Runs}
use Rattle.hc_cmach.proofs.Worths.{forms}
use Rattle.hc_clogic.proofs.Blocks.{block_runs}
use Rattle.hc_cstep.proofs.OwnRow.{row_there, not_common, own_row}
use Rattle.hc_cstep.specs.Locals.{Mine, Base, view, v_mark}
use Rattle.hc_cstep.specs.Stands.{register, value_of, slope_of, first_scratch, RatesAre, SentAre, StandsFor}
use Rattle.hc_cstep.specs.Words.{set, move, clear, each}
use Rattle.hc_cstep.specs.Parts.{Parts}
use Rattle.hc_cstep.specs.Sending.{all_sent, sends_value}
use Rattle.hc_cstep.specs.Premises.{PartsWork, is_sent, steps_of}
use Rattle.hc_cstep.specs.Written.{commit, goes_on}
use Rattle.hc_cstep.specs.Law.{Round}
use Rattle.hc_cstep.proofs.Standing.{at_going}
use Rattle.hc_cstep.proofs.Prepared.{same_below, Ready, Prepares, after, prepares_scratch, prepares_so, prepares_more}
use Rattle.hc_cstep.proofs.Sends.{Sent, with_sent, sent_there, sent_low, sent_wide, AllSent, offered, all_send}
use Rattle.hc_cstep.proofs.Branches.{good_value}
use Rattle.hc_cstep.proofs.Begins.{unbounded, is_ready, Shown, begun, begins_round}
use Rattle.hc_cstep.proofs.Waiting.{zero_written, zero_ratio}

module _ (g : CProgram) (p : ℕ) (low : p < 64) (b : Base) (vars : ℕ) (few : vars ≤ 64) (room : ℕ) (n late : ℕ) (c : Parts) (works : PartsWork g p n late b vars room c) where
  -- ---- a branch

  abbrev puts : ℕ → List CStmt
  puts k = move p (value_of k) first_scratch ∷ clear p (slope_of k) ∷ []

  module _ (s : List Rational) (m : Mine) (k : ℕ) (e : Expr) (less : k < 64) where
    abbrev There : List Rational → Bool → Type 0
    There row truth = Sent k m.row (val s e) zero_ℚ row

    -- scratch alone has changed, and the value stands there
    abbrev Valued : List Rational → Type 0
    Valued row = (take first_scratch row ≡ take first_scratch m.row) × (register row first_scratch ≡ val s e)

    put_runs : (m1 : Mine) → length m1.row ≡ length m.row → length m.row ≡ 20480 → (x : Bool) → m1.ok ≡ x → (x ≡ true → Valued m1.row) → Prepares g p 2 b 192 (puts k) m1 x There
    put_runs m1 same_width wide x on is =
        let value = register m1.row first_scratch in
        let row = with_sent k m1.row value zero_ℚ in
        let first : nat_lt (192 + k) 20480 ≡ true = lt-ltb (192 + k) 20480 (omega (arith, less)) in
        let second : nat_lt (256 + k) 20480 ≡ true = lt-ltb (256 + k) 20480 (omega (arith, less)) in
        record {
          row = row;
          truth = m1.truth;
          others = m1.others;
          runs =
              subst (λ (y : Bool). Runs g p 2 (puts k) (view b m1) (view b (record m1 { row = row; ok = y }))) on
              (block_runs g p 2 (puts k) (view b m1) (view b (record m1 { row = row })) (simp (forms, row_there p low, not_common p low, own_row p, first, second, zero_written, zero_ratio)));
          wide = sent_wide k less m.row m1.row value zero_ℚ (same_width ∙ wide);
          kept = refl;
          low = sent_low k less m.row m1.row value zero_ℚ (same_width ∙ wide);
          such =
              λ h.
              subst (λ (v : Rational). Sent k m.row v zero_ℚ row) (is h).1
              (sent_there k less m.row m1.row value zero_ℚ (same_width ∙ wide) (λ i below. same_below 320 m1.row m.row i below (is h).0));
        }

    pub value_sent : (clock : Rational) → Ready vars room clock s m → IsTrue (good_value vars c.is_value e) → Prepares g p (n + 2) b 192 (sends_value c p k e) m (is_fitting s e) There
    value_sent clock ready good =
        let parts = and_parts (is_expr vars e) (c.is_value e) good in
        let v = works.value m s e ready.on ready.wide ready.spare ready.same_store parts.0 parts.1 in
        let a = prepares_scratch g p b n (c.value e) m (is_fitting s e) (λ (row : List Rational) (truth : Bool). register row first_scratch ≡ val s e) v.does v.value in
        let a1 = prepares_so g p b n first_scratch 192 (c.value e) m (is_fitting s e) (λ (row : List Rational) (truth : Bool). register row first_scratch ≡ val s e)
        (λ (row : List Rational) (truth : Bool). Valued row) (omega arith) a (λ same h. (same, h)) in
        prepares_more g p b n 2 192 (c.value e) (puts k) m (is_fitting s e) (λ (row : List Rational) (truth : Bool). Valued row) There a1
        (put_runs (after m a1.row (is_fitting s e) a1.truth a1.others) a1.wide ready.wide (is_fitting s e) refl a1.such)

  -- ---- the step

  module _ (t : Table) (clock : Rational) (m : Mine) (head : Stmt) (rest : List Stmt) (store : List Rational) (choices : ℕ) (on : m.ok ≡ true) (goes : m.end ≡ goes_on)
      (small : m.most < 2 ^ 31) (s : StandsFor t vars room clock m (at_going (head ∷ rest) store choices)) where
    abbrev offers : List Io → List Offer
    offers ios = map (offered (val store) (λ (e : Expr). zero_ℚ)) ios

    -- what a statement without a bound shows, in which nothing moves
    pub record Plain (layer : Layer) (ios : List Io) : Type 0 where
      pub no_bound : bound_here store zero_ℚ layer ≡ None
      pub none_moves : moving_here store layer ≡ []
      pub all_offered : offers_here store (bound_here store zero_ℚ layer) layer ≡ offers ios

    shown : (layer : Layer) (ios : List Io) (row before : List Rational) → Plain layer ios → AllSent 0 before (offers ios) row →
        Shown g p low b t vars few room clock m head rest store choices s m.bounded row layer
    shown layer ios row before plain all = record {
      bound = simp (plain.no_bound, unbounded g p low b t vars few room clock m head rest store choices s);
      rates = subst (λ (ms : List Moving). RatesAre row ms) (sym plain.none_moves) tt;
      sent = subst (λ (os : List Offer). SentAre row 0 os) (sym plain.all_offered) all.sent;
    }

    pub meets_round : (layer : Layer) (ios : List Io) → out-Stmt head ≡ layer → Plain layer ios → length ios ≤ 64 → IsTrue (list_all (is_sent (good_value vars c.is_value)) ios) →
        Round g p (steps_of (n + 2) (length ios) + 4) b t vars room clock (each (all_sent (sends_value c p) 0 ios) ++ commit (set v_mark 1 ∷ []) ∷ []) m
        (at_going (head ∷ rest) store choices)
        (if_fit (list_all (is_sent (is_fitting store)) ios) (Did None (begun g p low b t vars few room clock m head rest store choices s)))
    meets_round layer ios l plain short good =
        let a = all_send g p b vars few room clock store [] [] (omega arith) (sends_value c p) (n + 2) (good_value vars c.is_value) (is_fitting store) (val store)
        (λ (e : Expr). zero_ℚ) (λ w k e ready rated less is. value_sent store w k e less clock ready is) ios 0 m (omega (arith, short))
        (is_ready g p low b t vars few room clock m head rest store choices s on) (λ x. tt) good in
        begins_round g p low b t vars few room clock m head rest store choices s goes small (steps_of (n + 2) (length ios)) 1 192 (each (all_sent (sends_value c p) 0 ios)) (set v_mark 1 ∷ [])
        (list_all (is_sent (is_fitting store)) ios) (λ (row : List Rational) (truth : Bool). AllSent 0 m.row (offers ios) row) layer (omega arith) l a
        (
        λ h.
        let m1 = after m a.row true a.truth a.others in
        record {
          row = a.row;
          bounded = m.bounded;
          runs = block_runs g p 1 (set v_mark 1 ∷ []) (view b m1) (view b (record m1 { arrived = true })) (simp forms);
          wide = refl;
          front = refl;
          shows = shown layer ios a.row m.row plain (a.such h);
        }
        )
