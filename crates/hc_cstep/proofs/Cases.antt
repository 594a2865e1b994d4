-- Each case does the silent step of the process at its place.
use Rattle.std.specs.List.{list_all}
use Rattle.std.specs.Prelude.{◌≡◌, ◌<◌, ◌≤◌, ◌^◌, ℕ, zero, suc, ◌+◌, length, map, Bool, true, false, ◌&&◌, nat_le, if◌then◌else◌, List, [], ◌∷◌, ◌++◌, IsTrue, Some, None}
use Rattle.std.proofs.Common.{refl, sym, ap, ◌∙◌, subst, arith}
use Rattle.std.proofs.lemmas.List.{length-take-le}
use Rattle.std.proofs.lemmas.Bool.{and_parts, leb-true}
use Rattle.hc_rational.specs.Words.{Rational, zero_ℚ}
use Rattle.hc_term.specs.declared.stmt.Stmt.{Stmt, out-Stmt}
use Rattle.hc_term.specs.declared.stmt.Stmt.TheOpen.{Stmt-F}
use Rattle.hc_term.specs.declared.model.Mark.{Mark}
use Rattle.hc_term.specs.declared.model.Mark.TheVariants.{Going, Arrived}
use Rattle.hc_term.specs.declared.model.ProcessState.{ProcessState}
use Rattle.hc_term.specs.Value.{val, holds, is_fitting, is_fitting_test}
use Rattle.hc_term.specs.Profile.{is_expr}
use Rattle.hc_term.specs.Process.{Layer, bound_here, is_due}
use Rattle.hc_term.specs.declared.expr.Expr.{Expr}
use Rattle.hc_term.specs.declared.expr.Cond.{Cond}
use Rattle.hc_term.specs.declared.stmt.Io.{Io}
use Rattle.hc_term.specs.declared.stmt.Rate.{Rate}
use Rattle.hc_term.specs.declared.stmt.Branch.{Branch}
use Rattle.hc_term.specs.declared.post.Offer.{Offer}
use Rattle.hc_code.specs.declared.code.Way.{Way}
use Rattle.hc_code.specs.Kept.{ios_of}
use Rattle.hc_term.specs.Silent.{Outcome, Idle, Did, if_fit, going_step, picks_left, silent, arrives, goes_on as went_on}
use Rattle.hc_code.specs.declared.code.Instr.{Instr}
use Rattle.hc_code.specs.declared.code.Instr.TheVariants as instr
use Rattle.hc_code.specs.Kept.{is_instr}
use Rattle.hc_code.specs.Stands.{Table, At, WaysAgree, AgreesHere, Agrees}
use Rattle.hc_cast.specs.declared.stmt.CStmt.{CStmt}
use Rattle.hc_cast.specs.declared.stmt.CStmt.TheVariants as a
use Rattle.hc_cast.specs.declared.program.CProgram.{CProgram}
use Rattle.hc_cstep.specs.Locals.{Mine, Base, v_mark, v_end}
use Rattle.hc_cstep.specs.Stands.{StandsFor}
use Rattle.hc_cstep.specs.Parts.{Parts}
use Rattle.hc_cstep.specs.Words.{is, set}
use Rattle.hc_cstep.specs.Written.{goes_on, ends_waiting, going, drops, arrived, case_of}
use Rattle.hc_cstep.specs.Law.{Round}
use Rattle.hc_cstep.specs.Premises.{PartsWork, has_code, blocks_in, is_sent, is_made, case_steps, steps_of}
use Rattle.hc_cstep.proofs.Standing.{at_going}
use Rattle.hc_cstep.proofs.Forms.{round_longer, goes_round, assign_round, log_round, test_round, pick_round, going_round, arrived_round, waits_round, ends_round}
use Rattle.hc_cstep.proofs.Dropping.{drops_round}
use Rattle.hc_cstep.proofs.Sends.{offered}
use Rattle.hc_cstep.proofs.Branches.{ways_are, sent_alike, branches_alike, plain_offer, plain_offers, few_ways, all_io, all_good}
use Rattle.hc_cstep.proofs.Meets.{Plain, meets_round}
use Rattle.hc_cstep.proofs.Evolves.{evolves_round}
use Rattle.hc_cstep.proofs.EvolutionRules.{ruled_here}
use Rattle.hc_cstep.proofs.Arriving.{wait_round}

either_way : {A : Type 0} (x : Bool) (f : List A → List A) (first second : List A) → (if x then f first else f second) ≡ f (if x then first else second)
either_way true f first second = refl
either_way false f first second = refl

alone : (x : Bool) → (x && true) ≡ x
alone true = refl
alone false = refl

more_steps : (n l k : ℕ) → l ≤ k → steps_of n l ≤ steps_of n k
more_steps n zero k less = omega arith
more_steps n (suc l) zero less = absurd (omega (arith, less))
more_steps n (suc l) (suc k) less = let h = more_steps n l k (omega (arith, less)) in omega (arith, h)

joined_steps : (n a l : ℕ) → steps_of (n + 1) a + steps_of (n + 2) l ≤ steps_of (n + 2) (a + l)
joined_steps n zero l =
    let same : l ≡ zero + l = omega arith in
    subst (λ (k : ℕ). 0 + steps_of (n + 2) l ≤ steps_of (n + 2) k) same (omega arith)
joined_steps n (suc a) l =
    let h = joined_steps n a l in
    let same : suc (a + l) ≡ suc a + l = omega arith in
    subst (λ (k : ℕ). steps_of (n + 1) (suc a) + steps_of (n + 2) l ≤ steps_of (n + 2) k) same (omega (arith, h))

module _ (g : CProgram) (p : ℕ) (low : p < 64) (b : Base) (t : Table) (channels vars : ℕ) (few : vars ≤ 64) (room : ℕ) (clock : Rational) (n late most seed : ℕ) (c : Parts)
    (works : PartsWork g p n late b vars room c) where
  abbrev Case : Instr → Mine → ProcessState → Outcome → Type 0
  Case i m q o = Round g p (1 + case_steps most n late) b t vars room clock (case_of c p seed i) m q o

  made : (i : Instr) → IsTrue (is_made c most channels vars i) → IsTrue (is_instr channels vars i) × IsTrue (has_code c i) × (blocks_in i ≤ most)
  made i h =
      let parts = and_parts (is_instr channels vars i && has_code c i) (nat_le (blocks_in i) most) h in
      let front = and_parts (is_instr channels vars i) (has_code c i) parts.0 in
      (front.0, front.1, leb-true (blocks_in i) most parts.1)

  module _ (m : Mine) (head : Stmt) (rest : List Stmt) (store : List Rational) (choices : ℕ) (on : m.ok ≡ true) (goes : m.end ≡ goes_on) (small : m.most < 2 ^ 31) where
    -- ---- going

    module _ (s : StandsFor t vars room clock m (at_going (head ∷ rest) store choices)) where
      abbrev here : ProcessState
      here = at_going (head ∷ rest) store choices

      longer : (k : ℕ) (i : Instr) (o : Outcome) → k ≤ case_steps most n late → Round g p k b t vars room clock (going c p seed i) m here o →
          Round g p (case_steps most n late) b t vars room clock (going c p seed i) m here o
      longer k i o less r = round_longer g p low b t vars few room clock k (case_steps most n late) (going c p seed i) m here o less r

      -- the outcome in the words of the opened statement
      abbrev Goes : Instr → Layer → Type 0
      Goes i layer = Case i m here (going_step seed p clock here head rest layer)

      marked : (i : Instr) (o : Outcome) → case_of c p seed i ≡ a.If (is v_mark 1) (arrived p i) (Some (going c p seed i)) ∷ [] →
          Round g p (case_steps most n late) b t vars room clock (going c p seed i) m here o → Case i m here o
      marked i o e r =
          let less : 1 + (case_steps most n late) ≤ 1 + case_steps most n late = omega arith in
          subst (λ (ss : List CStmt). Round g p (1 + case_steps most n late) b t vars room clock ss m here o) (sym e)
          (
          round_longer g p low b t vars few room clock (1 + case_steps most n late) (1 + case_steps most n late) _ m here o less
          (going_round g p low b t vars few room clock (case_steps most n late) (arrived p i) (going c p seed i) m here o s.same_mark r)
          )

      -- behind the equation for the instruction
      as_goes : (i j : Instr) (layer : Layer) → i ≡ j → (IsTrue (is_made c most channels vars j) → Goes j layer) → IsTrue (is_made c most channels vars i) → Goes i layer
      as_goes i j layer e f ruled =
          subst (λ (k : Instr). Goes k layer) (sym e) (f (subst (λ (k : Instr). IsTrue (is_made c most channels vars k)) e ruled))

      -- ---- communications

      -- at one of these communications
      meets : (ways : List Way) (layer : Layer) → out-Stmt head ≡ layer → Plain g p low b vars few room n late c works t clock m head rest store choices on goes small s layer (ios_of ways) →
          IsTrue (is_made c most channels vars (instr.Meet ways)) →
          Case (instr.Meet ways) m here (if_fit (list_all (is_sent (is_fitting store)) (ios_of ways)) (arrives here zero_ℚ))
      meets ways layer l plain ruled =
          let two = made (instr.Meet ways) ruled in
          let short = few_ways channels vars (ios_of ways) two.0 in
          let less : steps_of (n + 2) (length (ios_of ways)) ≤ steps_of (n + 2) most = more_steps (n + 2) (length (ios_of ways)) most two.2 in
          marked (instr.Meet ways) (if_fit (list_all (is_sent (is_fitting store)) (ios_of ways)) (arrives here zero_ℚ)) refl
          (
          longer (steps_of (n + 2) (length (ios_of ways)) + 4) (instr.Meet ways) (if_fit (list_all (is_sent (is_fitting store)) (ios_of ways)) (arrives here zero_ℚ)) (omega (arith, less))
          (
          meets_round g p low b vars few room n late c works t clock m head rest store choices on goes small s layer (ios_of ways) l plain (omega (arith, short))
          (all_good channels vars c.is_value (ios_of ways) (all_io channels vars (ios_of ways) two.0) two.1)
          )
          )

      meets_one : (io : Io) (next : ℕ) → out-Stmt head ≡ Stmt-F.Io io → IsTrue (is_made c most channels vars (instr.Meet (record { io = io; next = next } ∷ []))) →
          Goes (instr.Meet (record { io = io; next = next } ∷ [])) (Stmt-F.Io io)
      meets_one io next l ruled =
          let ways = record { io = io; next = next } ∷ [] in
          subst (λ (x : Bool). Case (instr.Meet ways) m here (if_fit x (arrives here zero_ℚ))) (alone (is_sent (is_fitting store) io) ∙ sent_alike store io)
          (
          meets ways (Stmt-F.Io io) l (record { no_bound = refl; none_moves = refl; all_offered = ap (λ (o : Offer). o ∷ []) (sym (plain_offer store io)) }) ruled
          )

      meets_some : (ways : List Way) (branches : List Branch) → out-Stmt head ≡ Stmt-F.Choice branches → WaysAgree t rest ways branches →
          IsTrue (is_made c most channels vars (instr.Meet ways)) → Goes (instr.Meet ways) (Stmt-F.Choice branches)
      meets_some ways branches l agree ruled =
          let same = ways_are t rest ways branches agree in
          subst (λ (x : Bool). Case (instr.Meet ways) m here (if_fit x (arrives here zero_ℚ)))
          (ap (λ (is : List Io). list_all (is_sent (is_fitting store)) is) same ∙ branches_alike store branches)
          (
          meets ways (Stmt-F.Choice branches) l
          (
          record {
            no_bound = refl;
            none_moves = refl;
            all_offered = sym (ap (λ (is : List Io). map (offered (val store) (λ (e : Expr). zero_ℚ)) is) same ∙ plain_offers store branches);
          }
          )
          ruled
          )

      -- ---- evolutions

      full_store : length store ≡ vars
      full_store = let wide = s.wide in sym (ap length s.same_store) ∙ length-take-le vars m.row (omega (arith, wide, few))

      evolves_here : (rates : List Rate) (domain : Cond) (ways : List Way) (next : ℕ) (branches : List Branch) → out-Stmt head ≡ Stmt-F.Evolve rates domain branches →
          WaysAgree t rest ways branches → IsTrue (is_made c most channels vars (instr.Evolve rates domain ways next)) →
          Goes (instr.Evolve rates domain ways next) (Stmt-F.Evolve rates domain branches)
      evolves_here rates domain ways next branches l agree ruled =
          let i = instr.Evolve rates domain ways next in
          let two = made i ruled in
          let rules = ruled_here g p low b vars few room n late c works clock store full_store channels rates domain ways two.0 two.1 in
          let first : steps_of (n + 1) (length rates) + steps_of (n + 2) (length (ios_of ways)) ≤ steps_of (n + 2) (length rates + length (ios_of ways)) =
          joined_steps n (length rates) (length (ios_of ways)) in
          let second : steps_of (n + 2) (length rates + length (ios_of ways)) ≤ steps_of (n + 2) most = more_steps (n + 2) (length rates + length (ios_of ways)) most two.2 in
          marked i (going_step seed p clock here head rest (Stmt-F.Evolve rates domain branches)) refl
          (
          longer ((((steps_of (n + 1) (length rates) + steps_of (n + 2) (length (ios_of ways))) + (1 + late)) + 8) + 6) i (going_step seed p clock here head rest (Stmt-F.Evolve rates domain branches))
          (omega (arith, first, second))
          (
          evolves_round g p low b vars few room n late c works clock store full_store rates domain (ios_of ways) t m head rest choices on goes small s branches
          (ways_are t rest ways branches agree) rules.ruled rules.apart l
          )
          )

      assigned_there : (x : ℕ) (good : Bool) → IsTrue (nat_le (x + 1) vars && good) → (x < vars) × IsTrue good
      assigned_there x good h =
          let parts = and_parts (nat_le (x + 1) vars) good h in
          let less = leb-true (x + 1) vars parts.0 in
          (omega (arith, less), parts.1)

      goes_here : (i : Instr) (layer : Layer) → out-Stmt head ≡ layer → AgreesHere t i head rest layer → IsTrue (is_made c most channels vars i) → Goes i layer
      goes_here i Stmt-F.Skip l h ruled =
          as_goes i (instr.Skip h.0) Stmt-F.Skip h.1
          (
          λ r.
          marked (instr.Skip h.0) (Did None (at_going rest store choices)) refl
          (
          longer 4 (instr.Skip h.0) (Did None (at_going rest store choices)) (omega arith)
          (goes_round g p low b t vars few room clock m (head ∷ rest) store choices s goes small h.0 rest on h.2)
          )
          )
          ruled
      goes_here i (Stmt-F.Forever body) l h ruled =
          as_goes i (instr.Again h.0) (Stmt-F.Forever body) h.1
          (
          λ r.
          marked (instr.Again h.0) (Did None (at_going (body ++ head ∷ rest) store choices)) refl
          (
          longer 4 (instr.Again h.0) (Did None (at_going (body ++ head ∷ rest) store choices)) (omega arith)
          (goes_round g p low b t vars few room clock m (head ∷ rest) store choices s goes small h.0 (body ++ head ∷ rest) on h.2)
          )
          )
          ruled
      goes_here i (Stmt-F.Assign x e) l h ruled =
          as_goes i (instr.Assign x e h.0) (Stmt-F.Assign x e) h.1
          (
          λ r.
          let two = made (instr.Assign x e h.0) r in
          let parts = assigned_there x (is_expr vars e) two.0 in
          marked (instr.Assign x e h.0) (going_step seed p clock here head rest (Stmt-F.Assign x e)) refl
          (
          longer (n + 5) (instr.Assign x e h.0) (going_step seed p clock here head rest (Stmt-F.Assign x e)) (omega arith)
          (
          assign_round g p low b t vars few room clock m (head ∷ rest) store choices s goes small n x h.0 rest (c.value e) e parts.0 h.2
          (works.value m store e on s.wide s.spare s.same_store parts.1 two.1)
          )
          )
          )
          ruled
      goes_here i (Stmt-F.Log e) l h ruled =
          as_goes i (instr.Log e h.0) (Stmt-F.Log e) h.1
          (
          λ r.
          marked (instr.Log e h.0) (going_step seed p clock here head rest (Stmt-F.Log e)) refl
          (
          longer (n + 6) (instr.Log e h.0) (going_step seed p clock here head rest (Stmt-F.Log e)) (omega arith)
          (
          log_round g p low b t vars few room clock m (head ∷ rest) store choices s goes small n h.0 rest (c.value e) e h.2
          (works.value m store e on s.wide s.spare s.same_store (made (instr.Log e h.0) r).0 (made (instr.Log e h.0) r).1)
          )
          )
          )
          ruled
      goes_here i (Stmt-F.If test first second) l h ruled =
          as_goes i (instr.Test test h.0 h.1) (Stmt-F.If test first second) h.2
          (
          λ r.
          marked (instr.Test test h.0 h.1) (going_step seed p clock here head rest (Stmt-F.If test first second)) refl
          (
          longer (n + 5) (instr.Test test h.0 h.1) (going_step seed p clock here head rest (Stmt-F.If test first second)) (omega arith)
          (
          subst
          (
          λ (todo : List Stmt).
          Round g p (n + 5) b t vars room clock (going c p seed (instr.Test test h.0 h.1)) m here
          (if_fit (is_fitting_test store test) (Did None (at_going todo store choices)))
          )
          (either_way (holds store test) (λ (ss : List Stmt). ss ++ rest) first second)
          (
          test_round g p low b t vars few room clock m (head ∷ rest) store choices s goes small n h.0 h.1 (first ++ rest) (second ++ rest) (c.test test) test h.3 h.4
          (works.test m store test on s.wide s.spare s.same_store (made (instr.Test test h.0 h.1) r).0 (made (instr.Test test h.0 h.1) r).1)
          )
          )
          )
          )
          ruled
      goes_here i (Stmt-F.Loop test body) l h ruled =
          as_goes i (instr.Test test h.0 h.1) (Stmt-F.Loop test body) h.2
          (
          λ r.
          marked (instr.Test test h.0 h.1) (going_step seed p clock here head rest (Stmt-F.Loop test body)) refl
          (
          longer (n + 5) (instr.Test test h.0 h.1) (going_step seed p clock here head rest (Stmt-F.Loop test body)) (omega arith)
          (
          test_round g p low b t vars few room clock m (head ∷ rest) store choices s goes small n h.0 h.1 (body ++ head ∷ rest) rest (c.test test) test h.3 h.4
          (works.test m store test on s.wide s.spare s.same_store (made (instr.Test test h.0 h.1) r).0 (made (instr.Test test h.0 h.1) r).1)
          )
          )
          )
          ruled
      goes_here i (Stmt-F.Pick left right) l h ruled =
          as_goes i (instr.Pick h.0 h.1) (Stmt-F.Pick left right) h.2
          (
          λ r.
          marked (instr.Pick h.0 h.1) (going_step seed p clock here head rest (Stmt-F.Pick left right)) refl
          (
          longer 8 (instr.Pick h.0 h.1) (going_step seed p clock here head rest (Stmt-F.Pick left right)) (omega arith)
          (
          subst
          (
          λ (todo : List Stmt).
          Round g p 8 b t vars room clock (going c p seed (instr.Pick h.0 h.1)) m here (Did None (at_going todo store (choices + 1)))
          )
          (either_way (picks_left seed p choices) (λ (ss : List Stmt). ss ++ rest) left right)
          (
          pick_round g p low b t vars few room clock m (head ∷ rest) store choices s goes small seed h.0 h.1 (left ++ rest) (right ++ rest) on h.3 h.4
          )
          )
          )
          )
          ruled
      goes_here i (Stmt-F.Wait time) l h ruled =
          as_goes i (instr.Wait time h.0) (Stmt-F.Wait time) h.1
          (
          λ r.
          marked (instr.Wait time h.0) (going_step seed p clock here head rest (Stmt-F.Wait time)) refl
          (
          longer ((n + 7) + 6) (instr.Wait time h.0) (going_step seed p clock here head rest (Stmt-F.Wait time)) (omega arith)
          (
          wait_round g p low b t vars few room clock m head rest store choices s goes small n (c.value time) time l
          (works.value m store time on s.wide s.spare s.same_store (made (instr.Wait time h.0) r).0 (made (instr.Wait time h.0) r).1)
          )
          )
          )
          ruled
      goes_here i (Stmt-F.Io io) l h ruled =
          as_goes i (instr.Meet (record { io = io; next = h.0 } ∷ [])) (Stmt-F.Io io) h.1 (meets_one io h.0 l) ruled
      goes_here i (Stmt-F.Choice branches) l h ruled = as_goes i (instr.Meet h.0) (Stmt-F.Choice branches) h.1 (meets_some h.0 branches l h.2) ruled
      goes_here i (Stmt-F.Evolve rates domain branches) l h ruled =
          as_goes i (instr.Evolve rates domain h.0 h.1) (Stmt-F.Evolve rates domain branches) h.2 (evolves_here rates domain h.0 h.1 branches l h.3) ruled

    -- ---- arrived

    module _ (left : Rational) (s : StandsFor t vars room clock m (record { todo = head ∷ rest; store = store; choices = choices; mark = Arrived left })) where
      abbrev there : ProcessState
      there = record { todo = head ∷ rest; store = store; choices = choices; mark = Arrived left }

      -- the outcome, by the opened statement
      abbrev out : Layer → Outcome
      out layer = if is_due (bound_here store left layer) then went_on there rest else Idle

      abbrev Stays : Instr → Layer → Type 0
      Stays i layer = Case i m there (out layer)

      marked_so : (i : Instr) (o : Outcome) → case_of c p seed i ≡ a.If (is v_mark 1) (arrived p i) (Some (going c p seed i)) ∷ [] →
          Round g p (case_steps most n late) b t vars room clock (arrived p i) m there o → Case i m there o
      marked_so i o e r =
          let less : 1 + (case_steps most n late) ≤ 1 + case_steps most n late = omega arith in
          subst (λ (ss : List CStmt). Round g p (1 + case_steps most n late) b t vars room clock ss m there o) (sym e)
          (
          round_longer g p low b t vars few room clock (1 + case_steps most n late) (1 + case_steps most n late) _ m there o less
          (arrived_round g p low b t vars few room clock (case_steps most n late) (arrived p i) (going c p seed i) m there o s.same_mark r)
          )

      -- without a bound
      waits : (i : Instr) → case_of c p seed i ≡ a.If (is v_mark 1) (arrived p i) (Some (going c p seed i)) ∷ [] → arrived p i ≡ set v_end ends_waiting ∷ [] →
          Case i m there Idle
      waits i e f =
          marked_so i Idle e
          (
          round_longer g p low b t vars few room clock 1 (case_steps most n late) (arrived p i) m there Idle (omega arith)
          (
          subst (λ (ss : List CStmt). Round g p 1 b t vars room clock ss m there Idle) (sym f)
          (waits_round g p low b t vars few room clock m head rest there refl s)
          )
          )

      as_stays : (i j : Instr) (layer : Layer) → i ≡ j → Stays j layer → Stays i layer
      as_stays i j layer e r = subst (λ (k : Instr). Stays k layer) (sym e) r

      timed : (i : Instr) (next : ℕ) → case_of c p seed i ≡ a.If (is v_mark 1) (arrived p i) (Some (going c p seed i)) ∷ [] → arrived p i ≡ drops p next →
          At t next rest → Stays i (out-Stmt head)
      timed i next e f h =
          marked_so i (out (out-Stmt head)) e
          (
          round_longer g p low b t vars few room clock 9 (case_steps most n late) (arrived p i) m there (out (out-Stmt head)) (omega arith)
          (
          subst (λ (ss : List CStmt). Round g p 9 b t vars room clock ss m there (out (out-Stmt head))) (sym f)
          (drops_round g p low b t vars few room clock m head rest store choices left on goes small s next h)
          )
          )

      stays_here : (i : Instr) (layer : Layer) → out-Stmt head ≡ layer → AgreesHere t i head rest layer → Stays i layer
      stays_here i Stmt-F.Skip l h = as_stays i (instr.Skip h.0) Stmt-F.Skip h.1 (waits (instr.Skip h.0) refl refl)
      stays_here i (Stmt-F.Forever body) l h = as_stays i (instr.Again h.0) (Stmt-F.Forever body) h.1 (waits (instr.Again h.0) refl refl)
      stays_here i (Stmt-F.Assign x e) l h = as_stays i (instr.Assign x e h.0) (Stmt-F.Assign x e) h.1 (waits (instr.Assign x e h.0) refl refl)
      stays_here i (Stmt-F.Log e) l h = as_stays i (instr.Log e h.0) (Stmt-F.Log e) h.1 (waits (instr.Log e h.0) refl refl)
      stays_here i (Stmt-F.If test first second) l h =
          as_stays i (instr.Test test h.0 h.1) (Stmt-F.If test first second) h.2 (waits (instr.Test test h.0 h.1) refl refl)
      stays_here i (Stmt-F.Loop test body) l h = as_stays i (instr.Test test h.0 h.1) (Stmt-F.Loop test body) h.2 (waits (instr.Test test h.0 h.1) refl refl)
      stays_here i (Stmt-F.Pick x y) l h = as_stays i (instr.Pick h.0 h.1) (Stmt-F.Pick x y) h.2 (waits (instr.Pick h.0 h.1) refl refl)
      stays_here i (Stmt-F.Io io) l h =
          as_stays i (instr.Meet (record { io = io; next = h.0 } ∷ [])) (Stmt-F.Io io) h.1 (waits (instr.Meet (record { io = io; next = h.0 } ∷ [])) refl refl)
      stays_here i (Stmt-F.Choice branches) l h = as_stays i (instr.Meet h.0) (Stmt-F.Choice branches) h.1 (waits (instr.Meet h.0) refl refl)
      stays_here i (Stmt-F.Wait time) l h =
          as_stays i (instr.Wait time h.0) (Stmt-F.Wait time) h.1
          (subst (λ (x : Layer). Stays (instr.Wait time h.0) x) l (timed (instr.Wait time h.0) h.0 refl refl h.2))
      stays_here i (Stmt-F.Evolve rates domain branches) l h =
          as_stays i (instr.Evolve rates domain h.0 h.1) (Stmt-F.Evolve rates domain branches) h.2
          (
          subst (λ (x : Layer). Stays (instr.Evolve rates domain h.0 h.1) x) l (timed (instr.Evolve rates domain h.0 h.1) h.1 refl refl h.4)
          )

  -- ---- any configuration

  case_by : (m : Mine) (i : Instr) (todo : List Stmt) (store : List Rational) (choices : ℕ) (mark : Mark) → m.ok ≡ true → m.end ≡ goes_on → m.most < 2 ^ 31 →
      StandsFor t vars room clock m (record { todo = todo; store = store; choices = choices; mark = mark }) → Agrees t i todo → IsTrue (is_made c most channels vars i) →
      Case i m (record { todo = todo; store = store; choices = choices; mark = mark }) (silent seed p clock (record { todo = todo; store = store; choices = choices; mark = mark }))
  case_by m i [] store choices mark on goes small s h ruled =
      let q : ProcessState = record { todo = []; store = store; choices = choices; mark = mark } in
      subst (λ (k : Instr). Case k m q Idle) (sym h)
      (
      round_longer g p low b t vars few room clock 1 (1 + case_steps most n late) (case_of c p seed instr.End) m q Idle (omega arith)
      (ends_round g p low b t vars few room clock m q refl s)
      )
  case_by m i (head ∷ rest) store choices Going on goes small s h ruled = goes_here m head rest store choices on goes small s i (out-Stmt head) refl h ruled
  case_by m i (head ∷ rest) store choices (Arrived left) on goes small s h ruled = stays_here m head rest store choices on goes small left s i (out-Stmt head) refl h

  pub case_works : (m : Mine) (i : Instr) (q : ProcessState) → m.ok ≡ true → m.end ≡ goes_on → m.most < 2 ^ 31 → StandsFor t vars room clock m q → Agrees t i q.todo →
      IsTrue (is_made c most channels vars i) → Round g p (1 + case_steps most n late) b t vars room clock (case_of c p seed i) m q (silent seed p clock q)
  case_works m i q on goes small s h ruled = case_by m i q.todo q.store q.choices q.mark on goes small s h ruled
