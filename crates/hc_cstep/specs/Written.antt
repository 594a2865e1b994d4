-- The private code, written down: one loop round a flat switch, with a case for each place of the flat code.
use Rattle.std.specs.Prelude.{ℕ, List, [], ◌∷◌, ◌++◌, Some}
use Rattle.hc_code.specs.declared.code.Instr.{Instr}
use Rattle.hc_code.specs.declared.code.Instr.TheVariants as instr
use Rattle.hc_code.specs.Kept.{ios_of}
use Rattle.hc_cast.specs.declared.expr.COp.TheVariants as op
use Rattle.hc_cast.specs.declared.expr.CExpr.TheVariants as e
use Rattle.hc_cast.specs.declared.stmt.CStmt.{CStmt}
use Rattle.hc_cast.specs.declared.stmt.CCase.{CCase}
use Rattle.hc_cast.specs.declared.stmt.CStmt.TheVariants as a
use Rattle.hc_clogic.specs.Cases.{cases_from}
use Rattle.hc_cstep.specs.Locals.{v_place, v_mark, v_bounded, v_most, v_steps, v_end, v_ok, v_truth}
use Rattle.hc_cstep.specs.Stands.{the_logged, the_bound, first_scratch}
use Rattle.hc_cstep.specs.Words.{number, set, is, move, each}
use Rattle.hc_cstep.specs.Parts.{Parts}
use Rattle.hc_cstep.specs.Choosing.{picks}
use Rattle.hc_cstep.specs.Waiting.{bounds}
use Rattle.hc_cstep.specs.Sending.{all_sent, sends_value}
use Rattle.hc_cstep.specs.Evolving.{evolves}
use Rattle.hc_cstep.specs.Dropping.{is_over, leaves}

-- ---- ends

abbrev pub ends_waiting : ℕ
ends_waiting = 0

abbrev pub ends_ended : ℕ
ends_ended = 1

abbrev pub ends_logged : ℕ
ends_logged = 2

abbrev pub ends_unfit : ℕ
ends_unfit = 3

abbrev pub ends_spent : ℕ
ends_spent = 4

-- no end yet
abbrev pub goes_on : ℕ
goes_on = 5

-- ---- a step

-- v_steps = v_steps + 1;
abbrev pub counts : CStmt
counts = a.Set v_steps (e.Binary op.Add (e.Local v_steps) (number 1))

-- if (v_steps < v_most) { acts v_steps = v_steps + 1; } else { v_end = 4; }
abbrev pub allowed : List CStmt → CStmt
allowed acts = a.If (e.Binary op.Less (e.Local v_steps) (e.Local v_most)) (acts ++ counts ∷ []) (Some (set v_end ends_spent ∷ []))

-- the acts of a step, where its working values fit and it is allowed
abbrev pub commit : List CStmt → CStmt
commit acts = a.If (is v_ok 1) (allowed acts ∷ []) (Some (set v_end ends_unfit ∷ []))

-- fr_move(p, 66, p, 320); v_bounded = 1; v_mark = 1;
abbrev pub comes : ℕ → List CStmt
comes p = move p the_bound first_scratch ∷ set v_bounded 1 ∷ set v_mark 1 ∷ []

-- fr_move(p, 66, p, 320); v_bounded = v_truth; v_mark = 1;
abbrev pub begins : ℕ → List CStmt
begins p = move p the_bound first_scratch ∷ a.Set v_bounded (e.Local v_truth) ∷ set v_mark 1 ∷ []

-- ---- the case of an instruction

-- of a going process
abbrev pub going : Parts → ℕ → ℕ → Instr → List CStmt
going c p seed (instr.Skip next) = commit (set v_place next ∷ []) ∷ []
going c p seed (instr.Again next) = commit (set v_place next ∷ []) ∷ []
going c p seed (instr.Assign x value next) = c.value value ++ commit (move p x first_scratch ∷ set v_place next ∷ []) ∷ []
going c p seed (instr.Log value next) =
    c.value value ++ commit (move p the_logged first_scratch ∷ set v_end ends_logged ∷ set v_place next ∷ []) ∷ []
going c p seed (instr.Test test yes' no') =
    c.test test ++ commit (a.If (is v_truth 1) (set v_place yes' ∷ []) (Some (set v_place no' ∷ [])) ∷ []) ∷ []
going c p seed (instr.Pick left right) = commit (picks p seed left right) ∷ []
going c p seed (instr.Wait time next) = (c.value time ++ bounds p) ++ commit (comes p) ∷ []
going c p seed (instr.Meet ways) = each (all_sent (sends_value c p) 0 (ios_of ways)) ++ commit (set v_mark 1 ∷ []) ∷ []
going c p seed (instr.Evolve rates domain ways next) = evolves c p rates domain (ios_of ways) ++ commit (begins p) ∷ []
going c p seed instr.End = []

abbrev pub drops : ℕ → ℕ → List CStmt
drops p next = is_over p ++ a.If (is v_truth 1) (commit (leaves next) ∷ []) (Some (set v_end ends_waiting ∷ [])) ∷ []

-- of one that has arrived, which waits for ever but where there is a bound
abbrev pub arrived : ℕ → Instr → List CStmt
arrived p (instr.Wait value next) = drops p next
arrived p (instr.Evolve rates domain ways next) = drops p next
arrived p i = set v_end ends_waiting ∷ []

abbrev pub case_of : Parts → ℕ → ℕ → Instr → List CStmt
case_of c p seed instr.End = set v_end ends_ended ∷ []
case_of c p seed i = a.If (is v_mark 1) (arrived p i) (Some (going c p seed i)) ∷ []

-- ---- the whole

-- one for each place
abbrev pub cases_of : Parts → ℕ → ℕ → List Instr → List CCase
cases_of c p seed code = cases_from (λ (place : ℕ) (i : Instr). case_of c p seed i) 0 code

-- v_ok = 1; switch (v_place) { .. }
abbrev pub round : Parts → ℕ → ℕ → List Instr → List CStmt
round c p seed code = set v_ok 1 ∷ a.Switch (e.Local v_place) (cases_of c p seed code) [] ∷ []

abbrev pub loop : List CStmt → CStmt
loop body = a.While (is v_end goes_on) body

abbrev pub private_code : Parts → ℕ → ℕ → List Instr → List CStmt
private_code c p seed code = set v_steps 0 ∷ set v_end goes_on ∷ loop (round c p seed code) ∷ []
