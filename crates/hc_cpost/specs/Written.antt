-- The C of posting, written down: process p, of n variables and with this code, puts up what it shows.
use Rattle.std.specs.List.{list_all}
use Rattle.std.specs.Prelude.{ℕ, zero, suc, ◌+◌, ◌*◌, Bool, ◌&&◌, nat_le, nat_lt, length, List, [], ◌∷◌, ◌++◌, map, pos, Some, None, codes}
use Rattle.hc_term.specs.declared.stmt.Io.{Io}
use Rattle.hc_term.specs.declared.stmt.Io.TheVariants.{Send, Receive}
use Rattle.hc_term.specs.declared.stmt.Rate.{Rate}
use Rattle.hc_code.specs.declared.code.Instr.{Instr}
use Rattle.hc_code.specs.declared.code.Instr.TheVariants as instr
use Rattle.hc_code.specs.Kept.{ios_of}
use Rattle.hc_cast.specs.declared.expr.CExpr.{CExpr}
use Rattle.hc_cast.specs.declared.stmt.CStmt.{CStmt}
use Rattle.hc_cast.specs.declared.stmt.CCase.{CCase}
use Rattle.hc_cast.specs.declared.stmt.CStmt.TheVariants.{Set, Store, Switch}
use Rattle.hc_clogic.specs.Cases.{cases_from}
use Rattle.hc_cstep.specs.Locals.{v_place, v_mark, v_bounded, v_truth}
use Rattle.hc_cbuild.specs.Written.{number, local, equals, both, call, take_call, if_then, if_else}
use Rattle.hc_cpost.specs.Parts.{own_registers, rate_registers, all_sent_registers, code_of, rates_at, ios_at}

-- ---- parts

-- fr_move(64, 320 p + d, p, d);
abbrev pub copy : ℕ → ℕ → CStmt
copy p d = call (codes "fr_move") (number 64 ∷ number (p * 320 + d) ∷ number p ∷ number d ∷ [])

abbrev pub copies : ℕ → List ℕ → List CStmt
copies p ds = map (λ d. copy p d) ds

-- a_moves[64 p + x] = 1; of each that evolves
abbrev pub marks : ℕ → List Rate → List CStmt
marks p rates = map (λ r. Store (codes "a_moves") (number (p * 64 + r.variable)) (number 1)) rates

-- a_send[c] = code; of each that is sent, a_receive[c] = code; a_into[c] = x; of each that is received
abbrev pub code_stmts : ℕ → ℕ → Io → List CStmt
code_stmts p g (Send channel value) = Store (codes "a_send") (number channel) (number (code_of p g)) ∷ []
code_stmts p g (Receive channel variable) =
    Store (codes "a_receive") (number channel) (number (code_of p g)) ∷ Store (codes "a_into") (number channel) (number variable) ∷ []

abbrev pub all_codes : ℕ → ℕ → List Io → List CStmt
all_codes p g [] = []
all_codes p g (io ∷ ios) = code_stmts p g io ++ all_codes p (suc g) ios

abbrev pub offers : ℕ → List Io → List CStmt
offers p ios = copies p (all_sent_registers 0 ios) ++ all_codes p 0 ios

-- v_truth = fr_sign(p, 66); v_truth = v_bounded == 1 && v_truth == 0;
abbrev pub tests_over : ℕ → List CStmt
tests_over p =
    take_call v_truth (codes "fr_sign") (number p ∷ number 66 ∷ [])
    ∷ Set v_truth (both (equals (local v_bounded) (number 1)) (equals (local v_truth) (number 0)))
    ∷ []

-- nothing where the bound has run out
abbrev pub offers_unless : ℕ → List Io → CStmt
offers_unless p ios = if_else (equals (local v_truth) (number 1)) [] (offers p ios)

-- what evolves, and offers unless the bound has run out
abbrev pub evolves : ℕ → List Rate → List Io → List CStmt
evolves p rates ios = copies p (rate_registers rates) ++ (marks p rates ++ (tests_over p ++ offers_unless p ios ∷ []))

-- if (v_mark == 1) { .. }
abbrev pub where_arrived : List CStmt → List CStmt
where_arrived ss = if_then (equals (local v_mark) (number 1)) ss ∷ []

-- ---- the case of an instruction

abbrev pub show_case : ℕ → Instr → List CStmt
show_case p instr.End = Store (codes "a_phase") (number p) (number 2) ∷ []
show_case p (instr.Meet ways) = where_arrived (offers p (ios_of ways))
show_case p (instr.Evolve rates domain ways next) = where_arrived (evolves p rates (ios_of ways))
show_case p i = []

-- few branches, and rates of variables
abbrev pub is_small : Instr → Bool
is_small i = nat_le (length (ios_at i)) 32 && list_all (λ r. nat_lt r.variable 64) (rates_at i)

-- ---- the whole

-- a_bounded[p] = v_bounded; a_met[p] = 0; a_phase[p] = v_mark;
abbrev pub phases : ℕ → List CStmt
phases p =
    Store (codes "a_bounded") (number p) (local v_bounded)
    ∷ Store (codes "a_met") (number p) (number 0)
    ∷ Store (codes "a_phase") (number p) (local v_mark)
    ∷ []

-- the first place is `from`
abbrev pub show_cases : ℕ → ℕ → List Instr → List CCase
show_cases p from code = cases_from (λ (place : ℕ) (i : Instr). show_case p i) from code

abbrev pub post_code : ℕ → ℕ → List Instr → List CStmt
post_code p n code =
    call (codes "f_go") (number p ∷ [])
    ∷ (
    copies p (own_registers n) ++ (phases p ++ Switch (local v_place) (show_cases p 0 code) [] ∷ [])
    )
