-- The code of a process that keeps the rules is made of what there is code for.
use Rattle.std.specs.Prelude.{◌≡◌, ◌≤◌, ℕ, ◌+◌, Bool, true, ◌&&◌, nat_le, nat_lt, List, length, replicate, IsTrue}
use Rattle.std.specs.List.{list_all}
use Rattle.std.proofs.Common.{refl, sym, subst, arith}
use Rattle.std.proofs.lemmas.Bool.{and_parts, and_from, le-leb, ltb-true, lt-ltb}
use Rattle.std.proofs.lemmas.List.{length-replicate}
use Rattle.hc_rational.specs.Words.{zero_ℚ}
use Rattle.hc_term.specs.declared.expr.Expr.{Expr}
use Rattle.hc_term.specs.declared.expr.Cond.{Cond}
use Rattle.hc_term.specs.declared.stmt.Io.{Io}
use Rattle.hc_term.specs.declared.stmt.Io.TheVariants.{Send, Receive}
use Rattle.hc_term.specs.declared.stmt.Rate.{Rate}
use Rattle.hc_term.specs.declared.stmt.Stmt.{Stmt}
use Rattle.hc_term.specs.EndMoment.{is_domain}
use Rattle.hc_term.specs.Profile.{is_expr, is_cond, is_io, pattern_of, are_rates, is_moving_domain, sends_affine, is_evolution, are_guards}
use Rattle.hc_term.specs.Rules.{is_stmt}
use Rattle.hc_code.specs.declared.code.Way.{Way}
use Rattle.hc_code.specs.declared.code.Instr.{Instr}
use Rattle.hc_code.specs.declared.code.Instr.TheVariants as instr
use Rattle.hc_code.specs.Kept.{ios_of, is_instr, KeepsRules}
use Rattle.hc_step.proofs.Evolves.{all_weaker, evolves}
use Rattle.hc_cstep.specs.Parts.{Parts}
use Rattle.hc_cstep.specs.Premises.{is_sent, has_code, blocks_in, is_made, in_range}
pub use Rattle.hc_cstep.specs.Premises.{HasAll, most_blocks}
use Rattle.hc_cstep.specs.Laws.{RuledCodeIsMade}
use Rattle.hc_cstep.proofs.Branches.{few_ways, all_io}

module _ (c : Parts) (channels vars : ℕ) (few : vars ≤ 64) (all : HasAll c vars) where
  sent_one : (f : Expr → Bool) → ((e : Expr) → IsTrue (is_expr vars e) → IsTrue (f e)) → (io : Io) → IsTrue (is_io channels vars io) → IsTrue (is_sent f io)
  sent_one f h (Send channel value) k = h value (and_parts (nat_lt channel channels) (is_expr vars value) k).1
  sent_one f h (Receive channel variable) k = refl

  sent_all : (f : Expr → Bool) → ((e : Expr) → IsTrue (is_expr vars e) → IsTrue (f e)) → (ios : List Io) → IsTrue (are_guards channels vars ios) → IsTrue (list_all (is_sent f) ios)
  sent_all f h ios k = all_weaker (is_io channels vars) (is_sent f) (sent_one f h) ios (all_io channels vars ios k)

  made_from : (i : Instr) → IsTrue (is_instr channels vars i) → IsTrue (has_code c i) → blocks_in i ≤ most_blocks → IsTrue (is_made c most_blocks channels vars i)
  made_from i h k less =
      and_from (is_instr channels vars i && has_code c i) (nat_le (blocks_in i) most_blocks) (and_from (is_instr channels vars i) (has_code c i) h k) (le-leb (blocks_in i) most_blocks less)

  evolution_made : (rates : List Rate) (domain : Cond) (ways : List Way) (next : ℕ) → IsTrue (is_instr channels vars (instr.Evolve rates domain ways next)) →
      IsTrue (is_made c most_blocks channels vars (instr.Evolve rates domain ways next))
  evolution_made rates domain ways next h =
      let ios = ios_of ways in
      let two = and_parts (is_evolution vars rates domain ios) (are_guards channels vars ios) h in
      let store = replicate vars zero_ℚ in
      let same : length store ≡ vars = length-replicate vars zero_ℚ in
      let known = evolves store rates domain ways (subst (λ (k : ℕ). IsTrue (is_evolution k rates domain ios)) (sym same) two.0) in
      let valued = subst (λ (k : ℕ). IsTrue (list_all (λ (r : Rate). is_expr k r.value) rates)) same known.valued in
      let parts = and_parts (are_rates vars (pattern_of vars rates) rates && is_moving_domain vars (pattern_of vars rates) domain) (list_all (sends_affine (pattern_of vars rates)) ios) two.0 in
      let moving = (and_parts (are_rates vars (pattern_of vars rates) rates) (is_moving_domain vars (pattern_of vars rates) domain) parts.0).1 in
      let short = few_ways channels vars ios two.1 in
      let few_here = known.few in
      made_from (instr.Evolve rates domain ways next) h
      (
      and_from (list_all (λ (r : Rate). c.is_value r.value) rates && list_all (is_sent c.is_line) ios) (c.is_end domain)
      (
      and_from (list_all (λ (r : Rate). c.is_value r.value) rates) (list_all (is_sent c.is_line) ios)
      (all_weaker (λ (r : Rate). is_expr vars r.value) (λ (r : Rate). c.is_value r.value) (λ r k. all.values r.value k) rates valued) (sent_all c.is_line all.lines ios two.1)
      )
      (all.ends domain (and_parts (is_cond vars domain) (is_domain (pattern_of vars rates) domain) moving).0)
      )
      (omega (arith, short, few_here, same, few))

  pub instr_made : (i : Instr) → is_instr channels vars i ≡ true → is_made c most_blocks channels vars i ≡ true
  instr_made (instr.Assign x e next) h =
      made_from (instr.Assign x e next) h (all.values e (and_parts (nat_le (x + 1) vars) (is_expr vars e) h).1) (omega arith)
  instr_made (instr.Log e next) h = made_from (instr.Log e next) h (all.values e h) (omega arith)
  instr_made (instr.Wait e next) h = made_from (instr.Wait e next) h (all.values e h) (omega arith)
  instr_made (instr.Test e yes' no') h = made_from (instr.Test e yes' no') h (all.tests e h) (omega arith)
  instr_made (instr.Meet ways) h =
      let short = few_ways channels vars (ios_of ways) h in
      made_from (instr.Meet ways) h (sent_all c.is_value all.values (ios_of ways) h) (omega (arith, short))
  instr_made (instr.Evolve rates domain ways next) h = evolution_made rates domain ways next h
  instr_made (instr.Skip next) h = made_from (instr.Skip next) h refl (omega arith)
  instr_made (instr.Again next) h = made_from (instr.Again next) h refl (omega arith)
  instr_made (instr.Pick left right) h = made_from (instr.Pick left right) h refl (omega arith)
  instr_made instr.End h = made_from instr.End h refl (omega arith)

  -- of a process whose statements keep the rules
  pub code_made : (body : List Stmt) (code : List Instr) → KeepsRules body code → IsTrue (list_all (is_stmt channels vars) body) → IsTrue (list_all (is_made c most_blocks channels vars) code)
  code_made body code kept ruled = all_weaker (is_instr channels vars) (is_made c most_blocks channels vars) instr_made code (kept channels vars ruled)

-- ---- and its registers are there

module _ (channels vars : ℕ) (few : vars ≤ 64) where
  pub instr_in_range : (i : Instr) → is_instr channels vars i ≡ true → in_range i ≡ true
  instr_in_range (instr.Meet ways) h = let short = few_ways channels vars (ios_of ways) h in le-leb (length (ios_of ways)) 64 (omega (arith, short))
  instr_in_range (instr.Evolve rates domain ways next) h =
      let two = and_parts (is_evolution vars rates domain (ios_of ways)) (are_guards channels vars (ios_of ways)) h in
      let short = few_ways channels vars (ios_of ways) two.1 in
      let store = replicate vars zero_ℚ in
      let same : length store ≡ vars = length-replicate vars zero_ℚ in
      let known = evolves store rates domain ways (subst (λ (k : ℕ). IsTrue (is_evolution k rates domain (ios_of ways))) (sym same) two.0) in
      and_from (list_all (λ (r : Rate). nat_lt r.variable 64) rates) (nat_le (length (ios_of ways)) 64)
      (
      all_weaker (λ (r : Rate). nat_lt r.variable (length store)) (λ (r : Rate). nat_lt r.variable 64)
      (λ r k. let less = ltb-true r.variable (length store) k in lt-ltb r.variable 64 (omega (arith, less, same, few))) rates known.in_range
      )
      (le-leb (length (ios_of ways)) 64 (omega (arith, short)))
  instr_in_range (instr.Assign x e next) h = refl
  instr_in_range (instr.Log e next) h = refl
  instr_in_range (instr.Wait e next) h = refl
  instr_in_range (instr.Test e yes' no') h = refl
  instr_in_range (instr.Skip next) h = refl
  instr_in_range (instr.Again next) h = refl
  instr_in_range (instr.Pick left right) h = refl
  instr_in_range instr.End h = refl

  pub code_in_range : (body : List Stmt) (code : List Instr) → KeepsRules body code → IsTrue (list_all (is_stmt channels vars) body) → IsTrue (list_all in_range code)
  code_in_range body code kept ruled = all_weaker (is_instr channels vars) in_range instr_in_range code (kept channels vars ruled)

pub ruled_code_is_made : RuledCodeIsMade
ruled_code_is_made c channels vars few all body code kept ruled = (code_made c channels vars few all body code kept ruled, code_in_range channels vars few body code kept ruled)
