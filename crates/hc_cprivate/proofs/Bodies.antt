-- What a process that keeps the rules has for its body, and that the body takes its silent steps.
use Rattle.std.specs.Prelude.{◌≡◌, ◌<◌, ◌≤◌, ℕ, ◌+◌, ◌*◌, ◌^◌, ◌&&◌, Bool, true, nat_le, List, [], ◌∷◌, ◌++◌, length, IsTrue}
use Rattle.std.specs.List.{list_all}
use Rattle.std.proofs.Common.{refl, sym, ap, ◌∙◌, subst, arith}
use Rattle.std.proofs.lemmas.Bool.{and_parts, leb-true}
use Rattle.std.proofs.lemmas.List.{length-append}
use Rattle.hc_limits.specs.Limits.{most_nodes, most_variables, most_statements}
use Rattle.hc_term.specs.declared.system.Process.{Process}
use Rattle.hc_term.specs.Event.{progress}
use Rattle.hc_term.specs.Rules.{is_stmt, is_process, body_statements}
use Rattle.hc_code.specs.declared.code.Instr.{Instr}
use Rattle.hc_code.specs.declared.code.Instr.TheVariants as instr
use Rattle.hc_code.specs.Kept.{is_instr, KeepsRules}
use Rattle.hc_code.specs.Stands.{HasOneEach}
use Rattle.hc_cast.specs.declared.stmt.CStmt.{CStmt}
use Rattle.hc_cstep.specs.Premises.{has_code, in_range}
use Rattle.hc_cstep.specs.Alone.{outside}
use Rattle.hc_cstep.specs.Laws.{StretchAlone}
use Rattle.hc_cstep.proofs.Alone.{private_alone}
use Rattle.hc_cstep.proofs.Made.{code_made, instr_made, instr_in_range}
use Rattle.hc_cvalue.specs.Laws.{steps_for}
use Rattle.hc_cend.specs.Searching.{search_names}
use Rattle.hc_cend.specs.Law.{enough_for}
use Rattle.hc_cprivate.specs.Whole.{parts, most_blocks}
use Rattle.hc_cprivate.specs.Body.{other_locals, machine_steps, BodiesTakeSteps}
use Rattle.hc_cprivate.proofs.Private.{parts_work, has_all, weaker, made_has}

-- ---- what its code is made of

module _ (channels : ℕ) (x : Process) (ruled : is_process channels x ≡ true) where
  pub few_variables : length x.variables ≤ 64
  few_variables =
      let first = and_parts (nat_le (length x.variables) most_variables && nat_le 1 (length x.body)) (list_all (is_stmt channels (length x.variables)) x.body) ruled in
      leb-true (length x.variables) most_variables (and_parts (nat_le (length x.variables) most_variables) (nat_le 1 (length x.body)) first.0).0

  pub ruled_body : list_all (is_stmt channels (length x.variables)) x.body ≡ true
  ruled_body = (and_parts (nat_le (length x.variables) most_variables && nat_le 1 (length x.body)) (list_all (is_stmt channels (length x.variables)) x.body) ruled).1

  pub ruled_code : (code : List Instr) → KeepsRules x.body code → list_all (is_instr channels (length x.variables)) code ≡ true
  ruled_code code kept = kept channels (length x.variables) ruled_body

module _ (p channels vars : ℕ) (few : vars ≤ 64) (code : List Instr) (ruled : list_all (is_instr channels vars) code ≡ true) where
  pub all_coded : list_all (has_code (parts p vars most_nodes)) code ≡ true
  all_coded =
      weaker (is_instr channels vars) (has_code (parts p vars most_nodes))
      (λ i h. made_has (parts p vars most_nodes) channels vars i (instr_made (parts p vars most_nodes) channels vars few (has_all p vars few) i h)) code ruled

  pub all_in_range : list_all in_range code ≡ true
  all_in_range = weaker (is_instr channels vars) in_range (instr_in_range channels vars few) code ruled

-- places are 32-bit numbers
pub short_code : (x : Process) (code : List Instr) → HasOneEach x code → body_statements x ≤ most_statements → length code < 2 ^ 32
short_code x code one few =
    let long : length code ≡ length one.front + 1 = ap length one.whole ∙ length-append one.front (instr.End ∷ []) in
    let counted = one.counted in
    omega (arith, long, counted, few)

-- ---- what it does

pub bodies_take_steps : BodiesTakeSteps
bodies_take_steps p seed channels x body low ruled made =
    let vars = length x.variables in
    let few = few_variables channels x ruled in
    let own = parts p vars most_nodes in
    let stands = made.compiled in
    record {
      table = stands.0;
      begins = stands.1.begins;
      steps =
          λ g lines wakes clock m q s small.
          subst (λ (ss : List CStmt). StretchAlone g p (machine_steps m.most) (search_names []) lines wakes stands.0 vars other_locals clock ss m (progress m.most seed p clock q))
          (sym made.statements)
          (
          private_alone g p low (search_names []) lines wakes stands.0 channels vars few other_locals clock (steps_for most_nodes) (enough_for most_nodes) most_blocks seed own
          (parts_work g p low (outside (search_names []) lines wakes) [] refl vars few other_locals (omega arith) most_nodes) made.code stands.1.agree
          (code_made own channels vars few (has_all p vars few) x.body made.code made.kept (ruled_body channels x ruled)) m q s small
          );
    }
