-- Private code asks of its parts what stands, so its law holds with no premise on them.
use Rattle.std.specs.Prelude.{◌≡◌, ◌<◌, ◌≤◌, ℕ, ◌+◌, nat_le, Bool, true, ◌&&◌, List, [], ◌∷◌, replicate, length, None, IsTrue}
use Rattle.std.specs.List.{list_all}
use Rattle.std.proofs.Common.{refl, ◌∙◌, arith}
use Rattle.std.proofs.lemmas.Bool.{leb-true, le-leb, and_parts, and_from}
use Rattle.std.proofs.lemmas.List.{length-replicate}
use Rattle.hc_limits.specs.Limits.{most_nodes}
use Rattle.hc_rational.specs.Words.{Rational}
use Rattle.hc_term.specs.Motion.{rates_in}
use Rattle.hc_term.specs.Profile.{nodes, nodes_in, reach, reach_in, pattern_of}
use Rattle.hc_code.specs.declared.code.Instr.{Instr}
use Rattle.hc_code.specs.Kept.{is_instr}
use Rattle.hc_code.specs.Stands.{Table, AllAgree}
use Rattle.hc_cast.specs.declared.program.CProgram.{CProgram}
use Rattle.hc_cmach.specs.State.{Word}
use Rattle.hc_cstep.specs.Locals.{Base}
use Rattle.hc_cstep.specs.Stands.{first_scratch}
use Rattle.hc_cstep.specs.Parts.{Parts}
use Rattle.hc_cstep.specs.Premises.{has_code, blocks_in, is_made, case_steps, PartsWork}
use Rattle.hc_cstep.specs.Written.{private_code}
use Rattle.hc_cstep.specs.Law.{PrivateLaw}
use Rattle.hc_cstep.proofs.Counts.{stretch_within}
use Rattle.hc_cstep.proofs.Rates.{pattern_wide}
use Rattle.hc_cstep.proofs.Made.{HasAll, code_made}
use Rattle.hc_cstep.proofs.Whole.{private_law}
use Rattle.hc_cvalue.specs.Laws.{steps_for}
use Rattle.hc_cvalue.proofs.Whole.{first_room, value_works, tests_within, lines_within}
use Rattle.hc_cvalue.proofs.Whole as values
use Rattle.hc_cend.specs.Searching.{search_names}
use Rattle.hc_cend.specs.Law.{ends, enough_for}
use Rattle.hc_cprivate.specs.Whole.{parts, most_blocks, PrivateCodeStands, LimitIsEnough, PartsAreQuick}
use Rattle.hc_cend.proofs.Costs.{enough_grows, enough_is_small}
use Rattle.hc_cend.proofs.Law.{ends_longer, end_law, is_ruled}

module _ (g : CProgram) (p : ℕ) (low : p < 64) (b : Base) (more : List Word) (has : b.scratch ≡ search_names more) (vars : ℕ) (few : vars ≤ 64) (room : ℕ) (spare : 8 ≤ room) (k : ℕ) where
  -- all parts, for expressions and conditions of at most k nodes
  pub parts_work : PartsWork g p (steps_for k) (enough_for k) b vars room (parts p vars k)
  parts_work = record {
    value =
        λ m s e on wide kept store ruled small.
        value_works g p low k (steps_for k) (omega arith) b vars few m s e on wide store ruled (leb-true (nodes e) k small);
    test =
        λ m s c on wide kept store ruled small.
        tests_within g p low k (steps_for k) (omega arith) b vars few first_scratch m s c first_room on wide store ruled (leb-true (nodes_in c) k small);
    line =
        λ m s rates e on wide kept store held ruled affine small.
        lines_within g p low k (steps_for k) (omega arith) b vars few first_scratch m s (pattern_of vars rates) (rates_in rates s) e first_room on wide store held ruled affine
        (leb-true (nodes e) k (and_parts (nat_le (nodes e) k) (nat_le (reach e) 64) small).0);
    ends =
        λ m s rates c on wide kept store held ruled moving small.
        let less = leb-true (nodes_in c) k (and_parts (nat_le (nodes_in c) k) (nat_le (reach_in c) 64) small).0 in
        let long : length (pattern_of vars rates) ≡ vars = pattern_wide rates (replicate vars None) ∙ length-replicate vars None in
        ends_longer g p (enough_for (nodes_in c)) (enough_for k) b (ends p (pattern_of vars rates) c) m s (rates_in rates s) c
        (enough_grows (nodes_in c) k less)
        (end_law g p low b more has vars few room spare m s (pattern_of vars rates) (rates_in rates s) c on wide kept store long held ruled moving);
  }

  -- so the law of private code holds, for code whose expressions and conditions have at most k nodes
  pub private_within : (t : Table) (channels : ℕ) (clock : Rational) (seed most : ℕ) (code : List Instr) → AllAgree t code t →
      IsTrue (list_all (is_made (parts p vars k) most channels vars) code) →
      PrivateLaw g p (case_steps most (steps_for k) (enough_for k) + 3) seed b t vars room clock (private_code (parts p vars k) p seed code)
  private_within t channels clock seed most code agree made =
      private_law g p low b t channels vars few room clock (steps_for k) (enough_for k) most seed (parts p vars k) parts_work code agree made

-- the limit of nodes is enough for all that keep the rules
pub has_all : (p vars : ℕ) → vars ≤ 64 → HasAll (parts p vars most_nodes) vars
has_all p vars few = record {
  values = λ e h. le-leb (nodes e) most_nodes (values.is_ruled vars e h).few;
  tests = λ c h. le-leb (nodes_in c) most_nodes (is_ruled vars c h).few;
  lines =
      λ e h. let r = values.is_ruled vars e h in let reaches = r.reaches in
      and_from (nat_le (nodes e) most_nodes) (nat_le (reach e) 64) (le-leb (nodes e) most_nodes r.few) (le-leb (reach e) 64 (omega (arith, reaches, few)));
  ends =
      λ c h. let r = is_ruled vars c h in let reaches = r.reaches in
      and_from (nat_le (nodes_in c) most_nodes) (nat_le (reach_in c) 64) (le-leb (nodes_in c) most_nodes r.few) (le-leb (reach_in c) 64 (omega (arith, reaches, few)));
}

-- what is known of each instruction, in two tests
module _ (f h : Instr → Bool) (step : (i : Instr) → f i ≡ true → h i ≡ true) where
  pub weaker : (code : List Instr) → list_all f code ≡ true → list_all h code ≡ true
  weaker [] e = refl
  weaker (i ∷ code) e =
      let both = and_parts (f i) (list_all f code) e in
      and_from (h i) (list_all h code) (step i both.0) (weaker code both.1)

module _ (f h k : Instr → Bool) (step : (i : Instr) → f i ≡ true → h i ≡ true → k i ≡ true) where
  together : (code : List Instr) → list_all f code ≡ true → list_all h code ≡ true → list_all k code ≡ true
  together [] e u = refl
  together (i ∷ code) e u =
      let first = and_parts (f i) (list_all f code) e in
      let second = and_parts (h i) (list_all h code) u in
      and_from (k i) (list_all k code) (step i first.0 second.0) (together code first.1 second.1)

pub made_has : (c : Parts) (channels vars : ℕ) (i : Instr) → is_made c most_blocks channels vars i ≡ true → has_code c i ≡ true
made_has c channels vars i h =
    let one = and_parts (is_instr channels vars i && has_code c i) (nat_le (blocks_in i) most_blocks) h in
    (and_parts (is_instr channels vars i) (has_code c i) one.0).1

made_other : (c d : Parts) (channels vars : ℕ) (i : Instr) → is_made c most_blocks channels vars i ≡ true → has_code d i ≡ true → is_made d most_blocks channels vars i ≡ true
made_other c d channels vars i h k =
    let one = and_parts (is_instr channels vars i && has_code c i) (nat_le (blocks_in i) most_blocks) h in
    let kept = (and_parts (is_instr channels vars i) (has_code c i) one.0).0 in
    and_from (is_instr channels vars i && has_code d i) (nat_le (blocks_in i) most_blocks) (and_from (is_instr channels vars i) (has_code d i) kept k) one.1

pub limit_is_enough : LimitIsEnough
limit_is_enough p channels vars few body code kept ruled =
    weaker (is_made (parts p vars most_nodes) most_blocks channels vars) (has_code (parts p vars most_nodes)) (made_has (parts p vars most_nodes) channels vars) code
    (code_made (parts p vars most_nodes) channels vars few (has_all p vars few) body code kept ruled)

pub private_code_stands : PrivateCodeStands
private_code_stands g p low b more has t channels vars few room spare clock seed k body code agree kept ruled short =
    private_within g p low b more has vars few room spare k t channels clock seed most_blocks code agree
    (
    together (is_made (parts p vars most_nodes) most_blocks channels vars) (has_code (parts p vars k)) (is_made (parts p vars k) most_blocks channels vars)
    (made_other (parts p vars most_nodes) (parts p vars k) channels vars) code
    (code_made (parts p vars most_nodes) channels vars few (has_all p vars few) body code kept ruled) short
    )

pub parts_are_quick : PartsAreQuick
parts_are_quick k z m le large =
    stretch_within z most_blocks (steps_for k) (enough_for k) m
    (record { size = large; blocks = omega arith; values = omega (arith, le, large); ends = enough_is_small k z le large })
