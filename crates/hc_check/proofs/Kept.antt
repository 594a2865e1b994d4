-- The system of an expanded source keeps the rules where nothing is found.
use Rattle.std.proofs.Common.{◌≡◌, refl, sym, subst, flat_map, ℕ, ◌≤◌, nat_le, true, IsTrue, List, [], ◌∷◌, map, length}
use Rattle.std.specs.List.{list_all}
use Rattle.std.proofs.lemmas.Bool.{le-leb}
use Rattle.std.proofs.lemmas.List.{length-map}
use Rattle.hc_ast.specs.Bare.{Word}
use Rattle.hc_term.specs.Rules.{is_process, are_few, keeps_rules}
use Rattle.hc_modules.specs.declared.flat.Flat.{Flat}
use Rattle.hc_modules.specs.declared.flat.FlatProcess.{FlatProcess}
use Rattle.hc_modules.specs.Well.{is_full, is_full_process, IsWell}
use Rattle.hc_modules.proofs.Induction.{Each}
use Rattle.hc_finds.specs.Parts.{parts_of}
use Rattle.hc_finds.specs.Limits.{channels_named, channels_of, variables_of}
use Rattle.hc_finds.specs.Refusals.{refusals}
use Rattle.hc_check.specs.Numbered.{stmt_over, process_over}
use Rattle.hc_check.proofs.Clean.{IsClean}
use Rattle.hc_check.proofs.EachLists.{both, both_parts, each_passes}
use Rattle.hc_check.proofs.RuledStatements.{statements_ruled}
use Rattle.hc_check.proofs.FromRefusals.{clean, few_channels, few_variables}
use Rattle.hc_check.proofs.Joined.{joined}
use Rattle.hc_check.proofs.SameSizes.{all_statements_same, all_sizes_same}
use Rattle.hc_check.proofs.NamesApart.{processes_apart, channels_apart}

-- a number that is within a limit
within : {n m : ℕ} (most : ℕ) → n ≡ m → m ≤ most → IsTrue (nat_le n most)
within {n} most e h = le-leb n most (subst (λ k. k ≤ most) (sym e) h)

-- a process of which few variables, a full body and clean parts are known
process_ruled : (cs : List Word) (p : FlatProcess) → length (variables_of p) ≤ 64 → IsTrue (is_full_process p)
    → Each (IsClean cs (variables_of p)) (parts_of true p.body) → IsTrue (is_process (length cs) (process_over cs p))
process_ruled cs p few full parts =
    let body = both_parts (nat_le 1 (length p.body)) (list_all is_full p.body) full in
    both (both (le-leb (length (variables_of p)) 64 few) (subst (λ n. IsTrue (nat_le 1 n)) (sym (length-map p.body (stmt_over cs (variables_of p)))) body.0))
    (statements_ruled cs (variables_of p) true p.body body.1 parts)

processes_ruled : (cs : List Word) (ps : List FlatProcess) → Each (λ p. length (variables_of p) ≤ 64) ps
    → Each (λ p. IsTrue (is_full_process p)) ps → Each (λ p. Each (IsClean cs (variables_of p)) (parts_of true p.body)) ps
    → IsTrue (list_all (is_process (length cs)) (map (process_over cs) ps))
processes_ruled cs [] few full parts = refl
processes_ruled cs (p ∷ ps) few full parts = both (process_ruled cs p few.0 full.0 parts.0) (processes_ruled cs ps few.1 full.1 parts.1)

-- processes and channels, not too many of both
few_of_both : (flat : Flat) → IsWell flat → refusals flat.processes ≡ []
    → IsTrue (are_few (map (process_over (channels_of flat.processes)) flat.processes) (channels_of flat.processes))
few_of_both flat well none =
    let same = length-map flat.processes (process_over (channels_of flat.processes)) in
    both (both (subst (λ n. IsTrue (nat_le 1 n)) (sym same) (le-leb 1 (length flat.processes) well.some)) (within 64 same well.few))
    (le-leb (length (channels_of flat.processes)) 256 (few_channels flat.processes none))

pub kept : (flat : Flat) → IsWell flat → refusals flat.processes ≡ []
    → IsTrue (keeps_rules (map (process_over (channels_of flat.processes)) flat.processes) (channels_of flat.processes))
kept flat well none =
    let cs = channels_of flat.processes in
    let ps = flat.processes in
    let apart = both (processes_apart cs ps well.apart) (channels_apart (flat_map channels_named ps)) in
    let small = both (within 10000 (all_statements_same cs ps) well.statements) (within 50000 (all_sizes_same cs ps) well.nodes) in
    let ruled = processes_ruled cs ps (few_variables ps none) (each_passes is_full_process ps well.full) (clean ps none) in
    both (both (both (few_of_both flat well none) apart) small) (both ruled (joined ps none))
