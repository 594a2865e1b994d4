-- Where nothing goes beyond the limits: guards and nodes of each part, and how many channels and variables there are.
use Rattle.std.proofs.Common.{◌≡◌, sym, subst, ℕ, ◌≤◌, nat_lt, List, [], ◌∷◌, ◌++◌, map, flat_map, length, append_assoc, append-nil, arith}
use Rattle.std.proofs.lemmas.Bool.{ltb-false}
use Rattle.hc_frac.specs.declared.place.Place.{Place}
use Rattle.hc_ast.specs.Bare.{Word}
use Rattle.hc_modules.specs.declared.flat.FlatProcess.{FlatProcess}
use Rattle.hc_modules.specs.Finds.{only_if}
use Rattle.hc_modules.proofs.Induction.{Each}
use Rattle.hc_modules.proofs.Nothing.{left_empty, right_empty, unmapped_empty, not_found}
use Rattle.hc_finds.specs.declared.stop.What.TheVariants as what
use Rattle.hc_finds.specs.declared.stop.CheckStop.TheVariants.{TooMany}
use Rattle.hc_finds.specs.Parts.{Part, assign, compute, test, communicate, rate, domain, guard}
use Rattle.hc_finds.specs.Names.{first_occurrences}
use Rattle.hc_finds.specs.Limits.{place_of, channel_of, channels_in, variables_in, guards_beyond, nodes_beyond, channels_beyond, variables_beyond, beyond_at, beyond_along, beyond_limits, limited_parts, channels_named, variables_of}

-- nothing is found at a part, where these stand before: its guards, channels, variables and nodes
record IsWithin (cs vs : List Word) (x : Part) : Type 0 where
  pub guards : guards_beyond x ≡ []
  pub channels : channels_beyond cs x ≡ []
  pub variables : variables_beyond vs x ≡ []
  pub nodes : nodes_beyond x ≡ []

within : (cs vs : List Word) (x : Part) → beyond_at cs vs x ≡ [] → IsWithin cs vs x
within cs vs x e =
    let gs = map (TooMany what.Guards) (guards_beyond x) in
    let us = map (TooMany what.Channels) (channels_beyond cs x) in
    let ws = map (TooMany what.Variables) (variables_beyond vs x) in
    let ns = map (TooMany what.Nodes) (nodes_beyond x) in
    let three : gs ++ us ++ ws ≡ [] = left_empty (gs ++ us ++ ws) ns e in
    let two : gs ++ us ≡ [] = left_empty (gs ++ us) ws three in
    record {
      guards = unmapped_empty (TooMany what.Guards) (guards_beyond x) (left_empty gs us two);
      channels = unmapped_empty (TooMany what.Channels) (channels_beyond cs x) (right_empty gs us two);
      variables = unmapped_empty (TooMany what.Variables) (variables_beyond vs x) (right_empty (gs ++ us) ws three);
      nodes = unmapped_empty (TooMany what.Nodes) (nodes_beyond x) (right_empty (gs ++ us ++ ws) ns e);
    }

-- a part, and those behind it
part_within : (cs vs : List Word) (x : Part) (xs : List Part) → beyond_along cs vs (x ∷ xs) ≡ [] → IsWithin cs vs x
part_within cs vs x xs e =
    within cs vs x (left_empty (beyond_at cs vs x) (beyond_along (cs ++ channels_in x) (vs ++ variables_in x) xs) e)

parts_within : (cs vs : List Word) (x : Part) (xs : List Part) → beyond_along cs vs (x ∷ xs) ≡ []
    → beyond_along (cs ++ channels_in x) (vs ++ variables_in x) xs ≡ []
parts_within cs vs x xs e = right_empty (beyond_at cs vs x) (beyond_along (cs ++ channels_in x) (vs ++ variables_in x) xs) e

pub few_guards : (cs vs : List Word) (xs : List Part) → beyond_along cs vs xs ≡ [] → Each (λ x. guards_beyond x ≡ []) xs
few_guards cs vs [] e = tt
few_guards cs vs (x ∷ xs) e =
    ((part_within cs vs x xs e).guards, few_guards (cs ++ channels_in x) (vs ++ variables_in x) xs (parts_within cs vs x xs e))

pub few_nodes : (cs vs : List Word) (xs : List Part) → beyond_along cs vs xs ≡ [] → Each (λ x. nodes_beyond x ≡ []) xs
few_nodes cs vs [] e = tt
few_nodes cs vs (x ∷ xs) e =
    ((part_within cs vs x xs e).nodes, few_nodes (cs ++ channels_in x) (vs ++ variables_in x) xs (parts_within cs vs x xs e))

-- this many names at most
abbrev AtMost : ℕ → List Word → Type 0
AtMost n ws = length (first_occurrences ws) ≤ n

-- names, then those of one element, then those of others
behind : (n : ℕ) (us vs ws : List Word) → AtMost n ((us ++ vs) ++ ws) → AtMost n (us ++ (vs ++ ws))
behind n us vs ws h = subst (AtMost n) (append_assoc us vs ws) h

-- one name more
one_more : (cs : List Word) (c : Word) (p : Place)
    → flat_map (λ c. only_if (nat_lt 256 (length (first_occurrences (cs ++ c ∷ [])))) p) (c ∷ []) ≡ [] → AtMost 256 (cs ++ c ∷ [])
one_more cs c p e =
    ltb-false 256 (length (first_occurrences (cs ++ c ∷ [])))
    (not_found (nat_lt 256 (length (first_occurrences (cs ++ c ∷ [])))) p
    (left_empty (only_if (nat_lt 256 (length (first_occurrences (cs ++ c ∷ [])))) p) [] e))

no_more : (n : ℕ) (cs : List Word) → AtMost n cs → AtMost n (cs ++ [])
no_more n cs h = subst (AtMost n) (sym (append-nil cs)) h

channels_at : (cs : List Word) (x : Part) → AtMost 256 cs → channels_beyond cs x ≡ [] → AtMost 256 (cs ++ channels_in x)
channels_at cs (assign p x a) h e = no_more 256 cs h
channels_at cs (compute p a) h e = no_more 256 cs h
channels_at cs (test p c) h e = no_more 256 cs h
channels_at cs (communicate p i) h e = one_more cs (channel_of i) p e
channels_at cs (rate all earlier r) h e = no_more 256 cs h
channels_at cs (domain rs p c) h e = no_more 256 cs h
channels_at cs (guard rs earlier p i) h e = one_more cs (channel_of i) p e

channels_along : (cs vs : List Word) (xs : List Part) → AtMost 256 cs → beyond_along cs vs xs ≡ []
    → AtMost 256 (cs ++ flat_map channels_in xs)
channels_along cs vs [] h e = no_more 256 cs h
channels_along cs vs (x ∷ xs) h e =
    behind 256 cs (channels_in x) (flat_map channels_in xs)
    (channels_along (cs ++ channels_in x) (vs ++ variables_in x) xs
    (channels_at cs x h (part_within cs vs x xs e).channels) (parts_within cs vs x xs e))

variables_along : (cs vs : List Word) (xs : List Part) → AtMost 64 vs → beyond_along cs vs xs ≡ []
    → AtMost 64 (vs ++ flat_map variables_in xs)
variables_along cs vs [] h e = no_more 64 vs h
variables_along cs vs (x ∷ xs) h e =
    behind 64 vs (variables_in x) (flat_map variables_in xs)
    (variables_along (cs ++ channels_in x) (vs ++ variables_in x) xs
    (ltb-false 64 (length (first_occurrences (vs ++ variables_in x)))
    (not_found (nat_lt 64 (length (first_occurrences (vs ++ variables_in x)))) (place_of x) (part_within cs vs x xs e).variables))
    (parts_within cs vs x xs e))

-- ---- along the processes

pub process_within : (cs : List Word) (p : FlatProcess) (ps : List FlatProcess) → beyond_limits cs (p ∷ ps) ≡ [] → beyond_along cs [] (limited_parts p) ≡ []
process_within cs p ps e = left_empty (beyond_along cs [] (limited_parts p)) (beyond_limits (cs ++ channels_named p) ps) e

pub rest_within : (cs : List Word) (p : FlatProcess) (ps : List FlatProcess) → beyond_limits cs (p ∷ ps) ≡ []
    → beyond_limits (cs ++ channels_named p) ps ≡ []
rest_within cs p ps e = right_empty (beyond_along cs [] (limited_parts p)) (beyond_limits (cs ++ channels_named p) ps) e

pub channels_over : (cs : List Word) (ps : List FlatProcess) → AtMost 256 cs → beyond_limits cs ps ≡ []
    → AtMost 256 (cs ++ flat_map channels_named ps)
channels_over cs [] h e = no_more 256 cs h
channels_over cs (p ∷ ps) h e =
    behind 256 cs (channels_named p) (flat_map channels_named ps)
    (channels_over (cs ++ channels_named p) ps (channels_along cs [] (limited_parts p) h (process_within cs p ps e)) (rest_within cs p ps e))

pub variables_over : (cs : List Word) (ps : List FlatProcess) → beyond_limits cs ps ≡ [] → Each (λ p. length (variables_of p) ≤ 64) ps
variables_over cs [] e = tt
variables_over cs (p ∷ ps) e =
    (variables_along cs [] (limited_parts p) (omega arith) (process_within cs p ps e), variables_over (cs ++ channels_named p) ps (rest_within cs p ps e))
