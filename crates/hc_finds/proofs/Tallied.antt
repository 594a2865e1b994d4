-- What the program counts along the parts is what the limits say.
use Rattle.std.proofs.Common.{◌≡◌, ℕ, ◌+◌, ◌<◌, nat_lt, refl, ap, ap₂, sym, subst, ◌∙◌, List, [], ◌∷◌, ◌++◌, map, flat_map, take, drop, get_or, length}
use Rattle.std.proofs.lemmas.List.{drop_more, take_more, map-append}
use Rattle.std.proofs.lemmas.Grind.{flat_map-append}
use Rattle.std.proofs.lemmas.List.{append-nil}
use Rattle.hc_ast.specs.Bare.{Word}
use Rattle.hc_modules.specs.declared.flat.FlatProcess.{FlatProcess}
use Rattle.hc_modules.specs.Finds.{only_if}
use Rattle.hc_modules.specs.Found.{IsFirst}
use Rattle.hc_modules.proofs.Firsts.{first_on}
use Rattle.hc_finds.specs.declared.stop.What.TheVariants as what
use Rattle.hc_finds.specs.declared.stop.CheckStop.{CheckStop}
use Rattle.hc_finds.specs.declared.stop.CheckStop.TheVariants.{TooMany}
use Rattle.hc_finds.specs.First.{told}
use Rattle.hc_finds.specs.Names.{first_occurrences}
use Rattle.hc_finds.specs.Parts.{Part}
use Rattle.hc_finds.specs.Limits.{place_of, channels_in, variables_in, guards_beyond, channels_beyond, variables_beyond, nodes_beyond, beyond_at, beyond_along, limited_parts, channels_named, beyond_limits}
use Rattle.hc_finds.specs.Tally.{channels_over, variables_over, over_at, over_along}
use Rattle.hc_finds.proofs.Noted.{noted, noted-append, first-more}

flat_alike : {X Y : Type 0} (f g : X → List Y) → ((x : X) → f x ≡ g x) → (xs : List X) → flat_map f xs ≡ flat_map g xs
flat_alike f g e [] = refl
flat_alike f g e (x ∷ xs) = ap₂ (λ ys zs. ys ++ zs) (e x) (flat_alike f g e xs)

channels_same : (cs : List Word) (x : Part) → channels_beyond cs x ≡ channels_over (noted [] cs) x
channels_same cs x =
    flat_alike (λ c. only_if (nat_lt 256 (length (first_occurrences (cs ++ c ∷ [])))) (place_of x))
    (λ c. only_if (nat_lt 256 (length (noted (noted [] cs) (c ∷ [])))) (place_of x))
    (λ c. ap (λ names. only_if (nat_lt 256 (length names)) (place_of x)) (first-more cs (c ∷ [])))
    (channels_in x)

variables_same : (vs : List Word) (x : Part) → variables_beyond vs x ≡ variables_over (noted [] vs) x
variables_same vs x = ap (λ names. only_if (nat_lt 64 (length names)) (place_of x)) (first-more vs (variables_in x))

at_same : (cs vs : List Word) (x : Part) → beyond_at cs vs x ≡ over_at (noted [] cs) (noted [] vs) x
at_same cs vs x =
    ap₂ (λ us ws. map (TooMany what.Guards) (guards_beyond x) ++ map (TooMany what.Channels) us ++ map (TooMany what.Variables) ws
    ++ map (TooMany what.Nodes) (nodes_beyond x)) (channels_same cs x) (variables_same vs x)

pub along_same : (cs vs : List Word) (xs : List Part) → beyond_along cs vs xs ≡ over_along (noted [] cs) (noted [] vs) xs
along_same cs vs [] = refl
along_same cs vs (x ∷ xs) =
    ap₂ (λ us ws. us ++ ws) (at_same cs vs x) (along_same (cs ++ channels_in x) (vs ++ variables_in x) xs)
    ∙ ap₂ (λ us ws. over_at (noted [] cs) (noted [] vs) x ++ over_along us ws xs)
    (noted-append [] cs (channels_in x)) (noted-append [] vs (variables_in x))

-- the channels that the processes before number i name
abbrev pub named_before : List FlatProcess → ℕ → List Word
named_before ps i = flat_map channels_named (take i ps)

module _ (ps : List FlatProcess) (i : ℕ) (d : FlatProcess) (h : i < length ps) where
  pub named-more : named_before ps (i + 1) ≡ named_before ps i ++ channels_named (get_or ps i d)
  named-more =
      ap (flat_map channels_named) (take_more ps i d h)
      ∙ flat_map-append channels_named (take i ps) (get_or ps i d ∷ [])
      ∙ ap (λ xs. named_before ps i ++ xs) (append-nil (channels_named (get_or ps i d)))

  -- along the processes from number i on
  pub limits-more : beyond_limits (named_before ps i) (drop i ps)
      ≡ over_along (noted [] (named_before ps i)) [] (limited_parts (get_or ps i d)) ++ beyond_limits (named_before ps (i + 1)) (drop (i + 1) ps)
  limits-more =
      ap (beyond_limits (named_before ps i)) (drop_more ps i d h)
      ∙ ap₂ (λ us cs. us ++ beyond_limits cs (drop (i + 1) ps))
      (along_same (named_before ps i) [] (limited_parts (get_or ps i d))) (sym named-more)

  -- names that are noted further
  pub noted-more : noted [] (named_before ps (i + 1)) ≡ noted (noted [] (named_before ps i)) (channels_named (get_or ps i d))
  noted-more = ap (noted []) named-more ∙ noted-append [] (named_before ps i) (channels_named (get_or ps i d))

-- one step of the loop over processes, where these names are noted so far
module _ (ps : List FlatProcess) (i : ℕ) (d : FlatProcess) (h : i < length ps) (names : List Word) (e : names ≡ noted [] (named_before ps i)) where
  limits-now : beyond_limits [] ps ≡ beyond_limits (named_before ps i) (drop i ps)
      → beyond_limits [] ps ≡ over_along names [] (limited_parts (get_or ps i d)) ++ beyond_limits (named_before ps (i + 1)) (drop (i + 1) ps)
  limits-now so_far =
      so_far ∙ limits-more ps i d h
      ∙ ap (λ cs. over_along cs [] (limited_parts (get_or ps i d)) ++ beyond_limits (named_before ps (i + 1)) (drop (i + 1) ps)) (sym e)

  pub stop-found : (s : CheckStop) → beyond_limits [] ps ≡ beyond_limits (named_before ps i) (drop i ps)
      → IsFirst told (over_along names [] (limited_parts (get_or ps i d))) s → IsFirst told (beyond_limits [] ps) s
  stop-found s so_far first =
      subst (λ (xs : List CheckStop). IsFirst told xs s) (sym (limits-now so_far))
      (first_on told (over_along names [] (limited_parts (get_or ps i d))) (beyond_limits (named_before ps (i + 1)) (drop (i + 1) ps)) s first)

  pub limits-later : beyond_limits [] ps ≡ beyond_limits (named_before ps i) (drop i ps)
      → over_along names [] (limited_parts (get_or ps i d)) ≡ [] → beyond_limits [] ps ≡ beyond_limits (named_before ps (i + 1)) (drop (i + 1) ps)
  limits-later so_far none =
      limits-now so_far ∙ ap (λ xs. xs ++ beyond_limits (named_before ps (i + 1)) (drop (i + 1) ps)) none

  pub names-later : (new : List Word) → new ≡ noted names (channels_named (get_or ps i d)) → new ≡ noted [] (named_before ps (i + 1))
  names-later new is = is ∙ ap (λ cs. noted cs (channels_named (get_or ps i d))) e ∙ sym (noted-more ps i d h)

-- one element more on both sides
pub maps-later : {X Y Z : Type 0} (g : X → Y) (f : Z → Y) (xs : List X) (x : X) (zs : List Z) (i : ℕ) (d : Z) → i < length zs
    → map g xs ≡ map f (take i zs) → g x ≡ f (get_or zs i d) → map g (xs ++ x ∷ []) ≡ map f (take (i + 1) zs)
maps-later g f xs x zs i d h so_far one =
    map-append g xs (x ∷ []) ∙ ap₂ (λ us b. us ++ b ∷ []) so_far one
    ∙ sym (ap (map f) (take_more zs i d h) ∙ map-append f (take i zs) (get_or zs i d ∷ []))
