-- What reading answers, from what the machine makes of all tokens.
use Rattle.std.proofs.Common.{◌≡◌, refl, ap, sym, ◌∙◌, List, ◌∷◌, Result, Ok, Err}
use Rattle.hc_frac.specs.declared.place.Place.{Place}
use Rattle.hc_grammar.specs.Table.{Symbols}
use Rattle.hc_grammar.specs.Ends.{Ends}
use Rattle.hc_grammar.specs.Language.{Language, is_last}
use Rattle.hc_grammar.specs.Machine.{reads}
use Rattle.hc_grammar.specs.Answers.{Accepted}
use Rattle.hc_grammar.proofs.Settings.{Setting}
use Rattle.hc_grammar.proofs.Exact.{exact}
use Rattle.hc_grammar.specs.declared.language.Fault.{Fault}
use Rattle.hc_grammar.specs.declared.language.Fault.TheVariants as fault
use Rattle.hc_grammar.specs.declared.language.Fault.TheVariants.{Flaw}
use Rattle.hc_grammar.specs.declared.whole.Stop.{Stop}
use Rattle.hc_grammar.specs.declared.whole.Stop.TheVariants.{Memory}
use Rattle.hc_grammar.specs.Remaining.{Answer, remaining, Stops}
use Rattle.hc_grammar.specs.Refusals.{IsRefusedAt}
use Rattle.hc_grammar.specs.Exact.{IsExact}
use Rattle.hc_grammar.specs.Stops.{told, stop_at}

-- two refusals that are one
pub same_parts : {X Y Z : Type 0} (r : Result Z (X × Y)) (a c : X) (b d : Y) → r ≡ Err (a, b) → r ≡ Err (c, d) → (a ≡ c) × (b ≡ d)
same_parts {X} {Y} r a c b d e f =
    let p : (let x : X × Y = (a, b) in x) ≡ (c, d) = cc in (ap (λ (x : X × Y). x.0) p, ap (λ (x : X × Y). x.1) p)

pub not_both : {X Z : Type 0} (r : Result Z X) (v : Z) (x : X) → r ≡ Ok v → r ≡ Err x → ⊥
not_both r v x e f = cc

pub same_value : {X Z : Type 0} (r : Result Z X) (v w : Z) → r ≡ Ok v → r ≡ Ok w → v ≡ w
same_value r v w e f = cc

module _ {K H A B T S R V : Type 0} {c : Language K H A B T S R V} (x : Setting c) (ts : List T) (end : Ends (is_last c) ts)
    (place : T → Place) where
  -- what the machine makes of all tokens
  abbrev pub reads_all : Answer c
  reads_all = reads c ts c.start c.opening c.blank

  -- the tokens are refused so
  abbrev pub Refused : R × Place → Type 0
  Refused = IsRefusedAt c.reader x.Is c.opening place ts

  -- what an answer has to be
  abbrev pub Exact : {X : Type 0} → (X → V) → Result X (Stop R) → Type 0
  Exact value = IsExact value told (Accepted c x.Is ts) Refused

  module _ {X : Type 0} (value : X → V) where
    -- what is read to the end is right, and nothing else is
    pub all_exact : (r : X) → reads_all ≡ Ok (value r) → Exact value (Ok r)
    all_exact r e = record {
      value_is = (exact x ts end (Ok (value r))).1 e;
      refusal_is = tt;
      every_value = λ u a. same_value reads_all (value r) u e ((exact x ts end (Ok u)).0 a);
      every_refusal = λ q a. not_both reads_all (value r) (q.0, a.at) e ((exact x ts end (Err (q.0, a.at))).0 a.refusal);
    }

    -- where memory ran out, nothing is told
    pub memory_exact : Exact value (Err Memory)
    memory_exact = record { value_is = tt; refusal_is = tt; every_value = λ u a. refl; every_refusal = λ q a. tt }

    -- where reading stops for a fault of t, that is the refusal, and nothing else is right
    module _ (t : T) (p : Place) (here : p ≡ place t) where
      -- what the machine makes of all tokens, where t has this fault
      abbrev pub Faulty : Fault R → Type 0
      Faulty (Flaw r) = reads_all ≡ Err (r, t)
      Faulty fault.Memory = Unit {0}

      pub faulty : (ss : Symbols K H A B) (s : S) (v : V) (left rest : List T) → remaining c ss s v left ≡ reads_all → left ≡ t ∷ rest
          → (f : Fault R) → Stops c ss s v t f → Faulty f
      faulty ss s v left rest kept e (Flaw r) stops = sym kept ∙ ap (remaining c ss s v) e ∙ stops rest
      faulty ss s v left rest kept e fault.Memory stops = tt

      one_refusal : (r : R) → reads_all ≡ Err (r, t) → (q : R × Place) → Refused q → (r, p) ≡ q
      one_refusal r e q a =
          let (what, token) = same_parts reads_all r q.0 t a.at e ((exact x ts end (Err (q.0, a.at))).0 a.refusal) in
          λ i. (what i, (here ∙ ap place token ∙ a.place_is) i)

      pub stop_exact : (f : Fault R) → Faulty f → Exact value (Err (stop_at p f))
      stop_exact (Flaw r) e = record {
        value_is = tt;
        refusal_is = record { at = t; refusal = (exact x ts end (Err (r, t))).1 e; place_is = sym here };
        every_value = λ u a. absurd (not_both reads_all u (r, t) ((exact x ts end (Ok u)).0 a) e);
        every_refusal = λ q a. one_refusal r e q a;
      }
      stop_exact fault.Memory e = memory_exact
