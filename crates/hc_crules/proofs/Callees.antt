-- What the program knows of a callee tells what is asked of it.
use Rattle.std.proofs.Common.{◌≡◌, refl, ap, false, Option, Some, None}
use Rattle.std.specs.Prelude.{is_some}
use Rattle.std.specs.Option.{option_map}
use Rattle.hc_ctoken.specs.declared.token.Lexeme.{Lexeme}
use Rattle.hc_cgrammar.specs.State as state
use Rattle.hc_cgrammar.specs.Walk.{call_of, is_set}
use Rattle.hc_cgrammar.specs.Rules.{gives}
use Rattle.hc_crules.specs.declared.named.Callee.{Callee}
use Rattle.hc_crules.specs.Callee.{callee_of}

pub is_called : (f : Option state.Signature) → is_some (option_map callee_of f) ≡ is_some f
is_called None = refl
is_called (Some f) = refl

pub gives_some : (f : Option state.Signature) (c : Callee) → Some c ≡ option_map callee_of f → c.gives ≡ gives f
gives_some None c e = absurd (cc)
gives_some (Some f) c e = let same : c ≡ callee_of f = cc in ap (λ (x : Callee). x.gives) same

pub gives_none : (f : Option state.Signature) → None ≡ option_map callee_of f → false ≡ gives f
gives_none None e = refl
gives_none (Some f) e = absurd (cc)

abbrev pub begun_with : Lexeme → Callee → state.Call
begun_with l c = record { arity = c.arity; is_set = is_set l; commas = 0; arguments = 0; third = state.nothing }

pub begun_some : (l : Lexeme) (f : Option state.Signature) (c : Callee) → Some c ≡ option_map callee_of f
    → Some (begun_with l c) ≡ option_map (call_of l) f
begun_some l None c e = absurd (cc)
begun_some l (Some f) c e = let same : c ≡ callee_of f = cc in ap (λ (x : Callee). Some (begun_with l x)) same

pub begun_none : (l : Lexeme) (f : Option state.Signature) → None ≡ option_map callee_of f → None ≡ option_map (call_of l) f
begun_none l None e = refl
begun_none l (Some f) e = absurd (cc)
