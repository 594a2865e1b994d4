-- What becomes of a token in its role.
use Rattle.std.specs.Prelude.{◌≡◌, Some, None}
use Rattle.hc_grammar.specs.Language.{Language}
use Rattle.hc_grammar.specs.declared.language.Fault.{Fault}
use Rattle.hc_grammar.specs.declared.language.Fault.TheVariants.{Flaw, Memory}

module _ {K H A B T S R V : Type 0} (c : Language K H A B T S R V) where
  -- nothing is wrong with it, and this is what stands behind it
  pub record IsTaken (role : A) (t : T) (s : S) (v : V) (s' : S) (v' : V) : Type 0 where
    pub judged : c.reader.judge role t s ≡ None
    pub state : s' ≡ c.reader.walk.on_token role t s
    pub value : v' ≡ c.builder.on_token role t v

  -- this is wrong with it, or memory ran out
  abbrev pub IsRefused : A → T → S → Fault R → Type 0
  IsRefused role t s (Flaw r) = c.reader.judge role t s ≡ Some r
  IsRefused role t s Memory = Unit {0}
