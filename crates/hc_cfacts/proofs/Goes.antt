-- What is right with each token of a unit within its limits and its rules on names.
use Rattle.std.proofs.Common.{◌≡◌, refl, true, false, Bool, cond, [], ◌∷◌, None, Some}
use Rattle.hc_grammar.specs.Texts.{Read, Did, tokens_of}
use Rattle.hc_grammar.specs.Reader.{Within}
use Rattle.hc_ctoken.specs.declared.token.Lexeme.{Lexeme}
use Rattle.hc_cgrammar.specs.declared.flaw.Flaw.{Flaw}
use Rattle.hc_cgrammar.specs.declared.flaw.Flaw.TheVariants as wrong
use Rattle.hc_cgrammar.specs.declared.role.Role.{Role}
use Rattle.hc_cgrammar.specs.Leaves.{Spelled}
use Rattle.hc_cgrammar.specs.State.{State}
use Rattle.hc_cgrammar.specs.Walk.{after_token, after_mark}
use Rattle.hc_cgrammar.specs.Rules.{unfit, is_full, is_too_deep, breaks_rule, reader}
use Rattle.hc_cfacts.proofs.Sane.{IsSane, AreSane}

-- a token is right in its role
pub record Step (role : Role) (l : Lexeme) (s : State) : Type 0 where
  pub fits : unfit l s ≡ false
  pub has_room : is_full role s ≡ false
  pub ruled : breaks_rule role l s ≡ false
  pub sane : IsSane l

-- each token is
abbrev pub Goes : Spelled → State → Type 0
Goes [] s = Unit {0}
Goes (Read t role ∷ w) s = Step role t.lexeme s × Goes w (after_token role t.lexeme s)
Goes (Did b ∷ w) s = Goes w (after_mark b s)

clear : (b : Bool) (x : Flaw) → cond b (Some x) None ≡ None → b ≡ false
clear true x e = absurd (cc)
clear false x e = refl

all_clear : (a b c : Bool) (x y z : Flaw) → cond a (Some x) (cond b (Some y) (cond c (Some z) None)) ≡ None → (a ≡ false) × (c ≡ false)
all_clear true b c x y z e = absurd (cc)
all_clear false true c x y z e = absurd (cc)
all_clear false false true x y z e = absurd (cc)
all_clear false false false x y z e = (refl, refl)

pub goes : (w : Spelled) (s : State) → Within reader w s → AreSane (tokens_of w) → Goes w s
goes [] s g h = tt
goes (Read t role ∷ w) s (early, judge, g) (one, h) =
    let both = all_clear (is_full role s) (is_too_deep role s) (breaks_rule role t.lexeme s) wrong.Limit wrong.TooDeep wrong.Names judge in (
      record { fits = clear (unfit t.lexeme s) wrong.Limit early; has_room = both.0; ruled = both.1; sane = one },
      goes w (after_token role t.lexeme s) g h,
    )
goes (Did b ∷ w) s g h = goes w (after_mark b s) g h
