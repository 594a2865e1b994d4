-- What is known of a part of a text that is an expression: it is built again wherever the expression stands.
use Rattle.std.proofs.Common.{◌≡◌, ℕ, Bool, true, false, List, ◌∷◌, refl, sym, subst, arith}
use Rattle.std.specs.Prelude.{nat_lt}
use Rattle.std.proofs.lemmas.Bool.Decides.{nat_tests}
use Rattle.hc_grammar.specs.Texts as texts
use Rattle.hc_cast.specs.declared.expr.CExpr.{CExpr}
use Rattle.hc_ctoken.specs.declared.fixed.Fixed.TheVariants as fix
use Rattle.hc_ctoken.specs.declared.token.Token.{Token}
use Rattle.hc_cgrammar.specs.Leaves.{Spelled}
use Rattle.hc_cspell.specs.declared.level.Level.{Level}
use Rattle.hc_cspell.specs.declared.level.Level.TheVariants as at
use Rattle.hc_cspell.specs.Tokens.{Lexemes, fixed, only_if}
use Rattle.hc_cspell.specs.Exprs.{rank, needs_round, Spelling, standing, spelling, expr}
use Rattle.hc_cwrite.proofs.Saying.{Says}
use Rattle.hc_cwrite.proofs.Follows.{Frame, calm, Leads}
use Rattle.hc_cwrite.proofs.Fine.{AreFine, AllSound, only_if_fine}
use Rattle.hc_cwrite.proofs.Levels.{At, lower}

-- the part f of a text is the expression t, without brackets round it at levels up to c
pub record Known (c : Level) (t : CExpr) (s : Spelling) (f : Spelled → Spelled) : Type 0 where
  pub is : spelling t ≡ s
  pub sound : (v : Spelled) → AllSound (texts.tokens_of (f v)) → AllSound (texts.tokens_of v)
  pub fine : (v : Spelled) → AllSound (texts.tokens_of (f v)) → (w : Lexemes) → AreFine w → AreFine (s.tokens w)
  pub leads : (a : Frame) (v : Spelled) → Leads (calm a) (calm a) (f v) v
  pub inside : (w : Lexemes) (ts : List Token) → Says (s.tokens w) ts → At s.own t f w ts
  pub in_round : needs_round s.own c ≡ true → (w : Lexemes) (ts : List Token)
      → Says (fixed fix.OpenRound ∷ s.tokens (fixed fix.CloseRound ∷ w)) ts → At at.Unary t f w ts

abbrev pub Knows : Level → CExpr → (Spelled → Spelled) → Type 0
Knows c t f = (s : Spelling) × Known c t s f

-- levels in their order
pub irreflexive : (l : Level) → needs_round l l ≡ false
irreflexive at.Or = refl
irreflexive at.And = refl
irreflexive at.Comparison = refl
irreflexive at.Sum = refl
irreflexive at.Product = refl
irreflexive at.Unary = refl

pub never_or : (l : Level) → needs_round l at.Or ≡ false
never_or at.Or = refl
never_or at.And = refl
never_or at.Comparison = refl
never_or at.Sum = refl
never_or at.Product = refl
never_or at.Unary = refl

least_tight : (l : Level) → needs_round at.Unary l ≡ false
least_tight at.Or = refl
least_tight at.And = refl
least_tight at.Comparison = refl
least_tight at.Sum = refl
least_tight at.Product = refl
least_tight at.Unary = refl

below : (x y z : ℕ) → nat_lt x y ≡ true → nat_lt z y ≡ false → nat_lt x z ≡ true
below x y z h k = grind (arith, nat_tests)

-- it is known at lesser levels too
pub weaken : (c l : Level) (t : CExpr) (f : Spelled → Spelled) → needs_round c l ≡ false → Knows c t f → Knows l t f
weaken c l t f h (s, k) = (
  s,
  record {
    is = k.is;
    sound = k.sound;
    fine = k.fine;
    leads = k.leads;
    inside = k.inside;
    in_round = λ e w ts says. k.in_round (below (rank s.own) (rank l) (rank c) e h) w ts says;
  },
)

-- where it stands
stands_at : (c l : Level) (t : CExpr) (s : Spelling) (f : Spelled → Spelled) → Known c t s f → needs_round c l ≡ false
    → (b : Bool) → needs_round s.own l ≡ b → (w : Lexemes) (ts : List Token)
    → Says (only_if b fix.OpenRound (s.tokens (only_if b fix.CloseRound w))) ts → At l t f w ts
stands_at c l t s f k h true e w ts says =
    lower t f w ts at.Unary l (least_tight l) (k.in_round (below (rank s.own) (rank l) (rank c) e h) w ts says)
stands_at c l t s f k h false e w ts says = lower t f w ts s.own l e (k.inside w ts says)

pub at_level : (c l : Level) (t : CExpr) (f : Spelled → Spelled) → Knows c t f → needs_round c l ≡ false
    → (w : Lexemes) (ts : List Token) → Says (expr t l w) ts → At l t f w ts
at_level c l t f (s, k) h w ts says =
    let P : Spelling → Type 0 = λ s. Says (standing s l w) ts in
    stands_at c l t s f k h (needs_round s.own l) refl w ts (subst P k.is says)

pub at_own : (l : Level) (t : CExpr) (f : Spelled → Spelled) → Knows l t f
    → (w : Lexemes) (ts : List Token) → Says (expr t l w) ts → At l t f w ts
at_own l t f k w ts says = at_level l l t f k (irreflexive l) w ts says

-- its tokens can be written where it stands
pub fine_at : (c : Level) (t : CExpr) (f : Spelled → Spelled) → Knows c t f → (l : Level) (v : Spelled)
    → AllSound (texts.tokens_of (f v)) → (w : Lexemes) → AreFine w → AreFine (expr t l w)
fine_at c t f (s, k) l v sound w fine =
    let P : Spelling → Type 0 = λ s. AreFine (standing s l w) in
    let b = needs_round s.own l in
    subst P (sym k.is) (only_if_fine b fix.OpenRound _ (k.fine v sound _ (only_if_fine b fix.CloseRound w fine)))

pub sound_behind : (c : Level) (t : CExpr) (f : Spelled → Spelled) → Knows c t f → (v : Spelled)
    → AllSound (texts.tokens_of (f v)) → AllSound (texts.tokens_of v)
sound_behind c t f (s, k) v sound = k.sound v sound

pub lead_behind : (c : Level) (t : CExpr) (f : Spelled → Spelled) → Knows c t f → (a : Frame) (v : Spelled)
    → Leads (calm a) (calm a) (f v) v
lead_behind c t f (s, k) a v = k.leads a v
