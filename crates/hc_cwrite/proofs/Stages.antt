-- Parts of a unit that change what stands so far: threads, strings and the table.
use Rattle.std.proofs.Common.{◌≡◌, ℕ, List, ◌∷◌, ap, sym, ◌∙◌, subst}
use Rattle.hc_grammar.specs.Texts as texts
use Rattle.hc_grammar.specs.Texts.{Read}
use Rattle.hc_grammar.specs.Reader.{Within}
use Rattle.hc_ctoken.specs.declared.token.Lexeme.{Lexeme}
use Rattle.hc_ctoken.specs.declared.token.Token.{Token}
use Rattle.hc_cgrammar.specs.declared.role.Role.{Role}
use Rattle.hc_cgrammar.specs.Leaves.{Spelled, Saying}
use Rattle.hc_cgrammar.specs.State.{State}
use Rattle.hc_cgrammar.specs.Rules.{reader}
use Rattle.hc_cspell.specs.Tokens.{Lexemes}
use Rattle.hc_cwrite.proofs.Saying.{Says, front}
use Rattle.hc_cwrite.proofs.Follows.{Frame, at, calm, frame_after, Follows, free_token, lead_token}
use Rattle.hc_cwrite.proofs.Fine.{IsFine, AreFine, IsSoundAs, AllSound}
use Rattle.hc_cwrite.proofs.Pieces.{Piece, Any}

-- tokens are those of a part that is good, and then others that say w; it leads from A to B, and is within the limits where f was
pub record Got {T : Type 0} (A B : Frame) (S : T → Spelled → Spelled) (Good : T → Type 0) (f : Spelled → Spelled) (w : Lexemes)
    (ts : List Token) : Type 0 where
  pub part : T
  pub others : List Token
  pub rest : Says w others
  pub tokens : (v : Spelled) → texts.tokens_of v ≡ others → texts.tokens_of (S part v) ≡ ts
  pub good : Good part
  pub goes : (v v' : Spelled) → Follows 0 0 B v v' → Follows 0 0 A (f v) (S part v')

-- f is within the limits in some state with the frame A
abbrev pub IsThere : Frame → Spelled → Type 0
IsThere A v = (s : State) × (e : ℕ) × Within reader v (at A e s)

-- the part f of a unit, which leads from A to B and is spelled c
pub record Stage {T : Type 0} (A B : Frame) (f : Spelled → Spelled) (c : Lexemes → Lexemes) (S : T → Spelled → Spelled)
    (Good : T → Type 0) : Type 0 where
  pub sound : (v : Spelled) → AllSound (texts.tokens_of (f v)) → AllSound (texts.tokens_of v)
  pub leads : (v : Spelled) → IsThere A (f v) → IsThere B v
  pub fine : (v : Spelled) → AllSound (texts.tokens_of (f v)) → IsThere A (f v) → (w : Lexemes) → AreFine w → AreFine (c w)
  pub reads : (v : Spelled) → AllSound (texts.tokens_of (f v)) → IsThere A (f v) → (w : Lexemes) (ts : List Token) → Says (c w) ts
      → Got A B S Good f w ts

pub from_piece : {T : Type 0} {f : Spelled → Spelled} {c : Lexemes → Lexemes} {S : T → Spelled → Spelled} {G : T → Type 0} (a : Frame)
    → Piece f c S G → Stage (calm a) (calm a) f c S G
from_piece a p = record {
  sound = p.sound;
  leads = λ v x. (p.leads a v).run x.0 x.1 x.2;
  fine = λ v s x w h. p.fine v s w h;
  reads = λ v s x w ts h.
      let y = p.reads v s w ts h in
      record {
        part = y.part;
        others = y.others;
        rest = y.rest;
        tokens = y.tokens;
        good = y.good;
        goes = λ v v' i. y.goes a v v' i;
      };
}

pub next : {T U : Type 0} {A B C : Frame} {f g : Spelled → Spelled} {c d : Lexemes → Lexemes} {S : T → Spelled → Spelled}
    {R : U → Spelled → Spelled} {G : T → Type 0} {H : U → Type 0} → Stage A B f c S G → Stage B C g d R H
    → Stage {T = T × U} A C (λ v. f (g v)) (λ w. c (d w)) (λ x v. S x.0 (R x.1 v)) (λ x. G x.0 × H x.1)
next {f = f} {g = g} {c = c} {d = d} {S = S} {R = R} p q = record {
  sound = λ v s. q.sound v (p.sound (g v) s);
  leads = λ v x. q.leads v (p.leads (g v) x);
  fine = λ v s x w h. p.fine (g v) s x (d w) (q.fine v (p.sound (g v) s) (p.leads (g v) x) w h);
  reads = λ v s i w ts h.
      let x = p.reads (g v) s i (d w) ts h in
      let y = q.reads v (p.sound (g v) s) (p.leads (g v) i) w x.others x.rest in
      record {
        part = (x.part, y.part);
        others = y.others;
        rest = y.rest;
        tokens = λ v e. x.tokens (R y.part v) (y.tokens v e);
        good = (x.good, y.good);
        goes = λ v v' f'. x.goes (g v) (R y.part v') (y.goes v v' f');
      };
}

pub as_stage : {T U : Type 0} {A B : Frame} {f : Spelled → Spelled} {c : Lexemes → Lexemes} {S : T → Spelled → Spelled} {G : T → Type 0}
    (h : T → U) (d : Lexemes → Lexemes) (R : U → Spelled → Spelled) (H : U → Type 0)
    → ((x : T) (v : Spelled) → R (h x) v ≡ S x v) → ((w : Lexemes) → d w ≡ c w) → ((x : T) → G x → H (h x))
    → Stage A B f c S G → Stage A B f d R H
as_stage {A = A} {f = f} {c = c} {S = S} h d R H spelled same good p = record {
  sound = p.sound;
  leads = p.leads;
  fine = λ v s i w fine. subst AreFine (sym (same w)) (p.fine v s i w fine);
  reads = λ v s i w ts says.
      let P : Lexemes → Type 0 = λ w. Says w ts in
      let x = p.reads v s i w ts (subst P (same w) says) in
      record {
        part = h x.part;
        others = x.others;
        rest = x.rest;
        tokens = λ v e. ap texts.tokens_of (spelled x.part v) ∙ x.tokens v e;
        good = good x.part x.good;
        goes = λ v v' f'.
            let Q : Spelled → Type 0 = λ u. Follows 0 0 A (f v) u in
            subst Q (sym (spelled x.part v')) (x.goes v v' f');
      };
}

-- what is known of a part that is within the limits
pub given : {T : Type 0} {A B : Frame} {f : Spelled → Spelled} {c : Lexemes → Lexemes} {S : T → Spelled → Spelled} {G : T → Type 0}
    (F : Type 0) → ((v : Spelled) → IsThere A (f v) → F)
    → ((v : Spelled) → AllSound (texts.tokens_of (f v)) → AllSound (texts.tokens_of v))
    → (F → Stage A B f c S G) → Stage A B f c S G
given F fact sound p = record {
  sound = sound;
  leads = λ v i. (p (fact v i)).leads v i;
  fine = λ v s i w h. (p (fact v i)).fine v s i w h;
  reads = λ v s i w ts h. (p (fact v i)).reads v s i w ts h;
}

-- a token that says just this
pub token_at : (role : Role) (l : Lexeme) (t : Token) (A B : Frame) → t.lexeme ≡ l → frame_after role l A ≡ B → (IsSoundAs l → IsFine l)
    → Stage {T = Saying l} A B (λ v. Read t role ∷ v) (λ w. l ∷ w) (λ u v. Read u.0 role ∷ v) Any
token_at role l t A B is leads fine = record {
  sound = λ v s. s.1;
  leads = λ v x.
      let P : Frame → Type 0 = λ b. IsThere b v in
      subst P (ap (λ l. frame_after role l A) is ∙ leads) ((lead_token role t A v).run x.0 x.1 x.2);
  fine = λ v s i w h. (fine (subst IsSoundAs is s.0), h);
  reads = λ v s i w ts h. record {
    part = (h.first, h.is);
    others = h.others;
    rest = h.rest;
    tokens = λ v e. front h e;
    good = tt;
    goes = λ v v' f.
        let P : Frame → Type 0 = λ b. Follows 0 0 b v v' in
        free_token role t h.first l A v v' is h.is (subst P (sym leads) f);
  };
}
