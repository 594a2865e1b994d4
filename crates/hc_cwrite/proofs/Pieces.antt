-- Parts of a text that are built again out of other tokens, those that say how the part is spelled.
use Rattle.std.proofs.Common.{◌≡◌, List, ◌∷◌, ap, sym, ◌∙◌, subst}
use Rattle.hc_grammar.specs.Texts as texts
use Rattle.hc_grammar.specs.Texts.{Read, Did}
use Rattle.hc_ctoken.specs.declared.token.Lexeme.{Lexeme}
use Rattle.hc_ctoken.specs.declared.token.Token.{Token}
use Rattle.hc_cgrammar.specs.declared.role.Role.{Role}
use Rattle.hc_cgrammar.specs.declared.role.Mark.{Mark}
use Rattle.hc_cgrammar.specs.Leaves.{Spelled, Saying}
use Rattle.hc_cspell.specs.Tokens.{Lexemes}
use Rattle.hc_cwrite.proofs.Saying.{Says, front}
use Rattle.hc_cwrite.proofs.Follows.{Frame, calm, frame_after, Follows, free_token, free_mark, Leads, lead_token, lead_mark, then_leads}
use Rattle.hc_cwrite.proofs.Fine.{IsFine, AreFine, IsSoundAs, AllSound}

-- tokens are those of a part that is good, and then others that say w; it is within the limits where the part f of the text was
pub record Found {T : Type 0} (S : T → Spelled → Spelled) (Good : T → Type 0) (f : Spelled → Spelled) (w : Lexemes)
    (ts : List Token) : Type 0 where
  pub part : T
  pub others : List Token
  pub rest : Says w others
  pub tokens : (v : Spelled) → texts.tokens_of v ≡ others → texts.tokens_of (S part v) ≡ ts
  pub good : Good part
  pub goes : (a : Frame) (v v' : Spelled) → Follows 0 0 (calm a) v v' → Follows 0 0 (calm a) (f v) (S part v')

-- the part f of a text, which is spelled c
pub record Piece {T : Type 0} (f : Spelled → Spelled) (c : Lexemes → Lexemes) (S : T → Spelled → Spelled) (Good : T → Type 0)
    : Type 0 where
  pub sound : (v : Spelled) → AllSound (texts.tokens_of (f v)) → AllSound (texts.tokens_of v)
  pub fine : (v : Spelled) → AllSound (texts.tokens_of (f v)) → (w : Lexemes) → AreFine w → AreFine (c w)
  pub leads : (a : Frame) (v : Spelled) → Leads (calm a) (calm a) (f v) v
  pub reads : (v : Spelled) → AllSound (texts.tokens_of (f v)) → (w : Lexemes) (ts : List Token) → Says (c w) ts
      → Found S Good f w ts

-- nothing is known, or asked
abbrev pub Any : {T : Type 0} → T → Type 0
Any x = Unit {0}

-- one after the other
pub both : {T U : Type 0} {f g : Spelled → Spelled} {c d : Lexemes → Lexemes} {S : T → Spelled → Spelled} {R : U → Spelled → Spelled}
    {G : T → Type 0} {H : U → Type 0} → Piece f c S G → Piece g d R H
    → Piece {T = T × U} (λ v. f (g v)) (λ w. c (d w)) (λ x v. S x.0 (R x.1 v)) (λ x. G x.0 × H x.1)
both {f = f} {g = g} {c = c} {d = d} {S = S} {R = R} p q = record {
  sound = λ v s. q.sound v (p.sound (g v) s);
  fine = λ v s w h. p.fine (g v) s (d w) (q.fine v (p.sound (g v) s) w h);
  leads = λ a v. then_leads (calm a) (calm a) (calm a) _ _ _ (p.leads a (g v)) (q.leads a v);
  reads = λ v s w ts h.
      let x = p.reads (g v) s (d w) ts h in
      let y = q.reads v (p.sound (g v) s) w x.others x.rest in
      record {
        part = (x.part, y.part);
        others = y.others;
        rest = y.rest;
        tokens = λ v e. x.tokens (R y.part v) (y.tokens v e);
        good = (x.good, y.good);
        goes = λ a v v' h. x.goes a (g v) (R y.part v') (y.goes a v v' h);
      };
}

-- the same as a part of another sort
pub as_part : {T U : Type 0} {f : Spelled → Spelled} {c : Lexemes → Lexemes} {S : T → Spelled → Spelled} {G : T → Type 0}
    (h : T → U) (d : Lexemes → Lexemes) (R : U → Spelled → Spelled) (H : U → Type 0)
    → ((x : T) (v : Spelled) → R (h x) v ≡ S x v) → ((w : Lexemes) → d w ≡ c w) → ((x : T) → G x → H (h x))
    → Piece f c S G → Piece f d R H
as_part {f = f} {c = c} {S = S} h d R H spelled same good p = record {
  sound = p.sound;
  fine = λ v s w fine. subst AreFine (sym (same w)) (p.fine v s w fine);
  leads = p.leads;
  reads = λ v s w ts says.
      let P : Lexemes → Type 0 = λ w. Says w ts in
      let x = p.reads v s w ts (subst P (same w) says) in
      record {
        part = h x.part;
        others = x.others;
        rest = x.rest;
        tokens = λ v e. ap texts.tokens_of (spelled x.part v) ∙ x.tokens v e;
        good = good x.part x.good;
        goes = λ a v v' f'.
            let Q : Spelled → Type 0 = λ u. Follows 0 0 (calm a) (f v) u in
            subst Q (sym (spelled x.part v')) (x.goes a v v' f');
      };
}

-- nothing
pub empty : Piece {T = Unit {0}} (λ v. v) (λ w. w) (λ u v. v) Any
empty = record {
  sound = λ v s. s;
  fine = λ v s w h. h;
  leads = λ a v. record { run = λ s e w. (s, e, w) };
  reads = λ v s w ts h. record { part = tt; others = ts; rest = h; tokens = λ v e. e; good = tt; goes = λ a v v' f. f };
}

-- a token's role leaves the frame as it is
abbrev pub IsCalm : Role → Type 0
IsCalm role = (l : Lexeme) (a : Frame) → frame_after role l (calm a) ≡ calm a

-- a token
pub token : (role : Role) (l : Lexeme) (t : Saying l) → IsCalm role → (IsSoundAs l → IsFine l)
    → Piece {T = Saying l} (λ v. Read t.0 role ∷ v) (λ w. l ∷ w) (λ u v. Read u.0 role ∷ v) Any
token role l t is_calm fine = record {
  sound = λ v s. s.1;
  fine = λ v s w h. (fine (subst IsSoundAs t.1 s.0), h);
  leads = λ a v.
      let P : Frame → Type 0 = λ b. Leads (calm a) b (Read t.0 role ∷ v) v in
      subst P (is_calm t.0.lexeme a) (lead_token role t.0 (calm a) v);
  reads = λ v s w ts h. record {
    part = (h.first, h.is);
    others = h.others;
    rest = h.rest;
    tokens = λ v e. front h e;
    good = tt;
    goes = λ a v v' f.
        let P : Frame → Type 0 = λ b. Follows 0 0 b v v' in
        free_token role t.0 h.first l (calm a) v v' t.1 h.is (subst P (sym (is_calm l a)) f);
  };
}

-- a mark
pub mark : (b : Mark) → Piece {T = Unit {0}} (λ v. Did b ∷ v) (λ w. w) (λ u v. Did b ∷ v) Any
mark b = record {
  sound = λ v s. s;
  fine = λ v s w h. h;
  leads = λ a v. lead_mark b (calm a) v;
  reads = λ v s w ts h. record {
    part = tt;
    others = ts;
    rest = h;
    tokens = λ v e. e;
    good = tt;
    goes = λ a v v' f. free_mark b (calm a) v v' f;
  };
}
