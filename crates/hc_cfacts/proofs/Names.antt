-- The parameters and the locals of a body, and how many there are.
use Rattle.std.proofs.Common.{◌≡◌, ◌≤◌, refl, sym, ap, ◌∙◌, subst, ℕ, ◌+◌, Bool, false, List, [], ◌∷◌, ◌++◌, length, arith}
use Rattle.std.specs.Prelude.{nat_le}
use Rattle.std.proofs.lemmas.Bool.Decides.{nat_tests}
use Rattle.std.proofs.lemmas.List.{append-nil, append_assoc, length_push}
use Rattle.hc_ctoken.specs.declared.token.Lexeme.{Lexeme}
use Rattle.hc_ctoken.specs.declared.token.Lexeme.TheVariants as lex
use Rattle.hc_cgrammar.specs.declared.role.Role.TheVariants as r
use Rattle.hc_cgrammar.specs.Leaves.{Word, Spelled}
use Rattle.hc_cgrammar.specs.Units as g
use Rattle.hc_cgrammar.specs.UnitRoles as w
use Rattle.hc_cgrammar.specs.UnitTrees.{locals_tree, more_parameters_tree, parameters_tree}
use Rattle.hc_cgrammar.specs.State.{Signature, Owner, function, State}
use Rattle.hc_cgrammar.specs.Walk.{name_of, with_parameter, after_token}
use Rattle.hc_cfacts.proofs.Goes.{Goes}
use Rattle.hc_cfacts.proofs.Exprs.{Kept, kept_of}

pub room : (n m : ℕ) → nat_le m n ≡ false → n + 1 ≤ m
room n m e = grind (arith, nat_tests)

more_room : (ws names : List Word) (x : Word) → names ≡ ws → nat_le 64 (length names) ≡ false → length (ws ++ x ∷ []) ≤ 64
more_room ws names x e h =
    let P : ℕ → Type 0 = λ n. n ≤ 64 in
    subst P (ap (λ ws. length ws + 1) e ∙ sym (length_push ws x)) (room (length names) 64 h)

-- behind names that make these in all, of which there are few
pub record Named (v : Spelled) (k : Kept) (all : List Word) : Type 0 where
  pub state : State
  pub goes : Goes v state
  pub same : kept_of state ≡ k
  pub few : length all ≤ 64

-- of a body that belongs to someone, behind some functions and threads
module _ (fs : List Signature) (threads : ℕ) where
  -- a body with these names so far
  abbrev pub housed : Owner → List Word → Kept
  housed o ws = record { functions = fs; owner = o; locals = ws; threads = threads }

  abbrev with_local : Word → Kept → Kept
  with_local x k = record { functions = k.functions; owner = k.owner; locals = k.locals ++ x ∷ []; threads = k.threads }

  pub locals_go : (ls : g.Locals) (o : Owner) (ws all : List Word) (v : Spelled) (s : State) → ws ++ locals_tree ls ≡ all
      → kept_of s ≡ housed o ws → length ws ≤ 64 → Goes (w.locals ls v) s → Named v (housed o all) all
  locals_go g.no_local o ws all v s a q few h =
      let P : List Word → Type 0 = λ ws. Named v (housed o ws) ws in
      subst P (sym (append-nil ws) ∙ a) (record { state = s; goes = h; same = q; few = few })
  locals_go (g.next_local int_word name sign zero semicolon ls) o ws all v s a q few (s1, (s2, (s3, (s4, (s5, h))))) =
      let t = after_token r.DeclareLocal name.0.lexeme (after_token r.Plain int_word.0.lexeme s) in
      let u = after_token r.Plain semicolon.0.lexeme (after_token r.Plain zero.0.lexeme (after_token r.Plain sign.0.lexeme t)) in
      let same : kept_of u ≡ housed o (ws ++ name.1 ∷ []) =
      ap (with_local (name_of name.0.lexeme)) q ∙ ap (λ x. housed o (ws ++ name_of x ∷ [])) name.2
      in
      locals_go ls o (ws ++ name.1 ∷ []) all v u (append_assoc ws (name.1 ∷ []) (locals_tree ls) ∙ a) same
      (more_room ws s.locals name.1 (ap (λ k. k.locals) q) s2.has_room) h

  -- the parameters of a function: it has as many as there are names so far
  module _ (name : Word) (gives : Bool) where
    abbrev pub with_parameters : List Word → Kept
    with_parameters ws = housed (function (record { name = name; arity = length ws; gives = gives })) ws

    abbrev with_one : Word → Kept → Kept
    with_one x k = record { functions = k.functions; owner = with_parameter k.owner; locals = k.locals ++ x ∷ []; threads = k.threads }

    one_more : (ws : List Word) (l : Lexeme) (x : Word) (k : Kept) → l ≡ lex.Local x → k ≡ with_parameters ws
        → with_one (name_of l) k ≡ with_parameters (ws ++ x ∷ [])
    one_more ws l x k e q =
        ap (with_one (name_of l)) q
        ∙ ap (λ l. with_one (name_of l) (with_parameters ws)) e
        ∙ ap (λ n. housed (function (record { name = name; arity = n; gives = gives })) (ws ++ x ∷ [])) (sym (length_push ws x))

    more_parameters_go : (ps : g.MoreParameters) (ws all : List Word) (v : Spelled) (s : State) → ws ++ more_parameters_tree ps ≡ all
        → kept_of s ≡ with_parameters ws → length ws ≤ 64 → Goes (w.more_parameters ps v) s → Named v (with_parameters all) all
    more_parameters_go g.no_parameter ws all v s a q few h =
        let P : List Word → Type 0 = λ ws. Named v (with_parameters ws) ws in
        subst P (sym (append-nil ws) ∙ a) (record { state = s; goes = h; same = q; few = few })
    more_parameters_go (g.next_parameter comma int_word x ps) ws all v s a q few (s1, (s2, (s3, h))) =
        let t = after_token r.Plain int_word.0.lexeme (after_token r.Plain comma.0.lexeme s) in
        more_parameters_go ps (ws ++ x.1 ∷ []) all v (after_token r.DeclareParameter x.0.lexeme t)
        (append_assoc ws (x.1 ∷ []) (more_parameters_tree ps) ∙ a) (one_more ws x.0.lexeme x.1 (kept_of s) x.2 q)
        (more_room ws s.locals x.1 (ap (λ k. k.locals) q) s3.has_room) h

    pub parameters_go : (ps : g.Parameters) (v : Spelled) (s : State) → kept_of s ≡ with_parameters [] → Goes (w.parameters ps v) s
        → Named v (with_parameters (parameters_tree ps)) (parameters_tree ps)
    parameters_go (g.none void_word) v s q (s1, h) =
        record { state = after_token r.Plain void_word.0.lexeme s; goes = h; same = q; few = omega arith }
    parameters_go (g.some int_word x ps) v s q (s1, (s2, h)) =
        let t = after_token r.Plain int_word.0.lexeme s in
        more_parameters_go ps (x.1 ∷ []) _ v (after_token r.DeclareParameter x.0.lexeme t) refl
        (one_more [] x.0.lexeme x.1 (kept_of s) x.2 q) (omega arith) h
