-- What the machine takes is in the grammar.
use Rattle.std.proofs.Common.{◌≡◌, refl, Bool, true, false, cond, [], ◌∷◌, Option, None, Some, IfSome}
use Rattle.hc_grammar.specs.declared.symbol.Symbol.TheVariants.{Token, Head, Mark}
use Rattle.hc_grammar.specs.Table.{Symbols, Entry, Takes, Skips, Refuses, Table}
use Rattle.hc_grammar.specs.Texts.{Text, mark_then, items_of}
use Rattle.hc_grammar.specs.Derives.{Derives, token, mark, takes, skips}
use Rattle.hc_grammar.specs.Machine.{Taken, with_mark, with_left, at_entry, feed}

module _ {K H A B T : Type 0} (g : Table K H A B) (kind : T → K)
    (empty : (h : H) (k : K) → g.entry h k ≡ Skips → g.empties h ≡ true) where
  -- each text of what is left gives a text of the stack
  abbrev pub LeadsBack : Symbols K H A B → T → Taken K H A B → Type 0
  LeadsBack ss t f = (w : Text T A B) → Derives g kind f.rest w → Derives g kind ss (items_of f.marks t f.role w)

  back_token : (t : T) (j : K) (role : A) (ss : Symbols K H A B) (same : Bool) → g.same j (kind t) ≡ same
      → IfSome (cond same (Some (record { marks = []; role = role; rest = ss })) None) (LeadsBack (Token j role ∷ ss) t)
  back_token t j role ss true e = λ w d. token e d
  back_token t j role ss false e = tt

  back_mark : (t : T) (b : B) (ss : Symbols K H A B) (o : Option (Taken K H A B))
      → IfSome o (LeadsBack ss t) → IfSome (with_mark b o) (LeadsBack (Mark b ∷ ss) t)
  back_mark t b ss None i = tt
  back_mark t b ss (Some f) i = λ w d. mark (i w d)

  back_skip : (t : T) (h : H) (ss : Symbols K H A B) (m : Option B) (o : Option (Taken K H A B))
      → ((w : Text T A B) → Derives g kind ss w → Derives g kind (Head h ∷ ss) (mark_then m w))
      → IfSome o (LeadsBack ss t) → IfSome (with_left m o) (LeadsBack (Head h ∷ ss) t)
  back_skip t h ss None None left i = tt
  back_skip t h ss None (Some f) left i = λ w d. left (items_of f.marks t f.role w) (i w d)
  back_skip t h ss (Some b) None left i = tt
  back_skip t h ss (Some b) (Some f) left i = λ w d. left (items_of f.marks t f.role w) (i w d)

  back_head : (t : T) (h : H) (ss : Symbols K H A B) (row : Entry K H A B) → g.entry h (kind t) ≡ row
      → IfSome (feed g ss (kind t)) (LeadsBack ss t)
      → IfSome (at_entry row ss (with_left (g.left_out h) (feed g ss (kind t)))) (LeadsBack (Head h ∷ ss) t)
  back_head t h ss (Takes role p) e i = λ w d. takes e d
  back_head t h ss Skips e i = back_skip t h ss (g.left_out h) (feed g ss (kind t)) (λ w d. skips (empty h (kind t) e) d) i
  back_head t h ss Refuses e i = tt

  -- one token: what the machine makes of the stack leads back to it
  pub fed : (t : T) (ss : Symbols K H A B) → IfSome (feed g ss (kind t)) (LeadsBack ss t)
  fed t [] = tt
  fed t (Token j role ∷ ss) = back_token t j role ss (g.same j (kind t)) refl
  fed t (Head h ∷ ss) = back_head t h ss (g.entry h (kind t)) refl (fed t ss)
  fed t (Mark b ∷ ss) = back_mark t b ss (feed g ss (kind t)) (fed t ss)
