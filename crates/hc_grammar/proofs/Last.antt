-- A last token empties the stack, and no other does.
use Rattle.std.proofs.Common.{◌≡◌, refl, ◌∙◌, Bool, true, false, cond, ◌||◌, List, [], ◌∷◌, ◌++◌}
use Rattle.std.proofs.Common.{Option, None, Some, IfSome}
use Rattle.hc_grammar.specs.declared.symbol.Symbol.TheVariants.{Token, Head, Mark}
use Rattle.hc_grammar.specs.Table.{Symbols, Entry, Takes, Skips, Refuses, Table}
use Rattle.hc_grammar.specs.Ends.{wants_last, is_bare, closes_by, EndsBy}
use Rattle.hc_grammar.specs.Machine.{Taken, with_mark, with_left, at_entry, feed}

or_neither : (a b : Bool) → a || b ≡ false → (a ≡ false) × (b ≡ false)
or_neither true b e = absurd (cc)
or_neither false b e = (refl, e)

bare_is : {X : Type 0} (ss : List X) → is_bare ss ≡ true → ss ≡ []
bare_is [] e = refl
bare_is (s ∷ ss) e = absurd (cc)

module _ {K H A B : Type 0} (g : Table K H A B) (last : K) where
  -- symbols without the last kind leave the bottom as it is
  closes-append : (p ss : Symbols K H A B) → wants_last g last p ≡ false
      → closes_by g last (p ++ ss) ≡ closes_by g last ss
  closes-append [] ss e = refl
  closes-append (Token j role ∷ p) ss e =
      let (here, more) = or_neither (g.same j last) (wants_last g last p) e in
      rw here (closes-append p ss more)
  closes-append (Head h ∷ p) ss e = closes-append p ss e
  closes-append (Mark b ∷ p) ss e = closes-append p ss e

  -- what a token of this kind leaves: nothing if it is a last one, else a stack that a last one closes
  abbrev pub Leaves : K → Symbols K H A B → Type 0
  Leaves k ss = (g.same last k ≡ true → ss ≡ []) × (g.same last k ≡ false → closes_by g last ss ≡ true)

  leaves_mark : (k : K) (b : B) (o : Option (Taken K H A B))
      → IfSome o (λ f. Leaves k f.rest) → IfSome (with_mark b o) (λ f. Leaves k f.rest)
  leaves_mark k b None i = tt
  leaves_mark k b (Some f) i = i

  leaves_left : (k : K) (m : Option B) (o : Option (Taken K H A B))
      → IfSome o (λ f. Leaves k f.rest) → IfSome (with_left m o) (λ f. Leaves k f.rest)
  leaves_left k None o i = i
  leaves_left k (Some b) o i = leaves_mark k b o i

  module _ (law : EndsBy g last) where
    leaves_taken : (j k : K) (ss : Symbols K H A B) (ends : Bool) → g.same j last ≡ ends → g.same j k ≡ true
        → cond ends (is_bare ss) (closes_by g last ss) ≡ true → Leaves k ss
    leaves_taken j k ss true e same bottom =
        ((λ _. bare_is ss bottom), (λ other. absurd (cc (law.alike j k same))))
    leaves_taken j k ss false e same bottom =
        ((λ other. absurd (cc (law.alike j k same))), (λ _. bottom))

    leaves_token : (j k : K) (role : A) (ss : Symbols K H A B) (same : Bool) → g.same j k ≡ same
        → cond (g.same j last) (is_bare ss) (closes_by g last ss) ≡ true
        → IfSome (cond same (Some (record { marks = []; role = role; rest = ss })) None)
        (λ (f : Taken K H A B). Leaves k f.rest)
    leaves_token j k role ss true e bottom = leaves_taken j k ss (g.same j last) refl e bottom
    leaves_token j k role ss false e bottom = tt

    leaves_head : (h : H) (k : K) (ss : Symbols K H A B) (row : Entry K H A B) → g.entry h k ≡ row
        → closes_by g last ss ≡ true → IfSome (feed g ss k) (λ f. Leaves k f.rest)
        → IfSome (at_entry row ss (with_left (g.left_out h) (feed g ss k))) (λ f. Leaves k f.rest)
    leaves_head h k ss (Takes role p) e bottom i = (
      (λ same. absurd (cc (law.never_first h k role p e))),
      (λ _. closes-append p ss (law.never_later h k role p e) ∙ bottom),
    )
    leaves_head h k ss Skips e bottom i = leaves_left k (g.left_out h) (feed g ss k) i
    leaves_head h k ss Refuses e bottom i = tt

    pub leaves : (k : K) (ss : Symbols K H A B) → closes_by g last ss ≡ true
        → IfSome (feed g ss k) (λ f. Leaves k f.rest)
    leaves k [] bottom = tt
    leaves k (Token j role ∷ ss) bottom = leaves_token j k role ss (g.same j k) refl bottom
    leaves k (Head h ∷ ss) bottom = leaves_head h k ss (g.entry h k) refl bottom (leaves k ss bottom)
    leaves k (Mark b ∷ ss) bottom = leaves_mark k b (feed g ss k) (leaves k ss bottom)
