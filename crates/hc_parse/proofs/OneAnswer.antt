-- There is one answer to a text.
use Rattle.std.proofs.Common.{◌≡◌, refl, ap, sym, ◌∙◌, ◌⊎◌, inl, inr, ◌↔◌, Bool, true, false, ℕ, List, [], ◌∷◌, Result, Ok, Err}
use Rattle.hc_frac.specs.declared.place.Place.{Place}
use Rattle.hc_grammar.specs.Ends.{Ends}
use Rattle.hc_grammar.specs.Language.{is_last}
use Rattle.hc_grammar.specs.Machine.{reads}
use Rattle.hc_grammar.specs.Answers.{Answers}
use Rattle.hc_grammar.proofs.Exact.{exact}
use Rattle.hc_grammar.proofs.Answered.{same_parts, not_both, same_value}
use Rattle.hc_token.specs.declared.kind.Kind.{Kind}
use Rattle.hc_token.specs.declared.kind.Kind.TheVariants as k
use Rattle.hc_token.specs.declared.token.Token.{Token}
use Rattle.hc_token.specs.Lexemes.{kind_of}
use Rattle.hc_token.specs.Tokens.{AreEnded, tokens_of, first_place}
use Rattle.hc_token.proofs.Ended.{tokens_end}
use Rattle.hc_ast.specs.declared.flaw.Flaw.{Flaw}
use Rattle.hc_ast.specs.declared.tree.Tree.{Tree}
use Rattle.hc_ast.specs.Source.{IsSpelling, IsSource, IsRefused}
use Rattle.hc_table.specs.Table.{same, start}
use Rattle.hc_table.proofs.CloseExprs.{is_kind}
use Rattle.hc_table.proofs.Readable.{setting}
use Rattle.hc_parse.specs.declared.values.Values.{Values}
use Rattle.hc_parse.specs.Builder.{builder, blank, tree_of}
use Rattle.hc_parse.specs.Language.{language}
use Rattle.hc_parse.proofs.Accepting.{tree_accepted, accepts_tree}

-- a kind that isn't that of the end isn't taken for it
not_end : (kind : Kind) (b : Bool) → same k.End kind ≡ b → (kind ≡ k.End → ⊥) → b ≡ false
not_end kind true e other = absurd (other (is_kind k.End kind e))
not_end kind false e other = refl

pub ended : (ts : List Token) → AreEnded ts → Ends (is_last language) ts
ended [] e = e
ended (t ∷ []) e = ap (same k.End) e
ended (t ∷ u ∷ ts) e = (not_end (kind_of t.lexeme) (same k.End (kind_of t.lexeme)) refl e.0, ended (u ∷ ts) e.1)

-- what the machine makes of all tokens
abbrev Answer : Type 0
Answer = Result Values (Flaw × Token)

abbrev reads_all : List ℕ → Answer
reads_all bytes = reads language (tokens_of bytes) language.start language.opening blank

module _ (bytes : List ℕ) where
  answer : (r : Answer) → Answers language IsSpelling (tokens_of bytes) r ↔ (reads_all bytes ≡ r)
  answer = exact (setting builder blank) (tokens_of bytes) (ended (tokens_of bytes) (tokens_end 0 first_place bytes))

  tree_is_read : (t : Tree) → IsSource bytes t → (v : Values) × (reads_all bytes ≡ Ok v) × (tree_of v ≡ t)
  tree_is_read t x =
      let (v, accepted, e) = accepts_tree (tokens_of bytes) t x in (v, (answer (Ok v)).0 accepted, e)

  refusal_is_read : (f : Flaw) (p : Place) (x : IsRefused bytes f p) → reads_all bytes ≡ Err (f, x.at)
  refusal_is_read f p x = (answer (Err (f, x.at))).0 x.refusal

  pub one_tree : (t u : Tree) → IsSource bytes t → IsSource bytes u → t ≡ u
  one_tree t u x y =
      let (v, ok, tree) = tree_is_read t x in
      let (w, ok', tree') = tree_is_read u y in
      sym tree ∙ ap tree_of (same_value (reads_all bytes) v w ok ok') ∙ tree'

  pub one_refusal : (f g : Flaw) (p q : Place) → IsRefused bytes f p → IsRefused bytes g q → (f ≡ g) × (p ≡ q)
  one_refusal f g p q x y =
      let (what, token) = same_parts (reads_all bytes) f g x.at y.at (refusal_is_read f p x) (refusal_is_read g q y) in
      (what, sym x.place_is ∙ ap (λ (t : Token). t.place) token ∙ y.place_is)

  pub not_refused : (t : Tree) (f : Flaw) (p : Place) → IsSource bytes t → IsRefused bytes f p → ⊥
  not_refused t f p x y =
      let (v, ok, tree) = tree_is_read t x in not_both (reads_all bytes) v (f, y.at) ok (refusal_is_read f p y)

  by_answer : (r : Answer) → reads_all bytes ≡ r
      → ((t : Tree) × IsSource bytes t) ⊎ ((f : Flaw) × (p : Place) × IsRefused bytes f p)
  by_answer (Ok v) e = inl (tree_of v, tree_accepted (tokens_of bytes) v ((answer (Ok v)).1 e))
  by_answer (Err (f, t)) e = inr (f, t.place, record { at = t; refusal = (answer (Err (f, t))).1 e; place_is = refl })

  pub every_text : ((t : Tree) × IsSource bytes t) ⊎ ((f : Flaw) × (p : Place) × IsRefused bytes f p)
  every_text = by_answer (reads_all bytes) refl
