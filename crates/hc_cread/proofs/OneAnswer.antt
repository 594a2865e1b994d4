-- Bytes are a unit of one program, or are refused in one way.
use Rattle.std.proofs.Common.{◌≡◌, ◌↔◌, ◌⊎◌, inl, inr, refl, ap, sym, ◌∙◌, ℕ, List, [], ◌∷◌, Result, Ok, Err}
use Rattle.hc_frac.specs.declared.place.Place.{Place}
use Rattle.hc_grammar.specs.Ends.{Ends}
use Rattle.hc_grammar.specs.Language.{is_last}
use Rattle.hc_grammar.specs.Machine.{reads}
use Rattle.hc_grammar.specs.Answers.{Answers}
use Rattle.hc_grammar.proofs.Exact.{exact}
use Rattle.hc_grammar.proofs.Answered.{same_parts, not_both, same_value}
use Rattle.hc_scan.proofs.Passing as scan
use Rattle.hc_cast.specs.declared.program.CProgram.{CProgram}
use Rattle.hc_ctoken.specs.declared.kind.Kind.{Kind}
use Rattle.hc_ctoken.specs.declared.kind.Kind.TheVariants as k
use Rattle.hc_ctoken.specs.declared.token.Lexeme.TheVariants as lex
use Rattle.hc_ctoken.specs.declared.token.Token.{Token}
use Rattle.hc_ctoken.specs.Pieces.{piece}
use Rattle.hc_ctoken.specs.Tokens.{token_at, kind_of, tokens_from, is_end_kind, is_end}
use Rattle.hc_ctoken.proofs.Ended.{tells_end}
use Rattle.hc_cgrammar.specs.declared.flaw.Flaw.{Flaw}
use Rattle.hc_cgrammar.specs.Unit.{IsSpelling, IsUnit, IsRefused}
use Rattle.hc_ctable.specs.Table.{same}
use Rattle.hc_ctable.proofs.Readable.{setting}
use Rattle.hc_cread.specs.declared.values.Values.{Values}
use Rattle.hc_cread.specs.Builder.{builder, blank, program_of}
use Rattle.hc_cread.specs.Language.{language}
use Rattle.hc_cread.proofs.Accepting.{program_accepted, accepts_program}

-- the kind of the end is wanted where it is the kind of the end
end_wanted : (kind : Kind) → is_end_kind kind ≡ same k.End kind
end_wanted k.End = refl
end_wanted _ = refl

pub ended : (ts : List Token) → Ends is_end ts → Ends (is_last language) ts
ended [] e = e
ended (t ∷ []) e = sym (end_wanted (kind_of t)) ∙ e
ended (t ∷ u ∷ ts) e = (sym (end_wanted (kind_of t)) ∙ e.0, ended (u ∷ ts) e.1)

-- what the machine makes of all tokens
abbrev Answer : Type 0
Answer = Result Values (Flaw × Token)

module _ (from : Place) (bytes : List ℕ) where
  abbrev ts : List Token
  ts = tokens_from from bytes

  abbrev reads_all : Answer
  reads_all = reads language ts language.start language.opening blank

  all_ended : Ends (is_last language) ts
  all_ended = ended ts (scan.tokens_end piece token_at lex.End is_end tells_end 0 from bytes)

  answer : (r : Answer) → Answers language IsSpelling ts r ↔ (reads_all ≡ r)
  answer = exact (setting builder blank) ts all_ended

  program_is_read : (p : CProgram) → IsUnit from bytes p → (v : Values) × (reads_all ≡ Ok v) × (program_of v ≡ p)
  program_is_read p x =
      let (v, accepted, e) = accepts_program ts p x in (v, (answer (Ok v)).0 accepted, e)

  refusal_is_read : (f : Flaw) (p : Place) (x : IsRefused from bytes f p) → reads_all ≡ Err (f, x.at)
  refusal_is_read f p x = (answer (Err (f, x.at))).0 x.refusal

  pub one_program : (x y : CProgram) → IsUnit from bytes x → IsUnit from bytes y → x ≡ y
  one_program x y is_x is_y =
      let (v, ok, program) = program_is_read x is_x in
      let (w, ok', program') = program_is_read y is_y in
      sym program ∙ ap program_of (same_value reads_all v w ok ok') ∙ program'

  pub one_refusal : (f g : Flaw) (p q : Place) → IsRefused from bytes f p → IsRefused from bytes g q → (f ≡ g) × (p ≡ q)
  one_refusal f g p q x y =
      let (what, token) = same_parts reads_all f g x.at y.at (refusal_is_read f p x) (refusal_is_read g q y) in
      (what, sym x.place_is ∙ ap (λ (t : Token). t.place) token ∙ y.place_is)

  pub not_refused : (x : CProgram) (f : Flaw) (p : Place) → IsUnit from bytes x → IsRefused from bytes f p → ⊥
  not_refused x f p is_x y =
      let (v, ok, program) = program_is_read x is_x in not_both reads_all v (f, y.at) ok (refusal_is_read f p y)

  by_answer : (r : Answer) → reads_all ≡ r
      → ((x : CProgram) × IsUnit from bytes x) ⊎ ((f : Flaw) × (p : Place) × IsRefused from bytes f p)
  by_answer (Ok v) e = inl (program_of v, program_accepted ts v ((answer (Ok v)).1 e))
  by_answer (Err (f, t)) e = inr (f, t.place, record { at = t; refusal = (answer (Err (f, t))).1 e; place_is = refl })

  pub every_text : ((x : CProgram) × IsUnit from bytes x) ⊎ ((f : Flaw) × (p : Place) × IsRefused from bytes f p)
  every_text = by_answer reads_all refl
