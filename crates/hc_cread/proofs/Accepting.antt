-- What the reader accepts is a unit, and the values that stand then are its program; and the other way round.
use Rattle.std.proofs.Common.{◌≡◌, refl, ap, sym, ◌∙◌, subst, List}
use Rattle.hc_grammar.specs.Texts.{tokens_of}
use Rattle.hc_grammar.specs.Reader.{Within, walked}
use Rattle.hc_grammar.specs.Answers.{Accepted}
use Rattle.hc_cast.specs.declared.program.CProgram.{CProgram}
use Rattle.hc_ctoken.specs.declared.token.Token.{Token}
use Rattle.hc_cgrammar.specs.State.{opening}
use Rattle.hc_cgrammar.specs.Rules.{reader}
use Rattle.hc_cgrammar.specs.UnitRoles as write
use Rattle.hc_cgrammar.specs.Unit.{IsSpelling, IsProgramOf}
use Rattle.hc_cread.specs.declared.values.Values.{Values}
use Rattle.hc_cread.specs.Builder.{builder, blank, program_of}
use Rattle.hc_cread.specs.Language.{language}
use Rattle.hc_cread.proofs.BuiltUnits.{built_whole}

module _ (ts : List Token) where
  -- what is accepted is a unit of this program
  pub program_accepted : (v : Values) → Accepted language IsSpelling ts v → IsProgramOf ts (program_of v)
  program_accepted v a =
      let (x, spelled) = a.is_text in
      record {
        written = x;
        tokens = ap tokens_of (sym spelled) ∙ a.tokens;
        within = subst (λ w. Within reader w opening) spelled a.within;
        program = sym (built_whole x) ∙ ap (λ w. program_of (walked builder w blank)) (sym spelled) ∙ ap program_of a.built;
      }

  -- a unit is accepted, and gives its program
  pub accepts_program : (p : CProgram) → IsProgramOf ts p → (v : Values) × Accepted language IsSpelling ts v × (program_of v ≡ p)
  accepts_program p x =
      let w = write.whole x.written in (
        walked builder w blank,
        record { text = w; is_text = (x.written, refl); tokens = x.tokens; within = x.within; built = refl },
        built_whole x.written ∙ x.program,
      )
