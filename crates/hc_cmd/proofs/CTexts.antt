-- What the answer of the reader of C texts says of a text: its program, or what is answered where it has none.
use Rattle.std.proofs.Common.{◌≡◌, ℕ, List, Result, Ok, Err, MatchResult, IfOk, IfErr, inl, inr, refl, sym, ap, subst, ◌∙◌}
use Rattle.std.specs.Prelude.{IfSome}
use Rattle.std.specs.Result.{IsErrAnd}
use Rattle.hc_cast.specs.declared.program.CProgram.{CProgram}
use Rattle.hc_cgrammar.specs.declared.flaw.Refusal as texts
use Rattle.hc_cgrammar.specs.Text.{IsCText, IsCTextRefused}
use Rattle.hc_cread.specs.declared.whole.CStop.{CStop}
use Rattle.hc_cread.specs.declared.whole.CStop.TheVariants.{Refused, Memory}
use Rattle.hc_cread.specs.TextStops.{told}
use Rattle.hc_cfacts.specs.Laws.{ProgramsCallBack}
use Rattle.hc_cmach.specs.Calls.{CallsGoBack}
use Rattle.hc_cmd.specs.declared.refusal.Refusal.{Refusal}
use Rattle.hc_cmd.specs.declared.refusal.Refusal.TheVariants.{NoProgram}
use Rattle.hc_cmd.specs.Reply.{Reply}
use Rattle.hc_cmd.specs.Refusals.{refused}
use Rattle.hc_cmd.specs.Executed.{OfC, no_program, program}
use Rattle.hc_cmd.specs.Prepared.{FindsProgram}
use Rattle.hc_cmd.proofs.Finding.{MemoryOr}
use Rattle.hc_cmd.proofs.OneReply.{Decided}

-- what is answered to a text without a program is the same whatever its program would give
pub none_there : (G : CProgram → Reply → Type 0) (text : List ℕ) (reply : Reply) → OfC (λ _ _. ⊥) text reply → OfC G text reply
none_there G text reply (no_program why is e) = no_program why is e
none_there G text reply (program g is never) = absurd never

-- what the stop of reading gives
unread_gives : (text : List ℕ) (s : CStop) → IfSome (told s) (IsCTextRefused text) → MemoryOr (OfC (λ _ _. ⊥) text) (NoProgram s)
unread_gives text (Refused why) is = inr (no_program why is refl)
unread_gives text Memory is = inl refl

pub program_found : (text : List ℕ) (found : Result CProgram CStop) (result : Result CProgram Refusal) → IfOk found (IsCText text) →
    IfErr found (λ s. IfSome (told s) (IsCTextRefused text)) →
    MatchResult found (λ g. result ≡ Ok g) (λ s. IsErrAnd result (λ r. r ≡ NoProgram s)) → FindsProgram text result
program_found text (Ok g) result is stops e = subst (FindsProgram text) (sym e) is
program_found text (Err s) (Ok g) is stops e = absurd e
program_found text (Err s) (Err r) is stops e = subst (λ (f : Refusal). MemoryOr (OfC (λ _ _. ⊥) text) f) (sym e) (unread_gives text s stops)

-- the calls of a text's program go back
pub goes_back : ProgramsCallBack → (text : List ℕ) (g : CProgram) → IsCText text g → CallsGoBack g
goes_back laws text g is = laws _ is.unit g is.is_unit

-- ---- one answer

module _ (d : Decided) where
  -- where a program decides its reply, so does its text
  pub program_decides : (G : CProgram → Reply → Type 0) → ((g : CProgram) (r s : Reply) → G g r → G g s → r ≡ s) → (text : List ℕ) (r s : Reply) →
      OfC G text r → OfC G text s → r ≡ s
  program_decides G one text r s (no_program i is e) (no_program j of h) =
      e ∙ ap (λ (why : texts.Refusal). refused (NoProgram (Refused why))) (d.one_c_refusal text i j is of) ∙ sym h
  program_decides G one text r s (no_program i is e) (program g of b) = absurd (d.program_not_refused text g i of is)
  program_decides G one text r s (program f is a) (no_program j of h) = absurd (d.program_not_refused text f j is of)
  program_decides G one text r s (program f is a) (program g of b) = one g r s (subst (λ (x : CProgram). G x r) (d.one_program text f g is of) a) b

  -- the text of a program gives what its program gives
  pub program_there : (G : CProgram → Reply → Type 0) (text : List ℕ) (g : CProgram) (reply : Reply) → IsCText text g → OfC G text reply → G g reply
  program_there G text g reply is (no_program j of h) = absurd (d.program_not_refused text g j is of)
  program_there G text g reply is (program f of b) = subst (λ (x : CProgram). G x reply) (d.one_program text f g of is) b
