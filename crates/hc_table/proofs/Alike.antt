-- Kinds are told apart by their numbers as by the enum itself.
use Rattle.std.proofs.Common.{◌≡◌, refl, ap, sym, ◌∙◌, Bool, true, false}
use Rattle.hc_token.specs.declared.fixed.Fixed.{Fixed}
use Rattle.hc_token.specs.declared.kind.Kind.{Kind}
use Rattle.hc_token.specs.declared.kind.Kind.TheVariants as k
use Rattle.hc_table.specs.Table.{same}
use Rattle.hc_table.proofs.Examples.{same_self}
use Rattle.hc_table.proofs.CloseExprs.{is_kind}

same_of : (wanted kind : Kind) → wanted ≡ kind → same wanted kind ≡ true
same_of wanted kind e = ap (same wanted) (sym e) ∙ same_self wanted

other_of : (wanted kind : Kind) → (wanted ≡ kind → ⊥) → same wanted kind ≡ false
other_of wanted kind other = go (same wanted kind) refl
  where
    go : (b : Bool) → same wanted kind ≡ b → b ≡ false
    go true e = absurd (other (sym (is_kind wanted kind e)))
    go false e = refl

by_answer : (wanted kind : Kind) (b : Bool) → (b ≡ true → wanted ≡ kind) → (b ≡ false → wanted ≡ kind → ⊥) → b ≡ same wanted kind
by_answer wanted kind true alike apart = sym (same_of wanted kind (alike refl))
by_answer wanted kind false alike apart = sym (other_of wanted kind (apart refl))

fixed_alike : (wanted one : Fixed) → k.Fixed wanted ≡ k.Fixed one → wanted ≡ one
fixed_alike wanted one e = cc e

-- an answer that tells keywords and signs apart
pub by_fixed : (wanted one : Fixed) (b : Bool) → (b ≡ true → wanted ≡ one) → (b ≡ false → wanted ≡ one → ⊥)
    → b ≡ same (k.Fixed wanted) (k.Fixed one)
by_fixed wanted one b alike apart =
    by_answer (k.Fixed wanted) (k.Fixed one) b (λ e. ap k.Fixed (alike e)) (λ e f. apart e (fixed_alike wanted one f))
