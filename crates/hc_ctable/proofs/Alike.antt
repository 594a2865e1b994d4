-- Keywords and signs are told apart by their numbers as by the enum itself.
use Rattle.std.proofs.Common.{◌≡◌, refl, ap, sym, ◌∙◌, Bool, true, false}
use Rattle.hc_ctoken.specs.declared.fixed.Fixed.{Fixed}
use Rattle.hc_ctoken.specs.declared.fixed.Fixed.TheVariants as fix
use Rattle.hc_ctoken.specs.declared.kind.Kind.TheVariants as k
use Rattle.hc_ctable.specs.Table.{same}
use Rattle.hc_ctable.proofs.Leaves.{fixed_same}

pub same_fixed : (one : Fixed) → same (k.Fixed one) (k.Fixed one) ≡ true
same_fixed fix.Static = refl
same_fixed _ = refl

same_of : (wanted one : Fixed) → wanted ≡ one → same (k.Fixed wanted) (k.Fixed one) ≡ true
same_of wanted one e = ap (λ x. same (k.Fixed wanted) (k.Fixed x)) (sym e) ∙ same_fixed wanted

other_of : (wanted one : Fixed) → (wanted ≡ one → ⊥) → same (k.Fixed wanted) (k.Fixed one) ≡ false
other_of wanted one other = go (same (k.Fixed wanted) (k.Fixed one)) refl
  where
    go : (b : Bool) → same (k.Fixed wanted) (k.Fixed one) ≡ b → b ≡ false
    go true e = absurd (other (sym (fixed_same wanted one e)))
    go false e = refl

-- an answer that tells them apart
pub by_fixed : (wanted one : Fixed) (b : Bool) → (b ≡ true → wanted ≡ one) → (b ≡ false → wanted ≡ one → ⊥)
    → b ≡ same (k.Fixed wanted) (k.Fixed one)
by_fixed wanted one true alike apart = sym (same_of wanted one (alike refl))
by_fixed wanted one false alike apart = sym (other_of wanted one (apart refl))
