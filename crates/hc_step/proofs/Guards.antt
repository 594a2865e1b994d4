-- What the rules say of the ways of an instruction.
use Rattle.std.proofs.Common.{◌≡◌, refl, sym, ap, ◌∙◌, ℕ, ◌≤◌, Bool, ◌&&◌, IsTrue, List, [], ◌∷◌, length, nat_le, arith}
use Rattle.std.specs.List.{list_all}
use Rattle.std.proofs.lemmas.Bool.{and_parts, leb-true}
use Rattle.std.proofs.lemmas.List.{length-map}
use Rattle.hc_limits.specs.Limits.{most_guards}
use Rattle.hc_term.specs.declared.stmt.Io.{Io}
use Rattle.hc_term.specs.Profile.{is_io, is_same_io, all_apart, are_guards}
use Rattle.hc_code.specs.declared.code.Way.{Way}
use Rattle.hc_code.specs.Kept.{ios_of}

pub all_ios : (f : Io → Bool) (ways : List Way) → list_all f (ios_of ways) ≡ list_all (λ w. f w.io) ways
all_ios f [] = refl
all_ios f (w ∷ ws) = ap (λ (b : Bool). f w.io && b) (all_ios f ws)

pub record Guards (channels n : ℕ) (ways : List Way) : Type 0 where
  pub few : length ways ≤ 32
  pub ruled : IsTrue (list_all (λ w. is_io channels n w.io) ways)

pub guards : (channels n : ℕ) (ways : List Way) → IsTrue (are_guards channels n (ios_of ways)) → Guards channels n ways
guards channels n ways h =
    let ios = ios_of ways in
    let parts = and_parts (nat_le (length ios) most_guards && list_all (is_io channels n) ios) (all_apart is_same_io ios) h in
    let front = and_parts (nat_le (length ios) most_guards) (list_all (is_io channels n) ios) parts.0 in
    let most : length ios ≤ 32 = leb-true (length ios) 32 front.0 in
    let count = length-map ways (λ (w : Way). w.io) in
    record {
      few = omega (arith, most, count);
      ruled = sym (all_ios (is_io channels n) ways) ∙ front.1;
    }
