-- The tokens of a text, each with its place.
use Rattle.std.specs.Prelude.{◌≡◌, ℕ, zero, suc, ◌-◌, Bool, true, false, if◌then◌else◌, List, [], ◌∷◌, Option, Some, None, IfSome}
use Rattle.hc_frac.specs.declared.place.Place.{Place}
use Rattle.hc_scan.specs.declared.piece.Piece.{Piece}
use Rattle.hc_scan.specs.Places.{after, first_place}

-- what stands at the front of a text, a lexeme at its place, and what stands behind the last byte
module _ {L T : Type 0} (piece : List ℕ → Piece L) (token_at : Place → L → T) (end : L) where
  -- a piece that begins here, if it is a lexeme, in front of the tokens that follow
  abbrev pub with_piece : Place → Option L → List T → List T
  with_piece p None ts = ts
  with_piece p (Some l) ts = token_at p l ∷ ts

  -- the tokens of a text that begins here, of which the first bytes may belong to what began before it
  abbrev pub tokens_from : ℕ → Place → List ℕ → List T
  tokens_from before p [] = token_at p end ∷ []
  tokens_from (suc before) p (b ∷ z) = tokens_from before (after p b) z
  tokens_from zero p (b ∷ z) =
      let front = piece (b ∷ z) in
      with_piece p front.lexeme (tokens_from (front.len - 1) (after p b) z)

  -- the tokens of a text
  abbrev pub tokens_of : List ℕ → List T
  tokens_of z = tokens_from 0 first_place z

  -- the tokens of what is left of a text, and none once its end was given
  abbrev pub tokens_left : Bool → Place → List ℕ → List T
  tokens_left is_ended p z = if is_ended then [] else tokens_from 0 p z

  -- a test tells the end of a text from every token before it
  pub record TellsEnd (is_end : T → Bool) : Type 0 where
    pub at_end : (p : Place) → is_end (token_at p end) ≡ true
    pub before : (z : List ℕ) (p : Place) → IfSome (piece z).lexeme (λ l. is_end (token_at p l) ≡ false)
