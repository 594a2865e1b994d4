-- A piece is passed as a whole, and the tokens of a text end by its end.
use Rattle.std.proofs.Common.{◌≡◌, ℕ, zero, suc, ◌-◌, ◌<◌, ◌≤◌, List, [], ◌∷◌, length, take, drop, fold, Bool, false, cond, Option, None, Some, IfSome, refl, ap, arith, sub-one}
use Rattle.hc_frac.specs.declared.place.Place.{Place}
use Rattle.hc_grammar.specs.Ends.{Ends}
use Rattle.hc_scan.specs.declared.piece.Piece.{Piece}
use Rattle.hc_scan.specs.Places.{after}
use Rattle.hc_scan.specs.Tokens.{with_piece, tokens_from, tokens_left, TellsEnd}

module _ {L T : Type 0} (piece : List ℕ → Piece L) (token_at : Place → L → T) (end : L) where
  -- the bytes that belong to what began before
  tokens_behind : (n : ℕ) (p : Place) (z : List ℕ)
      → tokens_from piece token_at end n p z ≡ tokens_from piece token_at end 0 (fold after p (take n z)) (drop n z)
  tokens_behind zero p z = refl
  tokens_behind (suc n) p [] = refl
  tokens_behind (suc n) p (b ∷ z) = tokens_behind n (after p b) z

  first_passed : (n : ℕ) (p : Place) (b : ℕ) (z : List ℕ) → 1 ≤ n
      → tokens_from piece token_at end (n - 1) (after p b) z
      ≡ tokens_from piece token_at end 0 (fold after p (take n (b ∷ z))) (drop n (b ∷ z))
  first_passed zero p b z h = absurd (omega arith)
  first_passed (suc n) p b z h = rw sub-one (tokens_behind n (after p b) z)

  -- the piece at the front
  pub piece_passed : (p : Place) (z : List ℕ) → 0 < length z → 1 ≤ (piece z).len
      → tokens_from piece token_at end 0 p z ≡ with_piece piece token_at end p (piece z).lexeme
      (tokens_from piece token_at end 0 (fold after p (take (piece z).len z)) (drop (piece z).len z))
  piece_passed p [] h l = absurd (omega arith)
  piece_passed p (b ∷ z) h l =
      ap (with_piece piece token_at end p (piece (b ∷ z)).lexeme) (first_passed (piece (b ∷ z)).len p b z l)

  -- one piece more is behind
  pub one_piece : (p p' : Place) (z z' : List ℕ) (front : Piece L) → front ≡ piece z → 0 < length z → 1 ≤ front.len
      → z' ≡ drop front.len z → p' ≡ fold after p (take front.len z)
      → tokens_from piece token_at end 0 p z ≡ with_piece piece token_at end p front.lexeme (tokens_from piece token_at end 0 p' z')
  one_piece p p' z z' front same h l left place =
      rw (left, place, same) (piece_passed p z h (rw (← same) l))

  -- a scanner that hasn't ended stands for the tokens of what is left
  pub not_ended : (is_ended : Bool) (p : Place) (z : List ℕ) → is_ended ≡ false
      → tokens_left piece token_at end is_ended p z ≡ tokens_from piece token_at end 0 p z
  not_ended is_ended p z h = ap (λ b. cond b [] (tokens_from piece token_at end 0 p z)) h

  module _ (is_end : T → Bool) (tells : TellsEnd piece token_at end is_end) where
    one_more : (t : T) (ts : List T) → is_end t ≡ false → Ends is_end ts → Ends is_end (t ∷ ts)
    one_more t [] other e = absurd e
    one_more t (u ∷ ts) other e = (other, e)

    with_one : (p : Place) (o : Option L) (ts : List T) → IfSome o (λ l. is_end (token_at p l) ≡ false) → Ends is_end ts
        → Ends is_end (with_piece piece token_at end p o ts)
    with_one p None ts h e = e
    with_one p (Some l) ts h e = one_more (token_at p l) ts h e

    -- the tokens of a text end by its end
    pub tokens_end : (n : ℕ) (p : Place) (z : List ℕ) → Ends is_end (tokens_from piece token_at end n p z)
    tokens_end zero p [] = tells.at_end p
    tokens_end (suc n) p [] = tells.at_end p
    tokens_end (suc n) p (b ∷ z) = tokens_end n (after p b) z
    tokens_end zero p (b ∷ z) =
        with_one p (piece (b ∷ z)).lexeme (tokens_from piece token_at end ((piece (b ∷ z)).len - 1) (after p b) z)
        (tells.before (b ∷ z) p) (tokens_end ((piece (b ∷ z)).len - 1) (after p b) z)
