-- A first use of an option puts its row behind the rows.
use Rattle.std.proofs.Common.{◌≡◌, refl, ap, ◌∙◌, Bool, true, false, ◌||◌, List, [], ◌∷◌, ◌++◌, Some, None, cond}
use Rattle.std.specs.Str.{bytes_eq}
use Rattle.std.proofs.lemmas.List.{append-nil}
use Rattle.clap.specs.declared.builder.value_parser.Reading.{Reading}
use Rattle.clap.specs.declared.builder.value_parser.Reading.TheVariants as reading
use Rattle.clap.specs.declared.parser.matches.ValueSource.TheVariants.{CommandLine}
use Rattle.clap.specs.declared.parser.matches.ValueSource.{ValueSource}
use Rattle.clap.specs.Walk.{Text, Row, at_row, has_row, more_values, with_values, without}

-- what is found for an option that is used once
abbrev pub row_for : Text → Text → Row
row_for id v = record {
  id = id;
  values = v ∷ [];
  count = None;
  source = Some CommandLine;
  reading = reading.AsWritten;
}

pub at_no_row : (id : Text) (change : Row → List Row) (missing rows : List Row) → has_row id rows ≡ false →
    at_row id change missing rows ≡ rows ++ missing
at_no_row id change missing [] none = refl
at_no_row id change missing (r ∷ rs) none = go (bytes_eq r.id id) (at_no_row id change missing rs) none
  where
    go : (b : Bool) → (has_row id rs ≡ false → at_row id change missing rs ≡ rs ++ missing) → (b || has_row id rs) ≡ false →
        cond b (change r ++ rs) (r ∷ at_row id change missing rs) ≡ r ∷ rs ++ missing
    go true same e = cc e
    go false same e = ap (λ xs. r ∷ xs) (same e)

-- values for an argument that has no row
pub first_values : (id : Text) (how : Reading) (source : ValueSource) (values : List Text) (rows : List Row) → has_row id rows ≡ false →
    with_values id how source values rows ≡ rows ++ record { id = id; values = values; count = None; source = Some source; reading = how } ∷ []
first_values id how source values rows none =
    at_no_row id (more_values source values) (record { id = id; values = values; count = None; source = Some source; reading = how } ∷ []) rows none

pub first_use : (id v : Text) (rows : List Row) → has_row id rows ≡ false →
    with_values id reading.AsWritten CommandLine (v ∷ []) (without id rows) ≡ rows ++ row_for id v ∷ []
first_use id v rows none =
    ap (with_values id reading.AsWritten CommandLine (v ∷ [])) (at_no_row id (λ r. []) [] rows none ∙ append-nil rows)
    ∙ first_values id reading.AsWritten CommandLine (v ∷ []) rows none
