-- Parts one after another.
use Rattle.std.proofs.Common.{◌≡◌, ap, ◌∙◌, ℕ, ◌+◌, ◌<◌, List, ◌∷◌, ◌++◌, map, flat_map, drop, get_or, length, Ok, Err}
use Rattle.std.proofs.lemmas.List.{drop_more, map-append}
use Rattle.std.proofs.lemmas.Grind.{flat_map-append}
use Rattle.std.specs.Global.{Vec}
use Rattle.hc_modules.specs.Found.{first_of}
use Rattle.hc_modules.specs.Outermost.{in_a_row}
use Rattle.hc_frac.specs.declared.place.Place.{Place}
use Rattle.hc_finds.specs.declared.parts.Part as program
use Rattle.hc_finds.specs.declared.rules.Rule.{Rule}
use Rattle.hc_finds.specs.declared.stop.CheckStop.{CheckStop}
use Rattle.hc_finds.specs.Rules.{breaks, refused_by, broken}
use Rattle.hc_finds.specs.Seen.{part_of, seen, each_seen}
use Rattle.hc_finds.proofs.First.{said-here, said-later, first-here, first-later}

-- from number i on
pub seen-more : (ps : List program.Part) (i : ℕ) (d : program.Part) → i < length ps
    → seen (drop i ps) ≡ part_of (get_or ps i d) ∷ seen (drop (i + 1) ps)
seen-more ps i d h = ap seen (drop_more ps i d h)

pub broken-here : (r : Rule) (ps : List program.Part) (i : ℕ) (d : program.Part) (p : Place) → i < length ps
    → first_of (breaks r (part_of (get_or ps i d))) ≡ Err p → first_of (broken r (seen (drop i ps))) ≡ Err (refused_by r p)
broken-here r ps i d p h e =
    ap (λ xs. first_of (broken r xs)) (seen-more ps i d h)
    ∙ said-here (refused_by r) (breaks r (part_of (get_or ps i d))) (flat_map (breaks r) (seen (drop (i + 1) ps))) p e

pub broken-later : (r : Rule) (ps : List program.Part) (i : ℕ) (d : program.Part) → i < length ps
    → first_of (breaks r (part_of (get_or ps i d))) ≡ Ok tt
    → first_of (broken r (seen (drop i ps))) ≡ first_of (broken r (seen (drop (i + 1) ps)))
broken-later r ps i d h e =
    ap (λ xs. first_of (broken r xs)) (seen-more ps i d h)
    ∙ said-later (refused_by r) (breaks r (part_of (get_or ps i d))) (flat_map (breaks r) (seen (drop (i + 1) ps))) e

-- the parts of one process after another, from number i on
module _ (r : Rule) (ps : List (Vec program.Part)) (i : ℕ) (d : Vec program.Part) (h : i < length ps) where
  row-next : broken r (in_a_row (each_seen (drop i ps)))
      ≡ broken r (seen (get_or ps i d).items) ++ broken r (in_a_row (each_seen (drop (i + 1) ps)))
  row-next =
      ap (λ qs. broken r (in_a_row (each_seen qs))) (drop_more ps i d h)
      ∙ ap (map (refused_by r)) (flat_map-append (breaks r) (seen (get_or ps i d).items) (in_a_row (each_seen (drop (i + 1) ps))))
      ∙ map-append (refused_by r) (flat_map (breaks r) (seen (get_or ps i d).items)) (flat_map (breaks r) (in_a_row (each_seen (drop (i + 1) ps))))

  pub row-here : (s : CheckStop) → first_of (broken r (seen (get_or ps i d).items)) ≡ Err s
      → first_of (broken r (in_a_row (each_seen (drop i ps)))) ≡ Err s
  row-here s e = ap first_of row-next
      ∙ first-here (broken r (seen (get_or ps i d).items)) (broken r (in_a_row (each_seen (drop (i + 1) ps)))) s e

  pub row-later : first_of (broken r (seen (get_or ps i d).items)) ≡ Ok tt
      → first_of (broken r (in_a_row (each_seen (drop i ps)))) ≡ first_of (broken r (in_a_row (each_seen (drop (i + 1) ps))))
  row-later e = ap first_of row-next
      ∙ first-later (broken r (seen (get_or ps i d).items)) (broken r (in_a_row (each_seen (drop (i + 1) ps)))) e
