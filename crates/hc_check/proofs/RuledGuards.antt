-- The branches of a choice or an evolution against which nothing is found: their communications keep the rules.
use Rattle.std.proofs.Common.{◌≡◌, refl, ◌∙◌, ℕ, ◌+◌, ◌≤◌, nat_le, false, IsTrue, List, [], ◌∷◌, ◌++◌, length, map, arith, length-append}
use Rattle.std.specs.List.{list_any, list_all}
use Rattle.std.proofs.lemmas.List.{length-map}
use Rattle.std.proofs.lemmas.Bool.{le-leb}
use Rattle.std.proofs.lemmas.Bool.Decides.{nat_tests}
use Rattle.hc_ast.specs.Bare.{Word}
use Rattle.hc_ast.specs.declared.stmt.IoTree.{IoTree}
use Rattle.hc_ast.specs.declared.stmt.IoTree.TheVariants as io_of
use Rattle.hc_ast.specs.declared.stmt.RateTree.{RateTree}
use Rattle.hc_modules.proofs.Induction.{Each}
use Rattle.hc_term.specs.Profile.{is_io, is_same_io, are_guards, sends_affine}
use Rattle.hc_finds.specs.declared.rules.Rule.TheVariants as rule
use Rattle.hc_finds.specs.Exprs.{moves_of}
use Rattle.hc_finds.specs.Limits.{channel_of}
use Rattle.hc_finds.specs.Looks.{evolving, same_way, sent_in}
use Rattle.hc_finds.specs.Parts.{Guard, guards_from}
use Rattle.hc_check.specs.Numbered.{io_over}
use Rattle.hc_check.proofs.Apart.{Differ, apart}
use Rattle.hc_check.proofs.Clean.{is_named, IsClean}
use Rattle.hc_check.proofs.EachLists.{both, each_both, none_found}
use Rattle.hc_check.proofs.Numbers.{number_same}
use Rattle.hc_check.proofs.NumberedLines.{nothing_there}
use Rattle.hc_check.proofs.PartFacts.{guard_ruled, guard_plain}
use Rattle.hc_check.proofs.RuledExprs.{IsPlain, affine}
use Rattle.hc_check.proofs.RuledRates.{pattern, pattern_agrees}

abbrev pub ios : List Guard → List IoTree
ios gs = map (λ g. g.io) gs

not_more : (n : ℕ) → nat_le 32 n ≡ false → n + 1 ≤ 32
not_more n h = grind (arith, nat_tests)

module _ (cs xs : List Word) (rs : List RateTree) where
  -- the branches, behind these communications, without a find
  abbrev pub AreClean : List IoTree → List Guard → Type 0
  AreClean earlier gs = Each (IsClean cs xs) (guards_from rs earlier gs)

  later : (earlier : List IoTree) (g : Guard) (gs : List Guard) → AreClean earlier (g ∷ gs)
      → Each (IsClean cs xs) g.inside × AreClean (earlier ++ g.io ∷ []) gs
  later earlier g gs h = each_both (IsClean cs xs) g.inside (guards_from rs (earlier ++ g.io ∷ []) gs) h.1

  few : (earlier : List IoTree) (gs : List Guard) → length earlier ≤ 32 → AreClean earlier gs → length earlier + length gs ≤ 32
  few earlier [] most h = omega arith
  few earlier (g ∷ gs) most h =
      let room : length earlier + 1 ≤ 32 = not_more (length earlier) (nothing_there (nat_le 32 (length earlier)) g.place h.0.guards) in
      let rest = few (earlier ++ g.io ∷ []) gs (omega (arith, room, length-append earlier (g.io ∷ []))) (later earlier g gs h).1 in
      omega (arith, rest, length-append earlier (g.io ∷ []))

  each_io : (earlier : List IoTree) (gs : List Guard) → AreClean earlier gs
      → IsTrue (list_all (is_io (length cs) (length xs)) (map (io_over cs xs) (ios gs)))
  each_io earlier [] h = refl
  each_io earlier (g ∷ gs) h = both (guard_ruled cs xs rs earlier g.place g.io h.0) (each_io (earlier ++ g.io ∷ []) gs (later earlier g gs h).1)

  abbrev HasChannel : IoTree → Type 0
  HasChannel i = IsTrue (is_named cs (channel_of i))

  have_channels : (earlier : List IoTree) (gs : List Guard) → AreClean earlier gs → Each HasChannel (ios gs)
  have_channels earlier [] h = tt
  have_channels earlier (g ∷ gs) h = (h.0.channels.0, have_channels (earlier ++ g.io ∷ []) gs (later earlier g gs h).1)

  ios_differ : (earlier : List IoTree) (gs : List Guard) → AreClean earlier gs → Differ same_way earlier (ios gs)
  ios_differ earlier [] h = tt
  ios_differ earlier (g ∷ gs) h = (
    nothing_there (list_any (λ j. same_way j g.io) earlier) g.place (h.0.lawful rule.RepeatedGuard),
    ios_differ (earlier ++ g.io ∷ []) gs (later earlier g gs h).1,
  )

  one_way : (i j : IoTree) → HasChannel i → HasChannel j → is_same_io (io_over cs xs i) (io_over cs xs j) ≡ same_way i j
  one_way (io_of.Send c e) (io_of.Send d f) h k = number_same cs c d k
  one_way (io_of.Send c e) (io_of.Receive d y) h k = refl
  one_way (io_of.Receive c x) (io_of.Send d f) h k = refl
  one_way (io_of.Receive c x) (io_of.Receive d y) h k = number_same cs c d k

  pub guards_ruled : (gs : List Guard) → AreClean [] gs → IsTrue (are_guards (length cs) (length xs) (map (io_over cs xs) (ios gs)))
  guards_ruled gs h =
      let count = length-map (ios gs) (io_over cs xs) ∙ length-map gs (λ g. g.io) in
      both (both (le-leb _ _ (omega (arith, count, few [] gs (omega arith) h))) (each_io [] gs h))
      (apart same_way is_same_io (io_over cs xs) HasChannel one_way [] (ios gs) (have_channels [] gs h) (ios_differ [] gs h))

  -- what the branches send moves along a line

  sends : (i : IoTree) → Each (IsPlain xs) (sent_in i) → Each (λ e. (moves_of (evolving rs) e).products ≡ []) (sent_in i)
      → IsTrue (sends_affine (pattern cs xs rs) (io_over cs xs i))
  sends (io_of.Send c e) plain none = affine xs (evolving rs) (pattern cs xs rs) (pattern_agrees xs rs) e (plain.0, none.0)
  sends (io_of.Receive c x) plain none = refl

  pub all_send : (earlier : List IoTree) (gs : List Guard) → AreClean earlier gs
      → IsTrue (list_all (sends_affine (pattern cs xs rs)) (map (io_over cs xs) (ios gs)))
  all_send earlier [] h = refl
  all_send earlier (g ∷ gs) h =
      both (sends g.io (guard_plain cs xs rs earlier g.place g.io h.0)
      (none_found (λ e. (moves_of (evolving rs) e).products) (sent_in g.io) (h.0.lawful rule.NotAffine)))
      (all_send (earlier ++ g.io ∷ []) gs (later earlier g gs h).1)

  pub insides : (earlier : List IoTree) (gs : List Guard) → AreClean earlier gs → Each (λ g. Each (IsClean cs xs) g.inside) gs
  insides earlier [] h = tt
  insides earlier (g ∷ gs) h = let r = later earlier g gs h in (r.0, insides (earlier ++ g.io ∷ []) gs r.1)
