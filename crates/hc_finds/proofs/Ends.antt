-- The ends of channels, one use after another.
use Rattle.std.proofs.Common.{◌≡◌, refl, ap, ap₂, sym, subst, ◌∙◌, Option, ℕ, ◌+◌, ◌<◌, Bool, true, false, not, ◌&&◌, ◌||◌, List, [], ◌∷◌, ◌++◌, map, flat_map, take, drop, get_or, length, Ok, Err, append_assoc}
use Rattle.std.proofs.lemmas.Grind.{flat_map-append}
use Rattle.std.proofs.lemmas.List.{take_more, drop_more, map-append, append-nil}
use Rattle.std.proofs.lemmas.List.Folds.{list_any-append}
use Rattle.std.specs.Global.{Vec}
use Rattle.std.specs.List.{list_any}
use Rattle.std.specs.Cmp.Lexicographic.{nat_list_eq_equiv}
use Rattle.indexmap.specs.IndexSet.{insert_key}
use Rattle.hc_ast.specs.Bare.{Word}
use Rattle.hc_modules.specs.Bindings.{same_word}
use Rattle.hc_modules.specs.Found.{first_of, IsFirst}
use Rattle.hc_modules.specs.Outermost.{in_a_row}
use Rattle.hc_modules.proofs.Bound.{or_false, any_more, inserted}
use Rattle.hc_finds.specs.declared.uses.Use as code
use Rattle.hc_finds.specs.declared.uses.Ends.{Ends}
use Rattle.hc_finds.specs.Seen.{use_of, uses_seen, all_uses, channels_at, AreEnds}
use Rattle.hc_frac.specs.declared.place.Place.{Place}
use Rattle.hc_modules.specs.Finds.{only_if, along}
use Rattle.hc_finds.proofs.First.{along-at, first-here}
use Rattle.hc_modules.proofs.Firsts.{none_found, first_on}
use Rattle.hc_finds.specs.Uses.{Use, goes, is_use, have_use, shared_in, uses_in, uses_of}
use Rattle.hc_finds.specs.Refusals.{parts_in}
use Rattle.hc_modules.specs.declared.flat.FlatProcess.{FlatProcess}

module _ (old new : Ends) (u : Use) (us : List Use) (are : AreEnds old us) where
  new_end : (sends : Bool) (c : Word) → goes sends u ≡ true → channels_at sends new ≡ insert_key same_word (channels_at sends old) u.channel
      → list_any (same_word c) (channels_at sends new) ≡ list_any (is_use sends c) (us ++ u ∷ [])
  new_end sends c g k =
      ap (list_any (same_word c)) k ∙ inserted (channels_at sends old) u.channel c
      ∙ ap₂ (λ a b. a || b) (are sends c) (nat_list_eq_equiv.symm c u.channel ∙ ap (λ b. b && same_word u.channel c) (sym g))
      ∙ sym (any_more (is_use sends c) us u)

  same_end : (sends : Bool) (c : Word) → goes sends u ≡ false → channels_at sends new ≡ channels_at sends old
      → list_any (same_word c) (channels_at sends new) ≡ list_any (is_use sends c) (us ++ u ∷ [])
  same_end sends c g k =
      ap (list_any (same_word c)) k ∙ are sends c
      ∙ sym (or_false (list_any (is_use sends c) us)) ∙ ap (λ b. list_any (is_use sends c) us || (b && same_word u.channel c)) (sym g)
      ∙ sym (any_more (is_use sends c) us u)

  pub sent_more : u.sends ≡ true → new.sent.keys ≡ insert_key same_word old.sent.keys u.channel → new.received.keys ≡ old.received.keys
      → AreEnds new (us ++ u ∷ [])
  sent_more g k same true c = new_end true c g k
  sent_more g k same false c = same_end false c (ap not g) same

  pub received_more : u.sends ≡ false → new.received.keys ≡ insert_key same_word old.received.keys u.channel → new.sent.keys ≡ old.sent.keys
      → AreEnds new (us ++ u ∷ [])
  received_more g k same true c = same_end true c g same
  received_more g k same false c = new_end false c (ap not g) k

-- the uses up to number i and the one there, behind others
pub ends_more : (e : Ends) (us : List Use) (xs : List code.Use) (i : ℕ) (x : code.Use) → i < length xs → x ≡ get_or xs i x
    → AreEnds e ((us ++ uses_seen (take i xs)) ++ use_of x ∷ []) → AreEnds e (us ++ uses_seen (take (i + 1) xs))
ends_more e us xs i x h is are sends c =
    are sends c
    ∙ ap (λ y. list_any (is_use sends c) ((us ++ uses_seen (take i xs)) ++ use_of y ∷ [])) is
    ∙ ap (list_any (is_use sends c)) (append_assoc us (uses_seen (take i xs)) (use_of (get_or xs i x) ∷ []))
    ∙ ap (λ ys. list_any (is_use sends c) (us ++ ys)) (sym (ap uses_seen (take_more xs i x h) ∙ map-append use_of (take i xs) (get_or xs i x ∷ [])))

-- a use from number i on of a channel that its process uses in the other direction before
abbrev pub turned : List Use → Use → List Place
turned before u = only_if (list_any (is_use (not u.sends) u.channel) before) u.place

module _ (ends : Ends) (xs : List code.Use) (i : ℕ) (x : code.Use) (h : i < length xs) (is : x ≡ get_or xs i x)
    (are : AreEnds ends (uses_seen (take i xs))) (turns : Bool)
    (told : turns ≡ list_any (same_word x.channel.now) (channels_at (not x.sends) ends)) where
  abbrev behind : List Place
  behind = along turned (uses_seen (take (i + 1) xs)) (uses_seen (drop (i + 1) xs))

  turning : along turned (uses_seen (take i xs)) (uses_seen (drop i xs)) ≡ only_if turns x.place ++ behind
  turning =
      along-at turned use_of xs i x h
      ∙ ap (λ y. turned (uses_seen (take i xs)) (use_of y) ++ behind) (sym is)
      ∙ ap (λ b. only_if b x.place ++ behind) (sym (told ∙ are (not x.sends) x.channel.now))

  pub turned_here : turns ≡ true → first_of (along turned (uses_seen (take i xs)) (uses_seen (drop i xs))) ≡ Err x.place
  turned_here e = ap first_of turning ∙ ap (λ b. first_of (only_if b x.place ++ behind)) e

  pub turned_later : turns ≡ false → along turned (uses_seen (take i xs)) (uses_seen (drop i xs)) ≡ behind
  turned_later e = turning ∙ ap (λ b. only_if b x.place ++ behind) e

-- an end that one of these lists has is one of all
pub in_one : (sends : Bool) (c : Word) (uss : List (List Use)) → have_use sends c uss ≡ list_any (is_use sends c) (in_a_row uss)
in_one sends c [] = refl
in_one sends c (us ∷ uss) =
    ap (λ b. list_any (is_use sends c) us || b) (in_one sends c uss) ∙ sym (list_any-append (is_use sends c) us (in_a_row uss))

-- a use from number i on that shares its end with one before
module _ (sends : Bool) (before : Ends) (us : List (List Use)) (are : AreEnds before (in_a_row us)) (xs : List code.Use) (i : ℕ) (x : code.Use)
    (h : i < length xs) (is : x ≡ get_or xs i x) (shares : Bool)
    (told : shares ≡ (goes sends (use_of x) && list_any (same_word (use_of x).channel) (channels_at sends before))) where
  here : shared_in sends us (uses_seen (drop i xs)) ≡ only_if shares (use_of x).place ++ shared_in sends us (uses_seen (drop (i + 1) xs))
  here =
      ap (λ ys. shared_in sends us (uses_seen ys)) (drop_more xs i x h)
      ∙ ap (λ y. only_if (goes sends (use_of y) && have_use sends (use_of y).channel us) (use_of y).place ++ shared_in sends us (uses_seen (drop (i + 1) xs))) (sym is)
      ∙ ap (λ b. only_if b (use_of x).place ++ shared_in sends us (uses_seen (drop (i + 1) xs)))
      (ap (λ b. goes sends (use_of x) && b) (in_one sends (use_of x).channel us ∙ sym (are sends (use_of x).channel)) ∙ sym told)

  pub shared_here : shares ≡ true → first_of (shared_in sends us (uses_seen (drop i xs))) ≡ Err (use_of x).place
  shared_here e = ap first_of here ∙ ap (λ b. first_of (only_if b (use_of x).place ++ shared_in sends us (uses_seen (drop (i + 1) xs)))) e

  pub shared_later : shares ≡ false
      → first_of (shared_in sends us (uses_seen (drop i xs))) ≡ first_of (shared_in sends us (uses_seen (drop (i + 1) xs)))
  shared_later e = ap first_of here ∙ ap (λ b. first_of (only_if b (use_of x).place ++ shared_in sends us (uses_seen (drop (i + 1) xs)))) e

-- the uses of one process after another, from number i on
module _ (sends : Bool) (ps : List (Vec code.Use)) (i : ℕ) (p : Vec code.Use) (h : i < length ps) (is : p ≡ get_or ps i p) where
  next : along (shared_in sends) (all_uses (take i ps)) (all_uses (drop i ps))
      ≡ shared_in sends (all_uses (take i ps)) (uses_seen p.items)
      ++ along (shared_in sends) (all_uses (take (i + 1) ps)) (all_uses (drop (i + 1) ps))
  next =
      along-at (shared_in sends) (λ (us : Vec code.Use). uses_seen us.items) ps i p h
      ∙ ap (λ (q : Vec code.Use). shared_in sends (all_uses (take i ps)) (uses_seen q.items)
      ++ along (shared_in sends) (all_uses (take (i + 1) ps)) (all_uses (drop (i + 1) ps))) (sym is)

  pub process_here : (place : Place) → first_of (shared_in sends (all_uses (take i ps)) (uses_seen p.items)) ≡ Err place
      → first_of (along (shared_in sends) (all_uses (take i ps)) (all_uses (drop i ps))) ≡ Err place
  process_here place e = ap first_of next
      ∙ first-here (shared_in sends (all_uses (take i ps)) (uses_seen p.items))
      (along (shared_in sends) (all_uses (take (i + 1) ps)) (all_uses (drop (i + 1) ps))) place e

  pub process_later : first_of (shared_in sends (all_uses (take i ps)) (uses_seen p.items)) ≡ Ok tt
      → along (shared_in sends) (all_uses (take i ps)) (all_uses (drop i ps))
      ≡ along (shared_in sends) (all_uses (take (i + 1) ps)) (all_uses (drop (i + 1) ps))
  process_later e = next
      ∙ ap (λ xs. xs ++ along (shared_in sends) (all_uses (take (i + 1) ps)) (all_uses (drop (i + 1) ps)))
      (none_found (shared_in sends (all_uses (take i ps)) (uses_seen p.items)) tt e)

  row_more : in_a_row (all_uses (take (i + 1) ps)) ≡ in_a_row (all_uses (take i ps)) ++ uses_seen p.items
  row_more =
      ap (λ qs. in_a_row (all_uses qs)) (take_more ps i p h)
      ∙ ap in_a_row (map-append (λ (us : Vec code.Use). uses_seen us.items) (take i ps) (get_or ps i p ∷ []))
      ∙ flat_map-append (λ (us : List Use). us) (all_uses (take i ps)) (uses_seen (get_or ps i p).items ∷ [])
      ∙ ap (λ xs. in_a_row (all_uses (take i ps)) ++ xs) (append-nil (uses_seen (get_or ps i p).items))
      ∙ ap (λ (q : Vec code.Use). in_a_row (all_uses (take i ps)) ++ uses_seen q.items) (sym is)

  pub process_ends : (e : Ends) → AreEnds e (in_a_row (all_uses (take i ps)) ++ uses_seen p.items) → AreEnds e (in_a_row (all_uses (take (i + 1) ps)))
  process_ends e are at_send c = are at_send c ∙ ap (list_any (is_use at_send c)) (sym row_more)

-- what is found in the uses of each process, from number i on
module _ (look : List Use → List Place) (ps : List (Vec code.Use)) (i : ℕ) (p : Vec code.Use) (h : i < length ps) (is : p ≡ get_or ps i p) where
  each_next : flat_map look (all_uses (drop i ps)) ≡ look (uses_seen p.items) ++ flat_map look (all_uses (drop (i + 1) ps))
  each_next =
      ap (λ qs. flat_map look (all_uses qs)) (drop_more ps i p h)
      ∙ ap (λ (q : Vec code.Use). look (uses_seen q.items) ++ flat_map look (all_uses (drop (i + 1) ps))) (sym is)

  pub each_later : look (uses_seen p.items) ≡ [] → flat_map look (all_uses (drop i ps)) ≡ flat_map look (all_uses (drop (i + 1) ps))
  each_later e = each_next ∙ ap (λ xs. xs ++ flat_map look (all_uses (drop (i + 1) ps))) e

  -- a refusal of what is found in this one is the first of what is found from it on
  pub each_first : {E : Type 0} (told : E → Option E) (stop : Place → E) (s : E) → IsFirst told (map stop (look (uses_seen p.items))) s
      → IsFirst told (map stop (flat_map look (all_uses (drop i ps)))) s
  each_first told stop s h =
      subst (λ xs. IsFirst told (map stop xs) s) (sym each_next)
      (subst (λ xs. IsFirst told xs s) (sym (map-append stop (look (uses_seen p.items)) (flat_map look (all_uses (drop (i + 1) ps)))))
      (first_on told (map stop (look (uses_seen p.items))) (map stop (flat_map look (all_uses (drop (i + 1) ps)))) s h))

-- the uses in the parts of each process are those of each process
pub uses_alike : (ps : List FlatProcess) → map (flat_map uses_in) (map parts_in ps) ≡ map uses_of ps
uses_alike [] = refl
uses_alike (p ∷ ps) = ap (λ us. uses_of p ∷ us) (uses_alike ps)
