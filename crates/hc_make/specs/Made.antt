-- Made sources, this project's own: in each pair of processes one fills up to 24 at a rate that is drawn, a thousand times, and
-- the other adds up what it is sent.
use Rattle.std.specs.Prelude.{ℕ, zero, suc, ◌+◌, ◌%◌, List, [], ◌∷◌, ◌++◌, codes, decimal, slice_index_or}
use Rattle.rand_pcg.specs.Lcg.{Lcg, started, increment_of}
use Rattle.rand_pcg.specs.Pcg.{multiplier_64, pcg32}

-- by how much x grows in a time unit, by the word that is drawn; 24 is a multiple of each
abbrev pub rate_of : ℕ → ℕ
rate_of word = slice_index_or (1 ∷ 2 ∷ 3 ∷ 4 ∷ 6 ∷ 8 ∷ []) (word % 6) 1

-- process A of the pair number i
abbrev pub filling : ℕ → ℕ → List ℕ
filling i rate =
    codes "A" ++ decimal i ++ codes " = (k := 0; (x := 0; <x_dot = " ++ decimal rate ++ codes " & x < 24>; c" ++ decimal i
    ++ codes "!x; k := k + 1){k < 1000}**)"

-- process B
abbrev pub counting : ℕ → List ℕ
counting i =
    codes "B" ++ decimal i ++ codes " = (j := 0; (c" ++ decimal i ++ codes "?y; s := s + y; j := j + 1){j < 1000}**; log(s))"

-- the end of a line with a process behind which so many pairs follow
abbrev pub line_end : ℕ → List ℕ
line_end zero = 10 ∷ []
line_end (suc more) = codes " ||" ++ 10 ∷ []

abbrev pub pair : ℕ → ℕ → List ℕ
pair i rate = filling i rate ++ codes " ||" ++ 10 ∷ counting i

-- so many pairs from number i on, with the words that the generator gives, one for each
abbrev pub pairs : ℕ → ℕ → Lcg → List ℕ
pairs i zero g = []
pairs i (suc more) g = let drawn = pcg32 g in pair i (rate_of drawn.0) ++ line_end more ++ pairs (i + 1) more drawn.1

-- the generator of a seed, on stream 1
abbrev pub generator : ℕ → Lcg
generator seed = started 64 multiplier_64 seed (increment_of 64 1)

abbrev pub last_line : List ℕ
last_line = codes "endsystem" ++ 10 ∷ []

-- the text with so many pairs
abbrev pub made_text : ℕ → ℕ → List ℕ
made_text count seed = codes "system" ++ 10 ∷ (pairs 0 count (generator seed) ++ last_line)
