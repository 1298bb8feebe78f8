-- NUMBER AND POINT. "The decision gives point and number together, and its callers hand the number through to a lent byte slice, one per sample, 255
-- where the mark isn't 0." "All paths and every constellation share the proof that number and point belong together."
use Rattle.std.specs.Prelude.{ℕ, ◌+◌, ◌*◌, ◌<◌, ◌≡◌, ◌≢◌, ◌↔◌, List, length, get_or, take}
use Rattle.std.specs.Float.{nan}
use Rattle.types.specs.declared.C32.{C32}
use Rattle.types.specs.declared.EqConstellation.{EqConstellation}
use Rattle.definition.specs.Floats.{complex, zero_c}
use Rattle.definition.specs.Points.{decide, number_of, point_of, point_count}
use Rattle.definition.specs.Sample.{Equalizer, Letters, all_taps, forward, no_number, hear}
use Rattle.definition.specs.Run.{run_def, written, symbol_parts, mark_byte, number_byte}
use Rattle.demands.specs.Marks.{window_of, sum_of}

-- ---- of every constellation k, and of every z, also one that is not finite

pub record Belongs : Type 0 where
  -- the number is that of one of k's points: 0 to one less than their count
  pub below : (k : EqConstellation) (z : C32) → number_of k z < point_count k
  -- "number and point belong together": the decision is the point of the number
  pub point : (k : EqConstellation) (z : C32) → decide k z ≡ point_of k (number_of k z)
  -- each number has a point of its own
  pub apart : (k : EqConstellation) (n m : ℕ) → n < point_count k → m < point_count k → point_of k n ≡ point_of k m → n ≡ m
  -- which itself has that number
  pub back : (k : EqConstellation) (n : ℕ) → n < point_count k → number_of k (point_of k n) ≡ n

-- ---- of sample i of a run over xs from q, as the lent slices have it

abbrev pub run_symbol : Equalizer → List C32 → ℕ → C32
run_symbol q xs i =
    let l = written symbol_parts (run_def q xs).outs in
    complex (get_or l (2 * i) nan) (get_or l (2 * i + 1) nan)

abbrev pub run_mark : Equalizer → List C32 → ℕ → ℕ
run_mark q xs i = get_or (written mark_byte (run_def q xs).outs) i 0

abbrev pub run_number : Equalizer → List C32 → ℕ → ℕ
run_number q xs i = get_or (written number_byte (run_def q xs).outs) i 0

-- what steps 4 to 7 make of the sample x, handed to q
abbrev pub letters_of : Equalizer → C32 → Letters
letters_of q x = hear q.state (all_taps q) (forward q) (window_of q x) (sum_of q x)

-- what is said of it, where k is the record's constellation
pub record NumberSays (k : EqConstellation) (q : Equalizer) (xs : List C32) (i : ℕ) : Type 0 where
  -- "255 where the mark isn't 0", and only there
  pub none : (run_number q xs i ≡ no_number) ↔ (run_mark q xs i ≢ 0)
  -- where it is 0, the number is that of the symbol, which is z
  pub number : run_mark q xs i ≡ 0 → run_number q xs i ≡ number_of k (run_symbol q xs i)
  -- and its point is d, the decision that error and feedback go by, of what the i samples before have left
  pub point : run_mark q xs i ≡ 0 → point_of k (run_number q xs i) ≡ (letters_of (run_def q (take i xs)).equalizer (get_or xs i zero_c)).d

-- for every q, accepted or not
abbrev pub EveryNumber : Type 0
EveryNumber = (q : Equalizer) (xs : List C32) (i : ℕ) → i < length xs → NumberSays q.state.params.constellation q xs i
