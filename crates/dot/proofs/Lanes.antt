-- Eight partial sums in a list. `Lanes p n l`: l holds the partial sums of the first n products. Assumes nothing.
use Prim.Native.Nat.{ℕ, suc, ◌+◌, ◌*◌, ◌/◌, ◌%◌, ◌<◌, ◌≤◌}
use mathlib.Core.Path.{◌≡◌, refl, ◌∙◌}
use mathlib.Core.List.{List}
use native.Mathlib.Omega.{arith}
use native.Mathlib.Decide.{ℕ_discrete, dec_lt}
use lib.ListN.{length, get_or, set, replicate, length-set, get_or-replicate}
use lib.Seq.{get_or-set_same, get_or-set_other}
use lib.Ieee.{Float, nan}
use Rattle.types.specs.Bits.{zero32}
use Rattle.definition.specs.Floats.{◌+f◌}
use Rattle.definition.specs.Slices.{lane, lane_count, sum8, tree}
use Rattle.dot.specs.Added.{Added}

pub record Lanes (p : ℕ → Float) (n : ℕ) (l : List Float) : Type 0 where
  pub long : length l ≡ 8
  pub sums : (k : ℕ) → k < 8 → get_or l k nan ≡ lane p k (lane_count n k)

pub lanes_none : (p : ℕ → Float) → Lanes p 0 (replicate 8 zero32)
unfolding lane
lanes_none p = record { long = refl; sums = λ k h. let e : lane_count 0 k ≡ 0 = omega arith in get_or-replicate 8 k zero32 nan h ∙ rw e }

more_at : (p : ℕ → Float) (n k : ℕ) (l : List Float) → Lanes p n l → k < 8 → Dec (k ≡ n % 8)
    → get_or (set l (n % 8) (get_or l (n % 8) nan +f p n)) k nan ≡ lane p k (lane_count (n + 1) k)
unfolding lane
more_at p n k l s h (yes e) =
    let c0 : lane_count n (n % 8) ≡ n / 8 = omega arith in
    let c1 : lane_count (n + 1) (n % 8) ≡ suc (n / 8) = omega arith in
    let i : 8 * (n / 8) + n % 8 ≡ n = omega arith in
    rw (e, get_or-set_same l (n % 8) (get_or l (n % 8) nan +f p n) nan (omega arith), c1, i, s.sums (n % 8) (omega arith), c0)
more_at p n k l s h (no d) =
    let c1 : lane_count (n + 1) k ≡ lane_count n k = omega arith in
    get_or-set_other l (n % 8) k (get_or l (n % 8) nan +f p n) nan d ∙ s.sums k h ∙ rw c1

-- product n, which is v, goes to partial sum n % 8
pub lanes_more : (p : ℕ → Float) (n : ℕ) (l : List Float) (v : Float) → v ≡ p n → Lanes p n l → Lanes p (n + 1) (set l (n % 8) (get_or l (n % 8) nan +f v))
lanes_more p n l v e s =
    rw e (record { long = simp length-set s.long; sums = λ k h. more_at p n k l s h (ℕ_discrete k (n % 8)) })

pub lanes_tree : (p : ℕ → Float) (n : ℕ) {l : List Float} → Lanes p n l → tree (λ k. get_or l k nan) ≡ sum8 p n
unfolding sum8
lanes_tree p n {l} s =
    let at : (k : ℕ) → k < 8 → get_or l k nan ≡ lane p k (lane_count n k) = s.sums in
    rw (at 0 (omega arith), at 1 (omega arith), at 2 (omega arith), at 3 (omega arith), at 4 (omega arith), at 5 (omega arith), at 6 (omega arith), at 7 (omega arith))

sums_at : (p : ℕ → Float) (n m k : ℕ) {l l' : List Float} → Lanes p n l → n % 8 ≡ 0 → m ≤ 8 → Added p n m l l' → k < 8 → Dec (k < m)
    → get_or l' k nan ≡ lane p k (lane_count (n + m) k)
unfolding lane
sums_at p n m k s z b a h (yes q) =
    let c0 : lane_count n k ≡ n / 8 = omega arith in
    let c1 : lane_count (n + m) k ≡ suc (n / 8) = omega arith in
    let i : 8 * (n / 8) + k ≡ n + k = omega arith in
    rw (a.done k q, s.sums k h, c0, c1, i)
sums_at p n m k s z b a h (no d) =
    let c1 : lane_count (n + m) k ≡ lane_count n k = omega arith in
    rw (a.kept k (omega arith), s.sums k h, c1)

-- a block of m products, from a multiple of eight on
pub added_lanes : (p : ℕ → Float) (n m : ℕ) {l l' : List Float} → Lanes p n l → n % 8 ≡ 0 → m ≤ 8 → Added p n m l l' → Lanes p (n + m) l'
added_lanes p n m s z b a = record { long = a.long ∙ s.long; sums = λ k h. sums_at p n m k s z b a h (dec_lt k m) }

-- the next block of eight
pub lanes_block : (p : ℕ → Float) (b : ℕ) {l l' : List Float} → Lanes p (8 * b) l → Added p (8 * b) 8 l l' → Lanes p (8 * (b + 1)) l'
lanes_block p b s a =
    let e : 8 * (b + 1) ≡ 8 * b + 8 = omega arith in
    rw e (added_lanes p (8 * b) 8 s (omega arith) (omega arith) a)

-- the blocks of eight, then the rest
pub lanes_rest : (p : ℕ → Float) (b n : ℕ) {l l' : List Float} → b ≡ n / 8 → Lanes p (8 * b) l → Added p (8 * (n / 8)) (n % 8) l l'
    → tree (λ k. get_or l' k nan) ≡ sum8 p n
lanes_rest p b n {l} q s a =
    let e : 8 * (n / 8) + n % 8 ≡ n = omega arith in
    let t : Lanes p (8 * (n / 8)) l = rw q at s in
    lanes_tree p (8 * (n / 8) + n % 8) (added_lanes p (8 * (n / 8)) (n % 8) t (omega arith) (omega arith) a) ∙ rw e
