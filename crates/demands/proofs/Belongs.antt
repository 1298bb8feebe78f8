-- Number and point belong together: by the tests that both go by, and each number's own point computed. Assumes nothing.
use Prim.Native.Nat.{ℕ, zero, suc, ◌+◌, ◌-◌, ◌*◌, ◌/◌, ◌%◌, ◌<◌}
use mathlib.Core.Path.{◌≡◌, refl, sym, ◌∙◌, ap}
use mathlib.Core.Bool.{Bool, true, false, cond, ◌&&◌}
use native.Mathlib.Nat.{not-suc-le-zero}
use native.Mathlib.Numerals.{add-one}
use native.Mathlib.Omega.{arith}
use borrow.Author.Count.{below_more}
use lib.ListN.{get_or}
use lib.Dec.{T, eqb, ltb, lit<, eqb→eq, ltb→lt}
use lib.Ieee.{Float, lt, le, neg}
use lib.Ieee.Fits.{and_l, and_r}
use Rattle.std.proofs.lemmas.Nat.{mul-add-lt, div-mul-add, mod-mul-add}
use Rattle.types.specs.declared.C32.{C32}
use Rattle.types.specs.declared.Qam.{Qam}
use Rattle.types.specs.declared.Qam.TheVariants as qam
use Rattle.types.specs.declared.EqConstellation.{EqConstellation}
use Rattle.types.specs.declared.EqConstellation.TheVariants.{Bpsk, Qpsk, Psk8, Qam16, Qam64}
use Rattle.types.specs.Bits.{zero32, one32}
use Rattle.definition.specs.Floats.{◌+f◌, ◌*f◌, abs, complex}
use Rattle.definition.specs.Points.{A, side, octant, octant_point, level_count, half_root_e, half_count, level_of, level_at, qam_point, decide, digit, grays, symbol_of, number_of, point_count, signed, ungrays, symbol_point, point_of}
use Rattle.definition.proofs.Computed.{computed}
use Rattle.definition.proofs.Held.{held_le}
use Rattle.demands.specs.Numbers.{Belongs}

-- ---- a test of each number below n

unfoldable all_below : (ℕ → Bool) → ℕ → Bool
all_below t zero = true
all_below t (suc n) = t n && all_below t n

each_below : (t : ℕ → Bool) (n i : ℕ) → T (all_below t n) → i < n → T (t i)
unfolding all_below
each_below t zero i a h = absurd (not-suc-le-zero h)
each_below t (suc n) i a h =
    below_more (λ (k : ℕ). T (t k)) n (λ k l. each_below t n k (and_r (t n) (all_below t n) a) l) (and_l (t n) (all_below t n) a) i (rw (add-one n) h)

-- ---- BPSK and QPSK, by v < 0

bpsk : (b : Bool) → (digit b < 2) × (cond b (neg one32) one32 ≡ signed (digit b) one32)
bpsk true = (lit< tt, refl)
bpsk false = (lit< tt, refl)

qpsk : (b c : Bool) → let n = 2 * digit b + digit c in (n < 4) × (complex (cond b (neg A) A) (cond c (neg A) A) ≡ complex (signed (n / 2) A) (signed (n % 2) A))
qpsk true true = (lit< tt, refl)
qpsk true false = (lit< tt, refl)
qpsk false true = (lit< tt, refl)
qpsk false false = (lit< tt, refl)

-- ---- 8-PSK: the octant is one of eight

octant_below : (z : C32) → octant z < 8
unfolding octant
octant_below z =
    let wide = lt (abs z.im) (abs z.re) in
    let tall = lt (abs z.re) (abs z.im) in
    go (lt zero32 z.re && le zero32 z.im) wide (le z.re zero32 && lt zero32 z.im) tall (lt z.re zero32 && le z.im zero32) (le zero32 z.re && lt z.im zero32)
  where
    go : (a b c d e f : Bool) → cond a (cond b 0 1) (cond c (cond d 2 3) (cond e (cond b 4 5) (cond f (cond d 6 7) 0))) < 8
    go true true c d e f = lit< tt
    go true false c d e f = lit< tt
    go false b true true e f = lit< tt
    go false b true false e f = lit< tt
    go false true false d true f = lit< tt
    go false false false d true f = lit< tt
    go false b false true false true = lit< tt
    go false b false false false true = lit< tt
    go false b false d false false = lit< tt

-- ---- QAM, of either count of levels

some_levels : (k : Qam) → 0 < level_count k
some_levels qam.Qam16 = lit< tt
some_levels qam.Qam64 = lit< tt

level_below : (k : Qam) (v : Float) → level_of k v < level_count k
unfolding level_of
level_below k v =
    let h = held_le (level_count k - 1) (v *f half_root_e k +f half_count k) in
    let p = some_levels k in
    omega arith

abbrev code : ℕ → ℕ
code i = get_or grays i 0

abbrev level : ℕ → ℕ
level n = get_or ungrays n 0

-- the code of a level is one of as many, and leads back
abbrev code_fits : ℕ → ℕ → Bool
code_fits m i = ltb (code i) m && eqb (level (code i)) i

codes_fit : (k : Qam) → T (all_below (code_fits (level_count k)) (level_count k))
unfolding all_below
codes_fit qam.Qam16 = tt
codes_fit qam.Qam64 = tt

module _ (k : Qam) (v : Float) where
  code_below : code (level_of k v) < level_count k
  code_below =
      let t = each_below (code_fits (level_count k)) (level_count k) (level_of k v) (codes_fit k) (level_below k v) in
      ltb→lt _ _ (and_l _ _ t)

  code_back : level (code (level_of k v)) ≡ level_of k v
  code_back =
      let t = each_below (code_fits (level_count k)) (level_count k) (level_of k v) (codes_fit k) (level_below k v) in
      eqb→eq _ _ (and_r _ _ t)

symbol_below : (k : Qam) (z : C32) → symbol_of k z < level_count k * level_count k
unfolding symbol_of
symbol_below k z = mul-add-lt _ _ _ _ (code_below k z.re) (code_below k z.im)

symbol_point_lem : (k : Qam) (z : C32) → qam_point k z ≡ symbol_point k (symbol_of k z)
unfolding qam_point level_at symbol_of symbol_point
symbol_point_lem k z =
    let m = level_count k in
    let a = code (level_of k z.re) in
    let b = code (level_of k z.im) in
    rw (div-mul-add a m b (code_below k z.im), mod-mul-add a m b (code_below k z.im), code_back k z.re, code_back k z.im)

-- ---- every constellation

number_below : (k : EqConstellation) (z : C32) → number_of k z < point_count k
unfolding number_of
number_below Bpsk z = (bpsk (lt z.re zero32)).0
number_below Qpsk z = (qpsk (lt z.re zero32) (lt z.im zero32)).0
number_below Psk8 z = octant_below z
number_below Qam16 z = symbol_below qam.Qam16 z
number_below Qam64 z = symbol_below qam.Qam64 z

point_is : (k : EqConstellation) (z : C32) → decide k z ≡ point_of k (number_of k z)
unfolding number_of point_of decide side octant_point
point_is Bpsk z = ap (λ (x : Float). complex x zero32) (bpsk (lt z.re zero32)).1
point_is Qpsk z = (qpsk (lt z.re zero32) (lt z.im zero32)).1
point_is Psk8 z = refl
point_is Qam16 z = symbol_point_lem qam.Qam16 z
point_is Qam64 z = symbol_point_lem qam.Qam64 z

-- each number's own point, computed: 94 in all
abbrev leads_back : EqConstellation → ℕ → Bool
leads_back k n = eqb (number_of k (point_of k n)) n

all_lead_back : (k : EqConstellation) → T (all_below (leads_back k) (point_count k))
unfolding computed all_below
all_lead_back Bpsk = tt
all_lead_back Qpsk = tt
all_lead_back Psk8 = tt
all_lead_back Qam16 = tt
all_lead_back Qam64 = tt

point_back : (k : EqConstellation) (n : ℕ) → n < point_count k → number_of k (point_of k n) ≡ n
point_back k n h = eqb→eq _ _ (each_below (leads_back k) (point_count k) n (all_lead_back k) h)

pub belongs : Belongs
belongs = record {
  below = number_below;
  point = point_is;
  apart = λ k n m h l e. sym (point_back k n h) ∙ ap (number_of k) e ∙ point_back k m l;
  back = point_back;
}
