-- What flush and clip leave, and where a sum or a product is no NaN. Assumes nothing.
use Prim.Native.Nat.{ℕ, ◌+◌, ◌*◌, ◌^◌, ◌<◌}
use native.Mathlib.Omega.{arith}
use mathlib.Core.Path.{◌≡◌, refl, subst, sym, ap}
use mathlib.Core.Bool.{Bool, true, false, cond, ◌&&◌, ◌||◌, beq}
use lib.IntN.{negsuc}
use lib.Count.{count_trailing_zeros}
use lib.Dec.{T, ltb}
use lib.Ieee.{Float, nan, inf, fin, Format, prec, emax, low, up, down, unlike, of_bits, of_fields, odd, to_bits, size, span, climb, units, round, neg, sum, add, mul, lt, le, eq}
use lib.Ieee.Fits.{and_i, and_r, down_pos}
use borrow.Author.Tests.{lt-ltb}
use lib.Ieee.Scale.{finite}
use Rattle.laws.specs.Order.{number, le_of_not_lt, or_l, or_r}
use Rattle.types.specs.Bits.{zero32}
use Rattle.definition.specs.Floats.{tiny, max_freq, abs, flush, clip}
use Rattle.definition.specs.Rules.{plus_zero, weight_fits, freq_fits}

-- ---- +0

zero_plus : T (plus_zero zero32)
unfolding plus_zero of_bits of_fields odd to_bits size span climb
zero_plus = tt

pub finite_zero : T (finite zero32)
unfolding of_bits of_fields odd
finite_zero = tt

pub plus_finite : (v : Float) → T (plus_zero v) → T (finite v)
unfolding plus_zero to_bits
plus_finite nan h = h
plus_finite (inf true) h = h
plus_finite (inf false) h = h
plus_finite (fin s m e) h = tt

tiny_number : T (number tiny)
unfolding of_bits of_fields odd count_trailing_zeros
tiny_number = tt

abs_number : (v : Float) → T (number v) → T (number (abs v))
abs_number nan h = h
abs_number (inf s) h = h
abs_number (fin s m e) h = h

finite_number : (v : Float) → T (finite v) → T (number v)
finite_number nan h = h
finite_number (inf s) h = absurd h
finite_number (fin s m e) h = tt

-- ---- |x| < tiny, by two tests

some_l : (d b : ℕ) → 0 < d → 0 < 332307 * d + b
some_l d b h = omega arith

some_r : (d b : ℕ) → 0 < d → 0 < b + 332307 * d
some_r d b h = omega arith

and_true : (a b : Bool) → b ≡ true → a ≡ (a && b)
and_true true b h = sym h
and_true false b h = refl

true_and : (a b : Bool) → a ≡ true → b ≡ (a && b)
true_and a b h = ap (λ (x : Bool). x && b) (sym h)

pub both_tests : (x : Float) → lt (abs x) tiny ≡ (lt x tiny && lt (neg tiny) x)
unfolding lt neg of_bits
both_tests nan = refl
both_tests (inf true) = refl
both_tests (inf false) = refl
both_tests (fin false m e) = and_true (ltb (m * up e * 2 ^ 118) (332307 * down e)) (ltb 0 (332307 * down e + m * up e * 2 ^ 118)) (lt-ltb _ _ (some_l (down e) (m * up e * 2 ^ 118) (down_pos e)))
both_tests (fin true m e) = true_and (ltb 0 (m * up e * 2 ^ 118 + 332307 * down e)) (ltb (m * up e * 2 ^ 118) (332307 * down e)) (lt-ltb _ _ (some_r (down e) (m * up e * 2 ^ 118) (down_pos e)))

-- ---- flush: what is finite after it fits a weight

pub zero_fits : T (weight_fits zero32)
unfolding weight_fits
zero_fits = or_l (plus_zero zero32) (finite zero32 && le tiny (abs zero32)) zero_plus

pub flush_fits : (v : Float) → T (finite (flush v)) → T (weight_fits (flush v))
unfolding flush
flush_fits v = go (lt (abs v) tiny) refl
  where
    go : (b : Bool) → lt (abs v) tiny ≡ b → T (finite (cond b zero32 v)) → T (weight_fits (cond b zero32 v))
    go true e h = zero_fits
    go false e h = unfold weight_fits in (or_r (plus_zero v) (finite v && le tiny (abs v)) (and_i (finite v) (le tiny (abs v)) h (le_of_not_lt (abs v) tiny (abs_number v (finite_number v h)) tiny_number e)))

-- ---- flush and clip of a number fit freq

max_fits : T (freq_fits max_freq)
unfolding freq_fits plus_zero of_bits of_fields odd count_trailing_zeros to_bits size span climb le lt eq
max_fits = tt

neg_max_fits : T (freq_fits (neg max_freq))
unfolding freq_fits plus_zero of_bits of_fields odd count_trailing_zeros to_bits size span climb le lt eq neg
neg_max_fits = tt

pub zero_freq_fits : T (freq_fits zero32)
unfolding freq_fits
zero_freq_fits = or_l (plus_zero zero32) (le tiny (abs zero32) && le (abs zero32) max_freq) zero_plus

max_finite : (v : Float) → T (le (abs v) max_freq) → T (finite v)
unfolding of_bits of_fields odd count_trailing_zeros le lt eq
max_finite nan h = h
max_finite (inf s) h = h
max_finite (fin s m e) h = tt

under_max : (v : Float) → T (number v) → lt max_freq v ≡ false → lt v (neg max_freq) ≡ false → T (le (abs v) max_freq)
unfolding of_bits of_fields odd count_trailing_zeros lt neg
under_max nan n a b = absurd n
under_max (inf true) n a b = absurd (subst T b tt)
under_max (inf false) n a b = absurd (subst T a tt)
under_max (fin false m e) n a b = le_of_not_lt (fin false 1 (negsuc 2)) (fin false m e) tt tt a
under_max (fin true m e) n a b = le_of_not_lt (fin false 1 (negsuc 2)) (fin false m e) tt tt b

clip_fits : (v : Float) → (lt max_freq v ≡ false → lt v (neg max_freq) ≡ false → T (freq_fits v)) → T (freq_fits (clip v max_freq))
unfolding clip
clip_fits v h = go (lt max_freq v) (lt v (neg max_freq)) refl refl
  where
    go : (a b : Bool) → lt max_freq v ≡ a → lt v (neg max_freq) ≡ b → T (freq_fits (cond a max_freq (cond b (neg max_freq) v)))
    go true b x y = max_fits
    go false true x y = neg_max_fits
    go false false x y = h x y

within_fits : (v : Float) → T (number v) → lt (abs v) tiny ≡ false → lt max_freq v ≡ false → lt v (neg max_freq) ≡ false → T (freq_fits v)
unfolding freq_fits
within_fits v n e x y =
    or_r (plus_zero v) (le tiny (abs v) && le (abs v) max_freq)
    (and_i (le tiny (abs v)) (le (abs v) max_freq) (le_of_not_lt (abs v) tiny (abs_number v n) tiny_number e) (under_max v n x y))

pub freq_fits_lem : (v : Float) → T (number v) → T (freq_fits (clip (flush v) max_freq))
unfolding flush
freq_fits_lem v n = go (lt (abs v) tiny) refl
  where
    go : (b : Bool) → lt (abs v) tiny ≡ b → T (freq_fits (clip (cond b zero32 v) max_freq))
    go true e = clip_fits zero32 (λ x y. zero_freq_fits)
    go false e = clip_fits v (λ x y. within_fits v n e x y)

pub freq_finite : (v : Float) → T (freq_fits v) → T (finite v)
unfolding freq_fits
freq_finite v h = go (plus_zero v) (le tiny (abs v)) (le (abs v) max_freq) (plus_finite v) (below v) h
  where
    below : (v : Float) → T (le (abs v) max_freq) → T (finite v)
    below v h = max_finite v h

    go : (a b c : Bool) → (T a → T (finite v)) → (T c → T (finite v)) → T (a || (b && c)) → T (finite v)
    go true b c x y t = x tt
    go false b c x y t = y (and_r b c t)

-- ---- sums and products that are no NaN

odd_number : (d : ℕ) (s : Bool) (q k l : ℕ) → T (finite (odd d s q k l))
unfolding odd
odd_number d s ℕ.zero k l = tt
odd_number d s (ℕ.suc q) k l = tt

units_number : (f : Format) (s : Bool) (q k : ℕ) → T (number (units f s q k))
unfolding units
units_number f s q k = go (ltb (q * 2 ^ k) (2 ^ (low f + ℕ.suc (emax f))))
  where
    go : (b : Bool) → T (number (cond b (odd (ℕ.suc (prec f)) s q k (low f)) (inf s)))
    go true = finite_number (odd (ℕ.suc (prec f)) s q k (low f)) (odd_number (ℕ.suc (prec f)) s q k (low f))
    go false = tt

pub round_number : (f : Format) (s : Bool) (a c : ℕ) → T (number (round f s a c))
unfolding round
round_number f s a c = units_number f s _ _

pub mul_number : (f : Format) (x y : Float) → T (finite x) → T (finite y) → T (number (mul f x y))
unfolding mul
mul_number f nan y p q = absurd p
mul_number f (inf s) y p q = absurd p
mul_number f (fin s m e) nan p q = absurd q
mul_number f (fin s m e) (inf t) p q = absurd q
mul_number f (fin s m e) (fin t n d) p q = round_number f (unlike s t) (m * up e * (n * up d)) (down e * down d)

pub add_number : (f : Format) (x y : Float) → T (finite x) → T (number y) → T (number (add f x y))
unfolding add sum
add_number f nan y p q = absurd p
add_number f (inf s) y p q = absurd p
add_number f (fin s m e) nan p q = absurd q
add_number f (fin s m e) (inf t) p q = tt
add_number f (fin s m e) (fin t n d) p q = pick (beq s t) _ _ (round_number f s _ _) (pick (ltb (m * up e * down d) (n * up d * down e)) _ _ (round_number f t _ _) (round_number f _ _ _))
  where
    pick : (z : Bool) (x y : Float) → T (number x) → T (number y) → T (number (cond z x y))
    pick true x y a b = a
    pick false x y a b = b
