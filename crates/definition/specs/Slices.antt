-- A slice of complex numbers is a list of f32: number i has its real part at 2 i and its imaginary part at 2 i + 1.
use Rattle.std.specs.Prelude.{ℕ, zero, suc, ◌+◌, ◌-◌, ◌*◌, ◌/◌, ◌%◌, min, Bool, true, cond, ◌&&◌, List, [], ◌∷◌, ◌++◌, length, get_or, take, drop, set, replicate, eqb, Float}
use Rattle.std.specs.Float.{nan}
use Rattle.types.specs.declared.C32.{C32}
use Rattle.types.specs.Bits.{zero32, one32}
use Rattle.definition.specs.Floats.{◌+f◌, ◌-f◌, ◌*f◌, flush, norm, complex}

abbrev pub re_at : List Float → ℕ → Float
re_at x i = get_or x (2 * i) nan

abbrev pub im_at : List Float → ℕ → Float
im_at x i = get_or x (2 * i + 1) nan

-- how many complex numbers a slice holds
abbrev pub complex_length : List Float → ℕ
complex_length x = length x / 2

-- a count of f32 that makes whole complex numbers
abbrev pub even : ℕ → Bool
even n = eqb (n % 2) 0

-- a slice of such a count
abbrev pub whole : List Float → Bool
whole x = even (length x)

-- the complex numbers of a slice, in order
unfoldable pub samples_of : List Float → List C32
samples_of [] = []
samples_of (x ∷ []) = []
samples_of (re ∷ im ∷ xs) = complex re im ∷ samples_of xs

-- whether each f32 of a slice passes the test p
unfoldable pub every : (Float → Bool) → List Float → Bool
every p [] = true
every p (v ∷ x) = p v && every p x

-- a in front of the first n numbers, of which the last falls out
unfoldable pub shifted : ℕ → C32 → List Float → List Float
shifted n a x = take (2 * n) (a.re ∷ a.im ∷ x) ++ drop (2 * n) x

abbrev pub zeros : ℕ → List Float
zeros n = replicate n zero32

-- ---- the sum of step 2

-- window a + bi times weight c + di at tap i: a·c − b·d and a·d + b·c, two products, one sum
abbrev pub prod_re : List Float → List Float → ℕ → Float
prod_re h w i = re_at h i *f re_at w i -f im_at h i *f im_at w i

abbrev pub prod_im : List Float → List Float → ℕ → Float
prod_im h w i = re_at h i *f im_at w i +f im_at h i *f re_at w i

-- partial k after b products: +0, then p k, p (8 + k), p (16 + k) .. are added, one addition each
unfoldable pub lane : (ℕ → Float) → ℕ → ℕ → Float
lane p k zero = zero32
lane p k (suc b) = lane p k b +f p (8 * b + k)

-- how many of n products go to partial k: those with i mod 8 = k
abbrev pub lane_count : ℕ → ℕ → ℕ
lane_count n k = (n + 7 - k) / 8

-- ((a0+a4)+(a2+a6)) + ((a1+a5)+(a3+a7))
abbrev pub tree : (ℕ → Float) → Float
tree a = ((a 0 +f a 4) +f (a 2 +f a 6)) +f ((a 1 +f a 5) +f (a 3 +f a 7))

-- the sum of p 0 .. p (n − 1) by eight partials
unfoldable pub sum8 : (ℕ → Float) → ℕ → Float
unfolding lane
sum8 p n = tree (λ k. lane p k (lane_count n k))

-- the sum of weight times window over the first n taps
unfoldable pub filter_sum : ℕ → List Float → List Float → C32
filter_sum n h w = complex (sum8 (prod_re h w) n) (sum8 (prod_im h w) n)

-- the same over two slices, as far as both reach
unfoldable pub dot_complex : List Float → List Float → C32
dot_complex h w = filter_sum (min (complex_length h) (complex_length w)) h w

-- ---- the power and the new weights of step 6

-- re² + im² of the first n taps, summed from +0 in the slice's order
unfoldable pub power : List Float → ℕ → Float
power h zero = zero32
power h (suc n) = power h n +f norm (complex (re_at h n) (im_at h n))

-- flush(w − g·conj(window)) at tap i, by parts: g·conj(h) is (g.re·h.re + g.im·h.im, g.im·h.re − g.re·h.im)
abbrev pub new_re : C32 → List Float → List Float → ℕ → Float
new_re g w h i = flush (re_at w i -f (g.re *f re_at h i +f g.im *f im_at h i))

abbrev pub new_im : C32 → List Float → List Float → ℕ → Float
new_im g w h i = flush (im_at w i -f (g.im *f re_at h i -f g.re *f im_at h i))

-- part k of the numbers with the real parts re and the imaginary parts im
unfoldable pub part : (ℕ → Float) → (ℕ → Float) → ℕ → Float
part re im k = cond (eqb (k % 2) 0) (re (k / 2)) (im (k / 2))

-- f 0, f 1 .. f (n − 1)
unfoldable pub tabulate : ℕ → (ℕ → Float) → List Float
tabulate zero f = []
tabulate (suc n) f = tabulate n f ++ f n ∷ []

-- the first n weights renewed
unfoldable pub updated : ℕ → C32 → List Float → List Float → List Float
updated n g w h = tabulate (2 * n) (part (new_re g w h) (new_im g w h)) ++ drop (2 * n) w

-- the weights of `new`, n of them: all 0 but 1 at the index c
unfoldable pub start_weights : ℕ → ℕ → List Float
start_weights n c = set (zeros (2 * n)) (2 * c) one32
