-- The gains kp and ki of a bandwidth: `loop_gains` in f64, in the Rust's order of operations; each then becomes the nearest f32.
use Rattle.std.specs.Prelude.{Float}
use Rattle.types.specs.declared.LoopGains.{LoopGains}
use Rattle.types.specs.Bits.{f64}
use Rattle.definition.specs.Floats.{◌+d◌, ◌*d◌, ◌/d◌, narrow}

-- the nearest f64 to 0.7071
abbrev pub phase_damping : Float
phase_damping = f64 0x3fe6_a090_2de0_0d1b

abbrev pub tau : Float
tau = f64 0x4019_21fb_5444_2d18

-- 1, 2, 4
abbrev pub one64 : Float
one64 = f64 0x3ff0_0000_0000_0000

abbrev pub two64 : Float
two64 = f64 0x4000_0000_0000_0000

abbrev pub four64 : Float
four64 = f64 0x4010_0000_0000_0000

-- theta = bw / (damping + 1 / (4 damping))
unfoldable pub theta : Float → Float → Float
theta bw damping = bw /d (damping +d one64 /d (four64 *d damping))

-- d = (1 + (2 damping) theta) + theta theta
unfoldable pub divisor : Float → Float → Float
divisor t damping = (one64 +d (two64 *d damping) *d t) +d t *d t

-- kp = (((4 damping) theta) / d) / TAU
unfoldable pub gain_kp : Float → Float → Float
gain_kp bw damping = narrow (((four64 *d damping) *d theta bw damping) /d divisor (theta bw damping) damping /d tau)

-- ki = ((4 (theta theta)) / d) / TAU
unfoldable pub gain_ki : Float → Float → Float
gain_ki bw damping = narrow ((four64 *d (theta bw damping *d theta bw damping)) /d divisor (theta bw damping) damping /d tau)

unfoldable pub loop_gains : Float → Float → LoopGains
loop_gains bw damping = record { kp = gain_kp bw damping; ki = gain_ki bw damping }
