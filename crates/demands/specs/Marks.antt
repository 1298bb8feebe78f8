-- WHAT EACH MARK SAYS. "From now on mark 3, silent, is given where sample and y are finite and the forward power F is 0. Mark 4, off scale, is given
-- where z has a part that is not finite. Marks are tried in the order 1, 2, 3, 4. Mark 0 means none of these."
use Rattle.std.specs.Prelude.{◌≡◌, ◌↔◌, ◌⊎◌, true, false, List, Float}
use Rattle.std.specs.Float.Ieee.{eq}
use Rattle.types.specs.declared.C32.{C32}
use Rattle.types.specs.declared.Mark.{Mark}
use Rattle.types.specs.declared.Mark.TheVariants.{Heard, Blank, Spilled, Silent, OffScale}
use Rattle.types.specs.Bits.{zero32}
use Rattle.definition.specs.Floats.{zero_c, finite_c}
use Rattle.definition.specs.Slices.{power}
use Rattle.definition.specs.Phase.{cos_sin}
use Rattle.definition.specs.Turns.{derotated}
use Rattle.definition.specs.Sample.{Equalizer, all_taps, forward, feedback, step1, step2, mark_by, fed_in, sample_def}

-- ---- of the sample x, handed to q

-- the window that step 1 leaves
abbrev pub window_of : Equalizer → C32 → List Float
window_of q x = step1 (forward q) x q.window

-- y, F and z over it
abbrev pub sum_of : Equalizer → C32 → C32
sum_of q x = step2 (all_taps q) q.weights (window_of q x)

abbrev pub power_of : Equalizer → C32 → Float
power_of q x = power (window_of q x) (forward q)

abbrev pub output_of : Equalizer → C32 → C32
output_of q x = derotated (sum_of q x) (cos_sin q.state.phase)

-- its mark
abbrev pub mark_given : Equalizer → C32 → Mark
mark_given q x = mark_by x (sum_of q x) (power_of q x) (output_of q x)

-- ---- what the mark k says of x, y, F and z

abbrev pub Says : Mark → C32 → C32 → Float → C32 → Type 0
Says Blank x y F z = finite_c x ≡ false
Says Spilled x y F z = (finite_c x ≡ true) × (finite_c y ≡ false)
Says Silent x y F z = (finite_c x ≡ true) × ((finite_c y ≡ true) × (eq F zero32 ≡ true))
Says OffScale x y F z = (finite_c x ≡ true) × ((finite_c y ≡ true) × ((eq F zero32 ≡ false) × (finite_c z ≡ false)))
Says Heard x y F z = (finite_c x ≡ true) × ((finite_c y ≡ true) × ((eq F zero32 ≡ false) × (finite_c z ≡ true)))

-- the mark, the symbol and what is left of x, handed to any q, accepted or not
abbrev pub mark_at : Equalizer → C32 → Mark
mark_at q x = (sample_def q x).out.mark

abbrev pub symbol_at : Equalizer → C32 → C32
symbol_at q x = (sample_def q x).out.symbol

pub record MarkSays : Type 0 where
  -- each mark is given exactly where it says so
  pub exactly : (q : Equalizer) (x : C32) (k : Mark) → (mark_at q x ≡ k) ↔ Says k x (sum_of q x) (power_of q x) (output_of q x)
  -- marks 1 and 2: the symbol is (+0, +0); 0, 3 and 4: it is z, which mark 0 says is finite, and mark 4 that it is not
  pub zero : (q : Equalizer) (x : C32) → (mark_at q x ≡ Blank) ⊎ (mark_at q x ≡ Spilled) → symbol_at q x ≡ zero_c
  pub turned : (q : Equalizer) (x : C32) → finite_c x ≡ true → finite_c (sum_of q x) ≡ true → symbol_at q x ≡ output_of q x
  pub heard : (q : Equalizer) (x : C32) → mark_at q x ≡ Heard → finite_c (symbol_at q x) ≡ true
  pub off_scale : (q : Equalizer) (x : C32) → mark_at q x ≡ OffScale → finite_c (symbol_at q x) ≡ false
  -- mark 3: no weight moves, and (0, 0) is fed back
  pub weights : (q : Equalizer) (x : C32) → mark_at q x ≡ Silent → (sample_def q x).equalizer.weights ≡ q.weights
  pub fed : (q : Equalizer) (x : C32) → mark_at q x ≡ Silent → (sample_def q x).equalizer.window ≡ fed_in (forward q) (feedback q) zero_c (window_of q x)
