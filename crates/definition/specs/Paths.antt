-- The paths that serve an equalizing call, and what the function of each promises: the contracts of the crate `equalize` are `Promised`.
use Rattle.std.specs.Prelude.{ℕ, ◌≡◌, cond, List, eqb, Float}
use Rattle.definition.specs.Sample.{Equalizer, feedback}
use Rattle.definition.specs.Calls.{Answer, equalize_def}

-- "each by the plain path or by the quick or joint one that its taps allow"
pub data Path : Type 0 where
  plain : Path
  quick : Path
  joint : Path

-- the path of `equalize`: quick without feedback taps, joint with them
abbrev pub by_taps : Equalizer → Path
by_taps q = cond (eqb (feedback q) 0) quick joint

-- What the function of a path promises of its answer a, from q, the input xs, and what output ys, marks ms and numbers ns hold before the call. It is the same of
-- all three paths. `reference::equalize` promises it of the plain path, `equalize` of the path by the taps.
abbrev pub Promised : Path → Equalizer → List Float → List Float → List ℕ → List ℕ → Answer → Type 0
Promised path q xs ys ms ns a = a ≡ equalize_def q xs ys ms ns
