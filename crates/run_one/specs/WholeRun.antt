-- One run on the arrays, from its start to its end, in the definition's words.
use Rattle.std.specs.Prelude.{ℕ, ◌+◌, ◌-◌, ◌*◌, ◌/◌, ◌≡◌, true, List, length, Float}
use borrow.Rule.Slice.PartMut.{mid_of, put_mid}
use Rattle.types.specs.declared.EqualizeState.{EqualizeState}
use Rattle.definition.specs.Packed.{equalizer}
use Rattle.definition.specs.Sample.{Equalizer}
use Rattle.definition.specs.Rules.{accepted_def, rule_r4}
use Rattle.lanes.specs.Arrays.{Arrays}
use Rattle.lanes.specs.Holds.{Holds}
use Rattle.lanes.specs.Between.{Between}
use Rattle.lanes.specs.Powers.{square_at}
use Rattle.lanes_prepare.specs.Entered.{Entered}
use Rattle.lanes_prepare.specs.Clock.{StepSizes}
use Rattle.lanes_load.specs.Load.{Moved}
use Rattle.lanes.specs.declared.Shape.{Shape}
use Rattle.run_samples.specs.Sample.{Setting}
use Rattle.run_samples.specs.Run.{Powered, After}

-- what `prepare_run` leaves: the samples xs put in, squares of the forward window, the powers ps and the step sizes ss
pub record Prepared (s : EqualizeState) (n : ℕ) (xs xr xi sq xr' xi' sq' ps ss : List Float) : Type 0 where
  pub entered : Entered xs xr xi xr' xi'
  pub from : ℕ
  pub squared : Between (square_at xr' xi') from (64 + n) sq sq'
  pub powers : Powered n (64 - length xs / 2) xr' xi' ps
  pub sizes : StepSizes s ps (64 - length xs / 2) ss

-- what `finish_run` leaves
pub record Finished (n m p : ℕ) (xr xi sq xr' xi' sq' : List Float) : Type 0 where
  pub xr_mid : List Float
  pub xi_mid : List Float
  pub xr_forth : Moved p 64 n xr xr_mid
  pub xi_forth : Moved p 64 n xi xi_mid
  pub xr_back : Moved (p + 152) 216 m xr_mid xr'
  pub xi_back : Moved (p + 152) 216 m xi_mid xi'
  pub sq_back : Moved (p + 152) 216 m sq sq'

-- the samples i .. e of a block: their symbols, marks and numbers in the places of theirs
pub record PartDone (n m : ℕ) (q : Equalizer) (xs ys : List Float) (ms ns : List ℕ) (i e : ℕ) (a : Arrays) (ys' : List Float) (ms' ns' : List ℕ) (s : EqualizeState) : Type 0 where
  pub part : List Float
  pub part_marks : List ℕ
  pub part_numbers : List ℕ
  pub after : After n m 64 q (mid_of (2 * i) (2 * e - 2 * i) xs) part part_marks part_numbers a s
  pub out : ys' ≡ put_mid (2 * i) (2 * e - 2 * i) ys part
  pub marks : ms' ≡ put_mid i (e - i) ms part_marks
  pub numbers : ns' ≡ put_mid i (e - i) ns part_numbers

pub record WholeRun (s : EqualizeState) (g : Shape) (n : ℕ) (limit : List Float) (a : Arrays) (xs ys : List Float) (ms ns : List ℕ) (i e : ℕ) (a' : Arrays) (ys' : List Float) (ms' ns' : List ℕ) (r : EqualizeState) : Type 0 where
  pub counts : rule_r4 r ≡ true
  pub part_done : (w h : List Float) → accepted_def (equalizer s w h) ≡ true → Setting g n limit → Holds n g.m 64 a (equalizer s w h)
      → PartDone n g.m (equalizer s w h) xs ys ms ns i e a' ys' ms' ns' r
