-- What a sample leaves in the arrays: the equalizer after step 8, whatever steps 3 to 7 came to.
use Rattle.std.specs.Prelude.{ℕ, ◌+◌, ◌/◌, ◌%◌, ◌≡◌, List, T, Float}
use Rattle.std.specs.Float.Ieee.Scale.{finite}
use Rattle.types.specs.declared.C32.{C32}
use Rattle.types.specs.declared.Update.{Update}
use Rattle.definition.specs.Sample.{Equalizer, Stage, step1, step8, adapted}
use Rattle.lanes.specs.Arrays.{Arrays}
use Rattle.lanes.specs.Holds.{Holds, Put, Limits, LaneCounts}

-- before: the arrays hold q, the sample x has been put in, and t is what steps 3 to 7 came to
pub record Came (u : Update) (fed : C32) (n m at lanes more quads mquads front centre : ℕ) (limit : List Float) (a : Arrays) (q : Equalizer) (x : C32) (t : Stage) : Type 0 where
  pub shaped : LaneCounts n m lanes more quads mquads
  pub front_is : front ≡ n % 8
  pub middle : centre ≡ n / 2
  pub holds : Holds n m (at + 1) a q
  pub limits : Limits limit 0 0 n
  pub limits' : Limits limit 72 (n % 8) m
  pub put : Put at x a.xr a.xi
  pub weights_are : t.weights ≡ adapted u (n + m) n q.weights (step1 n x q.window)
  pub fed_is : t.fed ≡ fed
  pub params : t.state.params ≡ q.state.params
  pub fine_re : T (finite t.fed.re)
  pub fine_im : T (finite t.fed.im)

pub record Absorbs (u : Update) (fed : C32) (at quads mquads front centre : ℕ) (limit : List Float) (a a' : Arrays) : Type 0 where
  pub holds : (n m lanes more : ℕ) (q : Equalizer) (x : C32) (t : Stage) → Came u fed n m at lanes more quads mquads front centre limit a q x t
      → Holds n m at a' (step8 n m (step1 n x q.window) t).equalizer
