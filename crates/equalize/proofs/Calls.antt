-- An equalizing call that is served: its lengths are what the samples ask, and its answer is the definition's. Assumes nothing.
use Prim.Native.Nat.{ℕ}
use mathlib.Core.Path.{◌≡◌, sym, ◌∙◌}
use mathlib.Core.List.{List, []}
use native.Mathlib.Omega.{arith}
use lib.Ieee.{Float}
use Rattle.types.specs.declared.EqualizeState.{EqualizeState}
use Rattle.types.specs.declared.Equalized.{Equalized}
use Rattle.std.specs.Prelude.{Ok}
use Rattle.definition.specs.Refusals.{Outcome}
use Rattle.definition.specs.Slices.{samples_of}
use Rattle.definition.specs.Packed.{equalizer, answered, ServedBlock, Ran}
use Rattle.definition.specs.Run.{run_def}
use Rattle.definition.specs.Rules.{rules}
use Rattle.definition.specs.Calls.{lengths_of, verdict_def, served_by, equalize_def}
use Rattle.definition_laws.proofs.Verdicts.{served_fits}

module _ (s : EqualizeState) (w h xs ys : List Float) (ms ns : List ℕ) (v : Outcome) (p : v ≡ verdict_def (rules (equalizer s w h)) (lengths_of (equalizer s w h) xs ys ms ns)) where
  pub call_shaped : v ≡ (Ok tt) → ServedBlock (equalizer s w h) xs ys ms ns
  call_shaped e =
      let f = served_fits (equalizer s w h) xs ys ms ns (sym p ∙ e) in
      record { accepted = f.accepted; input = omega (arith, f.even_in, f.marks); output = omega (arith, f.even_in, f.even_out, f.marks, f.output); numbers = omega (arith, f.marks, f.numbers) }

  pub call_served : v ≡ (Ok tt) → (t : EqualizeState) (e : Equalized) (w' h' ys' : List Float) (ms' ns' : List ℕ) → Ran (run_def (equalizer s w h) (samples_of xs)) (equalizer t w' h') ys' ms' ns'
      → e ≡ record { state = t; outcome = Ok tt } → answered e w' h' ys' ms' ns' ≡ equalize_def (equalizer s w h) xs ys ms ns
  unfolding equalize_def
  call_served d t e w' h' ys' ms' ns' r z = rw (z, ← p, d) (same r)
    where
      same : Ran (run_def (equalizer s w h) (samples_of xs)) (equalizer t w' h') ys' ms' ns' → answered (record { state = t; outcome = (Ok tt) }) w' h' ys' ms' ns' ≡ served_by (run_def (equalizer s w h) (samples_of xs))
      same r = λ i. record { outcome = (Ok tt); reply = []; equalizer = r.left i; out = r.out i; marks = r.marks i; numbers = r.numbers i }
