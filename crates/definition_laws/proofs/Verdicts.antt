-- Which test of a list fails first, what a call answers by its verdict, and what a served call says. Assumes nothing.
use Prim.Native.Nat.{ℕ, ◌/◌, ◌%◌}
use mathlib.Core.Path.{◌≡◌, refl, sym}
use mathlib.Core.Bool.{Bool, true, false, cond, ◌&&◌}
use mathlib.Core.List.{List, [], ◌∷◌, ◌++◌}
use native.Mathlib.Omega.{arith}
use lib.ListN.{length}
use lib.Ieee.{Float}
use borrow.Author.Tests.{eqb-true}
use Rattle.std.proofs.lemmas.Bool.{and_parts, and_from}
use Rattle.types.specs.declared.Error.{Error}
use Rattle.std.specs.Prelude.{Result, Ok, Err}
use Rattle.definition.specs.Refusals.{Outcome, reply_of, Test, test, first_of}
use Rattle.definition.specs.Slices.{whole}
use Rattle.definition.specs.Sample.{Equalizer}
use Rattle.definition.specs.Rules.{rules, accepted_def}
use Rattle.definition.specs.Calls.{even, lengths_of, equalize_tests, verdict_def, answer_by, equalize_def}

-- ---- the first test that fails

-- what is served is not refused, what is made or read is no error
pub ok_no_err : {A E : Type 0} (x : A) (e : E) → ◌≡◌ {A = Result A E} (Ok x) (Err e) → ⊥
ok_no_err x e h = let z : ◌≡◌ {A = ℕ} 0 1 = cc in omega arith

module _ (b : Bool) (e : Error) (ts : List Test) where
  pub fine : first_of (test b e ∷ ts) ≡ (Ok tt) → (b ≡ true) × (first_of ts ≡ (Ok tt))
  unfolding first_of
  fine h = go b refl h
    where
      go : (c : Bool) → b ≡ c → cond c (first_of ts) (Err e) ≡ (Ok tt) → (b ≡ true) × (first_of ts ≡ (Ok tt))
      go true p k = (p, k)
      go false p k = absurd (ok_no_err tt e (sym k))

-- the first outcome, or the second where the first is Ok
abbrev pub or_next : Outcome → Outcome → Outcome
or_next (Ok tt) o = o
or_next (Err e) o = Err e

-- of joined lists the first that fails is that of the one, and that of the other where the one passes
pub joined : (a b : List Test) → first_of (a ++ b) ≡ or_next (first_of a) (first_of b)
unfolding first_of
joined [] b = refl
joined (t ∷ a) b = go t.passed (joined a b)
  where
    go : (c : Bool) → first_of (a ++ b) ≡ or_next (first_of a) (first_of b) → cond c (first_of (a ++ b)) (Err t.refusal) ≡ or_next (cond c (first_of a) (Err t.refusal)) (first_of b)
    go true h = h
    go false h = refl

-- ---- what a call answers, by its verdict

module _ (q : Equalizer) (xs ys : List Float) (ms ns : List ℕ) where
  pub answered_by : equalize_def q xs ys ms ns ≡ answer_by (verdict_def (rules q) (lengths_of q xs ys ms ns)) q xs ys ms ns
  unfolding equalize_def
  answered_by = refl

  pub outcome_is : (equalize_def q xs ys ms ns).outcome ≡ verdict_def (rules q) (lengths_of q xs ys ms ns)
  unfolding equalize_def
  outcome_is = go (verdict_def (rules q) (lengths_of q xs ys ms ns))
    where
      go : (v : Outcome) → (answer_by v q xs ys ms ns).outcome ≡ v
      go (Ok tt) = refl
      go (Err e) = refl

  pub reply_is : (equalize_def q xs ys ms ns).reply ≡ reply_of (equalize_def q xs ys ms ns).outcome
  unfolding equalize_def
  reply_is = go (verdict_def (rules q) (lengths_of q xs ys ms ns))
    where
      go : (v : Outcome) → (answer_by v q xs ys ms ns).reply ≡ reply_of (answer_by v q xs ys ms ns).outcome
      go (Ok tt) = refl
      go (Err e) = refl

-- ---- what a served call says

pub record Fits (q : Equalizer) (xs ys : List Float) (ms ns : List ℕ) : Type 0 where
  pub accepted : accepted_def q ≡ true
  pub even_in : length xs % 2 ≡ 0
  pub even_out : length ys % 2 ≡ 0
  pub output : length ys / 2 ≡ length xs / 2
  pub marks : length ms ≡ length xs / 2
  pub numbers : length ns ≡ length xs / 2

pub served_fits : (q : Equalizer) (xs ys : List Float) (ms ns : List ℕ) → verdict_def (rules q) (lengths_of q xs ys ms ns) ≡ (Ok tt) → Fits q xs ys ms ns
unfolding verdict_def equalize_tests accepted_def
served_fits q xs ys ms ns h =
    let a = fine _ _ _ h in
    let b = fine _ _ _ a.1 in
    let c = fine _ _ _ b.1 in
    let d = fine _ _ _ c.1 in
    let e = fine _ _ _ d.1 in
    let w = whole q.weights && whole q.window in
    let wxy = and_parts (w && even (length xs)) (even (length ys)) a.0 in
    let wx = and_parts w (even (length xs)) wxy.0 in
    record {
      accepted = and_from w (rules q) wx.0 b.0;
      even_in = eqb-true _ _ wx.1;
      even_out = eqb-true _ _ wxy.1;
      output = eqb-true _ _ c.0;
      marks = eqb-true _ _ d.0;
      numbers = eqb-true _ _ e.0;
    }
