-- The record check takes the weights exactly where each part meets R3, by its place. Assumes nothing.
use mathlib.Core.Path.{◌≡◌, sym, subst}
use mathlib.Core.Logic.{◌⊎◌, inl, inr}
use mathlib.Core.Bool.{true, ◌&&◌}
use mathlib.Core.List.{List}
use lib.Dec.{T}
use lib.ListN.{get_or}
use borrow.Author.Tests.{eq-eqb, eqb-true}
use lib.Ieee.{Float, nan, binary32, to_bits, le}
use lib.Ieee.Bits.{is_true}
use lib.Ieee.Scale.{finite}
use Rattle.std.proofs.lemmas.Bool.{and_parts, and_from, or_cases, or_left, or_right}
use Rattle.definition.specs.Floats.{abs, tiny}
use Rattle.definition.specs.Slices.{every}
use Rattle.definition.specs.Rules.{plus_zero, weight_fits}
use Rattle.definition_laws.proofs.Every.{every-at, every-of-each}
use Rattle.definition_laws.proofs.Accept.{accepted_is}
use Rattle.demands.specs.Weights.{PartMeetsR3, EachMeetsR3, WeightsMeetR3}

part_meets : (v : Float) → weight_fits v ≡ true → PartMeetsR3 v
unfolding weight_fits plus_zero
part_meets v h = go (or_cases (plus_zero v) (finite v && le tiny (abs v)) h)
  where
    go : (plus_zero v ≡ true) ⊎ ((finite v && le tiny (abs v)) ≡ true) → PartMeetsR3 v
    go (inl z) = inl (eqb-true (to_bits binary32 v) 0 z)
    go (inr s) = inr (and_parts (finite v) (le tiny (abs v)) s)

part_fits : (v : Float) → PartMeetsR3 v → weight_fits v ≡ true
unfolding weight_fits plus_zero
part_fits v (inl z) = or_left (plus_zero v) (finite v && le tiny (abs v)) (eq-eqb (to_bits binary32 v) 0 z)
part_fits v (inr s) = or_right (plus_zero v) (finite v && le tiny (abs v)) (and_from (finite v) (le tiny (abs v)) s.0 s.1)

each_meets : (w : List Float) → T (every weight_fits w) → EachMeetsR3 w
each_meets w h i l = part_meets (get_or w i nan) (is_true (weight_fits (get_or w i nan)) (every-at weight_fits w i nan h l))

pub weights_meet_r3 : WeightsMeetR3
weights_meet_r3 = record {
  only = λ w h. each_meets w (subst T (sym h) tt);
  wherever = λ w a. is_true (every weight_fits w) (every-of-each weight_fits w nan (λ i l. subst T (sym (part_fits (get_or w i nan) (a i l))) tt));
  accepted = λ q a. each_meets q.weights (accepted_is q a).weights;
}
