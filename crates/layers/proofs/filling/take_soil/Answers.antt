-- `take_soil` meets its contract: a soil that is not 0 stays, and for 0 the number of the layer's soil is put.
use mathlib.Core.Path.{sym, ◌∙◌, ap, subst}
use mathlib.Core.List.{List}
use Prim.Native.Nat.{◌<◌}
use native.Mathlib.Omega.{arith}
use lib.IntN.{ℤ}
use lib.ListN.{length, set}
use mir.Syntax.{w64}
use mir.Val.{to_z, of_z}
use Rattle.integer.proofs.Machine.{machine, unbounded, Is-read, told, apart}
use Rattle.scope.specs.Columns.{at}
use Rattle.scope.specs.Mesh.{elements}
use Rattle.scope.specs.Filled.{height_of}
use Rattle.scope.specs.Layers.{soil}
use Rattle.mesh.specs.MeshContracts.{Sized}
use Rattle.layers.proofs.FillingLaws.{sized_to, few_elements_lem, place_is, place_there, place_small, set_there}
use Rattle.layers.proofs.FillingLaws.{same_element, soil_kept, is_found, soil_set}
use Rattle.layers.proofs.filling.take_soil.Goals as goal

pub soil_place-k-requires : goal.soil_place-k-requires
soil_place-k-requires c = omega (arith, few_elements_lem c.requires.fillable, c.requires.there)

pub offset_bounds-m-k : goal.offset_bounds-m-k
offset_bounds-m-k c =
    let p = c.requires in
    omega (arith, place_is p.fillable c.args.e p.there c.soil_place-k.ensures, place_small p.fillable c.args.e p.there)

pub bounds-m-k : goal.bounds-m-k
bounds-m-k c =
    let p = c.requires in
    omega (arith, place_is p.fillable c.args.e p.there c.soil_place-k.ensures, place_there p.fillable c.args.e p.there)

pub returns-else-m-k-eq0 : goal.returns-else-m-k-eq0
unfolding at
returns-else-m-k-eq0 c =
    let p = c.requires in
    let place = place_is p.fillable c.args.e p.there c.soil_place-k.ensures in
    let other = apart c.if-m-k-eq0.false (search (machine, unbounded) depth 30) (omega arith) in
    p.so_far ∙ soil_kept p.fillable c.args.e p.there place other

pub invariant_of-named : goal.invariant_of-named
invariant_of-named c =
    let p = c.requires in
    record { sized = subst (λ (out : List ℤ). Sized out c.args.s) (sym p.so_far) (sized_to p.fillable c.args.e) }

pub element_height-requires : goal.element_height-requires
element_height-requires c =
    let p = c.requires in
    let e = c.args.e in
    subst (λ (out : List ℤ). e < elements out) (sym p.so_far) (same_element p.fillable e p.there)

pub returns-in_default : goal.returns-in_default
returns-in_default c =
    let p = c.requires in
    let e = c.args.e in
    let high = c.element_height.ensures.same ∙ ap (λ (out : List ℤ). height_of out e) p.so_far in
    absurd (is_found p.fillable e p.there high c.in_default.ensures.none)

pub offset_bounds-out-k : goal.offset_bounds-out-k
offset_bounds-out-k c =
    let p = c.requires in
    omega (arith, place_is p.fillable c.args.e p.there c.soil_place-k.ensures, place_small p.fillable c.args.e p.there)

pub bounds-out-k : goal.bounds-out-k
bounds-out-k c =
    let p = c.requires in
    let place = place_is p.fillable c.args.e p.there c.soil_place-k.ensures in
    omega (arith, place, set_there p.fillable c.args.e p.there, ap length p.so_far)

pub returns-in-Some : goal.returns-in-Some
unfolding at
returns-in-Some c =
    let p = c.requires in
    let e = c.args.e in
    let place = place_is p.fillable e p.there c.soil_place-k.ensures in
    let high = c.element_height.ensures.same ∙ ap (λ (out : List ℤ). height_of out e) p.so_far in
    let zero = told c.if-m-k-eq0.true (search (machine, unbounded) depth 30) (omega arith) in
    let r = c.layer.ensures.soil in
    let z = Is-read r (omega arith) in
    let same = z.same ∙ ap (soil c.args.layers.now.numbers.now) c.in-Some.ensures.found.1 in
    ap (λ (out : List ℤ). set out c.soil_place-k.result (to_z w64 (of_z w64 c.layer.result.soil))) p.so_far
    ∙ soil_set p.fillable e p.there high place zero same
