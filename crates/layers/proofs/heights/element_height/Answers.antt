-- `element_height` meets its contract: the sum over the four corners, each at most 1,000 high.
use mathlib.Core.Path.{◌≡◌, refl, ◌∙◌}
use native.Mathlib.Omega.{arith}
use Rattle.std.proofs.Common.{rules}
use Rattle.std.proofs.lemmas.Iterator.{YieldsList-from_range, YieldsList-from_map}
use Rattle.std.proofs.lemmas.Iterator.Consumers.{sum_from_yields_List, fits_from_yields_list}
use Rattle.scope.specs.Layout.{count}
use Rattle.scope.specs.Mesh.{y, corner}
use Rattle.scope.specs.Filled.{height_of}
use Rattle.layers.proofs.HeightLaws.{height_is, height_few}
use Rattle.layers.proofs.heights.element_height.Goals as goal

pub sum-requires-clause-fits : goal.sum-requires-clause-fits
sum-requires-clause-fits c =
    let a = c.args in
    let few = height_few a.m.now.sized.facts a.e c.requires in
    fits_from_yields_list c.map.result _
    (YieldsList-from_map _ (λ i. count (y a.m.now.numbers.now (corner a.m.now.numbers.now a.e i)))
    (YieldsList-from_range 0 4 4 c.map.ensures.source refl) c.map.ensures.closure (λ x r q k. search rules))
    (omega (arith, height_is a.m.now.numbers.now a.e))

pub returns : goal.returns
returns c =
    let a = c.args in
    let same : c.sum.result ≡ height_of a.m.now.numbers.now a.e = sum_from_yields_List c.map.result _ c.sum.ensures.ran
    (YieldsList-from_map _ (λ i. count (y a.m.now.numbers.now (corner a.m.now.numbers.now a.e i)))
    (YieldsList-from_range 0 4 4 c.map.ensures.source refl) c.map.ensures.closure (λ x r q k. search rules))
    ∙ height_is a.m.now.numbers.now a.e in
    let few = height_few a.m.now.sized.facts a.e c.requires in
    record { same = same; few = omega arith }
