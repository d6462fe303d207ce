-- `layer` meets its contract: each number stands at its column of the layer's line, and is within its limit.
use mathlib.Core.Path.{refl}
use native.Mathlib.Omega.{arith}
use Rattle.integer.proofs.Machine.{machine, is}
use Rattle.scope.specs.Columns.{at}
use Rattle.scope.specs.Layers.{bottom, top, soil}
use Rattle.layers.proofs.TableLaws.{layer_whole}
use Rattle.layers.proofs.table.Layers.layer.Goals as goal

pub bounds-self-first : goal.bounds-self-first
bounds-self-first c = let t = c.args.self.now in omega (arith, layer_whole t.numbers.now t.counted c.requires)

pub bounds-self-first-2 : goal.bounds-self-first-2
bounds-self-first-2 c = let t = c.args.self.now in omega (arith, layer_whole t.numbers.now t.counted c.requires)

pub bounds-self-first-3 : goal.bounds-self-first-3
bounds-self-first-3 c = let t = c.args.self.now in omega (arith, layer_whole t.numbers.now t.counted c.requires)

pub returns : goal.returns
unfolding bottom top soil at
returns c =
    let table = c.args.self.now in
    let limits = table.read.limits in record {
      there = omega (arith, table.counted, c.requires);
      bottom = is (search machine depth 30) (omega arith) refl;
      top = is (search machine depth 30) (omega arith) refl;
      soil = is (search machine depth 30) (omega arith) refl;
    }
