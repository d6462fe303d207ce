-- `soil` meets its contract: its numbers are those of one line, after the header.
use native.Mathlib.Omega.{arith}
use Rattle.integer.proofs.Machine.{Is-Within}
use Rattle.mesh.proofs.Places.{soil_read}
use Rattle.mesh.proofs.Mesh.soil.Goals as goal

pub invariant_of-result : goal.invariant_of-result
invariant_of-result c =
    let k = c.args.self.now.sized in record {
      x_fits = Is-Within (soil_read k c.requires (omega arith) c.entry-5.ensures) (omega arith);
      y_fits = Is-Within (soil_read k c.requires (omega arith) c.entry-6.ensures) (omega arith);
    }

pub invariant_of-result-2 : goal.invariant_of-result-2
invariant_of-result-2 c =
    let k = c.args.self.now.sized in record {
      x_fits = Is-Within (soil_read k c.requires (omega arith) c.entry-7.ensures) (omega arith);
      y_fits = Is-Within (soil_read k c.requires (omega arith) c.entry-8.ensures) (omega arith);
    }

pub invariant_of-result-3 : goal.invariant_of-result-3
invariant_of-result-3 c =
    let k = c.args.self.now.sized in record {
      p_fits = Is-Within (soil_read k c.requires (omega arith) c.entry.ensures) (omega arith);
      q_fits = Is-Within (soil_read k c.requires (omega arith) c.entry-2.ensures) (omega arith);
      h_fits = Is-Within (soil_read k c.requires (omega arith) c.entry-3.ensures) (omega arith);
      cohesion_fits = Is-Within (soil_read k c.requires (omega arith) c.entry-4.ensures) (omega arith);
      across_fits = Is-Within (soil_read k c.requires (omega arith) c.entry-9.ensures) (omega arith);
    }

pub returns : goal.returns
returns c =
    let k = c.args.self.now.sized in record {
      p = (soil_read k c.requires (omega arith) c.entry.ensures).same;
      q = (soil_read k c.requires (omega arith) c.entry-2.ensures).same;
      h = (soil_read k c.requires (omega arith) c.entry-3.ensures).same;
      cohesion = (soil_read k c.requires (omega arith) c.entry-4.ensures).same;
      dead_x = (soil_read k c.requires (omega arith) c.entry-5.ensures).same;
      dead_y = (soil_read k c.requires (omega arith) c.entry-6.ensures).same;
      live_x = (soil_read k c.requires (omega arith) c.entry-7.ensures).same;
      live_y = (soil_read k c.requires (omega arith) c.entry-8.ensures).same;
      across = (soil_read k c.requires (omega arith) c.entry-9.ensures).same;
    }
