-- What the judging of a mesh file and a table file leaves in the list that is lent, whatever is answered: the mesh's
-- numbers as they are read, and filled from the table where all before 5 passes.
use Rattle.std.specs.Prelude.{List, ℕ, ℤ}
use Rattle.reader.specs.File.{table_numbers_of}
use Rattle.verdict.specs.NumbersLeft.{numbers_left}
use Rattle.judge.specs.Judge.{mesh_numbers}

unfoldable pub mesh_left : ℕ → List ℕ → List ℕ → List ℤ
mesh_left w mesh table = numbers_left (table_numbers_of w table) (mesh_numbers w mesh)
