-- How long a claim file is: "Each claim's length follows from its header and the mesh" (document 02, N3).
use Rattle.std.specs.Prelude.{List, ℕ, ◌+◌, ℤ}
use Rattle.scope.specs.Layout.{width}
use Rattle.scope.specs.Claim.{claim_layout}
use Rattle.reader.specs.File.{file_width, line_bytes, widths}
use Rattle.reader.specs.WellFormed.{bytes_of}

-- the bytes of a claim on the mesh with the numbers m: the header's line, and the lines that the layout gives for a
-- claim that begins with these numbers
unfoldable pub claim_bytes : List ℤ → List ℤ → ℕ
claim_bytes m header =
    line_bytes file_width (width (claim_layout m).header) + bytes_of file_width (widths ((claim_layout m).body header))
