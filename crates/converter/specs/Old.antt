-- The rows of an old image, where they lie behind its header.
use Rattle.std.specs.Prelude.{ℕ, List}
use Rattle.evidence.specs.Rows.{Row, rows_at}
use Rattle.node.specs.Layout.{old_layout, header_size}

abbrev pub old_rows : ℕ → List ℕ → List Row
old_rows n old = rows_at old_layout.masks n old header_size
