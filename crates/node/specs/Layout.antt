-- The layouts of an image (01, "Layouts", and 02, A8): the window, the bytes of a mask, and header byte 3, which tells one layout from
-- another. `Layout` is the code's struct. Every definition of an image takes a layout, and contracts name the one in service; so another
-- window with wider masks is another value here, and no definition or law of images moves.
use Rattle.std.specs.Prelude.{ℕ, ◌+◌, ◌*◌}
use Rattle.forms.specs.Roster.{most_lines}
use Rattle.sets.specs.Sets.{mask_bytes}
use Rattle.evidence.specs.Rows.{row_size}
use Rattle.rules.specs.Describe.{window}
use Rattle.node.specs.declared.layout.Layout.{Layout}

-- in service: the window of `Node`, masks as the code holds them
abbrev pub layout : Layout
layout = record { window = window; masks = mask_bytes; mark = 1 }

-- from before A8: a window of 64 ticks in masks of 8 bytes. Only the converter reads it
abbrev pub old_layout : Layout
old_layout = record { window = 64; masks = 8; mark = 0 }

-- ---- sizes

-- bytes of the header, in every layout; the rows stand behind it
abbrev pub header_size : ℕ
header_size = 32

abbrev pub image_size : Layout → ℕ → ℕ
image_size L n = header_size + n * row_size L.masks

-- the longest image in service
abbrev pub most_image : ℕ
most_image = image_size layout most_lines
