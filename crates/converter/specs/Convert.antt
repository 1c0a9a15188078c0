-- The converter at service (02, A8): the window grows, so an image has wider masks, another size, and another header byte 3, by which
-- the two are told apart. An image that is sound in the old layout is written in the new one over a buffer that is lent: the same node,
-- and for each serial the same two sets, so that k, mode, last echo and every tick held are kept. The converter judges an old image as
-- deliver and read did before (8), and asks for room last (6). A refusal writes nothing.
use Rattle.std.specs.Prelude.{ℕ, ◌≤◌, ◌<◌, ◌≢◌, List, cond, length, get_or, take, ltb, eqb}
use Rattle.node.specs.Image.{state_of, put_state, sound_image}
use Rattle.node.specs.Layout.{image_size}
use Rattle.node.specs.declared.layout.Layout.{Layout}

-- images of layout L can be converted to layout M: the window and the masks are no narrower there, byte 3 and the size of every image
-- fit their bytes, and byte 3 tells the two apart
pub record Widens (L M : Layout) : Type 0 where
  pub window : L.window ≤ M.window
  pub masks : L.masks ≤ M.masks
  pub mark : M.mark < 256
  pub size : (n : ℕ) → n < 256 → image_size M n < 65536
  pub apart : L.mark ≢ M.mark

-- number, bytes written, and every byte of the lent buffer at exit
pub record Converted : Type 0 where
  pub number : ℕ
  pub written : ℕ
  pub image : List ℕ

-- a refusal: its number, nothing written, and no byte changed
abbrev pub unconverted : ℕ → List ℕ → Converted
unconverted number image = record { number = number; written = 0; image = image }

-- 8 of the old image, then 6 of the room
unfoldable pub conversion_number : Layout → Layout → ℕ → List ℕ → ℕ → ℕ
conversion_number L M last old room = cond (sound_image L last old) (cond (ltb room (image_size M (get_or old 0 0))) 6 0) 8

-- the node of the old image, over the front of the buffer; bytes behind its size stay
abbrev pub convert_done : Layout → Layout → List ℕ → List ℕ → Converted
convert_done L M old image =
    record { number = 0; written = image_size M (get_or old 0 0); image = put_state M image (state_of L old) }

-- old layout L, new layout M, the last tick, an old image, and the buffer for the new one
unfoldable pub converted : Layout → Layout → ℕ → List ℕ → List ℕ → Converted
converted L M last old image =
    let number = conversion_number L M last old (length image) in
    cond (eqb number 0) (convert_done L M old image) (unconverted number image)

-- the new image by itself: the bytes written
abbrev pub new_image : Converted → List ℕ
new_image c = take c.written c.image
