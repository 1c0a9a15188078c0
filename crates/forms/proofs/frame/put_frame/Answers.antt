-- `frame::put_frame` meets its contract: its two stores are kind, flag and two zero bytes, which are one word, and the tick.
use mathlib.Core.Path.{◌≡◌, ap, ◌∙◌, sym}
use mathlib.Core.List.{List}
use Prim.Native.Nat.{ℕ, ◌+◌, ◌*◌, ◌/◌, ◌%◌, ◌^◌}
use native.Mathlib.Omega.{arith}
use Rattle.fields.specs.Field.{put_field}
use Rattle.forms.specs.Frame.{Narrow, put_frame_bytes}
use Rattle.forms.specs.declared.frame.Frame.{Frame}
use Rattle.fields.proofs.Fields.{put_mod, put_join}
use Rattle.forms.proofs.frame.put_frame.Goals as goal

-- kind, flag and two zero bytes are one word
put-head : (out : List ℕ) (i : ℕ) (frame : Frame)
    → Narrow frame
    → let word = frame.kind * 16777216 + frame.flag * 65536 in
    put_field 4 out i word ≡ put_field 2 (put_field 1 (put_field 1 out i frame.kind) (i + 1) frame.flag) (i + 2) 0
put-head out i frame narrow =
    let word = frame.kind * 16777216 + frame.flag * 65536 in
    let kind : word / 65536 / 256 ≡ frame.kind = omega arith in
    let flag : word / 65536 % 256 ≡ frame.flag = omega arith in
    let zeros : word % 65536 ≡ 0 = omega arith in
    put_join 2 2 out i word
    ∙ ap (λ (b : List ℕ). put_field 2 b (i + 2) word)
    (put_join 1 1 out i (word / 65536)
    ∙ ap (λ (k : ℕ). put_field 1 (put_field 1 out i k) (i + 1) (word / 65536)) kind
    ∙ low 1 (put_field 1 out i frame.kind) (i + 1) (word / 65536) frame.flag flag)
    ∙ low 2 (put_field 1 (put_field 1 out i frame.kind) (i + 1) frame.flag) (i + 2) word 0 zeros
  where
    -- a store takes of a number what its bytes hold
    low : (w : ℕ) (b : List ℕ) (j v r : ℕ) → v % 256 ^ w ≡ r → put_field w b j v ≡ put_field w b j r
    low w b j v r e = sym (put_mod w b j v) ∙ ap (put_field w b j) e

pub returns : goal.returns
unfolding put_frame_bytes
returns c =
    let head = c in
    let start = head in
    let a = start.args in
    c.put_word-2.ensures
    ∙ ap (λ (out : List ℕ). put_field 4 out (a.i + 4) a.frame.tick)
    (head.put_word.ensures ∙ put-head a.out.now a.i a.frame start.requires.1)
