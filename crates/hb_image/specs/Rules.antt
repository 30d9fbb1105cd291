-- The rules that the fields of an image keep.
use Rattle.std.specs.Prelude.{◌≡◌, ℕ, ◌%◌, ◌≤◌, length}
use Rattle.hb_base.specs.Ports.{ArePorts}
use Rattle.hb_image.specs.declared.image.Image.{Image}

-- the most words of code: they stand from 00010000 and end below 20000000
abbrev pub most_words : ℕ
most_words = 134201344

pub record IsImage (image : Image) : Type 0 where
  pub ports : ArePorts image.ports
  pub areas : image.areas ≤ 16777216
  pub stack_whole : image.stack % 4 ≡ 0
  pub stack_least : 4096 ≤ image.stack
  pub stack_most : image.stack ≤ 16777216
  pub code_least : 1 ≤ length image.code
  pub code_most : length image.code ≤ most_words
