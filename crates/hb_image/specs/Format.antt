-- The image format, version 1: the bytes of an image. Numbers are little-endian.
use Rattle.std.specs.Prelude.{ℕ, List, ◌∷◌, ◌++◌, length, codes}
use Rattle.std.specs.Int.{w16, w32, to_le_bytes}
use Rattle.std.specs.List.{flat_map}
use Rattle.hb_base.specs.declared.port.Dir.{Dir}
use Rattle.hb_base.specs.declared.port.Dir.TheVariants.{In, Out}
use Rattle.hb_base.specs.declared.port.Port.{Port}
use Rattle.hb_image.specs.declared.image.Image.{Image}

abbrev pub kind : Dir → ℕ
kind In = 0
kind Out = 1

-- a port: its kind, its width, the length of its name, its address, its name
abbrev pub port_spelling : Port → List ℕ
port_spelling port = kind port.dir ∷ port.width ∷ length port.name ∷ to_le_bytes w32 port.address ++ port.name

-- the fields of fixed length: magic, version, ports, areas, stack, code
abbrev pub head_spelling : Image → List ℕ
head_spelling image =
    codes "HBIM"
    ++ to_le_bytes w16 1
    ++ to_le_bytes w16 (length image.ports)
    ++ to_le_bytes w32 image.areas
    ++ to_le_bytes w32 image.stack
    ++ to_le_bytes w32 (length image.code)

-- the whole image
abbrev pub spelling : Image → List ℕ
spelling image =
    head_spelling image
    ++ flat_map port_spelling image.ports
    ++ flat_map (to_le_bytes w32) image.code
