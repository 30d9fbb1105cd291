-- A file that is read as far as one byte more than it may have is read whole where it is accepted.
use Rattle.std.proofs.Common.{◌≡◌, ℕ, ◌*◌, ◌<◌, ◌≤◌, Bool, true, false, min, List, [], ◌∷◌, length, take, Option, Some, None, refl, sym, ap, ◌∙◌, arith, length-append}
use Rattle.std.specs.Prelude.{All, IsTrue, nat_lt, ◌&&◌, unwrap_or, is_ok, if◌then◌else◌, Result, Ok, Err}
use Rattle.std.specs.FinMap as map
use Rattle.std.specs.Int.{w32, to_le_bytes}
use Rattle.std.specs.List.{flat_map}
use Rattle.std.specs.Option.{option_map}
use Rattle.std.proofs.lemmas.Bool.{false≢true, leb-true, ltb-false}
use Rattle.std.proofs.lemmas.Option.{none-some}
use Rattle.std.proofs.lemmas.List.{length-take, take_all}
use Rattle.std.proofs.lemmas.List.Elements.{All-head, All-tail}
use Rattle.hb_base.specs.PortName.{is_port_name}
use Rattle.hb_base.specs.Ports.{IsPort}
use Rattle.hb_base.specs.declared.port.Port.{Port}
use Rattle.hb_base.specs.declared.script.ScriptLine.{ScriptLine}
use Rattle.hb_image.specs.Format.{spelling, port_spelling}
use Rattle.hb_image.specs.Rules.{IsImage}
use Rattle.hb_image.specs.declared.image.Image.{Image}
use Rattle.hb_io.specs.Files.{Files, HoldsFront}
use Rattle.std.specs.Str.Lines.{lines}
use Rattle.hb_script.specs.Scripts.{script_of, inputs_from}
use Rattle.hb_top.specs.Preparing.{Holds}

whole_content : (o : Option (List ℕ)) (most : ℕ) (bytes : List ℕ) → option_map (take most) o ≡ Some bytes → length bytes < most → o ≡ Some bytes
whole_content None most bytes e short = absurd (none-some bytes e)
whole_content (Some content) most bytes e short =
    let front : take most content ≡ bytes = ap (λ (o : Option (List ℕ)). unwrap_or o bytes) e in
    let size : min most (length content) ≡ length bytes = sym (length-take most content) ∙ ap length front in
    ap (λ (b : List ℕ). Some b) (sym (take_all most content (omega (arith, size, short))) ∙ front)

pub whole_of : (files : Option Files) (name bytes : List ℕ) (most : ℕ) → HoldsFront files name most bytes → length bytes < most → Holds files name bytes
whole_of None name bytes most front short = tt
whole_of (Some files) name bytes most front short = whole_content (map.get files name) most bytes front short

-- ---- a script

kept_short : (size : ℕ) (b : Bool) (read : Result (List ScriptLine) ℕ) (inputs : List ScriptLine) → nat_lt 1048576 size ≡ b → (if b then Err 0 else read) ≡ Ok inputs → size < 1048577
kept_short size true read inputs e given = absurd (false≢true (ap (λ (r : Result (List ScriptLine) ℕ). is_ok r) given))
kept_short size false read inputs e given = omega (arith, ltb-false 1048576 size e)

pub script_short : (ports : List Port) (bytes : List ℕ) (inputs : List ScriptLine) → script_of ports bytes ≡ Ok inputs → length bytes < 1048577
unfolding script_of
script_short ports bytes inputs e = kept_short (length bytes) (nat_lt 1048576 (length bytes)) (inputs_from ports 1 (lines bytes)) inputs refl e

-- ---- an image

left_true : (a b : Bool) → a && b ≡ true → a ≡ true
left_true true b e = refl
left_true false b e = e

name_short : (name : List ℕ) → IsTrue (is_port_name name) → length name ≤ 64
name_short name e = leb-true (length name) 64 (left_true _ _ e)

port_short : (port : Port) → IsPort port → length (port_spelling port) ≤ 71
port_short port is =
    let named = name_short port.name is.named in
    omega (arith, length-append (to_le_bytes w32 port.address) port.name, named)

ports_short : (ports : List Port) → All IsPort ports → length (flat_map port_spelling ports) ≤ 71 * length ports
ports_short [] all = omega arith
ports_short (port ∷ ports) all =
    omega (arith, length-append (port_spelling port) (flat_map port_spelling ports), port_short port (All-head IsPort port ports all), ports_short ports (All-tail IsPort port ports all))

words_short : (words : List ℕ) → length (flat_map (to_le_bytes w32) words) ≡ 4 * length words
words_short [] = refl
words_short (word ∷ words) = omega (arith, length-append (to_le_bytes w32 word) (flat_map (to_le_bytes w32) words), words_short words)

pub image_short : (image : Image) → IsImage image → length (spelling image) < 536823573
image_short image is =
    let ports = flat_map port_spelling image.ports in
    let code = flat_map (to_le_bytes w32) image.code in
    omega (arith, length-append ports code, ports_short image.ports is.ports.each, words_short image.code, is.ports.few, is.code_most)
