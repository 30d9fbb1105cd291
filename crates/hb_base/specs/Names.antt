-- The table of a program's names: a list of texts, each once. A name is the place of its text.
use Rattle.std.specs.Prelude.{ℕ, ◌<◌, ◌^◌, length, if◌then◌else◌, List, [], ◌∷◌, ◌++◌, codes}
use Rattle.std.specs.List.{list_any, IsDistinct}
use Rattle.std.specs.Str.{bytes_eq}

-- a known text changes nothing, and a new one goes last
abbrev pub with_text : List (List ℕ) → List ℕ → List (List ℕ)
with_text texts text = if list_any (bytes_eq text) texts then texts else texts ++ text ∷ []

-- the table after all these texts in their order
unfoldable pub with_texts : List (List ℕ) → List (List ℕ) → List (List ℕ)
with_texts table [] = table
with_texts table (text ∷ texts) = with_texts (with_text table text) texts

-- no text is equal to one after it
abbrev pub AreDistinct : List (List ℕ) → Type 0
AreDistinct texts = IsDistinct bytes_eq texts

-- what a program knows before its first line: the fixed names, the primitives, and then `/` and `_`
abbrev pub fixed_names : List (List ℕ)
fixed_names =
    codes "Pad" ∷ codes "In" ∷ codes "Out" ∷ codes "+" ∷ codes "*" ∷ codes "^" ∷ codes "<=" ∷ codes "main"
    ∷ codes "Unsigned" ∷ codes "Signed" ∷ codes "Bit" ∷ codes "Ix" ∷ codes "NonZero" ∷ codes "M" ∷ codes "Ref"
    ∷ codes "Stored" ∷ codes "BE" ∷ codes "Array" ∷ codes "Width" ∷ codes "Index" ∷ codes "NumLit"
    ∷ codes "BitRep" ∷ codes "Cell" ∷ codes "Unit" ∷ codes "Pair" ∷ codes "Bool" ∷ codes "False" ∷ codes "True"
    ∷ codes "Maybe" ∷ codes "Nothing" ∷ codes "Just"
    ∷ codes "addU" ∷ codes "subU" ∷ codes "mulU" ∷ codes "andU" ∷ codes "orU" ∷ codes "xorU" ∷ codes "notU"
    ∷ codes "shlU" ∷ codes "shrU" ∷ codes "divU" ∷ codes "remU" ∷ codes "eqU" ∷ codes "ltU" ∷ codes "ltS"
    ∷ codes "toSigned" ∷ codes "fromSigned" ∷ codes "nonZero" ∷ codes "fromNonZero" ∷ codes "fromBit"
    ∷ codes "toBit" ∷ codes "joinBits" ∷ codes "highBits" ∷ codes "lowBits" ∷ codes "bitsOf" ∷ codes "ofBits"
    ∷ codes "fromIx" ∷ codes "toIx" ∷ codes "firstIx" ∷ codes "lastIx" ∷ codes "incIx" ∷ codes "decIx"
    ∷ codes "elemRef" ∷ codes "readRef" ∷ codes "writeRef" ∷ codes "readPort" ∷ codes "writePort"
    ∷ codes "return" ∷ codes "halt" ∷ codes "/" ∷ codes "_" ∷ []

-- a table: each text once, and their number fits 32 bits
pub record IsTable (texts : List (List ℕ)) : Type 0 where
  pub few : length texts < 2 ^ 32
  pub distinct : AreDistinct texts
