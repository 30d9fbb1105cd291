-- Which values the rows of a match leave out, and the states that their prefixes leave.
use Rattle.std.specs.Prelude.{◌≡◌, ℕ, ◌+◌, ◌<◌, ◌≤◌, ◌⊎◌, ◌↔◌, ◌≢◌, Bool, true, false, List, [], ◌∷◌, ◌++◌, map, length, slice_get, Option, None, Some}
use Rattle.hb_cover.specs.declared.cover.Covered.{Covered}
use Rattle.hb_cover.specs.declared.cover.Covered.TheVariants as covered
use Rattle.hb_bits.specs.Members.{IsIn}
use Rattle.hb_bits.specs.OfCube.{members_of}
use Rattle.hb_spelling.specs.declared.letter.Letter.{Letter}
use Rattle.hb_spelling.specs.declared.letter.Letter.TheVariants as letter
use Rattle.hb_spelling.specs.declared.spelling.Spelling.{Spelling}
use Rattle.hb_spelling.specs.declared.spelling.Spelling.TheVariants as form
use Rattle.hb_spelling.specs.declared.pattern.PatternForm.{PatternForm}
use Rattle.hb_spelling.specs.declared.pattern.PatternForm.TheVariants as pattern

-- the letters spell one value of each of these types, one after another
pub data Spells (types : List Spelling) : List ℕ → List Letter → Type 0 where
  Done : Spells types [] []
  Con : {of c : ℕ} {more arguments : List ℕ} {cons : List (List ℕ)} {letters : List Letter} → slice_get types of ≡ Some (form.Data cons) → slice_get cons c ≡ Some arguments → Spells types (arguments ++ more) letters → Spells types (of ∷ more) (letter.Con c ∷ letters)
  Word : {of width : ℕ} {more : List ℕ} {letters : List Letter} (bits : List Bool) → slice_get types of ≡ Some (form.Bits width) → length bits ≡ width → Spells types more letters → Spells types (of ∷ more) (map letter.Bit bits ++ letters)
  Index : {of count n : ℕ} {more : List ℕ} {letters : List Letter} → slice_get types of ≡ Some (form.Index count) → n < count → Spells types more letters → Spells types (of ∷ more) (letter.Index n ∷ letters)
  Opaque : {of : ℕ} {more : List ℕ} {letters : List Letter} → slice_get types of ≡ Some form.Opaque → Spells types more letters → Spells types (of ∷ more) (letter.Opaque ∷ letters)

-- a pattern that matches all values, or none at all where the table has no such place
abbrev pub IsWild : Option PatternForm → Type 0
IsWild None = Unit {0}
IsWild (Some pattern.Any) = Unit {0}
IsWild (Some (pattern.Con c parts)) = ⊥
IsWild (Some (pattern.Bits cube)) = ⊥
IsWild (Some (pattern.Index n)) = ⊥

-- the word is in the pattern's cube, which has this width
abbrev pub HasWord : ℕ → List Bool → Option PatternForm → Type 0
HasWord width bits None = ⊥
HasWord width bits (Some pattern.Any) = ⊥
HasWord width bits (Some (pattern.Con c parts)) = ⊥
HasWord width bits (Some (pattern.Bits cube)) = (cube.width ≡ width) × IsIn (members_of cube) bits
HasWord width bits (Some (pattern.Index n)) = ⊥

-- a row matches the values of these types that the letters spell
pub data Matches (types : List Spelling) (patterns : List PatternForm) : List ℕ → List ℕ → List Letter → Type 0 where
  Done : Matches types patterns [] [] []
  Any : {p of : ℕ} {row more : List ℕ} {these letters : List Letter} → IsWild (slice_get patterns p) → Spells types (of ∷ []) these → Matches types patterns row more letters → Matches types patterns (p ∷ row) (of ∷ more) (these ++ letters)
  Con : {p of c : ℕ} {row parts more arguments : List ℕ} {cons : List (List ℕ)} {letters : List Letter} → slice_get patterns p ≡ Some (pattern.Con c parts) → slice_get types of ≡ Some (form.Data cons) → slice_get cons c ≡ Some arguments → Matches types patterns (parts ++ row) (arguments ++ more) letters → Matches types patterns (p ∷ row) (of ∷ more) (letter.Con c ∷ letters)
  Word : {p of width : ℕ} {row more : List ℕ} {letters : List Letter} (bits : List Bool) → slice_get types of ≡ Some (form.Bits width) → HasWord width bits (slice_get patterns p) → Matches types patterns row more letters → Matches types patterns (p ∷ row) (of ∷ more) (map letter.Bit bits ++ letters)
  Index : {p of count n : ℕ} {row more : List ℕ} {letters : List Letter} → slice_get types of ≡ Some (form.Index count) → n < count → slice_get patterns p ≡ Some (pattern.Index n) → Matches types patterns row more letters → Matches types patterns (p ∷ row) (of ∷ more) (letter.Index n ∷ letters)

-- the lesser of two letters of one type
abbrev pub IsLess : Letter → Letter → Type 0
IsLess (letter.Con c) (letter.Con d) = c < d
IsLess (letter.Bit a) (letter.Bit b) = (a ≡ false) × (b ≡ true)
IsLess (letter.Index n) (letter.Index m) = n < m
IsLess first second = ⊥

-- spellings are ordered by their first differing letter
pub data Precedes : List Letter → List Letter → Type 0 where
  First : {a b : Letter} {xs ys : List Letter} → IsLess a b → Precedes (a ∷ xs) (b ∷ ys)
  Later : {a : Letter} {xs ys : List Letter} → Precedes xs ys → Precedes (a ∷ xs) (a ∷ ys)

-- some row matches
abbrev pub IsMatched : List Spelling → List PatternForm → List (List ℕ) → List ℕ → List Letter → Type 0
IsMatched types patterns [] of letters = ⊥
IsMatched types patterns (row ∷ rows) of letters = Matches types patterns row of letters ⊎ IsMatched types patterns rows of letters

-- values that no row matches
pub record IsMissing (types : List Spelling) (patterns : List PatternForm) (rows : List (List ℕ)) (of : List ℕ) (letters : List Letter) : Type 0 where
  pub spelled : Spells types of letters
  pub unmatched : ¬ IsMatched types patterns rows of letters

-- and none of the others comes before them
pub record IsLeastMissing (types : List Spelling) (patterns : List PatternForm) (rows : List (List ℕ)) (of : List ℕ) (letters : List Letter) : Type 0 where
  pub missing : IsMissing types patterns rows of letters
  pub least : (more : List Letter) → IsMissing types patterns rows of more → (more ≡ letters) ⊎ Precedes letters more

-- a row is live after a prefix where it matches some spelling that begins with that prefix
abbrev pub IsLive : List Spelling → List PatternForm → List ℕ → List ℕ → List Letter → Type 0
IsLive types patterns of row prefix = (rest : List Letter) × Matches types patterns row of (prefix ++ rest)

-- what one prefix leaves: for each row whether it is live, the types of which no letter was spelled, and the number of
-- bits left of a word that was begun
pub record State : Type 0 where
  pub live : List Bool
  pub types : List ℕ
  pub begun : ℕ

-- the first type, if any, has a letter in each spelling
abbrev pub HasLetters : List Spelling → List ℕ → Type 0
HasLetters types [] = Unit {0}
HasLetters types (of ∷ more) = slice_get types of ≢ Some (form.Bits 0)

-- after the letters of a prefix these types are still to be spelled, and so many bits of a word that was begun
pub data Leaves (types : List Spelling) : List ℕ → List Letter → List ℕ → ℕ → Type 0 where
  Here : {of : List ℕ} → HasLetters types of → Leaves types of [] of 0
  Con : {of c begun : ℕ} {more arguments left : List ℕ} {cons : List (List ℕ)} {prefix : List Letter} → slice_get types of ≡ Some (form.Data cons) → slice_get cons c ≡ Some arguments → Leaves types (arguments ++ more) prefix left begun → Leaves types (of ∷ more) (letter.Con c ∷ prefix) left begun
  Word : {of width begun : ℕ} {more left : List ℕ} {prefix : List Letter} (bits : List Bool) → slice_get types of ≡ Some (form.Bits width) → length bits ≡ width → Leaves types more prefix left begun → Leaves types (of ∷ more) (map letter.Bit bits ++ prefix) left begun
  Begun : {of width begun : ℕ} {more : List ℕ} (bits : List Bool) → slice_get types of ≡ Some (form.Bits width) → 0 < length bits → 0 < begun → length bits + begun ≡ width → Leaves types (of ∷ more) (map letter.Bit bits) more begun
  Index : {of count n begun : ℕ} {more left : List ℕ} {prefix : List Letter} → slice_get types of ≡ Some (form.Index count) → n < count → Leaves types more prefix left begun → Leaves types (of ∷ more) (letter.Index n ∷ prefix) left begun
  Opaque : {of begun : ℕ} {more left : List ℕ} {prefix : List Letter} → slice_get types of ≡ Some form.Opaque → Leaves types more prefix left begun → Leaves types (of ∷ more) (letter.Opaque ∷ prefix) left begun

-- for each row whether it is live
abbrev pub AreLive : List Spelling → List PatternForm → List ℕ → List Letter → List (List ℕ) → List Bool → Type 0
AreLive types patterns of prefix [] [] = Unit {0}
AreLive types patterns of prefix [] (flag ∷ flags) = ⊥
AreLive types patterns of prefix (row ∷ rows) [] = ⊥
AreLive types patterns of prefix (row ∷ rows) (flag ∷ flags) = ((flag ≡ true) ↔ IsLive types patterns of row prefix) × AreLive types patterns of prefix rows flags

-- a prefix of some spelling leaves this state
pub record IsLeft (types : List Spelling) (patterns : List PatternForm) (rows : List (List ℕ)) (of : List ℕ) (prefix : List Letter) (state : State) : Type 0 where
  pub rest : List Letter
  pub spelled : Spells types of (prefix ++ rest)
  pub left : Leaves types of prefix state.types state.begun
  pub live : AreLive types patterns of prefix rows state.live

abbrev pub IsAmongStates : State → List State → Type 0
IsAmongStates state [] = ⊥
IsAmongStates state (one ∷ more) = (state ≡ one) ⊎ IsAmongStates state more

abbrev pub NoneTwice : List State → Type 0
NoneTwice [] = Unit {0}
NoneTwice (state ∷ more) = (¬ IsAmongStates state more) × NoneTwice more

-- the prefixes leave so many different states
pub record HasStates (types : List Spelling) (patterns : List PatternForm) (rows : List (List ℕ)) (of : List ℕ) (count : ℕ) : Type 0 where
  pub states : List State
  pub distinct : NoneTwice states
  pub left : (state : State) → IsAmongStates state states → (prefix : List Letter) × IsLeft types patterns rows of prefix state
  pub all : (prefix : List Letter) (state : State) → IsLeft types patterns rows of prefix state → IsAmongStates state states
  pub counted : length states ≡ count

-- the limit is asked first
abbrev pub IsAnswer : List Spelling → List PatternForm → List (List ℕ) → List ℕ → Covered → Type 0
IsAnswer types patterns rows of covered.Whole = ((count : ℕ) × HasStates types patterns rows of count × (count ≤ 4096)) × ((letters : List Letter) → ¬ IsMissing types patterns rows of letters)
IsAnswer types patterns rows of (covered.Missing letters) = ((count : ℕ) × HasStates types patterns rows of count × (count ≤ 4096)) × IsLeastMissing types patterns rows of letters
IsAnswer types patterns rows of covered.TooMany = (states : List State) × (length states ≡ 4097) × NoneTwice states × ((state : State) → IsAmongStates state states → (prefix : List Letter) × IsLeft types patterns rows of prefix state)
