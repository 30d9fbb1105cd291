-- Reserved words and operators, and the words that are left out.
use Rattle.std.specs.Prelude.{ℕ, if◌then◌else◌, List, codes, Option, Some, None}
use Rattle.std.specs.Str.{bytes_eq}
use Rattle.hb_tokens.specs.declared.word.Word.{Word}
use Rattle.hb_tokens.specs.declared.word.Word.TheVariants.{Area, Bitdata, Struct, Port, Class, Instance, Data, Infix, Infixl, Infixr, Where, Let, In, Do, Of, Case, If, Then, Else, Each, Fields, Aligned, At, Module, Import, Export, Deriving, Default, TypeWord, Newtype, Foreign, Opaque, Fails, DoubleColon, Equals, Backslash, Bar, LeftArrow, RightArrow, DoubleArrow}

-- the first of two that there is
abbrev pub first_of_two : Option Word → Option Word → Option Word
first_of_two None other = other
first_of_two (Some word) other = Some word

-- words that begin a declaration or stand in one
abbrev pub declaration_word : List ℕ → Option Word
declaration_word w =
    if bytes_eq w (codes "area") then Some Area
    else if bytes_eq w (codes "bitdata") then Some Bitdata
    else if bytes_eq w (codes "struct") then Some Struct
    else if bytes_eq w (codes "port") then Some Port
    else if bytes_eq w (codes "class") then Some Class
    else if bytes_eq w (codes "instance") then Some Instance
    else if bytes_eq w (codes "data") then Some Data
    else if bytes_eq w (codes "infix") then Some Infix
    else if bytes_eq w (codes "infixl") then Some Infixl
    else if bytes_eq w (codes "infixr") then Some Infixr
    else if bytes_eq w (codes "where") then Some Where
    else None

-- words of expressions and initialisers
abbrev pub expression_word : List ℕ → Option Word
expression_word w =
    if bytes_eq w (codes "let") then Some Let
    else if bytes_eq w (codes "in") then Some In
    else if bytes_eq w (codes "do") then Some Do
    else if bytes_eq w (codes "of") then Some Of
    else if bytes_eq w (codes "case") then Some Case
    else if bytes_eq w (codes "if") then Some If
    else if bytes_eq w (codes "then") then Some Then
    else if bytes_eq w (codes "else") then Some Else
    else if bytes_eq w (codes "each") then Some Each
    else if bytes_eq w (codes "fields") then Some Fields
    else if bytes_eq w (codes "aligned") then Some Aligned
    else if bytes_eq w (codes "at") then Some At
    else None

-- words of Habit that are left out
abbrev pub left_out_word : List ℕ → Option Word
left_out_word w =
    if bytes_eq w (codes "module") then Some Module
    else if bytes_eq w (codes "import") then Some Import
    else if bytes_eq w (codes "export") then Some Export
    else if bytes_eq w (codes "deriving") then Some Deriving
    else if bytes_eq w (codes "default") then Some Default
    else if bytes_eq w (codes "type") then Some TypeWord
    else if bytes_eq w (codes "newtype") then Some Newtype
    else if bytes_eq w (codes "foreign") then Some Foreign
    else if bytes_eq w (codes "opaque") then Some Opaque
    else if bytes_eq w (codes "fails") then Some Fails
    else None

-- the word that a text is, where it is no name
abbrev pub word_of : List ℕ → Option Word
word_of w = first_of_two (declaration_word w) (first_of_two (expression_word w) (left_out_word w))

-- the reserved operator that a text is
abbrev pub operator_word : List ℕ → Option Word
operator_word w =
    if bytes_eq w (codes "::") then Some DoubleColon
    else if bytes_eq w (codes "=") then Some Equals
    else if bytes_eq w (codes "\\") then Some Backslash
    else if bytes_eq w (codes "|") then Some Bar
    else if bytes_eq w (codes "<-") then Some LeftArrow
    else if bytes_eq w (codes "->") then Some RightArrow
    else if bytes_eq w (codes "=>") then Some DoubleArrow
    else None
