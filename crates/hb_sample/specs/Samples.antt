-- The sample source of a number, line by line.
use Rattle.std.specs.Prelude.{ℕ, zero, suc, ◌+◌, ◌%◌, List, [], ◌∷◌, ◌++◌, codes, decimal}

-- what ends each line
abbrev pub line_feed : List ℕ
line_feed = 10 ∷ []

-- the port, and a function that gives back what it takes
abbrev pub first_lines : List ℕ
first_lines =
    codes "port tx :: Out Unsigned at X80000000" ++ line_feed
    ++ codes "f0 :: Unsigned -> Unsigned" ++ line_feed
    ++ codes "f0 x = x" ++ line_feed

abbrev pub signature_line : ℕ → List ℕ
signature_line number = codes "f" ++ decimal number ++ (codes " :: Unsigned -> Unsigned" ++ line_feed)

-- the equation of a function that calls the one before it
abbrev pub equation_line : ℕ → ℕ → List ℕ
equation_line number before =
    codes "f" ++ decimal number ++ codes " x = f" ++ decimal before
    ++ codes " (x * " ++ decimal (number % 7 + 1) ++ codes " + " ++ decimal number ++ (codes ")" ++ line_feed)

-- the function after this one
abbrev pub function_lines : ℕ → List ℕ
function_lines before = signature_line (before + 1) ++ equation_line (before + 1) before

-- the functions from 1 to this one
unfoldable pub functions : ℕ → List ℕ
functions zero = []
functions (suc before) = functions before ++ function_lines before

-- what the last function makes of 1 goes to the port
unfoldable pub main_front : List ℕ
main_front = codes "main :: M Unit" ++ line_feed ++ codes "main = writePort tx ("

abbrev pub main_call : ℕ → List ℕ
main_call last = codes "f" ++ decimal last ++ (codes " 1)" ++ line_feed)

abbrev pub main_lines : ℕ → List ℕ
main_lines last = main_front ++ main_call last

abbrev pub sample_of : ℕ → List ℕ
sample_of last = first_lines ++ functions last ++ main_lines last
