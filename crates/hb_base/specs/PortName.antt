-- The names that a port may have: a variable's name that is no reserved word.
use Rattle.std.specs.Prelude.{ℕ, Bool, true, false, ◌&&◌, ◌||◌, not, ◌==◌, nat_le, List, [], ◌∷◌, length, codes}
use Rattle.std.specs.List.{list_any, list_all}

abbrev pub is_lower : ℕ → Bool
is_lower c = nat_le 97 c && nat_le c 122

abbrev pub is_upper : ℕ → Bool
is_upper c = nat_le 65 c && nat_le c 90

abbrev pub is_digit : ℕ → Bool
is_digit c = nat_le 48 c && nat_le c 57

-- `_` is 95, `'` is 39
abbrev pub begins_name : ℕ → Bool
begins_name c = is_lower c || (c == 95)

abbrev pub continues_name : ℕ → Bool
continues_name c = is_lower c || (is_upper c || (is_digit c || ((c == 95) || (c == 39))))

-- a lower-case letter or `_`, and then letters, digits, `_` and `'`; `_` alone is no name
abbrev pub is_variable : List ℕ → Bool
is_variable [] = false
is_variable (c ∷ []) = is_lower c
is_variable (c ∷ d ∷ cs) = begins_name c && list_all continues_name (d ∷ cs)

-- two texts are the same
abbrev pub same_text : List ℕ → List ℕ → Bool
same_text [] [] = true
same_text [] (d ∷ ds) = false
same_text (c ∷ cs) [] = false
same_text (c ∷ cs) (d ∷ ds) = (c == d) && same_text cs ds

abbrev pub reserved_words : List (List ℕ)
reserved_words =
    codes "area" ∷ codes "bitdata" ∷ codes "struct" ∷ codes "port" ∷ codes "class" ∷ codes "instance"
    ∷ codes "data" ∷ codes "infix" ∷ codes "infixl" ∷ codes "infixr" ∷ codes "where" ∷ codes "let"
    ∷ codes "in" ∷ codes "do" ∷ codes "of" ∷ codes "case" ∷ codes "if" ∷ codes "then" ∷ codes "else"
    ∷ codes "each" ∷ codes "fields" ∷ codes "aligned" ∷ codes "at" ∷ []

-- 1 to 64 bytes
abbrev pub is_port_name : List ℕ → Bool
is_port_name name = nat_le (length name) 64 && (is_variable name && not (list_any (same_text name) reserved_words))
