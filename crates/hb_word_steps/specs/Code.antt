-- What is done on words, as steps of flat programs.
use Rattle.std.specs.Prelude.{ℕ, ◌-◌, ◌*◌, ◌/◌, ◌%◌, ◌^◌, ◌==◌, nat_lt, if◌then◌else◌, List, [], ◌∷◌, ◌++◌}
use Rattle.hb_area.specs.declared.form.CellForm.{CellForm}
use Rattle.hb_asm.specs.declared.instr.AluOp.TheVariants.{Add, Sll, Sltu, Xor, Srl, Or, And}
use Rattle.hb_frames.specs.declared.form.Operand.{Operand}
use Rattle.hb_frames.specs.declared.form.Operand.TheVariants.{Word, Number}
use Rattle.hb_frames.specs.declared.form.Step.{Step}
use Rattle.hb_frames.specs.declared.form.Step.TheVariants.{Set, Alu, Multiply, Load, Store}

-- ---- bits of words

abbrev pub low_word : ℕ → ℕ
low_word number = number % 4294967296

-- the word whose so many low bits are set, and no other
abbrev pub low_bits : ℕ → ℕ
low_bits width = if width == 0 then 0 else (if nat_lt 31 width then 4294967295 else 4294967295 / 2 ^ (32 - width))

-- the word in which so many bits from a place on are set, and no other
abbrev pub bits_from : ℕ → ℕ → ℕ
bits_from place width = low_bits width * 2 ^ place % 4294967296

-- ---- parts of words

-- so many bits from a place on
abbrev pub cut_code : ℕ → Operand → ℕ → ℕ → List Step
cut_code word a place width = if nat_lt 31 place then Set word (Number 0) ∷ [] else Alu word Srl a (Number place) ∷ Alu word And (Word word) (Number (low_bits width)) ∷ []

-- where the part, brought to its place, differs from the word in the bits that are replaced, the word is turned
abbrev pub place_code : ℕ → Operand → ℕ → ℕ → Operand → List Step
place_code word a place width part = if nat_lt 31 place then Set word a ∷ [] else Alu word Sll part (Number place) ∷ Alu word Xor (Word word) a ∷ Alu word And (Word word) (Number (bits_from place width)) ∷ Alu word Xor (Word word) a ∷ []

abbrev pub is_zero_code : ℕ → Operand → List Step
is_zero_code word a = Alu word Sltu a (Number 1) ∷ []

-- 1 where the word has the bits of the value in the mask
abbrev pub has_code : ℕ → Operand → ℕ → ℕ → List Step
has_code word a mask value = Alu word And a (Number (low_word mask)) ∷ Alu word Xor (Word word) (Number (low_word value)) ∷ is_zero_code word (Word word)

-- ---- cells

-- the bytes 0 and 2 of a word
abbrev pub even_bytes : Operand
even_bytes = Number 16711935

-- a word gets its even bytes, and those of a second word
abbrev pub joined_code : ℕ → ℕ → List Step
joined_code word second = Alu word And (Word word) even_bytes ∷ Alu word Or (Word word) (Word second) ∷ []

-- the two bytes of each half in the other order
abbrev pub turned_halves_code : ℕ → Operand → ℕ → List Step
turned_halves_code word a second = Alu second And a even_bytes ∷ Alu second Sll (Word second) (Number 8) ∷ Alu word Srl a (Number 8) ∷ joined_code word second

abbrev pub halves_exchanged_code : ℕ → ℕ → List Step
halves_exchanged_code word second = Alu second Sll (Word word) (Number 16) ∷ Alu word Srl (Word word) (Number 16) ∷ Alu word Or (Word word) (Word second) ∷ []

-- so many bytes in the other order
abbrev pub turned_code : ℕ → Operand → ℕ → ℕ → List Step
turned_code word a bytes second = if bytes == 1 then Set word a ∷ [] else (if bytes == 2 then turned_halves_code word a second else turned_halves_code word a second ++ halves_exchanged_code word second)

-- a word gets the value of the cell at an address; a second word is set too
abbrev pub read_code : ℕ → Operand → CellForm → ℕ → List Step
read_code word address form second = Load word address form.bytes ∷ (if form.big then turned_code word (Word word) form.bytes second else [])

-- the cell at an address gets a value; two words are set
abbrev pub write_code : Operand → CellForm → Operand → ℕ → ℕ → List Step
write_code address form value first second = if form.big then turned_code first value form.bytes second ++ Store address form.bytes (Word first) ∷ [] else Store address form.bytes value ∷ []

-- a word gets a sum and so much for each index
unfoldable pub indices_code : ℕ → ℕ → List (Operand × ℕ) → List Step
indices_code word second [] = []
indices_code word second (index ∷ indices) = Multiply second index.0 (Number index.1) ∷ Alu word Add (Word word) (Word second) ∷ indices_code word second indices

-- a word gets the address of a cell: the base, and a stride for each index
abbrev pub cell_code : ℕ → ℕ → List (Operand × ℕ) → ℕ → List Step
cell_code word base indices second = Set word (Number base) ∷ indices_code word second indices
