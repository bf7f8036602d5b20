-- Decimal numbers as text, and lines with numbers in them. Definitions alone; DecimalLaws has what follows. Assumes
-- nothing.
use Rattle.std.specs.Prelude.{List, [], ◌∷◌, ◌++◌, ℕ, zero, suc, ◌+◌, ◌/◌, ◌%◌}

-- the decimal digits of a number, highest first; 0 has none. The first argument only bounds the depth
unfoldable pub digits : ℕ → ℕ → List ℕ
digits zero q = []
digits (suc fuel) zero = []
digits (suc fuel) (suc q) = digits fuel (suc q / 10) ++ (48 + suc q % 10) ∷ []

-- a number as text: its decimal digits, at least one, and no zero in front of others
unfoldable pub numeral : ℕ → List ℕ
unfolding digits
numeral x = digits x (x / 10) ++ (48 + x % 10) ∷ []

-- a line end
abbrev pub line_end : List ℕ
line_end = 10 ∷ []

-- a text, and a number behind it
abbrev pub field : List ℕ → ℕ → List ℕ
field head x = head ++ numeral x

-- a line with two numbers
abbrev pub line : List ℕ → ℕ → List ℕ → ℕ → List ℕ
line head a between b = field head a ++ field between b ++ line_end
