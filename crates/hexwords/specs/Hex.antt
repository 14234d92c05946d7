-- Lines of words, and files spelled in hexadecimal digits.
use Rattle.std.specs.Prelude.{ℕ, ◌+◌, ◌-◌, ◌*◌, cond, ◌&&◌, List, [], ◌∷◌, Some, None, Option, ◌==◌, nat_le}

-- ---- words: runs of bytes other than the space

-- a line without the spaces in front
unfoldable pub unspaced : List ℕ → List ℕ
unspaced [] = []
unspaced (b ∷ bs) = cond (b == 32) (unspaced bs) (b ∷ bs)

-- what stands before the first space
unfoldable pub up_to_space : List ℕ → List ℕ
up_to_space [] = []
up_to_space (b ∷ bs) = cond (b == 32) [] (b ∷ up_to_space bs)

-- what stands from the first space on
unfoldable pub from_space : List ℕ → List ℕ
from_space [] = []
from_space (b ∷ bs) = cond (b == 32) (b ∷ bs) (from_space bs)

-- the first word of a line, empty if the line has none
abbrev pub first_word : List ℕ → List ℕ
first_word line = up_to_space (unspaced line)

-- what stands behind the first word of a line
abbrev pub after_word : List ℕ → List ℕ
after_word line = from_space (unspaced line)

-- ---- hexadecimal digits

-- the value of a digit: 0 to 9, a to f or A to F
abbrev pub digit : ℕ → Option ℕ
digit b =
    cond (nat_le 48 b && nat_le b 57) (Some (b - 48))
    (cond (nat_le 97 b && nat_le b 102) (Some (b - 87))
    (cond (nat_le 65 b && nat_le b 70) (Some (b - 55))
    None))

-- two digits as a byte
abbrev pub pair_of : Option ℕ → Option ℕ → Option ℕ
pair_of None low = None
pair_of (Some h) None = None
pair_of (Some h) (Some l) = Some (16 * h + l)

-- a byte in front of others
abbrev pub before : Option ℕ → Option (List ℕ) → Option (List ℕ)
before None rest = None
before (Some b) None = None
before (Some b) (Some bs) = Some (b ∷ bs)

-- the bytes that digits spell, two digits a byte
unfoldable pub spelled : List ℕ → Option (List ℕ)
spelled [] = Some []
spelled (h ∷ []) = None
spelled (h ∷ (l ∷ rest)) = before (pair_of (digit h) (digit l)) (spelled rest)

-- the file that a word spells: the empty file is the word -
unfoldable pub file_of : List ℕ → Option (List ℕ)
unfolding spelled
file_of [] = None
file_of (b ∷ []) = cond (b == 45) (Some []) None
file_of (b ∷ (c ∷ rest)) = spelled (b ∷ (c ∷ rest))
