-- Numbers side by side in bytes, each with its highest byte first: what an image is made of, written and read.
use Rattle.std.specs.Prelude.{ℕ, zero, suc, ◌+◌, ◌*◌, ◌/◌, ◌%◌, ◌^◌, List, [], ◌∷◌, ◌++◌, map, get_or, drop}
use Rattle.image.specs.declared.parts.Part.{Part}

-- the k lowest bytes of a number, the highest of them first: "Big-endian"
unfoldable pub high_first : ℕ → ℕ → List ℕ
high_first zero n = []
high_first (suc k) n = (n / 256 ^ k % 256) ∷ high_first k n

-- the number that the first k bytes are. (Past the last byte 0 is read, so reading is defined on any bytes.)
unfoldable pub as_number : ℕ → List ℕ → ℕ
as_number zero b = 0
as_number (suc k) b = 256 * as_number k b + get_or b k 0

-- a part: a number, and the bytes that it takes
abbrev pub part : ℕ → ℕ → Part
part w n = record { width = w; number = n }

-- parts, told as their widths and their numbers
abbrev pub parts_of : List ℕ → List ℕ → List Part
parts_of [] ns = []
parts_of (w ∷ ws) [] = []
parts_of (w ∷ ws) (n ∷ ns) = part w n ∷ parts_of ws ns

abbrev pub widths : List Part → List ℕ
widths ps = map (λ p. p.width) ps

abbrev pub numbers_of : List Part → List ℕ
numbers_of ps = map (λ p. p.number) ps

-- the bytes of some parts, one after the other
unfoldable pub laid : List Part → List ℕ
laid [] = []
laid (p ∷ ps) = high_first p.width p.number ++ laid ps

-- given the widths: where part k begins, and how many bytes all take
abbrev pub start : List ℕ → ℕ → ℕ
start [] k = 0
start (w ∷ ws) zero = 0
start (w ∷ ws) (suc k) = w + start ws k

abbrev pub span : List ℕ → ℕ
span [] = 0
span (w ∷ ws) = w + span ws

-- the number of part k, read off the bytes
abbrev pub part_in : List ℕ → ℕ → List ℕ → ℕ
part_in ws k b = as_number (get_or ws k 0) (drop (start ws k) b)

-- the numbers of all parts, taken one after the other
unfoldable pub numbers_in : List ℕ → List ℕ → List ℕ
numbers_in [] b = []
numbers_in (w ∷ ws) b = as_number w b ∷ numbers_in ws (drop w b)
