-- Numbers as the answer buffers hold them.
use Rattle.std.specs.Prelude.{ℕ, zero, suc, ◌-◌, ◌^◌, List, [], ◌∷◌, ◌++◌, ℤ, pos, negsuc}
use Rattle.octets.specs.Number.{byte}

-- the k lowest bytes of a number, lowest first
unfoldable pub low_first : ℕ → ℕ → List ℕ
low_first zero v = []
low_first (suc k) v = low_first k v ++ byte k v ∷ []

-- "A field is 4 bytes, lowest byte first."
unfoldable pub words : List ℕ → List ℕ
words [] = []
words (v ∷ vs) = low_first 4 v ++ words vs

-- "64 bits in two's complement"
abbrev pub twos : ℤ → ℕ
twos (pos n) = n
twos (negsuc n) = 2 ^ 64 - suc n
