-- Integers in bytes: the lowest byte first. The word at i of a list of bytes begins at its byte i.
use Rattle.std.specs.Prelude.{ℕ, ◌+◌, ◌*◌, List, slice_index}

abbrev pub byte_at : List ℕ → ℕ → ℕ
byte_at bs i = slice_index bs i

abbrev pub word2 : List ℕ → ℕ → ℕ
word2 bs i = byte_at bs i + byte_at bs (i + 1) * 256

abbrev pub word4 : List ℕ → ℕ → ℕ
word4 bs i = byte_at bs i + byte_at bs (i + 1) * 256 + byte_at bs (i + 2) * 65536 + byte_at bs (i + 3) * 16777216

abbrev pub word8 : List ℕ → ℕ → ℕ
word8 bs i =
    word4 bs i + byte_at bs (i + 4) * 4294967296 + byte_at bs (i + 5) * 1099511627776 + byte_at bs (i + 6) * 281474976710656
    + byte_at bs (i + 7) * 72057594037927936
