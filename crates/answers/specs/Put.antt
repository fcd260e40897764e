-- Writing into a buffer.
use Rattle.std.specs.Prelude.{ℕ, ◌+◌, List, ◌++◌, length, take, drop}

-- The bytes with the text from the place `at` on, and every other byte as it stood.
unfoldable pub with_text : List ℕ → ℕ → List ℕ → List ℕ
with_text bytes at text = take at bytes ++ (text ++ drop (at + length text) bytes)
