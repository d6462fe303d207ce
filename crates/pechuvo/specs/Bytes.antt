-- Texts as bytes, and as the numbers that they show, so that a table of sheets can be read as document 01 prints them.
use Rattle.std.specs.Prelude.{true, false, List, [], ◌∷◌, ◌++◌, ℕ, ℤ, eqb}
use Rattle.std.proofs.Math.Option.{none, some}
use Prim.Native.Char.{code}
use Prim.Native.String as S
use Prim.Native.String.{String}
use Rattle.reader.specs.Spelling.{signed}

-- the bytes of a text of plain characters
unfoldable pub bytes : String → List ℕ
bytes S.[] = []
bytes (S.◌∷◌ c s) = code c ∷ bytes s

-- a word's number before the others; a word that is none, as the stroke between two lines, is passed over
unfoldable pub with_word : List ℕ → List ℤ → List ℤ
with_word word zs = elim (signed word) [ none ↦ zs | some z ↦ z ∷ zs ]

-- the numbers of words with a space between, after the word that has begun
unfoldable pub numbers_after : List ℕ → List ℕ → List ℤ
numbers_after word [] = with_word word []
numbers_after word (b ∷ bs) =
    elim (eqb b 32) [ true ↦ with_word word (numbers_after [] bs) | false ↦ numbers_after (word ++ (b ∷ [])) bs ]

unfoldable pub numbers : String → List ℤ
numbers s = numbers_after [] (bytes s)
