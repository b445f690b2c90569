-- The command that a word names.
use Rattle.std.specs.Prelude.{ℕ, List, [], ◌∷◌, cond}
use Rattle.text.specs.Text.{same_text}
use Rattle.service.specs.declared.words.Word.{Word}
use Rattle.service.specs.declared.words.Word.TheVariants.{Show, Block, Preview, Recover, Upgrade, Format, Other}

-- "show", "block", "preview", "recover", "upgrade", "format", each whole
unfoldable pub word_of : List ℕ → Word
word_of s =
    cond (same_text s (115 ∷ 104 ∷ 111 ∷ 119 ∷ [])) Show
    (cond (same_text s (98 ∷ 108 ∷ 111 ∷ 99 ∷ 107 ∷ [])) Block
    (cond (same_text s (112 ∷ 114 ∷ 101 ∷ 118 ∷ 105 ∷ 101 ∷ 119 ∷ [])) Preview
    (cond (same_text s (114 ∷ 101 ∷ 99 ∷ 111 ∷ 118 ∷ 101 ∷ 114 ∷ [])) Recover
    (cond (same_text s (117 ∷ 112 ∷ 103 ∷ 114 ∷ 97 ∷ 100 ∷ 101 ∷ [])) Upgrade
    (cond (same_text s (102 ∷ 111 ∷ 114 ∷ 109 ∷ 97 ∷ 116 ∷ [])) Format Other)))))
