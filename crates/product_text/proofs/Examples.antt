-- Texts and what `product` writes for them, by computation.
use Rattle.numbers.proofs.Kit.{◌≡◌, refl, List, [], ◌∷◌, map, none, some, ℕ, replicate, pos, negsuc}
use Rattle.numbers.specs.Reduce.{reduce}
use Rattle.machine.specs.Setting.{sew}
use Rattle.run.specs.Plan.{msew, type_of}
use Rattle.run.specs.Start.{format}
use Rattle.product_text.specs.Text.{numbers}
use Rattle.product_text.specs.Problem.{problem}
use Rattle.text_lines.specs.Lines.{decimal, refused}
use Rattle.product_text.specs.Output.{steps_of, product_rows, answer_text}

-- ---- numbers

-- ` 8\n\n-0 007 -128`
several : numbers (32 ∷ 56 ∷ 10 ∷ 10 ∷ 45 ∷ 48 ∷ 32 ∷ 48 ∷ 48 ∷ 55 ∷ 32 ∷ 45 ∷ 49 ∷ 50 ∷ 56 ∷ []) ≡ some (pos 8 ∷ pos 0 ∷ pos 7 ∷ negsuc 127 ∷ [])
several = refl

no-numbers : List (List ℕ)
no-numbers =
    -- `--1`
    (45 ∷ 45 ∷ 49 ∷ [])
    -- `1 -`
    ∷ (49 ∷ 32 ∷ 45 ∷ [])
    -- `1-`
    ∷ (49 ∷ 45 ∷ [])
    -- `+1`
    ∷ (43 ∷ 49 ∷ [])
    -- `1\t2`
    ∷ (49 ∷ 9 ∷ 50 ∷ [])
    -- `1\r\n2`
    ∷ (49 ∷ 13 ∷ 10 ∷ 50 ∷ [])
    ∷ []

other_text : map numbers no-numbers ≡ replicate 6 none
unfolding no-numbers
other_text = refl

-- ---- whole texts

-- 01: "Input `8 4 2 3 2 1 2 3 -4 5 -6 7 8 9 10 11 12` gives" `answer 0 steps 9\n58 64\n-49 -54\n`
example : answer_text (56 ∷ 32 ∷ 52 ∷ 32 ∷ 50 ∷ 32 ∷ 51 ∷ 32 ∷ 50 ∷ 32 ∷ 49 ∷ 32 ∷ 50 ∷ 32 ∷ 51 ∷ 32 ∷ 45 ∷ 52 ∷ 32 ∷ 53 ∷ 32 ∷ 45 ∷ 54 ∷ 32 ∷ 55 ∷ 32 ∷ 56 ∷ 32 ∷ 57 ∷ 32 ∷ 49 ∷ 48 ∷ 32 ∷ 49 ∷ 49 ∷ 32 ∷ 49 ∷ 50 ∷ []) ≡ 97 ∷ 110 ∷ 115 ∷ 119 ∷ 101 ∷ 114 ∷ 32 ∷ 48 ∷ 32 ∷ 115 ∷ 116 ∷ 101 ∷ 112 ∷ 115 ∷ 32 ∷ 57 ∷ 10 ∷ 53 ∷ 56 ∷ 32 ∷ 54 ∷ 52 ∷ 10 ∷ 45 ∷ 52 ∷ 57 ∷ 32 ∷ 45 ∷ 53 ∷ 52 ∷ 10 ∷ []
unfolding answer_text problem decimal steps_of product_rows reduce format type_of msew sew
example = refl

-- `8 1 -0 0 0` gives `answer 0 steps 1\n`
no_rows : answer_text (56 ∷ 32 ∷ 49 ∷ 32 ∷ 45 ∷ 48 ∷ 32 ∷ 48 ∷ 32 ∷ 48 ∷ []) ≡ 97 ∷ 110 ∷ 115 ∷ 119 ∷ 101 ∷ 114 ∷ 32 ∷ 48 ∷ 32 ∷ 115 ∷ 116 ∷ 101 ∷ 112 ∷ 115 ∷ 32 ∷ 49 ∷ 10 ∷ []
unfolding answer_text problem decimal steps_of product_rows reduce format type_of msew sew
no_rows = refl

-- `8 1 2 0 0` gives `answer 0 steps 2\n` and two empty lines
empty-rows : answer_text (56 ∷ 32 ∷ 49 ∷ 32 ∷ 50 ∷ 32 ∷ 48 ∷ 32 ∷ 48 ∷ []) ≡ 97 ∷ 110 ∷ 115 ∷ 119 ∷ 101 ∷ 114 ∷ 32 ∷ 48 ∷ 32 ∷ 115 ∷ 116 ∷ 101 ∷ 112 ∷ 115 ∷ 32 ∷ 50 ∷ 10 ∷ 10 ∷ 10 ∷ []
unfolding answer_text problem decimal steps_of product_rows reduce format type_of msew sew
empty-rows = refl

-- `8 1 1 1 1 100 100` gives `answer 0 steps 9\n16\n`: 10,000 at 8 bits
reduced : answer_text (56 ∷ 32 ∷ 49 ∷ 32 ∷ 49 ∷ 32 ∷ 49 ∷ 32 ∷ 49 ∷ 32 ∷ 49 ∷ 48 ∷ 48 ∷ 32 ∷ 49 ∷ 48 ∷ 48 ∷ []) ≡ 97 ∷ 110 ∷ 115 ∷ 119 ∷ 101 ∷ 114 ∷ 32 ∷ 48 ∷ 32 ∷ 115 ∷ 116 ∷ 101 ∷ 112 ∷ 115 ∷ 32 ∷ 57 ∷ 10 ∷ 49 ∷ 54 ∷ 10 ∷ []
unfolding answer_text problem decimal steps_of product_rows reduce format type_of msew sew
reduced = refl

refused-texts : List (List ℕ)
refused-texts =
    -- an empty text
    []
    -- a tab: `8 1\t0 0 0`
    ∷ (56 ∷ 32 ∷ 49 ∷ 9 ∷ 48 ∷ 32 ∷ 48 ∷ 32 ∷ 48 ∷ [])
    -- one number too few, and one too many: `8 1 1 1 1 1` and `8 1 1 1 1 1 1 1`
    ∷ (56 ∷ 32 ∷ 49 ∷ 32 ∷ 49 ∷ 32 ∷ 49 ∷ 32 ∷ 49 ∷ 32 ∷ 49 ∷ [])
    ∷ (56 ∷ 32 ∷ 49 ∷ 32 ∷ 49 ∷ 32 ∷ 49 ∷ 32 ∷ 49 ∷ 32 ∷ 49 ∷ 32 ∷ 49 ∷ 32 ∷ 49 ∷ [])
    -- SEW and f: `-8 1 0 0 0`, `24 1 0 0 0`, `8 3 0 0 0` and `16 4 0 0 0`
    ∷ (45 ∷ 56 ∷ 32 ∷ 49 ∷ 32 ∷ 48 ∷ 32 ∷ 48 ∷ 32 ∷ 48 ∷ [])
    ∷ (50 ∷ 52 ∷ 32 ∷ 49 ∷ 32 ∷ 48 ∷ 32 ∷ 48 ∷ 32 ∷ 48 ∷ [])
    ∷ (56 ∷ 32 ∷ 51 ∷ 32 ∷ 48 ∷ 32 ∷ 48 ∷ 32 ∷ 48 ∷ [])
    ∷ (49 ∷ 54 ∷ 32 ∷ 52 ∷ 32 ∷ 48 ∷ 32 ∷ 48 ∷ 32 ∷ 48 ∷ [])
    -- sizes: `8 1 17 0 0` and `8 1 -1 0 0`
    ∷ (56 ∷ 32 ∷ 49 ∷ 32 ∷ 49 ∷ 55 ∷ 32 ∷ 48 ∷ 32 ∷ 48 ∷ [])
    ∷ (56 ∷ 32 ∷ 49 ∷ 32 ∷ 45 ∷ 49 ∷ 32 ∷ 48 ∷ 32 ∷ 48 ∷ [])
    -- elements: `8 1 1 1 1 128 0` and `8 1 1 1 1 0 -129`
    ∷ (56 ∷ 32 ∷ 49 ∷ 32 ∷ 49 ∷ 32 ∷ 49 ∷ 32 ∷ 49 ∷ 32 ∷ 49 ∷ 50 ∷ 56 ∷ 32 ∷ 48 ∷ [])
    ∷ (56 ∷ 32 ∷ 49 ∷ 32 ∷ 49 ∷ 32 ∷ 49 ∷ 32 ∷ 49 ∷ 32 ∷ 48 ∷ 32 ∷ 45 ∷ 49 ∷ 50 ∷ 57 ∷ [])
    ∷ []

all-refused : map answer_text refused-texts ≡ replicate 12 refused
unfolding answer_text problem decimal steps_of product_rows reduce format type_of msew sew refused-texts
all-refused = refl

-- `answer 8 steps 0\n`
refused-is : refused ≡ 97 ∷ 110 ∷ 115 ∷ 119 ∷ 101 ∷ 114 ∷ 32 ∷ 56 ∷ 32 ∷ 115 ∷ 116 ∷ 101 ∷ 112 ∷ 115 ∷ 32 ∷ 48 ∷ 10 ∷ []
unfolding decimal
refused-is = refl
