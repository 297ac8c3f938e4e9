-- Computed examples of a salvage.
use Rattle.std.specs.Prelude.{◌≡◌, refl, List, [], ◌∷◌, ℕ, take, replicate}
use Rattle.numbers_format.specs.Numbers.{groups, encode}
use Rattle.numbers_format.specs.Parser.{is_among, nonempty, read_number, parse}
use Rattle.image.specs.declared.ImageError.TheVariants.{NoRoom, Damaged}
use Rattle.image.specs.Images.{beyond}
use Rattle.image.specs.ImageFormat.{top_rlen, top_mlen, least_mlen, mtypes, ranges_format, runs_format, image_format}
use Rattle.image_salvage.specs.Fronts.{front}
use Rattle.image.specs.Answers.{image_done, image_reply}
use Rattle.image_salvage.specs.Salvage.{place_in, announced_format, runs_kept, kept_in, SalvageOutcome, salvaged, salvage}

-- a fresh machine of RLEN 64 and MLEN 128, and three runs of two bytes behind gaps of one
abbrev head : ℕ → List ℕ → List ℕ
head n t = 1 ∷ 6 ∷ 7 ∷ 0 ∷ 0 ∷ 0 ∷ 0 ∷ 5 ∷ 3 ∷ n ∷ t

abbrev three_runs : List ℕ
three_runs = head 3 (1 ∷ 2 ∷ 20 ∷ 21 ∷ 1 ∷ 2 ∷ 22 ∷ 23 ∷ 1 ∷ 2 ∷ 24 ∷ 25 ∷ [])

abbrev of : List ℕ → SalvageOutcome
of s = salvage s (replicate 24 9)

-- sound; cut in the last byte of the third run, behind the second run, in the second run's length, behind the header and in the header; a byte
-- behind it; the second gap 0, which no image has
salvages : of three_runs ∷ of (take 21 three_runs) ∷ of (take 18 three_runs) ∷ of (take 15 three_runs) ∷ of (take 10 three_runs) ∷ of (take 9 three_runs)
    ∷ of (head 1 (1 ∷ 2 ∷ 20 ∷ 21 ∷ 7 ∷ [])) ∷ of (head 3 (1 ∷ 2 ∷ 20 ∷ 21 ∷ 0 ∷ 2 ∷ 22 ∷ 23 ∷ 1 ∷ 2 ∷ 24 ∷ 25 ∷ [])) ∷ []
    ≡ salvaged image_done 3 3 22 22 (head 3 (1 ∷ 2 ∷ 20 ∷ 21 ∷ 1 ∷ 2 ∷ 22 ∷ 23 ∷ 1 ∷ 2 ∷ 24 ∷ 25 ∷ 9 ∷ 9 ∷ []))
    ∷ salvaged image_done 2 3 21 18 (head 2 (1 ∷ 2 ∷ 20 ∷ 21 ∷ 1 ∷ 2 ∷ 22 ∷ 23 ∷ 9 ∷ 9 ∷ 9 ∷ 9 ∷ 9 ∷ 9 ∷ []))
    ∷ salvaged image_done 2 3 18 18 (head 2 (1 ∷ 2 ∷ 20 ∷ 21 ∷ 1 ∷ 2 ∷ 22 ∷ 23 ∷ 9 ∷ 9 ∷ 9 ∷ 9 ∷ 9 ∷ 9 ∷ []))
    ∷ salvaged image_done 1 3 15 14 (head 1 (1 ∷ 2 ∷ 20 ∷ 21 ∷ 9 ∷ 9 ∷ 9 ∷ 9 ∷ 9 ∷ 9 ∷ 9 ∷ 9 ∷ 9 ∷ 9 ∷ []))
    ∷ salvaged image_done 0 3 10 10 (head 0 (replicate 14 9))
    ∷ salvaged (image_reply (Damaged 9)) 0 0 9 0 (replicate 24 9)
    ∷ salvaged image_done 1 1 14 14 (head 1 (1 ∷ 2 ∷ 20 ∷ 21 ∷ 9 ∷ 9 ∷ 9 ∷ 9 ∷ 9 ∷ 9 ∷ 9 ∷ 9 ∷ 9 ∷ 9 ∷ []))
    ∷ salvaged image_done 1 3 14 14 (head 1 (1 ∷ 2 ∷ 20 ∷ 21 ∷ 9 ∷ 9 ∷ 9 ∷ 9 ∷ 9 ∷ 9 ∷ 9 ∷ 9 ∷ 9 ∷ 9 ∷ []))
    ∷ []
unfolding salvage place_in kept_in announced_format runs_kept front parse read_number is_among nonempty image_format beyond top_rlen top_mlen least_mlen mtypes ranges_format runs_format encode groups
salvages = refl

-- the other versions: 2, cut in its one run; 3, cut in the second of two runs; 4 without a range, sound; with two ranges, cut in its one run; and cut
-- in the second range
versions : of (2 ∷ 1 ∷ 6 ∷ 7 ∷ 0 ∷ 0 ∷ 0 ∷ 0 ∷ 5 ∷ 3 ∷ 1 ∷ 1 ∷ 2 ∷ 20 ∷ [])
    ∷ of (3 ∷ 0 ∷ 6 ∷ 7 ∷ 8 ∷ 0 ∷ 0 ∷ 0 ∷ 0 ∷ 5 ∷ 3 ∷ 2 ∷ 1 ∷ 1 ∷ 20 ∷ 1 ∷ 1 ∷ [])
    ∷ of (4 ∷ 0 ∷ 5 ∷ 6 ∷ 7 ∷ 0 ∷ 0 ∷ 0 ∷ 0 ∷ 0 ∷ 1 ∷ 1 ∷ 1 ∷ 20 ∷ [])
    ∷ of (4 ∷ 0 ∷ 5 ∷ 6 ∷ 7 ∷ 0 ∷ 0 ∷ 0 ∷ 0 ∷ 2 ∷ 5 ∷ 3 ∷ 6 ∷ 1 ∷ 1 ∷ 1 ∷ 1 ∷ [])
    ∷ of (4 ∷ 0 ∷ 5 ∷ 6 ∷ 7 ∷ 0 ∷ 0 ∷ 0 ∷ 0 ∷ 2 ∷ 5 ∷ 3 ∷ 6 ∷ []) ∷ []
    ≡ salvaged image_done 0 1 14 11 (2 ∷ 1 ∷ 6 ∷ 7 ∷ 0 ∷ 0 ∷ 0 ∷ 0 ∷ 5 ∷ 3 ∷ 0 ∷ replicate 13 9)
    ∷ salvaged image_done 1 2 17 15 (3 ∷ 0 ∷ 6 ∷ 7 ∷ 8 ∷ 0 ∷ 0 ∷ 0 ∷ 0 ∷ 5 ∷ 3 ∷ 1 ∷ 1 ∷ 1 ∷ 20 ∷ replicate 9 9)
    ∷ salvaged image_done 1 1 14 14 (4 ∷ 0 ∷ 5 ∷ 6 ∷ 7 ∷ 0 ∷ 0 ∷ 0 ∷ 0 ∷ 0 ∷ 1 ∷ 1 ∷ 1 ∷ 20 ∷ replicate 10 9)
    ∷ salvaged image_done 0 1 17 15 (4 ∷ 0 ∷ 5 ∷ 6 ∷ 7 ∷ 0 ∷ 0 ∷ 0 ∷ 0 ∷ 2 ∷ 5 ∷ 3 ∷ 6 ∷ 1 ∷ 0 ∷ replicate 9 9)
    ∷ salvaged (image_reply (Damaged 13)) 0 0 13 0 (replicate 24 9)
    ∷ []
unfolding salvage place_in kept_in announced_format runs_kept front parse read_number is_among nonempty image_format beyond top_rlen top_mlen least_mlen mtypes ranges_format runs_format encode groups
versions = refl

-- no room: the place is there, the counts are 0
no_room : salvage three_runs (replicate 21 9) ≡ salvaged (image_reply NoRoom) 0 0 22 0 (replicate 21 9)
unfolding salvage place_in kept_in announced_format runs_kept front parse read_number is_among nonempty image_format beyond top_rlen top_mlen least_mlen mtypes ranges_format runs_format encode groups
no_room = refl
