-- What the entry points have to show: an image is its numbers, then its runs.
use Rattle.std.specs.Prelude.{Ok, Err}
use Rattle.numbers.proofs.Kit.{◌≡◌, sym, ap, ap₂, ◌∙◌, true, false, List, [], ◌∷◌, ◌++◌, ℕ, ◌+◌, ◌≤◌, ◌<◌, arith, length, length-append, sets, le-leb}
use Rattle.numbers.proofs.Kit.{lt-leb}
use Rattle.numbers_format.specs.Numbers.{encode, encode_all}
use Rattle.machine.specs.declared.Machine.{Machine}
use Rattle.machine.specs.Faults.{sound, seals_fit}
use Rattle.machine.proofs.TestLaws.{and_left, and_right}
use Rattle.machine.proofs.StepLaws.{permitted-bounds}
use Rattle.machine.proofs.NoFault.{sound-is}
use Rattle.image.specs.declared.ImageError.TheVariants.{BadArguments, NoRoom}
use Rattle.image.specs.Cells.{cells_of, runs}
use Rattle.image.specs.Images.{Seals, version, fields, header_of, runs_bytes, image_of, sound_with}
use Rattle.image.specs.Writing.{size_reply, size_image, write_reply, write_image}
use Rattle.image_write.specs.Parts.{TwoValued, TallyOk}
use Rattle.image_write.proofs.PutLaws.{sets-append, sets-front, all_append, all-last}

module _ (m : Machine) (seals : Seals) (registers marks : List ℕ) where
  module _ (w : sound_with m seals registers marks ≡ true) where
    s : sound m registers marks ≡ true
    s = and_left (sound m registers marks) (seals_fit seals) w

    pub seals-fit : seals_fit seals ≡ true
    seals-fit = and_right (sound m registers marks) (seals_fit seals) w

    pub two-valued : TwoValued marks
    two-valued = (sound-is m registers marks s).state.marks-two

    pub same_size : length registers ≡ length marks
    same_size = let st = (sound-is m registers marks s).state in st.regs-length ∙ sym st.marks-length

    pub few-marks : length marks ≤ 131072
    few-marks =
        let k = sound-is m registers marks s in
        omega (arith, k.state.marks-length, permitted-bounds m.rlen m.mlen m.elen k.lengths)

    module _ (count : ℕ) (is : count ≡ length (runs (cells_of registers marks))) where
      abbrev version_of : List ℕ
      version_of = encode_all (version (header_of m seals)) []

      abbrev numbers_of : List ℕ
      numbers_of = encode_all (fields (header_of m seals) ++ (count ∷ [])) []

      abbrev runs_of : List ℕ
      runs_of = runs_bytes (runs (cells_of registers marks))

      image-parts : image_of m seals registers marks ≡ version_of ++ (numbers_of ++ runs_of)
      unfolding image_of
      image-parts =
          all_append (version (header_of m seals)) _
          ∙ ap (λ (z : List ℕ). version_of ++ z) (ap (λ (x : ℕ). encode_all (fields (header_of m seals)) (encode x ++ runs_of)) (sym is) ∙ sym (all-last (fields (header_of m seals)) count runs_of))

      pub size_is : length (image_of m seals registers marks) ≡ length version_of + (length numbers_of + length runs_of)
      size_is = ap length image-parts ∙ length-append version_of (numbers_of ++ runs_of) ∙ ap (λ (n : ℕ). length version_of + n) (length-append numbers_of runs_of)

      -- put one after the other
      pub image-put : (room room₁ room₂ room₃ : List ℕ) (at at₁ : ℕ) → room₁ ≡ sets room 0 version_of → at ≡ length version_of
          → room₂ ≡ sets room₁ at numbers_of → at₁ ≡ at + length numbers_of → room₃ ≡ sets room₂ at₁ runs_of → room₃ ≡ sets room 0 (image_of m seals registers marks)
      image-put room room₁ room₂ room₃ at at₁ e₁ ea e₂ eb e₃ =
          e₃ ∙ ap₂ (λ (x : List ℕ) (y : ℕ). sets x y runs_of) e₂ eb ∙ sym (sets-append numbers_of runs_of room₁ at)
          ∙ ap₂ (λ (x : List ℕ) (y : ℕ). sets x y (numbers_of ++ runs_of)) e₁ starts
          ∙ sym (sets-append version_of (numbers_of ++ runs_of) room 0) ∙ ap (sets room 0) (sym image-parts)
        where
          starts : at ≡ 0 + length version_of
          starts = omega (arith, ea)

    module _ (count size : ℕ) (t : TallyOk marks count size) where
      pub count-is : count ≡ length (runs (cells_of registers marks))
      count-is = t.counted registers same_size

      pub image-size-is : (v n : ℕ) → v ≡ length (encode_all (version (header_of m seals)) []) → n ≡ length (encode_all (fields (header_of m seals) ++ (count ∷ [])) [])
          → v + n + size ≡ length (image_of m seals registers marks)
      image-size-is v n d e = omega (arith, d, e, t.sized registers same_size, size_is count count-is)

  -- ---- what is returned

  pub size-refused : sound_with m seals registers marks ≡ false → size_reply (Err BadArguments) ≡ size_image m seals registers marks
  unfolding size_image
  size-refused e = rw e

  pub size-done : sound_with m seals registers marks ≡ true → (n : ℕ) → n ≡ length (image_of m seals registers marks) → size_reply (Ok n) ≡ size_image m seals registers marks
  unfolding size_image
  size-done e n q = rw e (ap (λ (x : ℕ). size_reply (Ok x)) q)

  module _ (room : List ℕ) where
    pub write-refused : sound_with m seals registers marks ≡ false → write_reply (Err BadArguments) room ≡ write_image m seals registers marks room
    unfolding write_image
    write-refused e = rw e

    pub write-short : sound_with m seals registers marks ≡ true → (n : ℕ) → n ≡ length (image_of m seals registers marks) → length room < n → write_reply (Err NoRoom) room ≡ write_image m seals registers marks room
    unfolding write_image
    write-short e n q h = rw (e, lt-leb (length (image_of m seals registers marks)) (length room) (omega (arith, q)))

    pub write_done : sound_with m seals registers marks ≡ true → (n : ℕ) → n ≡ length (image_of m seals registers marks) → n ≤ length room → (room₁ : List ℕ) → room₁ ≡ sets room 0 (image_of m seals registers marks)
        → write_reply (Ok n) room₁ ≡ write_image m seals registers marks room
    unfolding write_image
    write_done e n q h room₁ r =
        let fits : length (image_of m seals registers marks) ≤ length room = omega (arith, q) in
        rw (e, le-leb (length (image_of m seals registers marks)) (length room) fits)
        (ap (λ (x : ℕ). write_reply (Ok x) room₁) q ∙ ap (write_reply (Ok (length (image_of m seals registers marks)))) (r ∙ sets-front (image_of m seals registers marks) room fits))
