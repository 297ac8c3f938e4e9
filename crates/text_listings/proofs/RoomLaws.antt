-- The lines of a text, and the room that the replies to them take.
use Rattle.numbers.proofs.Kit.{◌≡◌, refl, sym, ap, ◌∙◌, ⊎_elim, Bool, true, false, cond, List, [], ◌∷◌, ◌++◌, append_assoc, append-nil, Option, none}
use Rattle.numbers.proofs.Kit.{some, ℕ, suc, ◌+◌, ◌-◌, ◌*◌, ◌^◌, ◌≤◌, ◌<◌, arith, eqb, length, take, drop, drop_of_length-le, length-append, length-take}
use Rattle.numbers.proofs.Kit.{length-drop, drop-drop, length-take-le, le-leb, lt-leb}
use Rattle.numbers.proofs.BlockLaws.{le-or-lt}
use Rattle.machine.specs.declared.Wrong.TheVariants.{Opcode, LeftOut, Unlisted, Register}
use Rattle.machine.specs.declared.Instruction.{Instruction}
use Rattle.machine.specs.declared.Instruction.TheVariants.{Illegal, SetTypeImmediate, SetType, SetTileImmediate, SetTile, Load, Store, Multiply, Combine, Scale, ScaleImmediate, FloatMultiply, MoveOut, MoveIn}
use Rattle.machine.specs.Listing.{decode}
use Rattle.numbers_format.specs.Parser.{Parsed}
use Rattle.numbers_format.specs.Parser.Parsed.{whole, stopped}
use Rattle.text_lines.specs.Lines.{decimal}
use Rattle.text_lines.specs.Parts.{Wrote}
use Rattle.text_lines.proofs.WriteLaws.{decimal-room, length-one}
use Rattle.text_assembly.specs.Answers.{text_reply, code_answer, code_number}
use Rattle.text_assembly.specs.Lines.{line}
use Rattle.text_assembly.specs.Reading.{read_line}
use Rattle.text_assembly.specs.Words.{read_word}
use Rattle.text_assembly.specs.Programs.{refusal, bad_line, listed, listed_as, assembled_as, reply_to, lines_from, lines_of, replies, program_text}
use Rattle.text_assembly.specs.Theorems.{WordRight, ReadRight}
use Rattle.text_assembly.proofs.LineLaws.{reads-right}
use Rattle.text_assembly.proofs.SizeLaws.{line-size}
use Rattle.text_assembly.proofs.HexLaws.{words_right, word-length}
use Rattle.text_read.specs.Parts.{feed_at}
use Rattle.text_listings.specs.Parts.{room}

-- ---- lines

-- l has a byte, or t has
abbrev Some : List ℕ → List ℕ → Type 0
Some [] [] = ⊥
Some [] (b ∷ t) = Unit {0}
Some (b ∷ l) t = Unit {0}

some_more : (l : List ℕ) (b : ℕ) (t : List ℕ) → Some (l ++ (b ∷ [])) t
some_more [] b t = tt
some_more (x ∷ l) b t = tt

lines-from : (l t : List ℕ) → Some l t → lines_from l t ≡ (l ++ take (feed_at t) t) ∷ lines_of (drop (suc (feed_at t)) t)
lines-from [] [] h = absurd h
lines-from (x ∷ l) [] h = ap (λ (z : List ℕ). z ∷ []) (sym (append-nil (x ∷ l)))
lines-from l (b ∷ t) h = go (eqb b 10) (lines-from (l ++ (b ∷ [])) t (some_more l b t))
  where
    go : (e : Bool) → lines_from (l ++ (b ∷ [])) t ≡ ((l ++ (b ∷ [])) ++ take (feed_at t) t) ∷ lines_of (drop (suc (feed_at t)) t)
        → cond e (l ∷ lines_from [] t) (lines_from (l ++ (b ∷ [])) t)
        ≡ (l ++ take (cond e 0 (suc (feed_at t))) (b ∷ t)) ∷ lines_of (drop (suc (cond e 0 (suc (feed_at t)))) (b ∷ t))
    go true ih = ap (λ (z : List ℕ). z ∷ lines_from [] t) (sym (append-nil l))
    go false ih = ih ∙ ap (λ (z : List ℕ). z ∷ lines_of (drop (suc (feed_at t)) t)) (append_assoc l (b ∷ []) (take (feed_at t) t))

pub next-line : (t : List ℕ) → 0 < length t → lines_of t ≡ take (feed_at t) t ∷ lines_of (drop (suc (feed_at t)) t)
next-line [] h = absurd (omega arith)
next-line (b ∷ t) h = lines-from [] (b ∷ t) tt

pub feed-bound : (t : List ℕ) → feed_at t ≤ length t
feed-bound [] = omega arith
feed-bound (b ∷ t) = go (eqb b 10) (feed-bound t)
  where
    go : (e : Bool) → feed_at t ≤ length t → cond e 0 (suc (feed_at t)) ≤ suc (length t)
    go true h = omega arith
    go false h = omega arith

-- ---- how long a reply is

refusal-size : (a c : ℕ) → a < 100 → length (refusal a c) ≤ 10 + length (decimal c)
refusal-size a c h = omega (arith, decimal-room 1 a h, length-append (decimal a) (32 ∷ decimal c))

bad-size : (s : List ℕ) (p : ℕ) → p ≤ length s → length s ≤ 65536 → length (bad_line p) + 1 ≤ room s
bad-size s p h k = ⊎_elim
    (λ l. let r = decimal-room 4 (suc p) (omega arith) in omega (arith, refusal-size 17 (suc p) (omega arith)))
    (λ l. let r = length-one (suc p) (omega arith) in omega (arith, refusal-size 17 (suc p) (omega arith)))
    (le-or-lt 9 p)

code-size : (i : Instruction) → (code_number i < 100) × ((text_reply (code_answer i)).column ≡ 0)
code-size (Illegal Opcode) = (omega arith, refl)
code-size (Illegal LeftOut) = (omega arith, refl)
code-size (Illegal Unlisted) = (omega arith, refl)
code-size (Illegal Register) = (omega arith, refl)
code-size (SetTypeImmediate rd immediate) = (omega arith, refl)
code-size (SetType rd rs1) = (omega arith, refl)
code-size (SetTileImmediate dimension rd immediate) = (omega arith, refl)
code-size (SetTile dimension rd rs1) = (omega arith, refl)
code-size (Load form matrix width md rs1 rs2) = (omega arith, refl)
code-size (Store form matrix width ms3 rs1 rs2) = (omega arith, refl)
code-size (Multiply factor md ms1 ms2) = (omega arith, refl)
code-size (Combine sum factor md ms1) = (omega arith, refl)
code-size (Scale factor md ms1 rs2) = (omega arith, refl)
code-size (ScaleImmediate factor md ms1 immediate) = (omega arith, refl)
code-size (FloatMultiply md ms1 ms2) = (omega arith, refl)
code-size (MoveOut form vd ms1 rs2) = (omega arith, refl)
code-size (MoveIn form md vs1 rs2) = (omega arith, refl)

listed-size : (w : ℕ) → w < 2 ^ 32 → length (listed w (line w)) ≤ 90
listed-size w h = go (line w) refl
  where
    go : (x : Option (List ℕ)) → line w ≡ x → length (listed w x) ≤ 90
    go none e =
        let c = code-size (decode w) in
        let z = ap (λ (x : ℕ). length (decimal x)) c.1 in
        omega (arith, refusal-size (code_number (decode w)) (text_reply (code_answer (decode w))).column c.0, z, length-one 0 (omega arith))
    go (some s) e = omega (arith, line-size w s (h, e))

pub reply-room : (back : Bool) (s : List ℕ) → length s ≤ 65536 → length (reply_to back s) + 1 ≤ room s
reply-room true s k = go (read_line s) (reads-right s)
  where
    go : (q : Parsed ℕ) → ReadRight s q → length (assembled_as q) + 1 ≤ room s
    go (whole w) r = omega (arith, word-length w)
    go (stopped p) r = bad-size s p r.0.there k
reply-room false s k = go (read_word s) (words_right s)
  where
    go : (q : Parsed ℕ) → WordRight s q → length (listed_as q) + 1 ≤ room s
    go (whole w) r = omega (arith, listed-size w r.0, ap length r.1, word-length w)
    go (stopped p) r = bad-size s p r.0.there k

-- ---- all lines

-- the first line that is left, and those after it
module _ (back : Bool) (t : List ℕ) (from : ℕ) (h : from < length t) where
  abbrev here : List ℕ
  here = take (feed_at (drop from t)) (drop from t)

  pub replies-next : replies back (lines_of (drop from t)) ≡ reply_to back here ++ ((10 ∷ []) ++ replies back (lines_of (drop (from + feed_at (drop from t) + 1) t)))
  replies-next =
      let l : 0 < length (drop from t) = omega (arith, length-drop from t) in
      let e : from + suc (feed_at (drop from t)) ≡ from + feed_at (drop from t) + 1 = omega arith in
      ap (replies back) (next-line (drop from t) l)
      ∙ ap (λ (z : List ℕ). reply_to back here ++ (10 ∷ replies back (lines_of z))) (drop-drop (suc (feed_at (drop from t))) from t ∙ ap (λ (z : ℕ). drop z t) e)

  -- what a reply takes is twelve bytes for each byte of the text that is passed
  pub room_next : length t ≤ 65536 → length (reply_to back here) + 1 + 12 * (length t - (from + feed_at (drop from t) + 1)) ≤ 12 * (length t - from)
  room_next k =
      let f = feed-bound (drop from t) in
      let d = length-drop from t in
      let n : length here ≡ feed_at (drop from t) = length-take-le (feed_at (drop from t)) (drop from t) f in
      let r = reply-room back here (omega arith) in
      omega arith

pub replies-none : (back : Bool) (t : List ℕ) (from : ℕ) → length t ≤ from → replies back (lines_of (drop from t)) ≡ []
replies-none back t from h = rw (drop_of_length-le t h)

pub line-is : (t : List ℕ) (from to : ℕ) → to ≡ from + feed_at (drop from t) → take (to - from) (drop from t) ≡ take (feed_at (drop from t)) (drop from t)
line-is t from to e = let d : to - from ≡ feed_at (drop from t) = omega arith in ap (λ (z : ℕ). take z (drop from t)) d

-- ---- the whole text

pub text-long : (back : Bool) (t : List ℕ) → 65536 < length t → program_text back t ≡ refusal 8 0 ++ (10 ∷ [])
unfolding program_text
text-long back t h = rw (lt-leb (length t) 65536 h)

pub text-short : (back : Bool) (t : List ℕ) → length t ≤ 65536 → program_text back t ≡ replies back (lines_of t)
unfolding program_text
text-short back t h = rw (le-leb (length t) 65536 h)

pub eight-size : length (refusal 8 0) ≤ 11
eight-size = omega (arith, refusal-size 8 0 (omega arith), length-one 0 (omega arith))

-- a whole buffer
pub wrote-all : {e x t : List ℕ} {r : ℕ} → Wrote e 0 x r t → (n : ℕ) → length e ≡ n → ((r ≤ n) × (length x ≡ n)) × ((take r x ≡ t) × (drop r x ≡ drop r e))
wrote-all {e} {x} {t} {r} w n h =
    ((omega (arith, w.to, w.same, length-take r x, ap length w.text), w.same ∙ h), (w.text, w.rest))
