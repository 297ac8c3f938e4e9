-- What code does, as the definitions of the calls have it.
use Rattle.numbers.proofs.Kit.{◌≡◌, refl, sym, ap, ap₂, ◌∙◌, Bool, true, false, cond, List, ◌++◌, Option, none, some, ℕ, ◌+◌, ◌*◌, ◌%◌, ◌^◌, ◌≤◌, ◌<◌}
use Rattle.numbers.proofs.Kit.{arith, add-one, leb, length, take, drop, length-append, take-append-drop, length-take-le, eq-eqb, ne_eqb, le-leb, lt-leb}
use Rattle.numbers.specs.Tile.{put_le}
use Rattle.machine.specs.declared.Wrong.TheVariants.{Opcode, LeftOut, Unlisted, Register}
use Rattle.machine.specs.Listing.{decode}
use Rattle.machine.proofs.TestLaws.{false-true}
use Rattle.numbers_format.specs.Parser.{Parsed}
use Rattle.numbers_format.specs.Parser.Parsed.{whole, stopped}
use Rattle.text_lines.specs.Parts.{Wrote}
use Rattle.std.specs.Prelude.{Ok, Err}
use Rattle.text_assembly.specs.declared.TextError.TheVariants.{NoLine, BadArguments, NoRoom, BadLine}
use Rattle.text_assembly.specs.Answers.{Texted, TextReply, text_reply, code_answer}
use Rattle.text_assembly.specs.Lines.{line}
use Rattle.text_assembly.specs.Reading.{read_line}
use Rattle.text_assembly.specs.Theorems.{has_line, ReadRight}
use Rattle.text_assembly.proofs.LineLaws.{reads-right}
use Rattle.text_assembly.proofs.SizeLaws.{line-size}
use Rattle.text_write.specs.Parts.{line_text}
use Rattle.text_answers.proofs.CodeLaws.{told}
use Rattle.c_text.specs.TextCalls.{packed_text, lined_as, text_out, host_word_text, word_left, host_text_word}

-- ---- results

pub packs-size : (r : TextReply) (size : ℕ) → r.number ≡ 0 → size % 0x1_0000_0000_0000 * 65536 ≡ packed_text r size
unfolding packed_text
packs-size r size e = rw e (omega arith)

pub packs-column : (r : TextReply) (n c size : ℕ) → n ≡ r.number → c ≡ r.column → ¬ (n ≡ 0) → n + c % 0x1_0000_0000_0000 * 65536 ≡ packed_text r size
unfolding packed_text
packs-column r n c size e d z = rw (ne_eqb r.number 0 (λ k. z (e ∙ k))) (ap₂ (λ (x y : ℕ). x + y % 0x1_0000_0000_0000 * 65536) e d)

pub number_small : (a : Texted) → (text_reply a).number ≤ 17
number_small (Ok tt) = omega arith
number_small (Err (NoLine Opcode)) = omega arith
number_small (Err (NoLine LeftOut)) = omega arith
number_small (Err (NoLine Unlisted)) = omega arith
number_small (Err (NoLine Register)) = omega arith
number_small (Err BadArguments) = omega arith
number_small (Err NoRoom) = omega arith
number_small (Err (BadLine column)) = omega arith

-- ---- how long lines are, and where they stop

pub text-short : (w : ℕ) → w < 2 ^ 32 → length (line_text (line w)) ≤ 32
text-short w h = go (line w) refl
  where
    go : (x : Option (List ℕ)) → line w ≡ x → length (line_text x) ≤ 32
    go none e = omega arith
    go (some s) e = line-size w s (h, e)

pub stop-short : (s : List ℕ) (p : ℕ) → read_line s ≡ stopped p → p ≤ 32
stop-short s p e = go (read_line s) (reads-right s) e
  where
    go : (x : Parsed ℕ) → ReadRight s x → x ≡ stopped p → p ≤ 32
    go (whole w) r e = let z : ◌≡◌ {A = ℕ} 0 1 = cc in absurd (omega arith)
    go (stopped q) r e =
        let z : q ≡ p = cc in
        let g = r.0.goes_on in
        let short = line-size g.1.0 (take q s ++ g.0) g.1.1 in
        omega (arith, z, short, length-append (take q s) g.0, length-take-le q s r.0.there)

-- ---- the line of a word

pub front-written : (e x t : List ℕ) (r : ℕ) → Wrote e 0 x r t → x ≡ t ++ drop r e
front-written e x t r w = sym (take-append-drop r x) ∙ ap₂ (λ (a b : List ℕ). a ++ b) w.text w.rest

module _ (w : ℕ) (text : List ℕ) where
  pub text-refused : (a : Texted) → a ≡ code_answer (decode w) → ¬ ((text_reply a).number ≡ 0) → (r : ℕ) → r ≡ packed_text (text_reply a) 0 → text_out r text ≡ host_word_text w text
  unfolding host_word_text
  text-refused a e z r q = go (line w) (told w a e ∙ ne_eqb (text_reply a).number 0 z)
    where
      go : (x : Option (List ℕ)) → has_line x ≡ false → text_out r text ≡ text_out (packed_text (lined_as w x text).answer (lined_as w x text).size) (lined_as w x text).text
      go none h = ap (λ (z : ℕ). text_out z text) (q ∙ ap (λ (b : Texted). packed_text (text_reply b) 0) e)
      go (some s) h = absurd (false-true (sym h))

  pub text-long : has_line (line w) ≡ true → (n : ℕ) → n ≡ length (line_text (line w)) → length text < n → (left : List ℕ)
      → left ≡ cond (leb n (length text)) (line_text (line w) ++ drop n text) text → (r : ℕ) → r ≡ packed_text (text_reply (Err NoRoom)) 0 → text_out r left ≡ host_word_text w text
  unfolding host_word_text
  text-long h n e l left k r q = go (line w) h e k
    where
      go : (x : Option (List ℕ)) → has_line x ≡ true → n ≡ length (line_text x) → left ≡ cond (leb n (length text)) (line_text x ++ drop n text) text
          → text_out r left ≡ text_out (packed_text (lined_as w x text).answer (lined_as w x text).size) (lined_as w x text).text
      go none h e k = absurd (false-true h)
      go (some s) h e k =
          let f : leb n (length text) ≡ false = lt-leb n (length text) l in
          let g : leb (length s) (length text) ≡ false = ap (λ (z : ℕ). leb z (length text)) (sym e) ∙ f in
          let same : left ≡ text = k ∙ ap (λ (b : Bool). cond b (s ++ drop n text) text) f in
          rw g (ap₂ text_out q same)

  pub text-done : has_line (line w) ≡ true → (n : ℕ) → n ≡ length (line_text (line w)) → n ≤ length text → (left : List ℕ)
      → left ≡ cond (leb n (length text)) (line_text (line w) ++ drop n text) text → (r : ℕ) → r ≡ packed_text (text_reply (Ok tt)) n → text_out r left ≡ host_word_text w text
  unfolding host_word_text
  text-done h n e l left k r q = go (line w) h e k
    where
      go : (x : Option (List ℕ)) → has_line x ≡ true → n ≡ length (line_text x) → left ≡ cond (leb n (length text)) (line_text x ++ drop n text) text
          → text_out r left ≡ text_out (packed_text (lined_as w x text).answer (lined_as w x text).size) (lined_as w x text).text
      go none h e k = absurd (false-true h)
      go (some s) h e k =
          let f : leb n (length text) ≡ true = le-leb n (length text) l in
          let g : leb (length s) (length text) ≡ true = ap (λ (z : ℕ). leb z (length text)) (sym e) ∙ f in
          let same : left ≡ s ++ drop (length s) text = k ∙ ap (λ (b : Bool). cond b (s ++ drop n text) text) f ∙ ap (λ (z : ℕ). s ++ drop z text) e in
          rw g (ap₂ text_out (q ∙ ap (packed_text (text_reply (Ok tt))) e) same)

-- ---- the word of a line

module _ (text word : List ℕ) where
  pub word-refused : ¬ (length word ≡ 8) → (r : ℕ) → r ≡ packed_text (text_reply (Err BadArguments)) 0 → word_left r word ≡ host_text_word text word
  unfolding host_text_word
  word-refused h r e = rw (ne_eqb (length word) 8 h) (ap (λ (z : ℕ). word_left z word) e)

  pub word_read : length word ≡ 8 → (w : ℕ) → read_line text ≡ whole w → (left : List ℕ) → left ≡ put_le 0 8 w word → (r : ℕ) → r ≡ packed_text (text_reply (Ok tt)) 0 → word_left r left ≡ host_text_word text word
  unfolding host_text_word
  word_read h w e left k r q = rw (eq-eqb (length word) 8 h, e) (ap₂ word_left q k)

  pub word-bad : length word ≡ 8 → (p : ℕ) → read_line text ≡ stopped p → (r : ℕ) → r ≡ packed_text (text_reply (Err (BadLine (p + 1)))) 0 → word_left r word ≡ host_text_word text word
  unfolding host_text_word
  word-bad h p e r q = rw (eq-eqb (length word) 8 h, e) (ap (λ (z : ℕ). word_left z word) (q ∙ ap (λ (z : ℕ). packed_text (text_reply (Err (BadLine z))) 0) (add-one p)))
