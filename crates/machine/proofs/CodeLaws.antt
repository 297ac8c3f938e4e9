-- For code: the verdict of checks made in parts, the outcome of an instruction from its parts, and bounds of what is decoded.
use Rattle.numbers.proofs.Kit.{◌≡◌, refl, sym, ap, ap₂, ◌∙◌, Bool, true, false, cond, not, ◌&&◌, List, [], ◌∷◌, ◌++◌, ℕ, ◌^◌, ◌≤◌, arith, ltb, eqb}
use Rattle.numbers.proofs.Kit.{eqb-true, ltb-true, ltb-false, lt-ltb, ne_eqb, Ok, Err}
use Rattle.numbers.specs.Blocks.{Choice}
use Rattle.numbers.specs.Bounds.{most_elen}
use Rattle.machine.specs.declared.Machine.{Machine}
use Rattle.machine.specs.declared.Refusal.{Refusal}
use Rattle.machine.specs.declared.Refusal.TheVariants.{IllegalWord, IllegalType, BadWidth, TileTooLarge, Unwritten, OutsideMemory, SealedByte, BadArguments, Overlap, WrongOpcode, LeftOutWord, WrongRegister, RowsOverlap, TooManySeals}
use Rattle.machine.specs.declared.Wrong.TheVariants.{Opcode, Register}
use Rattle.machine.specs.declared.Instruction.{Instruction}
use Rattle.machine.specs.declared.Instruction.TheVariants.{Illegal, SetTypeImmediate, SetType, SetTileImmediate, SetTile, Load, Store, Multiply, Combine, Scale, ScaleImmediate, FloatMultiply, MoveOut, MoveIn}
use Rattle.machine.specs.Tests.{all, every, is_in}
use Rattle.machine.proofs.TestLaws.{all-at, each, each_in, and_left, and_right, false-true}
use Rattle.machine.specs.Answers.{reply, done, Check, verdict, is_done, Answer, Done}
use Rattle.machine.specs.Geometry.{elens, sealed, Parameters, parameters, machine_after, Bench, bench_of, with_scalar}
use Rattle.machine.specs.Setting.{sew, mill, legal_type, new_type}
use Rattle.machine.specs.Listing.{field7, field15, field20, immediate13, Row, look_up, not_ours, listing, ranged, in_range, decode}
use Rattle.machine.specs.Meanings.{memory_after, result_of, checks}
use Rattle.machine.proofs.CheckLaws.{refusals}
use Rattle.machine.specs.Faults.{sound_bench, thirty_two}
use Rattle.machine.specs.Step
use Rattle.machine.specs.Step.{Outcome, outcome, step_by, step_checks, given, meant, left, destination}

-- ---- answers

-- no refusal is numbered 0
pub refused-not-done : (r : Refusal) → is_done (Err r) ≡ false
refused-not-done IllegalWord = refl
refused-not-done IllegalType = refl
refused-not-done BadWidth = refl
refused-not-done TileTooLarge = refl
refused-not-done (Unwritten row column) = refl
refused-not-done OutsideMemory = refl
refused-not-done SealedByte = refl
refused-not-done BadArguments = refl
refused-not-done Overlap = refl
refused-not-done WrongOpcode = refl
refused-not-done LeftOutWord = refl
refused-not-done WrongRegister = refl
refused-not-done RowsOverlap = refl
refused-not-done TooManySeals = refl

pub only-done : (a : Answer) → is_done a ≡ true → a ≡ Done
only-done (Ok u) h = refl
only-done (Err r) h = absurd (false-true (sym (refused-not-done r) ∙ h))

-- a step that is answered 0 is answered as `Done` is
pub step-zero : (grant : Choice) (word : ℕ) (xs : List ℕ) (B : Bench) → done (step_by grant word xs B).answer ≡ true → (step_by grant word xs B).answer ≡ reply Done
unfolding step_by outcome
step-zero grant word xs B = go (is_done told) refl
  where
    told : Answer
    told = verdict (step_checks (parameters grant B.machine) (decode word) xs B)

    out : Bool → Outcome
    out t = cond t (Step.carried_out (parameters grant B.machine) (decode word) xs B) (Step.refused (parameters grant B.machine) (decode word) xs B told)

    go : (t : Bool) → is_done told ≡ t → done (out t).answer ≡ true → (out t).answer ≡ reply Done
    go true e d = refl
    go false e d = absurd (false-true (sym e ∙ d))

-- checks that are made in two parts
pub verdict-append : (ds bs : List Check) → refusals ds ≡ true → verdict (ds ++ bs) ≡ cond (is_done (verdict ds)) (verdict bs) (verdict ds)
verdict-append [] bs r = refl
verdict-append (c ∷ cs) bs r = go c.holds (verdict-append cs bs (and_right (not (is_done (Err c.answer))) (refusals cs) r)) (and_left (not (is_done (Err c.answer))) (refusals cs) r)
  where
    go : (t : Bool) → verdict (cs ++ bs) ≡ cond (is_done (verdict cs)) (verdict bs) (verdict cs) → not (is_done (Err c.answer)) ≡ true
        → cond t (verdict (cs ++ bs)) (Err c.answer) ≡ cond (is_done (cond t (verdict cs) (Err c.answer))) (verdict bs) (cond t (verdict cs) (Err c.answer))
    go true ih n = ih
    go false ih n = refused (is_done (Err c.answer)) n
      where
        refused : (d : Bool) → not d ≡ true → (Err c.answer) ≡ cond d (verdict bs) (Err c.answer)
        refused true n = absurd (false-true n)
        refused false n = refl

-- ---- the outcome of an instruction, in a state that is not at fault

module _ (M : Parameters) (i : Instruction) (xs : List ℕ) (B : Bench) (s : sound_bench B ≡ true) (t : thirty_two xs ≡ true) where
  abbrev checked : List Check
  checked = checks M (sealed B.seals) (meant M i xs B) (given M i xs B) B.memory

  abbrev out : Answer → Outcome
  out a = cond (is_done a) (Step.carried_out M i xs B) (Step.refused M i xs B a)

  pub outcome-by : (a : Answer) → verdict checked ≡ a → out a ≡ outcome M i xs B
  unfolding outcome
  outcome-by a e = rw (s, t) (ap out (sym e))

  -- one that leaves the scalars as they are
  pub outcome-of : (a : Answer) (regs marks mem : List ℕ) → a ≡ verdict checked
      → regs ≡ cond (is_done a) (left M i xs B).regs B.registers
      → marks ≡ cond (is_done a) (left M i xs B).marks B.marks
      → mem ≡ cond (is_done a) (memory_after M (meant M i xs B) (given M i xs B) B.memory) B.memory
      → machine_after B.machine (left M i xs B) ≡ B.machine
      → with_scalar xs (destination i) (result_of M (meant M i xs B) (given M i xs B)) ≡ xs
      → record { answer = reply a; bench = bench_of B.machine B.seals regs marks mem; scalars = xs } ≡ outcome M i xs B
  outcome-of a regs marks mem e er em eo kept same = go (is_done a) refl ∙ outcome-by a (sym e)
    where
      go : (d : Bool) → is_done a ≡ d → record { answer = reply a; bench = bench_of B.machine B.seals regs marks mem; scalars = xs } ≡ out a
      go true d =
          rw d (ap₂ (λ (a : Answer) (r : List ℕ). record { answer = reply a; bench = bench_of B.machine B.seals r marks mem; scalars = xs }) (only-done a d) (er ∙ rw d)
          ∙ ap₂ (λ (k o : List ℕ). record { answer = reply Done; bench = bench_of B.machine B.seals (left M i xs B).regs k o; scalars = xs }) (em ∙ rw d) (eo ∙ rw d)
          ∙ ap₂ (λ (m : Machine) (x : List ℕ). record { answer = reply Done; bench = bench_of m B.seals (left M i xs B).regs (left M i xs B).marks (memory_after M (meant M i xs B) (given M i xs B) B.memory); scalars = x }) (sym kept) (sym same))
      go false d =
          rw d (ap (λ (r : List ℕ). record { answer = reply a; bench = bench_of B.machine B.seals r marks mem; scalars = xs }) (er ∙ rw d)
          ∙ ap₂ (λ (k o : List ℕ). record { answer = reply a; bench = bench_of B.machine B.seals B.registers k o; scalars = xs }) (em ∙ rw d) (eo ∙ rw d))

-- ---- mtype

-- those that fit ELEN 32, and those that fit ELEN 64 alone
abbrev pub legal_types : (elen : ℕ) → List ℕ
legal_types elen = 0 ∷ 1 ∷ 2 ∷ 8 ∷ cond (eqb elen 64) (3 ∷ 9 ∷ []) []

-- the legal values
pub types_are : (elen : ℕ) → is_in elen elens ≡ true → (v : ℕ) → new_type elen v ≡ cond (is_in v (legal_types elen)) v (2 ^ 63)
unfolding new_type legal_type sew
types_are elen known v = go (ltb v 16) refl
  where
    same : ℕ → ℕ → Bool
    same e v = eqb (new_type e v) (cond (is_in v (legal_types e)) v (2 ^ 63))

    table : all 16 (same elen) ≡ true
    table = each_in elen elens (λ e. all 16 (same e)) refl known

    more : (t : Bool) → 16 ≤ v → is_in v (0 ∷ 1 ∷ 2 ∷ 8 ∷ cond t (3 ∷ 9 ∷ []) []) ≡ false
    more true l = rw (ne_eqb v 0 (omega arith), ne_eqb v 1 (omega arith), ne_eqb v 2 (omega arith), ne_eqb v 8 (omega arith), ne_eqb v 3 (omega arith), ne_eqb v 9 (omega arith))
    more false l = rw (ne_eqb v 0 (omega arith), ne_eqb v 1 (omega arith), ne_eqb v 2 (omega arith), ne_eqb v 8 (omega arith))

    go : (t : Bool) → ltb v 16 ≡ t → new_type elen v ≡ cond (is_in v (legal_types elen)) v (2 ^ 63)
    go true e = eqb-true (new_type elen v) (cond (is_in v (legal_types elen)) v (2 ^ 63)) (all-at 16 (same elen) table v (ltb-true v 16 e))
    go false e = rw (e, more (eqb elen 64) (ltb-false v 16 e))

-- a value that can arise is one of them, or 2^63
pub arises : (elen : ℕ) → is_in elen elens ≡ true → (v : ℕ) → new_type elen v ≡ v → mill v ≡ false → is_in v (legal_types elen) ≡ true
arises elen known v e m = go (is_in v (legal_types elen)) refl
  where
    go : (t : Bool) → is_in v (legal_types elen) ≡ t → t ≡ true
    go true d = refl
    go false d =
        let z : v ≡ 2 ^ 63 = sym e ∙ types_are elen known v ∙ rw d in
        absurd (false-true (sym m ∙ ap mill z))

-- and one that is legal where ELEN is 64
pub arises-any : (elen : ℕ) → is_in elen elens ≡ true → (v : ℕ) → new_type elen v ≡ v → mill v ≡ false → is_in v (legal_types most_elen) ≡ true
arises-any elen known v e m = go (legal_types elen) (each_in elen elens (λ e. each (legal_types e) (λ v. is_in v (legal_types most_elen))) refl known) (arises elen known v e m)
  where
    go : (vs : List ℕ) → each vs (λ v. is_in v (legal_types most_elen)) ≡ true → is_in v vs ≡ true → is_in v (legal_types most_elen) ≡ true
    go vs h i = each_in v vs (λ v. is_in v (legal_types most_elen)) h i

-- ---- the fields of a decoded word

abbrev pub bounded : Instruction → Bool
bounded (Illegal wrong) = true
bounded (SetTypeImmediate rd immediate) = every (ltb rd 32 ∷ ltb immediate 8192 ∷ [])
bounded (SetType rd rs1) = every (ltb rd 32 ∷ ltb rs1 32 ∷ [])
bounded (SetTileImmediate dimension rd immediate) = every (ltb rd 32 ∷ ltb immediate 8192 ∷ [])
bounded (SetTile dimension rd rs1) = every (ltb rd 32 ∷ ltb rs1 32 ∷ [])
bounded (Load form matrix width md rs1 rs2) = every (ltb rs1 32 ∷ ltb rs2 32 ∷ [])
bounded (Store form matrix width ms3 rs1 rs2) = every (ltb rs1 32 ∷ ltb rs2 32 ∷ [])
bounded (Multiply factor md ms1 ms2) = true
bounded (Combine sum factor md ms1) = true
bounded (Scale factor md ms1 rs2) = ltb rs2 32
bounded (ScaleImmediate factor md ms1 immediate) = ltb immediate 32
bounded (FloatMultiply md ms1 ms2) = true
bounded (MoveOut form vd ms1 rs2) = every (ltb vd 32 ∷ ltb rs2 32 ∷ [])
bounded (MoveIn form md vs1 rs2) = every (ltb vs1 32 ∷ ltb rs2 32 ∷ [])

-- every row of the listing gives such an instruction
abbrev pub all_rows : (Instruction → Bool) → ℕ → List Row → Bool
all_rows p word [] = true
all_rows p word (r ∷ rs) = p (r.means word) && all_rows p word rs

pub look-up-all : (p : Instruction → Bool) (word : ℕ) (none : Instruction) (rs : List Row) → p none ≡ true → all_rows p word rs ≡ true → p (look_up word none rs) ≡ true
look-up-all p word none [] n h = n
look-up-all p word none (r ∷ rs) n h = go (Rattle.machine.specs.Listing.has word r.code.fixed) (look-up-all p word none rs n (and_right (p (r.means word)) (all_rows p word rs) h))
  where
    go : (t : Bool) → p (look_up word none rs) ≡ true → p (cond t (r.means word) (look_up word none rs)) ≡ true
    go true ih = and_left (p (r.means word)) (all_rows p word rs) h
    go false ih = ih

ranged-both : (i : Instruction) → bounded i ≡ true → (bounded (ranged i) ≡ true) × (in_range (ranged i) ≡ true)
ranged-both i h = go (in_range i) refl
  where
    go : (t : Bool) → in_range i ≡ t → (bounded (cond t i (Illegal Register)) ≡ true) × (in_range (cond t i (Illegal Register)) ≡ true)
    go true e = (h, e)
    go false e = (refl, refl)

pub decode-bounded : (word : ℕ) → (bounded (decode word) ≡ true) × (in_range (decode word) ≡ true)
unfolding decode listing
decode-bounded word = go (eqb (Rattle.machine.specs.Listing.bits 6 0 word) 119)
  where
    rows : all_rows bounded word listing ≡ true
    rows =
        let a : ltb (field7 word) 32 ≡ true = lt-ltb (field7 word) 32 (omega arith) in
        let b : ltb (field15 word) 32 ≡ true = lt-ltb (field15 word) 32 (omega arith) in
        let c : ltb (field20 word) 32 ≡ true = lt-ltb (field20 word) 32 (omega arith) in
        let d : ltb (immediate13 word) 8192 ≡ true = lt-ltb (immediate13 word) 8192 (omega arith) in
        rw (a, b, c, d)

    go : (t : Bool) → (bounded (cond t (ranged (look_up word (not_ours word) listing)) (Illegal Opcode)) ≡ true) × (in_range (cond t (ranged (look_up word (not_ours word) listing)) (Illegal Opcode)) ≡ true)
    go true = ranged-both (look_up word (not_ours word) listing) (look-up-all bounded word (not_ours word) listing refl rows)
    go false = (refl, refl)
