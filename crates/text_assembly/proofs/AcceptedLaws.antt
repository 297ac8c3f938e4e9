-- Every word that has a line is accepted: on a machine with empty tiles, whose mtype fits the instruction.
use Rattle.numbers.proofs.Kit.{◌≡◌, refl, sym, ap, ap₂, ◌∙◌, Bool, true, false, cond, ◌||◌, List, [], ◌∷◌, ℕ, zero, suc, ◌%◌, ◌^◌, arith, eqb, get_or}
use Rattle.numbers.proofs.Kit.{replicate, ℤ, eq-eqb}
use Rattle.numbers.specs.Reduce.{signed}
use Rattle.machine.specs.declared.Refusal.TheVariants.{BadArguments}
use Rattle.machine.specs.declared.Dimension.{Dimension}
use Rattle.machine.specs.declared.Dimension.TheVariants.{DimensionM, DimensionK, DimensionN}
use Rattle.machine.specs.declared.Factor.{Factor}
use Rattle.machine.specs.declared.Factor.TheVariants.{Single, Double, Quadruple}
use Rattle.machine.specs.declared.Form.TheVariants.{Plain, Transposed}
use Rattle.machine.specs.declared.Wrong.TheVariants.{Register, Opcode}
use Rattle.machine.specs.declared.Instruction.{Instruction}
use Rattle.machine.specs.declared.Instruction.TheVariants.{Illegal, SetTile, Scale, ScaleImmediate, MoveOut, MoveIn}
use Rattle.machine.specs.Answers.{◌otherwise◌, verdict, is_done, Answer, Done}
use Rattle.machine.specs.Geometry.{sealed, Parameters, parameters, Bench, bench_of, state_of, scalar}
use Rattle.machine.specs.Setting.{sew, legal_type, new_type, chosen, maximum}
use Rattle.machine.specs.Memory.{inside, misses, rows_miss, distinct}
use Rattle.machine.specs.Vectors.{vectors_fit, idle}
use Rattle.machine.specs.Operation.{Operation, illegal, set_size, cut_size, scale, move_out, move_in, times}
use Rattle.machine.specs.Meanings.{vectors_after, checks}
use Rattle.machine.specs.Refusals.{marked}
use Rattle.machine.specs.TransferWords.{width_of}
use Rattle.machine.specs.ArithmeticWords.{width_ok, is_zero}
use Rattle.machine.specs.Faults.{sound, seals_fit, sound_bench, thirty_two}
use Rattle.machine.specs.Geometry.{permitted}
use Rattle.machine.specs.Listing.{bits, field7, field15, field20, Row, has, listing, look_up, not_ours, in_range, ranged, decode}
use Rattle.machine.specs.Step.{beside, given_in, meant_in, checks_in, carried_in, refused_in, stepped_in, step_with}
use Rattle.machine.proofs.TestLaws.{false-true}
use Rattle.text_assembly.specs.Theorems.{is_legal, LinesAreAccepted}
use Rattle.text_assembly.proofs.LegalLaws.{◌and◌, legal-have-lines}

-- a machine of this mtype, with m rows and n columns of C
abbrev bench_at : (t m n : ℕ) → Bench
bench_at t m n = bench_of (record {
  rlen = 128;
  mlen = 256;
  mtype = t;
  tile_m = m;
  tile_k = 0;
  tile_n = n;
  rule = 0;
  elen = 64;
}) [] (replicate 512 0) (replicate 512 0) []

abbrev zeros : List ℕ
zeros = replicate 32 0

abbrev fitted : Bench → Parameters
fitted B = parameters chosen B.machine

abbrev Takes : Instruction → Bench → Type 0
Takes i B = verdict (checks_in idle (fitted B) i zeros B) ≡ Done

abbrev Accepted : Instruction → Type 0
Accepted i = (B : Bench) × Takes i B

-- where no check fails, the answer is 0
taken : (i : Instruction) (B : Bench) → Takes i B → (stepped_in idle (fitted B) i zeros B).answer.number ≡ 0
unfolding idle vectors_fit
taken i B h =
    ap (λ (a : Answer). (beside (cond (is_done a) (vectors_after (fitted B) (meant_in idle (fitted B) i zeros B) (given_in idle (fitted B) i zeros B) idle.file) idle.file)
    (cond (is_done a) (carried_in idle (fitted B) i zeros B) (refused_in idle (fitted B) i zeros B a))).answer.number) h

-- ---- instructions whose operation hangs on their scalars

-- with the checks of an operation on empty tiles
abbrev with-checks : (t m n : ℕ) → Operation → Answer
with-checks t m n o =
    let B = bench_at t m n in
    verdict ((sound_bench B otherwise BadArguments) ∷ (thirty_two zeros otherwise BadArguments) ∷ checks (fitted B) (sealed []) o (state_of B.machine B.registers B.marks) [])

set-tile : (d : Dimension) (rd rs1 : ℕ) → Accepted (SetTile d rd rs1)
unfolding sound seals_fit permitted new_type legal_type sew chosen
set-tile d rd rs1 = (bench_at 0 0 0, go (eqb rs1 0) (eqb rd 0))
  where
    go : (a b : Bool) → with-checks 0 0 0 (cond a (cond b (cut_size d) (set_size d (maximum (fitted (bench_at 0 0 0)) 0 d))) (set_size d (scalar zeros rs1))) ≡ Done
    go true true = refl
    go true false = refl
    go false b = refl

-- ms1 need not be read
or-true : (b : Bool) → b || true ≡ true
or-true true = refl
or-true false = refl

scale-any : (f : Factor) (d a : ℕ) (x : ℤ) → with-checks 8 0 0 (scale (times f) d a x) ≡ Done
unfolding sound seals_fit permitted new_type legal_type sew chosen width_ok marked
scale-any Single d a x = rw (or-true (is_zero x))
scale-any Double d a x = rw (or-true (is_zero x))
scale-any Quadruple d a x = rw (or-true (is_zero x))

scaled : (f : Factor) (d a s : ℕ) → Accepted (Scale f d a s)
scaled f d a s = (bench_at 8 0 0, scale-any f d a (signed (256 ^ sew 8) (scalar zeros s % 256 ^ sew 8)))

scaled-by : (f : Factor) (d a i : ℕ) → Accepted (ScaleImmediate f d a i)
scaled-by f d a i = (bench_at 8 0 0, scale-any f d a (signed 32 i))

-- ---- moves of one row without columns, or of one column without rows

zero-at : (n s : ℕ) → get_or {A = ℕ} (replicate n 0) s 0 ≡ 0
zero-at zero s = refl
zero-at (suc n) zero = refl
zero-at (suc n) (suc s) = zero-at n s

zero_scalar : (s : ℕ) → scalar zeros s ≡ 0
zero_scalar s = go (eqb s 0)
  where
    go : (b : Bool) → cond b 0 (get_or zeros s 0) ≡ 0
    go true = refl
    go false = zero-at 32 s

out-rows : (v a s : ℕ) → Accepted (MoveOut Plain v a s)
unfolding sound seals_fit permitted new_type legal_type sew chosen idle marked
out-rows v a s = (bench_at 0 1 0, ap₂ (λ (b : Bool) (x : ℕ). with-checks 0 1 0 (cond b (move_out Plain a v x 1) (illegal Register))) (eq-eqb (v % 1) 0 (omega arith)) (zero_scalar s))

out-columns : (v a s : ℕ) → Accepted (MoveOut Transposed v a s)
unfolding sound seals_fit permitted new_type legal_type sew chosen idle marked
out-columns v a s = (bench_at 0 0 1, ap₂ (λ (b : Bool) (x : ℕ). with-checks 0 0 1 (cond b (move_out Transposed a v x 1) (illegal Register))) (eq-eqb (v % 1) 0 (omega arith)) (zero_scalar s))

in_rows : (v a s : ℕ) → Accepted (MoveIn Plain v a s)
unfolding sound seals_fit permitted new_type legal_type sew chosen idle marked
in_rows v a s = (bench_at 0 1 0, ap₂ (λ (b : Bool) (x : ℕ). with-checks 0 1 0 (cond b (move_in Plain v a x 1 idle.file) (illegal Register))) (eq-eqb (a % 1) 0 (omega arith)) (zero_scalar s))

in-columns : (v a s : ℕ) → Accepted (MoveIn Transposed v a s)
unfolding sound seals_fit permitted new_type legal_type sew chosen idle marked
in-columns v a s = (bench_at 0 0 1, ap₂ (λ (b : Bool) (x : ℕ). with-checks 0 0 1 (cond b (move_in Transposed v a x 1 idle.file) (illegal Register))) (eq-eqb (a % 1) 0 (omega arith)) (zero_scalar s))

-- ---- every row

abbrev AllAccepted : ℕ → List Row → Type 0
AllAccepted w [] = Unit {0}
AllAccepted w (r ∷ rs) = Accepted (r.means w) × AllAccepted w rs

all-accepted : (w : ℕ) → AllAccepted w listing
unfolding sound seals_fit permitted new_type legal_type sew chosen listing width_of width_ok inside misses rows_miss distinct marked
all-accepted w =
    (bench_at 0 0 0, refl)
    and (bench_at 0 0 0, refl)
    and (bench_at 0 0 0, refl)
    and set-tile DimensionM (field7 w) (field15 w)
    and (bench_at 0 0 0, refl)
    and set-tile DimensionK (field7 w) (field15 w)
    and (bench_at 0 0 0, refl)
    and set-tile DimensionN (field7 w) (field15 w)
    and (bench_at 0 0 0, refl)
    and (bench_at 1 0 0, refl)
    and (bench_at 2 0 0, refl)
    and (bench_at 3 0 0, refl)
    and (bench_at 0 0 0, refl)
    and (bench_at 1 0 0, refl)
    and (bench_at 2 0 0, refl)
    and (bench_at 3 0 0, refl)
    and (bench_at 0 0 0, refl)
    and (bench_at 1 0 0, refl)
    and (bench_at 2 0 0, refl)
    and (bench_at 3 0 0, refl)
    and (bench_at 0 0 0, refl)
    and (bench_at 1 0 0, refl)
    and (bench_at 2 0 0, refl)
    and (bench_at 3 0 0, refl)
    and (bench_at 0 0 0, refl)
    and (bench_at 1 0 0, refl)
    and (bench_at 2 0 0, refl)
    and (bench_at 3 0 0, refl)
    and (bench_at 0 0 0, refl)
    and (bench_at 1 0 0, refl)
    and (bench_at 2 0 0, refl)
    and (bench_at 3 0 0, refl)
    and (bench_at 0 0 0, refl)
    and (bench_at 1 0 0, refl)
    and (bench_at 2 0 0, refl)
    and (bench_at 3 0 0, refl)
    and (bench_at 0 0 0, refl)
    and (bench_at 1 0 0, refl)
    and (bench_at 2 0 0, refl)
    and (bench_at 3 0 0, refl)
    and (bench_at 0 0 0, refl)
    and (bench_at 1 0 0, refl)
    and (bench_at 2 0 0, refl)
    and (bench_at 3 0 0, refl)
    and (bench_at 0 0 0, refl)
    and (bench_at 1 0 0, refl)
    and (bench_at 2 0 0, refl)
    and (bench_at 3 0 0, refl)
    and (bench_at 0 0 0, refl)
    and (bench_at 1 0 0, refl)
    and (bench_at 2 0 0, refl)
    and (bench_at 3 0 0, refl)
    and (bench_at 0 0 0, refl)
    and (bench_at 1 0 0, refl)
    and (bench_at 2 0 0, refl)
    and (bench_at 3 0 0, refl)
    and out-rows (field7 w) (field15 w) (field20 w)
    and in_rows (field7 w) (field15 w) (field20 w)
    and out-columns (field7 w) (field15 w) (field20 w)
    and in-columns (field7 w) (field15 w) (field20 w)
    and (bench_at 8 0 0, refl)
    and (bench_at 2 0 0, refl)
    and (bench_at 8 0 0, refl)
    and (bench_at 8 0 0, refl)
    and (bench_at 8 0 0, refl)
    and (bench_at 8 0 0, refl)
    and (bench_at 8 0 0, refl)
    and (bench_at 8 0 0, refl)
    and (bench_at 8 0 0, refl)
    and (bench_at 8 0 0, refl)
    and (bench_at 8 0 0, refl)
    and (bench_at 8 0 0, refl)
    and (bench_at 8 0 0, refl)
    and scaled Single (field7 w) (field15 w) (field20 w)
    and scaled Double (field7 w) (field15 w) (field20 w)
    and scaled Quadruple (field7 w) (field15 w) (field20 w)
    and scaled-by Single (field7 w) (field15 w) (field20 w)
    and scaled-by Double (field7 w) (field15 w) (field20 w)
    and scaled-by Quadruple (field7 w) (field15 w) (field20 w)
    and tt

accepted-ranged : (i : Instruction) → Accepted i → is_legal (ranged i) ≡ true → Accepted (ranged i)
accepted-ranged i a h = go (in_range i) h
  where
    go : (b : Bool) → is_legal (cond b i (Illegal Register)) ≡ true → Accepted (cond b i (Illegal Register))
    go true h = a
    go false h = absurd (false-true h)

accepted-in : (w : ℕ) (rs : List Row) → AllAccepted w rs → is_legal (ranged (look_up w (not_ours w) rs)) ≡ true → Accepted (ranged (look_up w (not_ours w) rs))
accepted-in w [] a h = absurd (false-true h)
accepted-in w (r ∷ rs) a h = go (has w r.code.fixed) h (accepted-in w rs a.1)
  where
    go : (b : Bool) → is_legal (ranged (cond b (r.means w) (look_up w (not_ours w) rs))) ≡ true
        → (is_legal (ranged (look_up w (not_ours w) rs)) ≡ true → Accepted (ranged (look_up w (not_ours w) rs)))
        → Accepted (ranged (cond b (r.means w) (look_up w (not_ours w) rs)))
    go true h ih = accepted-ranged (r.means w) a.0 h
    go false h ih = ih h

accepted-decode : (w : ℕ) → is_legal (decode w) ≡ true → Accepted (decode w)
unfolding decode
accepted-decode w h = go (eqb (bits 6 0 w) 119) h
  where
    go : (b : Bool) → is_legal (cond b (ranged (look_up w (not_ours w) listing)) (Illegal Opcode)) ≡ true → Accepted (cond b (ranged (look_up w (not_ours w) listing)) (Illegal Opcode))
    go true h = accepted-in w listing (all-accepted w) h
    go false h = absurd (false-true h)

pub lines-are-accepted : LinesAreAccepted
unfolding step_with
lines-are-accepted w h =
    let a = accepted-decode w (sym (legal-have-lines w) ∙ h) in
    (zeros, idle, a.0, taken (decode w) a.0 a.1)
