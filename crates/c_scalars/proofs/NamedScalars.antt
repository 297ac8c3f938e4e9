-- A step reads no scalars but those in the slots that fields of its word name, and writes none but the one that bits 11..7 name. So it
-- does the same on values of which only these are right, and only this one need be written back.
use Rattle.numbers.proofs.Kit.{◌≡◌, refl, sym, ap, ap₂, ◌∙◌, subst, ◌⊎◌, inl, inr, Bool, true, false, cond, List, [], ◌∷◌, ℕ, ◌+◌, ◌*◌, ◌/◌, ◌%◌, ◌<◌}
use Rattle.numbers.proofs.Kit.{zero-add, mod-lt, div-add-mod', arith, ℕ_discrete, eqb, length, get_or, set, replicate, length-set, get_or-set_same}
use Rattle.numbers.proofs.Kit.{get_or-set_other, ext_get_or, eq-eqb, eqb-true, eqb-false, Err}
use Rattle.numbers.specs.Tile.{get_le, byte_of, put_le, put_row}
use Rattle.numbers.proofs.TileLaws.{length-put_le, put_le-at, put_le-out, length-put_row, put_row-at}
use Rattle.numbers.proofs.PutLaws.{le-byte}
use Rattle.numbers.proofs.WordLaws.{put_row-same}
use Rattle.machine.specs.declared.Refusal.TheVariants.{BadArguments}
use Rattle.machine.specs.declared.Wrong.TheVariants.{Opcode, Register}
use Rattle.machine.specs.declared.Instruction.{Instruction}
use Rattle.machine.specs.declared.Instruction.TheVariants.{Illegal, SetTypeImmediate, SetType, SetTileImmediate, SetTile, Load, Store, Multiply, Combine, Scale, ScaleImmediate, FloatMultiply, MoveOut, MoveIn}
use Rattle.machine.specs.Tests.{every}
use Rattle.machine.specs.declared.Reply.{Reply}
use Rattle.machine.specs.Answers.{reply, ◌otherwise◌, verdict, is_done, Answer, Done}
use Rattle.machine.specs.Geometry.{Range, sealed, Parameters, parameters, State, state_of, machine_after, Bench, bench_of, scalar, with_scalar}
use Rattle.machine.specs.Setting.{chosen}
use Rattle.machine.specs.Listing
use Rattle.machine.specs.Listing.{field7, field15, field20, look_up, not_ours, listing, ranged, in_range, decode}
use Rattle.machine.specs.Vectors.{Vectors, vectors_fit}
use Rattle.machine.specs.Operation.{Operation, operation_in}
use Rattle.machine.specs.Meanings.{state_after, memory_after, vectors_after, result_of, checks}
use Rattle.machine.specs.Faults.{sound_bench}
use Rattle.machine.specs.Step.{Stepped}
use Rattle.machine.specs.Step.{VectorOutcome, beside, step_with, vector_step, vector_stepped_as, destination}
use Rattle.machine.proofs.TestLaws.{every-each}
use Rattle.machine.proofs.CodeLaws.{all_rows, look-up-all}
use Rattle.c_blocks.specs.Blocks.{values_of, put_values}
use Rattle.c_scalars.specs.ScalarBlock.{step_block}
use Rattle.c_blocks.proofs.BlockLaws.{length-values, values-at}

-- ---- the slots that an instruction names

-- they are the fields of the word
abbrev named : ℕ → Instruction → Bool
named word (Illegal wrong) = true
named word (SetTypeImmediate rd immediate) = eqb rd (field7 word)
named word (SetType rd rs1) = every (eqb rd (field7 word) ∷ eqb rs1 (field15 word) ∷ [])
named word (SetTileImmediate dimension rd immediate) = eqb rd (field7 word)
named word (SetTile dimension rd rs1) = every (eqb rd (field7 word) ∷ eqb rs1 (field15 word) ∷ [])
named word (Load form matrix width md rs1 rs2) = every (eqb rs1 (field15 word) ∷ eqb rs2 (field20 word) ∷ [])
named word (Store form matrix width ms3 rs1 rs2) = every (eqb rs1 (field15 word) ∷ eqb rs2 (field20 word) ∷ [])
named word (Multiply factor md ms1 ms2) = true
named word (Combine sum factor md ms1) = true
named word (Scale factor md ms1 rs2) = eqb rs2 (field20 word)
named word (ScaleImmediate factor md ms1 immediate) = true
named word (FloatMultiply md ms1 ms2) = true
named word (MoveOut form vd ms1 rs2) = eqb rs2 (field20 word)
named word (MoveIn form md vs1 rs2) = eqb rs2 (field20 word)

decode-named : (word : ℕ) → named word (decode word) ≡ true
unfolding decode listing
decode-named word = opcode (eqb (Listing.bits 6 0 word) 119)
  where
    rows : all_rows (named word) word listing ≡ true
    rows = rw (eq-eqb (field7 word) (field7 word) refl, eq-eqb (field15 word) (field15 word) refl, eq-eqb (field20 word) (field20 word) refl)

    in-range : (t : Bool) → named word (cond t (look_up word (not_ours word) listing) (Illegal Register)) ≡ true
    in-range true = look-up-all (named word) word (not_ours word) listing refl rows
    in-range false = refl

    opcode : (t : Bool) → named word (cond t (ranged (look_up word (not_ours word) listing)) (Illegal Opcode)) ≡ true
    opcode true = in-range (in_range (look_up word (not_ours word) listing))
    opcode false = refl

-- what it reads stands in the fields of bits 19..15 and 24..20
same_operation : (W : Vectors) (M : Parameters) (st : State) (word : ℕ) (xs ys : List ℕ) → scalar xs (field15 word) ≡ scalar ys (field15 word)
    → scalar xs (field20 word) ≡ scalar ys (field20 word) → (i : Instruction) → named word i ≡ true → operation_in W M st xs i ≡ operation_in W M st ys i
same_operation W M st word xs ys ea eb = go
  where
    at : (r f : ℕ) → eqb r f ≡ true → scalar xs f ≡ scalar ys f → scalar xs r ≡ scalar ys r
    at r f h e = subst (λ (r : ℕ). scalar xs r ≡ scalar ys r) (sym (eqb-true r f h)) e

    both : (rs1 rs2 : ℕ) → every (eqb rs1 (field15 word) ∷ eqb rs2 (field20 word) ∷ []) ≡ true
        → (scalar xs rs1 ≡ scalar ys rs1) × (scalar xs rs2 ≡ scalar ys rs2)
    both rs1 rs2 h =
        let t = every-each (eqb rs1 (field15 word) ∷ eqb rs2 (field20 word) ∷ []) h in
        (at rs1 (field15 word) t.0 ea, at rs2 (field20 word) t.1.0 eb)

    second : (rd rs1 : ℕ) → every (eqb rd (field7 word) ∷ eqb rs1 (field15 word) ∷ []) ≡ true → scalar xs rs1 ≡ scalar ys rs1
    second rd rs1 h = at rs1 (field15 word) (every-each (eqb rd (field7 word) ∷ eqb rs1 (field15 word) ∷ []) h).1.0 ea

    go : (i : Instruction) → named word i ≡ true → operation_in W M st xs i ≡ operation_in W M st ys i
    go (Illegal wrong) h = refl
    go (SetTypeImmediate rd immediate) h = refl
    go (SetType rd rs1) h = rw (second rd rs1 h)
    go (SetTileImmediate dimension rd immediate) h = refl
    go (SetTile dimension rd rs1) h = rw (second rd rs1 h)
    go (Load form matrix width md rs1 rs2) h = let t = both rs1 rs2 h in rw (t.0, t.1)
    go (Store form matrix width ms3 rs1 rs2) h = let t = both rs1 rs2 h in rw (t.0, t.1)
    go (Multiply factor md ms1 ms2) h = refl
    go (Combine sum factor md ms1) h = refl
    go (Scale factor md ms1 rs2) h = rw (at rs2 (field20 word) h eb)
    go (ScaleImmediate factor md ms1 immediate) h = refl
    go (FloatMultiply md ms1 ms2) h = refl
    go (MoveOut form vd ms1 rs2) h = rw (at rs2 (field20 word) h eb)
    go (MoveIn form md vs1 rs2) h = rw (at rs2 (field20 word) h eb)

-- what it writes stands in that of bits 11..7
destination-named : (word : ℕ) (i : Instruction) → named word i ≡ true → (destination i ≡ 0) ⊎ (destination i ≡ field7 word)
destination-named word (Illegal wrong) h = inl refl
destination-named word (SetTypeImmediate rd immediate) h = inr (eqb-true rd (field7 word) h)
destination-named word (SetType rd rs1) h = inr (eqb-true rd (field7 word) (every-each (eqb rd (field7 word) ∷ eqb rs1 (field15 word) ∷ []) h).0)
destination-named word (SetTileImmediate dimension rd immediate) h = inr (eqb-true rd (field7 word) h)
destination-named word (SetTile dimension rd rs1) h = inr (eqb-true rd (field7 word) (every-each (eqb rd (field7 word) ∷ eqb rs1 (field15 word) ∷ []) h).0)
destination-named word (Load form matrix width md rs1 rs2) h = inl refl
destination-named word (Store form matrix width ms3 rs1 rs2) h = inl refl
destination-named word (Multiply factor md ms1 ms2) h = inl refl
destination-named word (Combine sum factor md ms1) h = inl refl
destination-named word (Scale factor md ms1 rs2) h = inl refl
destination-named word (ScaleImmediate factor md ms1 immediate) h = inl refl
destination-named word (FloatMultiply md ms1 ms2) h = inl refl
destination-named word (MoveOut form vd ms1 rs2) h = inl refl
destination-named word (MoveIn form md vs1 rs2) h = inl refl

-- ---- a write at 0 or at slot f

written_same : (xs ys : List ℕ) (d f v : ℕ) → f < length xs → length xs ≡ length ys → (d ≡ 0) ⊎ (d ≡ f) → get_or xs f 0 ≡ get_or ys f 0
    → get_or (with_scalar xs d v) f 0 ≡ get_or (with_scalar ys d v) f 0
written_same xs ys d f v l e h k = elim h [
  | inl z ↦ rw (eq-eqb d 0 z) k
  | inr z ↦ go (eqb d 0) z
]
  where
    go : (t : Bool) → d ≡ f → get_or (cond t xs (set xs d v)) f 0 ≡ get_or (cond t ys (set ys d v)) f 0
    go true z = k
    go false z = rw z (get_or-set_same xs f v 0 l ∙ sym (get_or-set_same ys f v 0 (omega arith)))

written-other : (ys : List ℕ) (d f v s : ℕ) → (d ≡ 0) ⊎ (d ≡ f) → ¬ (s ≡ f) → get_or (with_scalar ys d v) s 0 ≡ get_or ys s 0
written-other ys d f v s h n = elim h [
  | inl z ↦ rw (eq-eqb d 0 z)
  | inr z ↦ go (eqb d 0) z
]
  where
    go : (t : Bool) → d ≡ f → get_or (cond t ys (set ys d v)) s 0 ≡ get_or ys s 0
    go true z = refl
    go false z = get_or-set_other ys d s v 0 (λ e. n (e ∙ z))

written-zero : (ys : List ℕ) (d v : ℕ) → get_or (with_scalar ys d v) 0 0 ≡ get_or ys 0 0
written-zero ys d v = go (eqb d 0) refl
  where
    go : (t : Bool) → eqb d 0 ≡ t → get_or (cond t ys (set ys d v)) 0 0 ≡ get_or ys 0 0
    go true h = refl
    go false h = get_or-set_other ys d 0 v 0 (λ e. eqb-false d 0 h (sym e))

-- ---- a step on two lists of values that agree in the slots of a word's fields

abbrev At : List ℕ → List ℕ → ℕ → Type 0
At xs ys s = get_or xs s 0 ≡ get_or ys s 0

-- what they leave agrees in all but the scalars, in these at slot f, and p leaves slot 0 and every slot of ys but f
record Agree (f : ℕ) (ys : List ℕ) (o p : VectorOutcome) : Type 0 where
  pub answer : o.answer ≡ p.answer
  pub bench : o.bench ≡ p.bench
  pub vectors : o.vectors ≡ p.vectors
  pub value : At o.scalars p.scalars f
  pub others : (s : ℕ) → ¬ (s ≡ f) → At p.scalars ys s
  pub zero : At p.scalars ys 0

module _ (word : ℕ) (xs ys : List ℕ) (W : Vectors) (B : Bench) (tx : length xs ≡ 32) (ty : length ys ≡ 32)
    (ed : At xs ys (field7 word)) (ea : At xs ys (field15 word)) (eb : At xs ys (field20 word)) where
  abbrev M : Parameters
  M = parameters chosen B.machine

  abbrev st : State
  st = state_of B.machine B.registers B.marks

  -- a step with its operation given and its scalars counted
  abbrev answered : Bool → Operation → Answer
  answered t o = verdict ((sound_bench B otherwise BadArguments) ∷ (t otherwise BadArguments) ∷ checks M (sealed B.seals) o st B.memory)

  abbrev ended : Answer → Operation → List ℕ → Bool → VectorOutcome
  ended a o zs t = let left = state_after M o st B.memory in beside (cond t (vectors_after M o st W.file) W.file) (cond t
      (record {
        answer = reply Done;
        bench = bench_of (machine_after B.machine left) B.seals left.regs left.marks (memory_after M o st B.memory);
        scalars = with_scalar zs (destination (decode word)) (result_of M o st);
      })
      (record { answer = reply a; bench = B; scalars = zs }))

  -- by whether the vector file is not bad
  abbrev either : Bool → List ℕ → VectorOutcome → VectorOutcome
  either fit zs o = cond fit o (beside W.file (record { answer = reply (Err BadArguments); bench = B; scalars = zs }))

  abbrev meaning : List ℕ → Operation
  meaning zs = operation_in W M st zs (decode word)

  step_by : (zs : List ℕ) (o : Operation) → length zs ≡ 32 → meaning zs ≡ o
      → vector_step word zs W B ≡ either (vectors_fit W) zs (ended (answered true o) o zs (is_done (answered true o)))
  unfolding step_with
  step_by zs o h e =
      ap₂ (λ (t : Bool) (o : Operation). either (vectors_fit W) zs (ended (answered t o) o zs (is_done (answered t o)))) (eq-eqb (length zs) 32 h) e

  agree : Agree (field7 word) ys (vector_step word xs W B) (vector_step word ys W B)
  agree =
      subst (λ (o : VectorOutcome). Agree (field7 word) ys o (vector_step word ys W B)) (sym (step_by xs op tx same))
      (subst (λ (p : VectorOutcome). Agree (field7 word) ys (either (vectors_fit W) xs (ended a op xs (is_done a))) p) (sym (step_by ys op ty refl)) (go (vectors_fit W) (is_done a)))
    where
      op : Operation
      op = meaning ys

      a : Answer
      a = answered true op

      n : named word (decode word) ≡ true
      n = decode-named word

      d : (destination (decode word) ≡ 0) ⊎ (destination (decode word) ≡ field7 word)
      d = destination-named word (decode word) n

      scalar-at : (s : ℕ) → At xs ys s → scalar xs s ≡ scalar ys s
      scalar-at s e = ap (cond (eqb s 0) 0) e

      same : meaning xs ≡ op
      same = same_operation W M st word xs ys (scalar-at (field15 word) ea) (scalar-at (field20 word) eb) (decode word) n

      go : (fit t : Bool) → Agree (field7 word) ys (either fit xs (ended a op xs t)) (either fit ys (ended a op ys t))
      go true true = record {
        answer = refl;
        bench = refl;
        vectors = refl;
        value = written_same xs ys (destination (decode word)) (field7 word) _ (omega arith) (tx ∙ sym ty) d ed;
        others = λ s m. written-other ys (destination (decode word)) (field7 word) _ s d m;
        zero = written-zero ys (destination (decode word)) _;
      }
      go true false = record { answer = refl; bench = refl; vectors = refl; value = ed; others = λ s m. refl; zero = refl }
      go false t = record { answer = refl; bench = refl; vectors = refl; value = ed; others = λ s m. refl; zero = refl }

-- ---- written back

-- values that are those of the block in all slots but f: written over it, they change slot f alone
put_values-one : (b zs : List ℕ) (f : ℕ) → length b ≡ 256 → ((q : ℕ) → get_or b q 0 < 256) → f < 32 → ((s : ℕ) → ¬ (s ≡ f) → s < 32 → get_or zs s 0 ≡ get_le b (s * 8) 8)
    → put_values zs b ≡ put_le (f * 8) 8 (get_or zs f 0) b
unfolding put_values
put_values-one b zs f h small l e =
    ext_get_or 0 (put_row 0 32 8 value b) (put_le (f * 8) 8 (value f) b)
    (length-put_row 0 32 8 value b ∙ sym (length-put_le (f * 8) 8 (value f) b))
    (λ q k. let whole : 0 + q / 8 * 8 + q % 8 ≡ q = omega (arith, div-add-mod' q 8) in
    subst (λ (q : ℕ). get_or (put_row 0 32 8 value b) q 0 ≡ get_or (put_le (f * 8) 8 (value f) b) q 0) whole
    (byte (q / 8) (q % 8) (omega (arith, length-put_row 0 32 8 value b)) (mod-lt q (omega arith))))
  where
    value : ℕ → ℕ
    value s = get_or zs s 0

    byte : (j r : ℕ) → j < 32 → r < 8 → get_or (put_row 0 32 8 value b) (0 + j * 8 + r) 0 ≡ get_or (put_le (f * 8) 8 (value f) b) (0 + j * 8 + r) 0
    byte j r m n =
        put_row-at 0 32 8 value b (omega arith) j m r n
        ∙ elim (ℕ_discrete j f) [
          | yes z ↦ ap (λ (s : ℕ). byte_of (value s) r) z ∙ sym (put_le-at (f * 8) 8 (value f) b (omega arith) r n)
              ∙ ap (λ (q : ℕ). get_or (put_le (f * 8) 8 (value f) b) q 0) (omega arith)
          | no z ↦ ap (λ (v : ℕ). byte_of v r) (e j z m) ∙ le-byte b small (j * 8) 8 r n
              ∙ ap (λ (q : ℕ). get_or b q 0) (omega arith)
              ∙ sym (put_le-out (f * 8) 8 (value f) b (0 + j * 8 + r) (λ i. z (omega arith)))
        ]

-- values that are those of the block in all slots: written over it, they change nothing
put_values-none : (b zs : List ℕ) → ((q : ℕ) → get_or b q 0 < 256) → ((s : ℕ) → s < 32 → get_or zs s 0 ≡ get_le b (s * 8) 8) → b ≡ put_values zs b
unfolding put_values
put_values-none b zs small e = sym (put_row-same b small 0 32 8 (λ s. get_or zs s 0) (λ s l. e s l ∙ ap (λ (p : ℕ). get_le b p 8) (sym (zero-add (s * 8)))))

-- slot f written, if it is not slot 0
abbrev put_slot : ℕ → ℕ → List ℕ → List ℕ
put_slot f v b = cond (eqb f 0) b (put_le (f * 8) 8 v b)

-- ---- for code

-- slot s of the values is that of the block
abbrev Right : List ℕ → List ℕ → ℕ → Type 0
Right b xs s = get_or xs s 0 ≡ get_le b (s * 8) 8

-- one slot filled from the block, and the slots filled before stay right
filled : (b xs : List ℕ) (s v : ℕ) → s < length xs → v ≡ get_le b (s * 8) 8 → Right b (set xs s v) s
filled b xs s v l e = get_or-set_same xs s v 0 l ∙ e

still : (b xs : List ℕ) (s v r : ℕ) → s < length xs → v ≡ get_le b (s * 8) 8 → Right b xs r → Right b (set xs s v) r
still b xs s v r l e h = elim (ℕ_discrete r s) [
  | yes z ↦ subst (Right b (set xs s v)) (sym z) (filled b xs s v l e)
  | no z ↦ get_or-set_other xs s r v 0 z ∙ h
]

module _ (word : ℕ) (block : List ℕ) (W : Vectors) (B : Bench) (whole : length block ≡ 256) (small : (q : ℕ) → get_or block q 0 < 256) where
  -- values of which those in the slots of the word's fields are right, and what the step has left in the slot of bits 11..7 written back
  block-named : (s : Stepped) (rs : List Range) (R K X Q F S xs : List ℕ) → length xs ≡ 32
      → Right block xs (field7 word) → Right block xs (field15 word) → Right block xs (field20 word)
      → vector_stepped_as s rs R K X Q F ≡ vector_step word xs W B → S ≡ put_slot (field7 word) (get_or X (field7 word) 0) block
      → vector_stepped_as s rs R K S Q F ≡ step_block word block W B
  block-named s rs R K X Q F S xs t hd ha hb e es =
      ap₂ (λ (a : Reply) (b : Bench). record { answer = a; bench = b; scalars = S; vectors = F }) (ap (λ (o : VectorOutcome). o.answer) e ∙ g.answer) (ap (λ (o : VectorOutcome). o.bench) e ∙ g.bench)
      ∙ ap₂ (λ (S F : List ℕ). record { answer = o.answer; bench = o.bench; scalars = S; vectors = F })
      (es ∙ ap (λ (v : ℕ). put_slot (field7 word) v block) (ap (λ (o : VectorOutcome). get_or o.scalars (field7 word) 0) e ∙ g.value) ∙ written (eqb (field7 word) 0) refl)
      (ap (λ (o : VectorOutcome). o.vectors) e ∙ g.vectors)
    where
      o : VectorOutcome
      o = vector_step word (values_of block) W B

      g : Agree (field7 word) (values_of block) (vector_step word xs W B) o
      g = agree word xs (values_of block) W B t (length-values block)
          (hd ∙ sym (values-at block (field7 word) (omega arith))) (ha ∙ sym (values-at block (field15 word) (omega arith))) (hb ∙ sym (values-at block (field20 word) (omega arith)))

      -- every slot but that of bits 11..7 is as it was, and this one too where it is slot 0
      all : field7 word ≡ 0 → (j : ℕ) → j < 32 → get_or o.scalars j 0 ≡ get_le block (j * 8) 8
      all z j l = elim (ℕ_discrete j 0) [
        | yes w ↦ ap (λ (j : ℕ). get_or o.scalars j 0) w ∙ g.zero ∙ ap (λ (j : ℕ). get_or (values_of block) j 0) (sym w) ∙ values-at block j l
        | no n ↦ g.others j (λ e. n (e ∙ z)) ∙ values-at block j l
      ]

      written : (t : Bool) → eqb (field7 word) 0 ≡ t
          → cond t block (put_le (field7 word * 8) 8 (get_or o.scalars (field7 word) 0) block) ≡ put_values o.scalars block
      written true h = put_values-none block o.scalars small (all (eqb-true (field7 word) 0 h))
      written false h =
          sym (put_values-one block o.scalars (field7 word) whole small (omega arith) (λ j n l. g.others j n ∙ values-at block j l))

  -- the code's values: zeros, and three slots filled
  pub block-stepped : (s : Stepped) (rs : List Range) (R K X Q F S : List ℕ) (d a b u v w : ℕ) → d ≡ field7 word → a ≡ field15 word → b ≡ field20 word
      → u ≡ get_le block (d * 8) 8 → v ≡ get_le block (a * 8) 8 → w ≡ get_le block (b * 8) 8
      → vector_stepped_as s rs R K X Q F ≡ vector_step word (set (set (set (replicate 32 0) d u) a v) b w) W B → S ≡ put_slot d (get_or X d 0) block
      → vector_stepped_as s rs R K S Q F ≡ step_block word block W B
  block-stepped s rs R K X Q F S d a b u v w ed ea eb eu ev ew e es =
      let z : List ℕ = replicate 32 0 in
      let x : List ℕ = set z d u in
      let y : List ℕ = set x a v in
      let tx : length x ≡ 32 = length-set z d u in
      let ty : length y ≡ 32 = length-set x a v ∙ tx in
      let ld : d < length z = omega arith in
      let la : a < length x = omega arith in
      let lb : b < length y = omega arith in
      block-named s rs R K X Q F S (set y b w) (length-set y b w ∙ ty)
      (subst (Right block (set y b w)) ed (still block y b w d lb ew (still block x a v d la ev (filled block z d u ld eu))))
      (subst (Right block (set y b w)) ea (still block y b w a lb ew (filled block x a v la ev)))
      (subst (Right block (set y b w)) eb (filled block y b w lb ew))
      e (es ∙ ap (λ (d : ℕ). put_slot d (get_or X d 0) block) ed)
