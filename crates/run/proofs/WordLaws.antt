-- Each word that a run hands out is read as its operation.
use Rattle.numbers.proofs.Kit.{◌≡◌, refl, sym, ap, ap₂, ◌∙◌, subst, Bool, true, false, cond, not, ◌||◌, List, [], ◌∷◌, ℕ, zero, suc, ◌+◌, ◌*◌, ◌/◌, ◌%◌}
use Rattle.numbers.proofs.Kit.{◌^◌, ◌<◌, mod-eq_of_lt, arith, T, leb, ltb, eqb, ℤ, pos, ◌+ℤ◌, ◌*ℤ◌, eqb-true, ltb-true, leb-true, le-leb}
use Rattle.numbers.specs.Reduce.{signed, reduce}
use Rattle.numbers.proofs.ReduceLaws.{reduce-add, reduce-mul, reduce-signed}
use Rattle.machine.specs.declared.Form.{Form}
use Rattle.machine.specs.declared.Form.TheVariants.{Plain, Transposed}
use Rattle.machine.specs.declared.Matrix.TheVariants.{MatrixA, MatrixB, MatrixC}
use Rattle.machine.specs.declared.Dimension.TheVariants.{DimensionM, DimensionK, DimensionN}
use Rattle.machine.specs.declared.Factor.{Factor}
use Rattle.machine.specs.declared.Factor.TheVariants.{Single, Double, Quadruple}
use Rattle.machine.specs.declared.Instruction.{Instruction}
use Rattle.machine.specs.declared.Instruction.TheVariants.{SetTypeImmediate, SetTileImmediate, Load, Store, Multiply, ScaleImmediate, FloatMultiply}
use Rattle.machine.specs.Tests.{every, is_in}
use Rattle.machine.proofs.TestLaws.{Each, every-each, each-every, each, each_in, or-not}
use Rattle.machine.specs.Geometry.{Parameters, State, elens}
use Rattle.numbers.specs.Bounds.{most_elen}
use Rattle.machine.specs.Operation.{times}
use Rattle.machine.specs.Setting.{sew, mill, new_type, legal_type}
use Rattle.machine.specs.TransferWords.{width_of}
use Rattle.machine.specs.ArithmeticWords.{width_ok}
use Rattle.machine.specs.Listing.{bits, field7, immediate13, listing, decode}
use Rattle.machine.specs.Memory.{row_z}
use Rattle.machine.specs.Operation.{Operation}
use Rattle.machine.specs.Operation.{operation}
use Rattle.run.specs.declared.Layout.{Layout}
use Rattle.run.specs.declared.Plan.{Plan}
use Rattle.run.specs.declared.Handed.{Handed}
use Rattle.run.specs.Words.{Op}
use Rattle.run.specs.Plan.{Elements, integers, floats, elements_of, narrow, wide, msew, type_of, a_at, b_at, c_at, form_of, a_row, a_column}
use Rattle.run.specs.Start.{format}
use Rattle.run.specs.Encoding.{setting_word, memory_word, arithmetic_word, log, own, plain, address_in, load_code, multiply_word, handed_for}
use Rattle.run.proofs.NumberLaws.{multiply_of}
use Rattle.run.proofs.Invariant.{operation_of}

-- ---- settings

setting-fields : (f imm : ℕ) → f < 16 → imm < 8192 →
    let w : ℕ = setting_word f imm in
    (bits 6 0 w ≡ 119) × (bits 14 12 w ≡ 7) × (bits 31 28 w ≡ f) × (field7 w ≡ 0) × (immediate13 w ≡ imm)
setting-fields f imm hf h = omega arith

pub decode-type : (imm : ℕ) → imm < 8192 → decode (setting_word 0 imm) ≡ SetTypeImmediate 0 imm
unfolding decode listing
decode-type imm h = let t = setting-fields 0 imm (omega arith) h in rw (t.0, t.1, t.2, t.3, t.4)

pub decode-m : (imm : ℕ) → imm < 8192 → decode (setting_word 2 imm) ≡ SetTileImmediate DimensionM 0 imm
unfolding decode listing
decode-m imm h = let t = setting-fields 2 imm (omega arith) h in rw (t.0, t.1, t.2, t.3, t.4)

pub decode-k : (imm : ℕ) → imm < 8192 → decode (setting_word 4 imm) ≡ SetTileImmediate DimensionK 0 imm
unfolding decode listing
decode-k imm h = let t = setting-fields 4 imm (omega arith) h in rw (t.0, t.1, t.2, t.3, t.4)

pub decode-n : (imm : ℕ) → imm < 8192 → decode (setting_word 6 imm) ≡ SetTileImmediate DimensionN 0 imm
unfolding decode listing
decode-n imm h = let t = setting-fields 6 imm (omega arith) h in rw (t.0, t.1, t.2, t.3, t.4)

-- ---- loads and stores

pub decode-a : (f : Form) (e : ℕ) → e < 4 → decode (memory_word (load_code f) e 0) ≡ Load f MatrixA (2 ^ e) 0 10 11
unfolding decode listing
decode-a Plain zero h = refl
decode-a Plain (suc zero) h = refl
decode-a Plain (suc (suc zero)) h = refl
decode-a Plain (suc (suc (suc zero))) h = refl
decode-a Plain (suc (suc (suc (suc e)))) h = absurd (omega arith)
decode-a Transposed zero h = refl
decode-a Transposed (suc zero) h = refl
decode-a Transposed (suc (suc zero)) h = refl
decode-a Transposed (suc (suc (suc zero))) h = refl
decode-a Transposed (suc (suc (suc (suc e)))) h = absurd (omega arith)

pub decode-b : (e : ℕ) → e < 4 → decode (memory_word 4 e 1) ≡ Load Plain MatrixB (2 ^ e) 1 10 11
unfolding decode listing
decode-b zero h = refl
decode-b (suc zero) h = refl
decode-b (suc (suc zero)) h = refl
decode-b (suc (suc (suc zero))) h = refl
decode-b (suc (suc (suc (suc e)))) h = absurd (omega arith)

pub decode-c : (e : ℕ) → e < 4 → decode (memory_word 1 e 0) ≡ Store Plain MatrixC (2 ^ e) 0 10 11
unfolding decode listing
decode-c zero h = refl
decode-c (suc zero) h = refl
decode-c (suc (suc zero)) h = refl
decode-c (suc (suc (suc zero))) h = refl
decode-c (suc (suc (suc (suc e)))) h = absurd (omega arith)

-- ---- multiply and clear

abbrev factors : List ℕ
factors = 1 ∷ 2 ∷ 4 ∷ []

-- the factor that a number stands for, and its words
pub record Factored (f : ℕ) : Type 0 where
  pub factor : Factor
  pub is : times factor ≡ f
  pub multiplies : decode (arithmetic_word (log f) 1) ≡ Multiply factor 0 0 1
  pub clears : decode (arithmetic_word (16 + log f) 0) ≡ ScaleImmediate factor 0 0 0

pub decode-float : decode (multiply_word floats 1) ≡ FloatMultiply 0 0 1
unfolding decode listing
decode-float = refl

abbrev EachOf : List ℕ → (ℕ → Type 0) → Type 0
EachOf [] Q = Unit {0}
EachOf (y ∷ ys) Q = Q y × EachOf ys Q

each_of : (x : ℕ) (ys : List ℕ) (Q : ℕ → Type 0) → EachOf ys Q → is_in x ys ≡ true → Q x
each_of x [] Q h i = absurd (subst T (sym i) tt)
each_of x (y ∷ ys) Q h i = go (eqb x y) refl (each_of x ys Q h.1)
  where
    go : (t : Bool) → eqb x y ≡ t → (is_in x ys ≡ true → Q x) → Q x
    go true e ih = subst Q (sym (eqb-true x y e)) h.0
    go false e ih = ih (or-not (eqb x y) (is_in x ys) i e)

factored : (f : ℕ) → is_in f factors ≡ true → Factored f
unfolding decode listing
factored f = each_of f factors Factored (
  record { factor = Single; is = refl; multiplies = refl; clears = refl },
  (record { factor = Double; is = refl; multiplies = refl; clears = refl }, (record { factor = Quadruple; is = refl; multiplies = refl; clears = refl }, tt)),
)

-- ---- what holds of each format, computed

abbrev msew_for : ℕ → ℕ
msew_for s = cond (eqb s 64) 3 (cond (eqb s 32) 2 (cond (eqb s 16) 1 0))

abbrev type_for : ℕ → ℕ → ℕ
type_for s f = msew_for s + cond (eqb f 4) 8 0

abbrev right : (elen s f : ℕ) → List Bool
right elen s f =
    eqb (new_type elen (type_for s f)) (type_for s f)
    ∷ not (mill (type_for s f))
    ∷ eqb (sew (type_for s f)) (s / 8)
    ∷ width_ok elen (type_for s f) f
    ∷ ltb 0 (f * (s / 8))
    ∷ leb f 4
    ∷ leb (s / 8) 8
    ∷ width_of elen (type_for s f) MatrixC (f * (s / 8))
    ∷ ltb 0 (s / 8)
    ∷ ltb (msew_for s) 4
    ∷ eqb (2 ^ msew_for s) (s / 8)
    ∷ ltb (msew_for s + log f) 4
    ∷ eqb (2 ^ (msew_for s + log f)) (f * (s / 8))
    ∷ ltb (type_for s f) 8192 ∷ []

abbrev sews : List ℕ
sews = 8 ∷ 16 ∷ 32 ∷ 64 ∷ []

abbrev good : (elen s f : ℕ) → Bool
good elen s f = not (leb (f * s) elen) || every (right elen s f)

rights : each elens (λ e. each sews (λ s. each factors (good e s))) ≡ true
unfolding new_type legal_type sew width_ok width_of
rights = refl

pub formats : (elen s f : ℕ) → is_in elen elens ≡ true → format elen s f ≡ true → Each (right elen s f) × Factored f
unfolding format
formats elen s f known h =
    let t = every-each (is_in s sews ∷ is_in f factors ∷ leb (f * s) elen ∷ []) h in (
      every-each (right elen s f) (or-not (not (leb (f * s) elen)) (every (right elen s f))
          (each_in f factors (good elen s)
          (each_in s sews (λ s. each factors (good elen s)) (each_in elen elens (λ e. each sews (λ s. each factors (good e s))) rights known) t.0) t.1.0)
          (rw t.1.1.0)),
      factored f t.1.0,
    )

-- what is planned on a machine is planned on those of the largest ELEN
pub widest-format : (elen s f : ℕ) → is_in elen elens ≡ true → format elen s f ≡ true → format most_elen s f ≡ true
unfolding format
widest-format elen s f known h =
    let t = every-each (is_in s sews ∷ is_in f factors ∷ leb (f * s) elen ∷ []) h in
    let most = leb-true elen most_elen (each_in elen elens (λ e. leb e most_elen) refl known) in
    each-every (is_in s sews ∷ is_in f factors ∷ leb (f * s) most_elen ∷ []) (t.0, (t.1.0, (le-leb (f * s) most_elen (omega (arith, leb-true (f * s) elen t.1.1.0)), tt)))

-- ---- addresses

-- an address that fits 64 bits is held as it is
start_is : (l : Layout) (i b p : ℕ) → row_z l.address l.stride i ≡ pos p → p + b < 2 ^ 64 → address_in l i b ≡ p + b
unfolding reduce
start_is l i b p e small = ap (λ (z : ℤ). reduce (2 ^ 64) (z +ℤ pos b)) e ∙ mod-eq_of_lt small

-- for code: by wrapping operations
pub start-wraps : (l : Layout) (i b : ℕ) → l.stride < 2 ^ 64 → address_in l i b ≡ (((l.address % 2 ^ 64) + (i % 2 ^ 64 * l.stride) % 2 ^ 64) % 2 ^ 64 + b % 2 ^ 64) % 2 ^ 64
unfolding reduce
start-wraps l i b h =
    let m : ℕ = 0x1_0000_0000_0000_0000 in
    let z : ℤ = signed m l.stride in
    reduce-add m (omega arith) (pos l.address +ℤ pos i *ℤ z) (pos b)
    ∙ ap (λ (x : ℕ). (x + b % m) % m) (reduce-add m (omega arith) (pos l.address) (pos i *ℤ z)
    ∙ ap (λ (x : ℕ). (l.address % m + x) % m) (reduce-mul m (omega arith) (pos i) z ∙ ap (λ (x : ℕ). (i % m * x) % m) (reduce-signed m (omega arith) l.stride h)))

-- ---- each word is read as its operation

-- the word decodes to an instruction, which with the run's own scalars is the operation
pub record Reads (M : Parameters) (st : State) (h : Handed) (o : Operation) : Type 0 where
  pub instruction : Instruction
  pub decodes : decode h.word ≡ instruction
  pub means : operation M st (own h) instruction ≡ o

module _ (M : Parameters) (P : Plan) (ok : format most_elen P.sew P.factor ≡ true) (st : State) where
  facts : Each (right most_elen P.sew P.factor)
  facts = (formats most_elen P.sew P.factor refl ok).0

  of-factor : Factored P.factor
  of-factor = (formats most_elen P.sew P.factor refl ok).1

  pub msew<4 : msew P < 4
  unfolding msew
  msew<4 = ltb-true (msew_for P.sew) 4 facts.1.1.1.1.1.1.1.1.1.0

  pub narrow-is : 2 ^ msew P ≡ narrow P
  unfolding msew narrow
  narrow-is = eqb-true (2 ^ msew_for P.sew) (P.sew / 8) facts.1.1.1.1.1.1.1.1.1.1.0

  pub wide<4 : msew P + log P.factor < 4
  unfolding msew
  wide<4 = ltb-true (msew_for P.sew + log P.factor) 4 facts.1.1.1.1.1.1.1.1.1.1.1.0

  pub wide_is : 2 ^ (msew P + log P.factor) ≡ wide P
  unfolding msew narrow
  wide_is = eqb-true (2 ^ (msew_for P.sew + log P.factor)) (P.factor * (P.sew / 8)) facts.1.1.1.1.1.1.1.1.1.1.1.1.0

  pub type-small : type_of P < 8192
  unfolding type_of msew
  type-small = ltb-true (type_for P.sew P.factor) 8192 facts.1.1.1.1.1.1.1.1.1.1.1.1.1.0

  pub reads_type : Reads M st (handed_for P Op.set_type) (operation_of P Op.set_type)
  reads_type = record { instruction = SetTypeImmediate 0 (type_of P); decodes = decode-type (type_of P) type-small; means = refl }

  pub reads-m : (a : ℕ) → a < 8192 → Reads M st (handed_for P (Op.set_m a)) (operation_of P (Op.set_m a))
  reads-m a h = record { instruction = SetTileImmediate DimensionM 0 a; decodes = decode-m a h; means = refl }

  pub reads-k : (a : ℕ) → a < 8192 → Reads M st (handed_for P (Op.set_k a)) (operation_of P (Op.set_k a))
  reads-k a h = record { instruction = SetTileImmediate DimensionK 0 a; decodes = decode-k a h; means = refl }

  pub reads-n : (a : ℕ) → a < 8192 → Reads M st (handed_for P (Op.set_n a)) (operation_of P (Op.set_n a))
  reads-n a h = record { instruction = SetTileImmediate DimensionN 0 a; decodes = decode-n a h; means = refl }

  pub reads-clear : Reads M st (handed_for P Op.clear) (operation_of P Op.clear)
  reads-clear = record {
    instruction = ScaleImmediate of-factor.factor 0 0 0;
    decodes = of-factor.clears;
    means = ap (λ (f : ℕ). Operation.scale f 0 0 (pos 0)) of-factor.is;
  }

  pub reads-multiply : Reads M st (handed_for P Op.multiply) (operation_of P Op.multiply)
  reads-multiply = by (elements_of P)
    where
      by : (q : Elements) → Reads M st (plain (multiply_word q P.factor)) (multiply_of q P.factor)
      by integers = record {
        instruction = Multiply of-factor.factor 0 0 1;
        decodes = of-factor.multiplies;
        means = ap (λ (f : ℕ). Operation.multiply f 0 0 1) of-factor.is;
      }
      by floats = record { instruction = FloatMultiply 0 0 1; decodes = decode-float; means = refl }

  pub reads-a : (i s : ℕ) → row_z P.a.address P.a.stride (a_row P i s) ≡ pos (a_at P (a_row P i s)) → a_at P (a_row P i s) + a_column P i s * narrow P < 2 ^ 64
      → Reads M st (handed_for P (Op.load_a i s)) (operation_of P (Op.load_a i s))
  reads-a i s e small = record {
    instruction = Load (form_of P) MatrixA (2 ^ msew P) 0 10 11;
    decodes = decode-a (form_of P) (msew P) msew<4;
    means = ap₂ (λ (w p : ℕ). Operation.load (form_of P) MatrixA 0 w p P.a.stride) narrow-is (start_is P.a (a_row P i s) (a_column P i s * narrow P) (a_at P (a_row P i s)) e small);
  }

  pub reads-b : (s j : ℕ) → row_z P.b.address P.b.stride s ≡ pos (b_at P s) → b_at P s + j * narrow P < 2 ^ 64 → Reads M st (handed_for P (Op.load_b s j)) (operation_of P (Op.load_b s j))
  reads-b s j e small = record {
    instruction = Load Plain MatrixB (2 ^ msew P) 1 10 11;
    decodes = decode-b (msew P) msew<4;
    means = ap₂ (λ (w p : ℕ). Operation.load Plain MatrixB 1 w p P.b.stride) narrow-is (start_is P.b s (j * narrow P) (b_at P s) e small);
  }

  pub reads-store : (i j : ℕ) → row_z P.c.address P.c.stride i ≡ pos (c_at P i) → c_at P i + j * wide P < 2 ^ 64 → Reads M st (handed_for P (Op.store i j)) (operation_of P (Op.store i j))
  reads-store i j e small = record {
    instruction = Store Plain MatrixC (2 ^ (msew P + log P.factor)) 0 10 11;
    decodes = decode-c (msew P + log P.factor) wide<4;
    means = ap₂ (λ (w p : ℕ). Operation.store Plain MatrixC 0 w p P.c.stride) wide_is (start_is P.c i (j * wide P) (c_at P i) e small);
  }
