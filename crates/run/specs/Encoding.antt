-- The words of a run as numbers, each with the run's scalars 10 and 11.
use Rattle.std.specs.Prelude.{◌∷◌, ◌++◌, ◌+◌, ◌*◌, ◌^◌, ◌+ℤ◌}
use Rattle.numbers.specs.Kit.{cond, List, map, ℕ, eqb, get_or, replicate, pos}
use Rattle.numbers.specs.Reduce.{reduce}
use Rattle.machine.specs.declared.Form.{Form}
use Rattle.machine.specs.declared.Form.TheVariants.{Plain, Transposed}
use Rattle.machine.specs.Memory.{row_z}
use Rattle.run.specs.declared.Layout.{Layout}
use Rattle.run.specs.declared.Plan.{Plan}
use Rattle.run.specs.declared.Handed.{Handed}
use Rattle.run.specs.Words.{Op}
use Rattle.run.specs.Plan.{Elements, integers, floats, elements_of, narrow, wide, msew, type_of, form_of, a_row, a_column}
use Rattle.run.specs.Words.{words}
use Rattle.run.specs.Plan.{Job, shape}

-- msettypei, msettilemi, msettileki, msettileni: "rd is x0"
abbrev pub setting_word : (funct4 immediate : ℕ) → ℕ
setting_word funct4 immediate = funct4 * 2 ^ 28 + immediate * 2 ^ 15 + 0b111 * 2 ^ 12 + 0b1110111

-- "A load or store has its address in scalar 10 and its stride in scalar 11"
abbrev pub memory_word : (funct7 eew md : ℕ) → ℕ
memory_word funct7 eew md = funct7 * 2 ^ 25 + 11 * 2 ^ 20 + 10 * 2 ^ 15 + eew * 2 ^ 12 + md * 2 ^ 7 + 0b1110111

-- acc0 from ms2 or an immediate, and register 0
abbrev pub arithmetic_word : (funct6 field20 : ℕ) → ℕ
arithmetic_word funct6 field20 = funct6 * 2 ^ 26 + field20 * 2 ^ 20 + 0b110 * 2 ^ 12 + 0b1110111

-- 0, 1, 2 for 1, 2, 4
abbrev pub log : ℕ → ℕ
log f = cond (eqb f 4) 2 (cond (eqb f 2) 1 0)

-- "of the run's own scalars, the others 0"
abbrev pub own : Handed → List ℕ
own h = replicate 10 0 ++ (h.address ∷ h.stride ∷ replicate 20 0)

abbrev pub plain : ℕ → Handed
plain word = record { word = word; address = 0; stride = 0 }

-- the address b bytes into row i, as a scalar holds it; in a run that is accepted it lies in memory
abbrev pub address_in : Layout → ℕ → ℕ → ℕ
address_in l i b = reduce (2 ^ 64) (row_z l.address l.stride i +ℤ pos b)

-- mlae, or where A is kept transposed mlate
abbrev pub load_code : Form → ℕ
load_code Plain = 0b0000010
load_code Transposed = 0b0001010

-- mma, mwma or mqma of tr0 and tr1 to acc0; of a float run mfma, whose code is that of mma with bit 25 set
abbrev pub multiply_word : Elements → (factor : ℕ) → ℕ
multiply_word integers factor = arithmetic_word (log factor) 1
multiply_word floats factor = arithmetic_word 0 1 + 2 ^ 25

-- msettypei, msettilemi, msettileki, msettileni; memulc.mi, mwemulc.mi or mqemulc.mi with immediate 0 ("the clear names acc0 as md
-- and ms1"); mlae, or mlate by the kind, to tr0; mlbe to tr1; the multiply by the kind; msce of acc0 at f x SEW
abbrev pub handed_for : Plan → Op → Handed
handed_for P Op.set_type = plain (setting_word 0b0000 (type_of P))
handed_for P (Op.set_m a) = plain (setting_word 0b0010 a)
handed_for P (Op.set_k a) = plain (setting_word 0b0100 a)
handed_for P (Op.set_n a) = plain (setting_word 0b0110 a)
handed_for P Op.clear = plain (arithmetic_word (0b010000 + log P.factor) 0)
handed_for P (Op.load_a i s) = record {
  word = memory_word (load_code (form_of P)) (msew P) 0;
  address = address_in P.a (a_row P i s) (a_column P i s * narrow P);
  stride = P.a.stride;
}
handed_for P (Op.load_b s j) = record { word = memory_word 0b0000100 (msew P) 1; address = address_in P.b s (j * narrow P); stride = P.b.stride }
handed_for P Op.multiply = plain (multiply_word (elements_of P) P.factor)
handed_for P (Op.store i j) = record { word = memory_word 0b0000001 (msew P + log P.factor) 0; address = address_in P.c i (j * wide P); stride = P.c.stride }

-- "Otherwise the words are: msettypei; for each block of rows msettilemi; .."
abbrev pub word_list : Job → List Handed
word_list J = map (handed_for J.plan) (words (shape J))

-- word t of them, from 0 on
abbrev pub word_of : Job → ℕ → Handed
word_of J t = get_or (word_list J) t (plain 0)
