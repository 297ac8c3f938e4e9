-- The lines of 01's bench sheet that are marked *, as one theorem over a list; and 01's product example, run through its words.
use Rattle.std.specs.Prelude.{◌≡◌, ◌∷◌, ◌++◌, ◌+◌, ◌*◌, ◌^◌}
use Rattle.numbers.specs.Kit.{List, [], map, ℕ, length, get_or, replicate, pos, negsuc}
use Rattle.numbers.specs.Reduce.{reduce}
use Rattle.machine.specs.Geometry.{Parameters, parameters}
use Rattle.machine.specs.Setting.{smaller, chosen, max_m, max_k, max_n}
use Rattle.machine.specs.Operation.{element}
use Rattle.machine.specs.Geometry.{Bench}
use Rattle.machine.specs.Starting.{start_machine}
use Rattle.machine.specs.Step.{Outcome, step}
use Rattle.run.specs.declared.Plan.{Plan}
use Rattle.run.specs.Words.{Shape, words, steps}
use Rattle.run.specs.Plan.{c_at}
use Rattle.run.specs.Start.{start_run}
use Rattle.run.specs.Turn.{Running, after_turns, answered_done}

-- what is computed, and what the sheet says
pub record Line : Type 0 where
  pub got : List ℕ
  pub want : List ℕ

-- "MLEN 256, RLEN 64 unless said", and ELEN 32: started, with register bytes of 7 and nothing sealed
unfoldable pub bench : List ℕ → Bench
bench memory =
    let s = start_machine 64 256 32 0 [] (replicate 512 7) (replicate 512 1) in
    record { machine = s.machine; seals = s.seals; registers = s.registers; marks = s.marks; memory = memory }

unfoldable pub M : Parameters
M = parameters chosen (bench []).machine

-- scalars whose slot 0 holds 77 and whose slot 10 holds v
unfoldable pub scalars : ℕ → List ℕ
scalars v = 77 ∷ replicate 9 0 ++ v ∷ replicate 21 0

-- a product at SEW 8: A from 0 on, B behind it and C behind B, row after row
unfoldable pub plan : (f m k n : ℕ) → Plan
plan f m k n = record {
  kind = 0;
  sew = 8;
  factor = f;
  m = m;
  k = k;
  n = n;
  a = record { address = 0; stride = k };
  b = record { address = m * k; stride = n };
  c = record { address = m * k + k * n; stride = n * f };
}

-- its run as started: the bytes of A and B, and C filled with 99
unfoldable pub started : (f m k n : ℕ) → List ℕ → Running
started f m k n entries =
    let B = bench (entries ++ replicate (m * n * f) 99) in
    record { run = (start_run chosen (plan f m k n) B).run; bench = B }

-- element (i, j) of C after t turns, f bytes wide
unfoldable pub c : (f m k n : ℕ) → List ℕ → ℕ → ℕ → ℕ → ℕ
c f m k n entries t i j = element (after_turns chosen (started f m k n entries) t).bench.memory (c_at (plan f m k n)) f i j

-- the number of steps at this mtype, by the formula and by the list of words
unfoldable pub counts : (mtype m k n : ℕ) → List ℕ
counts t m k n =
    let S : Shape = record { grant = smaller; tm = max_m M t; tk = max_k M t; tn = max_n M t; m = m; k = k; n = n } in
    steps S ∷ length (words S) ∷ []

unfoldable pub sheet : List Line
sheet =
    -- Maxima (m, k, n) at SEW 8, 16, 32
    record { got = max_m M 0 ∷ max_k M 0 ∷ max_n M 0 ∷ []; want = 4 ∷ 4 ∷ 8 ∷ [] }
    ∷ record { got = max_m M 1 ∷ max_k M 1 ∷ max_n M 1 ∷ []; want = 4 ∷ 4 ∷ 4 ∷ [] }
    ∷ record { got = max_m M 2 ∷ max_k M 2 ∷ max_n M 2 ∷ []; want = 4 ∷ 2 ∷ 2 ∷ [] }
    -- Word 0x000472F7 sets mtype 8 and x5 = 8
    ∷ (let o : Outcome = step 0x000472F7 (scalars 0) (bench []) in
    record { got = o.answer.number ∷ o.bench.machine.mtype ∷ get_or o.scalars 5 0 ∷ []; want = 0 ∷ 8 ∷ 8 ∷ [] })
    -- 0x100572F7 with x10 = 16 sets 2^63
    ∷ (let o : Outcome = step 0x100572F7 (scalars 16) (bench []) in
    record { got = o.answer.number ∷ o.bench.machine.mtype ∷ get_or o.scalars 5 0 ∷ []; want = 0 ∷ 2 ^ 63 ∷ 2 ^ 63 ∷ [] })
    -- 0x2003F077 asks 7 rows: tile_m 4, x0 untouched
    ∷ (let o : Outcome = step 0x2003F077 (scalars 0) (bench []) in
    record { got = o.answer.number ∷ o.bench.machine.tile_m ∷ get_or o.scalars 0 0 ∷ []; want = 0 ∷ 4 ∷ 77 ∷ [] })
    -- 0x4001F377 at SEW 8: tile_k 3, x6 = 3
    ∷ (let o : Outcome = step 0x4001F377 (scalars 0) (bench []) in
    record { got = o.answer.number ∷ o.bench.machine.tile_k ∷ get_or o.scalars 6 0 ∷ []; want = 0 ∷ 3 ∷ 3 ∷ [] })
    -- Sum 100 x 100 at SEW 8: f = 1 gives 16, f = 2 gives 10000
    ∷ record { got = c 1 1 1 1 (100 ∷ 100 ∷ []) 9 0 0 ∷ c 2 1 1 1 (100 ∷ 100 ∷ []) 9 0 0 ∷ []; want = reduce (256 ^ 1) (pos 16) ∷ reduce (256 ^ 2) (pos 10000) ∷ [] }
    -- Two products of -128 x -128: f = 2 gives -32768, f = 4 gives 32768
    ∷ record {
      got = c 2 1 2 1 (128 ∷ 128 ∷ 128 ∷ 128 ∷ []) 9 0 0 ∷ c 4 1 2 1 (128 ∷ 128 ∷ 128 ∷ 128 ∷ []) 9 0 0 ∷ [];
      want = reduce (256 ^ 2) (negsuc 32767) ∷ reduce (256 ^ 4) (pos 32768) ∷ [];
    }
    -- Steps for 7 by 8 by 14: 91 at SEW 16, 47 at SEW 8. m = 0: 1. m = n = 1, k = 0: 5, and C is 0
    ∷ record { got = counts 1 7 8 14; want = 91 ∷ 91 ∷ [] }
    ∷ record { got = counts 0 7 8 14; want = 47 ∷ 47 ∷ [] }
    ∷ record { got = counts 0 0 3 3; want = 1 ∷ 1 ∷ [] }
    ∷ record { got = counts 0 1 0 1; want = 5 ∷ 5 ∷ [] }
    ∷ record { got = c 1 1 0 1 [] 5 0 0 ∷ c 4 1 0 1 [] 5 0 0 ∷ []; want = 0 ∷ 0 ∷ [] }
    ∷ []

-- the starred lines of the bench sheet, as one statement
abbrev pub BenchSheet : Type 0
BenchSheet = map (λ l. l.got) sheet ≡ map (λ l. l.want) sheet

-- "Input `8 4 2 3 2 1 2 3 -4 5 -6 7 8 9 10 11 12`": answer 0, steps 9, and C
abbrev pub entries : List ℕ
entries = 1 ∷ 2 ∷ 3 ∷ 252 ∷ 5 ∷ 250 ∷ 7 ∷ 8 ∷ 9 ∷ 10 ∷ 11 ∷ 12 ∷ []

abbrev pub ProductExample : Type 0
ProductExample =
    (answered_done chosen (started 4 2 3 2 entries) 12 ∷ c 4 2 3 2 entries 12 0 0 ∷ c 4 2 3 2 entries 12 0 1 ∷ c 4 2 3 2 entries 12 1 0 ∷ c 4 2 3 2 entries 12 1 1 ∷ [])
    ≡ (9 ∷ reduce (256 ^ 4) (pos 58) ∷ reduce (256 ^ 4) (pos 64) ∷ reduce (256 ^ 4) (negsuc 48) ∷ reduce (256 ^ 4) (negsuc 53) ∷ [])
