-- Each instance, from the promise's own term.
use Rattle.numbers.proofs.Kit.{◌≡◌, refl, sym, ap, subst, ◌∙◌, inl, inr, Bool, true, false, not, ◌&&◌, ◌||◌, true≢false, List, [], ◌∷◌, ◌++◌, List-as-Memᴰ}
use Rattle.numbers.proofs.Kit.{List·Memᴰ·head, List·Memᴰ·tail, List·Memᴰ·cases-cons, List·Memᴰ·not-nil, none, some, ℕ, zero, suc, ◌+◌, ◌*◌, ◌-◌, ◌^◌, ◌≤◌}
use Rattle.numbers.proofs.Kit.{◌<◌, arith, ltb, eqb, length, get_or, replicate, ℤ, pos, negsuc, ◌*ℤ◌, ltb-true, eq-eqb, eqb-true}
use lib.Ieee.{of_int, of_bits, to_bits}
use Rattle.numbers.specs.Reduce.{reduce, sumℤ}
use Rattle.numbers.specs.Blocks.{Choice, chunks}
use Rattle.numbers.specs.Tile.{In, put_tile, put_row, put_le, mark_tile, mark_row}
use Rattle.numbers.specs.Binary32.{value_of, settled}
use Rattle.machine.specs.declared.Form.TheVariants.{Plain, Transposed}
use Rattle.machine.specs.declared.Matrix.TheVariants.{MatrixB, MatrixC}
use Rattle.machine.specs.declared.Wrong.TheVariants.{Unlisted}
use Rattle.machine.specs.declared.Instruction.TheVariants.{Illegal}
use Rattle.machine.specs.Tests.{all_of}
use Rattle.machine.specs.Geometry.{range, sealed, permitted, Bench, bench_of}
use Rattle.machine.specs.Setting.{sew, new_type, legal_type, halving, chosen}
use Rattle.machine.specs.Starting.{StartOutcome, start_machine, startable}
use Rattle.machine.specs.Memory.{row_at, inside, misses, rows_miss, distinct, stored}
use Rattle.machine.specs.Vectors.{vectors_fit, idle}
use Rattle.machine.specs.Listing.{bits, Fixed, Code, Row, has, listing, others, decode}
use Rattle.machine.specs.Operation.{element}
use Rattle.machine.specs.Refusals.{marked}
use Rattle.machine.specs.TransferWords.{width_of}
use Rattle.machine.specs.ArithmeticWords.{width_ok}
use Rattle.machine.specs.Faults.{sound, seals_fit, sound_bench}
use Rattle.machine.specs.Sealing.{SealOutcome, add_seal}
use Rattle.machine.specs.Step.{step_with, step_by, outcome}
use Rattle.machine.specs.Alike.{Alike, Agree}
use Rattle.machine.specs.WordTheorems.{Faultless, IsAdded}
use Rattle.machine.proofs.TestLaws.{and_left, and_right}
use Rattle.theorem_refusals.specs.Listed.{entries, Spot, IsThere}
use Rattle.unit_ranges.specs.Ranges.{well_formed, seals_in, put_range, put_seals}
use Rattle.unit_sealing.specs.SealBlock.{seal_block}
use Rattle.c_blocks.specs.Blocks.{machine_of, put_machine, put_numbers, values_of, put_values}
use Rattle.run.specs.declared.Plan.{Plan}
use Rattle.run.specs.declared.Place.TheVariants.{AtType, AtN}
use Rattle.run.specs.Plan.{narrow, msew, type_of, total, a_of, b_of}
use Rattle.run.specs.Start.{start_run, format, kind_fit, planned, lying, apart, separate}
use Rattle.run.specs.Turn.{sound_run, Turn, after_turns, turns}
use Rattle.run.specs.Acts.{Act, session}
use Rattle.run.specs.Statement.{Right, MemoryBytes, job_of, started_run}
use Rattle.run.specs.Whole.{whole, WholeDelivers}
use Rattle.c_run_blocks.specs.RunBlocks.{plan_numbers, place_of, plan_of, run_of, put_run, run_fit, put_handed}
use Rattle.theorem_transposed.specs.Transposed.{LoadThenStore, Transposes}
use Rattle.unit_slices.specs.MovedBack.{OutAndBack, Restored}
use Rattle.theorem_exact.specs.Exact.{Is, Within24, WholeNumbers}
use Rattle.theorem_exact.specs.Examples.{row_bits, row_numbers}
use Rattle.numbers_format.specs.Numbers.{groups, encode}
use Rattle.numbers_format.specs.Parser.{is_among, nonempty, read_number, parse}
use Rattle.image.specs.Cells.{runs, spread}
use Rattle.image.specs.Cells.Run.{run}
use Rattle.image.specs.Images.{log2, beyond, image_of, IsImage}
use Rattle.image.specs.ImageFormat.{top_rlen, top_mlen, least_mlen, mtypes, ranges_format, runs_format, image_format}
use Rattle.image.specs.Writing.{SizeOutcome, size_image, WriteOutcome, write_image}
use Rattle.image.specs.Reading.{check_image, read_image}
use Rattle.image_read.specs.Blocks.{read_block}
use Rattle.image_salvage.specs.Fronts.{front}
use Rattle.image_salvage.specs.Salvage.{place_in, announced_format, runs_kept, kept_in, salvage}
use Rattle.text_lines.specs.Lines.{decimal}
use Rattle.text_assembly.specs.Bytes.{bytes}
use Rattle.text_assembly.specs.Lines.{line}
use Rattle.text_assembly.specs.Reading.{read_line}
use Rattle.text_assembly.specs.Words.{word_text, read_word}
use Rattle.text_assembly.specs.Theorems.{Prints}
use Rattle.c_step.specs.BenchCalls.{host_start, host_step, host_seal}
use Rattle.c_run.specs.RunCalls.{host_run_start, host_next}
use Rattle.c_turn.specs.TurnCalls.{host_turn, host_turns, host_run}
use Rattle.c_image.specs.ImageCalls.{packed_reply, host_image_size, host_image_write, host_image_read}
use Rattle.c_salvage.specs.SalvageCalls.{host_salvage}
use Rattle.c_text.specs.TextCalls.{packed_text, host_word_text, host_text_word}
use Rattle.theorem_calls.specs.Calls.{Buffers, Call, called}
use Rattle.theorem_calls.specs.Composed.{PlanWords, StartCallsAreRight, TurnCalls, TurnCallsAreRight, TurnsAreTurnCalls, RunIsTurnCalls}
use Rattle.theorem_powerup.specs.Steps.{AlikeBenches}
use Rattle.theorem_powerup.specs.Runs.{SameRunning}
use Rattle.theorem_powerup_calls.specs.Calls.{AlikeBuffers, AtPowerUp}
use Rattle.demands.specs.Deeds.{Deed, deed, HostCall}
use Rattle.demands.specs.Demand1.{Answers, Counted, InBytes}
use Rattle.demands.specs.Demand2.{read_bench, Made, MadeInC}
use Rattle.numbers_format.specs.Numbers as Images
use Rattle.run.specs.Statement as Statement
use Rattle.run.specs.Sheet as Sheet
use Rattle.demands.specs.Instances.{counting, regs, all_marks, nearly, spots, regs', mem, seals, sealed3, nine, machine_by, held, full, holed, spotted, spotted', fresh, xs, file, lent, plan_at, plan, run_at, stuck, halves, image, cut, cut_early, room, report, numbers, block_of, block, scalar_block, run_block, host_with, host, spotted_host, spotted_host', other_host, stuck_host, short_host, scant_host, msettileki, mlbe16, mlbte16, msbte16, msce32, mqma, mfwma, mmvcc_out, mmvcc_in, given, words7, session_on, acts7, calls7, pair, columns, float_mem, float_plan, float_bench, number_and_bytes, text, bad_text, RunIsRight, CallsAreRight, StartsAreRight, ManyAreRight, WholeIsRight, EveryCallAnswers, Demand2, Demand3, Refusals, Words, Runs, Requests, Results, Computed, Instances}
use Rattle.demands.proofs.Promise.{promise}

-- ---- what is computed with

-- the data, and a machine's numbers
data_is : Unit {0}
unfolding counting regs all_marks nearly spots regs' mem xs file numbers block_of block scalar_block run_block
data_is = tt

-- a start, a step, a sealing
step_is : Unit {0}
unfolding data_is start_machine startable add_seal step_with step_by outcome chosen halving vectors_fit idle permitted sew new_type legal_type width_ok width_of inside misses rows_miss distinct stored marked listing others decode sound seals_fit put_tile put_row put_le mark_tile mark_row reduce
step_is = tt

-- a run
run_is : Unit {0}
unfolding step_is narrow msew type_of start_run sound_run format kind_fit planned lying apart separate chunks
run_is = tt

-- an image
image-is : Unit {0}
unfolding step_is groups encode is_among nonempty read_number parse runs spread log2 beyond image_of top_rlen top_mlen least_mlen mtypes ranges_format runs_format image_format size_image write_image check_image read_image front place_in announced_format runs_kept kept_in salvage
image-is = tt

-- a line of text
line-is : Unit {0}
unfolding decode listing others line read_line decimal packed_text host_word_text host_text_word put_le
line-is = tt

-- the C functions
host-is : Unit {0}
unfolding run_is image-is well_formed seals_in put_range put_seals seal_block machine_of put_machine values_of put_values put_numbers place_of plan_of run_of put_run run_fit put_handed read_block packed_reply host_start host_step host_seal host_run_start host_next host_turn host_turns host_run host_image_size host_image_write host_image_read host_salvage
host-is = tt

-- ---- small laws

-- a number that is not 0
refuses : {n : ℕ} (k : ℕ) → n ≡ suc k → ¬ (n ≡ 0)
refuses k e z = omega (arith, e, z)

-- numbers below a bound: entries of a list, and bytes one by one
under : (n : ℕ) (s : List ℕ) → ltb 0 n ≡ true → all_of (λ b. ltb b n) s ≡ true → (q : ℕ) → get_or s q 0 < n
under n [] z h q = ltb-true 0 n z
under n (b ∷ s) z h zero = ltb-true b n (and_left (ltb b n) (all_of (λ b. ltb b n) s) h)
under n (b ∷ s) z h (suc q) = under n s z (and_right (ltb b n) (all_of (λ b. ltb b n) s) h) q

smalls : (s : List ℕ) → all_of (λ b. ltb b 256) s ≡ true → Images.ByteString s
smalls [] h = tt
smalls (b ∷ s) h = (ltb-true b 256 (and_left (ltb b 256) (all_of (λ b. ltb b 256) s) h), smalls s (and_right (ltb b 256) (all_of (λ b. ltb b 256) s) h))

-- none of the seven calls makes another machine or writes to the block
abbrev spared : Unit {0} × (Unit {0} × (Unit {0} × (Unit {0} × (Unit {0} × (Unit {0} × (Unit {0} × Unit {0}))))))
spared = (tt, (tt, (tt, (tt, (tt, (tt, (tt, tt)))))))

-- ---- nothing of an answer is cut

of-results : Results
unfolding host-is line-is
of-results = record {
  c-step-whole = promise.results.c-step-whole msbte16 2 block regs nearly scalar_block mem file refl refl;
  c-turn-whole = promise.results.c-turn-whole (run_block 8 3 5 0) block regs nearly mem;
  c-image-size-whole = promise.results.c-image-size-whole block regs spots;
  c-image-write-whole = promise.results.c-image-write-whole block regs spots (room 30);
  c-image-read-whole = promise.results.c-image-read-whole cut block regs spots;
  c-image-salvage-whole = promise.results.c-image-salvage-whole cut (room 30) report (smalls cut refl);
  c-image-salvage-report = promise.results.c-image-salvage-report cut (room 30) report (smalls cut refl) refl;
  c-word-text-whole = promise.results.c-word-text-whole mlbte16 (replicate 32 0) (omega arith);
  c-text-word-whole = promise.results.c-text-word-whole bad_text (replicate 8 1);
}

of-refusals : Refusals
unfolding host-is line-is
of-refusals = record {
  start = promise.refusals.start 128 512 48 1 seals regs all_marks (refuses 7 refl);
  word = promise.refusals.word chosen msbte16 (xs 30 8) lent held (refuses 6 refl);
  seal = promise.refusals.seal (2 ^ 64 - 3) 3 held (refuses 7 refl);
  run-start = promise.refusals.run-start chosen (plan_at 30) held;
  asking = promise.refusals.asking chosen (run_at (AtN 3 4)) (refuses 7 refl);
  turn = promise.refusals.turn chosen stuck (refuses 4 refl);
  turns = promise.refusals.turns chosen stuck 3 refl;
  whole_run = promise.refusals.whole_run chosen (plan_at 30) held (refuses 8 refl);
  image-write = promise.refusals.image-write (machine_by 1) sealed3 regs spots (room 20) (refuses 13 refl);
  image-read = promise.refusals.image-read cut regs spots (refuses 14 refl);
  image-salvage = promise.refusals.image-salvage cut_early (room 30) (refuses 14 refl);
  c-start = promise.refusals.c-start 128 512 48 1 seals block regs all_marks (refuses 7 refl);
  c-step = promise.refusals.c-step msbte16 2 block regs nearly scalar_block mem file (under 256 block refl refl) (under 256 scalar_block refl refl) (refuses (4 + 1 * 2 ^ 16 + 4 * 2 ^ 32) refl);
  c-seal = promise.refusals.c-seal (2 ^ 64 - 3) 3 block regs all_marks (refuses 7 refl);
  c-run-start = promise.refusals.c-run-start (plan_at 30) block regs all_marks mem (run_block 0 0 0 0) (refuses 8 refl);
  c-next = promise.refusals.c-next (run_block 2 3 4 0) report (refuses 7 refl);
  c-turn = promise.refusals.c-turn (run_block 8 3 5 0) block regs nearly mem (under 256 (run_block 8 3 5 0) refl refl) (under 256 block refl refl) (refuses (4 + 1 * 2 ^ 16 + 3 * 2 ^ 32) refl);
  c-turns = promise.refusals.c-turns 3 (run_block 8 3 5 0) block regs nearly mem (under 256 (run_block 8 3 5 0) refl refl) (under 256 block refl refl) refl;
  c-run = promise.refusals.c-run (plan_at 30) block regs all_marks mem (replicate 8 1) (refuses 8 refl);
  c-image-write = promise.refusals.c-image-write block regs spots (room 20) (refuses 13 refl);
  c-image-read = promise.refusals.c-image-read cut block regs spots (refuses 14 refl);
  c-image-salvage = promise.refusals.c-image-salvage cut_early (room 30) report (refuses 14 refl);
  c-word-text = promise.refusals.c-word-text mlbte16 (replicate 20 0) (refuses 13 refl);
  c-text-word = promise.refusals.c-text-word bad_text (replicate 8 1) (refuses 16 refl);
}

-- ---- words

-- an entry of a list by its place
member : {A : Type 0} (ys : List A) (n : ℕ) (d : A) → n < length ys → List-as-Memᴰ (get_or ys n d) ys
member [] n d h = absurd (omega (arith, h))
member (y ∷ ys) zero d h = List·Memᴰ·head refl
member (y ∷ ys) (suc n) d h = List·Memᴰ·tail (member ys n d (omega (arith, h)))

-- the bits of an entry
every-bit : (word : ℕ) (fs : List Fixed) → has word fs ≡ true → (f : Fixed) → List-as-Memᴰ f fs → bits f.high f.low word ≡ f.value
every-bit word [] h f m = absurd (List·Memᴰ·not-nil m)
every-bit word (g ∷ gs) h f m =
    elim (List·Memᴰ·cases-cons m) [
      | inl e ↦ subst (λ (x : Fixed). bits x.high x.low word ≡ x.value) (sym e)
          (eqb-true (bits g.high g.low word) g.value (and_left (eqb (bits g.high g.low word) g.value) (has word gs) h))
      | inr n ↦ every-bit word gs (and_right (eqb (bits g.high g.low word) g.value) (has word gs) h) f n
    ]

-- the entry of mlbte16.m
abbrev entry114 : Code
entry114 = get_or (entries listing) 37 (record { number = 0; fixed = [] })

-- a byte between two of three rows
between : (i : ℕ) → i < 3 → ¬ In (row_at 150 24 i) 20 172
between zero h e = omega (arith, e.1)
between (suc zero) h e = omega (arith, e.0)
between (suc (suc zero)) h e = omega (arith, e.0)
between (suc (suc (suc i))) h e = omega (arith, h)

of_words : Words
unfolding host-is
of_words = record {
  exact = (((promise.words.exact chosen msbte16 (xs 100 8) lent holed).five.0 refl).0, (promise.words.exact chosen msbte16 (xs 100 8) lent holed).named refl);
  words = (promise.words.words chosen mfwma (xs 0 0) lent held).eleven.0 refl;
  no-code-twice = λ k c l m h b. promise.words.no-code-twice mlbte16 37 k c l m h b;
  types = (promise.words.types 64 refl 9, promise.words.types 64 refl 10);
  registers =
      let f = promise.words.registers halving 128 512 64 refl in
      let there : IsThere 128 512 (Spot.in_accumulator 0 1 12) = (omega arith, omega arith, omega arith) in
      (f.within (Spot.in_accumulator 0 1 12) there, f.whole 588 (omega arith), λ s h e. f.apart s (Spot.in_accumulator 0 1 12) h there e);
  stores = (
    (promise.words.stores chosen msce32 (xs 150 24) lent held Plain MatrixC 4 1 10 11 refl refl).elements 2 3 1 (omega arith) (omega arith) (omega arith),
    (promise.words.stores chosen msce32 (xs 150 24) lent held Plain MatrixC 4 1 10 11 refl refl).others 172 between,
    (promise.words.stores chosen msce32 (xs 150 24) lent held Plain MatrixC 4 1 10 11 refl refl).same_length,
  );
  keeps-sound = promise.words.keeps-sound chosen promise.runs.rules mqma (xs 0 0) lent held refl;
  seal-keeps-sound = promise.words.seal-keeps-sound 355 3 held refl;
  start-sound = promise.words.start-sound 128 512 64 1 seals regs all_marks mem refl;
  seal-words = (promise.words.seal-words chosen words7 held).same_bytes 61 refl;
  seal-words-from-start = promise.words.seal-words-from-start 128 512 64 1 seals regs all_marks mem refl words7 61 refl;
  seal = (promise.words.seal chosen acts7 (session_on held)).same_bytes 61 refl;
  seal-from-start = (promise.words.seal-from-start chosen 128 512 64 1 seals regs all_marks mem (xs 100 8) lent (run_at AtType) refl acts7).same_bytes 61 refl;
  seal-from-read = promise.words.seal-from-read image regs' all_marks mem (smalls image refl) refl words7 61 refl;
  c-seal =
      (promise.words.c-seal (Call.start 96 512 64 1 seals ∷ calls7) host (under 256 block refl refl) (record { added = []; behind = refl }, spared)).same_bytes 61 refl;
  c-seal-from-start = (promise.words.c-seal-from-start 128 512 64 1 seals host refl calls7 spared).same_bytes 61 refl;
  c-seal-from-read = (promise.words.c-seal-from-read image other_host (smalls image refl) refl calls7 spared).same_bytes 61 refl;
  c-seal-from-seal = (promise.words.c-seal-from-seal 355 3 host (under 256 block refl refl) refl calls7 spared).same_bytes 356 refl;
}

-- ---- runs

mem_bytes : MemoryBytes mem
unfolding data_is
mem_bytes = record { below = under 256 mem refl refl; addressed = omega arith }

-- byte 355 lies behind C's five rows
behind : (i : ℕ) × (i < 5) × In (row_at 150 40 i) 40 355 → ⊥
behind (zero, h, e) = omega (arith, e.1)
behind (suc zero, h, e) = omega (arith, e.1)
behind (suc (suc zero), h, e) = omega (arith, e.1)
behind (suc (suc (suc zero)), h, e) = omega (arith, e.1)
behind (suc (suc (suc (suc zero))), h, e) = omega (arith, e.1)
behind (suc (suc (suc (suc (suc i)))), h, e) = omega (arith, h)

abbrev bench_by : (rule : ℕ) → Bench
bench_by rule = bench_of (machine_by rule) sealed3 regs all_marks mem

-- what is said of a plan and a bench, for the plan above on either rule
run-right : (grant : Choice) (rule : ℕ) → ((P : Plan) → Statement.RunFromStart grant P (bench_by rule)) → (start_run grant plan (bench_by rule)).answer.number ≡ 0
    → ¬ ((start_run grant (plan_at 30) (bench_by rule)).answer.number ≡ 0) → RunIsRight grant (bench_by rule)
unfolding run_is total
run-right grant rule d h n =
    let early : 20 < 47 = omega arith in
    let late : 47 ≤ 60 = omega arith in
    let r20 : Right grant (job_of grant plan (bench_by rule)) (started_run grant plan (bench_by rule)) 20 = (d plan).turns h 20 in
    let r60 : Right grant (job_of grant plan (bench_by rule)) (started_run grant plan (bench_by rule)) 60 = (d plan).turns h 60 in
    let given = (d plan).answered.only_then h in
    record {
      accepted = (d plan).answered.gives-0 given.0 given.1 given.2;
      only_then = given;
      as_many = (d plan).as_many h;
      next-done = (r20.next-done early).answers;
      next-handed = (r20.next-done early).hands_out;
      past_end = (r60.past_end late).answers;
      past-left = (r60.past_end late).leaves;
      asked = (r20.asks early).leaves;
      asked-past = (r60.asks-past-end late).answers;
      kept = r20.kept.outside 355 behind;
      product = r60.product late 4 9 (omega arith) (omega arith);
      count = r60.count;
      tells = r60.tells;
      idle = ((d (plan_at 30)).idle n 7).unchanged;
    }

-- the starts
rule0 : (start_run chosen plan (bench_by 0)).answer.number ≡ 0
unfolding run_is
rule0 = refl

rule0-refused : ¬ ((start_run chosen (plan_at 30) (bench_by 0)).answer.number ≡ 0)
unfolding run_is
rule0-refused = refuses 8 refl

rule1 : (start_run chosen plan (bench_by 1)).answer.number ≡ 0
unfolding run_is
rule1 = refl

rule1-refused : ¬ ((start_run chosen (plan_at 30) (bench_by 1)).answer.number ≡ 0)
unfolding run_is
rule1-refused = refuses 8 refl

halves0 : (start_run halves plan (bench_by 0)).answer.number ≡ 0
unfolding run_is
halves0 = refl

halves0-refused : ¬ ((start_run halves (plan_at 30) (bench_by 0)).answer.number ≡ 0)
unfolding run_is
halves0-refused = refuses 8 refl

-- a plan's numbers have 64 bits
plan-words : PlanWords plan
plan-words = under (2 ^ 64) (plan_numbers plan ++ (1 ∷ [])) refl refl

block-bytes : (q : ℕ) → get_or block q 0 < 256
unfolding data_is
block-bytes = under 256 block refl refl

scalar-bytes : (q : ℕ) → get_or scalar_block q 0 < 256
unfolding data_is
scalar-bytes = under 256 scalar_block refl refl

report-bytes : (q : ℕ) → get_or report q 0 < 256
report-bytes = under 256 report refl refl

run-start-call : (called (Call.run_start plan) host).result ≡ 0
unfolding host-is
run-start-call = refl

starts-right : StartCallsAreRight → StartsAreRight
unfolding host-is
starts-right s = record {
  refused = ((s (plan_at 30) host mem_bytes).0 refl).refused (refuses 8 refl);
  memory = ap (λ (b : Buffers). b.memory) ((s plan host mem_bytes).0 refl).unchanged;
  no-machine = ((s plan short_host mem_bytes).0 refl).refused (refuses 7 refl);
  no_run = (s plan (host_with regs all_marks report) mem_bytes).1 (λ e. omega (arith, e));
}

calls-right : TurnCallsAreRight → CallsAreRight
unfolding host-is total
calls-right s =
    let early : 20 < 47 = omega arith in
    let late : 47 ≤ 60 = omega arith in
    let r20 : TurnCalls plan host 20 = s plan host plan-words block-bytes mem_bytes run-start-call 20 in
    let r60 : TurnCalls plan host 60 = s plan host plan-words block-bytes mem_bytes run-start-call 60 in
    record {
      holds = ap (λ (b : Buffers). b.memory) r20.holds;
      next-done = r20.next-done early;
      past_end = (r60.past_end late).0;
      past-left = (r60.past_end late).1;
      asked = (r20.asks refl early).0;
      asked-past = (r60.asks-past-end refl late).0;
      tells = r60.tells;
      kept = r20.kept.outside 355 behind;
      product = r60.product late 4 9 (omega arith) (omega arith);
    }

many-right : TurnsAreTurnCalls → ManyAreRight
unfolding data_is
many-right s = let m = s 60 host (under 256 (run_block 0 0 0 0) refl refl) block-bytes in record { after = m.0; result = m.1 }

whole-call : (called (Call.run plan) host).result ≡ 0
unfolding host-is
whole-call = refl

whole-right : RunIsTurnCalls → WholeIsRight
unfolding host-is
whole-right s = let w = s plan host plan-words block-bytes mem_bytes refl refl in record { result = w.0; memory = ap (λ (b : Buffers). b.memory) (w.1 whole-call) }

whole-run-right : WholeDelivers → ((whole chosen plan held).count ≡ 47) × (element (whole chosen plan held).bench.memory (row_at 150 40) 4 4 9 ≡ 0xedbfaae0)
    × (get_or (whole chosen plan held).bench.memory 355 0 ≡ 155) × ((whole chosen (plan_at 30) held).bench ≡ held)
unfolding run_is total
whole-run-right s =
    let w = s plan held mem_bytes in
    (w.counted rule1, w.product rule1 4 9 (omega arith) (omega arith), w.kept.outside 355 behind, ((s (plan_at 30) held mem_bytes).refused rule1-refused).1)

of-runs : Runs
unfolding run_is Sheet.sheet
of-runs = record {
  every-choice = run-right halves 0 (λ P. promise.runs.every-choice halves (λ rule. promise.runs.rules 1) P (bench_by 0) mem_bytes) halves0 halves0-refused;
  ours = run-right chosen 1 (λ P. promise.runs.ours P (bench_by 1) mem_bytes) rule1 rule1-refused;
  smaller = ((promise.runs.smaller plan (bench_by 0) refl mem_bytes).0, run-right chosen 0 (λ P. (promise.runs.smaller P (bench_by 0) refl mem_bytes).1) rule0 rule0-refused);
  halving = ((promise.runs.halving plan (bench_by 1) refl mem_bytes).0, run-right chosen 1 (λ P. (promise.runs.halving P (bench_by 1) refl mem_bytes).1) rule1 rule1-refused);
  rules = (((promise.runs.rules 1).middle 8 10 (omega arith)).0, ((promise.runs.rules 1).middle 8 10 (omega arith)).1, (promise.runs.rules 1).small 8 7 (omega arith), (promise.runs.rules 1).large 8 20 (omega arith));
  whole_run = whole-run-right promise.runs.whole_run;
  sheet = ap (λ (ls : List (List ℕ)). get_or ls 9 []) promise.runs.sheet;
  example = ap (λ (ns : List ℕ). get_or ns 3 0) promise.runs.example;
  c-start = starts-right promise.runs.c-start;
  c-turns = calls-right promise.runs.c-turns;
  c-many = many-right promise.runs.c-many;
  c-run = whole-right promise.runs.c-run;
}

-- ---- requests

-- registers that agree where marked
agrees : (marks registers registers' : List ℕ) → Bool
agrees [] rs rs' = true
agrees (m ∷ ms) [] rs' = false
agrees (m ∷ ms) (r ∷ rs) [] = false
agrees (m ∷ ms) (r ∷ rs) (r' ∷ rs') = (not (eqb m 1) || eqb r r') && agrees ms rs rs'

agreeing : (marks registers registers' : List ℕ) → agrees marks registers registers' ≡ true → (q : ℕ) → get_or marks q 0 ≡ 1 → get_or registers q 0 ≡ get_or registers' q 0
unfolding agrees
agreeing [] rs rs' h q e = absurd (omega (arith, e))
agreeing (m ∷ ms) [] rs' h q e = absurd (true≢false (sym h))
agreeing (m ∷ ms) (r ∷ rs) [] h q e = absurd (true≢false (sym h))
agreeing (m ∷ ms) (r ∷ rs) (r' ∷ rs') h zero e = eqb-true r r' (then (eqb m 1) (eqb r r') (and_left (not (eqb m 1) || eqb r r') (agrees ms rs rs') h) (eq-eqb m 1 e))
  where
    then : (a b : Bool) → (not a || b) ≡ true → a ≡ true → b ≡ true
    then true b g k = g
    then false b g k = absurd (true≢false (sym k))
agreeing (m ∷ ms) (r ∷ rs) (r' ∷ rs') h (suc q) e = agreeing ms rs rs' (and_right (not (eqb m 1) || eqb r r') (agrees ms rs rs') h) q e

same-where-marked : Agree spots regs regs'
unfolding data_is agrees
same-where-marked = record { same_length = refl; same_bytes = agreeing spots regs regs' refl }

alike : Alike spotted spotted'
alike = record { same-machine = refl; same-seals = refl; same-marks = refl; agree = same-where-marked }

alike-benches : AlikeBenches spotted spotted'
alike-benches = record { alike = alike; same_memory = refl }

alike-hosts : AlikeBuffers spotted_host spotted_host'
alike-hosts = record {
  same-machine = refl;
  same-marks = refl;
  agree = same-where-marked;
  same-scalars = refl;
  same_memory = refl;
  same-run = refl;
  same_step = refl;
  same-steps = refl;
  same-file = refl;
}

at-power-up : AtPowerUp host spotted_host'
unfolding data_is
at-power-up = record {
  machine-length = refl;
  registers-length = refl;
  marks-length = refl;
  same-scalars = refl;
  same_memory = refl;
  same-run = refl;
  same_step = refl;
  same-steps = refl;
  same-file = refl;
}

-- of states that are not at fault
sound-all : sound_bench held ≡ true
unfolding step_is
sound-all = refl

sound-spots : sound_bench spotted ≡ true
unfolding step_is
sound-spots = refl

sound-spots' : sound_bench spotted' ≡ true
unfolding step_is
sound-spots' = refl

faultless : Faultless (xs 0 0) lent held
unfolding step_is
faultless = (refl, refl, refl)

faultless' : Faultless (xs 100 8) lent held
unfolding step_is
faultless' = (refl, refl, refl)

regs-bytes : Images.ByteString regs
unfolding data_is
regs-bytes = smalls regs refl

regs'-bytes : Images.ByteString regs'
unfolding data_is
regs'-bytes = smalls regs' refl

-- One: a word that is not ours became none of ours; and one that did
not-added : ¬ IsAdded mfwma
unfolding step_is
not-added a = ((promise.words.words chosen mfwma (xs 0 0) lent held).eleven.0 refl).3 (a.1.0, a.1.1, a.1.2)

row114 : Row
row114 = get_or listing 37 (record { code = record { number = 0; fixed = [] }; text = ""; means = λ w. Illegal Unlisted })

added : IsAdded mlbte16
unfolding listing row114
added = (refl, (row114, member listing 37 (record { code = record { number = 0; fixed = [] }; text = ""; means = λ w. Illegal Unlisted }) (omega arith), every-bit mlbte16 row114.code.fixed refl, refl))

-- Two: a load and a store, both accepted
loads-and-stores : LoadThenStore chosen pair (given mlbe16 (xs 0 20)) (given msbte16 (xs 100 8)) spotted
unfolding step_is
loads-and-stores = record { plain-load = refl; transposed-store = refl; load-accepted = refl; store-accepted = refl; bytes = mem_bytes.below }

-- byte 105 lies in none of the five rows that are stored, and byte 500 in none of the two of tr3
beside-rows : (j : ℕ) → j < 5 → ¬ In (row_at 100 8 j) 4 105
beside-rows zero h e = omega (arith, e.1)
beside-rows (suc zero) h e = omega (arith, e.0)
beside-rows (suc (suc zero)) h e = omega (arith, e.0)
beside-rows (suc (suc (suc zero))) h e = omega (arith, e.0)
beside-rows (suc (suc (suc (suc zero)))) h e = omega (arith, e.0)
beside-rows (suc (suc (suc (suc (suc j))))) h e = omega (arith, h)

beside-register : (i : ℕ) → i < 2 → ¬ In (3 * (4 * 16) + i * 16) (5 * 2) 500
beside-register i h e = omega (arith, e.1, h)

turned : Transposes chosen pair (given mlbe16 (xs 0 20)) (given msbte16 (xs 100 8)) spotted
turned = promise.requests.two chosen pair (given mlbe16 (xs 0 20)) (given msbte16 (xs 100 8)) spotted loads-and-stores

-- Four: the whole numbers of row 3 and column 1
float-bytes : MemoryBytes float_mem
unfolding float_mem
float-bytes = record { below = under 256 float_mem refl refl; addressed = omega arith }

left : ℕ → ℤ
left zero = pos 3
left (suc zero) = negsuc 4
left (suc (suc l)) = pos 2

right : ℕ → ℤ
right zero = pos 1
right (suc zero) = pos 2
right (suc (suc l)) = pos 4

wholes : WholeNumbers 3 (λ l. a_of (job_of chosen float_plan float_bench) 3 l) (λ l. b_of (job_of chosen float_plan float_bench) l 1) left right
unfolding run_is float_mem left right value_of of_bits
wholes = record { a-whole = a; b-whole = b; products = p; sums = s }
  where
    a : (l : ℕ) → l < 3 → Is (value_of (a_of (job_of chosen float_plan float_bench) 3 l)) (left l)
    a zero h = refl
    a (suc zero) h = refl
    a (suc (suc zero)) h = refl
    a (suc (suc (suc l))) h = absurd (omega (arith, h))

    b : (l : ℕ) → l < 3 → Is (value_of (b_of (job_of chosen float_plan float_bench) l 1)) (right l)
    b zero h = refl
    b (suc zero) h = refl
    b (suc (suc zero)) h = refl
    b (suc (suc (suc l))) h = absurd (omega (arith, h))

    p : (l : ℕ) → l < 3 → Within24 (left l *ℤ right l)
    p zero h = omega arith
    p (suc zero) h = omega arith
    p (suc (suc l)) h = omega arith

    s : (n : ℕ) → n ≤ 3 → Within24 (sumℤ n (λ l. left l *ℤ right l))
    s zero h = omega arith
    s (suc zero) h = omega arith
    s (suc (suc zero)) h = omega arith
    s (suc (suc (suc zero))) h = omega arith
    s (suc (suc (suc (suc n)))) h = absurd (omega (arith, h))

float-start : (start_run chosen float_plan float_bench).answer.number ≡ 0
unfolding run_is float_mem
float-start = refl

float-run : element (after_turns chosen (started_run chosen float_plan float_bench) 20).bench.memory (row_at 100 8) 4 3 1 ≡ 0x3F800000
unfolding run_is float_mem left right settled of_int to_bits
float-run =
    let late : 17 ≤ 20 = omega arith in
    (promise.requests.four chosen promise.runs.rules float_plan float_bench float-bytes refl float-start 20 3 1 late (omega arith) (omega arith) left right wholes).bits_are

float-whole : element (whole chosen float_plan float_bench).bench.memory (row_at 100 8) 4 3 1 ≡ 0x3F800000
unfolding run_is float_mem left right settled of_int to_bits
float-whole =
    (promise.requests.four-whole-run float_plan float_bench (whole chosen float_plan float_bench) (promise.runs.whole_run float_plan float_bench float-bytes) refl float-start 3 1 (omega arith) (omega arith) left right wholes).bits_are

four-term : Is (value_of 0xC0A00000) (negsuc 4)
unfolding row_bits row_numbers
four-term = promise.requests.four-example.a-whole 1 (omega arith)

-- Six: the image of a machine that is not at fault
is-image : IsImage image
unfolding image-is
is-image = record { machine = machine_by 1; seals = sealed3; registers = regs; marks = spots; not-at-fault = refl; are-bytes = regs-bytes; is-its-image = refl }

too_short : ¬ (◌≡◌ {A = ℕ} 9 1024)
too_short e = omega (arith, e)

image-bytes : Images.ByteString image
image-bytes = smalls image refl

cut-bytes : Images.ByteString cut
cut-bytes = smalls cut refl

-- Nine
same-running : SameRunning (started_run chosen plan spotted) (started_run chosen plan spotted')
same-running =
    let s = promise.requests.nine-run-start chosen plan spotted spotted' alike-benches in record { same-run = s.same-run; alike-benches = s.alike-after }

-- Eleven: both moves are accepted
out-and-back : OutAndBack chosen columns (given mmvcc_out (xs 1 0)) mmvcc_in (xs 1 0) held
unfolding step_is
out-and-back = record { moves_out = refl; moves-back = refl; same_first = refl; out-accepted = refl; back-accepted = refl; bytes = under 256 regs refl refl }

restored : Restored chosen columns (given mmvcc_out (xs 1 0)) mmvcc_in (xs 1 0) held
restored = promise.requests.eleven chosen columns (given mmvcc_out (xs 1 0)) mmvcc_in (xs 1 0) held out-and-back

-- Fourteen
prints : Prints mlbte16 text
unfolding line-is
prints = (omega arith, refl)

of-requests : Requests
unfolding host-is line-is read_word word_text is-image
of-requests = record {
  one-nothing-else = ((promise.requests.one-nothing-else chosen mfwma (xs 0 0) lent held not-added).same_number, (promise.requests.one-nothing-else chosen mfwma (xs 0 0) lent held not-added).same-bench);
  one-added = promise.requests.one-added chosen mlbte16 (xs 100 8) lent held faultless' added;
  two = (turned.transposed 1 4 (omega arith) (omega arith), turned.same_length, turned.same_memory 105 beside-rows, (turned.same-registers 500 beside-register).0, turned.same-machine);
  four = float-run;
  four-whole-run = float-whole;
  four-example = four-term;
  five = promise.requests.five;
  five-decodes = promise.requests.five-decodes mlbte16 refl;
  six-numbers = λ n u. promise.requests.six-numbers 300 n (1 ∷ 2 ∷ []) u;
  six-one-place = λ q. promise.requests.six-one-place IsImage cut 26 q (promise.requests.thirteen-place cut (room 30) cut-bytes);
  six-parser = promise.requests.six-parser (List ℕ) number_and_bytes (refl, λ n a b e. tt) (172 ∷ 2 ∷ 9 ∷ 8 ∷ []) (smalls (172 ∷ 2 ∷ 9 ∷ 8 ∷ []) refl);
  six-runs = promise.requests.six-runs (none ∷ some 7 ∷ some 8 ∷ none ∷ none ∷ some 9 ∷ []);
  six-format = ((promise.requests.six-format image).0 is-image, (promise.requests.six-format cut).1);
  six-same = promise.requests.six-same spotted spotted' alike;
  six-others = promise.requests.six-others spotted spotted' sound-spots sound-spots' regs-bytes regs'-bytes refl;
  six-read = ((promise.requests.six-read image regs' all_marks image-bytes).nought is-image (refl, refl), (promise.requests.six-read image (replicate 9 0) all_marks image-bytes).eight is-image (λ f. too_short f.0));
  six-made = let o = promise.requests.six-made image regs' all_marks image-bytes refl in (o.not-at-fault, o.its-image, o.as_lent 100 refl);
  six-back = promise.requests.six-back spotted (room 30) regs' all_marks sound-spots regs-bytes (omega arith) (refl, refl);
  six-again = promise.requests.six-again image regs' all_marks (room 30) image-bytes refl (omega arith);
  six-c-made = let o = promise.requests.six-c-made image other_host image-bytes refl in (o.not-at-fault, o.its-image, o.as_lent 100 refl, ap (λ (b : Buffers). b.memory) o.others-stay);
  six-c-back = promise.requests.six-c-back spotted_host other_host (room 30) refl regs-bytes refl (omega arith) refl (refl, refl);
  six-c-again = promise.requests.six-c-again image (room 30) other_host image-bytes refl (omega arith);
  nine = (promise.requests.nine chosen 128 512 64 1 seals regs regs' all_marks spots refl refl).1 refl acts7 mem (xs 100 8) lent (run_at AtType);
  nine-starts = promise.requests.nine-starts 128 512 64 1 seals regs regs' all_marks spots mem refl refl;
  nine-step = promise.requests.nine-step chosen mlbe16 (xs 0 20) lent spotted spotted' alike-benches;
  nine_words = promise.requests.nine_words chosen (mlbe16 ∷ msbte16 ∷ msettileki ∷ []) (xs 100 8) lent spotted spotted' alike-benches;
  nine-given = promise.requests.nine-given chosen words7 spotted spotted' alike-benches;
  nine-run-start = promise.requests.nine-run-start chosen plan spotted spotted' alike-benches;
  nine-turns = promise.requests.nine-turns chosen (started_run chosen plan spotted) (started_run chosen plan spotted') same-running 20;
  nine-whole-run = promise.requests.nine-whole-run chosen plan spotted spotted' alike-benches;
  nine-images = promise.requests.nine-images chosen (mlbe16 ∷ msbte16 ∷ msettileki ∷ []) (xs 100 8) lent spotted spotted' alike-benches;
  nine-images-given = promise.requests.nine-images-given chosen words7 spotted spotted' alike-benches;
  nine-c = (promise.requests.nine-c 128 512 64 1 seals host spotted_host' at-power-up).same-calls refl calls7;
  nine-c-readers = (promise.requests.nine-c-readers image host spotted_host' at-power-up).same-calls refl calls7;
  nine-c-call = promise.requests.nine-c-call (Call.run_turns 60) spotted_host spotted_host' alike-hosts;
  nine-c-calls = promise.requests.nine-c-calls calls7 spotted_host spotted_host' alike-hosts;
  nine-c-image-write = promise.requests.nine-c-image-write (room 30) spotted_host spotted_host' alike-hosts;
  nine-c-images = promise.requests.nine-c-images calls7 spotted_host spotted_host' alike-hosts;
  eleven = (restored.same-bench, restored.same-vectors);
  eleven-file = promise.requests.eleven-file chosen mmvcc_out (xs 1 0) lent held;
  twelve = promise.requests.twelve chosen acts7 (session_on held);
  twelve-run = promise.requests.twelve-run chosen (started_run chosen plan held) 340 5 refl 40;
  twelve-c-seal = let o = promise.requests.twelve-c-seal 355 3 host in (o.0, ap (λ (B : Bench). B.seals) o.1);
  twelve-c-start = promise.requests.twelve-c-start 128 512 64 1 seals host refl;
  twelve-c-read = promise.requests.twelve-c-read image other_host image-bytes refl;
  twelve-c-calls = promise.requests.twelve-c-calls (Call.start 96 512 64 1 seals ∷ Call.image_read cut ∷ calls7) host (refuses 7 refl, (refuses 14 refl, spared));
  thirteen = promise.requests.thirteen cut (room 30) cut-bytes;
  thirteen-place = promise.requests.thirteen-place cut (room 30) cut-bytes;
  thirteen-image = promise.requests.thirteen-image cut (room 30) cut-bytes refl;
  thirteen-room = promise.requests.thirteen-room cut (room 26) cut-bytes (omega arith);
  thirteen-sound = promise.requests.thirteen-sound image (room 30) is-image (omega arith);
  thirteen-cut = let f = promise.requests.thirteen-cut spotted 26 (room 30) regs' all_marks sound-spots regs-bytes (refl, refl) refl in (f.same-machine, f.same-seals, (f.same_bytes 71 refl).1);
  thirteen-cut-place = promise.requests.thirteen-cut-place spotted 26 (room 30) sound-spots regs-bytes;
  fourteen = (promise.requests.fourteen mlbte16, promise.requests.fourteen mfwma);
  fourteen-accepted = promise.requests.fourteen-accepted chosen msbte16 (xs 100 8) lent held refl;
  fourteen-only = promise.requests.fourteen-only mlbte16 refl;
  fourteen-codes = promise.requests.fourteen-codes chosen mfwma (xs 0 0) lent held faultless refl;
  fourteen-back = promise.requests.fourteen-back mlbte16 text prints;
  fourteen-read = promise.requests.fourteen-read bad_text;
  fourteen-one = λ other. promise.requests.fourteen-one mlbte16 other text prints;
  fourteen-short = promise.requests.fourteen-short mlbte16 text prints;
  fourteen-digits = promise.requests.fourteen-digits (bytes "18b511F7");
  fourteen-digits-back = promise.requests.fourteen-digits-back mlbte16 (omega arith);
  fourteen-both = promise.requests.fourteen-both mlbte16 (omega arith) refl;
}

-- ---- the demands

-- which of these calls is one that counts turns: a salvage is not
on-machine : HostCall → Bool
on-machine (HostCall.call c) = true
on-machine (HostCall.image_write i) = false
on-machine (HostCall.image_salvage image room report) = false
on-machine (HostCall.word_text word text) = false
on-machine (HostCall.text_word text word) = false

no-turns : (limit : ℕ) → ¬ (HostCall.image_salvage cut_early (room 30) report ≡ HostCall.call (Call.run_turns limit))
unfolding on-machine
no-turns limit e = true≢false (sym (ap on-machine e))

host-bytes : InBytes host
unfolding data_is
host-bytes = record { machine = under 256 block refl refl; scalars = under 256 scalar_block refl refl; run = under 256 (run_block 0 0 0 0) refl refl }

stuck-bytes : InBytes stuck_host
unfolding data_is
stuck-bytes = record { machine = under 256 block refl refl; scalars = under 256 scalar_block refl refl; run = under 256 (run_block 8 3 5 0) refl refl }

no_room : Answers chosen (Deed.image_write (room 20)) (session_on spotted) (deed chosen (Deed.image_write (room 20)) (session_on spotted))
no_room = promise.demand-1.deeds chosen (Deed.image_write (room 20)) (session_on spotted)

no-room-answer : ¬ ((deed chosen (Deed.image_write (room 20)) (session_on spotted)).answer ≡ 0)
unfolding image-is
no-room-answer = refuses 13 refl

deeds-counted : Counted chosen (started_run chosen plan held) 60
deeds-counted =
    let r = started_run chosen plan held in
    (promise.demand-1.deeds chosen (Deed.does (Act.run_turns 60)) (session r.bench (xs 0 0) lent r.run)).counted 60 refl

-- 47 of them are answered 0
counted47 : (turns chosen (started_run chosen plan held) 60).count ≡ 47
counted47 = of-runs.ours.count

of_calls : EveryCallAnswers
unfolding host-is
of_calls =
    let o = promise.demand-1.in_c.answers (HostCall.image_salvage cut_early (room 30) report) host host-bytes no-turns in
    let c = promise.demand-1.in_c.counts 3 stuck_host stuck-bytes in
    record {
      answers = (o.number, (o.refusal (refuses 14 refl)).0, (o.refusal (refuses 14 refl)).1);
      counts = (c.at_most, c.left, (c.refused (omega arith)).0, (c.refused (omega arith)).1);
    }

of-demand-2 : Demand2
unfolding host-is
of-demand-2 = record {
  words = (
    (promise.demand-2.words chosen mqma (xs 0 0) lent held).answer,
    (promise.demand-2.words chosen mqma (xs 0 0) lent held).done refl,
    (promise.demand-2.words chosen msbte16 (xs 30 8) lent held).refused (refuses 6 refl),
  );
  stores =
      let s = promise.demand-2.stores chosen msbte16 (xs 100 8) lent held Transposed MatrixB 2 3 10 11 refl refl in
      (s.elements 4 1 1 (omega arith) (omega arith) (omega arith), s.others 105 beside-rows, s.same_length);
  unwritten = (promise.demand-2.unwritten chosen 128 512 64 1 seals regs regs' all_marks spots refl refl).1 refl acts7 mem (xs 100 8) lent (run_at AtType);
  turns = λ h e. ap (λ (x : Turn). x.answer) (promise.demand-2.turns chosen stuck h e);
  words-in-c = (
    ((promise.demand-2.words-in-c mqma 1 host block-bytes scalar-bytes).0 refl).result,
    ((promise.demand-2.words-in-c mqma 1 host block-bytes scalar-bytes).0 refl).bench,
    ((promise.demand-2.words-in-c mqma 1 short_host report-bytes scalar-bytes).0 refl).bench,
    (promise.demand-2.words-in-c mqma 1 scant_host block-bytes report-bytes).1 (λ e. omega (arith, e)),
  );
  faults = ((promise.demand-2.faults held).0 refl, λ n. true≢false (sym ((promise.demand-2.faults (bench_of (machine_by 2) sealed3 regs all_marks mem)).1 n)));
  starts =
      let done = promise.demand-2.starts 128 512 64 1 seals regs all_marks in
      let nine-given = (promise.demand-2.starts 128 512 64 1 nine regs all_marks).given.next.0 refl in
      let bad = promise.demand-2.starts 96 512 64 1 seals regs all_marks in
      ((done.given.nought.0 refl).0, ap (λ (o : StartOutcome). o.machine) (done.started refl), nine-given.0, nine-given.1, bad.given.eight.0 refl, ap (λ (o : StartOutcome). o.machine) (bad.refused (refuses 7 refl)));
  additions =
      let done = promise.demand-2.additions 355 3 held in (
        (done.given.nought.0 refl).0,
        ap (λ (o : SealOutcome). o.bench.seals) (done.added refl),
        ((promise.demand-2.additions 355 3 full).given.next.0 refl).0,
        (promise.demand-2.additions (2 ^ 64 - 3) 3 held).given.eight.0 refl,
      );
  sizes = (
    (promise.demand-2.sizes spotted).nought.0 refl,
    ap (λ (o : SizeOutcome). o.size) ((promise.demand-2.sizes spotted).sized refl),
    ap (λ (o : SizeOutcome). o.size) ((promise.demand-2.sizes (bench_of (machine_by 2) sealed3 regs spots mem)).refused (refuses 7 refl)),
  );
  writings = (
    ((promise.demand-2.writings spotted (room 30)).given.nought.0 refl).0,
    ap (λ (o : WriteOutcome). o.room) ((promise.demand-2.writings spotted (room 30)).written refl),
    ((promise.demand-2.writings spotted (room 27)).given.nought.0 refl).1,
    ((promise.demand-2.writings spotted (room 26)).given.next.0 refl).1,
  );
  starts-in-c =
      let nine-given = promise.demand-2.starts-in-c 128 512 64 1 nine host in
      ((promise.demand-2.starts-in-c 128 512 64 1 seals host).started refl, (nine-given.given.next.0 refl).1, nine-given.refused (refuses 15 refl));
  additions-in-c = (
    ap (λ (C : Bench). C.seals) ((promise.demand-2.additions-in-c 355 3 host).added refl),
    (promise.demand-2.additions-in-c (2 ^ 64 - 3) 3 host).given.eight.0 refl,
    (promise.demand-2.additions-in-c 355 3 short_host).given.eight.0 refl,
  );
  sizes-in-c = ((promise.demand-2.sizes-in-c spotted_host).nought.0 refl, (promise.demand-2.sizes-in-c spotted_host).sized refl);
  writings-in-c = (
    ((promise.demand-2.writings-in-c (room 30) spotted_host).written refl).1,
    ((promise.demand-2.writings-in-c (room 26) spotted_host).given.next.0 refl).1,
    ((promise.demand-2.writings-in-c (room 26) spotted_host).refused (refuses 13 refl)).1,
  );
  unwritten-words = promise.demand-2.unwritten-words chosen (mlbe16 ∷ msbte16 ∷ msettileki ∷ []) (xs 100 8) lent spotted spotted' alike-benches;
  unwritten-readers-in-c = (promise.demand-2.unwritten-readers-in-c image host spotted_host' at-power-up).same-calls refl calls7;
  unwritten-in-c = (promise.demand-2.unwritten-in-c 128 512 64 1 seals host spotted_host' at-power-up).same-calls refl calls7;
  sealed = (
    (promise.demand-2.sealed chosen acts7 (session_on fresh) sealed3 (Made.started 128 512 64 1 seals regs all_marks refl refl refl)).same_bytes 61 refl,
    (promise.demand-2.sealed chosen acts7 (session_on (read_bench image regs' all_marks mem)) sealed3 (Made.read image regs' all_marks image-bytes refl refl refl)).same_bytes 61 refl,
  );
  sealed-in-c = (
    (promise.demand-2.sealed-in-c (Call.start 128 512 64 1 seals) host sealed3 (MadeInC.started 128 512 64 1 seals refl refl) refl calls7 spared).same_bytes 61 refl,
    (promise.demand-2.sealed-in-c (Call.image_read image) other_host sealed3 (MadeInC.read image image-bytes refl refl) refl calls7 spared).same_bytes 61 refl,
    (promise.demand-2.sealed-in-c (Call.seal 355 3) host (sealed3 ++ (range 355 3 ∷ [])) (MadeInC.added 355 3 block-bytes refl refl) refl calls7 spared).same_bytes 356 refl,
  );
}

of-demand-3 : Demand3
unfolding block_of block numbers run_block
of-demand-3 = record {
  runs = run-right chosen 1 (λ P. promise.demand-3.runs P (bench_by 1) mem_bytes) rule1 rule1-refused;
  every-choice = run-right halves 0 (λ P. promise.demand-3.every-choice halves (λ rule. promise.runs.rules 1) P (bench_by 0) mem_bytes) halves0 halves0-refused;
  whole-runs = whole-run-right promise.demand-3.whole-runs;
  in_c = record {
    start = starts-right promise.demand-3.in_c.start;
    turns = calls-right promise.demand-3.in_c.turns;
    many = many-right promise.demand-3.in_c.many;
    whole = whole-right promise.demand-3.in_c.whole;
    delivers = (promise.demand-3.in_c.delivers plan host plan-words block-bytes mem_bytes).0 refl;
  };
}

-- ---- computed

of-computed : Computed
unfolding host-is line-is
of-computed = record {
  started = (refl, refl);
  sized-is = refl;
  written_is = refl;
  read_is = (refl, refl);
  host-start = refl;
  host-step = (refl, refl, refl, refl, refl, refl, refl);
  host-move = (refl, refl, refl);
  host-seal = refl;
  host-run-start = refl;
  host-next = refl;
  host-turn = refl;
  host-turns = refl;
  host-run = refl;
  host-image-size = refl;
  host-image-write = refl;
  host-image-read = refl;
  host-salvage = refl;
  host-word-text = refl;
  host-text-word = refl;
  machine-read = refl;
  scalars-read = refl;
  scalars-put = refl;
  numbers-put = refl;
  run-read = refl;
  packed-is = refl;
}

pub instances : Instances
instances = record {
  demand-1 = record {
    deeds = (
      no_room.number,
      (no_room.refusal no-room-answer).0,
      (no_room.refusal no-room-answer).1,
      (no_room.refusal no-room-answer).2,
      deeds-counted.at_most,
      deeds-counted.accepted 46 (subst (λ (n : ℕ). 46 < n) (sym counted47) (omega arith)),
      deeds-counted.left ∙ ap (after_turns chosen (started_run chosen plan held)) counted47,
      deeds-counted.refused (subst (λ (n : ℕ). n < 60) (sym counted47) (omega arith)),
    );
    in_c = of_calls;
  };
  demand-2 = of-demand-2;
  demand-3 = of-demand-3;
  requests = of-requests;
  results = of-results;
  refusals = of-refusals;
  words = of_words;
  runs = of-runs;
  computed = of-computed;
}
