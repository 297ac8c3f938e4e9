-- What each statement of the promise says of one case that is not the smallest: a machine of RLEN 128, MLEN 512, ELEN 64 and rule 1 with three
-- sealed ranges, words with three operands, a run of 47 steps, an image of two runs, several acts and calls. Records and lines have the names that
-- Promise.antt and the demands' pages have; proofs/Instances.antt takes each line from the promise's own term, so that a statement which asks for
-- more, or speaks of less, no longer gives its line.
use Rattle.std.specs.Prelude.{Ok}
use Rattle.std.specs.Prelude.{◌≡◌, ◌⊎◌, ◌∷◌, ◌++◌, ◌+◌, ◌*◌, ◌-◌, ◌/◌, ◌%◌, ◌^◌, ◌≤◌, ◌<◌}
use Rattle.numbers.specs.Kit.{true, false, cond, map, List, [], List-as-Memᴰ, none, some, ℕ, zero, suc}
use Rattle.numbers.specs.Kit.{length, get_or, replicate, set, take, drop, negsuc}
use Rattle.numbers.specs.Reduce.{reduce}
use Rattle.numbers.specs.Blocks.{Choice}
use Rattle.numbers.specs.Binary32.{value_of}
use Rattle.machine.specs.declared.Machine.{Machine}
use Rattle.machine.specs.declared.Form.TheVariants.{Transposed}
use Rattle.machine.specs.declared.Matrix.TheVariants.{MatrixB}
use Rattle.machine.specs.declared.Wrong.TheVariants.{Unlisted}
use Rattle.machine.specs.declared.Factor.TheVariants.{Quadruple}
use Rattle.machine.specs.declared.Instruction.TheVariants.{Illegal, Load, Multiply}
use Rattle.machine.specs.Answers.{bare}
use Rattle.machine.specs.Geometry.{Range, range, sealed, parameters_of, parameters, state_of, Bench, bench_of}
use Rattle.machine.specs.Setting.{new_type, smaller, halving, chosen}
use Rattle.machine.specs.Starting.{no_machine, fresh_machine, start_machine}
use Rattle.machine.specs.Memory.{row_at}
use Rattle.machine.specs.Vectors.{Vectors, vectors_of, idle}
use Rattle.machine.specs.Listing.{Code, listing, ranged}
use Rattle.machine.specs.Operation.{store, element}
use Rattle.machine.specs.Faults.{sound_bench}
use Rattle.machine.specs.Sealing.{add_seal}
use Rattle.machine.specs.Step.{beside, carried_in, vector_step, step_with}
use Rattle.machine.specs.Alike.{Alike}
use Rattle.machine.specs.Theorems.{Given, after_all, started_bench}
use Rattle.machine.specs.WordTheorems.{Faultless, RightOpcode, EveryBit, IsOther, IsOurs, step_before}
use Rattle.theorem_refusals.specs.Given.{Legal, GivenExactly, FirstAmong, reads}
use Rattle.theorem_refusals.specs.Listed.{entries, Spot, IsThere, spot_at}
use Rattle.theorem_refusals.specs.Faults.{NotAtFault}
use Rattle.theorem_refusals.specs.Starts.{Startable, HasNinth, Addable}
use Rattle.theorem_refusals.specs.Images.{NoRoomFor}
use Rattle.unit_ranges.specs.Ranges.{seals_in}
use Rattle.unit_sealing.specs.Theorems.{RefusesOnly}
use Rattle.run.specs.declared.Plan.{Plan}
use Rattle.run.specs.declared.Handed.{Handed}
use Rattle.run.specs.declared.Place.{Place}
use Rattle.run.specs.declared.Place.TheVariants.{AtType, AtN, AtStore}
use Rattle.run.specs.declared.Run.{Run}
use Rattle.run.specs.Plan.{shape}
use Rattle.run.specs.Encoding.{own, word_list, word_of}
use Rattle.run.specs.Start.{start_run}
use Rattle.run.specs.Turn.{steps_in, ask, Running, running, turn, after_turns, answered_done, turns}
use Rattle.run.specs.Statement.{Numbers, Inside, Separate, job_of, started_run}
use Rattle.run.specs.Whole.{whole}
use Rattle.run.specs.Acts.{Act, Session, session, after_acts}
use Rattle.theorem_transposed.specs.Transposed.{Pair, after_store}
use Rattle.unit_slices.specs.MovedBack.{Slice, after_out, after_back}
use Rattle.theorem_exact.specs.Exact.{Is}
use Rattle.unit_table.specs.Table.{table_agrees, entry_of, rest_right, meant}
use Rattle.numbers_format.specs.Numbers.{encode, span}
use Rattle.numbers_format.specs.Formats.{Ends, Format, Accepts, Accepted}
use Rattle.numbers_format.specs.Parser.{Parsed}
use Rattle.image.specs.declared.ImageError.TheVariants.{BadArguments, Damaged}
use Rattle.image.specs.Answers.{image_reply, image_done}
use Rattle.image.specs.Cells.{Fit, runs, spread}
use Rattle.image.specs.Cells.Run.{run}
use Rattle.image.specs.Images.{image_of, sound_with, IsImage}
use Rattle.image.specs.ImageFormat.{Described, image_format}
use Rattle.image.specs.Writing.{size_reply, write_reply, size_image, write_image}
use Rattle.image.specs.Reading.{read_image}
use Rattle.image.specs.Theorems.{image_in}
use Rattle.image_salvage.specs.Salvage.{salvaged, salvage}
use Rattle.image_salvage.specs.Theorems.{end_of, KeepsFirst}
use Rattle.text_assembly.specs.Bytes.{bytes}
use Rattle.text_assembly.specs.Lines.{line}
use Rattle.text_assembly.specs.Reading.{read_line}
use Rattle.text_assembly.specs.Words.{word_text, read_word}
use Rattle.text_assembly.specs.Programs.{reply_to}
use Rattle.text_assembly.specs.Theorems.{Prints, has_line, IsLine, IsWord}
use Rattle.c_step.specs.BenchCalls.{started_out, host_start, stepped_out, host_step, sealed_out, host_seal}
use Rattle.c_run.specs.RunCalls.{run_started_out, host_run_start, next_out, host_next, host_run_steps}
use Rattle.c_turn.specs.TurnCalls.{turned_out, host_turn, host_turns, ran_out, host_run}
use Rattle.c_image.specs.ImageCalls.{host_image_size, written_out, host_image_write, read_out, host_image_read}
use Rattle.c_salvage.specs.SalvageCalls.{salvaged_out, host_salvage}
use Rattle.c_salvage.specs.Theorems.{reported}
use Rattle.c_text.specs.TextCalls.{text_out, host_word_text, word_left, host_text_word}
use Rattle.c_blocks.specs.Blocks.{machine_of, put_numbers, packed, values_of, put_values}
use Rattle.c_run_blocks.specs.RunBlocks.{run_of}
use Rattle.theorem_calls.specs.Calls.{Buffers, buffers, Call, called, calls}
use Rattle.theorem_calls.specs.Composed.{after_calls, turn_calls, zeros, bench_in, after_turn_calls}
use Rattle.theorem_powerup.specs.Steps.{AlikeBenches, SameOutcome, EachSame, outcomes, outcomes_given}
use Rattle.theorem_powerup.specs.Runs.{SameRunStart, SameTurns, SameTurn, SameWhole}
use Rattle.theorem_powerup.specs.PowerUp.{readings}
use Rattle.theorem_powerup_image.specs.ImagesStay.{images_after}
use Rattle.theorem_powerup_calls.specs.Calls.{SameCalled, EachSameCalled}
use Rattle.theorem_handover.specs.Handover.{written_into, image_from, EachSameImage}
use Rattle.demands.specs.Deeds.{Deed, deed, HostCall, host_called}
use Rattle.demands.specs.Demand2.{read_bench}
use Rattle.demands.specs.Demand3.{RunCallDelivers}
use Rattle.run.specs.Sheet as Sheet
use Rattle.unit_table.specs.Table as Table

-- ---- a machine and what it is lent

-- so many bytes, each one more than the one before it
unfoldable pub counting : ℕ → ℕ → List ℕ
counting zero b = []
counting (suc n) b = b ∷ counting n (b + 1)

-- 1,024 register bytes: of tr0 to tr7 four rows of 16 from 0 on, of acc0 and acc1 four rows of 64 from 512 and 768 on
unfoldable pub regs : List ℕ
regs = counting 256 0 ++ (counting 256 0 ++ (counting 256 0 ++ counting 256 0))

-- all of them are written; all but byte 216, of element (1, 4) of tr3, and byte 588, of element (1, 3) of acc0 at 32 bits; two runs, of three bytes
-- from 70 on and of two from 573 on
unfoldable pub all_marks : List ℕ
all_marks = replicate 1024 1

unfoldable pub nearly : List ℕ
nearly = set (set all_marks 216 0) 588 0

unfoldable pub spots : List ℕ
spots = replicate 70 0 ++ (replicate 3 1 ++ (replicate 500 0 ++ (replicate 2 1 ++ replicate 449 0)))

-- other bytes than regs where spots has no mark
unfoldable pub regs' : List ℕ
regs' = replicate 70 9 ++ (counting 3 70 ++ (replicate 500 9 ++ (counting 2 61 ++ replicate 449 9)))

-- 360 bytes of memory; three sealed ranges, in numbers as a start is given them, and as a machine holds them
unfoldable pub mem : List ℕ
mem = counting 200 0 ++ counting 160 0

abbrev pub seals : List ℕ
seals = 40 ∷ 8 ∷ 60 ∷ 4 ∷ 90 ∷ 2 ∷ []

abbrev pub sealed3 : List Range
sealed3 = range 40 8 ∷ range 60 4 ∷ range 90 2 ∷ []

-- nine of them, as a start is given them; and a machine's eight
abbrev pub nine : List ℕ
nine = seals ++ (seals ++ seals)

abbrev pub sealed8 : List Range
sealed8 = sealed3 ++ (sealed3 ++ (range 100 1 ∷ range 110 0 ∷ []))

-- RLEN 128, MLEN 512 and ELEN 64; SEW 16 with maccq; A is 3 by 2, B 2 by 5 and C 3 by 5
abbrev pub machine_by : (rule : ℕ) → Machine
machine_by rule = record { rlen = 128; mlen = 512; mtype = 9; tile_m = 3; tile_k = 2; tile_n = 5; rule = rule; elen = 64 }

abbrev pub bench : (registers marks : List ℕ) → Bench
bench registers marks = bench_of (machine_by 1) sealed3 registers marks mem

-- with every byte written, with eight ranges too, with all but two, and with two runs of them; this with other bytes where there is no mark
abbrev pub held : Bench
held = bench regs all_marks

abbrev pub full : Bench
full = bench_of (machine_by 1) sealed8 regs all_marks mem

abbrev pub holed : Bench
holed = bench regs nearly

abbrev pub spotted : Bench
spotted = bench regs spots

abbrev pub spotted' : Bench
spotted' = bench regs' spots

-- as a start leaves it, on the registers and marks of held, and on those of the last
abbrev pub fresh : Bench
fresh = started_bench 128 512 64 1 seals regs all_marks mem

abbrev pub fresh' : Bench
fresh' = started_bench 128 512 64 1 seals regs' spots mem

-- scalars 10 and 11; a vector file with groups of two
unfoldable pub xs : ℕ → ℕ → List ℕ
xs a b = replicate 10 0 ++ (a ∷ b ∷ replicate 20 0)

unfoldable pub file : List ℕ
file = counting 256 0 ++ counting 256 0

abbrev pub lent : Vectors
lent = vectors_of file 2

-- ---- a run

-- A, kept transposed, is five rows of five elements of 16 bits from 0 on, B five rows of ten from 50 on, C five rows of ten of 32 bits from c on; blocks
-- of 3 and 2 rows, 3 and 2 terms, 5 and 5 columns: 47 steps
abbrev pub plan_at : (c : ℕ) → Plan
plan_at c = record {
  kind = 1;
  sew = 16;
  factor = 2;
  m = 5;
  k = 5;
  n = 10;
  a = record { address = 0; stride = 10 };
  b = record { address = 50; stride = 20 };
  c = record { address = c; stride = 40 };
}

abbrev pub plan : Plan
plan = plan_at 150

-- of no row
abbrev pub no_rows : Plan
no_rows = record { kind = 1; sew = 16; factor = 2; m = 0; k = 5; n = 10; a = plan.a; b = plan.b; c = plan.c }

abbrev pub run_at : Place → Run
run_at p = record { plan = plan; rlen = 128; mlen = 512; rule = 1; elen = 64; place = p }

-- a run whose next step, the store of a block, reads what is not written
abbrev pub stuck : Running
stuck = running (run_at (AtStore 3 5)) holed

-- a choice of sizes that is not ours: halving, whatever the rule
abbrev pub halves : Choice
halves rule = chosen 1

-- ---- an image

-- version 4, the numbers, three ranges, two runs; 27 bytes
abbrev pub image : List ℕ
image = 4 ∷ 1 ∷ 6 ∷ 7 ∷ 9 ∷ 9 ∷ 3 ∷ 2 ∷ 5 ∷ 3 ∷ 40 ∷ 8 ∷ 60 ∷ 4 ∷ 90 ∷ 2 ∷ 2 ∷ 70 ∷ 3 ∷ 70 ∷ 71 ∷ 72 ∷ 244 ∷ 3 ∷ 2 ∷ 61 ∷ 62 ∷ []

-- cut in its second run, and in its second range; rooms to write to
abbrev pub cut : List ℕ
cut = take 26 image

abbrev pub cut_early : List ℕ
cut_early = take 12 image

abbrev pub room : ℕ → List ℕ
room n = replicate n 9

abbrev pub report : List ℕ
report = replicate 24 1

-- ---- a host's buffers

-- numbers of 64 bits, low byte first
unfoldable pub numbers : List ℕ → List ℕ
numbers [] = []
numbers (n ∷ ns) = n % 256 ∷ n / 256 ∷ (replicate 6 0 ++ numbers ns)

-- a machine's block, with this mtype and these sizes, and with these ranges behind the first
unfoldable pub block_of : (mtype tile_m tile_k tile_n : ℕ) → (ranges : List ℕ) → List ℕ
block_of mtype tile_m tile_k tile_n ranges = numbers (128 ∷ 512 ∷ mtype ∷ tile_m ∷ tile_k ∷ tile_n ∷ 40 ∷ 8 ∷ 1 ∷ 64 ∷ ranges)

unfoldable pub block : List ℕ
block = block_of 9 3 2 5 (3 ∷ 60 ∷ 4 ∷ 90 ∷ 2 ∷ replicate 10 0)

unfoldable pub scalar_block : List ℕ
scalar_block = numbers (xs 100 8)

-- the run above at a place: its kind, row, column and term
unfoldable pub run_block : (kind row column term : ℕ) → List ℕ
run_block kind row column term =
    numbers (16 ∷ 2 ∷ 5 ∷ 5 ∷ 10 ∷ 0 ∷ 10 ∷ 50 ∷ 20 ∷ 150 ∷ 40 ∷ 128 ∷ 512 ∷ kind ∷ row ∷ column ∷ term ∷ 1 ∷ 1 ∷ 64 ∷ [])

abbrev pub host_with : (registers marks R : List ℕ) → Buffers
host_with registers marks R = buffers block registers marks scalar_block mem R (replicate 24 0) (replicate 8 0) file

-- with every byte written; with two runs of them; with other bytes where there is no mark; with other registers; and at a run's step that is refused
abbrev pub host : Buffers
host = host_with regs all_marks (run_block 0 0 0 0)

abbrev pub spotted_host : Buffers
spotted_host = host_with regs spots (run_block 0 0 0 0)

abbrev pub spotted_host' : Buffers
spotted_host' = host_with regs' spots (run_block 0 0 0 0)

abbrev pub other_host : Buffers
other_host = host_with regs' all_marks (run_block 0 0 0 0)

abbrev pub stuck_host : Buffers
stuck_host = host_with regs nearly (run_block 8 3 5 0)

-- with a machine's block of 24 bytes, and with a scalars' block of as many
abbrev pub short_host : Buffers
short_host = buffers report regs all_marks scalar_block mem (run_block 0 0 0 0) (replicate 24 0) (replicate 8 0) file

abbrev pub scant_host : Buffers
scant_host = buffers block regs all_marks report mem (run_block 0 0 0 0) (replicate 24 0) (replicate 8 0) file

-- ---- words, acts and calls

-- msettypei x5, 9; msettilemi x6, 3; msettileki x6, 2; msettileni x0, 5
abbrev pub msettypei : ℕ
msettypei = 0x0004f2f7

abbrev pub msettilemi : ℕ
msettilemi = 0x2001f377

abbrev pub msettileki : ℕ
msettileki = 0x40017377

abbrev pub msettileni : ℕ
msettileni = 0x6002f077

-- mlbe16.m, mlbte16.m and msbte16.m tr3, (x10), x11; msce32.m acc1, (x10), x11
abbrev pub mlbe16 : ℕ
mlbe16 = 0x08b511f7

abbrev pub mlbte16 : ℕ
mlbte16 = 0x18b511f7

abbrev pub msbte16 : ℕ
msbte16 = 0x1ab511f7

abbrev pub msce32 : ℕ
msce32 = 0x02b520f7

-- mqma.mm acc1, tr2, tr3; mfwma.mm acc1, tr2, tr3, which is not ours; mmvcc.v.m v4, acc1, x10; mmvcc.m.v acc1, v4, x10
abbrev pub mqma : ℕ
mqma = 0x083160f7

abbrev pub mfwma : ℕ
mfwma = 0x063160f7

abbrev pub mmvcc_out : ℕ
mmvcc_out = 0x10a0d277

abbrev pub mmvcc_in : ℕ
mmvcc_in = 0x12a250f7

abbrev pub given : ℕ → List ℕ → Given
given word scalars = record { word = word; scalars = scalars; vectors = lent }

-- the type, the sizes and a load; a store into a sealed range, which is refused, and one beside it
abbrev pub words7 : List Given
words7 =
    given msettypei (xs 0 0) ∷ given msettilemi (xs 0 0) ∷ given msettileki (xs 0 0) ∷ given msettileni (xs 0 0) ∷ given mlbe16 (xs 0 20)
    ∷ given msbte16 (xs 30 8) ∷ given msbte16 (xs 100 8) ∷ []

abbrev pub session_on : Bench → Session
session_on B = session B (xs 100 8) lent (run_at AtType)

-- a range is added, and one is refused; a run is started and takes its turns; another memory is lent; a word; a run's step is asked for
abbrev pub acts7 : List Act
acts7 =
    Act.seal 355 3 ∷ Act.seal (2 ^ 64 - 3) 3 ∷ Act.run_start plan ∷ Act.run_turns 60 ∷ Act.lend (xs 30 8) lent (replicate 360 5) ∷ Act.step msbte16 ∷ Act.run_next ∷ []

abbrev pub calls7 : List Call
calls7 =
    Call.step msbte16 2 ∷ Call.seal 352 2 ∷ Call.seal (2 ^ 64 - 3) 3 ∷ Call.run_start plan ∷ Call.run_turns 60 ∷ Call.image_size ∷ Call.run_next ∷ []

-- ---- the cases of some requests

-- B of 2 by 5 elements of 16 bits in tr3, loaded from 0 and 20 on and stored transposed at 100, 108, 116, 124 and 132
abbrev pub pair : Pair
pair = record { matrix = MatrixB; w = 2; register = 3; load-base = 10; load-stride = 11; store-base = 10; store-stride = 11 }

-- columns 1 and 2 of acc1, to and from v4 and v5
abbrev pub columns : Slice
columns = record { form = Transposed; accumulator = 1; vector = 4; out_first = 10; back-first = 10 }

-- A is five rows of 3, -5, 2; B has the rows 3, 1 and -5, 2 and 2, 4; C is five rows of two; 17 steps
unfoldable pub float_mem : List ℕ
float_mem = rows_of5 (0 ∷ 0 ∷ 64 ∷ 64 ∷ 0 ∷ 0 ∷ 160 ∷ 192 ∷ 0 ∷ 0 ∷ 0 ∷ 64 ∷ [])
    ++ (0 ∷ 0 ∷ 64 ∷ 64 ∷ 0 ∷ 0 ∷ 128 ∷ 63 ∷ 0 ∷ 0 ∷ 160 ∷ 192 ∷ 0 ∷ 0 ∷ 0 ∷ 64 ∷ 0 ∷ 0 ∷ 0 ∷ 64 ∷ 0 ∷ 0 ∷ 128 ∷ 64 ∷ replicate 60 0)
  where
    rows_of5 : List ℕ → List ℕ
    rows_of5 r = r ++ (r ++ (r ++ (r ++ r)))

abbrev pub float_plan : Plan
float_plan = record {
  kind = 2;
  sew = 32;
  factor = 1;
  m = 5;
  k = 3;
  n = 2;
  a = record { address = 0; stride = 12 };
  b = record { address = 60; stride = 8 };
  c = record { address = 100; stride = 8 };
}

abbrev pub float_bench : Bench
float_bench = bench_of (machine_by 1) sealed3 regs all_marks float_mem

-- a format: a number from 2 to 300, and two bytes
abbrev pub number_and_bytes : Format (List ℕ)
number_and_bytes = Format.number (span 2 300) λ n. Format.bytes 2 λ b. Format.done (n ∷ b)

-- the line of mlbte16, and the same with a register that there isn't
abbrev pub text : List ℕ
text = bytes "mlbte16.m tr3, (x10), x11"

abbrev pub bad_text : List ℕ
bad_text = bytes "mlbte16.m tr9, (x10), x11"

-- ---- what is said of the run above, on a bench and over the C functions

-- a run of 47 steps: after 20 turns and after 60; entry (4, 9), the sum of five products, and byte 355 behind C
pub record RunIsRight (grant : Choice) (B : Bench) : Type 0 where
  pub accepted : (start_run grant plan B).answer.number ≡ 0
  pub only_then : Numbers plan B × Inside plan B.memory × Separate B.seals plan
  pub as_many : length (word_list (job_of grant plan B)) ≡ 47
  pub next-done : (turn grant (after_turns grant (started_run grant plan B) 20)).answer.number ≡ 0
  pub next-handed : (turn grant (after_turns grant (started_run grant plan B) 20)).handed ≡ some (word_of (job_of grant plan B) 20)
  pub past_end : (turn grant (after_turns grant (started_run grant plan B) 60)).answer.number ≡ 8
  pub past-left : (turn grant (after_turns grant (started_run grant plan B) 60)).after ≡ after_turns grant (started_run grant plan B) 60
  pub asked : (ask grant (after_turns grant (started_run grant plan B) 20).run).run ≡ (after_turns grant (started_run grant plan B) 21).run
  pub asked-past : (ask grant (after_turns grant (started_run grant plan B) 60).run).answer.number ≡ 8
  pub kept : get_or (after_turns grant (started_run grant plan B) 20).bench.memory 355 0 ≡ 155
  pub product : element (after_turns grant (started_run grant plan B) 60).bench.memory (row_at 150 40) 4 4 9 ≡ 0xedbfaae0
  pub count : answered_done grant (started_run grant plan B) 60 ≡ 47
  pub tells : steps_in grant (after_turns grant (started_run grant plan B) 60).run ≡ 47
  -- C upon A and a sealed range: nothing is handed out
  pub idle : after_turns grant (started_run grant (plan_at 30) B) 7 ≡ started_run grant (plan_at 30) B

-- and over the C functions
pub record CallsAreRight : Type 0 where
  pub holds : (after_turn_calls plan host 20).memory ≡ (after_turns chosen (started_run chosen plan (bench_in host)) 20).bench.memory
  pub next-done : (called Call.run_turn (after_turn_calls plan host 20)).result ≡ 0
  pub past_end : (called Call.run_turn (after_turn_calls plan host 60)).result ≡ 8
  pub past-left : (called Call.run_turn (after_turn_calls plan host 60)).after ≡ after_turn_calls plan host 60
  pub asked : (called Call.run_next (after_turn_calls plan host 20)).result ≡ 0
  pub asked-past : (called Call.run_next (after_turn_calls plan host 60)).result ≡ 8
  pub tells : host_run_steps (after_turn_calls plan host 60).run ≡ 47
  pub kept : get_or (after_turn_calls plan host 20).memory 355 0 ≡ 155
  pub product : element (after_turn_calls plan host 60).memory (row_at 150 40) 4 4 9 ≡ 0xedbfaae0

-- a start: C upon A and a sealed range gets 9 and leaves every buffer; where it lies free it gets 0, and no buffer but the run's changes; with a
-- machine's block of 24 bytes, and with a run's block of as many, nothing changes
pub record StartsAreRight : Type 0 where
  pub refused : (called (Call.run_start (plan_at 30)) host).after ≡ host
  pub memory : (called (Call.run_start plan) host).after.memory ≡ mem
  pub no-machine : (called (Call.run_start plan) short_host).after ≡ short_host
  pub no_run : called (Call.run_start plan) (host_with regs all_marks report) ≡ record { result = 8; after = host_with regs all_marks report }

-- 60 turns in number: as so many calls
pub record ManyAreRight : Type 0 where
  pub after : (called (Call.run_turns 60) host).after ≡ after_calls (turn_calls 60) host
  pub result : (called (Call.run_turns 60) host).result ≡ zeros (calls (turn_calls 60) host)

-- a whole run: what the start and 47 turns leave
pub record WholeIsRight : Type 0 where
  pub result : (called (Call.run plan) host).result ≡ (called (Call.run_start plan) host).result
  pub memory : (called (Call.run plan) host).after.memory ≡ (after_turn_calls plan host 47).memory

-- readings after each of seven acts, of two machines started on other registers and marks; and calls after a start or a read
abbrev pub ReadAlike : Type 0
ReadAlike = readings chosen acts7 (session_on fresh) ≡ readings chosen acts7 (session_on fresh')

abbrev pub CallsAlike : Call → Type 0
CallsAlike c = EachSameCalled (calls calls7 (called c host).after) (calls calls7 (called c spotted_host').after)

-- ---- the demands

pub record EveryCallAnswers : Type 0 where
  -- bodlarina_image_salvage of an image that is cut in its second range: 15
  pub answers : let o = host_called (HostCall.image_salvage cut_early (room 30) report) host in
      (o.result % 2 ^ 16 ≤ 17) × (o.after ≡ host) × (o.lent ≡ room 30 ∷ report ∷ [])
  -- three turns of a run whose next step is refused
  pub counts : let b = (called (Call.run_turns 3) stuck_host).after in
      ((called (Call.run_turns 3) stuck_host).result ≤ 3) × (b ≡ stuck_host) × ¬ ((called Call.run_turn b).result ≡ 0) × ((called Call.run_turn b).after ≡ b)

pub record Demand1 : Type 0 where
  -- an image is written into a room that is too short: 14. 60 turns of a run of 47 steps: the one after 46 is answered 0; what is left is what 47
  -- leave, and the next is refused
  pub deeds : let o = deed chosen (Deed.image_write (room 20)) (session_on spotted) in
      let r = started_run chosen plan held in
      (o.answer ≤ 17) × (o.after ≡ session_on spotted) × (o.room ≡ room 20) × (o.count ≡ 0)
      × ((turns chosen r 60).count ≤ 60)
      × ((turn chosen (after_turns chosen r 46)).answer.number ≡ 0)
      × ((turns chosen r 60).after ≡ after_turns chosen r 47)
      × ¬ ((turn chosen (turns chosen r 60).after).answer.number ≡ 0)
  pub in_c : EveryCallAnswers

pub record Demand2 : Type 0 where
  -- mqma.mm acc1, tr2, tr3 is answered 0 and does what it means; msbte16.m tr3, (x10), x11 into a sealed range gets 7 and changes nothing
  pub words : GivenExactly chosen mqma (xs 0 0) lent held (bare 0)
      × (step_with chosen mqma (xs 0 0) lent held ≡ beside file (carried_in lent (parameters chosen (machine_by 1)) (Multiply Quadruple 1 2 3) (xs 0 0) held))
      × (step_with chosen msbte16 (xs 30 8) lent held ≡ record { answer = bare 7; bench = held; scalars = xs 30 8; vectors = file })
  -- the next word of a run that is refused
  pub turns : (h : Handed) → (ask chosen stuck.run).handed ≡ some h → (turn chosen stuck).answer ≡ (step_with chosen h.word (own h) idle stuck.bench).answer
  -- mqma.mm by bodlarina_step; a machine's block of 24 bytes, and a scalars' block of as many
  pub words-in-c : let o = vector_step mqma (values_of host.scalars) (vectors_of host.file 1) (bench_in host) in
      ((called (Call.step mqma 1) host).result ≡ packed o.answer) × (bench_in (called (Call.step mqma 1) host).after ≡ o.bench)
      × (bench_in (called (Call.step mqma 1) short_host).after ≡ bench_in short_host) × (called (Call.step mqma 1) scant_host ≡ record { result = 8; after = scant_host })
  -- msbte16.m tr3, (x10), x11, five rows of two at 100, 108, 116, 124 and 132: byte 1 of element (4, 1), which is (1, 4) in tr3; byte 105, between two rows
  pub stores : let o = (step_with chosen msbte16 (xs 100 8) lent held).bench.memory in
      (get_or o 135 0 ≡ 217) × (get_or o 105 0 ≡ 105) × (length o ≡ 360)
  -- a machine that is not at fault, and one of rule 2
  pub faults : NotAtFault held × ¬ NotAtFault (bench_of (machine_by 2) sealed3 regs all_marks mem)
  -- a start with three ranges gets 0, one with nine 16, and one of RLEN 96 gets 8
  pub starts : Startable 128 512 64 1 seals regs all_marks × ((start_machine 128 512 64 1 seals regs all_marks).machine ≡ fresh_machine 128 512 64 1)
      × Startable 128 512 64 1 nine regs all_marks × HasNinth nine
      × ¬ Startable 96 512 64 1 seals regs all_marks × ((start_machine 96 512 64 1 seals regs all_marks).machine ≡ no_machine)
  -- a fourth range gets 0, a ninth 16, and one whose end exceeds 2^64 - 1 gets 8
  pub additions : Addable (range 355 3) held × ((add_seal 355 3 held).bench.seals ≡ sealed3 ++ (range 355 3 ∷ []))
      × Addable (range 355 3) full × ¬ Addable (range (2 ^ 64 - 3) 3) held
  -- an image of 27 bytes: in a room of 30, of 27, and of 26; and a machine of rule 2
  pub sizes : NotAtFault spotted × ((size_image (machine_by 1) sealed3 regs spots).size ≡ 27) × ((size_image (machine_by 2) sealed3 regs spots).size ≡ 0)
  pub writings : NotAtFault spotted × ((write_image (machine_by 1) sealed3 regs spots (room 30)).room ≡ image ++ room 3)
      × ¬ NoRoomFor (room 27) spotted × NoRoomFor (room 26) spotted
  -- the same of the C functions
  pub starts-in-c : (bench_in (called (Call.start 128 512 64 1 seals) host).after ≡ started_bench 128 512 64 1 seals host.registers host.marks host.memory)
      × HasNinth nine × ((called (Call.start 128 512 64 1 nine) host).after ≡ host)
  pub additions-in-c : (seals_in (called (Call.seal 355 3) host).after.machine ≡ sealed3 ++ (range 355 3 ∷ []))
      × ¬ Addable (range (2 ^ 64 - 3) 3) (bench_in host) × ¬ Addable (range 355 3) (bench_in short_host)
  pub sizes-in-c : NotAtFault (bench_in spotted_host) × (host_image_size block regs spots / 2 ^ 16 ≡ 27)
  pub writings-in-c : ((written_into (room 30) spotted_host).image ≡ image ++ room 3) × NoRoomFor (room 26) (bench_in spotted_host)
      × ((written_into (room 26) spotted_host).image ≡ room 26)
  -- seven acts or calls
  pub unwritten : ReadAlike
  pub unwritten-words : EachSame (outcomes chosen (mlbe16 ∷ msbte16 ∷ msettileki ∷ []) (xs 100 8) lent spotted) (outcomes chosen (mlbe16 ∷ msbte16 ∷ msettileki ∷ []) (xs 100 8) lent spotted')
  pub unwritten-in-c : CallsAlike (Call.start 128 512 64 1 seals)
  pub unwritten-readers-in-c : CallsAlike (Call.image_read image)
  -- of a machine that was started, and of one that was read
  pub sealed : (get_or (after_acts chosen acts7 (session_on fresh)).bench.memory 61 0 ≡ 5)
      × (get_or (after_acts chosen acts7 (session_on (read_bench image regs' all_marks mem))).bench.memory 61 0 ≡ 5)
  -- from a start, a read and a sealing on
  pub sealed-in-c : (get_or (after_calls calls7 (called (Call.start 128 512 64 1 seals) host).after).memory 61 0 ≡ 61)
      × (get_or (after_calls calls7 (called (Call.image_read image) other_host).after).memory 61 0 ≡ 61)
      × (get_or (after_calls calls7 (called (Call.seal 355 3) host).after).memory 356 0 ≡ 156)

pub record RunCallsAreRight : Type 0 where
  pub start : StartsAreRight
  pub turns : CallsAreRight
  pub many : ManyAreRight
  pub whole : WholeIsRight
  pub delivers : RunCallDelivers plan host (called (Call.run plan) host)

pub record Demand3 : Type 0 where
  pub runs : RunIsRight chosen held
  pub every-choice : RunIsRight halves (bench_of (machine_by 0) sealed3 regs all_marks mem)
  pub whole-runs : ((whole chosen plan held).count ≡ 47) × (element (whole chosen plan held).bench.memory (row_at 150 40) 4 4 9 ≡ 0xedbfaae0)
      × (get_or (whole chosen plan held).bench.memory 355 0 ≡ 155) × ((whole chosen (plan_at 30) held).bench ≡ held)
  pub in_c : RunCallsAreRight

-- ---- refusals

pub record Refusals : Type 0 where
  -- ELEN 48
  pub start : ((start_machine 128 512 48 1 seals regs all_marks).registers ≡ regs) × ((start_machine 128 512 48 1 seals regs all_marks).marks ≡ all_marks)
  -- msbte16.m of five rows, the second of which reaches into a sealed range: 7
  pub word : ((step_with chosen msbte16 (xs 30 8) lent held).bench ≡ held)
      × ((step_with chosen msbte16 (xs 30 8) lent held).scalars ≡ xs 30 8)
      × ((step_with chosen msbte16 (xs 30 8) lent held).vectors ≡ file)
  -- a range whose end exceeds 2^64 - 1: 8
  pub seal : (add_seal (2 ^ 64 - 3) 3 held).bench ≡ held
  -- C upon A and a sealed range: 9
  pub run-start : (start_run chosen (plan_at 30) held).bench ≡ held
  -- a run at row 3 and column 4, where no block starts: 8
  pub asking : ((ask chosen (run_at (AtN 3 4))).handed ≡ none) × ((ask chosen (run_at (AtN 3 4))).run ≡ run_at (AtN 3 4))
  -- the store of a block reads what is not written: 5
  pub turn : (turn chosen stuck).after ≡ stuck
  pub turns : (turns chosen stuck 3).after ≡ stuck
  pub whole_run : ((whole chosen (plan_at 30) held).count ≡ 0) × ((whole chosen (plan_at 30) held).bench ≡ held)
  -- a room that is too short: 14
  pub image-write : ((write_image (machine_by 1) sealed3 regs spots (room 20)).size ≡ 0) × ((write_image (machine_by 1) sealed3 regs spots (room 20)).room ≡ room 20)
  -- an image that is cut in its second run, and in its second range: 15
  pub image-read : ((read_image cut regs spots).registers ≡ regs) × ((read_image cut regs spots).marks ≡ spots)
  pub image-salvage : let o = salvage cut_early (room 30) in (o.kept ≡ 0) × (o.announced ≡ 0) × (o.size ≡ 0) × (o.room ≡ room 30)
  -- the same of the C functions, with what they return
  pub c-start : host_start 128 512 48 1 seals block regs all_marks ≡ started_out 8 block regs all_marks
  pub c-step : host_step msbte16 2 block regs nearly scalar_block mem file ≡ stepped_out (5 + 1 * 2 ^ 16 + 4 * 2 ^ 32) block regs nearly scalar_block mem file
  pub c-seal : host_seal (2 ^ 64 - 3) 3 block regs all_marks ≡ sealed_out 8 block regs all_marks
  pub c-run-start : host_run_start (plan_at 30) block regs all_marks mem (run_block 0 0 0 0) ≡ run_started_out 9 block regs all_marks mem (run_block 0 0 0 0)
  pub c-next : host_next (run_block 2 3 4 0) report ≡ next_out 8 (run_block 2 3 4 0) report
  pub c-turn : host_turn (run_block 8 3 5 0) block regs nearly mem ≡ turned_out (5 + 1 * 2 ^ 16 + 3 * 2 ^ 32) (run_block 8 3 5 0) block regs nearly mem
  pub c-turns : host_turns 3 (run_block 8 3 5 0) block regs nearly mem ≡ turned_out 0 (run_block 8 3 5 0) block regs nearly mem
  pub c-run : host_run (plan_at 30) block regs all_marks mem (replicate 8 1) ≡ ran_out 9 block regs all_marks mem (replicate 8 1)
  pub c-image-write : host_image_write block regs spots (room 20) ≡ written_out 14 (room 20)
  pub c-image-read : host_image_read cut block regs spots ≡ read_out (15 + 26 * 2 ^ 16) block regs spots
  pub c-image-salvage : host_salvage cut_early (room 30) report ≡ salvaged_out (15 + 12 * 2 ^ 16) (room 30) report
  pub c-word-text : host_word_text mlbte16 (replicate 20 0) ≡ text_out 14 (replicate 20 0)
  pub c-text-word : host_text_word bad_text (replicate 8 1) ≡ word_left (17 + 13 * 2 ^ 16) (replicate 8 1)

-- ---- words

pub record Words : Type 0 where
  -- msbte16.m tr3, (x10), x11 on a machine whose element (1, 4) of tr3 is not written: 5 with row 1 and column 4
  pub exact : Legal chosen msbte16 (xs 100 8) lent holed
      × FirstAmong nearly (reads (parameters chosen (machine_by 1)) (state_of (machine_by 1) regs nearly) (store Transposed MatrixB 3 2 100 8)) 1 4
  -- mfwma.mm acc1, tr2, tr3 is not ours: 11
  pub words : Faultless (xs 0 0) lent held × RightOpcode mfwma × IsOther mfwma × ¬ IsOurs mfwma
  -- mlbte16.m is No. 114 and no other
  pub no-code-twice : (k : ℕ) (c : Code) → 37 < k → k < length (entries listing) → EveryBit mlbte16 (get_or (entries listing) 37 c) → ¬ EveryBit mlbte16 (get_or (entries listing) k c)
  -- SEW 16 with maccq, and SEW 32 with it
  pub types : (new_type 64 9 ≡ 9) × (new_type 64 10 ≡ 2 ^ 63)
  -- byte 588 is byte 12 of row 1 of acc0, and of no other
  pub registers : let at = spot_at (parameters_of halving 128 512 64) in
      (at (Spot.in_accumulator 0 1 12) < 1024) × ((s : Spot) × IsThere 128 512 s × (at s ≡ 588)) × ((s : Spot) → IsThere 128 512 s → at s ≡ 588 → s ≡ Spot.in_accumulator 0 1 12)
  -- msce32.m acc1, (x10), x11, three rows of five at 150, 174 and 198: byte 1 of element (2, 3); byte 172, between two rows
  pub stores : let o = (step_with chosen msce32 (xs 150 24) lent held).bench.memory in
      (get_or o 211 0 ≡ 141) × (get_or o 172 0 ≡ 172) × (length o ≡ 360)
  -- mqma.mm acc1, tr2, tr3
  pub keeps-sound : sound_bench (step_with chosen mqma (xs 0 0) lent held).bench ≡ true
  pub seal-keeps-sound : sound_bench (add_seal 355 3 held).bench ≡ true
  pub start-sound : sound_bench fresh ≡ true
  -- seven words, acts or calls; byte 61 lies in the second range
  pub seal-words : get_or (after_all chosen words7 held).memory 61 0 ≡ 61
  pub seal-words-from-start : get_or (after_all chosen words7 fresh).memory 61 0 ≡ 61
  -- another memory, of bytes 5, is lent among the acts
  pub seal : get_or (after_acts chosen acts7 (session_on held)).bench.memory 61 0 ≡ 5
  pub seal-from-start : get_or (after_acts chosen acts7 (session_on fresh)).bench.memory 61 0 ≡ 5
  pub seal-from-read : get_or (after_all chosen words7 (read_bench image regs' all_marks mem)).memory 61 0 ≡ 61
  -- a start that is refused comes first
  pub c-seal : get_or (after_calls (Call.start 96 512 64 1 seals ∷ calls7) host).memory 61 0 ≡ 61
  pub c-seal-from-start : get_or (after_calls calls7 (called (Call.start 128 512 64 1 seals) host).after).memory 61 0 ≡ 61
  pub c-seal-from-read : get_or (after_calls calls7 (called (Call.image_read image) other_host).after).memory 61 0 ≡ 61
  -- byte 356 lies in the range that is added
  pub c-seal-from-seal : get_or (after_calls calls7 (called (Call.seal 355 3) host).after).memory 356 0 ≡ 156

-- ---- runs

pub record Runs : Type 0 where
  -- under a choice that is not ours, by which a machine of rule 0 halves too
  pub every-choice : RunIsRight halves (bench_of (machine_by 0) sealed3 regs all_marks mem)
  pub ours : RunIsRight chosen held
  pub smaller : ((shape (job_of chosen plan (bench_of (machine_by 0) sealed3 regs all_marks mem))).grant ≡ smaller) × RunIsRight chosen (bench_of (machine_by 0) sealed3 regs all_marks mem)
  pub halving : ((shape (job_of chosen plan held)).grant ≡ halving) × RunIsRight chosen held
  -- of rule 1, 10 out of at most 8: 5 and 5; 7, and 20
  pub rules : (10 ≤ 2 * chosen 1 8 10) × (chosen 1 8 10 ≤ 8) × (chosen 1 8 7 ≡ 7) × (chosen 1 8 20 ≡ 8)
  pub whole_run : let o = whole chosen plan held in
      (o.count ≡ 47) × (element o.bench.memory (row_at 150 40) 4 4 9 ≡ 0xedbfaae0) × (get_or o.bench.memory 355 0 ≡ 155) × ((whole chosen (plan_at 30) held).bench ≡ held)
  -- the line of 7 by 8 by 14 at SEW 16, and entry (1, 0); both are computed, and have no other case
  pub sheet : get_or (map (λ l. l.got) Sheet.sheet) 9 [] ≡ 91 ∷ 91 ∷ []
  pub example : Sheet.c 4 2 3 2 Sheet.entries 12 1 0 ≡ reduce (256 ^ 4) (negsuc 48)
  -- over the C functions
  pub c-start : StartsAreRight
  pub c-turns : CallsAreRight
  pub c-many : ManyAreRight
  pub c-run : WholeIsRight

-- ---- requests

pub record Requests : Type 1 where
  -- mfwma.mm, which got 1 and gets 11; mlbte16.m, which got 1
  pub one-nothing-else : let o = step_before chosen mfwma (xs 0 0) lent held in
      (1 ≡ o.answer.number) × ((step_with chosen mfwma (xs 0 0) lent held).bench ≡ o.bench)
  pub one-added : (step_before chosen mlbte16 (xs 100 8) lent held).answer.number ≡ 1
  -- element (4, 1) of what is stored is element (1, 4) of what was loaded, the bytes 28 and 29; byte 105, between two rows, and byte 500 of the registers
  -- stay
  pub two : let o = (after_store chosen pair (given mlbe16 (xs 0 20)) (given msbte16 (xs 100 8)) spotted).bench in
      (element o.memory (row_at 100 8) 2 4 1 ≡ 28 + 29 * 256) × (length o.memory ≡ 360) × (get_or o.memory 105 0 ≡ 105) × (get_or o.registers 500 0 ≡ 244) × (o.machine ≡ machine_by 1)
  -- entry (3, 1) is 3 x 1 - 5 x 2 + 2 x 4: the bits of 1
  pub four : element (after_turns chosen (started_run chosen float_plan float_bench) 20).bench.memory (row_at 100 8) 4 3 1 ≡ 0x3F800000
  pub four-whole-run : element (whole chosen float_plan float_bench).bench.memory (row_at 100 8) 4 3 1 ≡ 0x3F800000
  -- its second term
  pub four-example : Is (value_of 0xC0A00000) (negsuc 4)
  -- all 1,024 entries, which is its one case
  pub five : table_agrees 0 Table.numbers ≡ true
  pub five-decodes : cond (rest_right (entry_of mlbte16) mlbte16) (ranged (meant (entry_of mlbte16) mlbte16 listing)) (Illegal Unlisted) ≡ Load Transposed MatrixB 2 3 10 11
  -- 300, of two groups, with two bytes behind it; the other number and its rest are any
  pub six-numbers : (n : ℕ) (u : List ℕ) → encode 300 ++ (1 ∷ 2 ∷ []) ≡ encode n ++ u → (300 ≡ n) × (1 ∷ 2 ∷ [] ≡ u)
  -- of the image that is cut in its second run; the other place is any
  pub six-one-place : (q : ℕ) → Ends IsImage cut q → 26 ≡ q
  pub six-parser : Accepts number_and_bytes (172 ∷ 2 ∷ 9 ∷ 8 ∷ []) (300 ∷ 9 ∷ 8 ∷ [])
  -- six bytes with two runs
  pub six-runs : let rs = run 1 (7 ∷ 8 ∷ []) ∷ run 2 (9 ∷ []) ∷ [] in (spread 6 rs ≡ none ∷ some 7 ∷ some 8 ∷ none ∷ none ∷ some 9 ∷ []) × Fit 0 6 rs
  pub six-format : Accepted image_format image × (Accepted image_format cut → IsImage cut)
  -- two machines that differ in unmarked bytes
  pub six-same : image_in spotted ≡ image_in spotted'
  pub six-others : Alike spotted spotted'
  -- read into registers that hold other bytes; into registers that are too short
  pub six-read : ((read_image image regs' all_marks).answer ≡ image_done) × ((read_image image (replicate 9 0) all_marks).answer ≡ image_reply BadArguments)
  pub six-made : let o = read_image image regs' all_marks in
      (sound_with o.machine o.seals o.registers o.marks ≡ true) × (image_of o.machine o.seals o.registers o.marks ≡ image) × (get_or o.registers 100 0 ≡ 9)
  -- written into a room that is longer, then read into other registers
  pub six-back : let w = write_image (machine_by 1) sealed3 regs spots (room 30) in
      let o = read_image (take w.size w.room) regs' all_marks in (o.answer ≡ image_done) × Alike spotted (bench_of o.machine o.seals o.registers o.marks mem)
  pub six-again : let o = read_image image regs' all_marks in write_image o.machine o.seals o.registers o.marks (room 30) ≡ write_reply (Ok 27) (image ++ room 3)
  pub six-c-made : let b = (called (Call.image_read image) other_host).after in
      (sound_bench (bench_in b) ≡ true) × (image_in (bench_in b) ≡ image) × (get_or b.registers 100 0 ≡ 9) × (b.memory ≡ mem)
  pub six-c-back : let o = called (Call.image_read (image_from (written_into (room 30) spotted_host))) other_host in
      (o.result ≡ 0) × Alike (bench_in spotted_host) (bench_in o.after)
  pub six-c-again : written_into (room 30) (called (Call.image_read image) other_host).after ≡ written_out (27 * 2 ^ 16) (image ++ room 3)
  -- two machines started alike on other registers and marks; two that differ in unmarked bytes; seven words, acts or calls
  pub nine : ReadAlike
  pub nine-starts : AlikeBenches fresh fresh'
  pub nine-step : SameOutcome (step_with chosen mlbe16 (xs 0 20) lent spotted) (step_with chosen mlbe16 (xs 0 20) lent spotted')
  pub nine_words : EachSame (outcomes chosen (mlbe16 ∷ msbte16 ∷ msettileki ∷ []) (xs 100 8) lent spotted) (outcomes chosen (mlbe16 ∷ msbte16 ∷ msettileki ∷ []) (xs 100 8) lent spotted')
  pub nine-given : EachSame (outcomes_given chosen words7 spotted) (outcomes_given chosen words7 spotted')
  pub nine-run-start : SameRunStart (start_run chosen plan spotted) (start_run chosen plan spotted')
  -- a run of 47 steps, after 20 turns
  pub nine-turns : let r = started_run chosen plan spotted in
      let r' = started_run chosen plan spotted' in
      SameTurns (turns chosen r 20) (turns chosen r' 20) × SameTurn (turn chosen (after_turns chosen r 20)) (turn chosen (after_turns chosen r' 20))
  pub nine-whole-run : SameWhole (whole chosen plan spotted) (whole chosen plan spotted')
  pub nine-images : (image_in spotted ≡ image_in spotted')
      × (images_after (outcomes chosen (mlbe16 ∷ msbte16 ∷ msettileki ∷ []) (xs 100 8) lent spotted) ≡ images_after (outcomes chosen (mlbe16 ∷ msbte16 ∷ msettileki ∷ []) (xs 100 8) lent spotted'))
  pub nine-images-given : (image_in spotted ≡ image_in spotted')
      × (images_after (outcomes_given chosen words7 spotted) ≡ images_after (outcomes_given chosen words7 spotted'))
  pub nine-c : CallsAlike (Call.start 128 512 64 1 seals)
  pub nine-c-readers : CallsAlike (Call.image_read image)
  pub nine-c-call : SameCalled (called (Call.run_turns 60) spotted_host) (called (Call.run_turns 60) spotted_host')
  pub nine-c-calls : EachSameCalled (calls calls7 spotted_host) (calls calls7 spotted_host')
  pub nine-c-image-write : host_image_write block regs spots (room 30) ≡ host_image_write block regs' spots (room 30)
  pub nine-c-images : EachSameImage (calls calls7 spotted_host) (calls calls7 spotted_host')
  -- mmvcc.v.m v4, acc1, x10, then mmvcc.m.v acc1, v4, x10
  pub eleven : ((after_back chosen columns (given mmvcc_out (xs 1 0)) mmvcc_in (xs 1 0) held).bench ≡ held)
      × ((after_back chosen columns (given mmvcc_out (xs 1 0)) mmvcc_in (xs 1 0) held).vectors ≡ (after_out chosen columns (given mmvcc_out (xs 1 0)) mmvcc_in (xs 1 0) held).vectors)
  pub eleven-file : length (step_with chosen mmvcc_out (xs 1 0) lent held).vectors ≡ 512
  -- the range that is accepted comes behind the three, the one that is refused does not
  pub twelve : (after_acts chosen acts7 (session_on held)).bench.seals ≡ sealed3 ++ (range 355 3 ∷ [])
  -- a range in C's last row, added to a run of 47 steps: after 40 turns
  pub twelve-run : let r = started_run chosen plan held in
      let B = (add_seal 340 5 r.bench).bench in RefusesOnly chosen B.seals r (running r.run B) 40
  pub twelve-c-seal : ((called (Call.seal 355 3) host).result ≡ 0) × (seals_in (called (Call.seal 355 3) host).after.machine ≡ sealed3 ++ (range 355 3 ∷ []))
  pub twelve-c-start : seals_in (called (Call.start 128 512 64 1 seals) host).after.machine ≡ sealed3
  pub twelve-c-read : seals_in (called (Call.image_read image) other_host).after.machine ≡ sealed3
  -- a start and a read that are refused come first
  pub twelve-c-calls : seals_in (after_calls (Call.start 96 512 64 1 seals ∷ Call.image_read cut ∷ calls7) host).machine ≡ sealed3 ++ (range 352 2 ∷ [])
  -- cut in its second run: one run of two is kept; whatever image d goes on from there
  pub thirteen : (u : List ℕ) (d : Described) → Accepts image_format (cut ++ u) d
      → ((26 < end_of d 0) × (salvage cut (room 30) ≡ salvaged (image_reply (Damaged 26)) 0 0 26 0 (room 30))) ⊎ ((n : ℕ) × KeepsFirst cut (room 30) 26 d n)
  pub thirteen-place : Ends IsImage cut 26
  pub thirteen-image : IsImage (take 16 image ++ (1 ∷ 70 ∷ 3 ∷ 70 ∷ 71 ∷ 72 ∷ [])) × (drop 22 (salvage cut (room 30)).room ≡ room 8)
  pub thirteen-room : ¬ ((salvage cut (room 26)).answer.number ≡ 14)
  pub thirteen-sound : salvage image (room 30) ≡ salvaged image_done 2 2 27 27 (image ++ room 3)
  -- byte 71 lies in the run that is kept
  pub thirteen-cut : let o = salvage (take 26 (image_in spotted)) (room 30) in
      let r = read_image (take o.size o.room) regs' all_marks in (r.machine ≡ machine_by 1) × (r.seals ≡ sealed3) × (get_or r.registers 71 0 ≡ 71)
  pub thirteen-cut-place : (salvage (take 26 (image_in spotted)) (room 30)).place ≡ 26
  -- mlbte16.m tr3, (x10), x11 has a line, mfwma.mm has none
  pub fourteen : (has_line (line mlbte16) ≡ true) × (has_line (line mfwma) ≡ false)
  pub fourteen-accepted : has_line (line msbte16) ≡ true
  pub fourteen-only : (ys : List ℕ) × (W : Vectors) × (B : Bench) × ((vector_step mlbte16 ys W B).answer.number ≡ 0)
  pub fourteen-codes : (step_with chosen mfwma (xs 0 0) lent held).answer.number ≡ 11
  pub fourteen-back : read_line text ≡ Parsed.whole mlbte16
  pub fourteen-read : Ends IsLine bad_text 12 × ¬ IsLine bad_text
  pub fourteen-one : (other : ℕ) → Prints other text → mlbte16 ≡ other
  pub fourteen-short : length text ≤ 32
  pub fourteen-digits : Ends IsWord (bytes "18b511F7") 6 × ¬ IsWord (bytes "18b511F7")
  pub fourteen-digits-back : read_word (word_text mlbte16) ≡ Parsed.whole mlbte16
  pub fourteen-both : reply_to true (reply_to false (word_text mlbte16)) ≡ word_text mlbte16

-- ---- nothing of an answer is cut

pub record Results : Type 0 where
  -- msbte16.m tr3, (x10), x11 reads element (1, 4), which is not written
  pub c-step-whole : let r = (host_step msbte16 2 block regs nearly scalar_block mem file).result in (r % 2 ^ 16 ≡ 5) × (r / 2 ^ 16 % 2 ^ 16 ≡ 1) × (r / 2 ^ 32 ≡ 4)
  -- the store of a run's block at row 3 and column 5 reads element (1, 3) of acc0, which is not written
  pub c-turn-whole : let r = (host_turn (run_block 8 3 5 0) block regs nearly mem).result in (r % 2 ^ 16 ≡ 5) × (r / 2 ^ 16 % 2 ^ 16 ≡ 1) × (r / 2 ^ 32 ≡ 3)
  -- the image of two runs: 27 bytes
  pub c-image-size-whole : let r = host_image_size block regs spots in (r % 2 ^ 16 ≡ 0) × (r / 2 ^ 16 ≡ 27)
  pub c-image-write-whole : let r = (host_image_write block regs spots (room 30)).result in (r % 2 ^ 16 ≡ 0) × (r / 2 ^ 16 ≡ 27)
  -- cut in its second run
  pub c-image-read-whole : let r = (host_image_read cut block regs spots).result in (r % 2 ^ 16 ≡ 15) × (r / 2 ^ 16 ≡ 26)
  pub c-image-salvage-whole : let r = (host_salvage cut (room 30) report).result in (r % 2 ^ 16 ≡ 0) × (r / 2 ^ 16 ≡ 22)
  pub c-image-salvage-report : let r = (host_salvage cut (room 30) report).report in (reported r 0 ≡ 1) × (reported r 1 ≡ 2) × (reported r 2 ≡ 26)
  -- a line of 25 bytes, and one whose column 13 is no register's
  pub c-word-text-whole : let r = (host_word_text mlbte16 (replicate 32 0)).result in (r % 2 ^ 16 ≡ 0) × (r / 2 ^ 16 ≡ 25)
  pub c-text-word-whole : let r = (host_text_word bad_text (replicate 8 1)).result in (r % 2 ^ 16 ≡ 17) × (r / 2 ^ 16 ≡ 13)

-- ---- computed: definitions that contracts cite and that have arguments of one type, where no example of their own crates tells two of them apart

pub record Computed : Type 0 where
  -- registers and marks of a start
  pub started : ((start_machine 128 512 64 1 seals regs all_marks).registers ≡ regs) × ((start_machine 128 512 64 1 seals regs all_marks).marks ≡ replicate 1024 0)
  -- registers, marks and room of an image that is sized, and written
  pub sized-is : size_image (machine_by 1) sealed3 regs spots ≡ size_reply (Ok 27)
  pub written_is : write_image (machine_by 1) sealed3 regs spots (room 30) ≡ write_reply (Ok 27) (image ++ room 3)
  -- image, registers and marks of one that is read: bytes 69 to 73, of which three are in the image, and the marks
  pub read_is : (take 5 (drop 69 (read_image image regs' all_marks).registers) ≡ 9 ∷ 70 ∷ 71 ∷ 72 ∷ 9 ∷ []) × ((read_image image regs' all_marks).marks ≡ spots)
  -- of the C functions each buffer, and each number; blocks that are written whole held 9 before
  pub host-start : host_start 128 512 64 1 seals (room 200) regs all_marks ≡ started_out 0 (block_of 0 0 0 0 (3 ∷ 60 ∷ 4 ∷ 90 ∷ 2 ∷ replicate 10 0)) regs (replicate 1024 0)
  -- msbte16.m tr3, (x10), x11: element (1, 4); mmvcc.v.m v4, acc1, x10: columns 1 and 2 of three rows, to v4 and v5
  pub host-step : let o = host_step msbte16 2 block regs all_marks scalar_block mem file in
      (o.result ≡ 0) × (o.machine ≡ block) × (o.registers ≡ regs) × (o.marks ≡ all_marks) × (o.scalars ≡ scalar_block) × (get_or o.memory 135 0 ≡ 217) × (o.file ≡ file)
  pub host-move : let o = host_step mmvcc_out 2 block regs all_marks (numbers (xs 1 0)) mem file in
      (o.memory ≡ mem) × (take 6 (drop 64 o.file) ≡ 2 ∷ 3 ∷ 66 ∷ 67 ∷ 130 ∷ 131 ∷ []) × (take 6 (drop 80 o.file) ≡ 4 ∷ 5 ∷ 68 ∷ 69 ∷ 132 ∷ 133 ∷ [])
  pub host-seal : host_seal 355 3 block regs all_marks ≡ sealed_out 0 (block_of 9 3 2 5 (4 ∷ 60 ∷ 4 ∷ 90 ∷ 2 ∷ 355 ∷ 3 ∷ replicate 8 0)) regs all_marks
  pub host-run-start : host_run_start plan block regs all_marks mem (run_block 8 3 5 0) ≡ run_started_out 0 block regs all_marks mem (run_block 0 0 0 0)
  -- the store of the last block: msce32.m acc0, (x10), x11 with 290 and 40
  pub host-next : host_next (run_block 8 3 5 0) report ≡ next_out 0 (run_block 9 0 0 0) (119 ∷ 32 ∷ 181 ∷ 2 ∷ 0 ∷ 0 ∷ 0 ∷ 0 ∷ numbers (290 ∷ 40 ∷ []))
  -- SEW 16 is set
  pub host-turn : host_turn (run_block 0 0 0 0) block regs nearly mem ≡ turned_out 0 (run_block 1 0 0 0) (block_of 1 3 2 5 (3 ∷ 60 ∷ 4 ∷ 90 ∷ 2 ∷ replicate 10 0)) regs nearly mem
  pub host-turns : host_turns 1 (run_block 0 0 0 0) block regs nearly mem ≡ turned_out 1 (run_block 1 0 0 0) (block_of 1 3 2 5 (3 ∷ 60 ∷ 4 ∷ 90 ∷ 2 ∷ replicate 10 0)) regs nearly mem
  -- with no row: a run of that one step
  pub host-run : host_run no_rows block regs nearly mem (room 8) ≡ ran_out 0 (block_of 1 3 2 5 (3 ∷ 60 ∷ 4 ∷ 90 ∷ 2 ∷ replicate 10 0)) regs nearly mem (numbers (1 ∷ []))
  pub host-image-size : host_image_size block regs spots ≡ 27 * 2 ^ 16
  pub host-image-write : host_image_write block regs spots (room 30) ≡ written_out (27 * 2 ^ 16) (image ++ room 3)
  pub host-image-read : host_image_read image (room 200) (room 1024) all_marks ≡ read_out 0 block regs' spots
  pub host-salvage : host_salvage cut (room 30) report ≡ salvaged_out (22 * 2 ^ 16) (take 16 image ++ (1 ∷ 70 ∷ 3 ∷ 70 ∷ 71 ∷ 72 ∷ room 8)) (numbers (1 ∷ 2 ∷ 26 ∷ []))
  pub host-word-text : host_word_text mlbte16 (room 32) ≡ text_out (25 * 2 ^ 16) (text ++ room 7)
  pub host-text-word : host_text_word text (room 8) ≡ word_left 0 (247 ∷ 17 ∷ 181 ∷ 24 ∷ 0 ∷ 0 ∷ 0 ∷ 0 ∷ [])
  -- numbers in blocks
  pub machine-read : machine_of block ≡ machine_by 1
  pub scalars-read : values_of (numbers (xs 5 6)) ≡ xs 5 6
  pub scalars-put : put_values (xs 5 6) (room 256) ≡ numbers (xs 5 6)
  pub numbers-put : put_numbers (1 ∷ 2 ∷ []) (room 17) ≡ numbers (1 ∷ 2 ∷ []) ++ (9 ∷ [])
  pub run-read : run_of (run_block 8 3 5 0) ≡ run_at (AtStore 3 5)
  pub packed-is : packed (record { number = 5; row = 1; column = 4 }) ≡ 5 + 1 * 2 ^ 16 + 4 * 2 ^ 32

pub record Instances : Type 1 where
  pub demand-1 : Demand1
  pub demand-2 : Demand2
  pub demand-3 : Demand3
  pub requests : Requests
  pub results : Results
  pub refusals : Refusals
  pub words : Words
  pub runs : Runs
  pub computed : Computed
