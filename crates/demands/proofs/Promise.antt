-- The promise is kept.
use Rattle.machine.proofs.Refused.{step-refusal-changes-nothing, start-refusal-changes-nothing, seal-refusal-changes-nothing}
use Rattle.machine.proofs.NoFault.{step-keeps-sound, step-keeps-file, seal-keeps-sound, start-sound}
use Rattle.machine.proofs.Stores.{stores-are-exact}
use Rattle.machine.proofs.SizeLaws.{chosen-grants}
use Rattle.machine.proofs.Sealing.{seal-holds, seal-holds-from-start}
use Rattle.machine.proofs.WordRefusals.{word-refusals, nothing-else-moved, added-got-one}
use Rattle.run.proofs.Demand1.{run-start-changes-nothing, ask-refusal-changes-nothing, turn-refusal-changes-nothing, no-turn-changes-nothing, whole-refusal-changes-nothing}
use Rattle.run.proofs.Demand2.{seal-holds-over-acts, seal-holds-over-acts-from-start}
use Rattle.run.proofs.Demand3.{demand-3, demand-3-ours, demand-3-smaller, demand-3-halving}
use Rattle.run.proofs.Whole.{whole-delivers}
use Rattle.run.proofs.Sheet.{bench-sheet, product-example}
use Rattle.c_step.proofs.Refusal as bench
use Rattle.c_step.proofs.Packing.{packs-whole}
use Rattle.c_run.proofs.Refusal as run
use Rattle.c_turn.proofs.Refusal as turn
use Rattle.c_image.proofs.Refusal as image
use Rattle.c_image.proofs.Packing.{image-size-packs-whole, image-write-packs-whole, image-read-packs-whole}
use Rattle.c_salvage.proofs.Refusal.{salvage-call-refusal}
use Rattle.c_salvage.proofs.Packing.{salvage-packs-whole}
use Rattle.c_salvage.proofs.Report.{report-is-read-back}
use Rattle.c_text.proofs.Refusal as text
use Rattle.c_text.proofs.Packing.{word-text-packs, text-word-packs}
use Rattle.theorem_calls.proofs.Seal.{seal-holds-over-calls, seal-holds-from-start-call, seal-holds-from-read-call, start-call-holds, read-call-holds}
use Rattle.theorem_calls.proofs.Ranges.{seal-holds-from-seal-call, seal-call-seals, ranges-are-exact-over-calls}
use Rattle.theorem_calls.proofs.Runs.{start-calls-are-right, turn-calls-are-right, run-is-turn-calls}
use Rattle.theorem_calls.proofs.Turns.{turns-are-turn-calls}
use Rattle.unit_sealing.proofs.AddedRange.{ranges-are-exact, added-range-refuses-only}
use Rattle.theorem_transposed.proofs.Transposed.{load-then-store-transposes}
use Rattle.unit_slices.proofs.MovedBack.{out-and-back-restores}
use Rattle.theorem_exact.proofs.Exact.{float-runs-are-exact, whole-runs-are-exact}
use Rattle.theorem_exact.proofs.Examples.{two-terms}
use Rattle.unit_table.proofs.TableLaws.{table-agrees, table-decodes}
use Rattle.numbers_format.proofs.NumberLaws.{encode-apart}
use Rattle.numbers_format.proofs.FormatLaws.{ends-one, parser-is-right}
use Rattle.image.proofs.RunLaws.{runs-are-maximal}
use Rattle.image.proofs.Images.{alike-one-image, others-never, format-is-images, read-is-exact, read-refusal, write-refusal, read-makes, seal-holds-from-read, written-is-read-back, read-is-written-back}
use Rattle.image_salvage.proofs.Keeps.{place-as-in-six, salvage-is-exact, fresh-is-image, sound-unchanged, salvage-refusal}
use Rattle.image_salvage.proofs.Room.{enough-room}
use Rattle.image_salvage.proofs.Cut.{cut-keeps-bytes, cut-place}
use Rattle.text_assembly.proofs.LegalLaws.{legal-have-lines}
use Rattle.text_assembly.proofs.AnswerLaws.{accepted-have-lines, codes-answered, lines-go-back}
use Rattle.text_assembly.proofs.AcceptedLaws.{lines-are-accepted}
use Rattle.text_assembly.proofs.LineLaws.{reads-right, reads-back, one_word}
use Rattle.text_assembly.proofs.SizeLaws.{line-size}
use Rattle.text_assembly.proofs.HexLaws.{words_right, words-read-back}
use Rattle.theorem_powerup.proofs.Steps.{step-ignores-unmarked, words-ignore-unmarked, given-words-ignore-unmarked}
use Rattle.theorem_powerup.proofs.Runs.{run-start-ignores-unmarked, turns-ignore-unmarked, whole-ignores-unmarked}
use Rattle.theorem_powerup.proofs.PowerUp.{starts-alike, power-up-never-matters}
use Rattle.theorem_powerup_image.proofs.ImagesStay.{images-stay-equal, images-stay-equal-given}
use Rattle.theorem_powerup_calls.proofs.Calls.{call-ignores-unmarked, calls-ignore-unmarked, image-write-ignores-unmarked, power-up-never-matters-to-hosts, power-up-never-matters-to-readers}
use Rattle.theorem_refusals.proofs.Exact.{step-answers-exactly}
use Rattle.theorem_refusals.proofs.FaultLaws.{faults-are-these}
use Rattle.theorem_refusals.proofs.Answers.{start-answers-exactly, add-answers-exactly, size-answers-exactly, write-answers-exactly}
use Rattle.theorem_refusals.proofs.Listed.{no-code-twice, types-are-these, registers-fill}
use Rattle.theorem_handover.proofs.Handover.{read-call-makes, written-call-is-read-back, read-call-is-written-back, images-stay-equal-over-calls, turn-packs-whole}
use Rattle.demands.proofs.Answered.{every-deed-answers}
use Rattle.demands.proofs.Delivered.{run-calls-deliver}
use Rattle.demands.proofs.HostAnswered.{every-call-answers}
use Rattle.demands.proofs.InC.{step-call-steps, start-call-answers, seal-call-answers, size-call-answers, write-call-answers}
use Rattle.demands.proofs.Meant.{step-is-its-meaning, turn-is-its-step}
use Rattle.demands.proofs.Sealed.{sealed-bytes-stay, sealed-bytes-stay-in-c}
use Rattle.demands.specs.Promise.{Promise}

pub promise : Promise
promise = record {
  demand-1 = record { deeds = every-deed-answers; in_c = every-call-answers };
  demand-2 = record {
    words = step-is-its-meaning;
    turns = turn-is-its-step;
    words-in-c = step-call-steps;
    stores = stores-are-exact;
    faults = faults-are-these;
    starts = start-answers-exactly;
    additions = add-answers-exactly;
    sizes = size-answers-exactly;
    writings = write-answers-exactly;
    starts-in-c = start-call-answers;
    additions-in-c = seal-call-answers;
    sizes-in-c = size-call-answers;
    writings-in-c = write-call-answers;
    unwritten = power-up-never-matters;
    unwritten-words = words-ignore-unmarked;
    unwritten-in-c = power-up-never-matters-to-hosts;
    unwritten-readers-in-c = power-up-never-matters-to-readers;
    sealed = sealed-bytes-stay;
    sealed-in-c = sealed-bytes-stay-in-c;
  };
  demand-3 = record {
    runs = demand-3-ours;
    every-choice = demand-3;
    whole-runs = whole-delivers;
    in_c = record { start = start-calls-are-right; turns = turn-calls-are-right; many = turns-are-turn-calls; whole = run-is-turn-calls; delivers = run-calls-deliver };
  };
  requests = record {
    one-nothing-else = nothing-else-moved;
    one-added = added-got-one;
    two = load-then-store-transposes;
    four = float-runs-are-exact;
    four-whole-run = whole-runs-are-exact;
    four-example = two-terms;
    five = table-agrees;
    five-decodes = table-decodes;
    six-numbers = encode-apart;
    six-one-place = ends-one;
    six-parser = parser-is-right;
    six-runs = runs-are-maximal;
    six-format = format-is-images;
    six-same = alike-one-image;
    six-others = others-never;
    six-read = read-is-exact;
    six-made = read-makes;
    six-back = written-is-read-back;
    six-again = read-is-written-back;
    six-c-made = read-call-makes;
    six-c-back = written-call-is-read-back;
    six-c-again = read-call-is-written-back;
    nine = power-up-never-matters;
    nine-starts = starts-alike;
    nine-step = step-ignores-unmarked;
    nine_words = words-ignore-unmarked;
    nine-given = given-words-ignore-unmarked;
    nine-run-start = run-start-ignores-unmarked;
    nine-turns = turns-ignore-unmarked;
    nine-whole-run = whole-ignores-unmarked;
    nine-images = images-stay-equal;
    nine-images-given = images-stay-equal-given;
    nine-c = power-up-never-matters-to-hosts;
    nine-c-readers = power-up-never-matters-to-readers;
    nine-c-call = call-ignores-unmarked;
    nine-c-calls = calls-ignore-unmarked;
    nine-c-image-write = image-write-ignores-unmarked;
    nine-c-images = images-stay-equal-over-calls;
    eleven = out-and-back-restores;
    eleven-file = step-keeps-file;
    twelve = ranges-are-exact;
    twelve-run = added-range-refuses-only;
    twelve-c-seal = seal-call-seals;
    twelve-c-start = start-call-holds;
    twelve-c-read = read-call-holds;
    twelve-c-calls = ranges-are-exact-over-calls;
    thirteen = salvage-is-exact;
    thirteen-place = place-as-in-six;
    thirteen-image = fresh-is-image;
    thirteen-room = enough-room;
    thirteen-sound = sound-unchanged;
    thirteen-cut = cut-keeps-bytes;
    thirteen-cut-place = cut-place;
    fourteen = legal-have-lines;
    fourteen-accepted = accepted-have-lines;
    fourteen-only = lines-are-accepted;
    fourteen-codes = codes-answered;
    fourteen-back = reads-back;
    fourteen-read = reads-right;
    fourteen-one = one_word;
    fourteen-short = line-size;
    fourteen-digits = words_right;
    fourteen-digits-back = words-read-back;
    fourteen-both = lines-go-back;
  };
  results = record {
    c-step-whole = packs-whole;
    c-turn-whole = turn-packs-whole;
    c-image-size-whole = image-size-packs-whole;
    c-image-write-whole = image-write-packs-whole;
    c-image-read-whole = image-read-packs-whole;
    c-image-salvage-whole = salvage-packs-whole;
    c-image-salvage-report = report-is-read-back;
    c-word-text-whole = word-text-packs;
    c-text-word-whole = text-word-packs;
  };
  refusals = record {
    start = start-refusal-changes-nothing;
    word = step-refusal-changes-nothing;
    seal = seal-refusal-changes-nothing;
    run-start = run-start-changes-nothing;
    asking = ask-refusal-changes-nothing;
    turn = turn-refusal-changes-nothing;
    turns = no-turn-changes-nothing;
    whole_run = whole-refusal-changes-nothing;
    image-write = write-refusal;
    image-read = read-refusal;
    image-salvage = salvage-refusal;
    c-start = bench.start-refusal;
    c-step = bench.step-refusal;
    c-seal = bench.seal-refusal;
    c-run-start = run.run-start-refusal;
    c-next = run.next-refusal;
    c-turn = turn.turn-refusal;
    c-turns = turn.no-turn;
    c-run = turn.run-refusal;
    c-image-write = image.image-write-refusal;
    c-image-read = image.image-read-refusal;
    c-image-salvage = salvage-call-refusal;
    c-word-text = text.word-text-refusal;
    c-text-word = text.text-word-refusal;
  };
  words = record {
    exact = step-answers-exactly;
    words = word-refusals;
    no-code-twice = no-code-twice;
    types = types-are-these;
    registers = registers-fill;
    stores = stores-are-exact;
    keeps-sound = step-keeps-sound;
    seal-keeps-sound = seal-keeps-sound;
    start-sound = start-sound;
    seal-words = seal-holds;
    seal-words-from-start = seal-holds-from-start;
    seal = seal-holds-over-acts;
    seal-from-start = seal-holds-over-acts-from-start;
    seal-from-read = seal-holds-from-read;
    c-seal = seal-holds-over-calls;
    c-seal-from-start = seal-holds-from-start-call;
    c-seal-from-read = seal-holds-from-read-call;
    c-seal-from-seal = seal-holds-from-seal-call;
  };
  runs = record {
    every-choice = demand-3;
    ours = demand-3-ours;
    smaller = demand-3-smaller;
    halving = demand-3-halving;
    rules = chosen-grants;
    whole_run = whole-delivers;
    sheet = bench-sheet;
    example = product-example;
    c-start = start-calls-are-right;
    c-turns = turn-calls-are-right;
    c-many = turns-are-turn-calls;
    c-run = run-is-turn-calls;
  };
}
