-- All that is promised of the definitions and of the C functions, in one record: the three demands of document 01, each one statement
-- (Demand1.antt, Demand2.antt, Demand3.antt), the statements that a request of document 02 asks for, and what the demands are put together from.
-- Each line names a statement, which stands in the file that is named at the top. proofs/Promise.antt has one term of this type. That the code is
-- its definitions is not said here, but by the contracts in src/.
use Rattle.machine.specs.Theorems.{RefusalChangesNothing, StartRefusalChangesNothing, SealRefusalChangesNothing, StepKeepsSound, StepKeepsFile, SealKeepsSound, StartIsSound, StoresAreExact, RulesKeepConstraints, SealHolds, SealHoldsFromStart}
use Rattle.machine.specs.WordTheorems.{WordRefusals, NothingElseMoved, AddedGotOne}
use Rattle.theorem_refusals.specs.Given.{StepAnswersExactly}
use Rattle.theorem_refusals.specs.Listed.{NoCodeTwice, TypesAreThese, RegistersFill}
use Rattle.run.specs.Theorems.{RunStartChangesNothing, AskRefusalChangesNothing, TurnRefusalChangesNothing, NoTurnChangesNothing, WholeRefusalChangesNothing, SealHoldsOverActs, SealHoldsOverActsFromStart}
use Rattle.run.specs.Statement.{RunsAreRight, OurRunsAreRight, SmallerRunsAreRight, HalvingRunsAreRight}
use Rattle.run.specs.Whole.{WholeDelivers}
use Rattle.run.specs.Sheet.{BenchSheet, ProductExample}
use Rattle.c_step.specs.Theorems.{StartRefusalChangesNoByte, StepRefusalChangesNoByte, SealRefusalChangesNoByte, StepPacksWhole}
use Rattle.c_run.specs.Theorems.{RunStartRefusalChangesNoByte, NextRefusalChangesNoByte}
use Rattle.c_turn.specs.Theorems.{TurnRefusalChangesNoByte, NoTurnChangesNoByte, RunRefusalChangesNoByte}
use Rattle.c_image.specs.Theorems.{ImageWriteRefusalChangesNoByte, ImageReadRefusalChangesNoByte, ImageSizePacksWhole, ImageWritePacksWhole, ImageReadPacksWhole}
use Rattle.c_salvage.specs.Theorems.{SalvageRefusalChangesNoByte, SalvagePacksWhole, ReportIsReadBack}
use Rattle.c_text.specs.Theorems.{WordTextRefusalChangesNoByte, TextWordRefusalChangesNoByte, WordTextPacksWhole, TextWordPacksWhole}
use Rattle.theorem_calls.specs.Composed.{StartCallsAreRight, TurnCallsAreRight, TurnsAreTurnCalls, RunIsTurnCalls, SealHoldsOverCalls, SealHoldsFromStartCall, SealHoldsFromReadCall, SealHoldsFromSealCall, SealCallSeals, StartCallHolds, ReadCallHolds, RangesAreExactOverCalls}
use Rattle.unit_sealing.specs.Theorems.{RangesAreExact, AddedRangeRefusesOnly}
use Rattle.theorem_transposed.specs.Transposed.{LoadThenStoreTransposes}
use Rattle.unit_slices.specs.MovedBack.{OutAndBackRestores}
use Rattle.theorem_exact.specs.Exact.{FloatRunsAreExact, WholeRunsAreExact}
use Rattle.theorem_exact.specs.Examples.{TwoTerms}
use Rattle.unit_table.specs.Table.{TableAgrees, TableDecodes}
use Rattle.numbers_format.specs.Theorems.{NumbersApart, OnePlace, ParserIsRight}
use Rattle.image.specs.Theorems.{AlikeHaveOneImage, OthersNever, RunsAreMaximal, FormatIsImages, ReadIsExact, ReadRefusalChangesNothing, WriteRefusalChangesNothing, ReadMakesItsMachine, SealHoldsFromRead, WrittenIsReadBack, ReadIsWrittenBack}
use Rattle.image_salvage.specs.Theorems.{PlaceAsInSix, SalvageIsExact, FreshIsImage, EnoughRoom, SoundUnchanged, CutKeepsBytes, CutPlace, SalvageRefusalChangesNothing}
use Rattle.text_assembly.specs.Theorems.{LegalHaveLines, AcceptedHaveLines, LinesAreAccepted, CodesAnswered, LinesAreShort, ReadsBack, ReadsRight, OneWord, WordsRight, WordsReadBack, LinesGoBack}
use Rattle.theorem_powerup.specs.Steps.{StepIgnoresUnmarked, WordsIgnoreUnmarked, GivenWordsIgnoreUnmarked}
use Rattle.theorem_powerup.specs.Runs.{RunStartIgnoresUnmarked, TurnsIgnoreUnmarked, WholeIgnoresUnmarked}
use Rattle.theorem_powerup.specs.PowerUp.{StartsAlike, PowerUpNeverMatters}
use Rattle.theorem_powerup_image.specs.ImagesStay.{ImagesStayEqual, ImagesStayEqualGiven}
use Rattle.theorem_powerup_calls.specs.Calls.{CallIgnoresUnmarked, CallsIgnoreUnmarked, ImageWriteIgnoresUnmarked, PowerUpNeverMattersToHosts, PowerUpNeverMattersToReaders}
use Rattle.theorem_handover.specs.Handover.{ReadCallMakesItsMachine, WrittenCallIsReadBack, ReadCallIsWrittenBack, ImagesStayEqualOverCalls, TurnPacksWhole}
use Rattle.demands.specs.Demand1.{Demand1}
use Rattle.demands.specs.Demand2.{Demand2}
use Rattle.demands.specs.Demand3.{Demand3}

-- what demand 1 is put together from: refusals, one by one
pub record Refusals : Type 0 where
  pub start : StartRefusalChangesNothing
  pub word : RefusalChangesNothing
  pub seal : SealRefusalChangesNothing
  pub run-start : RunStartChangesNothing
  pub asking : AskRefusalChangesNothing
  pub turn : TurnRefusalChangesNothing
  pub turns : NoTurnChangesNothing
  pub whole_run : WholeRefusalChangesNothing
  pub image-write : WriteRefusalChangesNothing
  pub image-read : ReadRefusalChangesNothing
  pub image-salvage : SalvageRefusalChangesNothing
  -- of the C functions
  pub c-start : StartRefusalChangesNoByte
  pub c-step : StepRefusalChangesNoByte
  pub c-seal : SealRefusalChangesNoByte
  pub c-run-start : RunStartRefusalChangesNoByte
  pub c-next : NextRefusalChangesNoByte
  pub c-turn : TurnRefusalChangesNoByte
  pub c-turns : NoTurnChangesNoByte
  pub c-run : RunRefusalChangesNoByte
  pub c-image-write : ImageWriteRefusalChangesNoByte
  pub c-image-read : ImageReadRefusalChangesNoByte
  pub c-image-salvage : SalvageRefusalChangesNoByte
  pub c-word-text : WordTextRefusalChangesNoByte
  pub c-text-word : TextWordRefusalChangesNoByte

-- what demand 2 is put together from: the answers of a word, states that are not at fault, and sealed bytes from any moment on
pub record Words : Type 0 where
  pub exact : StepAnswersExactly
  pub words : WordRefusals
  pub no-code-twice : NoCodeTwice
  pub types : TypesAreThese
  pub registers : RegistersFill
  pub stores : StoresAreExact
  pub keeps-sound : StepKeepsSound
  pub seal-keeps-sound : SealKeepsSound
  pub start-sound : StartIsSound
  pub seal-words : SealHolds
  pub seal-words-from-start : SealHoldsFromStart
  pub seal : SealHoldsOverActs
  pub seal-from-start : SealHoldsOverActsFromStart
  pub seal-from-read : SealHoldsFromRead
  -- over lists of C calls
  pub c-seal : SealHoldsOverCalls
  pub c-seal-from-start : SealHoldsFromStartCall
  pub c-seal-from-read : SealHoldsFromReadCall
  pub c-seal-from-seal : SealHoldsFromSealCall

-- of demand 3: every choice of sizes under the draft's constraints, and ours, one by one; a whole run, and the bench sheet
pub record Runs : Type 0 where
  pub every-choice : RunsAreRight
  pub ours : OurRunsAreRight
  pub smaller : SmallerRunsAreRight
  pub halving : HalvingRunsAreRight
  pub rules : RulesKeepConstraints
  pub whole_run : WholeDelivers
  pub sheet : BenchSheet
  pub example : ProductExample
  -- over the C functions
  pub c-start : StartCallsAreRight
  pub c-turns : TurnCallsAreRight
  pub c-many : TurnsAreTurnCalls
  pub c-run : RunIsTurnCalls

-- 02, where a request asks for a statement of its own: One, Two, Four, Five, Six, Nine, Eleven, Twelve, Thirteen and Fourteen. Of Three, Seven,
-- Eight and Ten the statements above speak
pub record Requests : Type 1 where
  pub one-nothing-else : NothingElseMoved
  pub one-added : AddedGotOne
  pub two : LoadThenStoreTransposes
  pub four : FloatRunsAreExact
  pub four-whole-run : WholeRunsAreExact
  pub four-example : TwoTerms
  pub five : TableAgrees
  pub five-decodes : TableDecodes
  -- Six: images; first of numbers in groups of seven bits and of byte strings under any format
  pub six-numbers : NumbersApart
  pub six-one-place : OnePlace
  pub six-parser : ParserIsRight
  pub six-runs : RunsAreMaximal
  pub six-format : FormatIsImages
  pub six-same : AlikeHaveOneImage
  pub six-others : OthersNever
  pub six-read : ReadIsExact
  pub six-made : ReadMakesItsMachine
  pub six-back : WrittenIsReadBack
  pub six-again : ReadIsWrittenBack
  pub six-c-made : ReadCallMakesItsMachine
  pub six-c-back : WrittenCallIsReadBack
  pub six-c-again : ReadCallIsWrittenBack
  -- Nine: of words, of runs, of images, and of a host's calls
  pub nine : PowerUpNeverMatters
  pub nine-starts : StartsAlike
  pub nine-step : StepIgnoresUnmarked
  pub nine_words : WordsIgnoreUnmarked
  pub nine-given : GivenWordsIgnoreUnmarked
  pub nine-run-start : RunStartIgnoresUnmarked
  pub nine-turns : TurnsIgnoreUnmarked
  pub nine-whole-run : WholeIgnoresUnmarked
  pub nine-images : ImagesStayEqual
  pub nine-images-given : ImagesStayEqualGiven
  pub nine-c : PowerUpNeverMattersToHosts
  pub nine-c-readers : PowerUpNeverMattersToReaders
  pub nine-c-call : CallIgnoresUnmarked
  pub nine-c-calls : CallsIgnoreUnmarked
  pub nine-c-image-write : ImageWriteIgnoresUnmarked
  pub nine-c-images : ImagesStayEqualOverCalls
  -- Eleven: of a slice, and of the vector file
  pub eleven : OutAndBackRestores
  pub eleven-file : StepKeepsFile
  -- Twelve: which ranges a machine holds, and what one does that is added during a run; demands 1 to 3 read all ranges
  pub twelve : RangesAreExact
  pub twelve-run : AddedRangeRefusesOnly
  pub twelve-c-seal : SealCallSeals
  pub twelve-c-start : StartCallHolds
  pub twelve-c-read : ReadCallHolds
  pub twelve-c-calls : RangesAreExactOverCalls
  -- Thirteen: what is kept of any input, and its place; of a sound image, and of one that is cut
  pub thirteen : SalvageIsExact
  pub thirteen-place : PlaceAsInSix
  pub thirteen-image : FreshIsImage
  pub thirteen-room : EnoughRoom
  pub thirteen-sound : SoundUnchanged
  pub thirteen-cut : CutKeepsBytes
  pub thirteen-cut-place : CutPlace
  -- Fourteen: which words have a line, the line back to its word, the column of a refusal; the same of words in digits
  pub fourteen : LegalHaveLines
  pub fourteen-accepted : AcceptedHaveLines
  pub fourteen-only : LinesAreAccepted
  pub fourteen-codes : CodesAnswered
  pub fourteen-back : ReadsBack
  pub fourteen-read : ReadsRight
  pub fourteen-one : OneWord
  pub fourteen-short : LinesAreShort
  pub fourteen-digits : WordsRight
  pub fourteen-digits-back : WordsReadBack
  pub fourteen-both : LinesGoBack

-- nothing of an answer is cut in what the C functions return and report
pub record Results : Type 0 where
  pub c-step-whole : StepPacksWhole
  pub c-turn-whole : TurnPacksWhole
  pub c-image-size-whole : ImageSizePacksWhole
  pub c-image-write-whole : ImageWritePacksWhole
  pub c-image-read-whole : ImageReadPacksWhole
  pub c-image-salvage-whole : SalvagePacksWhole
  pub c-image-salvage-report : ReportIsReadBack
  pub c-word-text-whole : WordTextPacksWhole
  pub c-text-word-whole : TextWordPacksWhole

pub record Promise : Type 1 where
  pub demand-1 : Demand1
  pub demand-2 : Demand2
  pub demand-3 : Demand3
  pub requests : Requests
  pub results : Results
  pub refusals : Refusals
  pub words : Words
  pub runs : Runs
