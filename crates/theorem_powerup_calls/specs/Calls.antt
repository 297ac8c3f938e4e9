-- Request Nine, of the C functions (include/bodlarina.h): two hosts whose buffers differ at most in unmarked register bytes get the same
-- results from the same calls, and their buffers again differ at most so. The proofs stand in proofs/.
use Rattle.std.specs.Prelude.{◌≡◌, List, [], ◌∷◌, ℕ, length}
use Rattle.machine.specs.Alike.{Agree}
use Rattle.c_image.specs.ImageCalls.{host_image_write}
use Rattle.theorem_calls.specs.Calls.{Buffers, Call, Called, called, calls}

-- ---- the statements

-- equal bytes of machine, marks, scalars, memory, run, step, steps and vector file; registers of one length, equal wherever the mark is 1
pub record AlikeBuffers (b b' : Buffers) : Type 0 where
  pub same-machine : b.machine ≡ b'.machine
  pub same-marks : b.marks ≡ b'.marks
  pub agree : Agree b.marks b.registers b'.registers
  pub same-scalars : b.scalars ≡ b'.scalars
  pub same_memory : b.memory ≡ b'.memory
  pub same-run : b.run ≡ b'.run
  pub same_step : b.step ≡ b'.step
  pub same-steps : b.steps ≡ b'.steps
  pub same-file : b.file ≡ b'.file

pub record SameCalled (o o' : Called) : Type 0 where
  pub same-result : o.result ≡ o'.result
  pub alike-after : AlikeBuffers o.after o'.after

-- one call
abbrev pub CallIgnoresUnmarked : Type 0
CallIgnoresUnmarked = (c : Call) (b b' : Buffers) → AlikeBuffers b b' → SameCalled (called c b) (called c b')

-- of two lists, each of the one with its partner in the other
abbrev pub EachSameCalled : List Called → List Called → Type 0
EachSameCalled [] [] = Unit {0}
EachSameCalled [] (o ∷ os) = ⊥
EachSameCalled (o ∷ os) [] = ⊥
EachSameCalled (o ∷ os) (o' ∷ os') = SameCalled o o' × EachSameCalled os os'

-- one call after another, refusals included
abbrev pub CallsIgnoreUnmarked : Type 0
CallsIgnoreUnmarked = (cs : List Call) (b b' : Buffers) → AlikeBuffers b b' → EachSameCalled (calls cs b) (calls cs b')

-- what bodlarina_image_write returns and leaves in the lent image, of which a list of calls keeps the result only
abbrev pub ImageWriteIgnoresUnmarked : Type 0
ImageWriteIgnoresUnmarked = (image : List ℕ) (b b' : Buffers) → AlikeBuffers b b'
    → host_image_write b.machine b.registers b.marks image ≡ host_image_write b'.machine b'.registers b'.marks image

-- ---- from a start or from the reading of an image on

-- at power-up: registers, marks and the machine's block of the same lengths, whatever they hold; the other buffers are equal
pub record AtPowerUp (b b' : Buffers) : Type 0 where
  pub machine-length : length b.machine ≡ length b'.machine
  pub registers-length : length b.registers ≡ length b'.registers
  pub marks-length : length b.marks ≡ length b'.marks
  pub same-scalars : b.scalars ≡ b'.scalars
  pub same_memory : b.memory ≡ b'.memory
  pub same-run : b.run ≡ b'.run
  pub same_step : b.step ≡ b'.step
  pub same-steps : b.steps ≡ b'.steps
  pub same-file : b.file ≡ b'.file

-- both calls give the same result; where they are accepted, the buffers after them differ at most in unmarked register bytes, and the
-- same calls after them give the same
pub record SameFromStart (o o' : Called) : Type 0 where
  pub same-result : o.result ≡ o'.result
  pub alike-after : o.result ≡ 0 → AlikeBuffers o.after o'.after
  pub same-calls : o.result ≡ 0 → (cs : List Call) → EachSameCalled (calls cs o.after) (calls cs o'.after)

abbrev pub PowerUpNeverMattersToHosts : Type 0
PowerUpNeverMattersToHosts = (rlen mlen elen rule : ℕ) (seals : List ℕ) (b b' : Buffers) → AtPowerUp b b'
    → SameFromStart (called (Call.start rlen mlen elen rule seals) b) (called (Call.start rlen mlen elen rule seals) b')

abbrev pub PowerUpNeverMattersToReaders : Type 0
PowerUpNeverMattersToReaders = (image : List ℕ) (b b' : Buffers) → AtPowerUp b b'
    → SameFromStart (called (Call.image_read image) b) (called (Call.image_read image) b')
