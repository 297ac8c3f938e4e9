-- The theorems of specs/Theorems.antt.
use Rattle.std.specs.Prelude.{Ok, Err}
use Rattle.numbers.proofs.Kit.{◌≡◌, refl, sym, ap, ap₂, ◌∙◌, subst, inl, inr, Bool, true, false, cond, List, [], ◌∷◌, ◌++◌, ℕ, ◌≤◌, arith, leb, eqb, length}
use Rattle.numbers.proofs.Kit.{take, drop, replicate, length-replicate, take-append_seam, eqb-true, eq-eqb, le-leb}
use Rattle.numbers_format.specs.Numbers.{ByteString}
use Rattle.numbers_format.specs.Formats.{Ends, Accepts, Accepted}
use Rattle.numbers_format.specs.Parser.{Parsed, parse}
use Rattle.numbers_format.specs.Parser.Parsed.{whole, stopped}
use Rattle.numbers_format.specs.Theorems.{Right}
use Rattle.numbers_format.proofs.FormatLaws.{accepts-parse, parser-right, accepts-one, bytes-zeros}
use Rattle.machine.specs.declared.Machine.{Machine}
use Rattle.machine.specs.Geometry.{register_bytes, Bench, bench_of}
use Rattle.machine.specs.Setting.{chosen}
use Rattle.machine.specs.Faults.{sound_bench}
use Rattle.machine.specs.Alike.{Alike}
use Rattle.machine.proofs.TestLaws.{every-each, each-every}
use Rattle.machine.proofs.Sealing.{seal-holds}
use Rattle.image.specs.declared.ImageError.TheVariants.{BadArguments, NoRoom}
use Rattle.image.specs.Answers.{ImageReply, image_done}
use Rattle.image.specs.Cells.{Cell, Run, cells_of, runs, spread, Fit, over, marks_of}
use Rattle.image.specs.Images.{Seals, Header, exponent, header_of, machine_from, spelled, image_of, sound_with, IsImage}
use Rattle.image.specs.ImageFormat.{Described, all_register_bytes, image_format}
use Rattle.image.specs.Writing.{WriteOutcome, write_reply, write_image}
use Rattle.image.specs.Reading.{ReadOutcome, restored, not_restored, cells_in, fitted, read_as, read_image}
use Rattle.image.specs.Theorems.{image_in, AlikeHaveOneImage, OthersNever, FormatIsImages, Fits, ReadAnswers, ReadIsExact, ReadRefusalChangesNothing, WriteRefusalChangesNothing, MakesItsMachine, ReadMakesItsMachine, SealHoldsFromRead, WrittenIsReadBack, ReadIsWrittenBack}
use Rattle.image.proofs.RunLaws.{spread-runs, fit-runs, runs-spread, length-spread}
use Rattle.image.proofs.ImageLaws.{Spelling, image-live, image-out, image-in, all_runs, ok-spread}
use Rattle.image.proofs.HeaderLaws.{held, machine-back, registers-sized, marks-sized, marks-two, header-back, sound-from}
use Rattle.image.proofs.CellLaws.{length-cells, cells-ok, alike-cells, cells-alike, marks-cells, length_over, length-marks, marks-of-two, cells_over, over-lent, over-bytes}

-- ---- one image

pub alike-one-image : AlikeHaveOneImage
unfolding image_of
alike-one-image B B' a =
    ap₂ (λ (h : Header) (cs : List Cell). spelled h (runs cs)) (ap₂ (λ (m : Machine) (seals : Seals). header_of m seals) a.same-machine a.same-seals)
    (alike-cells B.registers B'.registers B.marks a.agree.same_length a.agree.same_bytes ∙ ap (cells_of B'.registers) a.same-marks)

-- what the image of a machine that is not at fault is read as
abbrev described : Machine → Seals → (registers marks : List ℕ) → Described
described m seals registers marks = record { header = header_of m seals; body = runs (cells_of registers marks) }

module _ (m : Machine) (seals : Seals) (registers marks : List ℕ) (s : sound_with m seals registers marks ≡ true) where
  same_size : length registers ≡ length marks
  same_size = registers-sized m seals registers marks s ∙ sym (marks-sized m seals registers marks s)

  cells-sized : length (cells_of registers marks) ≡ all_register_bytes (exponent m.mlen)
  cells-sized = length-cells registers marks same_size ∙ registers-sized m seals registers marks s

  pub image-accepts : ByteString registers → Accepts image_format (image_of m seals registers marks) (described m seals registers marks)
  unfolding image_of
  image-accepts b =
      image-in (header_of m seals) (runs (cells_of registers marks)) (held m seals registers marks s)
      (subst (λ (x : ℕ). Fit 0 x (runs (cells_of registers marks))) cells-sized (fit-runs (cells_of registers marks)))
      (all_runs (cells_of registers marks) (cells-ok registers marks b))

  cells-back : cells_in (described m seals registers marks) ≡ cells_of registers marks
  cells-back = ap (λ (x : ℕ). spread x (runs (cells_of registers marks))) (sym cells-sized) ∙ spread-runs (cells_of registers marks)

-- machines with one image have the same numbers and cells
pub others-never : OthersNever
others-never B B' s s' b b' e =
    let d : Described = described B.machine B.seals B.registers B.marks in
    let d' : Described = described B'.machine B'.seals B'.registers B'.marks in
    let one : d ≡ d' = accepts-one image_format (image_in B) d d' (image-accepts B.machine B.seals B.registers B.marks s b)
    (subst (λ (z : List ℕ). Accepts image_format z d') (sym e) (image-accepts B'.machine B'.seals B'.registers B'.marks s' b')) in
    let cs : cells_of B.registers B.marks ≡ cells_of B'.registers B'.marks =
    sym (cells-back B.machine B.seals B.registers B.marks s) ∙ ap cells_in one ∙ cells-back B'.machine B'.seals B'.registers B'.marks s' in
    let n : length B.registers ≡ length B.marks = same_size B.machine B.seals B.registers B.marks s in
    let n' : length B'.registers ≡ length B'.marks = same_size B'.machine B'.seals B'.registers B'.marks s' in
    let ms : B.marks ≡ B'.marks =
    sym (marks-cells B.registers B.marks n (marks-two B.machine B.seals B.registers B.marks s)) ∙ ap marks_of cs ∙ marks-cells B'.registers B'.marks n' (marks-two B'.machine B'.seals B'.registers B'.marks s') in
    record {
      same-machine = sym (machine-back B.machine B.seals B.registers B.marks s) ∙ ap (λ (x : Described). machine_from x.header) one ∙ machine-back B'.machine B'.seals B'.registers B'.marks s';
      same-seals = ap (λ (x : Described). x.header.seals) one;
      same-marks = ms;
      agree = record {
        same_length = n ∙ ap length ms ∙ sym n';
        same_bytes = cells-alike B.registers B'.registers B.marks n (n' ∙ ap length (sym ms)) (cs ∙ ap (cells_of B'.registers) (sym ms));
      };
    }

-- ---- what is accepted

-- the machine that an accepted input makes of lent registers
module _ (s : List ℕ) (d : Described) (a : Accepts image_format s d) (lent : List ℕ) (n : length lent ≡ all_register_bytes d.header.mlen) where
  spelling : Spelling s d
  spelling = image-out s d a

  cells-many : length (cells_in d) ≡ all_register_bytes d.header.mlen
  cells-many = length-spread 0 (all_register_bytes d.header.mlen) d.body spelling.fits

  lent-many : length lent ≡ length (cells_in d)
  lent-many = n ∙ sym cells-many

  made-sound : sound_with (machine_from d.header) d.header.seals (over (cells_in d) lent) (marks_of (cells_in d)) ≡ true
  made-sound =
      sound-from d.header spelling.sound (over (cells_in d) lent) (marks_of (cells_in d))
      (length_over (cells_in d) lent lent-many ∙ cells-many) (length-marks (cells_in d) ∙ cells-many) (marks-of-two (cells_in d))

  made-image : image_of (machine_from d.header) d.header.seals (over (cells_in d) lent) (marks_of (cells_in d)) ≡ s
  unfolding image_of
  made-image =
      ap₂ (λ (h : Header) (rs : List Run). spelled h rs) (header-back d.header spelling.sound)
      (ap runs (cells_over (cells_in d) lent lent-many) ∙ runs-spread 0 (all_register_bytes d.header.mlen) d.body spelling.fits)
      ∙ sym spelling.are

  made : MakesItsMachine s lent (restored (machine_from d.header) d.header.seals (over (cells_in d) lent) (marks_of (cells_in d)))
  made = record { not-at-fault = made-sound; its-image = made-image; as_lent = over-lent (cells_in d) lent lent-many }

pub is-accepted : (s : List ℕ) → IsImage s → Accepted image_format s
is-accepted s i =
    let d : Described = described i.machine i.seals i.registers i.marks in
    (d, subst (λ (z : List ℕ). Accepts image_format z d) (sym i.is-its-image) (image-accepts i.machine i.seals i.registers i.marks i.not-at-fault i.are-bytes))

pub accepted-is : (s : List ℕ) → Accepted image_format s → IsImage s
accepted-is s (d, a) =
    let zeros : List ℕ = replicate (all_register_bytes d.header.mlen) 0 in
    let n : length zeros ≡ all_register_bytes d.header.mlen = length-replicate (all_register_bytes d.header.mlen) 0 in
    record {
      machine = machine_from d.header;
      seals = d.header.seals;
      registers = over (cells_in d) zeros;
      marks = marks_of (cells_in d);
      not-at-fault = made-sound s d a zeros n;
      are-bytes = over-bytes (cells_in d) zeros (ok-spread (all_register_bytes d.header.mlen) d.body (image-out s d a).all-bytes) (bytes-zeros (all_register_bytes d.header.mlen));
      is-its-image = sym (made-image s d a zeros n);
    }

pub format-is-images : FormatIsImages
format-is-images s = (is-accepted s, accepted-is s)

ends-images : (s : List ℕ) (p : ℕ) → Ends (Accepted image_format) s p → Ends IsImage s p
ends-images s p h = record { there = h.there; goes_on = (h.goes_on.0, accepted-is _ h.goes_on.1); stops = λ k u i. h.stops k u (is-accepted _ i) }

-- ---- the answers of reading

-- an image that is accepted is that of one machine
one-machine : (s : List ℕ) (d : Described) → Accepts image_format s d → (i : IsImage s) → machine_from d.header ≡ i.machine
unfolding is-accepted
one-machine s d a i =
    let w = is-accepted s i in
    ap (λ (x : Described). machine_from x.header) (accepts-one image_format s d w.0 a w.1) ∙ machine-back i.machine i.seals i.registers i.marks i.not-at-fault

module _ (d : Described) (registers marks : List ℕ) where
  abbrev size : ℕ
  size = register_bytes (machine_from d.header).mlen

  pub fits-true : Fits (machine_from d.header) registers marks → fitted d registers marks ≡ true
  fits-true f = each-every (eqb (length registers) size ∷ eqb (length marks) size ∷ []) (eq-eqb (length registers) size f.0, (eq-eqb (length marks) size f.1, tt))

  pub true-fits : fitted d registers marks ≡ true → Fits (machine_from d.header) registers marks
  true-fits h =
      let t = every-each (eqb (length registers) size ∷ eqb (length marks) size ∷ []) h in
      (eqb-true (length registers) size t.0, eqb-true (length marks) size t.1.0)

  pub read_done : fitted d registers marks ≡ true → read_as (whole d) registers marks ≡ restored (machine_from d.header) d.header.seals (over (cells_in d) registers) (marks_of (cells_in d))
  read_done h = rw h

  pub read-unfit : ¬ Fits (machine_from d.header) registers marks → read_as (whole d) registers marks ≡ not_restored BadArguments registers marks
  read-unfit f = go (fitted d registers marks) refl
    where
      go : (t : Bool) → fitted d registers marks ≡ t
          → cond t (restored (machine_from d.header) d.header.seals (over (cells_in d) registers) (marks_of (cells_in d))) (not_restored BadArguments registers marks)
          ≡ not_restored BadArguments registers marks
      go true e = absurd (f (true-fits e))
      go false e = refl

pub read-is-exact : ReadIsExact
unfolding read_image
read-is-exact s registers marks b = go (parse image_format s) refl (parser-right image_format image-live s b)
  where
    go : (q : Parsed Described) → parse image_format s ≡ q → Right image_format s q → ReadAnswers s registers marks
    go (whole d) e a =
        let same : (i : IsImage s) → machine_from d.header ≡ i.machine = one-machine s d a in
        record {
          is-or-not = inl (accepted-is s (d, a));
          fifteen = λ never. absurd (never (accepted-is s (d, a)));
          eight = λ i f.
              ap (λ (q : Parsed Described). (read_as q registers marks).answer) e
              ∙ ap (λ (o : ReadOutcome). o.answer) (read-unfit d registers marks (λ g. f (subst (λ (m : Machine). Fits m registers marks) (same i) g)));
          nought = λ i f.
              ap (λ (q : Parsed Described). (read_as q registers marks).answer) e
              ∙ ap (λ (o : ReadOutcome). o.answer) (read_done d registers marks (fits-true d registers marks (subst (λ (m : Machine). Fits m registers marks) (sym (same i)) f)));
        }
    go (stopped p) e r =
        let never : ¬ IsImage s = λ i. r.1 (is-accepted s i) in
        record {
          is-or-not = inr never;
          fifteen = λ n. (p, ap (λ (q : Parsed Described). (read_as q registers marks).answer) e, ends-images s p r.0);
          eight = λ i. absurd (never i);
          nought = λ i. absurd (never i);
        }

-- ---- refusals

pub read-refusal : ReadRefusalChangesNothing
unfolding read_image
read-refusal s registers marks = go (parse image_format s)
  where
    go : (q : Parsed Described) → ¬ ((read_as q registers marks).answer.number ≡ 0) → ((read_as q registers marks).registers ≡ registers) × ((read_as q registers marks).marks ≡ marks)
    go (stopped p) h = (refl, refl)
    go (whole d) h = fit (fitted d registers marks) h
      where
        out : Bool → ReadOutcome
        out t = cond t (restored (machine_from d.header) d.header.seals (over (cells_in d) registers) (marks_of (cells_in d))) (not_restored BadArguments registers marks)

        fit : (t : Bool) → ¬ ((out t).answer.number ≡ 0) → ((out t).registers ≡ registers) × ((out t).marks ≡ marks)
        fit true h = absurd (h refl)
        fit false h = (refl, refl)

pub write-refusal : WriteRefusalChangesNothing
unfolding write_image
write-refusal m seals registers marks room = go (sound_with m seals registers marks) (leb (length (image_of m seals registers marks)) (length room))
  where
    out : Bool → Bool → WriteOutcome
    out t u = cond t (cond u (write_reply (Ok (length (image_of m seals registers marks))) (image_of m seals registers marks ++ drop (length (image_of m seals registers marks)) room)) (write_reply (Err NoRoom) room)) (write_reply (Err BadArguments) room)

    go : (t u : Bool) → ¬ ((out t u).answer.number ≡ 0) → ((out t u).size ≡ 0) × ((out t u).room ≡ room)
    go true true h = absurd (h refl)
    go true false h = (refl, refl)
    go false u h = (refl, refl)

-- ---- the machine that is read

-- an accepted read: what was read, and what it leaves
record Accepting (s registers marks : List ℕ) : Type 0 where
  what : Described
  accepted : Accepts image_format s what
  fits : Fits (machine_from what.header) registers marks
  leaves : read_image s registers marks ≡ restored (machine_from what.header) what.header.seals (over (cells_in what) registers) (marks_of (cells_in what))

accepting : (s registers marks : List ℕ) → ByteString s → (read_image s registers marks).answer ≡ image_done → Accepting s registers marks
unfolding read_image
accepting s registers marks b = go (parse image_format s) refl (parser-right image_format image-live s b)
  where
    go : (q : Parsed Described) → parse image_format s ≡ q → Right image_format s q → (read_as q registers marks).answer ≡ image_done → Accepting s registers marks
    go (stopped p) e r h = let z : ◌≡◌ {A = ℕ} 15 0 = ap (λ (x : ImageReply). x.number) h in absurd (omega arith)
    go (whole d) e r h = fit (fitted d registers marks) refl h
      where
        out : Bool → ReadOutcome
        out t = cond t (restored (machine_from d.header) d.header.seals (over (cells_in d) registers) (marks_of (cells_in d))) (not_restored BadArguments registers marks)

        fit : (t : Bool) → fitted d registers marks ≡ t → (out t).answer ≡ image_done → Accepting s registers marks
        fit true f h = record {
          what = d;
          accepted = r;
          fits = true-fits d registers marks f;
          leaves = ap (λ (q : Parsed Described). read_as q registers marks) e ∙ read_done d registers marks f;
        }
        fit false f h = let z : ◌≡◌ {A = ℕ} 8 0 = ap (λ (x : ImageReply). x.number) h in absurd (omega arith)

pub read-makes : ReadMakesItsMachine
read-makes s registers marks b h =
    let a = accepting s registers marks b h in
    subst (MakesItsMachine s registers) (sym a.leaves) (made s a.what a.accepted registers a.fits.0)

pub seal-holds-from-read : SealHoldsFromRead
seal-holds-from-read s registers marks memory b h ws q x =
    let o : ReadOutcome = read_image s registers marks in
    (seal-holds chosen ws (bench_of o.machine o.seals o.registers o.marks memory)).same_bytes q x

-- ---- there and back

-- an image that fits is written
write_done : (m : Machine) (seals : Seals) (registers marks room : List ℕ) → sound_with m seals registers marks ≡ true → length (image_of m seals registers marks) ≤ length room
    → write_image m seals registers marks room ≡ write_reply (Ok (length (image_of m seals registers marks))) (image_of m seals registers marks ++ drop (length (image_of m seals registers marks)) room)
unfolding write_image
write_done m seals registers marks room s n = rw (s, le-leb (length (image_of m seals registers marks)) (length room) n)

-- the image of a bench, read into buffers of its machine's size
module _ (B : Bench) (registers marks : List ℕ) (s : sound_bench B ≡ true) (b : ByteString B.registers) (f : Fits B.machine registers marks) where
  abbrev Back : ReadOutcome → Type 0
  Back o = (o.answer ≡ image_done) × Alike B (bench_of o.machine o.seals o.registers o.marks B.memory)

  abbrev own : Described
  own = described B.machine B.seals B.registers B.marks

  own-machine : machine_from own.header ≡ B.machine
  own-machine = machine-back B.machine B.seals B.registers B.marks s

  own-cells : cells_in own ≡ cells_of B.registers B.marks
  own-cells = cells-back B.machine B.seals B.registers B.marks s

  own-size : length B.registers ≡ length B.marks
  own-size = same_size B.machine B.seals B.registers B.marks s

  own-marks : marks_of (cells_in own) ≡ B.marks
  own-marks = ap marks_of own-cells ∙ marks-cells B.registers B.marks own-size (marks-two B.machine B.seals B.registers B.marks s)

  lent-size : length registers ≡ length (cells_in own)
  lent-size = f.0 ∙ ap (λ (m : Machine). register_bytes m.mlen) (sym own-machine) ∙ sym (cells-sized B.machine B.seals B.registers B.marks s) ∙ ap length (sym own-cells)

  left-size : length (over (cells_in own) registers) ≡ length B.marks
  left-size = length_over (cells_in own) registers lent-size ∙ sym (length-marks (cells_in own)) ∙ ap length own-marks

  own-fits : fitted own registers marks ≡ true
  own-fits = fits-true own registers marks (subst (λ (m : Machine). Fits m registers marks) (sym own-machine) f)

  reads-own : read_image (image_in B) registers marks ≡ restored (machine_from own.header) own.header.seals (over (cells_in own) registers) (marks_of (cells_in own))
  unfolding read_image
  reads-own =
      ap (λ (q : Parsed Described). read_as q registers marks) (accepts-parse image_format (image_in B) own (image-accepts B.machine B.seals B.registers B.marks s b))
      ∙ read_done own registers marks own-fits

  read_back : Back (read_image (image_in B) registers marks)
  read_back = subst Back (sym reads-own) (
    refl,
    record {
      same-machine = sym own-machine;
      same-seals = refl;
      same-marks = sym own-marks;
      agree = record {
        same_length = own-size ∙ sym left-size;
        same_bytes = cells-alike B.registers (over (cells_in own) registers) B.marks own-size left-size
            (sym own-cells ∙ sym (cells_over (cells_in own) registers lent-size) ∙ ap (cells_of (over (cells_in own) registers)) own-marks);
      };
    },
  )

pub written-is-read-back : WrittenIsReadBack
written-is-read-back B room registers marks s b n f =
    let image : List ℕ = image_in B in
    let w : write_image B.machine B.seals B.registers B.marks room ≡ write_reply (Ok (length image)) (image ++ drop (length image) room) = write_done B.machine B.seals B.registers B.marks room s n in
    let e : take (length image) (image ++ drop (length image) room) ≡ image = take-append_seam image (drop (length image) room) in
    subst (λ (o : WriteOutcome). Back B registers marks s b f (read_image (take o.size o.room) registers marks)) (sym w)
    (subst (λ (z : List ℕ). Back B registers marks s b f (read_image z registers marks)) (sym e) (read_back B registers marks s b f))

pub read-is-written-back : ReadIsWrittenBack
read-is-written-back s registers marks room b h n =
    let o : ReadOutcome = read_image s registers marks in
    let m = read-makes s registers marks b h in
    write_done o.machine o.seals o.registers o.marks room m.not-at-fault (subst (λ (z : List ℕ). length z ≤ length room) (sym m.its-image) n)
    ∙ ap (λ (z : List ℕ). write_reply (Ok (length z)) (z ++ drop (length z) room)) m.its-image
