-- Each answer of a start, of adding a range, and of sizing and writing an image is given exactly when its sentence holds and none before it does.
use Rattle.numbers.proofs.Kit.{◌≡◌, refl, sym, ap, ap₂, ◌∙◌, subst, ◌↔◌, Bool, true, false, cond, List, [], ℕ, ◌+◌, ◌-◌, ◌^◌, ◌≤◌, ◌<◌, arith, leb, ltb}
use Rattle.numbers.proofs.Kit.{eqb, length, eqb-false, ltb-true, ltb-false, leb-true, leb-false, le-leb}
use Rattle.machine.specs.Answers.{bare}
use Rattle.machine.specs.Geometry.{Range, range, Bench, bench_of}
use Rattle.machine.specs.Starting.{seal_ends, most_seals, ranges, startable, start_machine}
use Rattle.machine.specs.Faults.{sound_bench}
use Rattle.machine.specs.Sealing.{add_seal}
use Rattle.machine.proofs.TestLaws.{and-true, and_left, and_right, false-true}
use Rattle.image.specs.Writing.{size_image, write_image}
use Rattle.image.specs.Theorems.{image_in}
use Rattle.theorem_refusals.specs.Faults.{NotAtFault, Exactly}
use Rattle.theorem_refusals.specs.Starts.{Startable, HasNinth, StartsExactly, StartAnswersExactly, Addable, AddsExactly, AddAnswersExactly}
use Rattle.theorem_refusals.specs.Images.{NoRoomFor, WritesExactly, WriteAnswersExactly, SizesExactly, SizeAnswersExactly}
use Rattle.theorem_refusals.proofs.Reflect.{Tells}
use Rattle.theorem_refusals.proofs.FaultLaws.{startable-in-words, faults-are-these}

-- ---- by two tests

module _ {Good Refused : Type 0} where
  pub exactly : (k : ℕ) → eqb 0 k ≡ false → eqb 8 k ≡ false → (s t : Bool) → (s ≡ true) ↔ Good → (s ≡ true → Tells t Refused) → Exactly (cond s (cond t 0 k) 8) k Good Refused
  exactly k z e true true g r = record {
    eight = (λ h. absurd (omega (arith, h)), λ n. absurd (n (g.0 refl)));
    next = (λ h. absurd (eqb-false 0 k z h), λ y. absurd ((r refl).refutes refl y.1));
    nought = (λ h. (g.0 refl, (r refl).refutes refl), λ y. refl);
  }
  exactly k z e true false g r = record {
    eight = (λ h. absurd (eqb-false 8 k e (sym h)), λ n. absurd (n (g.0 refl)));
    next = (λ h. (g.0 refl, (r refl).shows refl), λ y. refl);
    nought = (λ h. absurd (eqb-false 0 k z (sym h)), λ y. absurd (y.1 ((r refl).shows refl)));
  }
  exactly k z e false t g r = record {
    eight = ((λ h x. false-true (g.1 x)), λ n. refl);
    next = (λ h. absurd (eqb-false 8 k e h), λ y. absurd (false-true (g.1 y.0)));
    nought = (λ h. absurd (omega (arith, h)), λ y. absurd (false-true (g.1 y.0)));
  }

-- ---- a start

module _ (rlen mlen elen rule : ℕ) (seals registers marks : List ℕ) where
  abbrev Exact : Type 0
  Exact = StartsExactly rlen mlen elen rule seals registers marks (start_machine rlen mlen elen rule seals registers marks)

  start-exactly : Exact
  unfolding start_machine
  start-exactly = go (startable rlen mlen elen rule seals registers marks) (leb (length (ranges seals)) most_seals) refl refl
    where
      ninth : (t : Bool) → leb (length (ranges seals)) 8 ≡ t → Tells t (HasNinth seals)
      ninth t e = record {
        shows = λ f. leb-false (length (ranges seals)) 8 (e ∙ f);
        refutes = λ f l. omega (arith, l, leb-true (length (ranges seals)) 8 (e ∙ f));
      }

      good : (s : Bool) → startable rlen mlen elen rule seals registers marks ≡ s → (s ≡ true) ↔ Startable rlen mlen elen rule seals registers marks
      good s e = let w = startable-in-words rlen mlen elen rule seals registers marks in (λ h. w.0 (e ∙ h), λ x. sym e ∙ w.1 x)

      go : (s t : Bool) → startable rlen mlen elen rule seals registers marks ≡ s → leb (length (ranges seals)) 8 ≡ t → Exact
      go true true e f = rw (e, f) (record { given = exactly 16 refl refl true true (good true e) (λ x. ninth true f); started = λ h. refl; refused = λ n. absurd (n refl) })
      go true false e f = rw (e, f) (record { given = exactly 16 refl refl true false (good true e) (λ x. ninth false f); started = λ h. absurd (omega (arith, h)); refused = λ n. refl })
      go false t e f = rw (e) (record { given = exactly 16 refl refl false t (good false e) (λ x. ninth t f); started = λ h. absurd (omega (arith, h)); refused = λ n. refl })

pub start-answers-exactly : StartAnswersExactly
start-answers-exactly = start-exactly

-- ---- adding a range

module _ (B : Bench) where
  sound-in-words : (s : Bool) → sound_bench B ≡ s → (s ≡ true) ↔ NotAtFault B
  sound-in-words s e = let w = faults-are-these B in (λ h. w.0 (e ∙ h), λ x. sym e ∙ w.1 x)

  module _ (start size : ℕ) where
    abbrev ExactAdd : Type 0
    ExactAdd = AddsExactly (range start size) B (add_seal start size B)

    add-exactly : ExactAdd
    unfolding add_seal
    add-exactly = go (sound_bench B) (seal_ends start size) (ltb (length B.seals) most_seals) refl refl refl
      where
        addable : (s e : Bool) → sound_bench B ≡ s → seal_ends start size ≡ e → (cond s e false ≡ true) ↔ Addable (range start size) B
        addable true true p q = (λ h. record { not-at-fault = (sound-in-words true p).0 refl; ends = leb-true (start + size) (2 ^ 64 - 1) q }, λ x. refl)
        addable true false p q = (λ h. absurd (false-true h), λ x. sym q ∙ le-leb (start + size) (2 ^ 64 - 1) x.ends)
        addable false e p q = (λ h. absurd (false-true h), λ x. (sound-in-words false p).1 x.not-at-fault)

        -- a state that is not at fault holds no more than eight
        eight : sound_bench B ≡ true → (t : Bool) → ltb (length B.seals) 8 ≡ t → Tells t (length B.seals ≡ 8)
        eight p t f = record {
          shows = λ h. let l = ((faults-are-these B).0 p).at-most-eight in omega (arith, l, ltb-false (length B.seals) 8 (f ∙ h));
          refutes = λ h x. omega (arith, x, ltb-true (length B.seals) 8 (f ∙ h));
        }

        go : (s e t : Bool) → sound_bench B ≡ s → seal_ends start size ≡ e → ltb (length B.seals) 8 ≡ t → ExactAdd
        go true true true p q f = rw (p, q, f) (record { given = exactly 16 refl refl true true (addable true true p q) (λ x. eight p true f); added = λ h. refl; refused = λ n. absurd (n refl) })
        go true true false p q f = rw (p, q, f) (record { given = exactly 16 refl refl true false (addable true true p q) (λ x. eight p false f); added = λ h. absurd (omega (arith, h)); refused = λ n. refl })
        go true false t p q f = rw (p, q) (record { given = exactly 16 refl refl false t (addable true false p q) (λ x. absurd (false-true x)); added = λ h. absurd (omega (arith, h)); refused = λ n. refl })
        go false e t p q f = rw p (record { given = exactly 16 refl refl false t (addable false e p q) (λ x. absurd (false-true x)); added = λ h. absurd (omega (arith, h)); refused = λ n. refl })

  -- ---- an image

  abbrev ExactSize : Type 0
  ExactSize = SizesExactly B (size_image B.machine B.seals B.registers B.marks)

  size-exactly : ExactSize
  unfolding size_image
  size-exactly = go (sound_bench B) refl
    where
      go : (s : Bool) → sound_bench B ≡ s → ExactSize
      go true p = rw p (record { eight = (λ h. absurd (omega (arith, h)), λ n. absurd (n ((sound-in-words true p).0 refl))); nought = (λ h. (sound-in-words true p).0 refl, λ x. refl); sized = λ h. refl; refused = λ n. absurd (n refl) })
      go false p = rw p (record { eight = ((λ h x. false-true ((sound-in-words false p).1 x)), λ n. refl); nought = (λ h. absurd (omega (arith, h)), λ x. absurd (false-true ((sound-in-words false p).1 x))); sized = λ h. absurd (omega (arith, h)); refused = λ n. refl })

  module _ (room : List ℕ) where
    abbrev ExactWrite : Type 0
    ExactWrite = WritesExactly B room (write_image B.machine B.seals B.registers B.marks room)

    write-exactly : ExactWrite
    unfolding write_image
    write-exactly = go (sound_bench B) (leb (length (image_in B)) (length room)) refl refl
      where
        no_room : (t : Bool) → leb (length (image_in B)) (length room) ≡ t → Tells t (NoRoomFor room B)
        no_room t e = record {
          shows = λ f. leb-false (length (image_in B)) (length room) (e ∙ f);
          refutes = λ f l. omega (arith, l, leb-true (length (image_in B)) (length room) (e ∙ f));
        }

        go : (s t : Bool) → sound_bench B ≡ s → leb (length (image_in B)) (length room) ≡ t → ExactWrite
        go true true p f = rw (p, f) (record { given = exactly 14 refl refl true true (sound-in-words true p) (λ x. no_room true f); written = λ h. refl; refused = λ n. absurd (n refl) })
        go true false p f = rw (p, f) (record { given = exactly 14 refl refl true false (sound-in-words true p) (λ x. no_room false f); written = λ h. absurd (omega (arith, h)); refused = λ n. refl })
        go false t p f = rw p (record { given = exactly 14 refl refl false t (sound-in-words false p) (λ x. no_room t f); written = λ h. absurd (omega (arith, h)); refused = λ n. refl })

pub add-answers-exactly : AddAnswersExactly
add-answers-exactly start size B = add-exactly B start size

pub size-answers-exactly : SizeAnswersExactly
size-answers-exactly = size-exactly

pub write-answers-exactly : WriteAnswersExactly
write-answers-exactly = write-exactly
