-- A step of a machine that is not at fault leaves one that is not at fault; and so does a start.
use Rattle.numbers.proofs.Kit.{◌≡◌, refl, sym, ◌∙◌, subst, inl, inr, Bool, true, false, cond, List, [], ◌∷◌, ◌++◌, ℕ, zero, suc, ◌+◌, ◌*◌, ◌/◌}
use Rattle.numbers.proofs.Kit.{◌^◌, ◌≤◌, ◌<◌, min, div-le_self, arith, ℕ_discrete, leb, ltb, eqb, length, get_or, set, length-set, List·getD-eq-default}
use Rattle.numbers.proofs.Kit.{replicate, length-replicate, length-append, get_or-set_same, get_or-set_other, le-leb, lt-ltb, eq-eqb, leb-true, ltb-true}
use Rattle.numbers.proofs.Kit.{eqb-true, Err}
use Rattle.numbers.proofs.UptoLaws.{upto-keeps}
use Rattle.numbers.specs.Tile.{mark_tile, mark_row}
use Rattle.numbers.proofs.TileLaws.{length-put_tile, length-mark_tile}
use Rattle.numbers.specs.Blocks.{Choice, Grants, EachGrants}
use Rattle.numbers.proofs.BlockLaws.{le-or-lt, at_most}
use Rattle.machine.specs.declared.Machine.{Machine}
use Rattle.machine.specs.declared.Dimension.TheVariants.{DimensionM, DimensionK, DimensionN}
use Rattle.machine.specs.declared.Instruction.{Instruction}
use Rattle.machine.specs.Tests.{all_of, is_in}
use Rattle.machine.proofs.TestLaws.{each_in, and_left, and_right, and-true, all_of-true, all_of-at, every-each, each-every}
use Rattle.machine.specs.Answers.{is_done, verdict}
use Rattle.machine.specs.Faults.{sound_bench, seals_fit}
use Rattle.machine.specs.Geometry.{Range, range, bench_of, Parameters, parameters, State, state_of, machine_after, elens, permitted, register_bytes}
use Rattle.machine.proofs.StepLaws.{permitted-elen}
use Rattle.machine.specs.Setting.{legal_type, new_type, max_k, max_n, sew}
use Rattle.machine.specs.Operation.{Operation, written}
use Rattle.machine.specs.Meanings.{state_after, vectors_after}
use Rattle.machine.specs.Vectors.{Vectors, vectors_fit, idle}
use Rattle.machine.specs.Faults.{sound}
use Rattle.machine.specs.Starting.{is_rule, seal_ends, seals_end, most_seals, ranges, paired, startable, StartOutcome, fresh_machine}
use Rattle.machine.specs.Sealing.{add_seal, seal_checks, with_seal}
use Rattle.machine.proofs.StartLaws.{accepted}
use Rattle.machine.proofs.CheckLaws.{passed}
use Rattle.machine.specs.Theorems.{StepKeepsSound, StepKeepsFile, SealKeepsSound, StartIsSound}
use Rattle.machine.specs.declared.Refusal.TheVariants.{BadArguments}
use Rattle.machine.specs.Listing
use Rattle.machine.specs.Step
use Rattle.machine.specs.Step.{VectorOutcome, beside, outcome, outcome_in, vectors_in, step_by, step_with, checks_in, meant_in, given_in, left_in}
use Rattle.machine.specs.Geometry.{Bench}

-- what is right with the state of a machine of so many rows and bytes of a row, this ELEN, and so many bytes of all registers
pub record Sane (rows pitch elen total : ℕ) (st : State) : Type 0 where
  pub regs-length : length st.regs ≡ total
  pub marks-length : length st.marks ≡ total
  pub marks-two : (q : ℕ) → get_or st.marks q 0 < 2
  pub type-arises : new_type elen st.mtype ≡ st.mtype
  pub m-fits : st.tile_m ≤ rows
  pub k-fits : st.tile_k ≤ min rows pitch
  pub n-fits : st.tile_n ≤ pitch

pub record Sound (m : Machine) (registers marks : List ℕ) : Type 0 where
  pub lengths : permitted m.rlen m.mlen m.elen ≡ true
  pub rule-is : is_rule m.rule ≡ true
  pub state : Sane (m.mlen / m.rlen) (m.rlen / 8) m.elen (register_bytes m.mlen) (state_of m registers marks)

module _ (m : Machine) (registers marks : List ℕ) where
  abbrev tests : List Bool
  tests =
      permitted m.rlen m.mlen m.elen
      ∷ eqb (length registers) (register_bytes m.mlen)
      ∷ eqb (length marks) (register_bytes m.mlen)
      ∷ eqb (new_type m.elen m.mtype) m.mtype
      ∷ leb m.tile_m (m.mlen / m.rlen)
      ∷ leb m.tile_k (min (m.mlen / m.rlen) (m.rlen / 8))
      ∷ leb m.tile_n (m.rlen / 8)
      ∷ is_rule m.rule
      ∷ all_of (λ mark. ltb mark 2) marks ∷ []

  pub sound-is : sound m registers marks ≡ true → Sound m registers marks
  unfolding sound
  sound-is h =
      let t = every-each tests h in
      record {
        lengths = t.0;
        rule-is = t.1.1.1.1.1.1.1.0;
        state = record {
          regs-length = eqb-true (length registers) (register_bytes m.mlen) t.1.0;
          marks-length = eqb-true (length marks) (register_bytes m.mlen) t.1.1.0;
          marks-two = λ q. elim (le-or-lt (length marks) q) [
            | inl l ↦ rw (List·getD-eq-default marks 0 {n = q} l) (omega arith)
            | inr l ↦ ltb-true (get_or marks q 0) 2 (all_of-at (λ mark. ltb mark 2) marks t.1.1.1.1.1.1.1.1.0 q l)
          ];
          type-arises = eqb-true (new_type m.elen m.mtype) m.mtype t.1.1.1.0;
          m-fits = leb-true m.tile_m (m.mlen / m.rlen) t.1.1.1.1.0;
          k-fits = leb-true m.tile_k (min (m.mlen / m.rlen) (m.rlen / 8)) t.1.1.1.1.1.0;
          n-fits = leb-true m.tile_n (m.rlen / 8) t.1.1.1.1.1.1.0;
        };
      }

  pub sound-true : Sound m registers marks → sound m registers marks ≡ true
  unfolding sound
  sound-true h =
      let s = h.state in
      each-every tests (
        h.lengths,
        (
          eq-eqb (length registers) (register_bytes m.mlen) s.regs-length,
          (
            eq-eqb (length marks) (register_bytes m.mlen) s.marks-length,
            (
              eq-eqb (new_type m.elen m.mtype) m.mtype s.type-arises,
              (
                le-leb m.tile_m (m.mlen / m.rlen) s.m-fits,
                (
                  le-leb m.tile_k (min (m.mlen / m.rlen) (m.rlen / 8)) s.k-fits,
                  (
                    le-leb m.tile_n (m.rlen / 8) s.n-fits,
                    (
                      h.rule-is,
                      (all_of-true (λ mark. ltb mark 2) marks (λ q l. lt-ltb (get_or marks q 0) 2 (s.marks-two q)), tt),
                    ),
                  ),
                ),
              ),
            ),
          ),
        ),
      )

-- ---- what an operation leaves

-- marks stay 0 or 1
set-two : (ms : List ℕ) (p q : ℕ) → get_or ms q 0 < 2 → get_or (set ms p 1) q 0 < 2
set-two ms p q h = elim (ℕ_discrete q p) [ yes e ↦ at e | no d ↦ rw (get_or-set_other ms p q 1 0 d) h ]
  where
    at : q ≡ p → get_or (set ms p 1) q 0 < 2
    at e = elim (le-or-lt (length ms) q) [
      | inl l ↦ rw (List·getD-eq-default (set ms p 1) 0 {n = q} (omega (arith, length-set ms p 1))) (omega arith)
      | inr l ↦ subst (λ (i : ℕ). get_or (set ms i 1) q 0 < 2) e (rw (get_or-set_same ms q 1 0 l) (omega arith))
    ]

marks-still : (at : ℕ → ℕ) (rows n : ℕ) (ms : List ℕ) → ((q : ℕ) → get_or ms q 0 < 2) → (q : ℕ) → get_or (mark_tile at rows n ms) q 0 < 2
unfolding mark_tile mark_row
marks-still at rows n ms h q =
    upto-keeps (λ ys. get_or ys q 0 < 2) rows (λ i ys. mark_row (at i) n ys) ms
    (λ i l ys g. upto-keeps (λ zs. get_or zs q 0 < 2) n (λ b zs. set zs (at i + b) 1) ys (λ b l' zs g'. set-two zs (at i + b) q g') g) (h q)

new-arises : (elen v : ℕ) → new_type elen (new_type elen v) ≡ new_type elen v
unfolding new_type legal_type
new-arises elen v = go (legal_type elen v) refl
  where
    go : (t : Bool) → legal_type elen v ≡ t → new_type elen (cond t v (2 ^ 63)) ≡ cond t v (2 ^ 63)
    go true e = rw e
    go false e = refl

module _ (M : Parameters) (G : Grants M.grant) (total : ℕ) where
  abbrev Right : State → Type 0
  Right st = Sane M.rows M.pitch M.elen total st

  wrote : (st : State) (at : ℕ → ℕ) (rows cols w : ℕ) (value : ℕ → ℕ → ℕ) → Right st → Right (written st at rows cols w value)
  wrote st at rows cols w value h = record {
    regs-length = length-put_tile at rows cols w value st.regs ∙ h.regs-length;
    marks-length = length-mark_tile at rows (cols * w) st.marks ∙ h.marks-length;
    marks-two = marks-still at rows (cols * w) st.marks h.marks-two;
    type-arises = h.type-arises;
    m-fits = h.m-fits;
    k-fits = h.k-fits;
    n-fits = h.n-fits;
  }

  pub sane-after : (o : Operation) (st : State) (mem : List ℕ) → Right st → Right (state_after M o st mem)
  sane-after (Operation.illegal wrong) st mem h = h
  sane-after (Operation.set_type v) st mem h = record {
    regs-length = h.regs-length;
    marks-length = h.marks-length;
    marks-two = h.marks-two;
    type-arises = new-arises M.elen v;
    m-fits = h.m-fits;
    k-fits = h.k-fits;
    n-fits = h.n-fits;
  }
  sane-after (Operation.set_size DimensionM a) st mem h = record {
    regs-length = h.regs-length;
    marks-length = h.marks-length;
    marks-two = h.marks-two;
    type-arises = h.type-arises;
    m-fits = (at_most M.grant G M.rows a).0;
    k-fits = h.k-fits;
    n-fits = h.n-fits;
  }
  sane-after (Operation.set_size DimensionK a) st mem h = record {
    regs-length = h.regs-length;
    marks-length = h.marks-length;
    marks-two = h.marks-two;
    type-arises = h.type-arises;
    m-fits = h.m-fits;
    k-fits = omega (arith, at_most M.grant G (max_k M st.mtype) a, div-le_self M.pitch (sew st.mtype));
    n-fits = h.n-fits;
  }
  sane-after (Operation.set_size DimensionN a) st mem h = record {
    regs-length = h.regs-length;
    marks-length = h.marks-length;
    marks-two = h.marks-two;
    type-arises = h.type-arises;
    m-fits = h.m-fits;
    k-fits = h.k-fits;
    n-fits = omega (arith, at_most M.grant G (max_n M st.mtype) a, div-le_self M.pitch (sew st.mtype));
  }
  sane-after (Operation.cut_size DimensionM) st mem h = record {
    regs-length = h.regs-length;
    marks-length = h.marks-length;
    marks-two = h.marks-two;
    type-arises = h.type-arises;
    m-fits = omega (arith, h.m-fits);
    k-fits = h.k-fits;
    n-fits = h.n-fits;
  }
  sane-after (Operation.cut_size DimensionK) st mem h = record {
    regs-length = h.regs-length;
    marks-length = h.marks-length;
    marks-two = h.marks-two;
    type-arises = h.type-arises;
    m-fits = h.m-fits;
    k-fits = omega (arith, h.k-fits);
    n-fits = h.n-fits;
  }
  sane-after (Operation.cut_size DimensionN) st mem h = record {
    regs-length = h.regs-length;
    marks-length = h.marks-length;
    marks-two = h.marks-two;
    type-arises = h.type-arises;
    m-fits = h.m-fits;
    k-fits = h.k-fits;
    n-fits = omega (arith, h.n-fits);
  }
  sane-after (Operation.load f k r w b s) st mem h = wrote st _ _ _ _ _ h
  sane-after (Operation.store f k r w b s) st mem h = h
  sane-after (Operation.combine o f d a) st mem h = wrote st _ _ _ _ _ h
  sane-after (Operation.multiply f d a b) st mem h = wrote st _ _ _ _ _ h
  sane-after (Operation.scale f d a x) st mem h = wrote st _ _ _ _ _ h
  sane-after (Operation.float_multiply d a b) st mem h = wrote st _ _ _ _ _ h
  sane-after (Operation.move_out f a v first count) st mem h = h
  sane-after (Operation.move_in f d v first count file) st mem h = wrote st _ _ _ _ _ h

-- ---- the machine's numbers and its ranges

pub bench-sound : (B : Bench) → sound_bench B ≡ true → sound B.machine B.registers B.marks ≡ true
bench-sound B = and_left (sound B.machine B.registers B.marks) (seals_fit B.seals)

pub bench-seals : (B : Bench) → sound_bench B ≡ true → seals_fit B.seals ≡ true
bench-seals B = and_right (sound B.machine B.registers B.marks) (seals_fit B.seals)

pub sound-bench : (B : Bench) → sound B.machine B.registers B.marks ≡ true → seals_fit B.seals ≡ true → sound_bench B ≡ true
sound-bench B = and-true (sound B.machine B.registers B.marks) (seals_fit B.seals)

-- ---- no step leaves a machine at fault

outcome-sound : (grant : Choice) → EachGrants grant → (i : Instruction) (xs : List ℕ) (W : Vectors) (B : Bench) → sound_bench B ≡ true
    → sound_bench (outcome_in W (parameters grant B.machine) i xs B).bench ≡ true
outcome-sound grant G i xs W B h = go (is_done (verdict (checks_in W M i xs B)))
  where
    M : Parameters
    M = parameters grant B.machine

    s : Sound B.machine B.registers B.marks
    s = sound-is B.machine B.registers B.marks (bench-sound B h)

    l : State
    l = left_in W M i xs B

    after : Sane M.rows M.pitch M.elen (register_bytes B.machine.mlen) l
    after = sane-after M (G B.machine.rule) (register_bytes B.machine.mlen) (meant_in W M i xs B) (given_in W M i xs B) B.memory s.state

    go : (t : Bool) → sound_bench (cond t (Step.carried_in W M i xs B) (Step.refused_in W M i xs B (verdict (checks_in W M i xs B)))).bench ≡ true
    go true =
        and-true (sound (machine_after B.machine l) l.regs l.marks) (seals_fit B.seals)
        (sound-true (machine_after B.machine l) l.regs l.marks (record { lengths = s.lengths; rule-is = s.rule-is; state = after })) (bench-seals B h)
    go false = h

pub step-keeps-sound : StepKeepsSound
unfolding step_with
step-keeps-sound grant G word xs W B h = go (vectors_fit W)
  where
    o : VectorOutcome
    o = beside (vectors_in W (parameters grant B.machine) (Listing.decode word) xs B) (outcome_in W (parameters grant B.machine) (Listing.decode word) xs B)

    go : (t : Bool) → sound_bench (cond t o (beside W.file (Step.refused_in W (parameters grant B.machine) (Listing.decode word) xs B (Err BadArguments)))).bench ≡ true
    go true = outcome-sound grant G (Listing.decode word) xs W B h
    go false = h

pub step-sound : (grant : Choice) → EachGrants grant → (word : ℕ) (xs : List ℕ) (B : Bench) → sound_bench B ≡ true → sound_bench (step_by grant word xs B).bench ≡ true
unfolding step_by outcome
step-sound grant G word xs B h = outcome-sound grant G (Listing.decode word) xs idle B h

-- ---- and none changes the length of the vector file

pub step-keeps-file : StepKeepsFile
unfolding step_with
step-keeps-file grant word xs W B = go (vectors_fit W) (is_done (verdict (checks_in W M i xs B)))
  where
    M : Parameters
    M = parameters grant B.machine

    i : Instruction
    i = Listing.decode word

    after : (o : Operation) (st : State) → length (vectors_after M o st W.file) ≡ length W.file
    after (Operation.illegal wrong) st = refl
    after (Operation.set_type v) st = refl
    after (Operation.set_size d a) st = refl
    after (Operation.cut_size d) st = refl
    after (Operation.load f k r w b s) st = refl
    after (Operation.store f k r w b s) st = refl
    after (Operation.multiply f d a b) st = refl
    after (Operation.combine o f d a) st = refl
    after (Operation.scale f d a x) st = refl
    after (Operation.float_multiply d a b) st = refl
    after (Operation.move_out f a v first count) st = length-put_tile _ _ _ _ _ W.file
    after (Operation.move_in f d v first count file) st = refl

    go : (t u : Bool)
        → length (cond t (beside (cond u (vectors_after M (meant_in W M i xs B) (given_in W M i xs B) W.file) W.file) (outcome_in W M i xs B)) (beside W.file (Step.refused_in W M i xs B (Err BadArguments)))).vectors
        ≡ length W.file
    go true true = after (meant_in W M i xs B) (given_in W M i xs B)
    go true false = refl
    go false u = refl

-- ---- and no start either

type-zero : (elen : ℕ) → is_in elen elens ≡ true → new_type elen 0 ≡ 0
unfolding new_type legal_type sew
type-zero elen h = eqb-true (new_type elen 0) 0 (each_in elen elens (λ e. eqb (new_type e 0) 0) refl h)

zeros : (n q : ℕ) → get_or {A = ℕ} (replicate n 0) q 0 ≡ 0
zeros zero q = refl
zeros (suc n) zero = refl
zeros (suc n) (suc q) = zeros n q

pub start-sound : StartIsSound
unfolding startable new_type legal_type sew seals_fit
start-sound rlen mlen elen rule seals registers marks memory d =
    let k = accepted rlen mlen elen rule seals registers marks d in
    let c = every-each (permitted rlen mlen elen ∷ eqb (length registers) (register_bytes mlen) ∷ eqb (length marks) (register_bytes mlen) ∷ is_rule rule ∷ paired seals ∷ seals_end (ranges seals) ∷ []) k.fits in
    subst (λ (o : StartOutcome). sound_bench (bench_of o.machine o.seals o.registers o.marks memory) ≡ true) (sym k.leaves)
    (sound-bench (bench_of (fresh_machine rlen mlen elen rule) (ranges seals) registers (replicate (length marks) 0) memory)
    (sound-true (fresh_machine rlen mlen elen rule) registers (replicate (length marks) 0) (record {
      lengths = c.0;
      rule-is = c.1.1.1.0;
      state = record {
        regs-length = eqb-true (length registers) (register_bytes mlen) c.1.0;
        marks-length = length-replicate (length marks) 0 ∙ eqb-true (length marks) (register_bytes mlen) c.1.1.0;
        marks-two = λ q. rw (zeros (length marks) q) (omega arith);
        type-arises = type-zero elen (permitted-elen rlen mlen elen c.0).0;
        m-fits = omega arith;
        k-fits = omega arith;
        n-fits = omega arith;
      };
    }))
    (each-every (leb (length (ranges seals)) most_seals ∷ seals_end (ranges seals) ∷ []) (k.few, (c.1.1.1.1.1.0, tt))))

-- ---- nor does adding a range

ends_with : (rs : List Range) (r : Range) → seals_end rs ≡ true → seal_ends r.start r.size ≡ true → seals_end (rs ++ (r ∷ [])) ≡ true
ends_with [] r h e = and-true (seal_ends r.start r.size) true e refl
ends_with (s ∷ rs) r h e =
    and-true (seal_ends s.start s.size) (seals_end (rs ++ (r ∷ []))) (and_left (seal_ends s.start s.size) (seals_end rs) h)
    (ends_with rs r (and_right (seal_ends s.start s.size) (seals_end rs) h) e)

pub seals-fit-with : (rs : List Range) (start size : ℕ) → seals_fit rs ≡ true → seal_ends start size ≡ true → length rs < most_seals → seals_fit (rs ++ (range start size ∷ [])) ≡ true
unfolding seals_fit
seals-fit-with rs start size h e l =
    each-every (leb (length (rs ++ (range start size ∷ []))) most_seals ∷ seals_end (rs ++ (range start size ∷ [])) ∷ []) (
      le-leb (length (rs ++ (range start size ∷ []))) most_seals (omega (arith, length-append rs (range start size ∷ []))),
      (ends_with rs (range start size) (every-each (leb (length rs) most_seals ∷ seals_end rs ∷ []) h).1.0 e, tt),
    )

pub seal-keeps-sound : SealKeepsSound
unfolding add_seal
seal-keeps-sound start size B h = go (is_done (verdict (seal_checks start size B))) refl
  where
    go : (t : Bool) → is_done (verdict (seal_checks start size B)) ≡ t → sound_bench (cond t (with_seal start size B) B) ≡ true
    go true e =
        let p = passed (seal_checks start size B) refl e in
        sound-bench (with_seal start size B) (bench-sound B h)
        (seals-fit-with B.seals start size (bench-seals B h) p.1.0 (ltb-true (length B.seals) most_seals p.1.1.0))
    go false e = h
