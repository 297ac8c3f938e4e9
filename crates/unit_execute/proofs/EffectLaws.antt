-- Arithmetic: what the tile functions require, and what they leave is the effect of the definitions.
use Rattle.numbers.proofs.Kit.{◌≡◌, refl, sym, ap, ap₂, ◌∙◌, subst, Bool, true, false, List, [], ℕ, ◌+◌, ◌*◌, ◌/◌, ◌≤◌, ◌<◌, one-mul, arith, eqb, leb}
use Rattle.numbers.proofs.Kit.{length, get_or, set, set-get_or, ℤ, pos, eqb-true, le-leb, leb-true}
use Rattle.numbers.specs.Upto.{upto}
use Rattle.numbers.specs.Tile.{put_tile, mark_row, mark_tile}
use Rattle.numbers.proofs.UptoLaws.{upto-keeps}
use Rattle.machine.specs.Tests.{all}
use Rattle.machine.specs.Refusals.{marked}
use Rattle.machine.specs.ArithmeticWords.{width_ok, float_product_at, is_zero}
use Rattle.machine.proofs.TestLaws.{all-at, each_in}
use Rattle.machine.specs.declared.Machine.{Machine}
use Rattle.machine.specs.declared.Sum.{Sum}
use Rattle.machine.specs.Answers.{verdict, is_done, Answer, Done}
use Rattle.machine.specs.Geometry.{elens, State, state_of, acc_at}
use Rattle.machine.specs.Setting.{sew, chosen}
use Rattle.machine.specs.Operation.{Operation}
use Rattle.machine.specs.Meanings.{state_after, checks}
use Rattle.machine.specs.Faults.{sound}
use Rattle.machine.proofs.CheckLaws.{Passed, passed}
use Rattle.machine.proofs.CodeLaws.{only-done}
use Rattle.machine.proofs.NoFault.{Sound, sound-is}
use Rattle.machine.proofs.StepLaws.{permitted-lengths}
use Rattle.numbers.specs.Bounds.{most_pitch, most_size}
use Rattle.unit_element.specs.Element.{Width}
use Rattle.unit_arithmetic.specs.Effect.{shape, product_tile, combine_tile, scale_tile}
use Rattle.unit_floats.specs.Rows.{float_tile}
use Rattle.unit_arithmetic.proofs.Arms.{multiply-ready, combine-ready, scale-ready}
use Rattle.unit_settings.specs.Parts.{ours}
use Rattle.unit_checks.specs.Parts.{MarksReady, product_checks, float_checks, combine_checks, scale_checks}
use Rattle.unit_execute.specs.Parts.{WritesRegisters, registers_after}
use Rattle.unit_settings.proofs.FaultLaws.{ready}
use Rattle.unit_settings.proofs.TypeLaws.{ready-elen}

pub marked-at : (ms : List ℕ) (at : ℕ → ℕ) (rows n : ℕ) → marked ms at rows n ≡ true → (i b : ℕ) → i < rows → b < n → get_or ms (at i + b) 0 ≡ 1
unfolding marked
marked-at ms at rows n h i b l l' =
    eqb-true (get_or ms (at i + b) 0) 1 (all-at n (λ b. eqb (get_or ms (at i + b) 0) 1) (all-at rows (λ i. all n (λ b. eqb (get_or ms (at i + b) 0) 1)) h i l) b l')

-- marking what is marked changes nothing
mark-again : (ms : List ℕ) (at : ℕ → ℕ) (rows n : ℕ) → marked ms at rows n ≡ true → ms ≡ mark_tile at rows n ms
unfolding mark_tile mark_row
mark-again ms at rows n h =
    upto-keeps (λ ys. ms ≡ ys) rows (λ i ys. upto n (λ b zs. set zs (at i + b) 1) ys) ms
    (λ i l ys e. upto-keeps (λ zs. ms ≡ zs) n (λ b zs. set zs (at i + b) 1) ys (λ b l' zs e'. again i l b l' ∙ ap (λ (zs : List ℕ). set zs (at i + b) 1) e') e) refl
  where
    again : (i : ℕ) → i < rows → (b : ℕ) → b < n → ms ≡ set ms (at i + b) 1
    again i l b l' = sym (set-get_or ms (at i + b) 0) ∙ ap (set ms (at i + b)) (marked-at ms at rows n h i b l l')

module _ (m : Machine) (regs marks : List ℕ) (h : sound m regs marks ≡ true) where
  abbrev R : ℕ
  R = m.mlen / m.rlen

  abbrev P : ℕ
  P = m.rlen / 8

  abbrev st : State
  st = state_of m regs marks

  s : Sound m regs marks
  s = sound-is m regs marks h

  pub marks-ready : MarksReady m marks
  marks-ready = record { of-machine = ready m regs marks h; of_length = s.state.marks-length ∙ sym (permitted-lengths m.rlen m.mlen m.elen s.lengths).2 }

  -- refused
  pub arithmetic-refused : (o : Operation) (a : Answer) → ((z : ℕ → Bool) → a ≡ verdict (checks (ours m) z o st [])) → is_done a ≡ false → WritesRegisters m o regs marks [] a regs marks
  arithmetic-refused o a e d = record { answer-is = e; registers-are = rw d; marks-are = rw d }

  done : (o : Operation) → ((z : ℕ → Bool) → is_done (verdict (checks (ours m) z o st [])) ≡ true) → (regs' marks' : List ℕ)
      → regs' ≡ (state_after (ours m) o st []).regs → marks' ≡ (state_after (ours m) o st []).marks → WritesRegisters m o regs marks [] Done regs' marks'
  done o d regs' marks' er em = record { answer-is = λ z. sym (only-done (verdict (checks (ours m) z o st [])) (d z)); registers-are = er; marks-are = em }

  -- a float multiply that passed has elements of four bytes
  module _ (d a b : ℕ) (p : is_done (verdict (float_checks m marks d a b)) ≡ true) where
    passes : Passed (float_checks m marks d a b)
    passes = passed (float_checks m marks d a b) refl p

    four : sew m.mtype ≡ 4
    four = let e = eqb-true (8 * sew m.mtype) 32 passes.1.0 in omega arith

    pub float-asks : (d < 2) × ((a < 8) × (b < 8)) → ((d < 2) × ((a < 8) × (b < 8))) × (((R * P ≤ most_size) × ((P ≤ most_pitch) × (length regs ≡ 16 * (R * P))))
        × (((m.tile_m ≤ R) × ((m.tile_k ≤ R) × (m.tile_k ≤ most_pitch))) × ((m.tile_n * 4 ≤ P) × (m.tile_k * 4 ≤ P))))
    unfolding width_ok
    float-asks l =
        let most = leb-true 32 m.elen (each_in m.elen elens (leb 32) refl (ready-elen m (ready m regs marks h))) in
        let q = multiply-ready chosen m regs marks [] h 1 d a b l (passes.0, (rw (le-leb (1 * (8 * sew m.mtype)) m.elen (omega (arith, four))), passes.1.1)) in
        let t = q.1.1.1.1.1 in
        (q.0, (q.1.0, (t.0, subst (λ (w : ℕ). (m.tile_n * w ≤ P) × (m.tile_k * w ≤ P)) four t.1.1)))

    pub float-registers : (regs' : List ℕ) → regs' ≡ float_tile (shape R P) d a b m.tile_m m.tile_k m.tile_n regs → regs' ≡ registers_after m (Operation.float_multiply d a b) regs
    unfolding float_tile
    float-registers regs' er =
        er ∙ ap (λ (w : ℕ). put_tile (acc_at (shape R P) d) m.tile_m m.tile_n w (float_product_at (shape R P) regs w d a b m.tile_k) regs) (sym four)

    pub float-loads : (regs' : List ℕ) → regs' ≡ registers_after m (Operation.float_multiply d a b) regs → WritesRegisters m (Operation.float_multiply d a b) regs marks [] Done regs' marks
    float-loads regs' er =
        done (Operation.float_multiply d a b) (λ z. p) regs' marks er
        (subst (λ (w : ℕ). marks ≡ mark_tile (acc_at (ours m) d) m.tile_m (m.tile_n * w) marks) (one-mul (sew m.mtype))
        (mark-again marks (acc_at (ours m) d) m.tile_m (m.tile_n * (1 * sew m.mtype)) passes.1.1.1.1.1.1.1.0))

  -- a multiply reads each byte that it writes, so the marks stay
  pub product-loads : (f d a b : ℕ) → is_done (verdict (product_checks m marks f d a b)) ≡ true → (regs' : List ℕ) → regs' ≡ registers_after m (Operation.multiply f d a b) regs
      → WritesRegisters m (Operation.multiply f d a b) regs marks [] Done regs' marks
  product-loads f d a b p regs' er =
      done (Operation.multiply f d a b) (λ z. p) regs' marks er
      (mark-again marks (acc_at (ours m) d) m.tile_m (m.tile_n * (f * sew m.mtype)) (passed (checks (ours m) (λ q. false) (Operation.multiply f d a b) st []) refl p).1.1.1.1.1.1.1.0)

  -- a width and a factor as the code has them
  module _ (f w f' : ℕ) (ef : f' ≡ f) (ew : w ≡ sew m.mtype) where
    wide_is : f' * w ≡ f * sew m.mtype
    wide_is = ap₂ ◌*◌ ef ew

    module _ (d a b : ℕ) (p : is_done (verdict (product_checks m marks f d a b)) ≡ true) where
      abbrev tm : ℕ
      tm = m.tile_m

      abbrev tk : ℕ
      tk = m.tile_k

      abbrev tn : ℕ
      tn = m.tile_n

      abbrev Asked : ℕ → ℕ → Type 0
      Asked f w = ((d < 2) × ((a < 8) × (b < 8))) × (((R * P ≤ most_size) × ((P ≤ most_pitch) × (length regs ≡ 16 * (R * P)))) × (Width w × (Width (f * w) × ((f ≤ 4)
          × (((tm ≤ R) × ((tk ≤ R) × (tk ≤ most_pitch))) × ((tn ≤ most_pitch) × ((tn * w ≤ P) × (tk * w ≤ P))))))))

      pub product-asks : (d < 2) × ((a < 8) × (b < 8)) → Asked f' w
      product-asks l =
          subst (λ (x : ℕ). Asked x w) (sym ef) (subst (λ (y : ℕ). Asked f y) (sym ew)
          (multiply-ready chosen m regs marks [] h f d a b l (passed (checks (ours m) (λ q. false) (Operation.multiply f d a b) st []) refl p)))

      pub product-registers : (regs' : List ℕ) → regs' ≡ product_tile (shape R P) (f' * w) w d a b tm tk tn regs → regs' ≡ registers_after m (Operation.multiply f d a b) regs
      unfolding product_tile
      product-registers regs' er = er ∙ ap₂ (λ (x y : ℕ). product_tile (shape R P) x y d a b tm tk tn regs) wide_is ew

    -- the element-wise instructions ask the same of md and ms1
    abbrev Elementwise : ℕ → ℕ → ℕ → ℕ → Type 0
    Elementwise d a f w = ((d < 2) × (a < 2)) × (((R * P ≤ most_size) × ((P ≤ most_pitch) × (length regs ≡ 16 * (R * P)))) × (Width w × (Width (f * w) × ((f ≤ 4)
        × ((m.tile_m ≤ R) × ((m.tile_n ≤ most_pitch) × (m.tile_n * w ≤ P)))))))

    elementwise-asks : (d a : ℕ) → Elementwise d a f (sew m.mtype) → Elementwise d a f' w
    elementwise-asks d a q = subst (λ (x : ℕ). Elementwise d a x w) (sym ef) (subst (λ (y : ℕ). Elementwise d a f y) (sym ew) q)

    module _ (o : Sum) (d a : ℕ) (p : is_done (verdict (combine_checks m marks f d a)) ≡ true) where
      pub combine-asks : (d < 2) × (a < 2) → Elementwise d a f' w
      combine-asks l = elementwise-asks d a (combine-ready chosen m regs marks [] h o f d a l (passed (checks (ours m) (λ q. false) (Operation.combine o f d a) st []) refl p))

      -- and so does an add or a subtract
      pub combine-loads : (regs' : List ℕ) → regs' ≡ combine_tile (shape R P) o (f' * w) w d a m.tile_m m.tile_n regs
          → WritesRegisters m (Operation.combine o f d a) regs marks [] Done regs' marks
      unfolding combine_tile
      combine-loads regs' er =
          done (Operation.combine o f d a) (λ z. p) regs' marks
          (er ∙ ap₂ (λ (x y : ℕ). combine_tile (shape R P) o x y d a m.tile_m m.tile_n regs) wide_is ew)
          (mark-again marks (acc_at (ours m) d) m.tile_m (m.tile_n * (f * sew m.mtype)) (passed (checks (ours m) (λ q. false) (Operation.combine o f d a) st []) refl p).1.1.1.1.1.0)

    module _ (d a x : ℕ) (p : is_done (verdict (scale_checks m marks f a (eqb x 0))) ≡ true) where
      checks-are : (z : ℤ) → is_zero z ≡ eqb x 0 → is_done (verdict (checks (ours m) (λ q. false) (Operation.scale f d a z) st [])) ≡ true
      checks-are z e = subst (λ (t : Bool). is_done (verdict (scale_checks m marks f a t)) ≡ true) (sym e) p

      pub scale-asks : (d < 2) × (a < 2) → Elementwise d a f' w
      scale-asks l = elementwise-asks d a (go (eqb x 0) refl)
        where
          by : (z : ℤ) → is_zero z ≡ eqb x 0 → Elementwise d a f (sew m.mtype)
          by z e = scale-ready chosen m regs marks [] h f d a z l (passed (checks (ours m) (λ q. false) (Operation.scale f d a z) st []) refl (checks-are z e))

          go : (t : Bool) → eqb x 0 ≡ t → Elementwise d a f (sew m.mtype)
          go true e = by (pos 0) (sym e)
          go false e = by (pos 1) (sym e)

      pub scale-loads : (z : ℤ) → is_zero z ≡ eqb x 0 → (regs' marks' : List ℕ) → regs' ≡ scale_tile (shape R P) (f' * w) w d a z m.tile_m m.tile_n regs
          → marks' ≡ mark_tile (acc_at (ours m) d) m.tile_m (m.tile_n * (f' * w)) marks
          → WritesRegisters m (Operation.scale f d a z) regs marks [] Done regs' marks'
      unfolding scale_tile
      scale-loads z ez regs' marks' er em =
          done (Operation.scale f d a z) (λ _. checks-are z ez) regs' marks'
          (er ∙ ap₂ (λ (x y : ℕ). scale_tile (shape R P) x y d a z m.tile_m m.tile_n regs) wide_is ew)
          (em ∙ ap (λ (x : ℕ). mark_tile (acc_at (ours m) d) m.tile_m (m.tile_n * x) marks) wide_is)

  pub scale-refused : (f d a x : ℕ) (z : ℤ) → is_zero z ≡ eqb x 0 → (r : Answer) → r ≡ verdict (scale_checks m marks f a (eqb x 0)) → is_done r ≡ false
      → WritesRegisters m (Operation.scale f d a z) regs marks [] r regs marks
  scale-refused f d a x z e r er h = arithmetic-refused (Operation.scale f d a z) r (λ _. er ∙ ap (λ (t : Bool). verdict (scale_checks m marks f a t)) (sym e)) h
