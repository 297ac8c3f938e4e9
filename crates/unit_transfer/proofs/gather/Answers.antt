use Rattle.numbers.proofs.Kit.{◌≡◌, refl, sym, ap, ◌∙◌, ℕ, ◌+◌, ◌*◌, ◌%◌, ◌^◌, ◌≤◌, arith, length}
use Rattle.numbers.specs.Tile.{get_le, put_row}
use Rattle.numbers.proofs.PutLaws.{row_fits}
use Rattle.numbers.proofs.ElementLaws.{put_row-next}
use Rattle.machine.specs.Memory.{row_at}
use Rattle.machine.proofs.MemoryLaws.{inside-at}
use Rattle.unit_transfer.proofs.WalkLaws.{width_some, first-at, next-at}
use Rattle.unit_transfer.proofs.gather.Goals as goal
use Rattle.unit_transfer.proofs.gather.Goals.{In-loop-j}

pub loop-j-init : goal.loop-j-init
unfolding put_row
loop-j-init c = (λ l. sym (first-at c.args.base c.args.stride), refl)

-- the element lies in both
here : (c : In-loop-j) →
    let a = c.args in
    let l = c.loop-j in
    (l.j * a.w + a.w ≤ length a.dst.now) × (l.from ≡ row_at a.base a.stride l.j) × (l.from + a.w ≤ length a.src.now)
here c =
    let a = c.args in
    let l = c.loop-j in
    let e = l.invariant.0 c.loop-j-test.true in
    let r = inside-at (length a.src.now) a.base a.stride a.n a.w c.requires.w_value (width_some a.w c.requires.width) l.j c.loop-j-test.true in
    (omega (arith, c.requires.w_in_bounds, row_fits l.j a.n a.w c.loop-j-test.true), e, omega (arith, e, r.1))

pub overflow_mul-j : goal.overflow_mul-j
overflow_mul-j c = let h = here (goal.at.overflow_mul-j c).In-loop-j in omega arith

pub copy_element-requires : goal.copy_element-requires
copy_element-requires c =
    let h = here (goal.at.copy_element-requires c).In-loop-j in
    record {
      width = c.requires.width;
      w_in_bounds = omega arith;
      w_in_bounds_2 = h.2;
    }

pub loop-j-preserved : goal.loop-j-preserved
loop-j-preserved c =
    let a = c.args in
    let l = c.loop-j in
    let h = here (goal.at.loop-j-preserved c).In-loop-j in (
      λ m. c.wrapping_add_u64-from.ensures.value ∙ ap (λ (x : ℕ). (x + a.stride) % 2 ^ 64) h.1
          ∙ next-at (length a.src.now) a.base a.stride a.n a.w c.requires.w_value (width_some a.w c.requires.width) (omega arith) (omega arith) l.j m,
      put_row-next a.w a.dst.now l.dst _ (λ j. get_le a.src.now (row_at a.base a.stride j) a.w) 0 l.j (l.j * a.w) (get_le a.src.now l.from a.w) l.invariant.1 (omega arith)
          (ap (λ (p : ℕ). get_le a.src.now p a.w) h.1) c.copy_element.ensures,
    )
