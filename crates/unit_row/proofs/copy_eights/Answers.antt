use Rattle.numbers.proofs.Kit.{◌≡◌, sym, ap, ◌∙◌, ◌+◌, ◌*◌, ℕ, arith, get_or, set}
use Rattle.numbers.specs.Upto.{upto}
use Rattle.numbers.proofs.PutLaws.{upto_add}
use Rattle.unit_row.proofs.copy_eights.Goals as goal

pub loop-eight-preserved : goal.loop-eight-preserved
loop-eight-preserved c =
    let a = c.args in
    let done : ℕ = 8 * c.loop-eight.eight in
    let next : done + 8 ≡ 8 * (c.loop-eight.eight + 1) = omega arith in
    c.copy_eight.ensures ∙ ap (upto 8 (λ b ys. set ys (done + b) (get_or a.src.now (done + b) 0))) c.loop-eight.invariant
    ∙ sym (upto_add done 8 (λ b ys. set ys b (get_or a.src.now b 0)) a.dst.now) ∙ ap (λ (n : ℕ). upto n (λ b ys. set ys b (get_or a.src.now b 0)) a.dst.now) next
