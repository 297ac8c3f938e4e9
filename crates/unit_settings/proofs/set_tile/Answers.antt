use mathlib.Core.Path.{◌≡◌, sym, ap, ◌∙◌}
use mathlib.Core.Bool.{true, false}
use Prim.Native.Nat.{ℕ}
use lib.Dec.{eqb}
use borrow.Author.Tests.{eq-eqb, ne_eqb}
use Rattle.unit_settings.specs.Parts.{size_stepped, size_scalars}
use Rattle.unit_settings.proofs.set_tile.Goals as goal

pub returns-then-rs1-ne0 : goal.returns-then-rs1-ne0
returns-then-rs1-ne0 c =
    let a = c.args in
    let t : eqb a.rs1 0 ≡ false = ne_eqb a.rs1 0 c.if-rs1-ne0.true in
    record {
      value = c.set_size.ensures.value ∙ ap (size_stepped a.m a.dimension) c.read_scalar-asked.ensures ∙ sym (rw t);
      scalars_after = c.set_size.ensures.scalars_after ∙ ap (λ (x : ℕ). size_scalars a.m a.dimension x a.rd a.scalars.now) c.read_scalar-asked.ensures ∙ sym (rw t);
    }

pub returns-then-rd-ne0 : goal.returns-then-rd-ne0
returns-then-rd-ne0 c =
    let a = c.args in
    let t : eqb a.rs1 0 ≡ true = eq-eqb a.rs1 0 c.if-rs1-ne0.false in
    let u : eqb a.rd 0 ≡ false = ne_eqb a.rd 0 c.if-rd-ne0.true in
    record {
      value = c.set_largest.ensures.value ∙ sym (rw (t, u));
      scalars_after = c.set_largest.ensures.scalars_after ∙ sym (rw (t, u));
    }

pub returns : goal.returns
returns c =
    let a = c.args in
    let t : eqb a.rs1 0 ≡ true = eq-eqb a.rs1 0 c.if-rs1-ne0.false in
    let u : eqb a.rd 0 ≡ true = eq-eqb a.rd 0 c.if-rd-ne0.false in
    record {
      value = c.cut_size.ensures ∙ sym (rw (t, u));
      scalars_after = sym (rw (t, u));
    }
