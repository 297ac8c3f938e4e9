use mathlib.Core.Path.{◌≡◌, sym, ap, ◌∙◌}
use mathlib.Core.Bool.{true}
use Prim.Native.Nat.{ℕ}
use Rattle.machine.specs.Setting.{mill}
use Rattle.unit_settings.specs.Parts.{size_stepped, size_scalars}
use Rattle.unit_settings.proofs.set_largest.Goals as goal

pub returns-then-is_mill : goal.returns-then-is_mill
returns-then-is_mill c =
    let e : mill c.args.m.mtype ≡ true = sym c.is_mill.ensures ∙ c.if-is_mill.true in
    record {
      value = rw e;
      scalars_after = rw e;
    }

pub largest-size-requires : goal.largest-size-requires
largest-size-requires c =
    record {
      ready = c.requires.ready;
      mtype_value = sym c.is_mill.ensures ∙ c.if-is_mill.false;
    }

pub returns : goal.returns
returns c =
    let a = c.args in
    record {
      value = c.set_size.ensures.value ∙ ap (size_stepped a.m a.dimension) c.largest-size.ensures;
      scalars_after = c.set_size.ensures.scalars_after ∙ ap (λ (x : ℕ). size_scalars a.m a.dimension x a.rd a.scalars.now) c.largest-size.ensures;
    }
