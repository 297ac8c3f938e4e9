use native.Mathlib.Omega.{arith}
use Rattle.unit_settings.proofs.TypeLaws.{sew-is, msew-small}
use Rattle.unit_settings.proofs.sew_bytes.Goals as goal

pub returns-then-msew-eq1 : goal.returns-then-msew-eq1
returns-then-msew-eq1 c =
    record {
      value = sew-is c.args.mtype 1 c.if-msew-eq1.true;
      result_nonzero = omega arith;
    }

pub returns-then-msew-eq2 : goal.returns-then-msew-eq2
returns-then-msew-eq2 c =
    record {
      value = sew-is c.args.mtype 2 c.if-msew-eq2.true;
      result_nonzero = omega arith;
    }

pub returns-then-msew-eq3 : goal.returns-then-msew-eq3
returns-then-msew-eq3 c =
    record {
      value = sew-is c.args.mtype 3 c.if-msew-eq3.true;
      result_nonzero = omega arith;
    }

pub returns : goal.returns
returns c =
    record {
      value = sew-is c.args.mtype 0 (omega (arith, msew-small c.args.mtype c.requires));
      result_nonzero = omega arith;
    }
