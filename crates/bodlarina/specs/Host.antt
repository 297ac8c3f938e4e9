-- The version that bodlarina_version returns, and the plan in a call's numbers (include/bodlarina.h). What the other C functions answer and leave
-- is defined in bench_calls, run_calls, turn_calls, image_calls, salvage_calls and text_calls.
use Rattle.std.specs.Prelude.{ℕ}
use Rattle.run.specs.declared.Plan.{Plan}

-- ---- the version

-- what a call of bodlarina_version returns: 10,000 times the major number, 100 times the minor one, and the patch number. 0.8.0
abbrev pub host_version : ℕ
host_version = 800

-- ---- a plan

-- the plan in a call's numbers
abbrev pub plan_in : (kind sew factor m k n a aStride b bStride c cStride : ℕ) → Plan
plan_in kind sew factor m k n a aStride b bStride c cStride = record {
  kind = kind;
  sew = sew;
  factor = factor;
  m = m;
  k = k;
  n = n;
  a = record { address = a; stride = aStride };
  b = record { address = b; stride = bStride };
  c = record { address = c; stride = cStride };
}
