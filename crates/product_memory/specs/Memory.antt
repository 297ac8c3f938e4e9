-- Where `product` lays its matrices in a memory of 3,072 bytes: A from 0, B from 1024, C from 2048, their rows one after another.
use Rattle.std.specs.Prelude.{◌*◌, ◌/◌}
use Rattle.numbers.specs.Kit.{List, ℕ}
use Rattle.numbers.specs.Tile.{put_row}
use Rattle.machine.specs.Geometry.{Parameters, parameters_of}
use Rattle.machine.specs.Setting.{smaller}
use Rattle.run.specs.declared.Plan.{Plan}
use Rattle.run.specs.Plan.{Job}

-- the plan for the numbers that `product` reads
abbrev pub plan_for : (sew f m k n : ℕ) → Plan
plan_for sew f m k n = record {
  kind = 0;
  sew = sew;
  factor = f;
  m = m;
  k = k;
  n = n;
  a = record { address = 0; stride = k * (sew / 8) };
  b = record { address = 1024; stride = n * (sew / 8) };
  c = record { address = 2048; stride = n * (f * (sew / 8)) };
}

-- "The machine is MLEN 256, RLEN 64.", with ELEN 32, as every machine had it before 02, Ten, and no seal
abbrev pub product_machine : Parameters
product_machine = parameters_of smaller 64 256 32

-- its run on a memory
abbrev pub job_for : (sew f m k n : ℕ) → List ℕ → Job
job_for sew f m k n mem = record { parameters = product_machine; plan = plan_for sew f m k n; memory = mem }

-- A, m by k, and then B, k by n, written to their places by rows, in elements of w bytes
abbrev pub filled : (w m k n : ℕ) → (a b : ℕ → ℕ) → List ℕ → List ℕ
filled w m k n a b mem = put_row 1024 (k * n) w b (put_row 0 (m * k) w a mem)
