-- The bench sheet's starred lines and 01's product example, by computation.
use Rattle.numbers.proofs.Kit.{refl}
use Rattle.numbers.specs.Reduce.{reduce}
use Rattle.numbers.specs.Tile.{put_tile, put_row, put_le, mark_tile, mark_row}
use Rattle.numbers.specs.Blocks.{chunks}
use Rattle.machine.specs.Geometry.{permitted}
use Rattle.machine.specs.Setting.{sew, new_type, legal_type, chosen}
use Rattle.machine.specs.TransferWords.{width_of}
use Rattle.machine.specs.ArithmeticWords.{width_ok}
use Rattle.machine.specs.Memory.{inside, misses, rows_miss, distinct, stored}
use Rattle.machine.specs.Refusals.{marked}
use Rattle.machine.specs.Listing.{decode, listing}
use Rattle.machine.specs.Faults.{sound, seals_fit}
use Rattle.machine.specs.Starting.{start_machine, startable}
use Rattle.machine.specs.Step.{step_by, outcome}
use Rattle.run.specs.Plan.{narrow, msew, type_of}
use Rattle.run.specs.Start.{start_run, format, kind_fit, planned, lying, apart, separate}
use Rattle.run.specs.Turn.{sound_run}
use Rattle.run.specs.Sheet.{sheet, bench, M, scalars, plan, started, c, counts, BenchSheet, ProductExample}

pub bench-sheet : BenchSheet
unfolding sheet bench M scalars plan started c counts chosen permitted sew new_type legal_type width_ok width_of inside misses rows_miss distinct stored marked listing decode sound seals_fit start_machine startable step_by outcome narrow msew type_of start_run sound_run format kind_fit planned lying apart separate chunks put_tile put_row put_le mark_tile mark_row reduce
bench-sheet = refl

pub product-example : ProductExample
unfolding bench plan started c chosen permitted sew new_type legal_type width_ok width_of inside misses rows_miss distinct stored marked listing decode sound seals_fit start_machine startable step_by outcome narrow msew type_of start_run sound_run format kind_fit planned lying apart separate chunks put_tile put_row put_le mark_tile mark_row reduce
product-example = refl
