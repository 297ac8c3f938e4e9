use Rattle.numbers.proofs.Kit.{sym, ap, ◌∙◌}
use Rattle.c_run_blocks.specs.RunBlocks.{spot_of}
use Rattle.c_run_blocks.proofs.spot_of.Goals as goal

pub returns-in-AtType : goal.returns-in-AtType
returns-in-AtType c = c.spot_at.ensures ∙ ap spot_of (sym c.in-AtType.is)

pub returns-in-AtM : goal.returns-in-AtM
returns-in-AtM c = c.spot_at-in-AtM.ensures ∙ ap spot_of (sym c.in-AtM.is)

pub returns-in-AtN : goal.returns-in-AtN
returns-in-AtN c = c.spot_at-in-AtN.ensures ∙ ap spot_of (sym c.in-AtN.is)

pub returns-in-AtClear : goal.returns-in-AtClear
returns-in-AtClear c = c.spot_at-in-AtClear.ensures ∙ ap spot_of (sym c.in-AtClear.is)

pub returns-in-AtK : goal.returns-in-AtK
returns-in-AtK c = c.spot_at-in-AtK.ensures ∙ ap spot_of (sym c.in-AtK.is)

pub returns-in-AtA : goal.returns-in-AtA
returns-in-AtA c = c.spot_at-in-AtA.ensures ∙ ap spot_of (sym c.in-AtA.is)

pub returns-in-AtB : goal.returns-in-AtB
returns-in-AtB c = c.spot_at-in-AtB.ensures ∙ ap spot_of (sym c.in-AtB.is)

pub returns-in-AtMultiply : goal.returns-in-AtMultiply
returns-in-AtMultiply c = c.spot_at-in-AtMultiply.ensures ∙ ap spot_of (sym c.in-AtMultiply.is)

pub returns-in-AtStore : goal.returns-in-AtStore
returns-in-AtStore c = c.spot_at-in-AtStore.ensures ∙ ap spot_of (sym c.in-AtStore.is)

pub returns-in-AtEnd : goal.returns-in-AtEnd
returns-in-AtEnd c = c.spot_at-in-AtEnd.ensures ∙ ap spot_of (sym c.in-AtEnd.is)
