use Rattle.numbers.proofs.Kit.{inl, inr}
use types.Run.{OneOf}
use Rattle.machine.specs.Vectors.{group_sizes}
use Rattle.machine.proofs.MatchLaws.{one_of, none_of}
use Rattle.unit_step.proofs.is_group.Goals as goal

pub returns-in-1 : goal.returns-in-1
returns-in-1 c = one_of group_sizes c.args.group (inl c.in-1.is)

pub returns-in-2 : goal.returns-in-2
returns-in-2 c = one_of group_sizes c.args.group (inr (inl c.in-2.is))

pub returns-in-4 : goal.returns-in-4
returns-in-4 c = one_of group_sizes c.args.group (inr (inr (inl c.in-4.is)))

pub returns-in-8 : goal.returns-in-8
returns-in-8 c = one_of group_sizes c.args.group (inr (inr (inr c.in-8.is)))

pub returns-in_default : goal.returns-in_default
returns-in_default c = none_of group_sizes c.args.group none
  where
    none : OneOf group_sizes c.args.group → ⊥
    none (inl z) = c.in_default.in_default-own.rest.0.0.0.1 z
    none (inr (inl z)) = c.in_default.in_default-own.rest.0.0.1 z
    none (inr (inr (inl z))) = c.in_default.in_default-own.rest.0.1 z
    none (inr (inr (inr z))) = c.in_default.in_default-own.rest.1 z
