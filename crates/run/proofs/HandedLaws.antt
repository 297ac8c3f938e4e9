-- Asking and a turn as Turn.antt defines them, with the word that is handed out as an argument: proofs go by its cases.
use Rattle.numbers.proofs.Kit.{cond, Option, none, some, Err}
use Rattle.numbers.specs.Blocks.{Choice}
use Rattle.machine.specs.declared.Refusal.TheVariants.{BadArguments}
use Rattle.machine.specs.Answers.{reply, done, Done}
use Rattle.machine.specs.Step.{Outcome, step_by}
use Rattle.run.specs.declared.Run.{Run}
use Rattle.run.specs.Words.{Op}
use Rattle.run.specs.Encoding.{own, handed_for}
use Rattle.run.specs.Turn.{moved, Ask, Running, running, Turn}

module _ (grant : Choice) where
  abbrev pub ask_with : Run → Option Op → Ask
  ask_with R o = elim o [
    | none ↦ record { answer = reply (Err BadArguments); handed = none; run = R }
    | some o ↦ record { answer = reply Done; handed = some (handed_for R.plan o); run = moved grant R }
  ]

  abbrev pub turn_with : Running → Option Op → Turn
  turn_with r o =
      let a : Ask = ask_with r.run o in
      elim a.handed [
        | none ↦ record { answer = a.answer; handed = none; after = r }
        | some h ↦ let out : Outcome = step_by grant h.word (own h) r.bench in
            record { answer = out.answer; handed = some h; after = running (cond (done out.answer) a.run r.run) out.bench }
      ]
