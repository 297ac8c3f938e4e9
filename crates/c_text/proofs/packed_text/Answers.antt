use Rattle.numbers.proofs.Kit.{refl, sym, ap, ◌∙◌}
use Rattle.std.specs.Prelude.{Ok, Err}
use Rattle.text_assembly.specs.Answers.{text_reply}
use Rattle.text_answers.proofs.CodeLaws.{number-some}
use Rattle.c_text.specs.TextCalls.{packed_result}
use Rattle.c_text.proofs.CallLaws.{packs-size, packs-column}
use Rattle.c_text.proofs.packed_text.Goals as goal

pub returns-in-Ok : goal.returns-in-Ok
returns-in-Ok c = packs-size (text_reply (Ok tt)) c.in-Ok.size refl ∙ sym (ap packed_result c.in-Ok.is)

pub returns-in-Err : goal.returns-in-Err
returns-in-Err c =
    packs-column (text_reply (Err c.in-Err.error)) c.error_number.result c.error_column.result 0 c.error_number.ensures c.error_column.ensures (λ k. number-some c.in-Err.error (sym c.error_number.ensures ∙ k))
    ∙ sym (ap packed_result c.in-Err.is)
