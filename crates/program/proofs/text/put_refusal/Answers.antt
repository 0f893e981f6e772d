-- `program::text::put_refusal` meets its contract.
-- Assumes nothing.
use Rattle.std.proofs.Common.{ℕ, length, ap, ◌∙◌}
use lib.Seq.{sets}
use Rattle.program.specs.Answer.{refuse_text}
use Rattle.program.proofs.RecordTexts.{refusal_wrote}
use Rattle.program.proofs.text.put_refusal.Goals as goal

pub returns : goal.returns
returns c =
    let w = c.put_word-at in
    let l = c.put_lines in
    let e = c.from.ensures ∙ c.number.ensures in
    let t = refusal_wrote c.from.result c.args.out.now _ _ _ _ w.ensures.value w.ensures.out_after l.ensures.value l.ensures.out_after in
    record {
      value = t.0 ∙ ap (λ (n : ℕ). length (refuse_text n)) e;
      out_after = t.1 ∙ ap (λ (n : ℕ). sets c.args.out.now 0 (refuse_text n)) e;
    }
