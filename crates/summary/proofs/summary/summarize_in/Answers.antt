use Rattle.std.proofs.Common.{ℕ, List, ◌++◌, take, vec_items, ap, ◌∙◌}
use Rattle.sheets.specs.Reads.{sheet_meaning}
use Rattle.reader.specs.Lists.{words_in}
use Rattle.reader.specs.Reads.{lengths}
use Rattle.summary.specs.Summary.{summary_text, refused_text}
use Rattle.summary.proofs.Sayings.{said_read, said_refused}
use Rattle.summary.proofs.summary.summarize_in.Goals.{in-Ok+in_ok-push_sheets-in-Ok, in-Err+in_ok-push_refused-in-Err}
use Rattle.summary.proofs.summary.summarize_in.Goals as goal

pub returns : goal.returns
returns c =
    let text = c.args.text.now in
    let lent = c.read.new.lent in
    elim c.match-read.branch [
      | in-Ok+in_ok-push_sheets-in-Ok w ↦
          let said = summary_text (sheet_meaning lent.rules.now) (sheet_meaning lent.targets.now) (words_in text (take w.in-Ok.sizes.names lent.names.now)) in
          said_read text (lengths c.args.lent.now) w.in-Ok.sizes lent.rules.now lent.targets.now lent.names.now _ w.in-Ok.ensures.reads w.in-Ok.ensures.tells
          (ap vec_items w.out-is ∙ (w.in_ok-push_sheets-in-Ok.ensures ∙ ap (λ (xs : List ℕ). xs ++ said) c.new-out.ensures.items))
      | in-Err+in_ok-push_refused-in-Err w ↦
          said_refused text (lengths c.args.lent.now) w.in-Err.fault lent.rules.now lent.targets.now lent.names.now _ w.in-Err.ensures.reads
          (ap vec_items w.out-is ∙ (w.in_ok-push_refused-in-Err.ensures ∙ ap (λ (xs : List ℕ). xs ++ refused_text text w.in-Err.fault) c.new-out.ensures.items))
    ]
