use Rattle.std.proofs.Common.{◌≡◌, IfOk, vec_items, ◌∙◌, subst}
use Rattle.reader.specs.Format.{read_text}
use Rattle.reader.specs.Reads.{Lengths, lengths_of, rooms_in}
use Rattle.summary.specs.Summary.{Said, Summarized, most_lent}
use Rattle.summary.proofs.summary.summarize.Goals as goal

pub returns : goal.returns
unfolding Summarized
returns c =
    let text = c.args.text.now in
    let a = c.as_mut_slice.ensures.len ∙ c.in_ok-rules.ensures.len in
    let b = c.as_mut_slice-2.ensures.len ∙ c.in_ok-targets.ensures.len in
    let d = c.as_mut_slice-3.ensures.len ∙ c.in_ok-names.ensures.len in
    let most : lengths_of c.as_mut_slice.result.now c.as_mut_slice-2.result.now c.as_mut_slice-3.result.now ≡ most_lent = (λ i. record { rules = a i; targets = b i; names = d i }) in
    subst (λ (n : Lengths). IfOk c.summarize_in.result (λ v. Said text (read_text (rooms_in n) text) (vec_items v))) most c.summarize_in.ensures
