use Rattle.std.proofs.Common.{◌^◌, ◌<◌, length, rules}
use Rattle.report.proofs.Printing.{line_written}
use Rattle.report.proofs.answer.put_refusal.Goals as goal

pub returns : goal.returns
returns c =
    let small : c.args.refusal.number < 256 = search rules in
    let here : c.args.refusal.place < 2 ^ 64 = search rules in
    line_written c.args.refusal (length c.args.output.now) c.unwrap_or.result c.write_refusal.result c.write_refusal.new.output c.requires small here c.write_refusal.ensures c.unwrap_or.ensures
