use Rattle.report.proofs.Single.{one_report, one_answer, one_printed}
use Rattle.report.proofs.laws.one_report_stands.Goals as goal

pub returns : goal.returns
returns c = record { report = one_report; answer = one_answer c.layout_stands.ensures.written; printed = one_printed c.layout_stands.ensures.written }
