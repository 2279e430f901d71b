use Rattle.std.proofs.Common.{◌≡◌, sym, ap, ◌∙◌, take, arith}
use Rattle.rules.proofs.Nths.{counted_take}
use Rattle.rules.proofs.loaded.LoadedRule.left.Goals as goal

pub returns-clause-meant : goal.returns-clause-meant
returns-clause-meant c = λ h.
    let whole : c.min.result ≡ c.args.self.now.left_count = omega (arith, c.min.ensures) in
    ap (λ n. take n c.args.self.now.left) whole ∙ sym (counted_take 0 c.args.self.now.left c.args.self.now.left_count (omega arith))
