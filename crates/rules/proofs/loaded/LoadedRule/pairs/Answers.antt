use Rattle.std.proofs.Common.{◌≡◌, sym, ap, ◌∙◌, take, arith}
use Rattle.rules.specs.Loaded.{no_term}
use Rattle.rules.proofs.Nths.{counted_take}
use Rattle.rules.proofs.loaded.LoadedRule.pairs.Goals as goal

pub returns-clause-meant : goal.returns-clause-meant
returns-clause-meant c = λ h.
    let whole : c.min.result ≡ c.args.self.now.pair_count = omega (arith, c.min.ensures) in
    ap (λ n. take n c.args.self.now.pairs) whole ∙ sym (counted_take (no_term, no_term) c.args.self.now.pairs c.args.self.now.pair_count (omega arith))
