use Rattle.std.proofs.Common.{rules, ◌≡◌, ◌+◌, false, sym, ap, subst}
use Rattle.std.proofs.lemmas.Bool.{cond-false}
use Rattle.rules.specs.declared.term.Term.TheVariants.{Variable}
use Rattle.rules.specs.Doubled.{copied, holds}
use Rattle.rules.proofs.doubling.copied.Goals as goal

pub returns-in-Variable-2 : goal.returns-in-Variable-2
returns-in-Variable-2 c =
    let v = c.in-Variable-2.v in
    let left = c.args.left.now in
    let none : holds left v ≡ false = search rules in
    subst (λ t. Variable (32 + v) ≡ copied left t) (sym c.in-Variable-2.is) (ap Variable (sym (cond-false (holds left v) v (32 + v) none)))
