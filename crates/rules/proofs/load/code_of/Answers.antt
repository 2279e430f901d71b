use Rattle.std.proofs.Common.{◌+◌, sym, subst}
use Rattle.rules.specs.Loaded.{Codes}
use Rattle.rules.proofs.Codes.{code_constant, code_variable}
use Rattle.rules.proofs.load.code_of.Goals as goal

pub returns-in-Constant : goal.returns-in-Constant
returns-in-Constant c = subst (λ t. Codes t c.in-Constant.c) (sym c.in-Constant.is) (code_constant c.in-Constant.c)

pub returns-in-Variable : goal.returns-in-Variable
returns-in-Variable c = subst (λ t. Codes t (16777216 + c.in-Variable.v)) (sym c.in-Variable.is) (code_variable c.in-Variable.v)
