use Rattle.std.proofs.Common.{[], ◌∷◌, ap}
use Rattle.reader.specs.declared.desk.Counting.TheVariants as counting
use Rattle.reader.specs.Format.{count, kind, after_kind}
use Rattle.reader.proofs.Goings.{then_takes, both_take}
use Rattle.reader.proofs.desk.Desk.take_rule.Goals as goal

pub returns-in_ok-take_list-in-Functional : goal.returns-in_ok-take_list-in-Functional
returns-in_ok-take_list-in-Functional c =
    let r = c.take_list-in-Functional-2.result in
    let last = c.take_list-in-Functional-2.new.self in
    let lists = count counting.Left ∷ count counting.Right ∷ [] in
    then_takes c.in_ok-kind.kind (kind ∷ []) (count counting.Rows ∷ lists) after_kind (λ u. []) r c.args.self.now c.take_kind.new.self last c.in_ok-kind.ensures (ap after_kind c.in-Functional.is)
    (both_take (count counting.Rows) lists r c.take_kind.new.self c.take_list.new.self last c.in_ok-take_list.ensures
    (both_take (count counting.Left) (count counting.Right ∷ []) r c.take_list.new.self c.take_list-in-Functional.new.self last c.in_ok-take_list-in-Functional.ensures c.take_list-in-Functional-2.ensures))

pub returns-in-Equality : goal.returns-in-Equality
returns-in-Equality c =
    let r = c.take_list-in-Equality.result in
    let last = c.take_list-in-Equality.new.self in
    let lists = count counting.Pairs ∷ [] in
    then_takes c.in_ok-kind.kind (kind ∷ []) (count counting.Rows ∷ lists) after_kind (λ u. []) r c.args.self.now c.take_kind.new.self last c.in_ok-kind.ensures (ap after_kind c.in-Equality.is)
    (both_take (count counting.Rows) lists r c.take_kind.new.self c.take_list.new.self last c.in_ok-take_list.ensures c.take_list-in-Equality.ensures)
