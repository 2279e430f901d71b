use Rattle.std.proofs.Common.{◌+◌, ◌*◌, ◌==◌, get_or, sym, ap, ◌∙◌, arith}
use Rattle.sheets.specs.Walk.{pair_size}
use Rattle.sheets.specs.Reads.{pair_in, kind_of, pair_place}
use Rattle.sheets.specs.Slots.{slots_past}
use Rattle.sheets.proofs.Sides.{pair_functional, pair_equality}
use Rattle.sheets.proofs.reads.RuleWords.pair.Goals as goal

pub returns-then-k-self : goal.returns-then-k-self
returns-then-k-self c =
    let words = c.args.self.now.words.now in
    let place = pair_place words c.args.self.now.width c.args.self.now.at in
    let e = ap (λ p. get_or words p 0) c.pair_place-place.ensures in
    sym (slots_past (pair_in (kind_of (get_or words c.args.self.now.at 0)) words) (pair_size (get_or words c.args.self.now.at 0)) (get_or words place 0) (place + 1) c.args.k (omega arith))

pub returns-in-Functional : goal.returns-in-Functional
returns-in-Functional c =
    let words = c.args.self.now.words.now in
    let place = pair_place words c.args.self.now.width c.args.self.now.at in
    let e = ap (λ p. get_or words p 0) c.pair_place-place.ensures in
    let h = pair_functional words (get_or words c.args.self.now.at 0 == 1) (get_or words place 0) place c.args.k (c.pair_place-place.result + 1 + c.args.k) (omega arith) (sym c.kind.ensures ∙ c.in-Functional.is) (omega arith) in
    cc

pub returns-in-Equality : goal.returns-in-Equality
returns-in-Equality c =
    let words = c.args.self.now.words.now in
    let place = pair_place words c.args.self.now.width c.args.self.now.at in
    let e = ap (λ p. get_or words p 0) c.pair_place-place.ensures in
    let h = pair_equality words (get_or words c.args.self.now.at 0 == 1) (get_or words place 0) place c.args.k (c.pair_place-place.result + 1 + c.args.k * 2) (omega arith) (sym c.kind.ensures ∙ c.in-Equality.is) (omega arith) in
    cc
