use Rattle.std.proofs.Common.{◌≡◌, ◌*◌, ◌%◌, ◌^◌, Ok, arith, rules}
use Rattle.std.proofs.lemmas.Nat.{one_shl}
use Rattle.std.specs.Option.{MatchOption}
use Rattle.keys.specs.Faults.{fault_at}
use Rattle.keys.proofs.Firsts.{says}
use Rattle.keys.proofs.Steps.{check_told}
use Rattle.keys.proofs.checking.check.Goals as goal

pub returns : goal.returns
returns c =
    let width = c.args.width in
    let bytes = c.args.bytes.now in
    let fits = c.in_ok-shape.ensures.fits in
    let limit = (1 * 2 ^ width) % 2 ^ 16 in
    let told : MatchOption c.first_high.result (c.map_or.result ≡ Ok tt) (λ place. c.map_or.result ≡ fault_at place) = search rules in
    let value = check_told width bytes limit c.first_high.result c.map_or.result (one_shl width 16 (omega arith)) c.in_ok-shape.ensures.value c.first_high.ensures told in
    record { value = value; says = says width bytes c.map_or.result value }
