use Rattle.std.proofs.Common.{◌≡◌, ℕ, ◌++◌, take, Some, string_bytes}
use Rattle.std.specs.List.{flat_map, slice_get}
use Rattle.listing.proofs.listing.push_each.Given as goal

abbrev pub invariant-loop-k : goal.invariant-loop-k
invariant-loop-k g l =
    goal.Q-IsAlwaysCallable g l.ask
    × ((text : _) (xs : _) → ((x : _) → g.T.Display.output x ≡ Some (text x)) → ((k : ℕ) (o : _) → goal.Q-post g l.ask k o → o ≡ slice_get xs k) →
    string_bytes l.out ≡ string_bytes l.initial.out ++ flat_map text (take l.k xs))
