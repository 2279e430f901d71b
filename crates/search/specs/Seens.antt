-- The table of placings, grouped by their left numbers.
use Rattle.std.specs.Prelude.{◌≡◌, ℕ, zero, suc, ◌+◌, ◌-◌, ◌*◌, ◌/◌, ◌%◌, ◌^◌, ◌<◌, ◌≤◌, List, [], slice_index, slice_index_or}
use Rattle.rules.specs.declared.loaded.LoadedRule.{LoadedRule}
use Rattle.search.specs.declared.plan.Plan.{Plan}
use Rattle.search.specs.declared.choices.Choices.{Choices}
use Rattle.search.specs.declared.seen.Placing.{Placing}
use Rattle.search.specs.declared.seen.Seen.{Seen}
use Rattle.search.specs.declared.seen.Parting.{Parting}
use Rattle.search.specs.Placings.{left_term, filled, Landed, SameLeft, SameRight, From, With, PartedAt, chosen, choices}
use Rattle.rules.specs.Rules.{at}

abbrev pub no_placing : Placing
no_placing = record { rows = [] }

abbrev pub entry : Seen → ℕ → List ℕ
entry seen e = (slice_index_or seen.placings e no_placing).rows

-- one number more in a hash; any function would do
unfoldable pub mix : ℕ → ℕ → ℕ
mix h x = (((h + x) % 2 ^ 64) * 11400714819323198485) % 2 ^ 64

-- the hash of the first n left numbers
abbrev pub hashed : List (List ℕ) → LoadedRule → Plan → List ℕ → ℕ → ℕ
hashed rel rule plan p zero = 0
hashed rel rule plan p (suc n) = mix (hashed rel rule plan p n) (at (filled rel plan p) (left_term rule n))

unfoldable pub bucket : List (List ℕ) → LoadedRule → Plan → List ℕ → ℕ
bucket rel rule plan p = hashed rel rule plan p rule.left_count / 2 ^ 54

-- c is 0, or 1 more than the last of the first n placings that is in bucket b
pub record Link (rel : List (List ℕ)) (rule : LoadedRule) (plan : Plan) (seen : Seen) (b n c : ℕ) : Type 0 where
  pub low : c ≤ n
  pub in_bucket : 0 < c → bucket rel rule plan (entry seen (c - 1)) ≡ b
  pub last : (e : ℕ) → e < n → bucket rel rule plan (entry seen e) ≡ b → e < c

pub record Linked (rel : List (List ℕ)) (rule : LoadedRule) (plan : Plan) (seen : Seen) : Type 0 where
  pub heads : (b : ℕ) → b < 1024 → Link rel rule plan seen b seen.used (slice_index seen.heads b)
  pub nexts : (k : ℕ) → k < seen.used → Link rel rule plan seen (bucket rel rule plan (entry seen k)) k (slice_index seen.next k)

-- the walk along bucket b is at c: no placing of the bucket from c on agrees with p on the left
pub record Walk (rel : List (List ℕ)) (rule : LoadedRule) (plan : Plan) (seen : Seen) (p : List ℕ) (b c : ℕ) : Type 0 where
  pub low : c ≤ seen.used
  pub in_bucket : 0 < c → bucket rel rule plan (entry seen (c - 1)) ≡ b
  pub past : (e : ℕ) → e < seen.used → c ≤ e → bucket rel rule plan (entry seen e) ≡ b → SameLeft rule (filled rel plan (entry seen e)) (filled rel plan p) → ⊥

-- a table of placings, of which no two break the rule
pub record Fine (rel : List (List ℕ)) (rule : LoadedRule) (plan : Plan) (seen : Seen) : Type 0 where
  pub room : seen.used ≤ 4096
  pub linked : Linked rel rule plan seen
  pub lands : (e : ℕ) → e < seen.used → Landed rel rule plan (entry seen e) rule.row_count
  pub apart : (a b : ℕ) → a < seen.used → b < seen.used → SameLeft rule (filled rel plan (entry seen a)) (filled rel plan (entry seen b)) → SameRight rule (filled rel plan (entry seen a)) (filled rel plan (entry seen b))

pub record Grows (s t : Seen) : Type 0 where
  pub more : s.used ≤ t.used
  pub kept : (e : ℕ) → e < s.used → entry t e ≡ entry s e

-- a placing of the table has the left and the right numbers of f
abbrev pub Covered : List (List ℕ) → LoadedRule → Plan → Seen → (ℕ → ℕ) → Type 0
Covered rel rule plan seen f = (e : ℕ) × (e < seen.used) × SameLeft rule f (filled rel plan (entry seen e)) × SameRight rule f (filled rel plan (entry seen e))

abbrev pub Covers : List (List ℕ) → LoadedRule → Plan → Seen → ℕ → List ℕ → Type 0
Covers rel rule plan seen depth p = From rel rule depth p (Covered rel rule plan seen)

abbrev pub Tried : List (List ℕ) → LoadedRule → Plan → Seen → ℕ → List ℕ → ℕ → Type 0
Tried rel rule plan seen depth p k = With rel rule depth p k (Covered rel rule plan seen)

-- the table after a search that found no break: it grew by at most `most`
pub record Went (rel : List (List ℕ)) (rule : LoadedRule) (plan : Plan) (before after : Seen) (most : ℕ) : Type 0 where
  pub fine : Fine rel rule plan after
  pub grows : Grows before after
  pub little : after.used ≤ before.used + most

-- no placing of the table agrees with p on the left
abbrev pub New : List (List ℕ) → LoadedRule → Plan → Seen → List ℕ → Type 0
New rel rule plan seen p = (e : ℕ) → e < seen.used → SameLeft rule (filled rel plan (entry seen e)) (filled rel plan p) → ⊥

abbrev pub Old : List (List ℕ) → LoadedRule → Plan → Seen → List ℕ → ℕ → Type 0
Old rel rule plan seen p e = (e < seen.used) × SameLeft rule (filled rel plan (entry seen e)) (filled rel plan p)

-- the search from `depth`, once the first n of the choices were tried there
abbrev pub Turn : List (List ℕ) → LoadedRule → Plan → Choices → Seen → Seen → ℕ → List ℕ → ℕ → Type 0
Turn rel rule plan d before after depth p n = Went rel rule plan before after (n * choices d rule (depth + 1)) × ((m : ℕ) → m < n → Tried rel rule plan after depth p (chosen d m))

-- two placings that break the rule
abbrev pub PartingAt : List (List ℕ) → LoadedRule → Parting → Type 0
PartingAt rel rule s = PartedAt rel rule s.first.rows s.second.rows s.difference.pair s.difference.one s.difference.other
