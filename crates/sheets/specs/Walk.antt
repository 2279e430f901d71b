-- The walk over the words of a sheet: each word in its turn, and the place of the first that may not stand there.
use Rattle.std.specs.Prelude.{ℕ, zero, suc, ◌+◌, ◌*◌, Bool, cond, ◌&&◌, ◌||◌, List, length, Ok, Err, Result, ◌==◌, nat_le, nat_lt, slice_index, slice_range}
use Rattle.std.specs.List.{list_any}
use Rattle.rules.specs.Books.{base}
use Rattle.rules.specs.declared.fault.BookFault.{BookFault}

-- the words of terms are below this: first those of the constants, then those of the 32 variables
abbrev pub limit : ℕ
limit = base + 32

-- a result of the walk, or its fault
abbrev pub Out : Type 0 → Type 0
Out X = Result X BookFault

-- then, unless there is a fault
abbrev pub then : {X Y : Type 0} → Out X → (X → Out Y) → Out Y
then (Ok x) f = f x
then (Err e) f = Err e

-- the word at a place, which lies in the range; else that place is the fault's, also where the words end there
abbrev pub word_in : ℕ → ℕ → List ℕ → ℕ → Out ℕ
word_in low high words at = cond (nat_lt at (length words) && (nat_le low (slice_index words at) && nat_le (slice_index words at) high)) (Ok (slice_index words at)) (Err (record { place = at }))

-- the word is among these
abbrev pub has : List ℕ → ℕ → Bool
has xs w = list_any (λ x. x == w) xs

-- What a word of a rule may be, where the rows have these words: an entry of a row; a variable of the rows, in the left
-- list and in the pairs of a functional rule; a constant or a variable of the rows, in the pairs of an equality rule.
abbrev pub is_entry : ℕ → Bool
is_entry w = nat_lt w limit

abbrev pub is_listed : List ℕ → ℕ → Bool
is_listed rows w = nat_le base w && has rows w

abbrev pub is_side : List ℕ → ℕ → Bool
is_side rows w = nat_lt w base || has rows w

-- n words from a place on that pass a test: the place after them
abbrev pub each : (ℕ → Bool) → List ℕ → ℕ → ℕ → Out ℕ
each test words zero at = Ok at
each test words (suc n) at = cond (nat_lt at (length words) && test (slice_index words at)) (each test words n (at + 1)) (Err (record { place = at }))

-- the words of a list from one place to another
abbrev pub part : List ℕ → ℕ → ℕ → List ℕ
part words from to = slice_range words from to

-- by the word of a rule's kind: how many left variables it may have, how many words a pair has, and what they are
abbrev pub most_left : ℕ → ℕ
most_left kind = cond (kind == 1) 32 0

abbrev pub pair_size : ℕ → ℕ
pair_size kind = cond (kind == 1) 1 2

abbrev pub pair_want : ℕ → List ℕ → ℕ → Bool
pair_want kind rows = cond (kind == 1) (is_listed rows) (is_side rows)

-- the lists of a rule that follow its rows: the place after them
abbrev pub lists_end : List ℕ → List ℕ → ℕ → ℕ → Out ℕ
lists_end words rows kind at =
    then (word_in 0 (most_left kind) words at) (λ lefts.
    then (each (is_listed rows) words lefts (at + 1)) (λ next.
    then (word_in 0 32 words next) (λ pairs.
    each (pair_want kind rows) words (pairs * pair_size kind) (next + 1))))

-- a rule: the place after it
abbrev pub rule_end : List ℕ → ℕ → ℕ → Out ℕ
rule_end words width at =
    then (word_in 1 2 words at) (λ kind.
    then (word_in 1 4 words (at + 1)) (λ rows.
    then (each is_entry words (rows * width) (at + 2)) (λ next.
    lists_end words (part words (at + 2) next) kind next)))

-- n rules: the place after them
abbrev pub rules_end : List ℕ → ℕ → ℕ → ℕ → Out ℕ
rules_end words width zero at = Ok at
rules_end words width (suc n) at = then (rule_end words width at) (λ next. rules_end words width n next)

-- a sheet: the place after its last rule
abbrev pub sheet_end : List ℕ → Out ℕ
sheet_end words =
    then (word_in 1 8 words 0) (λ width.
    then (word_in 0 256 words 1) (λ count.
    rules_end words width count 2))
