-- Writing the things of a list one by one.
use Rattle.std.proofs.Common.{◌≡◌, ℕ, zero, suc, ◌+◌, ◌<◌, ◌≤◌, List, [], ◌∷◌, ◌++◌, map, length, take, drop, Some, None, Option, Ok, Err, Result, codes, decimal, sym, refl, ap, subst, ◌∙◌, append_assoc, append-nil, add-one, arith}
use mathlib.Core.List.Memᴰ
use Rattle.std.specs.List.{flat_map, slice_get}
use Rattle.std.proofs.lemmas.List.{drop_more, length-map}
use Rattle.std.proofs.lemmas.Option.{slice_get-get_or}
use Rattle.std.specs.Option.{option_map}
use Rattle.std.specs.Fmt.{AppendsText}
use Rattle.std.specs.Result.{OnOk}
use Rattle.rules.specs.declared.term.Term.{Term}
use Rattle.rules.specs.Rules.{◌∈◌, Rule}
use Rattle.rules.specs.Books.{BookMeaning, WellFormed, WellFormedBook, within, kind_at, rows_at, term_at, left_at, pair_at}
use Rattle.listing.specs.Listing.{kind_text, lists_text, no_rule, row_at, row_text, rule_here, rule_text, rules_text}
use Rattle.rules.specs.Printed.{kind_name}
use Rattle.rules.specs.declared.term.Kind.{Kind}

-- what is written where there may be nothing
abbrev pub written : {X : Type 0} → (X → List ℕ) → Option X → List ℕ
written text None = []
written text (Some x) = text x

-- one more, or nothing past the end
more : {X : Type 0} (text : X → List ℕ) (xs : List X) (k : ℕ) → flat_map text (take (suc k) xs) ≡ flat_map text (take k xs) ++ written text (slice_get xs k)
more text [] zero = refl
more text [] (suc k) = refl
more text (x ∷ xs) zero = append-nil (text x)
more text (x ∷ xs) (suc k) = ap (λ ys. text x ++ ys) (more text xs k) ∙ sym (append_assoc (text x) (flat_map text (take k xs)) (written text (slice_get xs k)))

pub step : {X : Type 0} (text : X → List ℕ) (xs : List X) (k : ℕ) (o : Option X) (before now-is after : List ℕ) → o ≡ slice_get xs k →
    now-is ≡ before ++ flat_map text (take k xs) → after ≡ now-is ++ written text o → after ≡ before ++ flat_map text (take (k + 1) xs)
step text xs k o before now-is after here e f =
    let m = more text xs k in
    let a = append_assoc before (flat_map text (take k xs)) (written text (slice_get xs k)) in
    let n : take (k + 1) xs ≡ take (suc k) xs = ap (λ n. take n xs) (add-one k) in
    cc

-- what a write has put down, of something or of nothing
pub appended : {X : Type 0} (text : X → List ℕ) (o : Option X) (x : X) (shown : Option (List ℕ)) (before after : List ℕ) → o ≡ Some x → shown ≡ Some (text x) →
    AppendsText before after shown → after ≡ before ++ written text o
appended text o x shown before after e s h =
    let put : after ≡ before ++ text x = subst (λ (t : Option (List ℕ)). AppendsText before after t) s h in
    put ∙ ap (λ t. before ++ written text t) (sym e)

pub unwritten : {X : Type 0} (text : X → List ℕ) (o : Option X) (before : List ℕ) → o ≡ None → before ≡ before ++ written text o
unwritten text o before e = sym (append-nil before) ∙ ap (λ t. before ++ written text t) (sym e)

take_whole : {X : Type 0} (xs : List X) (k : ℕ) → length xs ≤ k → take k xs ≡ xs
take_whole [] zero h = refl
take_whole [] (suc k) h = refl
take_whole (x ∷ xs) zero h = absurd (omega arith)
take_whole (x ∷ xs) (suc k) h = ap (λ ys. x ∷ ys) (take_whole xs k (omega arith))

-- all of them, once the count has passed the end
pub whole : {X : Type 0} (text : X → List ℕ) (xs : List X) (k most : ℕ) (before now-is : List ℕ) → most ≤ k → length xs ≤ most →
    now-is ≡ before ++ flat_map text (take k xs) → now-is ≡ before ++ flat_map text xs
whole text xs k most before now-is far few e = let t = take_whole xs k (omega arith) in cc

pub on_ok : {T E P Q : Type 0} (r : Result T E) → OnOk r P → (P → Q) → OnOk r Q
on_ok (Ok x) h f = f h
on_ok (Err e) h f = h

nth_map : {X Y : Type 0} (f : X → Y) (xs : List X) (i : ℕ) → slice_get (map f xs) i ≡ option_map f (slice_get xs i)
nth_map f [] i = refl
nth_map f (x ∷ xs) zero = refl
nth_map f (x ∷ xs) (suc i) = nth_map f xs i

texts_map : {X Y : Type 0} (f : X → Y) (text : Y → List ℕ) (xs : List X) → flat_map text (map f xs) ≡ flat_map (λ x. text (f x)) xs
texts_map f text [] = refl
texts_map f text (x ∷ xs) = ap (λ ys. text (f x) ++ ys) (texts_map f text xs)

-- what is written of a list whose things a question answers, each shown as f shows it
module _ {X Y : Type 0} (f : X → Y) (text : Y → List ℕ) (xs : List X) (most : ℕ) (answer : ℕ → Option X) {P : ℕ → Option Y → Type 0} (before after : List ℕ) where
  pub shown_all : ((k : ℕ) → answer k ≡ slice_get xs k) → length xs ≤ most
      → (((k : ℕ) (o : Option Y) → P k o → o ≡ slice_get (map f xs) k) → length (map f xs) ≤ most → after ≡ before ++ flat_map text (map f xs))
      → ((k : ℕ) (o : Option Y) → P k o → o ≡ option_map f (answer k)) → after ≡ before ++ flat_map (λ x. text (f x)) xs
  shown_all told few put asks =
      put (λ k o h. asks k o h ∙ (ap (option_map f) (told k) ∙ sym (nth_map f xs k))) (omega (arith, length-map xs f)) ∙ ap (λ ys. before ++ ys) (texts_map f text xs)

-- what a book answers about a rule that it has
module _ (rules : List Rule) (i : ℕ) (there : i < length rules) where
  here : slice_get rules i ≡ Some (rule_here rules i)
  here = slice_get-get_or rules i no_rule there

  pub in_left : (k : ℕ) → left_at rules i k ≡ slice_get (rule_here rules i).left k
  in_left k = ap (λ (o : Option Rule). within o (λ r. slice_get r.left k)) here

  pub in_pairs : (k : ℕ) → pair_at rules i k ≡ slice_get (rule_here rules i).pairs k
  in_pairs k = ap (λ (o : Option Rule). within o (λ r. slice_get r.pairs k)) here

  pub in_row : (row : ℕ) (terms : List Term) → row_at (rule_here rules i) row ≡ Some terms → (column : ℕ) → term_at rules i row column ≡ slice_get terms column
  in_row row terms e column =
      ap (λ (o : Option Rule). within o (λ r. within (slice_get r.pattern row) (λ t. slice_get t column))) here ∙ ap (λ o. within o (λ t. slice_get t column)) e

  pub kind_here : kind_at rules i ≡ Some (rule_here rules i).kind
  kind_here = ap (option_map (λ (r : Rule). r.kind)) here

  pub rows_here : rows_at rules i ≡ Some (length (rule_here rules i).pattern)
  rows_here = ap (option_map (λ (r : Rule). length r.pattern)) here

nth_in : {X : Type 0} (xs : List X) (i : ℕ) (x : X) → slice_get xs i ≡ Some x → x ∈ xs
nth_in [] i x e = absurd (let z : ◌≡◌ {A = ℕ} 0 1 = cc in omega arith)
nth_in (y ∷ xs) zero x e = Memᴰ.head (cc)
nth_in (y ∷ xs) (suc i) x e = Memᴰ.tail (nth_in xs i x e)

-- a rule that a well-formed book has
module _ (b : BookMeaning) (well : WellFormedBook b) (i : ℕ) (there : i < length b.rules) where
  pub fit_here : WellFormed b.width (rule_here b.rules i)
  fit_here = well.rules_fit (rule_here b.rules i) (nth_in b.rules i (rule_here b.rules i) (here b.rules i there))

  -- a row is at most eight terms long
  pub short_row : (row : ℕ) (terms : List Term) → row_at (rule_here b.rules i) row ≡ Some terms → length terms ≤ 8
  short_row row terms e = omega (arith, fit_here.of_width terms (nth_in (rule_here b.rules i).pattern row terms e), well.small_width)

drop_all : {X : Type 0} (xs : List X) (k : ℕ) → length xs ≤ k → drop k xs ≡ []
drop_all [] zero h = refl
drop_all [] (suc k) h = refl
drop_all (x ∷ xs) zero h = absurd (omega arith)
drop_all (x ∷ xs) (suc k) h = drop_all xs k (omega arith)

-- one rule more of a book, and all of them
pub rule_step : (rules : List Rule) (i : ℕ) (now-is after all : List ℕ) → i < length rules → after ≡ now-is ++ rule_text i (rule_here rules i) →
    now-is ++ rules_text i (drop i rules) ≡ all → after ++ rules_text (i + 1) (drop (i + 1) rules) ≡ all
rule_step rules i now-is after all h e f =
    let d : drop i rules ≡ rule_here rules i ∷ drop (i + 1) rules = drop_more rules i no_rule h in
    let g : rules_text i (drop i rules) ≡ rule_text i (rule_here rules i) ++ rules_text (i + 1) (drop (i + 1) rules) = ap (rules_text i) d in
    let a = append_assoc now-is (rule_text i (rule_here rules i)) (rules_text (i + 1) (drop (i + 1) rules)) in
    cc

pub rules_done : (rules : List Rule) (i : ℕ) (now-is all : List ℕ) → length rules ≤ i → now-is ++ rules_text i (drop i rules) ≡ all → now-is ≡ all
rules_done rules i now-is all h f =
    let d : drop i rules ≡ [] = drop_all rules i h in
    let g : rules_text i (drop i rules) ≡ [] = ap (rules_text i) d in
    let a = append-nil now-is in
    cc

-- bytes put down one after another
pub three_parts : (start a b c x y z : List ℕ) → a ≡ start ++ x → b ≡ a ++ y → c ≡ b ++ z → c ≡ start ++ (x ++ (y ++ z))
three_parts start a b c x y z e f g = let m = append_assoc start x y in let n = append_assoc start (x ++ y) z in let o = append_assoc x y z in cc

pub same_some : {X : Type 0} (x y : X) → ◌≡◌ {A = Option X} (Some x) (Some y) → x ≡ y
same_some x y e = cc

pub rule_parts : (i : ℕ) (it : Rule) (kind : Kind) (start a b c : List ℕ) → kind ≡ it.kind
    → a ≡ start ++ (codes "rule " ++ (decimal i ++ (codes ": " ++ (kind_name kind ++ codes "\n")))) → b ≡ a ++ flat_map row_text it.pattern → c ≡ b ++ lists_text kind it
    → c ≡ start ++ rule_text i it
unfolding rule_text
rule_parts i it kind start a b c k e f h =
    let rows = flat_map row_text it.pattern in
    let all : c ≡ start ++ ((codes "rule " ++ (decimal i ++ (codes ": " ++ kind_text kind))) ++ (rows ++ lists_text kind it)) = three_parts start a b c _ rows (lists_text kind it) e f h in
    let m = append_assoc (decimal i) (codes ": ") (kind_text kind) in
    let n = append_assoc (codes "rule " ++ (decimal i ++ codes ": ")) (kind_text kind) (rows ++ lists_text kind it) in
    let parts : (codes "rule " ++ (decimal i ++ (codes ": " ++ kind_text kind))) ++ (rows ++ lists_text kind it)
    ≡ (codes "rule " ++ (decimal i ++ codes ": ")) ++ (kind_text kind ++ (rows ++ lists_text kind it)) = ap (λ t. (codes "rule " ++ t) ++ (rows ++ lists_text kind it)) (sym m) ∙ n in
    all ∙ (ap (λ t. start ++ t) parts ∙ ap (λ q. start ++ ((codes "rule " ++ (decimal i ++ codes ": ")) ++ (kind_text q ++ (rows ++ lists_text q it)))) k)
